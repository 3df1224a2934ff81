use Rattle.std.proofs.Common.{◌∙◌, sym, ap, length, get_or, arith}
use Rattle.jx_base.specs.Basics.{added}
use Rattle.program_model.specs.Lookup.{same_selector}
use Rattle.linker_outline.proofs.SelectorLists.{added_next}
use Rattle.linker_outline.proofs.method_selectors.add_of_class.Goals as goal

pub loop-method-preserved : goal.loop-method-preserved
loop-method-preserved c =
    let items = c.as_slice-method-items.ensures in
    c.in_ok-add.ensures
    ∙ ap (λ xs. added same_selector xs c.in_ok-copy.field-0) c.loop-method.invariant
    ∙ ap (added same_selector _) c.in_ok-copy.ensures
    ∙ sym (added_next same_selector (λ m. m.selector) c.args.selectors.now c.args.class.now.methods c.loop-method.method-index c.method-item.result
    (omega (arith, ap length items)) (c.method-item.is ∙ ap (λ xs. get_or xs c.loop-method.method-index c.method-item.result) items))
