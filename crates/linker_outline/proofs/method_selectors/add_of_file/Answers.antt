use Rattle.std.proofs.Common.{◌∙◌, sym, ap, length, get_or, arith}
use Rattle.jx_base.specs.Basics.{added}
use Rattle.link_model.specs.ClassFiles.{member_selector}
use Rattle.program_model.specs.Lookup.{same_selector}
use Rattle.linker_outline.proofs.SelectorLists.{added_next}
use Rattle.linker_outline.proofs.method_selectors.add_of_file.Goals as goal

pub loop-member-preserved : goal.loop-member-preserved
loop-member-preserved c =
    let items = c.as_slice-member-items.ensures ∙ ap (λ f. f.methods) c.file.ensures in
    c.in_ok-add.ensures
    ∙ ap (λ xs. added same_selector xs c.in_ok-selector_of.field-0) c.loop-member.invariant
    ∙ ap (added same_selector _) c.in_ok-selector_of.ensures
    ∙ sym (added_next same_selector member_selector c.args.selectors.now c.args.file.now.methods c.loop-member.member-index c.member-item.result
    (omega (arith, ap length items)) (c.member-item.is ∙ ap (λ xs. get_or xs c.loop-member.member-index c.member-item.result) items))
