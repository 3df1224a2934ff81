use Rattle.std.proofs.Common.{◌∙◌, ◌<◌, sym, ap, length, get_or, arith}
use Rattle.link_model.specs.LinkFaults.{listing_at, uses_fault}
use Rattle.linker_uses.specs.LateFaults.{fault_at}
use Rattle.linker_uses.proofs.FirstFaults.{ended, found_at, found_listed, nothing, passed_at}
use Rattle.linker_uses.proofs.late_faults.template_use_fault.Goals as goal

pub loop-place-init : goal.loop-place-init
loop-place-init c = nothing (fault_at c.args.outline.now c.args.classes.now.plan c.args.files.now c.args.classes.now.template)

pub loop-place-preserved : goal.loop-place-preserved
loop-place-preserved c =
    let list = c.as_slice-place-items.ensures ∙ ap (λ t. t.classes) c.template.ensures in
    let less : c.loop-place.place-index < length c.args.classes.now.template.classes = omega (arith, ap length list, c.loop-place-test.true) in
    passed_at (fault_at c.args.outline.now c.args.classes.now.plan c.args.files.now c.args.classes.now.template) c.args.classes.now.template.classes c.loop-place.place-index 0 c.in_ok-fault.fault
    less (c.in_ok-fault.ensures ∙ ap (λ xs. fault_at c.args.outline.now c.args.classes.now.plan c.args.files.now c.args.classes.now.template (get_or xs c.loop-place.place-index 0)) list)
    c.loop-place.invariant (sym c.is_some.ensures ∙ c.if-is_some.false)

pub returns-then-is_some : goal.returns-then-is_some
returns-then-is_some c =
    let list = c.as_slice-place-items.ensures ∙ ap (λ t. t.classes) c.template.ensures in
    let less : c.loop-place.place-index < length c.args.classes.now.template.classes = omega (arith, ap length list, c.loop-place-test.true) in
    found_at (fault_at c.args.outline.now c.args.classes.now.plan c.args.files.now c.args.classes.now.template) c.args.classes.now.template.classes c.loop-place.place-index 0 c.in_ok-fault.fault
    less (c.in_ok-fault.ensures ∙ ap (λ xs. fault_at c.args.outline.now c.args.classes.now.plan c.args.files.now c.args.classes.now.template (get_or xs c.loop-place.place-index 0)) list)
    c.loop-place.invariant (sym c.is_some.ensures ∙ c.if-is_some.true)
    ∙ found_listed (λ x. uses_fault c.args.outline.now c.args.classes.now.plan c.args.classes.now.template x.name x.file) (listing_at c.args.classes.now.plan c.args.files.now) c.args.classes.now.template.classes

pub returns : goal.returns
returns c =
    let list = c.as_slice-place-items.ensures ∙ ap (λ t. t.classes) c.template.ensures in
    ended (fault_at c.args.outline.now c.args.classes.now.plan c.args.files.now c.args.classes.now.template) c.args.classes.now.template.classes c.loop-place.place-index (omega (arith, ap length list, c.loop-place-test.false)) c.loop-place.invariant
    ∙ found_listed (λ x. uses_fault c.args.outline.now c.args.classes.now.plan c.args.classes.now.template x.name x.file) (listing_at c.args.classes.now.plan c.args.files.now) c.args.classes.now.template.classes
