use Rattle.std.proofs.Common.{◌∙◌, ◌<◌, sym, ap, length, get_or, arith}
use Rattle.linker_uses.specs.LateFaults.{template_use_fault}
use Rattle.linker_uses.proofs.FirstFaults.{ended_early, found_early, nothing, passed}
use Rattle.linker_uses.proofs.late_faults.first_late_fault.Goals as goal

pub loop-place-init : goal.loop-place-init
loop-place-init c = nothing (template_use_fault c.args.outline.now c.args.outline.now.plan c.args.files.now)

pub loop-place-preserved : goal.loop-place-preserved
loop-place-preserved c =
    let list = c.as_slice-templates.ensures ∙ ap (λ s. s.plan.templates) c.system.ensures in
    let less : c.loop-place.place < length c.args.outline.now.plan.templates = omega (arith, ap length list, c.loop-place-test.true) in
    passed (template_use_fault c.args.outline.now c.args.outline.now.plan c.args.files.now) c.args.outline.now.plan.templates c.loop-place.place c.index-templates-place.result c.in_ok-fault.fault
    less (c.index-templates-place.is ∙ ap (λ xs. get_or xs c.loop-place.place c.index-templates-place.result) list)
    c.in_ok-fault.ensures c.loop-place.invariant (sym c.is_some.ensures ∙ c.if-is_some.false)

pub returns-then-is_some : goal.returns-then-is_some
returns-then-is_some c =
    let list = c.as_slice-templates.ensures ∙ ap (λ s. s.plan.templates) c.system.ensures in
    let less : c.loop-place.place < length c.args.outline.now.plan.templates = omega (arith, ap length list, c.loop-place-test.true) in
    found_early (template_use_fault c.args.outline.now c.args.outline.now.plan c.args.files.now) c.args.outline.now.plan.templates c.args.count c.loop-place.place c.index-templates-place.result c.in_ok-fault.fault
    less (omega (arith, c.loop-place-test.true)) (c.index-templates-place.is ∙ ap (λ xs. get_or xs c.loop-place.place c.index-templates-place.result) list)
    c.in_ok-fault.ensures c.loop-place.invariant (sym c.is_some.ensures ∙ c.if-is_some.true)

pub returns : goal.returns
returns c =
    let list = c.as_slice-templates.ensures ∙ ap (λ s. s.plan.templates) c.system.ensures in
    ended_early (template_use_fault c.args.outline.now c.args.outline.now.plan c.args.files.now) c.args.outline.now.plan.templates c.args.count c.loop-place.place (omega (arith, ap length list, c.loop-place-test.false)) (omega (arith, ap length list)) c.loop-place.invariant
