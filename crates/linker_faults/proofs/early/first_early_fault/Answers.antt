use Rattle.std.proofs.Common.{◌≡◌, ◌∙◌, ◌<◌, get_or, length, sym, ap, arith}
use Rattle.linker_faults.specs.Walks.{early_fault}
use Rattle.linker_lists.specs.Listings.{OfPlan}
use Rattle.linker_faults.proofs.Walking.{given_at, none_further, none_yet}
use Rattle.linker_faults.proofs.early.first_early_fault.Goals as goal

pub loop-place-init : goal.loop-place-init
loop-place-init c = (c.new-repeats.ensures, none_yet (early_fault c.args.plan.now c.args.files.now) c.args.plan.now.templates)

pub returns-in-Some : goal.returns-in-Some
returns-in-Some c =
    let plan = c.args.plan.now in
    let files = c.args.files.now in
    let item = c.template-item.result in
    let within : c.loop-place.place < length plan.templates = omega (arith, ap length c.as_slice-template-items.ensures) in
    let at : item ≡ get_or plan.templates c.loop-place.place item = c.template-item.is ∙ ap (λ ts. get_or ts c.loop-place.place item) c.as_slice-template-items.ensures in
    let found : c.in_ok-fault.field-0 ≡ early_fault plan files item =
    c.in_ok-fault.ensures.fault ∙ ap (λ (x : OfPlan). early_fault x.plan files x.template) c.in_ok-classes.ensures in
    record {
      within = within;
      fault = given_at (early_fault plan files) plan.templates c.loop-place.place item c.in_ok-fault.field-0 within at found ∙ c.in-Some.is;
      none_before = c.loop-place.invariant.1;
    }

pub loop-place-preserved : goal.loop-place-preserved
loop-place-preserved c =
    let plan = c.args.plan.now in
    let files = c.args.files.now in
    let item = c.template-item.result in
    let within : c.loop-place.place < length plan.templates = omega (arith, ap length c.as_slice-template-items.ensures) in
    let at : item ≡ get_or plan.templates c.loop-place.place item = c.template-item.is ∙ ap (λ ts. get_or ts c.loop-place.place item) c.as_slice-template-items.ensures in
    let found : c.in_ok-fault.field-0 ≡ early_fault plan files item =
    c.in_ok-fault.ensures.fault ∙ ap (λ (x : OfPlan). early_fault x.plan files x.template) c.in_ok-classes.ensures in (
      c.in_ok-fault.ensures.files,
      none_further (early_fault plan files) plan.templates c.loop-place.place item within at c.loop-place.invariant.1 (sym found ∙ c.in_default.is),
    )
