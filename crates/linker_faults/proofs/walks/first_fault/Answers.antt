use Rattle.std.proofs.Common.{◌≡◌, ◌∙◌, get_or, length, sym, ap, arith}
use Rattle.std.specs.Option.{option_and_then}
use Rattle.link_model.specs.LinkFaults.{listing_at}
use Rattle.linker_faults.specs.ClassFaults.{first_fault_of}
use Rattle.linker_faults.proofs.Walking.{found_behind, found_none, found_there}
use Rattle.linker_faults.proofs.walks.first_fault.Goals as goal

pub returns-then-is_some-clause-fault : goal.returns-then-is_some-clause-fault
returns-then-is_some-clause-fault c =
    let h = c.args.hierarchy.now in
    let f = first_fault_of h in
    let g = listing_at h.plan h.files in
    let i = c.loop-place.place-index in
    let items : c.as_slice-place-items.result.now ≡ h.template.classes = c.as_slice-place-items.ensures ∙ ap (λ t. t.classes) (c.template.ensures ∙ c.classes.ensures.template) in
    found_there f c.in_ok-fault.fault g h.template.classes i 0 (omega (arith, ap length items)) (c.in_ok-fault.ensures.fault ∙ ap (λ ps. option_and_then f (g (get_or ps i 0))) items)
    (sym c.is_some.ensures ∙ c.if-is_some.true)
    ∙ c.loop-place.invariant.1

pub loop-place-preserved : goal.loop-place-preserved
loop-place-preserved c =
    let h = c.args.hierarchy.now in
    let f = first_fault_of h in
    let g = listing_at h.plan h.files in
    let i = c.loop-place.place-index in
    let items : c.as_slice-place-items.result.now ≡ h.template.classes = c.as_slice-place-items.ensures ∙ ap (λ t. t.classes) (c.template.ensures ∙ c.classes.ensures.template) in (
      c.fault_at.ensures.files ∙ c.loop-place.invariant.0,
      found_behind f c.in_ok-fault.fault g h.template.classes i 0 (omega (arith, ap length items)) (c.in_ok-fault.ensures.fault ∙ ap (λ ps. option_and_then f (g (get_or ps i 0))) items)
          (sym c.is_some.ensures ∙ c.if-is_some.false)
          ∙ c.loop-place.invariant.1,
    )

pub returns-clause-fault : goal.returns-clause-fault
returns-clause-fault c =
    let h = c.args.hierarchy.now in
    let items : c.as_slice-place-items.result.now ≡ h.template.classes = c.as_slice-place-items.ensures ∙ ap (λ t. t.classes) (c.template.ensures ∙ c.classes.ensures.template) in
    found_none (first_fault_of h) (listing_at h.plan h.files) h.template.classes c.loop-place.place-index (omega (arith, ap length items))
    ∙ c.loop-place.invariant.1
