use Rattle.std.proofs.Common.{arith, refl, sym, ap, subst, ◌∙◌, ◌≡◌, ◌-◌, Bool, ◌||◌, Some, None, map, slice_get, get_or}
use Rattle.std.proofs.lemmas.Grind.{common_steps}
use Rattle.std.proofs.lemmas.Option.{gets}
use Rattle.std.proofs.lemmas.List.{take_all}
use Rattle.jx_base.specs.declared.ids.ClassId.{ClassId}
use Rattle.jx_base.specs.Basics.{contains_number}
use Rattle.program_model.specs.Lookup.{parent_list, supers_within}
use Rattle.program_types.specs.Vain.{AreVain}
use Rattle.program_types.proofs.ClassSteps.{one_reaches, reaches_nowhere, reaches_itself, reaches_interface, reaches_parent, parent_reaches, no_parent_reaches, reaches_more, reaches_all}
use Rattle.program_types.proofs.VainWalks.{in_vain, noted_too}
use Rattle.program_types.proofs.classes.+reaches.Goals.{in-Some-parent, in-None}
use Rattle.program_types.proofs.classes.+reaches.Goals as goal

abbrev object : ClassId
object = record { 0 = 0 }

pub returns-then-steps-noted-clause-reached : goal.returns-then-steps-noted-clause-reached
returns-then-steps-noted-clause-reached t c =
    sym (in_vain c.args.system.now c.args.above c.args.vain.now c.args.steps c.args.class c.requires (omega (arith, c.if-steps-noted.true, c.noted.ensures)))

pub returns-in_default-clause-reached : goal.returns-in_default-clause-reached
returns-in_default-clause-reached t c =
    let h = c.in_default.ensures.lookup in
    let e : slice_get c.args.system.now.program.classes c.args.class ≡ None = grind (arith, common_steps, gets) in
    sym (reaches_nowhere c.args.system.now c.args.steps c.args.class c.args.above e)

pub returns-then-class-above-clause-reached : goal.returns-then-class-above-clause-reached
returns-then-class-above-clause-reached t c =
    let h = c.in-Some.ensures.lookup in
    let e : slice_get c.args.system.now.program.classes c.args.class ≡ Some c.in-Some.found.now = grind (arith, common_steps, gets) in
    sym (reaches_itself c.args.system.now c.args.steps c.args.class c.args.above c.in-Some.found.now (omega (arith, c.if-steps-noted.false)) e c.if-class-above.true)

pub loop-interface-init : goal.loop-interface-init
unfolding contains_number
loop-interface-init t c = (refl, c.requires)

pub returns-then-reaches-clause-reached : goal.returns-then-reaches-clause-reached
returns-then-reaches-clause-reached t c =
    let h = c.in-Some.ensures.lookup in
    let e : slice_get c.args.system.now.program.classes c.args.class ≡ Some c.in-Some.found.now = grind (arith, common_steps, gets) in
    let all = reaches_all c.args.system.now (c.args.steps - 1) c.args.above c.as_slice-interfaces.result.now c.loop-interface.interface-index object c.loop-interface-test.true
    (sym c.reaches.ensures.reached ∙ c.if-reaches.true) in
    sym (reaches_interface c.args.system.now c.args.steps c.args.class c.args.above c.in-Some.found.now (omega (arith, c.if-steps-noted.false)) e
    (ap (λ ids. one_reaches c.args.system.now (c.args.steps - 1) (map (λ (i : ClassId). i.0) ids) c.args.above) (sym c.as_slice-interfaces.ensures) ∙ all))

pub loop-interface-preserved : goal.loop-interface-preserved
loop-interface-preserved t c = (
  reaches_more c.args.system.now (c.args.steps - 1) c.args.above c.as_slice-interfaces.result.now c.loop-interface.interface-index object c.loop-interface-test.true
      ∙ ap (λ (b : Bool). b || contains_number (supers_within c.args.system.now (c.args.steps - 1) (get_or c.as_slice-interfaces.result.now c.loop-interface.interface-index object).0) c.args.above) c.loop-interface.invariant.0
      ∙ sym c.reaches.ensures.reached ∙ c.if-reaches.false,
  c.reaches.ensures.vain,
)

pub returns-then-not-by_parent-clause-reached : goal.returns-then-not-by_parent-clause-reached
returns-then-not-by_parent-clause-reached t c =
    let h = c.in-Some.ensures.lookup in
    let e : slice_get c.args.system.now.program.classes c.args.class ≡ Some c.in-Some.found.now = grind (arith, common_steps, gets) in
    let none = ap (λ ids. one_reaches c.args.system.now (c.args.steps - 1) (map (λ (i : ClassId). i.0) ids) c.args.above)
    (sym c.as_slice-interfaces.ensures ∙ sym (take_all c.loop-interface.interface-index c.as_slice-interfaces.result.now c.loop-interface-test.false)) ∙ c.loop-interface.invariant.0 in
    (elim c.match-found.branch [
      | in-Some-parent w ↦
          w.by_parent-is ∙ w.reaches-by_parent.ensures.reached
          ∙ sym (parent_reaches c.args.system.now (c.args.steps - 1) c.args.above c.in-Some.found.now.parent w.in-Some-parent.parent w.in-Some-parent.is)
      | in-None w ↦ w.by_parent-is ∙ sym (no_parent_reaches c.args.system.now (c.args.steps - 1) c.args.above c.in-Some.found.now.parent w.in-None.is)
    ])
    ∙ sym (reaches_parent c.args.system.now c.args.steps c.args.class c.args.above c.in-Some.found.now (omega (arith, c.if-steps-noted.false)) e c.if-class-above.false none)

pub returns-then-not-by_parent-clause-vain : goal.returns-then-not-by_parent-clause-vain
returns-then-not-by_parent-clause-vain t c =
    let s = c.args.system.now in let above = c.args.above in
    let h = c.in-Some.ensures.lookup in
    let e : slice_get s.program.classes c.args.class ≡ Some c.in-Some.found.now = grind (arith, common_steps, gets) in
    let none = ap (λ ids. one_reaches s (c.args.steps - 1) (map (λ (i : ClassId). i.0) ids) above)
    (sym c.as_slice-interfaces.ensures ∙ sym (take_all c.loop-interface.interface-index c.as_slice-interfaces.result.now c.loop-interface-test.false)) ∙ c.loop-interface.invariant.0 in
    let by_parent : c.match-found.by_parent ≡ one_reaches s (c.args.steps - 1) (parent_list c.in-Some.found.now.parent) above = (elim c.match-found.branch [
      | in-Some-parent w ↦
          w.by_parent-is ∙ w.reaches-by_parent.ensures.reached
          ∙ sym (parent_reaches s (c.args.steps - 1) above c.in-Some.found.now.parent w.in-Some-parent.parent w.in-Some-parent.is)
      | in-None w ↦ w.by_parent-is ∙ sym (no_parent_reaches s (c.args.steps - 1) above c.in-Some.found.now.parent w.in-None.is)
    ]) in
    let vain : AreVain s above c.match-found.vain = (elim c.match-found.branch [
      | in-Some-parent w ↦ subst (AreVain s above) (sym w.vain-is) w.reaches-by_parent.ensures.vain
      | in-None w ↦ subst (AreVain s above) (sym w.vain-is) c.loop-interface.invariant.1
    ]) in
    subst (AreVain s above) (sym c.note.ensures)
    (noted_too s above c.match-found.vain c.args.steps c.args.class vain
    (reaches_parent s c.args.steps c.args.class above c.in-Some.found.now (omega (arith, c.if-steps-noted.false)) e c.if-class-above.false none
    ∙ sym by_parent ∙ c.if-not-by_parent.true))

pub returns-else-not-by_parent-clause-reached : goal.returns-else-not-by_parent-clause-reached
returns-else-not-by_parent-clause-reached t c =
    let h = c.in-Some.ensures.lookup in
    let e : slice_get c.args.system.now.program.classes c.args.class ≡ Some c.in-Some.found.now = grind (arith, common_steps, gets) in
    let none = ap (λ ids. one_reaches c.args.system.now (c.args.steps - 1) (map (λ (i : ClassId). i.0) ids) c.args.above)
    (sym c.as_slice-interfaces.ensures ∙ sym (take_all c.loop-interface.interface-index c.as_slice-interfaces.result.now c.loop-interface-test.false)) ∙ c.loop-interface.invariant.0 in
    (elim c.match-found.branch [
      | in-Some-parent w ↦
          w.by_parent-is ∙ w.reaches-by_parent.ensures.reached
          ∙ sym (parent_reaches c.args.system.now (c.args.steps - 1) c.args.above c.in-Some.found.now.parent w.in-Some-parent.parent w.in-Some-parent.is)
      | in-None w ↦ w.by_parent-is ∙ sym (no_parent_reaches c.args.system.now (c.args.steps - 1) c.args.above c.in-Some.found.now.parent w.in-None.is)
    ])
    ∙ sym (reaches_parent c.args.system.now c.args.steps c.args.class c.args.above c.in-Some.found.now (omega (arith, c.if-steps-noted.false)) e c.if-class-above.false none)
