use Rattle.std.proofs.Common.{arith, refl, sym, ap, ◌∙◌, ◌≡◌, ◌-◌, Bool, true, ◌||◌, Some, None, map, slice_get, get_or}
use Rattle.std.proofs.lemmas.Grind.{common_steps}
use Rattle.std.proofs.lemmas.Option.{gets}
use Rattle.std.proofs.lemmas.List.{take_all}
use Rattle.jx_base.specs.declared.ids.ClassId.{ClassId}
use Rattle.jx_base.specs.Basics.{contains_number}
use Rattle.program_model.specs.Lookup.{supers_within}
use Rattle.program_types.proofs.ClassSteps.{one_reaches, reaches_none, reaches_nowhere, reaches_itself, reaches_interface, reaches_parent, parent_reaches, no_parent_reaches, reaches_more, reaches_all}
use Rattle.interp_built_in.proofs.SuperSteps.{where_reached, is_reached, is_not_reached}
use Rattle.interp_built_in.proofs.supers.+found_above.Goals as goal

abbrev object : ClassId
object = record { 0 = 0 }

pub returns-then-steps-eq0 : goal.returns-then-steps-eq0
returns-then-steps-eq0 t c = ap (where_reached c.args.above) (sym (reaches_none c.args.system.now c.args.steps c.args.class.0 c.args.above c.if-steps-eq0.true))

pub returns-in_default : goal.returns-in_default
returns-in_default t c =
    let h = c.in_default.ensures.lookup in
    let e : slice_get c.args.system.now.program.classes c.args.class.0 ≡ None = grind (arith, common_steps, gets) in
    ap (where_reached c.args.above) (sym (reaches_nowhere c.args.system.now c.args.steps c.args.class.0 c.args.above e))

pub returns-then-class-above : goal.returns-then-class-above
returns-then-class-above t c =
    let h = c.in-Some.ensures.lookup in
    let e : slice_get c.args.system.now.program.classes c.args.class.0 ≡ Some c.in-Some.found.now = grind (arith, common_steps, gets) in
    ap Some c.if-class-above.true ∙ ap (where_reached c.args.above) (sym (reaches_itself c.args.system.now c.args.steps c.args.class.0 c.args.above c.in-Some.found.now (omega arith) e c.if-class-above.true))

pub loop-interface-init : goal.loop-interface-init
unfolding contains_number
loop-interface-init t c = refl

pub returns-then-is_some : goal.returns-then-is_some
returns-then-is_some t c =
    let h = c.in-Some.ensures.lookup in
    let e : slice_get c.args.system.now.program.classes c.args.class.0 ≡ Some c.in-Some.found.now = grind (arith, common_steps, gets) in
    let b = contains_number (supers_within c.args.system.now (c.args.steps - 1) (get_or c.as_slice-interfaces.result.now c.loop-interface.interface-index object).0) c.args.above in
    let yes : b ≡ true = is_reached c.args.above b c.found_above-reached.result c.found_above-reached.ensures (sym c.is_some.ensures ∙ c.if-is_some.true) in
    let all = reaches_all c.args.system.now (c.args.steps - 1) c.args.above c.as_slice-interfaces.result.now c.loop-interface.interface-index object c.loop-interface-test.true yes in
    c.found_above-reached.ensures ∙ ap (where_reached c.args.above) (yes ∙ sym (reaches_interface c.args.system.now c.args.steps c.args.class.0 c.args.above c.in-Some.found.now (omega arith) e
    (ap (λ ids. one_reaches c.args.system.now (c.args.steps - 1) (map (λ (i : ClassId). i.0) ids) c.args.above) (sym c.as_slice-interfaces.ensures) ∙ all)))

pub loop-interface-preserved : goal.loop-interface-preserved
loop-interface-preserved t c =
    let b = contains_number (supers_within c.args.system.now (c.args.steps - 1) (get_or c.as_slice-interfaces.result.now c.loop-interface.interface-index object).0) c.args.above in
    reaches_more c.args.system.now (c.args.steps - 1) c.args.above c.as_slice-interfaces.result.now c.loop-interface.interface-index object c.loop-interface-test.true
    ∙ ap (λ (x : Bool). x || b) c.loop-interface.invariant
    ∙ is_not_reached c.args.above b c.found_above-reached.result c.found_above-reached.ensures (sym c.is_some.ensures ∙ c.if-is_some.false)

pub returns-in-Some-parent : goal.returns-in-Some-parent
returns-in-Some-parent t c =
    let h = c.in-Some.ensures.lookup in
    let e : slice_get c.args.system.now.program.classes c.args.class.0 ≡ Some c.in-Some.found.now = grind (arith, common_steps, gets) in
    let none = ap (λ ids. one_reaches c.args.system.now (c.args.steps - 1) (map (λ (i : ClassId). i.0) ids) c.args.above)
    (sym c.as_slice-interfaces.ensures ∙ sym (take_all c.loop-interface.interface-index c.as_slice-interfaces.result.now c.loop-interface-test.false)) ∙ c.loop-interface.invariant in
    c.found_above.ensures
    ∙ ap (where_reached c.args.above) (sym (parent_reaches c.args.system.now (c.args.steps - 1) c.args.above c.in-Some.found.now.parent c.in-Some-parent.parent c.in-Some-parent.is)
    ∙ sym (reaches_parent c.args.system.now c.args.steps c.args.class.0 c.args.above c.in-Some.found.now (omega arith) e c.if-class-above.false none))

pub returns-in-None : goal.returns-in-None
returns-in-None t c =
    let h = c.in-Some.ensures.lookup in
    let e : slice_get c.args.system.now.program.classes c.args.class.0 ≡ Some c.in-Some.found.now = grind (arith, common_steps, gets) in
    let none = ap (λ ids. one_reaches c.args.system.now (c.args.steps - 1) (map (λ (i : ClassId). i.0) ids) c.args.above)
    (sym c.as_slice-interfaces.ensures ∙ sym (take_all c.loop-interface.interface-index c.as_slice-interfaces.result.now c.loop-interface-test.false)) ∙ c.loop-interface.invariant in
    ap (where_reached c.args.above) (sym (no_parent_reaches c.args.system.now (c.args.steps - 1) c.args.above c.in-Some.found.now.parent c.in-None.is)
    ∙ sym (reaches_parent c.args.system.now c.args.steps c.args.class.0 c.args.above c.in-Some.found.now (omega arith) e c.if-class-above.false none))
