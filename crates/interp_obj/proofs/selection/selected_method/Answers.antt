use Rattle.std.proofs.Common.{◌≡◌, ◌∙◌, ◌-◌, ◌+◌, refl, sym, ap, length, slice_get, Some, None, arith}
use Rattle.std.proofs.lemmas.Bool.{ltb-false, ltb-true}
use Rattle.std.proofs.lemmas.Option.{slice_get_past, slice_get_read}
use Rattle.jx_base.specs.Basics.{first_some}
use Rattle.program_model.specs.Lookup.{chain_of, chain_within, class_count, instance_method, selected_method}
use Rattle.linker_search.proofs.Chains.{found_above, found_here, no_class, no_steps, top_reached}
use Rattle.interp_obj.proofs.selection.selected_method.Goals as goal

pub loop-init : goal.loop-init
unfolding chain_of class_count
loop-init c =
    let s = c.args.system.now in
    let classes = c.as_slice-classes.ensures in
    ap (λ n. first_some (instance_method s c.args.selector) (chain_within s n c.args.class)) (omega (arith, ap length classes))

pub returns-in_err-found : goal.returns-in_err-found
unfolding selected_method
returns-in_err-found c =
    let s = c.args.system.now in
    let classes = c.as_slice-classes.ensures in
    let slice = c.as_slice-classes.result.now in
    let none : slice_get s.program.classes c.loop.next ≡ None =
    ap (λ ks. slice_get ks c.loop.next) (sym classes) ∙ slice_get_past slice c.loop.next (ltb-false c.loop.next (length slice) (sym c.in_err-found.ensures.lookup.0)) in
    c.from_residual.ensures ∙ sym (no_class s (instance_method s c.args.selector) (length slice - c.loop.counter) c.loop.next none) ∙ sym c.loop.invariant

pub returns-in-Some : goal.returns-in-Some
unfolding selected_method
returns-in-Some c =
    let s = c.args.system.now in
    let classes = c.as_slice-classes.ensures in
    let slice = c.as_slice-classes.result.now in
    let found = c.in_ok-found.found.now in
    let there : slice_get s.program.classes c.loop.next ≡ Some found =
    ap (λ ks. slice_get ks c.loop.next) (sym classes)
    ∙ slice_get_read slice (length slice) c.loop.next found refl (ltb-true c.loop.next (length slice) (sym c.in_ok-found.ensures.lookup.0)) c.in_ok-found.ensures.lookup.1 in
    sym (found_here s (instance_method s c.args.selector) (length slice - c.loop.counter) (length slice - (c.loop.counter + 1)) c.loop.next found c.in-Some.method
    (omega (arith, c.loop-test.true)) there (sym c.in-Some.ensures)) ∙ sym c.loop.invariant

pub returns-in_err-next : goal.returns-in_err-next
unfolding selected_method
returns-in_err-next c =
    let s = c.args.system.now in
    let classes = c.as_slice-classes.ensures in
    let slice = c.as_slice-classes.result.now in
    let found = c.in_ok-found.found.now in
    let there : slice_get s.program.classes c.loop.next ≡ Some found =
    ap (λ ks. slice_get ks c.loop.next) (sym classes)
    ∙ slice_get_read slice (length slice) c.loop.next found refl (ltb-true c.loop.next (length slice) (sym c.in_ok-found.ensures.lookup.0)) c.in_ok-found.ensures.lookup.1 in
    c.from_residual-in_err-next.ensures
    ∙ sym (top_reached s (instance_method s c.args.selector) (length slice - c.loop.counter) (length slice - (c.loop.counter + 1)) c.loop.next found
    (omega (arith, c.loop-test.true)) there (sym c.in_default.ensures) c.in_err-next.was) ∙ sym c.loop.invariant

pub loop-preserved : goal.loop-preserved
loop-preserved c =
    let s = c.args.system.now in
    let classes = c.as_slice-classes.ensures in
    let slice = c.as_slice-classes.result.now in
    let found = c.in_ok-found.found.now in
    let there : slice_get s.program.classes c.loop.next ≡ Some found =
    ap (λ ks. slice_get ks c.loop.next) (sym classes)
    ∙ slice_get_read slice (length slice) c.loop.next found refl (ltb-true c.loop.next (length slice) (sym c.in_ok-found.ensures.lookup.0)) c.in_ok-found.ensures.lookup.1 in
    c.loop.invariant
    ∙ found_above s (instance_method s c.args.selector) (length slice - c.loop.counter) (length slice - (c.loop.counter + 1)) c.loop.next found c.in_ok-next.field-0
    (omega (arith, c.loop-test.true)) there (sym c.in_default.ensures) c.in_ok-next.was

pub returns : goal.returns
unfolding selected_method
returns c =
    let s = c.args.system.now in
    sym (no_steps s (instance_method s c.args.selector) (length c.as_slice-classes.result.now - c.loop.counter) c.loop.next (omega (arith, c.loop-test.false)))
    ∙ sym c.loop.invariant
