use Rattle.std.proofs.Common.{◌≡◌, ◌∙◌, ◌-◌, ◌+◌, refl, sym, ap, ◌++◌, append-nil, length, slice_get, Some, None, arith}
use Rattle.std.specs.Prelude.{filter}
use Rattle.std.proofs.lemmas.Bool.{ltb-false, ltb-true}
use Rattle.std.proofs.lemmas.Option.{slice_get_past, slice_get_read}
use Rattle.machine_start.specs.Found.{is_loaded}
use Rattle.machine_start.proofs.Chains.{below, moved, no_class, no_steps, topmost}
use Rattle.program_model.specs.Lookup.{chain_of, chain_within, class_count}
use Rattle.machine_start.proofs.classes.loaded_chain.Goals as goal

pub loop-init : goal.loop-init
unfolding chain_of class_count
loop-init c =
    let s = c.args.system.now in
    let slice = c.as_slice-classes.result.now in
    ap (λ n. filter is_loaded (chain_within s n c.args.class)) (omega (arith, ap length c.as_slice-classes.ensures))
    ∙ ap (λ xs. xs ++ filter is_loaded (chain_within s (length slice - 0) c.args.class)) (sym c.new-chain.ensures.items)

pub returns-in_default : goal.returns-in_default
returns-in_default c =
    let s = c.args.system.now in
    let slice = c.as_slice-classes.result.now in
    let none : slice_get s.program.classes c.loop.next ≡ None =
    ap (λ ks. slice_get ks c.loop.next) (sym c.as_slice-classes.ensures)
    ∙ slice_get_past slice c.loop.next (ltb-false c.loop.next (length slice) (sym c.in_default.ensures.lookup.0)) in
    sym (c.loop.invariant
    ∙ ap (λ xs. c.loop.chain.items ++ filter is_loaded xs) (no_class s (length slice - c.loop.counter) c.loop.next none)
    ∙ append-nil c.loop.chain.items)

pub returns-in_default-parent : goal.returns-in_default-parent
returns-in_default-parent c =
    let s = c.args.system.now in
    let slice = c.as_slice-classes.result.now in
    let found = c.in-Some.found.now in
    let there : slice_get s.program.classes c.loop.next ≡ Some found =
    ap (λ ks. slice_get ks c.loop.next) (sym c.as_slice-classes.ensures)
    ∙ slice_get_read slice (length slice) c.loop.next found refl (ltb-true c.loop.next (length slice) (sym c.in-Some.ensures.lookup.0)) c.in-Some.ensures.lookup.1 in
    c.in_ok-add_loaded.ensures
    ∙ sym (c.loop.invariant
    ∙ ap (λ xs. c.loop.chain.items ++ filter is_loaded xs) (topmost s (length slice - c.loop.counter) (length slice - (c.loop.counter + 1)) c.loop.next found
    (omega (arith, c.loop-test.true)) there c.in_default-parent.is))

pub loop-preserved : goal.loop-preserved
loop-preserved c =
    let s = c.args.system.now in
    let slice = c.as_slice-classes.result.now in
    let found = c.in-Some.found.now in
    let there : slice_get s.program.classes c.loop.next ≡ Some found =
    ap (λ ks. slice_get ks c.loop.next) (sym c.as_slice-classes.ensures)
    ∙ slice_get_read slice (length slice) c.loop.next found refl (ltb-true c.loop.next (length slice) (sym c.in-Some.ensures.lookup.0)) c.in-Some.ensures.lookup.1 in
    let rest = chain_within s (length slice - (c.loop.counter + 1)) c.in-Some-parent.parent.0 in
    c.loop.invariant
    ∙ ap (λ xs. c.loop.chain.items ++ filter is_loaded xs) (below s (length slice - c.loop.counter) (length slice - (c.loop.counter + 1)) c.loop.next found c.in-Some-parent.parent
    (omega (arith, c.loop-test.true)) there c.in-Some-parent.is)
    ∙ moved c.loop.chain.items c.add_loaded.new.chain.items rest c.loop.next c.in_ok-add_loaded.ensures

pub returns : goal.returns
returns c =
    let s = c.args.system.now in
    sym (c.loop.invariant
    ∙ ap (λ xs. c.loop.chain.items ++ filter is_loaded xs) (no_steps s (length c.as_slice-classes.result.now - c.loop.counter) c.loop.next (omega (arith, c.loop-test.false)))
    ∙ append-nil c.loop.chain.items)
