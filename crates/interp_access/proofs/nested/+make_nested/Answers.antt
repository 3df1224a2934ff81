-- Each element is made whole before the next one.
use Rattle.std.proofs.Common.{◌≡◌, ◌-◌, ◌<◌, ◌∙◌, suc, List, ℕ, Option, Some, sym, ap, drop, arith, slice_get}
use Rattle.std.specs.Option.{option_and_then}
use Rattle.machine_model.specs.NumericRows.{Stack}
use Rattle.machine_model.specs.ObjectRows.{Making, making_of, nested_arrays, with_elements}
use Rattle.machine_model.specs.State.{Store, default_of, new_array}
use Rattle.program_model.specs.Lookup.{class_named}
use Rattle.jx_base.specs.declared.program.System.{System}
use Rattle.interp_core.specs.Cores.{core_state, running_stack, store_of}
use Rattle.interp_core.specs.declared.cores.Core.{Core as OneCore}
use Rattle.interp_access.specs.Nested.{length_of, nested_lengths}
use Rattle.interp_access.proofs.NestedLaws.{inner, outer, no_length, no_outer, last_outer, more_outer, element_on, no_element, all_elements}
use Rattle.interp_access.proofs.Tops.{same_frames, same_running}
use Rattle.interp_access.proofs.nested.+make_nested.Goals as goal

-- the array alone, by the length that was read
alone : (s : System) (stack : Stack) (k n : ℕ) (name : List ℕ) (store : Store) (made : Making) → n ≡ length_of (slice_get stack k)
    → making_of store (option_and_then (λ c. new_array store c n (default_of (drop 1 name))) (class_named s name)) ≡ made → outer s stack k name store ≡ made
alone s stack k n name store made e h = ap (λ (m : ℕ). making_of store (option_and_then (λ c. new_array store c m (default_of (drop 1 name))) (class_named s name))) (sym e) ∙ h

-- an element, made from a core with the same frames
one_element : (s : System) (old now : OneCore) (k : ℕ) (name element : List ℕ) (made : Making) → now.frames ≡ old.frames → element ≡ drop 1 name
    → nested_arrays s (nested_lengths (running_stack (core_state now)) k) element (store_of now) ≡ made → inner s (running_stack (core_state old)) k name (store_of now) ≡ made
one_element s old now k name element made f e h =
    ap (λ (stack : Stack). nested_arrays s (nested_lengths stack k) (drop 1 name) (store_of now)) (sym (same_running (core_state old) (core_state now) (same_frames old now f)))
    ∙ ap (λ (name : List ℕ). nested_arrays s (nested_lengths (running_stack (core_state now)) k) name (store_of now)) (sym e) ∙ h

-- an array of arrays, by the elements of the outermost one
whole : (s : System) (stack : Stack) (d k n : ℕ) (name : List ℕ) (store new : Store) (r : ℕ) → d ≡ suc k → 0 < k → n ≡ length_of (slice_get stack k)
    → making_of store (option_and_then (λ c. new_array store c n (default_of (drop 1 name))) (class_named s name)) ≡ record { store = new; array = Some r }
    → nested_arrays s (nested_lengths stack d) name store ≡ with_elements (inner s stack k name) r 0 n new
whole s stack d k n name store new r e z f h =
    more_outer s stack d k name store new r e z (alone s stack k n name store _ f h) ∙ ap (λ (m : ℕ). with_elements (inner s stack k name) r 0 m new) (sym f)

pub returns-then-dimensions-eq0-clause-made : goal.returns-then-dimensions-eq0-clause-made
returns-then-dimensions-eq0-clause-made t c = no_length c.args.system.now (running_stack (core_state c.args.core.now)) c.args.dimensions c.args.name.now (store_of c.args.core.now) c.if-dimensions-eq0.true

pub returns-in_err-array-clause-made : goal.returns-in_err-array-clause-made
returns-in_err-array-clause-made t c =
    let s = c.args.system.now in let stack = running_stack (core_state c.args.core.now) in let k = c.args.dimensions - 1 in
    let new = store_of c.make_alone.new.core in
    let next : c.args.dimensions ≡ suc k = omega (arith, c.if-dimensions-eq0.false) in
    no_outer s stack c.args.dimensions k c.args.name.now (store_of c.args.core.now) new next
    (alone s stack k c.length_at-count.result c.args.name.now (store_of c.args.core.now) _ c.length_at-count.ensures c.in_err-array.ensures.made)
    ∙ ap (λ (o : Option ℕ). record { store = new; array = o }) (sym c.from_residual.ensures)

pub returns-then-inner-eq0-clause-made : goal.returns-then-inner-eq0-clause-made
returns-then-inner-eq0-clause-made t c =
    let s = c.args.system.now in let stack = running_stack (core_state c.args.core.now) in let k = c.args.dimensions - 1 in
    let next : c.args.dimensions ≡ suc k = omega (arith, c.if-dimensions-eq0.false) in
    last_outer s stack c.args.dimensions k c.args.name.now (store_of c.args.core.now) (store_of c.make_alone.new.core) c.in_ok-array.array next c.if-inner-eq0.true
    (alone s stack k c.length_at-count.result c.args.name.now (store_of c.args.core.now) _ c.length_at-count.ensures c.in_ok-array.ensures.made)

pub returns-in_err-element-clause-made : goal.returns-in_err-element-clause-made
returns-in_err-element-clause-made t c =
    let s = c.args.system.now in let stack = running_stack (core_state c.args.core.now) in let k = c.args.dimensions - 1 in
    let new = store_of c.make_nested.new.core in let n = c.length_at-count.result in let r = c.in_ok-array.array in
    let next : c.args.dimensions ≡ suc k = omega (arith, c.if-dimensions-eq0.false) in
    let more : 0 < k = omega (arith, c.if-inner-eq0.false) in
    let made = one_element s c.args.core.now c.loop-place.core k c.args.name.now c.element_of.result.now _ c.loop-place.invariant.frames c.element_of.ensures c.in_err-element.ensures.made in
    whole s stack c.args.dimensions k n c.args.name.now (store_of c.args.core.now) (store_of c.make_alone.new.core) r next more c.length_at-count.ensures c.in_ok-array.ensures.made
    ∙ sym c.loop-place.invariant.elements
    ∙ no_element (inner s stack k c.args.name.now) r n c.loop-place.place (store_of c.loop-place.core) new c.loop-place-test.true made
    ∙ ap (λ (o : Option ℕ). record { store = new; array = o }) (sym c.from_residual-in_err-element.ensures)

pub loop-place-preserved : goal.loop-place-preserved
loop-place-preserved t c =
    let s = c.args.system.now in let stack = running_stack (core_state c.args.core.now) in let k = c.args.dimensions - 1 in
    let made = one_element s c.args.core.now c.loop-place.core k c.args.name.now c.element_of.result.now _ c.loop-place.invariant.frames c.element_of.ensures c.in_ok-element.ensures.made in
    record {
      elements =
          sym (element_on (inner s stack k c.args.name.now) c.in_ok-array.array c.length_at-count.result c.loop-place.place c.in_ok-element.element (store_of c.loop-place.core) (store_of c.make_nested.new.core) (store_of c.put_cell.new.core) c.loop-place-test.true made c.put_cell.ensures.store)
          ∙ c.loop-place.invariant.elements;
      frames = c.put_cell.ensures.frames ∙ c.in_ok-element.ensures.frames ∙ c.loop-place.invariant.frames;
    }

pub returns-clause-made : goal.returns-clause-made
returns-clause-made t c =
    let s = c.args.system.now in let stack = running_stack (core_state c.args.core.now) in let k = c.args.dimensions - 1 in
    let n = c.length_at-count.result in let r = c.in_ok-array.array in
    let next : c.args.dimensions ≡ suc k = omega (arith, c.if-dimensions-eq0.false) in
    let more : 0 < k = omega (arith, c.if-inner-eq0.false) in
    whole s stack c.args.dimensions k n c.args.name.now (store_of c.args.core.now) (store_of c.make_alone.new.core) r next more c.length_at-count.ensures c.in_ok-array.ensures.made
    ∙ sym c.loop-place.invariant.elements
    ∙ all_elements (inner s stack k c.args.name.now) r n c.loop-place.place (store_of c.loop-place.core) c.loop-place-test.false
