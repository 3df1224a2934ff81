-- The heap with the objects of the start, and the class of its array.
use Rattle.std.proofs.Common.{◌≡◌, ◌≤◌, ◌<◌, ◌^◌, ◌+◌, ◌∙◌, refl, sym, ℕ, Bool, true, false, List, Option, Some, None, length, ap, arith}
use Rattle.std.specs.Prelude.{IfSome, if◌then◌else◌, nat_lt}
use Rattle.std.specs.List.{position, position_or_len}
use Rattle.std.specs.Str.{bytes_eq}
use Rattle.std.proofs.lemmas.Bool.{le-leb}
use Rattle.std.proofs.lemmas.Bool.Decides.{nat_tests}
use Rattle.domain_heap.specs.Heaps.{HeapState, has_room, with_object}
use Rattle.jx_base.specs.declared.ids.ClassId.{ClassId}
use Rattle.jx_base.specs.declared.program.Class.{Class}
use Rattle.jx_base.specs.declared.program.System.{System}
use Rattle.program_model.specs.Lookup.{class_count, class_named}

-- an object for which there is room is made
pub has_made : (old new : HeapState) (c : ClassId) (n : ℕ) → new ≡ (if has_room old n then with_object old c n else old) → n + 2 ≤ old.left → new ≡ with_object old c n
has_made old new c n e l = e ∙ ap (λ b. if b then with_object old c n else old) (le-leb (n + 2) old.left l)

placed : (b : Bool) (n k : ℕ) → (if b then Some n else None) ≡ Some k → (b ≡ true) × (n ≡ k)
placed true n k e = (refl, cc)
placed false n k e = absurd cc

-- a place that is found is one of the list
found_within : {A : Type 0} (p : A → Bool) (xs : List A) (i : ℕ) → position p xs ≡ Some i → i < length xs
found_within p xs i e =
    let h = placed (nat_lt (position_or_len p xs) (length xs)) (position_or_len p xs) i e in
    let less : position_or_len p xs < length xs = grind (arith, nat_tests) in
    omega (arith, less, h.1)

-- where there are few classes, the one of that name has a small number
pub named_small : (s : System) (name : List ℕ) (o : Option ℕ) → o ≡ class_named s name → class_count s < 2 ^ 32 → IfSome o (λ c. c < 2 ^ 32)
unfolding class_named class_count
named_small s name None e l = tt
named_small s name (Some i) e l = omega (arith, found_within (λ (k : Class). bytes_eq k.name name) s.program.classes i (sym e), l)
