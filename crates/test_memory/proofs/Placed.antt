-- Heaps whose references were looked at one by one.
use Rattle.std.proofs.Common.{◌≡◌, refl, subst, ℕ, zero, suc, ◌<◌, true, List, [], ◌∷◌, length, get_or, All, arith}
use Rattle.std.specs.List.{list_all}
use Rattle.std.proofs.lemmas.Bool.Decides.{nat_tests}
use Rattle.jx_base.specs.declared.value.Value.{Value}
use Rattle.jx_base.specs.declared.value.Value.TheVariants as value
use Rattle.jx_base.proofs.BasicLaws.{both}
use Rattle.program_model.specs.Parcels.{HeapObject, cells_at}
use Rattle.param_copy.specs.Copies.{IsPlaced, AreClosed}
use Rattle.test_memory.specs.Checks.{is_placed}

one_placed : (n : ℕ) (v : Value) → is_placed n v ≡ true → IsPlaced n v
one_placed n (value.Int k) e = tt
one_placed n (value.Long k) e = tt
one_placed n value.Null e = tt
one_placed n (value.Portal s c) e = tt
one_placed n (value.Mem m) e = tt
one_placed n (value.Ref r) e = grind (arith, nat_tests)

pub all_placed : (n : ℕ) (values : List Value) → list_all (is_placed n) values ≡ true → All (IsPlaced n) values
all_placed n [] e k d l = absurd (omega (arith, l))
all_placed n (v ∷ values) e zero d l = one_placed n v (both (is_placed n v) (list_all (is_placed n) values) e).0
all_placed n (v ∷ values) e (suc k) d l = all_placed n values (both (is_placed n v) (list_all (is_placed n) values) e).1 k d (omega (arith, l))

cells_here : (objects : List HeapObject) (k : ℕ) (d : HeapObject) → k < length objects → cells_at objects k ≡ (get_or objects k d).cells
unfolding cells_at
cells_here [] k d l = absurd (omega (arith, l))
cells_here (o ∷ objects) zero d l = refl
cells_here (o ∷ objects) (suc k) d l = cells_here objects k d (omega (arith, l))

pub closed : (objects : List HeapObject) → ((k : ℕ) → k < length objects → list_all (is_placed (length objects)) (cells_at objects k) ≡ true) → AreClosed objects
closed objects f k d l =
    subst (λ (vs : List Value). All (IsPlaced (length objects)) vs) (cells_here objects k d l) (all_placed (length objects) (cells_at objects k) (f k l))
