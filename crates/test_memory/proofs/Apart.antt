-- Granules that lie in no hole, and how many granules a pool has.
use Rattle.std.proofs.Common.{◌≡◌, refl, ◌∙◌, ap, ℕ, ◌+◌, ◌<◌, ◌≤◌, Bool, true, false, not, ◌||◌, List, [], ◌∷◌, Option, Some, None, IfSome, length, arith, if◌then◌else◌}
use Rattle.std.specs.List.{list_all}
use Rattle.std.proofs.lemmas.List.FromFn.{length-map-range_with_len, get_or-map-range_with_len}
use Rattle.std.proofs.lemmas.Bool.Decides.{nat_tests}
use Rattle.jx_base.proofs.BasicLaws.{both}
use Rattle.jx_model.specs.Granules.{lies_in}
use Rattle.extent_pool.specs.declared.hole.Hole.{Hole}
use Rattle.extent_pool.specs.Holes.{lies_in_hole, lies_in_holes, granules_of}
use Rattle.extent_pool.specs.Taken.{is_taken, AreTaken, with_run}
use Rattle.test_memory.specs.Checks.{lies_apart}

one_apart : (at n g : ℕ) (h : Hole) → lies_apart at n h ≡ true → at ≤ g → g < at + n → lies_in_hole g h ≡ false
unfolding lies_in
one_apart at n g h e l m = grind (arith, nat_tests)

all_apart : (at n g : ℕ) (holes : List Hole) → list_all (lies_apart at n) holes ≡ true → at ≤ g → g < at + n → lies_in_holes holes g ≡ false
all_apart at n g [] e l m = refl
all_apart at n g (h ∷ holes) e l m =
    let parts = both (lies_apart at n h) (list_all (lies_apart at n) holes) e in
    ap (λ (b : Bool). b || lies_in_holes holes g) (one_apart at n g h parts.0 l m) ∙ all_apart at n g holes parts.1 l m

pub taken_if : (granules : List Bool) (holes : List Hole) (at n : ℕ) → granules ≡ granules_of (length granules) holes →
    list_all (lies_apart at n) holes ≡ true → at + n ≤ length granules → AreTaken granules at n
taken_if granules holes at n e f l g u v =
    ap (λ (xs : List Bool). is_taken xs g) e
    ∙ get_or-map-range_with_len (λ x. not (lies_in_holes holes x)) 0 (length granules) g g false (omega (arith, l, v)) (omega arith)
    ∙ ap not (all_apart at n g holes f u v)

pub same_size : (old : List Bool) (at n : ℕ) (b : Bool) → length (with_run old at n b) ≡ length old
same_size old at n b = length-map-range_with_len (λ g. if lies_in g (at, n) then b else is_taken old g) 0 (length old)

pub size_taken : (place : Option ℕ) (n : ℕ) (old new : List Bool) → IfSome place (λ at. new ≡ with_run old at n true) → (place ≡ None → new ≡ old) → length new ≡ length old
size_taken None n old new f g = ap length (g refl)
size_taken (Some at) n old new f g = ap length f ∙ same_size old at n true
