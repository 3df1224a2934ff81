-- Granules that are taken or given back, place by place.
use Rattle.std.proofs.Common.{◌≡◌, refl, ◌∙◌, ap, ℕ, suc, ◌+◌, ◌-◌, ◌≤◌, Bool, true, false, not, ◌&&◌, ◌||◌, List, [], ◌∷◌, length, map, arith, if◌then◌else◌}
use Rattle.std.specs.List.{range_with_len}
use Rattle.std.specs.Prelude.{slice_index_or}
use Rattle.jx_base.proofs.BasicLaws.{ap2}
use Rattle.jx_model.specs.Granules.{Run, lies_in, lies_in_one}
use Rattle.extent_pool.specs.Taken as Pool
use Rattle.table_steps.specs.Steps as Steps
use Rattle.table_threads.proofs.Records.{map_range}
use Rattle.table_threads.specs.Changes.{each_from}

-- each item, changed by its place
pub each_placed : {A : Type 0} (f : ℕ → A → A) (d : A) (a : ℕ) (xs : List A) → map (λ g. f g (slice_index_or xs (g - a) d)) (range_with_len a (length xs)) ≡ each_from f a xs
each_placed f d a [] = refl
each_placed {A} f d a (x ∷ xs) =
    ap2 (λ (y : A) (ys : List A). y ∷ ys)
    (ap (λ (i : ℕ). f a (slice_index_or (x ∷ xs) i d)) here)
    (map_range (λ g. f g (slice_index_or (x ∷ xs) (g - a) d)) (λ g. f g (slice_index_or xs (g - (a + 1)) d)) (a + 1) (length xs)
    (λ g l u. ap (λ (i : ℕ). f g (slice_index_or (x ∷ xs) i d)) (next g l))
    ∙ each_placed f d (a + 1) xs)
  where
    here : a - a ≡ 0
    here = omega arith

    next : (g : ℕ) → a + 1 ≤ g → g - a ≡ suc (g - (a + 1))
    next g l = omega (arith, l)

-- what changes each item the same way
pub each_alike : {A : Type 0} (f g : ℕ → A → A) (a : ℕ) (xs : List A) → ((i : ℕ) (x : A) → f i x ≡ g i x) → each_from f a xs ≡ each_from g a xs
each_alike f g a [] h = refl
each_alike {A} f g a (x ∷ xs) h = ap2 (λ (y : A) (ys : List A). y ∷ ys) (h a x) (each_alike f g (a + 1) xs h)

-- a run of a pool
pub run_placed : (taken : List Bool) (at n : ℕ) (b : Bool) → Pool.with_run taken at n b ≡ each_from (λ g used. if lies_in g (at, n) then b else used) 0 taken
run_placed taken at n b =
    map_range (λ g. if lies_in g (at, n) then b else slice_index_or taken g false) (λ g. if lies_in g (at, n) then b else slice_index_or taken (g - 0) false) 0 (length taken)
    (λ g l u. ap (λ (i : ℕ). if lies_in g (at, n) then b else slice_index_or taken i false) (from_zero g))
    ∙ each_placed (λ g used. if lies_in g (at, n) then b else used) false 0 taken
  where
    from_zero : (g : ℕ) → g ≡ g - 0
    from_zero g = omega arith

-- one that is taken
pub run_taken : (taken : List Bool) (at n : ℕ) → Pool.with_run taken at n true ≡ Steps.with_run (at, n) taken
run_taken taken at n =
    run_placed taken at n true
    ∙ each_alike (λ g used. if lies_in g (at, n) then true else used) (λ g used. used || lies_in g (at, n)) 0 taken (λ g used. by (lies_in g (at, n)) used)
  where
    by : (b used : Bool) → (if b then true else used) ≡ (used || b)
    by true true = refl
    by true false = refl
    by false true = refl
    by false false = refl

-- one that is given back
pub run_freed : (taken : List Bool) (run : Run) → Pool.with_run taken run.0 run.1 false ≡ Steps.without_runs (run ∷ []) taken
unfolding lies_in_one
run_freed taken run =
    run_placed taken run.0 run.1 false
    ∙ each_alike (λ g used. if lies_in g (run.0, run.1) then false else used) (λ g used. used && not (lies_in_one (run ∷ []) g)) 0 taken (λ g used. by (lies_in g run) used)
  where
    by : (b used : Bool) → (if b then false else used) ≡ (used && not (b || false))
    by true true = refl
    by true false = refl
    by false true = refl
    by false false = refl
