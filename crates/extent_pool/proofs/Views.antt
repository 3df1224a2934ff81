-- The granules of a pool, by its holes.
use Rattle.std.proofs.Common.{◌≡◌, refl, sym, ◌∙◌, ap, ap, ℕ, ◌+◌, ◌-◌, ◌<◌, ◌≤◌, Bool, true, false, not, List, Some, None, arith, get_or, length, slice_get, if◌then◌else◌, replicate}
use Rattle.std.proofs.lemmas.List.{ext_get_or, get_or_past, get_or-replicate, length-replicate}
use Rattle.std.proofs.lemmas.List.FromFn.{length-map-range_with_len, get_or-map-range_with_len}
use Rattle.jx_model.specs.Granules.{lies_in, is_free_run, least_free}
use Rattle.extent_pool.specs.declared.hole.Hole.{Hole}
use Rattle.extent_pool.specs.Holes.{lies_in_holes, granules_of, AreApart}
use Rattle.extent_pool.specs.Taken.{is_taken, AreTaken, with_run}
use Rattle.extent_pool.proofs.Lies.{lies}
use Rattle.extent_pool.proofs.Apart.{hole_within}
use Rattle.extent_pool.proofs.Runs.{all_free, each_free, is_least, is_none, LieIn, fits_at, not_before, none_fit}

-- ---- one granule

pub granule : (n g : ℕ) (holes : List Hole) → g < n → is_taken (granules_of n holes) g ≡ not (lies_in_holes holes g)
granule n g holes l = get_or-map-range_with_len (λ g. not (lies_in_holes holes g)) 0 n g g false l (omega arith)

pub granule_past : (n g : ℕ) (holes : List Hole) → n ≤ g → is_taken (granules_of n holes) g ≡ false
granule_past n g holes l =
    get_or_past (granules_of n holes) g false (omega (arith, l, length-map-range_with_len (λ g. not (lies_in_holes holes g)) 0 n))

pub granules_length : (n : ℕ) (holes : List Hole) → length (granules_of n holes) ≡ n
granules_length n holes = length-map-range_with_len (λ g. not (lies_in_holes holes g)) 0 n

-- ---- all granules

pub granules_changed : (n at k : ℕ) (b : Bool) (holes new : List Hole) →
    ((g : ℕ) → g < n → not (lies_in_holes new g) ≡ (if lies_in g (at, k) then b else not (lies_in_holes holes g))) →
    granules_of n new ≡ with_run (granules_of n holes) at k b
granules_changed n at k b holes new f =
    ext_get_or false (granules_of n new) (with_run (granules_of n holes) at k b)
    (granules_length n new ∙ sym (granules_length n holes) ∙ sym (length-map-range_with_len after 0 (length (granules_of n holes))))
    (λ g l. let m : g < n = omega (arith, l, granules_length n new) in
    granule n g new m ∙ f g m
    ∙ ap (λ (x : Bool). if lies_in g (at, k) then b else x) (sym (granule n g holes m))
    ∙ sym (get_or-map-range_with_len after 0 (length (granules_of n holes)) g g false (omega (arith, m, granules_length n holes)) (omega arith)))
  where
    after : ℕ → Bool
    after g = if lies_in g (at, k) then b else is_taken (granules_of n holes) g

pub all_spare : (n : ℕ) (holes : List Hole) → ((g : ℕ) → g < n → lies_in_holes holes g ≡ true) → granules_of n holes ≡ replicate n false
all_spare n holes f =
    ext_get_or false (granules_of n holes) (replicate n false)
    (granules_length n holes ∙ sym (length-replicate n false))
    (λ g l. let m : g < n = omega (arith, l, granules_length n holes) in
    granule n g holes m ∙ ap not (f g m) ∙ sym (get_or-replicate n g false false m))

-- what was taken is taken
pub run_taken : (old : List Bool) (at n : ℕ) → at + n ≤ length old → AreTaken (with_run old at n true) at n
run_taken old at n l g u v =
    get_or-map-range_with_len after 0 (length old) g g false (omega (arith, l, v)) (omega arith)
    ∙ ap (λ (b : Bool). if b then true else is_taken old g) (lies g at n u v)
  where
    after : ℕ → Bool
    after g = if lies_in g (at, n) then true else is_taken old g

-- ---- the least place

is_not : (b : Bool) → not b ≡ false → b ≡ true
is_not true e = refl
is_not false e = cc

-- granules that aren't taken lie in the holes
lie_in : (total n k : ℕ) (holes : List Hole) → k + n ≤ total → is_free_run (is_taken (granules_of total holes)) n k ≡ true → LieIn holes n k
lie_in total n k holes l e = λ g u v.
    is_not (lies_in_holes holes g)
    (sym (granule total g holes (omega (arith, l, v))) ∙ each_free (is_taken (granules_of total holes)) n k e g u v)

free_in : (total n k : ℕ) (holes : List Hole) → k + n ≤ total → LieIn holes n k → is_free_run (is_taken (granules_of total holes)) n k ≡ true
free_in total n k holes l f =
    all_free (is_taken (granules_of total holes)) n k (λ g u v. granule total g holes (omega (arith, l, v)) ∙ ap not (f g u v))

pub least_place : (total n i : ℕ) (h : Hole) (holes : List Hole) → 0 < n → slice_get holes i ≡ Some h → n ≤ h.count →
    ((j : ℕ) → j < i → (get_or holes j h).count < n) → AreApart 0 (total + 1) holes →
    least_free (is_taken (granules_of total holes)) n (total + 1 - n) 0 ≡ Some h.at
least_place total n i h holes p e l s a =
    let place = hole_within 0 (total + 1) i h holes a e in
    is_least (is_taken (granules_of total holes)) n (total + 1 - n) 0 h.at (omega arith) (omega (arith, place.2, l))
    (free_in total n h.at holes (omega (arith, place.2, l)) (fits_at n i h holes e l))
    (λ k u v. by k v (is_free_run (is_taken (granules_of total holes)) n k) refl)
  where
    by : (k : ℕ) → k < h.at → (b : Bool) → is_free_run (is_taken (granules_of total holes)) n k ≡ b → b ≡ false
    by k v true q =
        let place = hole_within 0 (total + 1) i h holes a e in
        let m = not_before n 0 (total + 1) k i h holes p e s a (lie_in total n k holes (omega (arith, v, place.2, l)) q) in
        absurd (omega (arith, m, v))
    by k v false q = refl

pub no_place : (total n : ℕ) (holes : List Hole) → 0 < n → ((j : ℕ) (d : Hole) → j < length holes → (get_or holes j d).count < n) → AreApart 0 (total + 1) holes →
    least_free (is_taken (granules_of total holes)) n (total + 1 - n) 0 ≡ None
no_place total n holes p s a =
    is_none (is_taken (granules_of total holes)) n (total + 1 - n) 0
    (λ k u v. by k v (is_free_run (is_taken (granules_of total holes)) n k) refl)
  where
    by : (k : ℕ) → k < 0 + (total + 1 - n) → (b : Bool) → is_free_run (is_taken (granules_of total holes)) n k ≡ b → b ≡ false
    by k v true q = none_fit n 0 (total + 1) k holes p s a (lie_in total n k holes (omega (arith, v)) q)
    by k v false q = refl
