-- What a pool is seen as, and its invariant, once granules are taken or given.
use Rattle.std.proofs.Common.{◌≡◌, refl, sym, ◌∙◌, ap, ap, subst, ℕ, suc, zero, ◌+◌, ◌-◌, ◌<◌, ◌≤◌, Bool, true, false, not, ◌||◌, List, [], ◌∷◌, Option, Some, None, IfSome, arith, if◌then◌else◌, ◌==◌, replicate, take, drop, slice_get, get_or, length, position, sum_by, All}
use Rattle.std.specs.Prelude.{nat_lt, nat_le}
use Rattle.std.specs.List.{AllWithin}
use Rattle.std.proofs.lemmas.List.{get_or-take, get_or-drop, length-take-le, length-drop, take-append-drop}
use Rattle.std.proofs.lemmas.List.Folds.{list_any-append}
use Rattle.std.proofs.lemmas.List.Quantifiers.{position-Some}
use Rattle.std.proofs.lemmas.List.Sums.{sum_by-take-drop}
use Rattle.std.proofs.lemmas.Option.{slice_get-get_or}
use Rattle.std.proofs.lemmas.Bool.Decides.{nat_tests}
use Rattle.jx_base.proofs.BasicLaws.{at_most, beyond, eq_of, differs}
use Rattle.jx_model.specs.Granules.{lies_in, least_free}
use Rattle.extent_pool.specs.declared.hole.Hole.{Hole}
use Rattle.extent_pool.specs.Holes.{lies_in_hole, lies_in_holes, granules_of, AreApart}
use Rattle.extent_pool.specs.Joins.{one_hole, cut_front, joined}
use Rattle.extent_pool.specs.Taken.{is_taken, AreTaken, with_run}
use Rattle.extent_pool.proofs.Apart.{apart_lower, hole_within}
use Rattle.extent_pool.proofs.Cuts.{cut_granule}
use Rattle.extent_pool.proofs.Release.{joined_granule, joined_apart, joined_sum, ends_before, begin_behind}
use Rattle.extent_pool.proofs.Views.{granule, granule_past, granules_length, granules_changed, all_spare, run_taken, least_place, no_place}
use Rattle.extent_pool.proofs.Places.{all_fail}
use Rattle.extent_pool.proofs.Lies.{lies, within}
use Rattle.std.proofs.lemmas.List.FromFn.{fill_by_all}

pub if_some : (P : Hole → Type 0) (o : Option Hole) (h : Hole) → o ≡ Some h → IfSome o P → P h
if_some P o h e = subst (λ (x : Option Hole). IfSome x P) e

-- whether a hole has n granules
abbrev pub large : ℕ → Hole → Bool
large n h = nat_le n h.count

-- ---- a new pool

pub whole_apart : (n : ℕ) (holes : List Hole) → holes ≡ one_hole n → AreApart 0 (n + 1) holes
whole_apart n holes e = subst (AreApart 0 (n + 1)) (sym e) (by (n == 0) refl)
  where
    by : (b : Bool) → (n == 0) ≡ b → AreApart 0 (n + 1) (if b then [] else record { at = 0; count = n } ∷ [])
    by true q = tt
    by false q = let d = differs n 0 q in (omega arith, omega (arith, d), omega arith, tt)

pub whole_sum : (n : ℕ) (holes : List Hole) → holes ≡ one_hole n → sum_by (λ (h : Hole). h.count) holes ≡ n
whole_sum n holes e = ap (λ (xs : List Hole). sum_by (λ (h : Hole). h.count) xs) e ∙ by (n == 0) refl
  where
    by : (b : Bool) → (n == 0) ≡ b → sum_by (λ (h : Hole). h.count) (if b then [] else record { at = 0; count = n } ∷ []) ≡ n
    by true q = sym (eq_of n 0 q)
    by false q = omega arith

pub whole_view : (n : ℕ) (holes : List Hole) → holes ≡ one_hole n → granules_of n holes ≡ replicate n false
whole_view n holes e = all_spare n holes (λ g l. ap (λ (xs : List Hole). lies_in_holes xs g) e ∙ by g l (n == 0) refl)
  where
    by : (g : ℕ) → g < n → (b : Bool) → (n == 0) ≡ b → lies_in_holes (if b then [] else record { at = 0; count = n } ∷ []) g ≡ true
    by g l true q = absurd (omega (arith, l, eq_of n 0 q))
    by g l false q = ap (λ (b : Bool). b || false) (lies g 0 n (omega arith) (omega (arith, l)))

-- ---- the hole that is found

-- the hole that the code finds
pub found_in : (n : ℕ) (slice holes : List Hole) (result place : Option ℕ) → slice ≡ holes → result ≡ position (large n) slice → result ≡ place →
    position (large n) holes ≡ place
found_in n slice holes result place e f g = sym (f ∙ ap (position (large n)) e) ∙ g

abbrev pub no_hole : Hole
no_hole = record { at = 0; count = 0 }

abbrev pub hole_at : List Hole → ℕ → Hole
hole_at holes i = get_or holes i no_hole

module _ (n i : ℕ) (holes : List Hole) (found : position (large n) holes ≡ Some i) where
  pub found_within : i < length holes
  found_within = (position-Some (large n) holes i no_hole found).0

  pub found_at : slice_get holes i ≡ Some (hole_at holes i)
  found_at = slice_get-get_or holes i no_hole found_within

  pub found_large : n ≤ (hole_at holes i).count
  found_large = at_most n (hole_at holes i).count (position-Some (large n) holes i no_hole found).1

  pub found_first : (j : ℕ) → j < i → (get_or holes j (hole_at holes i)).count < n
  found_first j l = beyond n (get_or holes j (hole_at holes i)).count ((position-Some (large n) holes i (hole_at holes i) found).2 j l)

pub found_place : (total n i at : ℕ) (holes : List Hole) (old : List Bool) → granules_of total holes ≡ old → 0 < n → AreApart 0 (total + 1) holes →
    position (large n) holes ≡ Some i → at ≡ (hole_at holes i).at → Some at ≡ least_free (is_taken old) n (length old + 1 - n) 0
found_place total n i at holes old v p a found is =
    ap Some is
    ∙ sym (least_place total n i (hole_at holes i) holes p (found_at n i holes found) (found_large n i holes found) (found_first n i holes found) a)
    ∙ ap (λ (x : ℕ). least_free (is_taken (granules_of total holes)) n (x + 1 - n) 0) (sym (granules_length total holes))
    ∙ ap (λ (xs : List Bool). least_free (is_taken xs) n (length xs + 1 - n) 0) v

pub found_none : (total n : ℕ) (holes : List Hole) (old : List Bool) → granules_of total holes ≡ old → 0 < n → AreApart 0 (total + 1) holes →
    position (large n) holes ≡ None → None ≡ least_free (is_taken old) n (length old + 1 - n) 0
found_none total n holes old v p a none =
    sym (no_place total n holes p (λ j d l. beyond n (get_or holes j d).count (all_fail (large n) holes none j d l)) a)
    ∙ ap (λ (x : ℕ). least_free (is_taken (granules_of total holes)) n (x + 1 - n) 0) (sym (granules_length total holes))
    ∙ ap (λ (xs : List Bool). least_free (is_taken xs) n (length xs + 1 - n) 0) v

pub taken_view : (total n i at : ℕ) (h : Hole) (holes new : List Hole) (old : List Bool) → granules_of total holes ≡ old → AreApart 0 (total + 1) holes →
    slice_get holes i ≡ Some h → n ≤ h.count → new ≡ cut_front n holes i → at ≡ h.at → granules_of total new ≡ with_run old at n true
taken_view total n i at h holes new old v a e l is place =
    granules_changed total at n true holes new
    (λ g m. ap (λ (xs : List Hole). not (lies_in_holes xs g)) is
    ∙ cut_granule n (total + 1) i g h holes e l a
    ∙ ap (λ (x : ℕ). if lies_in g (x, n) then true else not (lies_in_holes holes g)) (sym place))
    ∙ ap (λ (xs : List Bool). with_run xs at n true) v

-- what is taken may be given
pub taken_given : (total n i at : ℕ) (h : Hole) (holes new : List Hole) (old : List Bool) → granules_of total holes ≡ old → AreApart 0 (total + 1) holes →
    slice_get holes i ≡ Some h → n ≤ h.count → new ≡ cut_front n holes i → at ≡ h.at → AreTaken (granules_of total new) at n
taken_given total n i at h holes new old v a e l is place =
    let within_pool = hole_within 0 (total + 1) i h holes a e in
    subst (λ (xs : List Bool). AreTaken xs at n) (sym (taken_view total n i at h holes new old v a e l is place))
    (run_taken old at n (omega (arith, within_pool.2, l, place, granules_length total holes, ap length v)))

-- ---- granules that are given

pub apart_take : (low limit b : ℕ) (holes : List Hole) → AreApart low limit holes → AreApart low limit (take b holes)
apart_take low limit zero holes a = tt
apart_take low limit (suc b) [] a = tt
apart_take low limit (suc b) (h ∷ holes) a = (a.0, a.1, a.2, apart_take (h.at + h.count + 1) limit b holes a.3)

pub apart_drop : (low limit b : ℕ) (holes : List Hole) → AreApart low limit holes → AreApart low limit (drop b holes)
apart_drop low limit zero holes a = a
apart_drop low limit (suc b) [] a = tt
apart_drop low limit (suc b) (h ∷ holes) a =
    apart_lower low (h.at + h.count + 1) limit (drop b holes) (omega (arith, a.0)) (apart_drop (h.at + h.count + 1) limit b holes a.3)

pub lies_parts : (b g : ℕ) (holes : List Hole) → lies_in_holes holes g ≡ (lies_in_holes (take b holes) g || lies_in_holes (drop b holes) g)
lies_parts b g holes =
    ap (λ (xs : List Hole). lies_in_holes xs g) (sym (take-append-drop b holes))
    ∙ list_any-append (lies_in_hole g) (take b holes) (drop b holes)

-- a taken granule is one of the pool's and lies in no hole
pub not_free : (total g : ℕ) (holes : List Hole) → is_taken (granules_of total holes) g ≡ true → (g < total) × (lies_in_holes holes g ≡ false)
not_free total g holes t = by (nat_lt g total) refl
  where
    turn : (b : Bool) → not b ≡ true → b ≡ false
    turn true e = cc
    turn false e = refl

    by : (b : Bool) → nat_lt g total ≡ b → (g < total) × (lies_in_holes holes g ≡ false)
    by true q = let l : g < total = grind (arith, nat_tests) in (l, turn (lies_in_holes holes g) (sym (granule total g holes l) ∙ t))
    by false q = let l : total ≤ g = grind (arith, nat_tests) in cc (granule_past total g holes l, t)

-- so many holes begin before a granule, and the others from there on
abbrev pub IsSplit : List Hole → ℕ → ℕ → Type 0
IsSplit holes at b = (b ≤ length holes) × AllWithin (λ h. h.at < at) holes 0 b × AllWithin (λ h. at ≤ h.at) holes b (length holes)

module _ (total at n b : ℕ) (holes : List Hole) (old : List Bool) (v : granules_of total holes ≡ old) (a : AreApart 0 (total + 1) holes) (t : AreTaken old at n) (some : 0 < n)
    (split : IsSplit holes at b) where
  abbrev freed : Hole
  freed = record { at = at; count = n }

  taken : (g : ℕ) → at ≤ g → g < at + n → (g < total) × (lies_in_holes holes g ≡ false)
  taken g l m = not_free total g holes (ap (λ (xs : List Bool). is_taken xs g) v ∙ t g l m)

  pub given_end : at + n ≤ total
  given_end = let last = taken (at + n - 1) (omega (arith, some)) (omega (arith, some)) in omega (arith, last.0, some)

  neither : (x y : Bool) → (x || y) ≡ false → (x ≡ false) × (y ≡ false)
  neither true y e = cc
  neither false y e = (refl, e)

  parts : (g : ℕ) → at ≤ g → g < at + n → (lies_in_holes (take b holes) g ≡ false) × (lies_in_holes (drop b holes) g ≡ false)
  parts g l m = neither (lies_in_holes (take b holes) g) (lies_in_holes (drop b holes) g) (sym (lies_parts b g holes) ∙ (taken g l m).1)

  first_ones : All (λ h. h.at < at) (take b holes)
  first_ones k d l =
      let m : k < b = omega (arith, l, length-take-le b holes split.0) in
      subst (λ (x : Hole). x.at < at) (sym (get_or-take b holes k d m)) (split.1 k d (omega arith) m)

  later_ones : All (λ h. at ≤ h.at) (drop b holes)
  later_ones k d l =
      subst (λ (x : Hole). at ≤ x.at) (sym (get_or-drop b holes k d)) (split.2 (b + k) d (omega arith) (omega (arith, l, length-drop b holes, split.0)))

  pub given_apart : AreApart 0 (total + 1) (joined (take b holes) freed (drop b holes))
  given_apart =
      joined_apart 0 (total + 1) (take b holes) freed (drop b holes) (omega arith) some (omega (arith, given_end))
      (ends_before 0 (total + 1) at (take b holes) (apart_take 0 (total + 1) b holes a) first_ones (parts at (omega arith) (omega (arith, some))).0)
      (begin_behind 0 (total + 1) at n (drop b holes) (apart_drop 0 (total + 1) b holes a) later_ones (λ g l m. (parts g l m).1))

  pub given_sum : sum_by (λ (h : Hole). h.count) (joined (take b holes) freed (drop b holes)) ≡ sum_by (λ (h : Hole). h.count) holes + n
  given_sum = omega (arith, joined_sum (take b holes) freed (drop b holes), sum_by-take-drop (λ (h : Hole). h.count) holes b)

  pub given_view : (new : List Hole) → new ≡ joined (take b holes) freed (drop b holes) → granules_of total new ≡ with_run old at n false
  given_view new is =
      granules_changed total at n false holes new
      (λ g m. ap (λ (xs : List Hole). not (lies_in_holes xs g)) is
      ∙ joined_granule g (take b holes) freed (drop b holes) (lies_in_holes holes g) (lies_parts b g holes))
      ∙ ap (λ (xs : List Bool). with_run xs at n false) v

-- nothing is given
pub given_none : (old : List Bool) (at n : ℕ) → n ≡ 0 → old ≡ with_run old at n false
given_none old at n e = fill_by_all after old (length old) false refl (λ g l. sym (plain g (lies_in g (at, n)) refl))
  where
    after : ℕ → Bool
    after g = if lies_in g (at, n) then false else is_taken old g

    plain : (g : ℕ) (b : Bool) → lies_in g (at, n) ≡ b → (if b then false else is_taken old g) ≡ is_taken old g
    plain g true q = let in_run = within g at n q in absurd (omega (arith, in_run.0, in_run.1, e))
    plain g false q = refl
