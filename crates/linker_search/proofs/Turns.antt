-- The turns of a walk.
use Rattle.std.proofs.Common.{◌≡◌, ◌∙◌, refl, sym, ap, subst, ℕ, zero, suc, ◌+◌, ◌<◌, ◌≤◌, Bool, true, false, ◌||◌, List, [], ◌∷◌, ◌++◌, length, drop, reverse, slice_get, append_assoc, Some, None, nat_eq, true≢false, arith}
use Rattle.std.specs.Prelude.{flat_map, sum_by}
use Rattle.std.proofs.lemmas.List.{append-nil, reverse-append}
use Rattle.std.proofs.lemmas.List.Folds.{list_any-append}
use Rattle.std.proofs.lemmas.List.Sums.{sum_by-cons, sum_by_push}
use Rattle.jx_base.specs.Basics.{added, all_added}
use Rattle.jx_base.specs.declared.program.Class.{Class}
use Rattle.jx_base.specs.declared.program.System.{System}
use Rattle.jx_base.proofs.BasicLaws.{eq_of, same_number}
use Rattle.linker_outline.proofs.SelectorLists.{added_lists}
use Rattle.linker_search.specs.Visits.{IsOwed, above_at, rest_of, to_come, turns_of, turns_within}
use Rattle.linker_search.specs.Walked.{HasAll, has}
use Rattle.linker_search.specs.declared.walk.Visit.{Visit}
use Rattle.linker_search.proofs.Above.{drop_end, drop_next}
use Rattle.linker_search.proofs.Added.{all_next, all_stay, comes, kept, left, right}
use Rattle.linker_search.proofs.Walks.{led_to}
use Rattle.program_model.specs.Lookup.{supers_within}

-- ---- what lists have

-- the first of two lists is in both
in_front : (xs ys : List ℕ) → HasAll (xs ++ ys) xs
in_front xs ys n h = list_any-append (nat_eq n) xs ys ∙ left (has xs n) (has ys n) h

-- so is the second
in_back : (xs ys : List ℕ) → HasAll (xs ++ ys) ys
in_back xs ys n h = list_any-append (nat_eq n) xs ys ∙ right (has xs n) (has ys n) h

-- what has each of two lists has both
pub has_both : (zs xs ys : List ℕ) → HasAll zs xs → HasAll zs ys → HasAll zs (xs ++ ys)
has_both zs xs ys f g n h = by (has xs n) refl (sym (list_any-append (nat_eq n) xs ys) ∙ h)
  where
    by : (b : Bool) → has xs n ≡ b → (has xs n || has ys n) ≡ true → has zs n ≡ true
    by true q e = f n q
    by false q e = g n (ap (λ b. b || has ys n) (sym q) ∙ e)

-- what has a number and a list has it in front of that
pub has_first : (zs : List ℕ) (x : ℕ) (ys : List ℕ) → has zs x ≡ true → HasAll zs ys → HasAll zs (x ∷ ys)
has_first zs x ys e g n h = by (nat_eq n x) refl h
  where
    by : (b : Bool) → nat_eq n x ≡ b → (nat_eq n x || has ys n) ≡ true → has zs n ≡ true
    by true q i = ap (has zs) (eq_of n x q) ∙ e
    by false q i = g n (ap (λ b. b || has ys n) (sym q) ∙ i)

-- the first number of a list
pub first_of : (x : ℕ) (ys : List ℕ) → has (x ∷ ys) x ≡ true
first_of x ys = left (nat_eq x x) (has ys x) (same_number x)

-- the last one that was put behind others comes first from the end
pub newest : {A : Type 0} (xs : List A) (x : A) → reverse (xs ++ x ∷ []) ≡ x ∷ reverse xs
newest xs x = reverse-append xs (x ∷ [])

module _ (s : System) where
  -- more that is there serves as well
  pub owed_more : (vs : List Visit) (xs ys : List ℕ) → HasAll ys xs → IsOwed s xs vs → IsOwed s ys vs
  owed_more [] xs ys more owed = tt
  owed_more (v ∷ vs) xs ys more owed =
      let grown : HasAll (ys ++ rest_of s v) (xs ++ rest_of s v) = has_both (ys ++ rest_of s v) xs (rest_of s v) (λ n h. in_front ys (rest_of s v) n (more n h)) (in_back ys (rest_of s v)) in
      (λ n h. grown n (owed.0 n h), owed_more vs (xs ++ rest_of s v) (ys ++ rest_of s v) grown owed.1)

  -- each class takes a turn
  some_turns : (k c : ℕ) → 1 ≤ turns_within s k c
  unfolding turns_within
  some_turns zero c = omega arith
  some_turns (suc k) c = omega arith

  -- ---- a class to which the walk doesn't go on

  module _ (there : List ℕ) (steps c : ℕ) (known : HasAll there (supers_within s steps c)) where
    pub passed_order : (ts : List ℕ) → all_added nat_eq there ts ≡ all_added nat_eq there (supers_within s steps c ++ ts)
    passed_order ts =
        sym (added_lists nat_eq there (supers_within s steps c) ts ∙ ap (λ ks. all_added nat_eq ks ts) (all_stay there (supers_within s steps c) known))

    pub passed_owed : (vs : List Visit) → IsOwed s (there ++ supers_within s steps c) vs → IsOwed s there vs
    passed_owed vs = owed_more vs (there ++ supers_within s steps c) there (has_both there there (supers_within s steps c) (λ n h. h) known)

  pub passed_turns : (steps c n : ℕ) → n < turns_within s steps c + n
  passed_turns steps c n = omega (arith, some_turns steps c)

  -- ---- a class that the walk comes to

  module _ (there : List ℕ) (k c : ℕ) (x : Class) (is : slice_get s.program.classes c ≡ Some x) where
    -- what the class leads on to
    abbrev on : List ℕ
    on = flat_map (supers_within s k) (above_at s c)

    pub come_order : (ts : List ℕ) → all_added nat_eq (added nat_eq there c) (on ++ ts) ≡ all_added nat_eq there (supers_within s (suc k) c ++ ts)
    come_order ts = all_next there c (on ++ ts) ∙ ap (λ xs. all_added nat_eq there (xs ++ ts)) (sym (led_to s k c x is))

    -- the class is there
    here : has (added nat_eq there c ++ on) c ≡ true
    here = in_front (added nat_eq there c) on c (comes there c)

    -- it and what it leads to
    whole : HasAll (added nat_eq there c ++ on) (supers_within s (suc k) c)
    whole = subst (HasAll (added nat_eq there c ++ on)) (sym (led_to s k c x is)) (has_first (added nat_eq there c ++ on) c on here (in_back (added nat_eq there c) on))

    pub come_owed : (vs : List Visit) → IsOwed s (there ++ supers_within s (suc k) c) vs
        → HasAll (added nat_eq there c ++ on) (c ∷ supers_within s (suc k) c) × IsOwed s (added nat_eq there c ++ on) vs
    come_owed vs owed = (
      has_first (added nat_eq there c ++ on) c (supers_within s (suc k) c) here whole,
      owed_more vs (there ++ supers_within s (suc k) c) (added nat_eq there c ++ on)
          (has_both (added nat_eq there c ++ on) there (supers_within s (suc k) c) (λ n h. in_front (added nat_eq there c) on n (kept there c n h)) whole) owed,
    )

  pub come_turns : (vs : List Visit) (v : Visit) → v.place ≡ 0 → sum_by (turns_of s) (vs ++ v ∷ []) < turns_within s (suc v.steps) v.class + sum_by (turns_of s) vs
  unfolding turns_within
  come_turns vs v first =
      let all : sum_by (turns_of s) (vs ++ v ∷ []) ≡ sum_by (turns_of s) vs + turns_of s v = sum_by_push (turns_of s) vs v in
      let one : turns_of s v ≡ 1 + sum_by (turns_within s v.steps) (above_at s v.class) = ap (λ n. 1 + sum_by (turns_within s v.steps) (drop n (above_at s v.class))) first in
      omega (arith, all, one)

  -- ---- a visit that goes on

  module _ (v : Visit) (a : ℕ) (next : slice_get (above_at s v.class) v.place ≡ Some a) where
    -- the visit from the next place on
    abbrev pub onward : Visit
    onward = record { class = v.class; steps = v.steps; place = v.place + 1 }

    -- what it leads to
    split : rest_of s v ≡ supers_within s v.steps a ++ rest_of s onward
    split = ap (flat_map (supers_within s v.steps)) (drop_next (above_at s v.class) v.place a next)

    pub go_owed : (there : List ℕ) (vs : List Visit) → IsOwed s there (v ∷ vs) → IsOwed s (there ++ supers_within s v.steps a) (onward ∷ vs)
    go_owed there vs owed =
        let all : there ++ rest_of s v ≡ (there ++ supers_within s v.steps a) ++ rest_of s onward =
        ap (λ xs. there ++ xs) split ∙ sym (append_assoc there (supers_within s v.steps a) (rest_of s onward)) in
        (subst (λ ks. HasAll ks (v.class ∷ supers_within s (suc v.steps) v.class)) all owed.0, subst (λ ks. IsOwed s ks vs) all owed.1)

    pub go_order : (there : List ℕ) (vs : List Visit) → all_added nat_eq there (supers_within s v.steps a ++ to_come s (onward ∷ vs)) ≡ all_added nat_eq there (to_come s (v ∷ vs))
    go_order there vs =
        ap (all_added nat_eq there) (sym (append_assoc (supers_within s v.steps a) (rest_of s onward) (to_come s vs)) ∙ ap (λ xs. xs ++ to_come s vs) (sym split))

    pub go_turns : (vs : List Visit) → turns_within s v.steps a + sum_by (turns_of s) (vs ++ onward ∷ []) ≡ turns_of s v + sum_by (turns_of s) vs
    go_turns vs =
        let all : sum_by (turns_of s) (vs ++ onward ∷ []) ≡ sum_by (turns_of s) vs + turns_of s onward = sum_by_push (turns_of s) vs onward in
        let one : sum_by (turns_within s v.steps) (drop v.place (above_at s v.class)) ≡ turns_within s v.steps a + sum_by (turns_within s v.steps) (drop (v.place + 1) (above_at s v.class)) =
        ap (sum_by (turns_within s v.steps)) (drop_next (above_at s v.class) v.place a next) ∙ sum_by-cons (turns_within s v.steps) a (drop (v.place + 1) (above_at s v.class)) in
        omega (arith, all, one)

  -- ---- a visit that ends

  module _ (v : Visit) (next : slice_get (above_at s v.class) v.place ≡ None) where
    ended : rest_of s v ≡ []
    ended = ap (flat_map (supers_within s v.steps)) (drop_end (above_at s v.class) v.place next)

    pub end_owed : (there : List ℕ) (vs : List Visit) → IsOwed s there (v ∷ vs) → HasAll there (v.class ∷ supers_within s (suc v.steps) v.class) × IsOwed s there vs
    end_owed there vs owed =
        let all : there ++ rest_of s v ≡ there = ap (λ xs. there ++ xs) ended ∙ append-nil there in
        (subst (λ ks. HasAll ks (v.class ∷ supers_within s (suc v.steps) v.class)) all owed.0, subst (λ ks. IsOwed s ks vs) all owed.1)

    pub end_order : (there : List ℕ) (vs : List Visit) → all_added nat_eq there (to_come s vs) ≡ all_added nat_eq there (to_come s (v ∷ vs))
    end_order there vs = ap (λ xs. all_added nat_eq there (xs ++ to_come s vs)) (sym ended)

-- nothing is everywhere
pub none_known : (there xs : List ℕ) → xs ≡ [] → HasAll there xs
none_known there xs e n h = absurd (true≢false (sym h ∙ ap (λ ys. has ys n) e))

-- there is an item at each place of a list
pub item_at : {A : Type 0} (xs : List A) (i : ℕ) → i < length xs → (x : A) × (slice_get xs i ≡ Some x)
item_at [] i le = absurd (omega (arith, le))
item_at (x ∷ xs) zero le = (x, refl)
item_at (x ∷ xs) (suc i) le = item_at xs i (omega (arith, le))

-- a list without items
pub nothing_in : {A : Type 0} (xs : List A) → length xs ≡ 0 → xs ≡ []
nothing_in [] e = refl
nothing_in (x ∷ xs) e = absurd (omega (arith, e))
