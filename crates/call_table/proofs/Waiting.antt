-- Calls that wait, in the order of their numbers.
use Rattle.std.proofs.Common.{◌≡◌, ◌≢◌, refl, sym, ◌∙◌, ap, ℕ, suc, zero, ◌+◌, ◌<◌, Bool, true, false, not, cond, ◌||◌, ◌&&◌, add-one, List, [], ◌∷◌, ◌++◌, length, map, filter, Option, Some, None, slice_get, arith, ◌==◌, ◌⊎◌, inl, inr}
use Rattle.std.specs.Prelude.{nat_lt}
use Rattle.std.specs.List.{list_any, position, position_or_len, range_with_len}
use Rattle.std.specs.Option.{option_map}
use Rattle.std.proofs.lemmas.Bool.Decides.{nat_tests}
use Rattle.std.proofs.lemmas.List.Elements.{filter-append}
use Rattle.std.proofs.lemmas.Map.Views.{any-filter_same}
use Rattle.std.proofs.lemmas.Option.{slice_get-map, slice_get_within}
use Rattle.jx_base.specs.Basics.{passes}
use Rattle.jx_base.proofs.BasicLaws.{and_false, and_true, ap2, eq_of, get_left, get_right}
use Rattle.table_threads.specs.Changes.{changed_at}
use Rattle.table_threads.proofs.Records.{any_at, filter_range, filter_twice, is_that, not_that, or_false, range_more, same_or_not}
use Rattle.call_table.specs.declared.calls.Call.{Call}
use Rattle.call_table.specs.Inner.{places}
use Rattle.call_table.specs.QueueLists.{has, without}
use Rattle.call_table.proofs.Lists.{get_changed, get_other, length_changed}

-- ---- places

-- a place is in the list where its call passes
pub has_places : (p : Call → Bool) (calls : List Call) (i : ℕ) → has (places p calls) i ≡ passes p (slice_get calls i)
unfolding passes
has_places p calls i =
    any-filter_same (λ k. i == k) (λ k. passes p (slice_get calls k)) (passes p (slice_get calls i)) (λ k e. ap (λ (j : ℕ). passes p (slice_get calls j)) (sym (eq_of i k e))) (range_with_len 0 (length calls))
    ∙ by (slice_get calls i) refl
  where
    by : (o : Option Call) → slice_get calls i ≡ o → (passes p o && has (range_with_len 0 (length calls)) i) ≡ passes p o
    by None e = refl
    by (Some c) e =
        let l : i < length calls = slice_get_within calls i c e in
        let there : has (range_with_len 0 (length calls)) i ≡ true = any_at (λ k. i == k) 0 (length calls) i (omega arith) (omega (arith, l)) (is_that i i refl) in
        rw there (and_true (p c))

-- the places of one call more
pub places_more : (p : Call → Bool) (calls : List Call) (c : Call) → places p (calls ++ c ∷ []) ≡ places p calls ++ cond (p c) (length calls ∷ []) []
unfolding passes
places_more p calls c =
    let n = length calls in
    let test : ℕ → Bool = λ i. passes p (slice_get (calls ++ c ∷ []) i) in
    let same : filter test (range_with_len 0 n) ≡ places p calls = filter_range test (λ i. passes p (slice_get calls i)) 0 n (λ k a b. ap (passes p) (get_left calls (c ∷ []) k (omega (arith, b)))) in
    let last : test (0 + n) ≡ p c = ap (passes p) (get_right calls (c ∷ []) 0 (0 + n) (omega arith)) in
    ap (λ (k : ℕ). filter test (range_with_len 0 k)) (count calls)
    ∙ ap (filter test) (range_more 0 n)
    ∙ filter-append test (range_with_len 0 n) ((0 + n) ∷ [])
    ∙ ap2 (λ (xs : List ℕ) (b : Bool). xs ++ cond b ((0 + n) ∷ []) []) same last
    ∙ ap (λ (k : ℕ). places p calls ++ cond (p c) (k ∷ []) []) (omega arith)
  where
    count : (xs : List Call) → length (xs ++ c ∷ []) ≡ suc (length xs)
    count [] = refl
    count (x ∷ xs) = ap suc (count xs)

-- the places after a call that changed, and passes no more
pub places_left : (p : Call → Bool) (calls : List Call) (n : ℕ) (g : Call → Call) (c : Call) → slice_get calls n ≡ Some c → p (g c) ≡ false →
    places p (changed_at n g calls) ≡ without n (places p calls)
unfolding passes
places_left p calls n g c at gone =
    ap (λ (k : ℕ). filter (λ i. passes p (slice_get (changed_at n g calls) i)) (range_with_len 0 k)) (length_changed n g calls)
    ∙ filter_range (λ i. passes p (slice_get (changed_at n g calls) i)) (λ i. passes p (slice_get calls i) && not (n == i)) 0 (length calls) (λ k a b. by k (same_or_not n k))
    ∙ filter_twice (λ i. passes p (slice_get calls i)) (λ i. not (n == i)) (range_with_len 0 (length calls))
  where
    by : (k : ℕ) → (n ≡ k) ⊎ (n ≢ k) → passes p (slice_get (changed_at n g calls) k) ≡ (passes p (slice_get calls k) && not (n == k))
    by k (inl e) =
        let new : slice_get (changed_at n g calls) k ≡ Some (g c) = ap (slice_get (changed_at n g calls)) (sym e) ∙ get_changed n g calls c at in
        ap (passes p) new ∙ gone ∙ rw (is_that n k e) (sym (and_false (passes p (slice_get calls k))))
    by k (inr d) = ap (passes p) (get_other n k g calls d) ∙ rw (not_that n k (λ e. d (sym e))) (sym (and_true (passes p (slice_get calls k))))

-- ---- tests of one call

-- a call that changed passes as before
pub passes_same : (p : Call → Bool) (calls : List Call) (n : ℕ) (g : Call → Call) (c : Call) (i : ℕ) → slice_get calls n ≡ Some c → p c ≡ p (g c) →
    passes p (slice_get (changed_at n g calls) i) ≡ passes p (slice_get calls i)
unfolding passes
passes_same p calls n g c i at same = by (same_or_not n i)
  where
    by : (n ≡ i) ⊎ (n ≢ i) → passes p (slice_get (changed_at n g calls) i) ≡ passes p (slice_get calls i)
    by (inl e) =
        let new : slice_get (changed_at n g calls) i ≡ Some (g c) = ap (slice_get (changed_at n g calls)) (sym e) ∙ get_changed n g calls c at in
        let old : slice_get calls i ≡ Some c = ap (slice_get calls) (sym e) ∙ at in
        ap (passes p) new ∙ sym same ∙ sym (ap (passes p) old)
    by (inr d) = ap (passes p) (get_other n i g calls d)

-- the places where the test of a call that changed stays
pub places_same : (p : Call → Bool) (calls : List Call) (n : ℕ) (g : Call → Call) (c : Call) → slice_get calls n ≡ Some c → p c ≡ p (g c) → places p (changed_at n g calls) ≡ places p calls
unfolding passes
places_same p calls n g c at same =
    ap (λ (k : ℕ). filter (λ i. passes p (slice_get (changed_at n g calls) i)) (range_with_len 0 k)) (length_changed n g calls)
    ∙ filter_range (λ i. passes p (slice_get (changed_at n g calls) i)) (λ i. passes p (slice_get calls i)) 0 (length calls) (λ k a b. passes_same p calls n g c k at same)

-- it passes no more
pub passes_left : (p : Call → Bool) (calls : List Call) (n : ℕ) (g : Call → Call) (c : Call) (i : ℕ) → slice_get calls n ≡ Some c → p (g c) ≡ false →
    passes p (slice_get (changed_at n g calls) i) ≡ (not (n == i) && passes p (slice_get calls i))
unfolding passes
passes_left p calls n g c i at gone = by (same_or_not n i)
  where
    by : (n ≡ i) ⊎ (n ≢ i) → passes p (slice_get (changed_at n g calls) i) ≡ (not (n == i) && passes p (slice_get calls i))
    by (inl e) =
        let new : slice_get (changed_at n g calls) i ≡ Some (g c) = ap (slice_get (changed_at n g calls)) (sym e) ∙ get_changed n g calls c at in
        rw (is_that n i e) (ap (passes p) new ∙ gone)
    by (inr d) = rw (not_that n i (λ e. d (sym e))) (ap (passes p) (get_other n i g calls d))

-- it passes now
pub passes_come : (p : Call → Bool) (calls : List Call) (n : ℕ) (g : Call → Call) (c : Call) (i : ℕ) → slice_get calls n ≡ Some c → p (g c) ≡ true →
    passes p (slice_get (changed_at n g calls) i) ≡ (passes p (slice_get calls i) || (i == n))
unfolding passes
passes_come p calls n g c i at come = by (same_or_not n i)
  where
    or_true : (b : Bool) → true ≡ (b || true)
    or_true true = refl
    or_true false = refl

    by : (n ≡ i) ⊎ (n ≢ i) → passes p (slice_get (changed_at n g calls) i) ≡ (passes p (slice_get calls i) || (i == n))
    by (inl e) =
        let new : slice_get (changed_at n g calls) i ≡ Some (g c) = ap (slice_get (changed_at n g calls)) (sym e) ∙ get_changed n g calls c at in
        rw (is_that i n (sym e)) (ap (passes p) new ∙ come ∙ or_true (passes p (slice_get calls i)))
    by (inr d) = rw (not_that i n d) (ap (passes p) (get_other n i g calls d) ∙ sym (or_false (passes p (slice_get calls i))))

-- one call more that doesn't pass
pub passes_more : (p : Call → Bool) (calls : List Call) (c : Call) (i : ℕ) → p c ≡ false → passes p (slice_get (calls ++ c ∷ []) i) ≡ passes p (slice_get calls i)
unfolding passes
passes_more p [] c zero h = h
passes_more p [] c (suc i) h = refl
passes_more p (x ∷ calls) c zero h = refl
passes_more p (x ∷ calls) c (suc i) h = passes_more p calls c i h

-- where no call passes
pub none_pass : (p : Call → Bool) (calls : List Call) → ((i : ℕ) → passes p (slice_get calls i) ≡ false) → list_any p calls ≡ false
unfolding passes
none_pass p [] h = refl
none_pass p (c ∷ calls) h = rw (h zero) (none_pass p calls (λ i. h (suc i)))

-- ---- the first place

filter_shifted : (f : ℕ → Bool) (a n : ℕ) → filter f (range_with_len (a + 1) n) ≡ map suc (filter (λ i. f (suc i)) (range_with_len a n))
filter_shifted f a zero = refl
filter_shifted f a (suc n) =
    ap (λ (k : ℕ). cond (f k) (k ∷ filter f (range_with_len (a + 1 + 1) n)) (filter f (range_with_len (a + 1 + 1) n))) (add-one a)
    ∙ ap (λ (xs : List ℕ). cond (f (suc a)) (suc a ∷ xs) xs) (filter_shifted f (a + 1) n)
    ∙ by (f (suc a)) (filter (λ i. f (suc i)) (range_with_len (a + 1) n))
  where
    by : (b : Bool) (xs : List ℕ) → cond b (suc a ∷ map suc xs) (map suc xs) ≡ map suc (cond b (a ∷ xs) xs)
    by true xs = refl
    by false xs = refl

position_next : (p : Call → Bool) (c : Call) (calls : List Call) → position p (c ∷ calls) ≡ cond (p c) (Some 0) (option_map suc (position p calls))
position_next p c calls = by (p c)
  where
    shift : (k n : ℕ) → cond (nat_lt (1 + k) (suc n)) (Some (1 + k)) None ≡ option_map suc (cond (nat_lt k n) (Some k) None)
    shift k n = by (nat_lt k n) refl
      where
        by : (b : Bool) → nat_lt k n ≡ b → cond (nat_lt (1 + k) (suc n)) (Some (1 + k)) None ≡ option_map suc (cond b (Some k) None)
        by true h = let same : nat_lt (1 + k) (suc n) ≡ true = grind (arith, nat_tests, h) in rw same (ap Some (omega arith))
        by false h = let same : nat_lt (1 + k) (suc n) ≡ false = grind (arith, nat_tests, h) in rw same refl

    by : (b : Bool) → cond (nat_lt (cond (not b) (1 + position_or_len p calls) 0) (suc (length calls))) (Some (cond (not b) (1 + position_or_len p calls) 0)) None ≡ cond b (Some 0) (option_map suc (position p calls))
    by true = let yes : nat_lt 0 (suc (length calls)) ≡ true = grind (arith, nat_tests) in rw yes refl
    by false = shift (position_or_len p calls) (length calls)

-- the first place is that of the first call that passes
pub first_place : (p : Call → Bool) (calls : List Call) → slice_get (places p calls) 0 ≡ position p calls
unfolding passes
first_place p [] = refl
first_place p (c ∷ calls) =
    ap (λ (xs : List ℕ). slice_get (cond (p c) (0 ∷ xs) xs) 0) (filter_shifted (λ i. passes p (slice_get (c ∷ calls) i)) 0 (length calls))
    ∙ by (p c) (places p calls) (first_place p calls)
    ∙ sym (position_next p c calls)
  where
    by : (b : Bool) (xs : List ℕ) → slice_get xs 0 ≡ position p calls → slice_get (cond b (0 ∷ map suc xs) (map suc xs)) 0 ≡ cond b (Some 0) (option_map suc (position p calls))
    by true xs h = refl
    by false xs h = slice_get-map suc xs 0 ∙ ap (option_map suc) h
