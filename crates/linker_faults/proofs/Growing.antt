-- Lists of numbers that grow at their ends, without repeats.
use Rattle.std.proofs.Common.{◌≡◌, ◌∙◌, refl, sym, ap, subst, ℕ, ◌+◌, ◌<◌, ◌≤◌, ◌==◌, ◌||◌, Bool, true, false, inl, inr, List, [], ◌∷◌, ◌++◌, length, reverse, take, get_or, append_assoc, true≢false, arith}
use Rattle.std.specs.Prelude.{if◌then◌else◌}
use Rattle.std.specs.List.{list_any}
use Rattle.std.proofs.lemmas.Bool.{cases_Bool}
use Rattle.std.proofs.lemmas.Bool.Decides.{nat_tests}
use Rattle.std.proofs.lemmas.List.{append-nil, length-append, nil_from_length, reverse-append, take_more}
use Rattle.std.proofs.lemmas.List.Folds.{list_any-append}
use Rattle.std.proofs.lemmas.List.Sorted.{list_any-IsPermutation, IsPermutation-reverse}
use Rattle.jx_base.specs.Basics.{added, all_added, distinct, distinct_after, firsts, firsts_after}
use Rattle.jx_base.proofs.BasicLaws.{ap2, eq_of, same_number}
use Rattle.linker_faults.specs.Hierarchies.{joined}
use Rattle.linker_outline.proofs.SelectorLists.{added_last, added_lists}

-- whether the number is in the list
abbrev pub has : List ℕ → ℕ → Bool
has xs x = list_any (λ y. y == x) xs

-- the numbers with one more behind them, unless it is among them
abbrev pub with_one : List ℕ → ℕ → List ℕ
with_one xs x = added (λ x y. y == x) xs x

-- a number that is there is not added
pub kept : (xs : List ℕ) (x : ℕ) → has xs x ≡ true → with_one xs x ≡ xs
unfolding added
kept xs x e = rw e refl

-- another one is
pub grown : (xs : List ℕ) (x : ℕ) → has xs x ≡ false → with_one xs x ≡ xs ++ x ∷ []
unfolding added
grown xs x e = rw e refl

-- a number is among those that are known, newest first
any_seen : (known : List ℕ) (x : ℕ) → has (reverse known) x ≡ has known x
any_seen known x = sym (list_any-IsPermutation (λ y. y == x) known (reverse known) (IsPermutation-reverse known))

-- one that was seen is left out
left_out : (known : List ℕ) (x : ℕ) (xs : List ℕ) → has known x ≡ true → firsts_after (reverse known) (x ∷ xs) ≡ firsts_after (reverse known) xs
unfolding distinct_after
left_out known x xs e = rw (any_seen known x ∙ e, distinct_after) refl

-- another one comes first
comes_first : (known : List ℕ) (x : ℕ) (xs : List ℕ) → has known x ≡ false → firsts_after (reverse known) (x ∷ xs) ≡ x ∷ firsts_after (x ∷ reverse known) xs
unfolding distinct_after
comes_first known x xs e = rw (any_seen known x ∙ e, distinct_after) refl

-- the numbers that are new behind those that are known
joined_known : (known xs : List ℕ) → joined known xs ≡ known ++ firsts_after (reverse known) xs
unfolding all_added distinct_after
joined_known known [] = sym (append-nil known)
joined_known known (x ∷ xs) = elim (cases_Bool (has known x)) [
  | inl there ↦
      ap (λ ks. joined ks xs) (kept known x there) ∙ joined_known known xs ∙ ap (λ ys. known ++ ys) (sym (left_out known x xs there))
  | inr new ↦
      ap (λ ks. joined ks xs) (grown known x new) ∙ joined_known (known ++ x ∷ []) xs
      ∙ append_assoc known (x ∷ []) (firsts_after (reverse (known ++ x ∷ [])) xs)
      ∙ ap (λ seen. known ++ x ∷ firsts_after seen xs) (reverse-append known (x ∷ []))
      ∙ ap (λ ys. known ++ ys) (sym (comes_first known x xs new))
]

-- the first numbers of a list are those that are new behind none
pub firsts_joined : (xs : List ℕ) → firsts xs ≡ joined [] xs
unfolding distinct
firsts_joined xs = sym (joined_known [] xs)

-- numbers that are joined one list after the other
pub joined_lists : (xs ys zs : List ℕ) → joined xs (ys ++ zs) ≡ joined (joined xs ys) zs
joined_lists xs ys zs = added_lists (λ x y. y == x) xs ys zs

-- the test may ask the other way round
pub has_turned : (xs : List ℕ) (x : ℕ) → list_any (λ y. x == y) xs ≡ has xs x
has_turned [] x = refl
has_turned (y ∷ ys) x = ap2 (λ a b. a || b) (other x y) (has_turned ys x)
  where
    other : (a b : ℕ) → (a == b) ≡ (b == a)
    other a b = grind (arith, nat_tests)

-- an inserted number is one added
pub inserted : (xs : List ℕ) (x : ℕ) → (if list_any (λ y. x == y) xs then xs else xs ++ x ∷ []) ≡ with_one xs x
unfolding added
inserted xs x = ap (λ b. if b then xs else xs ++ x ∷ []) (has_turned xs x)

-- one number more of a list
pub joined_next : (xs ys : List ℕ) (i d : ℕ) → i < length ys → joined xs (take (i + 1) ys) ≡ with_one (joined xs (take i ys)) (get_or ys i d)
joined_next xs ys i d le = ap (joined xs) (take_more ys i d le) ∙ added_last (λ a b. b == a) xs (take i ys) (get_or ys i d)

-- ---- each number once

-- the numbers of one list are in another one
abbrev Inside : List ℕ → List ℕ → Type 0
Inside xs ys = (z : ℕ) → has xs z ≡ true → has ys z ≡ true

-- what is there stays there
there_added : (xs : List ℕ) (x z : ℕ) → has xs z ≡ true → has (with_one xs x) z ≡ true
there_added xs x z h = elim (cases_Bool (has xs x)) [
  | inl there ↦ ap (λ ys. has ys z) (kept xs x there) ∙ h
  | inr new ↦ ap (λ ys. has ys z) (grown xs x new) ∙ list_any-append (λ y. y == z) xs (x ∷ []) ∙ ap (λ b. b || has (x ∷ []) z) h
]

-- what was added is there
there_itself : (xs : List ℕ) (x : ℕ) → has (with_one xs x) x ≡ true
there_itself xs x = elim (cases_Bool (has xs x)) [
  | inl there ↦ ap (λ ys. has ys x) (kept xs x there) ∙ there
  | inr new ↦ ap (λ ys. has ys x) (grown xs x new) ∙ list_any-append (λ y. y == x) xs (x ∷ []) ∙ ap (λ b. b || has (x ∷ []) x) new ∙ ap (λ b. b || false) (same_number x)
]

-- numbers that were seen, with one more
seen_more : (seen known : List ℕ) (x : ℕ) → Inside seen known → Inside (x ∷ seen) (with_one known x)
seen_more seen known x inside z h = by (x == z) refl h
  where
    by : (b : Bool) → (x == z) ≡ b → (b || has seen z) ≡ true → has (with_one known x) z ≡ true
    by true e q = subst (λ n. has (with_one known x) n ≡ true) (eq_of x z e) (there_itself known x)
    by false e q = there_added known x z (inside z q)

-- numbers that come again add nothing
joined_after : (known seen xs : List ℕ) → Inside seen known → joined known (firsts_after seen xs) ≡ joined known xs
unfolding all_added distinct_after
joined_after known seen [] inside = refl
joined_after known seen (x ∷ xs) inside = by (has seen x) refl (joined_after known seen xs inside) (joined_after (with_one known x) (x ∷ seen) xs (seen_more seen known x inside))
  where
    by : (b : Bool) → has seen x ≡ b → joined known (firsts_after seen xs) ≡ joined known xs → joined (with_one known x) (firsts_after (x ∷ seen) xs) ≡ joined (with_one known x) xs
        → joined known (if b then firsts_after seen xs else x ∷ firsts_after (x ∷ seen) xs) ≡ joined (with_one known x) xs
    by true e again other = again ∙ ap (λ ys. joined ys xs) (sym (kept known x (inside x e)))
    by false e again other = other

-- so each counts once
pub joined_firsts : (known xs : List ℕ) → joined known (firsts xs) ≡ joined known xs
unfolding distinct
joined_firsts known xs = joined_after known [] xs (λ z h. absurd (true≢false (sym h)))

-- ---- beginnings

-- the first list begins the second
abbrev pub Begins : List ℕ → List ℕ → Type 0
Begins xs ys = (zs : List ℕ) × (ys ≡ xs ++ zs)

-- what is joined begins with what was there
pub begins_joined : (xs ys : List ℕ) → Begins xs (joined xs ys)
begins_joined xs ys = (firsts_after (reverse xs) ys, joined_known xs ys)

-- a list begins itself
pub begins_itself : (xs : List ℕ) → Begins xs xs
begins_itself xs = ([], sym (append-nil xs))

-- what begins a beginning begins the list
pub begins_longer : (xs ys zs : List ℕ) → Begins xs ys → Begins ys zs → Begins xs zs
begins_longer xs ys zs h k = (h.0 ++ k.0, k.1 ∙ ap (λ ws. ws ++ k.0) h.1 ∙ append_assoc xs h.0 k.0)

-- a beginning is no longer
pub begins_within : (xs ys : List ℕ) → Begins xs ys → length xs ≤ length ys
begins_within xs ys h = omega (arith, ap length h.1, length-append xs h.0)

-- a beginning that is as long is the list
pub begins_whole : (xs ys : List ℕ) → Begins xs ys → length ys ≤ length xs → ys ≡ xs
begins_whole xs ys h le = h.1 ∙ ap (λ zs. xs ++ zs) (nil_from_length h.0 (omega (arith, le, ap length h.1, length-append xs h.0))) ∙ append-nil xs

-- two lists that begin each other are one
pub begins_both : (xs ys : List ℕ) → Begins xs ys → Begins ys xs → ys ≡ xs
begins_both xs ys h k = begins_whole xs ys h (begins_within ys xs k)
