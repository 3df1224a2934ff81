-- Sums over entries, in any order.
use Rattle.std.proofs.Common.{◌≡◌, refl, ℕ, ◌+◌, ◌<◌, List, [], ◌∷◌, ◌++◌, length, drop, get_or, reverse, add-one, drop-cons, arith}
use Rattle.jx_base.specs.declared.act.Entry.{Entry}
use Rattle.audit_text.proofs.EntryOrder.{reverse-cons}

-- the sum of what f gives of the entries
unfoldable pub entry_sum : (Entry → ℕ) → List Entry → ℕ
entry_sum f [] = 0
entry_sum f (e ∷ entries) = f e + entry_sum f entries

entry_sum-append : (f : Entry → ℕ) (xs ys : List Entry) → entry_sum f (xs ++ ys) ≡ entry_sum f xs + entry_sum f ys
unfolding entry_sum
entry_sum-append f [] ys = omega arith
entry_sum-append f (x ∷ xs) ys = omega (arith, entry_sum-append f xs ys)

pub entry_sum-reverse : (f : Entry → ℕ) (xs : List Entry) → entry_sum f (reverse xs) ≡ entry_sum f xs
unfolding entry_sum
entry_sum-reverse f [] = refl
entry_sum-reverse f (x ∷ xs) = rw (reverse-cons x xs) (omega (arith, entry_sum-append f (reverse xs) (x ∷ []), entry_sum-reverse f xs))

pub entry_sum-more : (f : Entry → ℕ) (place : ℕ) (entries : List Entry) (x : Entry) → x ≡ get_or entries place x → place < length entries →
    entry_sum f (drop place entries) ≡ f x + entry_sum f (drop (place + 1) entries)
unfolding entry_sum
entry_sum-more f place entries x is lt =
    let split : drop place entries ≡ x ∷ drop (place + 1) entries = rw (add-one, drop-cons entries place x lt, ← is) refl in
    rw split refl

pub entry_sum-end : (f : Entry → ℕ) (place : ℕ) (entries : List Entry) → drop place entries ≡ [] → entry_sum f (drop place entries) ≡ 0
unfolding entry_sum
entry_sum-end f place entries is = rw is refl
