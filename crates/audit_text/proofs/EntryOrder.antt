-- Entries, the oldest or the newest first.
use Rattle.std.proofs.Common.{◌≡◌, refl, ℕ, ◌+◌, ◌<◌, List, [], ◌∷◌, ◌++◌, length, take, get_or, reverse, append_assoc}
use Rattle.std.proofs.lemmas.Grind.{reverse_onto}
use Rattle.std.proofs.lemmas.List.{reverse-append, take_more}
use Rattle.jx_base.specs.declared.act.Entry.{Entry}

-- an item goes to the end
pub reverse-cons : {X : Type 0} (x : X) (xs : List X) → reverse (x ∷ xs) ≡ reverse xs ++ (x ∷ [])
reverse-cons x xs = reverse_onto xs x []

-- an item goes from the front of a list to the front of another
pub turned : {X : Type 0} (x : X) (xs ys : List X) → reverse (x ∷ xs) ++ ys ≡ reverse xs ++ (x ∷ ys)
turned x xs ys = rw (reverse-cons x xs) (append_assoc (reverse xs) (x ∷ []) ys)

-- the entries up to one more, the newest first
pub taken_one_more : (entries : List Entry) (place : ℕ) (x : Entry) → x ≡ get_or entries place x → place < length entries →
    reverse (take (place + 1) entries) ≡ x ∷ reverse (take place entries)
taken_one_more entries place x is lt =
    rw (take_more entries place x lt, ← is, reverse-append (take place entries) (x ∷ [])) refl
