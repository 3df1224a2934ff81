-- Bytes that are put behind others, part by part.
use Rattle.std.proofs.Common.{◌≡◌, ◌∙◌, ℕ, zero, suc, ◌+◌, ◌-◌, ◌≤◌, ◌<◌, refl, sym, ap, List, [], ◌∷◌, ◌++◌, length, take, drop, get_or, append_assoc, append-nil, arith}
use Rattle.std.specs.Prelude.{flat_map, replicate, Result, Ok, Err, OnOk, is_ok, if◌then◌else◌}
use Rattle.std.proofs.lemmas.List.{drop_more, drop_all}
use Rattle.std.proofs.lemmas.List.Concat.{flat_map-cons}
use Rattle.std.proofs.lemmas.Result.{on_ok_weaker}

-- ---- one part behind another

behind : (old before now a b : List ℕ) → before ≡ old ++ a → now ≡ before ++ b → now ≡ old ++ (a ++ b)
behind old before now a b e h = h ∙ (ap (λ (front : List ℕ). front ++ b) e ∙ append_assoc old a b)

pub two_parts : {T E : Type 0} (r : Result T E) (old before now a b : List ℕ) → before ≡ old ++ a → OnOk r (now ≡ before ++ b) → OnOk r (now ≡ old ++ (a ++ b))
two_parts r old before now a b e h = on_ok_weaker r (λ pushed. behind old before now a b e pushed) h

pub three_parts : {T E : Type 0} (r : Result T E) (old one two now a b c : List ℕ) → one ≡ old ++ a → two ≡ one ++ b → OnOk r (now ≡ two ++ c)
    → OnOk r (now ≡ old ++ ((a ++ b) ++ c))
three_parts r old one two now a b c e f h = two_parts r old two now (a ++ b) c (behind old one two a b e f) h

pub four_parts : {T E : Type 0} (r : Result T E) (old one two three now a b c d : List ℕ) → one ≡ old ++ a → two ≡ one ++ b → three ≡ two ++ c
    → OnOk r (now ≡ three ++ d) → OnOk r (now ≡ old ++ (((a ++ b) ++ c) ++ d))
four_parts r old one two three now a b c d e f g h = three_parts r old two three now (a ++ b) c d (behind old one two a b e f) g h

-- the same where the last two parts came at once
pub two_at_last : {T E : Type 0} (r : Result T E) (old one two now a b c d : List ℕ) → one ≡ old ++ a → two ≡ one ++ b → OnOk r (now ≡ (two ++ c) ++ d)
    → OnOk r (now ≡ old ++ (((a ++ b) ++ c) ++ d))
two_at_last r old one two now a b c d e f h = three_parts r old two (two ++ c) now (a ++ b) c d (behind old one two a b e f) refl h

pub appended : {T E : Type 0} (r : Result T E) (now a b : List ℕ) → now ≡ (if is_ok r then a else b) → OnOk r (now ≡ a)
appended (Ok x) now a b h = h
appended (Err e) now a b h = tt

-- ---- the bytes of each item

-- what was put, and what stands for the items that are left
abbrev pub Put : {X : Type 0} → (X → List ℕ) → List X → ℕ → List ℕ → List ℕ → Type 0
Put f xs i now old = now ++ flat_map f (drop i xs) ≡ old ++ flat_map f xs

pub one_put : {X : Type 0} (f : X → List ℕ) (xs : List X) (i : ℕ) (x : X) (before now old : List ℕ) → i < length xs → x ≡ get_or xs i x
    → now ≡ before ++ f x → Put f xs i before old → Put f xs (i + 1) now old
one_put f xs i x before now old lt is e so_far =
    let rest : flat_map f (drop i xs) ≡ f x ++ flat_map f (drop (i + 1) xs) =
    ap (flat_map f) (drop_more xs i x lt ∙ ap (λ y. y ∷ drop (i + 1) xs) (sym is)) ∙ flat_map-cons f x (drop (i + 1) xs) in
    ap (λ (front : List ℕ). front ++ flat_map f (drop (i + 1) xs)) e
    ∙ (append_assoc before (f x) (flat_map f (drop (i + 1) xs)) ∙ (ap (λ (r : List ℕ). before ++ r) (sym rest) ∙ so_far))

pub all_put : {X : Type 0} (f : X → List ℕ) (xs : List X) (i : ℕ) (now old : List ℕ) → length xs ≤ i → Put f xs i now old → now ≡ old ++ flat_map f xs
all_put {X = X} f xs i now old le so_far = sym (append-nil now) ∙ (ap (λ (r : List X). now ++ flat_map f r) (sym (drop_all i xs le)) ∙ so_far)

-- ---- zeros

pub zeros : (n : ℕ) → n < 4 → take {A = ℕ} (3 - n) (drop {A = ℕ} n (0 ∷ 0 ∷ 0 ∷ [])) ≡ replicate (3 - n) 0
zeros zero lt = refl
zeros (suc zero) lt = refl
zeros (suc (suc zero)) lt = refl
zeros (suc (suc (suc zero))) lt = refl
zeros (suc (suc (suc (suc n)))) lt = absurd (omega arith)
