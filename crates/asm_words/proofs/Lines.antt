-- The lines of a text, one after the other.
use Rattle.std.proofs.Common.{◌≡◌, ℕ, zero, suc, ◌+◌, ◌<◌, List, [], ◌∷◌, ◌++◌, length, Bool, true, false, cond, Option, Some, None, refl, sym, ap, ◌∙◌, append_assoc, append-nil, add-one, get_or, take, drop, arith}
use Rattle.std.specs.Prelude.{◌==◌, position}
use Rattle.std.specs.List.{position_from}
use Rattle.std.proofs.lemmas.Iterator.Adapters.{position_from-zero}
use Rattle.std.proofs.lemmas.List.Quantifiers.{position-Some}
use Rattle.std.proofs.lemmas.Bool.Decides.{nat_tests}
use Rattle.asm_words.specs.Words.{feed, begun, lines_of}
use Rattle.asm_words.specs.TextLaws.{has_unit}

-- a unit that isn't the one that is looked for, and those behind it
pub apart_head : (u v : ℕ) (units : List ℕ) → has_unit u (v ∷ units) ≡ false → ((v == u) ≡ false) × (has_unit u units ≡ false)
unfolding has_unit
apart_head u v units h = (grind arith, grind arith)

-- the line that a line feed ends
pub line_ends : (line bytes : List ℕ) → has_unit feed line ≡ false → lines_of (line ++ feed ∷ bytes) ≡ line ∷ lines_of bytes
unfolding lines_of begun
line_ends [] bytes h = refl
line_ends (b ∷ line) bytes h =
    let k = apart_head feed b line h in rw (k.0, line_ends line bytes k.1) refl

-- the last line, where no line feed ends it
pub last_line : (b : ℕ) (line : List ℕ) → has_unit feed (b ∷ line) ≡ false → lines_of (b ∷ line) ≡ (b ∷ line) ∷ []
unfolding lines_of begun
last_line b [] h = let k = apart_head feed b [] h in rw (k.0) refl
last_line b (v ∷ line) h = let k = apart_head feed b (v ∷ line) h in rw (k.0, last_line v line k.1) refl

-- ---- by the place of the first line feed

splits : (bytes : List ℕ) (i : ℕ) → i < length bytes → (get_or bytes i 0 == feed) ≡ true → ((k : ℕ) → k < i → (get_or bytes k 0 == feed) ≡ false)
    → lines_of bytes ≡ take i bytes ∷ lines_of (drop (suc i) bytes)
unfolding lines_of begun
splits [] i l e h = absurd (omega arith)
splits (b ∷ bytes) zero l e h = rw e refl
splits (b ∷ bytes) (suc i) l e h =
    let first : (b == feed) ≡ false = h 0 (omega arith) in
    rw (first, splits bytes i (omega arith) e (λ k m. h (suc k) (omega arith))) refl

pub at_feed : (bytes : List ℕ) (i : ℕ) → Some i ≡ position (λ b. b == feed) bytes → (i < length bytes) × (lines_of bytes ≡ take i bytes ∷ lines_of (drop (i + 1) bytes))
at_feed bytes i e =
    let h = position-Some (λ b. b == feed) bytes i 0 (sym e) in
    (h.0, splits bytes i h.0 h.1 h.2 ∙ ap (λ n. take i bytes ∷ lines_of (drop n bytes)) (sym (add-one i)))

passed : (t : Bool) (i : ℕ) (o : Option ℕ) → None ≡ cond t (Some i) o → (t ≡ false) × (None ≡ o)
passed true i o e = absurd (cc)
passed false i o e = (refl, e)

not_nil : (b : ℕ) (bytes : List ℕ) → (length (b ∷ bytes) == 0) ≡ true → ⊥
not_nil b bytes h = grind (arith, nat_tests)

nowhere : (bytes : List ℕ) (i : ℕ) → None ≡ position_from (λ b. b == feed) i bytes → has_unit feed bytes ≡ false
unfolding has_unit
nowhere [] i e = refl
nowhere (b ∷ bytes) i e = let w = passed (b == feed) i (position_from (λ b. b == feed) (i + 1) bytes) e in rw (w.0) (nowhere bytes (i + 1) w.1)

pub without_feed : (bytes : List ℕ) → None ≡ position (λ b. b == feed) bytes → has_unit feed bytes ≡ false
without_feed bytes e = nowhere bytes 0 (e ∙ position_from-zero (λ b. b == feed) bytes)

-- ---- a loop over the lines

pub goes_on : (lines : List (List ℕ)) (rest : List ℕ) (i : ℕ) (total : List (List ℕ)) → Some i ≡ position (λ b. b == feed) rest
    → lines ++ lines_of rest ≡ total → (lines ++ take i rest ∷ []) ++ lines_of (drop (i + 1) rest) ≡ total
goes_on lines rest i total e so_far = let h = at_feed rest i e in
    append_assoc lines (take i rest ∷ []) (lines_of (drop (i + 1) rest)) ∙ (ap (λ ls. lines ++ ls) (sym h.1) ∙ so_far)

pub has_last : (lines : List (List ℕ)) (rest : List ℕ) (total : List (List ℕ)) → None ≡ position (λ b. b == feed) rest → (length rest == 0) ≡ false
    → lines ++ lines_of rest ≡ total → lines ++ rest ∷ [] ≡ total
has_last lines [] total e h so_far = cc
has_last lines (b ∷ rest) total e h so_far = ap (λ ls. lines ++ ls) (sym (last_line b rest (without_feed (b ∷ rest) e))) ∙ so_far

pub is_done : (lines : List (List ℕ)) (rest : List ℕ) (total : List (List ℕ)) → (length rest == 0) ≡ true → lines ++ lines_of rest ≡ total → lines ≡ total
unfolding lines_of
is_done lines [] total h so_far = sym (append-nil lines) ∙ so_far
is_done lines (b ∷ rest) total h so_far = absurd (not_nil b rest h)
