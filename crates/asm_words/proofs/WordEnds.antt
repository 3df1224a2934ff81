-- The words of a line, unit by unit.
use Rattle.std.proofs.Common.{◌≡◌, ℕ, ◌+◌, ◌<◌, ◌≤◌, List, [], ◌∷◌, ◌++◌, length, Option, Some, None, refl, sym, ap, ◌∙◌, append_assoc, append-nil, get_or, take, drop}
use Rattle.std.proofs.lemmas.List.{take_more, drop_more, take_all, drop_all}
use Rattle.asm_words.specs.declared.words.Position.{Position}
use Rattle.asm_words.specs.declared.words.Position.TheVariants as position
use Rattle.asm_words.specs.Words.{begun, position_behind, words_from, words_of}

-- the words from the position behind a unit on, with the unit
abbrev pub words_behind : Option Position → ℕ → List ℕ → List (List ℕ)
words_behind None u units = [] ∷ words_from position.Front units
words_behind (Some q) u units = begun u (words_from q units)

same_behind : (o : Option Position) (u : ℕ) (units : List ℕ)
    → elim o [ None ↦ [] ∷ words_from position.Front units | Some q ↦ begun u (words_from q units) ] ≡ words_behind o u units
same_behind None u units = refl
same_behind (Some q) u units = refl

pub words_step : (p : Position) (u : ℕ) (units : List ℕ) (o : Option Position) → o ≡ position_behind p u → words_from p (u ∷ units) ≡ words_behind o u units
unfolding words_from
words_step p u units o e = same_behind (position_behind p u) u units ∙ ap (λ o. words_behind o u units) (sym e)

-- the words, whose first one has more in front
abbrev pub continued : List ℕ → List (List ℕ) → List (List ℕ)
continued front [] = front ∷ []
continued front (word ∷ words) = (front ++ word) ∷ words

one_more : (front : List ℕ) (u : ℕ) (words : List (List ℕ)) → continued front (begun u words) ≡ continued (front ++ u ∷ []) words
unfolding begun
one_more front u [] = refl
one_more front u (word ∷ words) = ap (λ w. w ∷ words) (sym (append_assoc front (u ∷ []) word))

begun_whole : (u : ℕ) (words : List (List ℕ)) → begun u words ≡ continued [] (begun u words)
unfolding begun
begun_whole u [] = refl
begun_whole u (word ∷ words) = refl

behind_whole : (o : Option Position) (u : ℕ) (units : List ℕ) → words_behind o u units ≡ continued [] (words_behind o u units)
behind_whole None u units = refl
behind_whole (Some q) u units = begun_whole u (words_from q units)

-- ---- a loop over a word

pub begins : (line : List ℕ) → words_of line ≡ continued [] (words_from position.Front line)
unfolding words_of words_from
begins [] = refl
begins (u ∷ units) = let e = words_step position.Front u units _ refl in e ∙ (behind_whole _ u units ∙ ap (continued []) (sym e))

at_unit : (p : Position) (line : List ℕ) (i : ℕ) (o : Option Position) → i < length line → o ≡ position_behind p (get_or line i 0)
    → words_from p (drop i line) ≡ words_behind o (get_or line i 0) (drop (i + 1) line)
at_unit p line i o l e = rw (drop_more line i 0 l) (words_step p (get_or line i 0) (drop (i + 1) line) o e)

pub goes_on : (p q : Position) (line : List ℕ) (i : ℕ) (total : List (List ℕ)) → i < length line → Some q ≡ position_behind p (get_or line i 0)
    → total ≡ continued (take i line) (words_from p (drop i line)) → total ≡ continued (take (i + 1) line) (words_from q (drop (i + 1) line))
goes_on p q line i total l e so_far =
    so_far ∙ (ap (continued (take i line)) (at_unit p line i (Some q) l e)
    ∙ (one_more (take i line) (get_or line i 0) (words_from q (drop (i + 1) line)) ∙ ap (λ front. continued front (words_from q (drop (i + 1) line))) (sym (take_more line i 0 l))))

pub ends_at : (p : Position) (line : List ℕ) (i : ℕ) (total : List (List ℕ)) → i < length line → None ≡ position_behind p (get_or line i 0)
    → total ≡ continued (take i line) (words_from p (drop i line)) → total ≡ take i line ∷ words_of (drop (i + 1) line)
unfolding words_of
ends_at p line i total l e so_far =
    so_far ∙ (ap (continued (take i line)) (at_unit p line i None l e) ∙ ap (λ w. w ∷ words_from position.Front (drop (i + 1) line)) (append-nil (take i line)))

pub is_one : (p : Position) (line : List ℕ) (i : ℕ) (total : List (List ℕ)) → length line ≤ i
    → total ≡ continued (take i line) (words_from p (drop i line)) → total ≡ line ∷ []
unfolding words_from
is_one p line i total l so_far = so_far ∙ (rw (take_all i line l, drop_all i line l) (ap (λ w. w ∷ []) (append-nil line)))

-- ---- a loop over the words

pub pushed : (words : List (List ℕ)) (word : List ℕ) (more rest total : List (List ℕ)) → rest ≡ word ∷ more → words ++ rest ≡ total → (words ++ word ∷ []) ++ more ≡ total
pushed words word more rest total e so_far = append_assoc words (word ∷ []) more ∙ (ap (λ r. words ++ r) (sym e) ∙ so_far)
