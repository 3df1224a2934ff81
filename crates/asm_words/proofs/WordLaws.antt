-- A line has just its words.
use Rattle.std.proofs.Common.{◌≡◌, ◌≢◌, ℕ, List, [], ◌∷◌, ◌++◌, Bool, true, false, Option, Some, None, refl, sym, ap, subst, ◌∙◌, arith}
use Rattle.std.specs.Prelude.{◌==◌, ◌&&◌, not, if◌then◌else◌}
use Rattle.std.specs.List.{list_all}
use Rattle.std.proofs.lemmas.Bool.Decides.{nat_tests}
use Rattle.asm_words.specs.declared.words.Position.{Position}
use Rattle.asm_words.specs.declared.words.Position.TheVariants as position
use Rattle.asm_words.specs.Words.{space, quote, begun, position_behind, words_from, words_of}
use Rattle.asm_words.specs.TextLaws.{has_unit, is_quoted_part, is_word, is_closed, spaced_words, are_closed, IsWords}
use Rattle.asm_words.proofs.WordEnds.{words_behind, words_step}

-- ---- what is left of a word, from a position on

left_of_word : Position → List ℕ → Bool
left_of_word position.Front word = is_word word
left_of_word position.Quoted word = is_quoted_part word
left_of_word position.Plain word = not (has_unit space word)

left_closed : Position → List ℕ → Bool
left_closed position.Front word = is_closed word
left_closed position.Quoted word = has_unit quote word
left_closed position.Plain word = true

are_words_left : Position → List (List ℕ) → Bool
are_words_left p [] = true
are_words_left p (word ∷ words) = left_of_word p word && list_all is_word words

are_closed_left : Position → List (List ℕ) → Bool
are_closed_left p [] = true
are_closed_left p (word ∷ []) = true
are_closed_left p (word ∷ next ∷ words) = left_closed p word && are_closed (next ∷ words)

front_words : (words : List (List ℕ)) → are_words_left position.Front words ≡ list_all is_word words
unfolding are_words_left left_of_word
front_words [] = refl
front_words (word ∷ words) = refl

front_closed : (words : List (List ℕ)) → are_closed_left position.Front words ≡ are_closed words
unfolding are_closed_left left_closed are_closed
front_closed [] = refl
front_closed (word ∷ []) = refl
front_closed (word ∷ next ∷ words) = refl

-- ---- one unit on

abbrev Same : Position → ℕ → Position → List ℕ → Type 0
Same p u q word = (left_of_word p (u ∷ word) ≡ left_of_word q word) × (left_closed p (u ∷ word) ≡ left_closed q word)

at_position : (p q r : Position) (u : ℕ) (word : List ℕ) → Some q ≡ Some r → Same p u r word → Same p u q word
at_position p q r u word e h = let k : r ≡ q = cc in subst (λ q. Same p u q word) k h

front_step : (s t : Bool) (q : Position) (u : ℕ) (word : List ℕ) → (u == space) ≡ s → (u == quote) ≡ t
    → Some q ≡ (if s then None else Some (if t then position.Quoted else position.Plain)) → Same position.Front u q word
unfolding left_of_word left_closed is_word is_closed has_unit
front_step true t q u word e f h = absurd (cc)
front_step false true q u word e f h = at_position position.Front q position.Quoted u word h (rw f refl, rw f refl)
front_step false false q u word e f h = at_position position.Front q position.Plain u word h (rw (f, e) refl, rw f refl)

quoted_step : (t : Bool) (q : Position) (u : ℕ) (word : List ℕ) → (u == quote) ≡ t
    → Some q ≡ Some (if t then position.Plain else position.Quoted) → Same position.Quoted u q word
unfolding left_of_word left_closed is_quoted_part has_unit
quoted_step true q u word f h = at_position position.Quoted q position.Plain u word h (rw f refl, rw f refl)
quoted_step false q u word f h = at_position position.Quoted q position.Quoted u word h (rw f refl, rw f refl)

plain_step : (s : Bool) (q : Position) (u : ℕ) (word : List ℕ) → (u == space) ≡ s → Some q ≡ (if s then None else Some position.Plain) → Same position.Plain u q word
unfolding left_of_word left_closed has_unit
plain_step true q u word e h = absurd (cc)
plain_step false q u word e h = at_position position.Plain q position.Plain u word h (rw e refl, refl)

step : (p q : Position) (u : ℕ) (word : List ℕ) → Some q ≡ position_behind p u → Same p u q word
unfolding position_behind
step position.Front q u word h = front_step (u == space) (u == quote) q u word refl refl h
step position.Quoted q u word h = quoted_step (u == quote) q u word refl h
step position.Plain q u word h = plain_step (u == space) q u word refl h

only_space : (s : Bool) (u : ℕ) (q : Position) → (u == space) ≡ s → None ≡ (if s then None else Some q) → u ≡ space
only_space true u q e h = grind (arith, nat_tests)
only_space false u q e h = absurd (cc)

-- a word ends in front of a space alone, and where it may
abbrev Ends : Position → ℕ → Type 0
Ends p u = (u ≡ space) × (left_of_word p [] ≡ true) × (left_closed p [] ≡ true) × ((word : List ℕ) → left_of_word p (space ∷ word) ≡ false)

ends : (p : Position) (u : ℕ) → None ≡ position_behind p u → Ends p u
unfolding position_behind left_of_word left_closed is_word is_closed has_unit
ends position.Front u h = (only_space (u == space) u _ refl h, refl, refl, (λ word. refl))
ends position.Quoted u h = absurd (cc)
ends position.Plain u h = (only_space (u == space) u _ refl h, refl, refl, (λ word. refl))

ends_at_space : (p : Position) → left_closed p [] ≡ true → None ≡ position_behind p space
unfolding position_behind left_closed has_unit
ends_at_space position.Front h = refl
ends_at_space position.Quoted h = absurd (cc)
ends_at_space position.Plain h = refl

-- ---- its words

abbrev Some_of : List (List ℕ) → Type 0
Some_of all = (word : List ℕ) × (words : List (List ℕ)) × (all ≡ word ∷ words)

begun_some : (u : ℕ) (words : List (List ℕ)) → Some_of (begun u words)
unfolding begun
begun_some u [] = (u ∷ [], [], refl)
begun_some u (word ∷ words) = (u ∷ word, words, refl)

behind_some : (o : Option Position) (u : ℕ) (units : List ℕ) → Some_of (words_behind o u units)
behind_some None u units = ([], words_from position.Front units, refl)
behind_some (Some q) u units = begun_some u (words_from q units)

some_words : (p : Position) (units : List ℕ) → Some_of (words_from p units)
unfolding words_from
some_words p [] = ([], [], refl)
some_words p (u ∷ units) = let w = behind_some (position_behind p u) u units in (w.0, w.1, words_step p u units _ refl ∙ w.2)

spaced_begun : (u : ℕ) (word : List ℕ) (words : List (List ℕ)) → spaced_words (begun u (word ∷ words)) ≡ u ∷ spaced_words (word ∷ words)
unfolding begun spaced_words
spaced_begun u word [] = refl
spaced_begun u word (next ∷ words) = refl

rejoined_behind : (o : Option Position) (p : Position) (u : ℕ) (units : List ℕ) → o ≡ position_behind p u
    → ((q : Position) → spaced_words (words_from q units) ≡ units) → spaced_words (words_behind o u units) ≡ u ∷ units
unfolding spaced_words
rejoined_behind None p u units e h =
    let w = some_words position.Front units in let s = ends p u e in
    ap (λ words. spaced_words ([] ∷ words)) w.2 ∙ (ap (λ units. space ∷ units) (ap spaced_words (sym w.2) ∙ h position.Front) ∙ ap (λ v. v ∷ units) (sym s.0))
rejoined_behind (Some q) p u units e h =
    let w = some_words q units in
    ap (λ words. spaced_words (begun u words)) w.2 ∙ (spaced_begun u w.0 w.1 ∙ ap (λ units. u ∷ units) (ap spaced_words (sym w.2) ∙ h q))

rejoined : (p : Position) (units : List ℕ) → spaced_words (words_from p units) ≡ units
unfolding words_from spaced_words
rejoined p [] = refl
rejoined p (u ∷ units) = ap spaced_words (words_step p u units _ refl) ∙ rejoined_behind (position_behind p u) p u units refl (λ q. rejoined q units)

are_words_behind : (o : Option Position) (p : Position) (u : ℕ) (units : List ℕ) → o ≡ position_behind p u
    → ((q : Position) → are_words_left q (words_from q units) ≡ true) → are_words_left p (words_behind o u units) ≡ true
unfolding are_words_left begun
are_words_behind None p u units e h = let s = ends p u e in rw (s.1) (sym (front_words (words_from position.Front units)) ∙ h position.Front)
are_words_behind (Some q) p u units e h =
    let w = some_words q units in
    ap (λ words. are_words_left p (begun u words)) w.2 ∙ (ap (λ t. t && list_all is_word w.1) (step p q u w.0 e).0 ∙ (ap (are_words_left q) (sym w.2) ∙ h q))

are_words : (p : Position) (units : List ℕ) → are_words_left p (words_from p units) ≡ true
unfolding words_from are_words_left left_of_word is_word is_quoted_part has_unit
are_words position.Front [] = refl
are_words position.Quoted [] = refl
are_words position.Plain [] = refl
are_words p (u ∷ units) = ap (are_words_left p) (words_step p u units _ refl) ∙ are_words_behind (position_behind p u) p u units refl (λ q. are_words q units)

closed_begun : (p q : Position) (u : ℕ) (word : List ℕ) (words : List (List ℕ)) → left_closed p (u ∷ word) ≡ left_closed q word
    → are_closed_left p ((u ∷ word) ∷ words) ≡ are_closed_left q (word ∷ words)
unfolding are_closed_left
closed_begun p q u word [] e = refl
closed_begun p q u word (next ∷ words) e = ap (λ t. t && are_closed (next ∷ words)) e

are_closed_behind : (o : Option Position) (p : Position) (u : ℕ) (units : List ℕ) → o ≡ position_behind p u
    → ((q : Position) → are_closed_left q (words_from q units) ≡ true) → are_closed_left p (words_behind o u units) ≡ true
unfolding are_closed_left begun
are_closed_behind None p u units e h =
    let w = some_words position.Front units in let s = ends p u e in
    ap (λ words. are_closed_left p ([] ∷ words)) w.2
    ∙ (ap (λ t. t && are_closed (w.0 ∷ w.1)) s.2 ∙ (ap are_closed (sym w.2) ∙ (sym (front_closed (words_from position.Front units)) ∙ h position.Front)))
are_closed_behind (Some q) p u units e h =
    let w = some_words q units in
    ap (λ words. are_closed_left p (begun u words)) w.2 ∙ (closed_begun p q u w.0 w.1 (step p q u w.0 e).1 ∙ (ap (are_closed_left q) (sym w.2) ∙ h q))

are_all_closed : (p : Position) (units : List ℕ) → are_closed_left p (words_from p units) ≡ true
unfolding words_from are_closed_left
are_all_closed p [] = refl
are_all_closed p (u ∷ units) =
    ap (are_closed_left p) (words_step p u units _ refl) ∙ are_closed_behind (position_behind p u) p u units refl (λ q. are_all_closed q units)

not_empty : (words : List (List ℕ)) → Some_of words → words ≢ []
not_empty words w e = cc

pub has_words : (line : List ℕ) → IsWords line (words_of line)
unfolding words_of
has_words line = let words = words_from position.Front line in record {
  joined = sym (rejoined position.Front line);
  some = not_empty words (some_words position.Front line);
  are_words = sym (front_words words) ∙ are_words position.Front line;
  closed = sym (front_closed words) ∙ are_all_closed position.Front line;
}

-- ---- no other words

one_behind : (o : Option Position) (p : Position) (u : ℕ) (word : List ℕ) → o ≡ position_behind p u → left_of_word p (u ∷ word) ≡ true
    → ((q : Position) → left_of_word q word ≡ true → words_from q word ≡ word ∷ []) → words_behind o u word ≡ (u ∷ word) ∷ []
unfolding begun
one_behind None p u word e h ih =
    let s = ends p u e in let k : left_of_word p (space ∷ word) ≡ true = subst (λ v. left_of_word p (v ∷ word) ≡ true) s.0 h in
    let m : left_of_word p (space ∷ word) ≡ false = s.3 word in absurd (cc)
one_behind (Some q) p u word e h ih = ap (begun u) (ih q (sym (step p q u word e).0 ∙ h))

one_word : (p : Position) (word : List ℕ) → left_of_word p word ≡ true → words_from p word ≡ word ∷ []
unfolding words_from
one_word p [] h = refl
one_word p (u ∷ word) h = words_step p u word _ refl ∙ one_behind (position_behind p u) p u word refl h (λ q. one_word q word)

first_behind : (o : Option Position) (p : Position) (u : ℕ) (word rest : List ℕ) → o ≡ position_behind p u → left_of_word p (u ∷ word) ≡ true → left_closed p (u ∷ word) ≡ true
    → ((q : Position) → left_of_word q word ≡ true → left_closed q word ≡ true → words_from q (word ++ space ∷ rest) ≡ word ∷ words_from position.Front rest)
    → words_behind o u (word ++ space ∷ rest) ≡ (u ∷ word) ∷ words_from position.Front rest
unfolding begun
first_behind None p u word rest e h k ih =
    let s = ends p u e in let k : left_of_word p (space ∷ word) ≡ true = subst (λ v. left_of_word p (v ∷ word) ≡ true) s.0 h in
    let m : left_of_word p (space ∷ word) ≡ false = s.3 word in absurd (cc)
first_behind (Some q) p u word rest e h k ih = let s = step p q u word e in ap (begun u) (ih q (sym s.0 ∙ h) (sym s.1 ∙ k))

first_word : (p : Position) (word rest : List ℕ) → left_of_word p word ≡ true → left_closed p word ≡ true
    → words_from p (word ++ space ∷ rest) ≡ word ∷ words_from position.Front rest
first_word p [] rest h k = words_step p space rest None (ends_at_space p k)
first_word p (u ∷ word) rest h k =
    words_step p u (word ++ space ∷ rest) _ refl ∙ first_behind (position_behind p u) p u word rest refl h k (λ q. first_word q word rest)

both : (s t : Bool) → (s && t) ≡ true → (s ≡ true) × (t ≡ true)
both true t e = (refl, e)
both false t e = absurd (cc)

no_other : (words : List (List ℕ)) → words ≢ [] → list_all is_word words ≡ true → are_closed words ≡ true → words_from position.Front (spaced_words words) ≡ words
unfolding spaced_words are_closed left_of_word left_closed
no_other [] some h k = absurd (some refl)
no_other (word ∷ []) some h k = one_word position.Front word (both _ _ h).0
no_other (word ∷ next ∷ words) some h k =
    first_word position.Front word (spaced_words (next ∷ words)) (both _ _ h).0 (both _ _ k).0
    ∙ ap (λ words. word ∷ words) (no_other (next ∷ words) (λ e. cc) (both _ _ h).1 (both _ _ k).1)

pub has_no_other_words : (line : List ℕ) (words : List (List ℕ)) → IsWords line words → words ≡ words_of line
unfolding words_of
has_no_other_words line words h = sym (ap (words_from position.Front) h.joined ∙ no_other words h.some h.are_words h.closed)
