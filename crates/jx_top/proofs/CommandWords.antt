-- The words of a command, one after the other.
use Rattle.std.proofs.lemmas.List.{take_all}
use Rattle.std.specs.Cmp.Lexicographic.{bytes_decides}
use Rattle.std.specs.Str.{bytes_eq}
use Rattle.std.specs.Prelude.{String, string_bytes, ◌+◌, ◌==◌, zero, suc, ◌≡◌, refl, ◌≤◌, ◌-◌, ◌↔◌, ℕ, Bool, true, false, not, List, [], ◌∷◌, length, take, Some, None, MatchBool, IsTrue, codes}
use Rattle.std.proofs.lemmas.Bool.{false≢true}
use Rattle.std.specs.Str.Pattern.{HasSuffixMatch, FindsTextSuffix}
use Rattle.std.proofs.Common.{sym, ◌∙◌, ap, subst, get_or, drop, arith}
use Rattle.std.specs.declared.alloc.Global.{Global}
use Rattle.jx_top.specs.Commands.{AreVerbAndFile, EndsInClass, IsClassFileName, IsSystemName, place_word, texts}
use Rattle.jx_top.proofs.OneCommand.{IsNoVerb, IsNoSystemVerb, first_word, words_behind, one_file}

-- ---- a verb and a file

pub no_words : (verb : List ℕ) → IsNoVerb verb []
no_words verb file h = let none : [] ≡ verb ∷ h.rest = h.words_are in absurd (cc)

pub other_verb : (verb first : List ℕ) (rest : List (List ℕ)) → (first ≡ verb → ⊥) → IsNoVerb verb (first ∷ rest)
other_verb verb first rest other file h = other (ap first_word h.words_are)

place_is : (verb first : List ℕ) (rest : List (List ℕ)) (file : List ℕ) → AreVerbAndFile verb (first ∷ rest) file → place_word rest ≡ Some file
place_is verb first rest file h = ap place_word (ap words_behind h.words_are) ∙ h.place

pub no_place : (verb first : List ℕ) (rest : List (List ℕ)) → place_word rest ≡ None → IsNoVerb verb (first ∷ rest)
no_place verb first rest none file h =
    let some : None ≡ Some file = sym none ∙ place_is verb first rest file h in absurd (cc)

pub bad_length : (verb first : List ℕ) (rest : List (List ℕ)) (file : List ℕ) → place_word rest ≡ Some file
    → (1 ≤ length file → length file ≤ 255 → ⊥) → IsNoVerb verb (first ∷ rest)
bad_length verb first rest file is bad other h =
    let both : Some file ≡ Some other = sym is ∙ place_is verb first rest other h in
    let same : other ≡ file = cc in
    bad (subst (λ (f : List ℕ). 1 ≤ length f) same h.filled) (subst (λ (f : List ℕ). length f ≤ 255) same h.short)

pub verb_and_file : (verb first : List ℕ) (rest : List (List ℕ)) (file : List ℕ) → first ≡ verb → place_word rest ≡ Some file
    → 1 ≤ length file → length file ≤ 255 → AreVerbAndFile verb (first ∷ rest) file
verb_and_file verb first rest file same is filled short = record {
  rest = rest;
  words_are = ap (λ (w : List ℕ). w ∷ rest) same;
  place = is;
  filled = filled;
  short = short;
}

-- ---- the file of a system

pub ends_in_class : (file : List ℕ) → HasSuffixMatch (FindsTextSuffix (codes ".class")) file → EndsInClass file
ends_in_class file h = (take (length file - h.0) file, h.1.1)

-- what stands for no class is a system's just where it doesn't end so
pub no_class_file : (file : List ℕ) (test : Bool) → (IsClassFileName file → ⊥)
    → MatchBool test (HasSuffixMatch (FindsTextSuffix (codes ".class")) file) (FindsTextSuffix (codes ".class") file None)
    → IsTrue (not test) ↔ IsSystemName file
no_class_file file true none h = (λ yes. absurd (false≢true yes), λ s. absurd (none (s (ends_in_class file h))))
no_class_file file false none h = (λ yes e. absurd (h e.0 e.1), λ s. refl)

pub no_system : (verb : List ℕ) (words : List (List ℕ)) → IsNoVerb verb words → IsNoSystemVerb verb words
no_system verb words none file h = none file h.words_are

-- the file behind the verb is that of no system
pub other_file : (verb : List ℕ) (words : List (List ℕ)) (file : List ℕ) → AreVerbAndFile verb words file → (IsSystemName file → ⊥)
    → IsNoSystemVerb verb words
other_file verb words file p none other h = none (subst IsSystemName (one_file verb words other file h.words_are p) h.system)

-- the texts of words are those of the first one and of the others
pub split_texts : (words : List (String Global)) (first : String Global) → 1 ≤ length words → first ≡ get_or words 0 first → texts words ≡ string_bytes first ∷ texts (drop 1 words)
split_texts [] first h e = absurd (omega (arith, h))
split_texts (word ∷ words) first h e = ap (λ (w : String Global). string_bytes w ∷ texts words) (sym e)

-- the words behind the first one are those that are left
pub rest_texts : (words : List (String Global)) (n : ℕ) → length words ≤ n + 1 → texts (take n (drop 1 words)) ≡ texts (drop 1 words)
rest_texts [] n h = ap texts (take_all n [] (omega arith))
rest_texts (word ∷ words) n h = ap texts (take_all n words (omega (arith, h)))

-- a text that isn't empty has a length
pub is_filled : (n : ℕ) → false ≡ (n == 0) → 1 ≤ n
is_filled zero h = absurd cc
is_filled (suc n) h = omega arith

-- texts that aren't unlike are one
pub alike : (a b : List ℕ) → false ≡ not (bytes_eq a b) → a ≡ b
alike a b h = by (bytes_eq a b) refl h
  where
    by : (t : Bool) → bytes_eq a b ≡ t → false ≡ not t → a ≡ b
    by true e k = (bytes_decides a b).0 e
    by false e k = absurd cc
