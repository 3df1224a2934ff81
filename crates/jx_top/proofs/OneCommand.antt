-- Words ask for one command at most.
use Rattle.jx_top.specs.declared.commands.WordsFault.{WordsFault}
use Rattle.jx_top.specs.declared.commands.WordsFault.TheVariants as fault
use Rattle.std.specs.Prelude.{Result, Ok, Err, IsErrOf, ◌↔◌, ◌≡◌, ℕ, List, [], ◌∷◌, Some, codes}
use Rattle.std.proofs.Common.{sym, ◌∙◌, ap, ap₂, arith}
use Rattle.jx_top.specs.Commands.{Command, Run, Check, Asm, AsksFor, AsksForNothing, AreVerbAndFile, AreVerbAndSystem, place_word}

abbrev pub first_word : List (List ℕ) → List ℕ
first_word (word ∷ words) = word
first_word [] = []

abbrev first_byte : List ℕ → ℕ
first_byte (byte ∷ word) = byte
first_byte [] = 0

abbrev pub words_behind : List (List ℕ) → List (List ℕ)
words_behind (word ∷ words) = words
words_behind [] = []

same_verb : (verb other : List ℕ) (words : List (List ℕ)) (file more : List ℕ) → AreVerbAndFile verb words file → AreVerbAndFile other words more
    → verb ≡ other
same_verb verb other words file more p q = sym (ap first_word p.words_are) ∙ ap first_word q.words_are

run_or_check : codes "run" ≡ codes "check" → ⊥
run_or_check same = let bytes : 114 ≡ 99 = ap first_byte same in absurd (omega (arith, bytes))

run_or_asm : codes "run" ≡ codes "asm" → ⊥
run_or_asm same = let bytes : 114 ≡ 97 = ap first_byte same in absurd (omega (arith, bytes))

check_or_asm : codes "check" ≡ codes "asm" → ⊥
check_or_asm same = let bytes : 99 ≡ 97 = ap first_byte same in absurd (omega (arith, bytes))

pub one_file : (verb : List ℕ) (words : List (List ℕ)) (file other : List ℕ) → AreVerbAndFile verb words file → AreVerbAndFile verb words other
    → file ≡ other
one_file verb words file other p q =
    let rest : p.rest ≡ q.rest = sym (ap words_behind p.words_are) ∙ ap words_behind q.words_are in
    let both : Some file ≡ Some other = sym p.place ∙ ap place_word rest ∙ q.place in
    cc

pub one_command : (words : List (List ℕ)) (a b : Command) → AsksFor words a → AsksFor words b → a ≡ b
one_command words (Run file n) (Run other m) p q =
    ap₂ Run (one_file (codes "run") words file other p.0.words_are q.0.words_are) (p.1 ∙ sym q.1)
one_command words (Run file n) (Check other) p q =
    absurd (run_or_check (same_verb (codes "run") (codes "check") words file other p.0.words_are q.words_are))
one_command words (Run file n) (Asm other) p q =
    absurd (run_or_asm (same_verb (codes "run") (codes "asm") words file other p.0.words_are q))
one_command words (Check file) (Run other m) p q =
    absurd (run_or_check (same_verb (codes "run") (codes "check") words other file q.0.words_are p.words_are))
one_command words (Check file) (Check other) p q = ap Check (one_file (codes "check") words file other p.words_are q.words_are)
one_command words (Check file) (Asm other) p q =
    absurd (check_or_asm (same_verb (codes "check") (codes "asm") words file other p.words_are q))
one_command words (Asm file) (Run other m) p q =
    absurd (run_or_asm (same_verb (codes "run") (codes "asm") words other file q.0.words_are p))
one_command words (Asm file) (Check other) p q =
    absurd (check_or_asm (same_verb (codes "check") (codes "asm") words other file q.words_are p))
one_command words (Asm file) (Asm other) p q = ap Asm (one_file (codes "asm") words file other p q)

-- ---- words that ask for nothing

-- no file stands behind the verb
abbrev pub IsNoVerb : List ℕ → List (List ℕ) → Type 0
IsNoVerb verb words = (file : List ℕ) → AreVerbAndFile verb words file → ⊥

-- no system's file stands behind the verb
abbrev pub IsNoSystemVerb : List ℕ → List (List ℕ) → Type 0
IsNoSystemVerb verb words = (file : List ℕ) → AreVerbAndSystem verb words file → ⊥

pub nothing : (words : List (List ℕ)) → IsNoSystemVerb (codes "run") words → IsNoSystemVerb (codes "check") words
    → IsNoVerb (codes "asm") words → AsksForNothing words
nothing words run check asm (Run file n) p = run file p.0
nothing words run check asm (Check file) p = check file p
nothing words run check asm (Asm file) p = asm file p

pub something : (words : List (List ℕ)) (c : Command) → AsksFor words c → AsksForNothing words → ⊥
something words c p none = none c p

-- an answer that isn't Usage, to words that ask for something
pub no_usage : {T : Type 0} (words : List (List ℕ)) (c : Command) (r : Result T WordsFault) → AsksFor words c → (IsErrOf r fault.Usage → ⊥) → IsErrOf r fault.Usage ↔ AsksForNothing words
no_usage words c r asks other = (λ e. absurd (other e), λ none. absurd (something words c asks none))

-- want of memory isn't Usage
pub is_memory : {T : Type 0} (r : Result T WordsFault) (e : WordsFault) → r ≡ Err e → e ≡ fault.OutOfMemory → IsErrOf r fault.Usage → ⊥
is_memory (Ok x) e is memory h = absurd cc
is_memory (Err f) e is memory h = absurd cc

-- a request isn't Usage
pub answered : {T : Type 0} {x : T} (words : List (List ℕ)) (c : Command) → AsksFor words c → IsErrOf (Ok x) fault.Usage ↔ AsksForNothing words
answered words c asks = (λ e. absurd cc, λ none. absurd (something words c asks none))
