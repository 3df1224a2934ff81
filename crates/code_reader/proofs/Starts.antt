-- Marks where instructions start.
use Rattle.std.proofs.Common.{◌≡◌, ℕ, zero, suc, ◌+◌, ◌<◌, List, [], ◌∷◌, length, take, get_or, Bool, true, false, refl, sym, ap, ◌∙◌, arith, get_or-set_same, get_or-set_other}
use Rattle.std.specs.Prelude.{pos, negsuc, ◌||◌, ◌≢◌, nat_eq, replicate, slice_set}
use Rattle.std.specs.List.{list_any}
use Rattle.std.specs.Ordering.{int_eq}
use Rattle.std.proofs.lemmas.List.{take_more}
use Rattle.std.proofs.lemmas.List.Folds.{list_any-append}
use Rattle.std.proofs.lemmas.Bool.{eqb-true, eq-eqb}
use Rattle.std.proofs.lemmas.Bool.Decides.{nat_tests, same_from_decides, Decides-int_eq}
use Rattle.std.proofs.Math.Seq.{take-length}
use Rattle.class_grammar.specs.CodeGrammar.{starts_at}
use Rattle.jx_base.specs.declared.class_file.Instr.{Instr}
use Rattle.code_reader.specs.CodeReading.{Marks, is_marked}
use Rattle.std.proofs.Math.Bool.{or-false}

none_marked : (size n : ℕ) → get_or (replicate size false) n false ≡ false
none_marked zero n = refl
none_marked (suc size) zero = refl
none_marked (suc size) (suc n) = none_marked size n

-- no instruction was marked by now
pub none : (starts : List Bool) (size : ℕ) → starts ≡ replicate size false → (n : ℕ) → get_or starts n false ≡ starts_at [] (pos n)
unfolding starts_at
none starts size e n = ap (λ (s : List Bool). get_or s n false) e ∙ none_marked size n

or_true : (b : Bool) → (b || true) ≡ true
or_true true = refl
or_true false = refl

marked_at : (starts : List Bool) (place n : ℕ) (b same : Bool) → nat_eq place n ≡ same → place < length starts → get_or starts n false ≡ b → get_or (slice_set starts place true) n false ≡ (b || (same || false))
marked_at starts place n b true e h is =
    let at : place ≡ n = grind (arith, nat_tests) in
    ap (λ k. get_or (slice_set starts place true) k false) (sym at) ∙ get_or-set_same starts place true false h ∙ sym (or_true b)
marked_at starts place n b false e h is =
    let at : n ≢ place = grind (arith, nat_tests) in
    get_or-set_other starts place n true false at ∙ is ∙ sym (or-false b)

pos_is : (a b : ℕ) → pos a ≡ pos b → a ≡ b
pos_is a b e = cc

same_place : (a b : ℕ) → int_eq (pos a) (pos b) ≡ nat_eq a b
same_place a b = same_from_decides (int_eq (pos a) (pos b)) (nat_eq a b) (Decides-int_eq (pos a) (pos b)) ((λ e. ap pos (eqb-true a b e)), (λ e. eq-eqb a b (pos_is a b e)))

one_more : (instrs : List Instr) (j n : ℕ) (x : Instr) → j < length instrs → x ≡ get_or instrs j x → starts_at (take (j + 1) instrs) (pos n) ≡ (starts_at (take j instrs) (pos n) || (nat_eq x.pc n || false))
unfolding starts_at
one_more instrs j n x h is =
    let p = λ (i : Instr). int_eq (pos i.pc) (pos n) in
    ap (list_any p) (take_more instrs j x h) ∙ list_any-append p (take j instrs) (get_or instrs j x ∷ []) ∙ ap (λ (i : Instr). list_any p (take j instrs) || (p i || false)) (sym is)
    ∙ ap (λ b. list_any p (take j instrs) || (b || false)) (same_place x.pc n)

-- one more instruction was marked
pub one_marked : (starts : List Bool) (instrs : List Instr) (j : ℕ) (x : Instr) → j < length instrs → x ≡ get_or instrs j x → x.pc < length starts
    → ((n : ℕ) → get_or starts n false ≡ starts_at (take j instrs) (pos n))
    → (n : ℕ) → get_or (slice_set starts x.pc true) n false ≡ starts_at (take (j + 1) instrs) (pos n)
one_marked starts instrs j x h is short marked n =
    marked_at starts x.pc n (starts_at (take j instrs) (pos n)) (nat_eq x.pc n) refl short (marked n) ∙ sym (one_more instrs j n x h is)

never : (instrs : List Instr) (n : ℕ) → false ≡ starts_at instrs (negsuc n)
unfolding starts_at
never [] n = refl
never (i ∷ instrs) n = never instrs n

marks_all : (starts : List Bool) (instrs : List Instr) → ((n : ℕ) → get_or starts n false ≡ starts_at instrs (pos n)) → Marks starts instrs
unfolding is_marked
marks_all starts instrs marked (pos n) = marked n
marks_all starts instrs marked (negsuc n) = never instrs n

-- all instructions were marked
pub all_marked : (starts : List Bool) (instrs : List Instr) (j : ℕ) → j ≡ length instrs → ((n : ℕ) → get_or starts n false ≡ starts_at (take j instrs) (pos n)) → Marks starts instrs
all_marked starts instrs j at marked =
    let whole : take j instrs ≡ instrs = ap (λ k. take k instrs) at ∙ take-length instrs in
    marks_all starts instrs (λ n. marked n ∙ ap (λ (is : List Instr). starts_at is (pos n)) whole)
