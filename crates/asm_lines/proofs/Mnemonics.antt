-- The opcode of a mnemonic, found by a walk over the table.
use Rattle.std.proofs.Common.{◌≡◌, ℕ, ◌<◌, List, [], ◌∷◌, length, get_or, Bool, true, false, Some, None, nat_eq, refl, sym, arith}
use Rattle.std.specs.List.{position, position_or_len}
use Rattle.std.specs.Str.{bytes_eq}
use Rattle.std.proofs.lemmas.List.Sums.{position_or_len_is}
use Rattle.std.proofs.lemmas.Bool.Decides.{nat_tests}
use Rattle.class_grammar.specs.Opcodes.{Opcode, unassigned, constants, loads, stores, stack_forms, arithmetic, conversions, comparisons, control, references, extended, opcodes, opcode_at}
use Rattle.asm_lines.specs.Lines.{opcode_named}

count_of_opcodes : length opcodes ≡ 202
unfolding constants loads stores stack_forms arithmetic conversions comparisons control references extended opcodes
count_of_opcodes = refl

position_is : {X : Type 0} (p : X → Bool) (xs : List X) (i : ℕ) (d : X) → i < length xs → ((k : ℕ) → k < i → p (get_or xs k d) ≡ false) → p (get_or xs i d) ≡ true → position p xs ≡ Some i
position_is p xs i d h before at =
    let e : position_or_len p xs ≡ i = position_or_len_is p xs i d (omega arith) before (λ _. at) in
    rw e (grind (arith, nat_tests))

position_is_none : {X : Type 0} (p : X → Bool) (xs : List X) (d : X) → ((k : ℕ) → k < length xs → p (get_or xs k d) ≡ false) → position p xs ≡ None
position_is_none p xs d before =
    let e : position_or_len p xs ≡ length xs = position_or_len_is p xs (length xs) d (omega arith) before (λ h. absurd (omega arith)) in
    rw e (grind (arith, nat_tests))

-- no opcode has no mnemonic
pub is_nothing : (word : List ℕ) → nat_eq (length word) 0 ≡ true → None ≡ opcode_named word
unfolding opcode_named
is_nothing [] h = refl
is_nothing (u ∷ units) h = absurd (grind (arith, nat_tests))

-- the first opcode of that mnemonic
pub is_found : (word : List ℕ) (n : ℕ) → nat_eq (length word) 0 ≡ false → n < 202 → ((k : ℕ) → k < n → bytes_eq word (opcode_at k).mnemonic ≡ false) →
    bytes_eq word (opcode_at n).mnemonic ≡ true → Some n ≡ opcode_named word
unfolding opcode_named opcode_at
is_found [] n some small before at = cc
is_found (u ∷ units) n some small before at =
    sym (position_is (λ (o : Opcode). bytes_eq (u ∷ units) o.mnemonic) opcodes n unassigned (omega (arith, count_of_opcodes)) before at)

-- none is of that mnemonic
pub is_not_found : (word : List ℕ) → nat_eq (length word) 0 ≡ false → ((k : ℕ) → k < 202 → bytes_eq word (opcode_at k).mnemonic ≡ false) → None ≡ opcode_named word
unfolding opcode_named opcode_at
is_not_found [] some before = cc
is_not_found (u ∷ units) some before =
    sym (position_is_none (λ (o : Opcode). bytes_eq (u ∷ units) o.mnemonic) opcodes unassigned (λ k h. before k (omega (arith, count_of_opcodes))))
