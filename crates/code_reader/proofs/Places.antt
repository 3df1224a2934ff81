-- The instructions of code stand in order, within the code.
use Rattle.std.proofs.Common.{◌≡◌, ℕ, zero, suc, ◌-◌, ◌+◌, ◌≤◌, ◌<◌, List, [], ◌∷◌, length, subst, arith}
use Rattle.std.specs.Prelude.{map, slice_index, slice_index_or}
use Rattle.class_grammar.specs.CodeGrammar.{BeginsWith}
use Rattle.jx_base.specs.declared.class_file.Instr.{Instr}
use Rattle.code_reader.proofs.Sound.{takes_a_byte, starts_at_pc}

-- the instructions start from low on, one behind the other, and below size
abbrev pub RisesFrom : ℕ → ℕ → List Instr → Type 0
RisesFrom low size [] = Unit {0}
RisesFrom low size (i ∷ instrs) = (low ≤ i.pc) × (i.pc < size) × RisesFrom (i.pc + 1) size instrs

pub rises_from : (low size : ℕ) (bytes : List ℕ) (instrs : List Instr) (rest : List ℕ) → low ≤ size - length bytes → length bytes ≤ size → BeginsWith size bytes instrs rest → RisesFrom low size instrs
rises_from low size bytes [] rest from le h = tt
rises_from low size bytes (i ∷ instrs) rest from le h =
    let pc = starts_at_pc (size - length bytes) bytes i h.0 h.1 in
    let less = takes_a_byte (size - length bytes) bytes i h.0 h.1 in
    (omega arith, omega arith, rises_from (i.pc + 1) size h.0 instrs rest (omega arith) (omega arith) h.2)

pub within : (low size : ℕ) (instrs : List Instr) → RisesFrom low size instrs → (k : ℕ) (d : Instr) → k < length instrs → (slice_index_or instrs k d).pc < size
within low size [] r k d h = absurd (omega arith)
within low size (i ∷ instrs) r zero d h = r.1
within low size (i ∷ instrs) r (suc k) d h = within (i.pc + 1) size instrs r.2 k d (omega arith)

abbrev pcs : List Instr → List ℕ
pcs instrs = map (λ i. i.pc) instrs

pub in_order : (low size : ℕ) (instrs : List Instr) → RisesFrom low size instrs → (k : ℕ) → k + 1 < length (pcs instrs) → slice_index (pcs instrs) k < slice_index (pcs instrs) (k + 1)
in_order low size [] r k h = absurd (omega arith)
in_order low size (i ∷ []) r k h = absurd (omega arith)
in_order low size (i ∷ j ∷ instrs) r zero h = let up : i.pc + 1 ≤ j.pc = r.2.0 in let up2 : i.pc < j.pc = omega arith in up2
in_order low size (i ∷ j ∷ instrs) r (suc k) h =
    let next : suc (k + 1) ≡ suc k + 1 = omega arith in
    let all = pcs (i ∷ j ∷ instrs) in
    subst (λ n. slice_index all (suc k) < slice_index all n) next (in_order (i.pc + 1) size (j ∷ instrs) r.2 k (omega arith))
