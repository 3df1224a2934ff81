use Rattle.std.proofs.Common.{◌≡◌, ℕ, zero, suc, ◌<◌, ◌≤◌, length, List, [], ◌∷◌, get_or, refl, ap, sym, ◌∙◌, Bor}
use Rattle.std.specs.Prelude.{map}
use Rattle.std.proofs.lemmas.List.{get_or_past, get_or_default}
use Rattle.jx_base.specs.declared.row.Form.{Form}
use Rattle.jx_base.specs.declared.row.Row.{Row}
use Rattle.class_grammar.specs.Opcodes.{Opcode, opcode, plain_opcode, left_out, unassigned, constants, loads, stores, stack_forms, arithmetic, conversions, comparisons, control, references, extended, opcodes, opcode_at}
use Rattle.instruction_table.proofs.opcodes.opcode_of.Goals as goal

abbrev Line : Type 0
Line = Bor (List ℕ) × Form × Row

-- what a line of the table says
abbrev said : Line → Opcode
said line = record { mnemonic = line.0.now; form = line.1; row = line.2 }

said_at : (lines : List Line) (n : ℕ) (line : Line) → said (get_or lines n line) ≡ get_or (map said lines) n (said line)
said_at [] n line = refl
said_at (l ∷ lines) zero line = refl
said_at (l ∷ lines) (suc n) line = said_at lines n line

in_table : (place n : ℕ) (o : Opcode) → place ≡ n → place < length opcodes → get_or opcodes place o ≡ opcode_at n
unfolding opcode_at
in_table place n o e h = get_or_default opcodes place o unassigned h ∙ ap (λ k. get_or opcodes k unassigned) e

past : (place n : ℕ) → place ≡ n → length opcodes ≤ place → unassigned ≡ opcode_at n
unfolding opcode_at
past place n e h = sym (get_or_past opcodes place unassigned h) ∙ ap (λ k. get_or opcodes k unassigned) e

mnemonic_said : (lines : List Line) (n : ℕ) (line : Line) → (get_or lines n line).0.now ≡ (get_or (map said lines) n (said line)).mnemonic
mnemonic_said lines n line = ap (λ (o : Opcode). o.mnemonic) (said_at lines n line)

pub returns-then-place-lt202-clause-mnemonic : goal.returns-then-place-lt202-clause-mnemonic
unfolding opcode plain_opcode left_out unassigned constants loads stores stack_forms arithmetic conversions comparisons control references extended opcodes opcode_at
returns-then-place-lt202-clause-mnemonic c = rw mnemonic_said (ap (λ (o : Opcode). o.mnemonic) (in_table c.from-place.result c.args.number _ c.from-place.ensures c.if-place-lt202.true))

pub returns-clause-mnemonic : goal.returns-clause-mnemonic
unfolding opcode plain_opcode left_out unassigned constants loads stores stack_forms arithmetic conversions comparisons control references extended opcodes opcode_at
returns-clause-mnemonic c = ap (λ (o : Opcode). o.mnemonic) (past c.from-place.result c.args.number c.from-place.ensures c.if-place-lt202.false)

form_said : (lines : List Line) (n : ℕ) (line : Line) → (get_or lines n line).1 ≡ (get_or (map said lines) n (said line)).form
form_said lines n line = ap (λ (o : Opcode). o.form) (said_at lines n line)

pub returns-then-place-lt202-clause-form : goal.returns-then-place-lt202-clause-form
unfolding opcode plain_opcode left_out unassigned constants loads stores stack_forms arithmetic conversions comparisons control references extended opcodes opcode_at
returns-then-place-lt202-clause-form c = rw form_said (ap (λ (o : Opcode). o.form) (in_table c.from-place.result c.args.number _ c.from-place.ensures c.if-place-lt202.true))

pub returns-clause-form : goal.returns-clause-form
unfolding opcode plain_opcode left_out unassigned constants loads stores stack_forms arithmetic conversions comparisons control references extended opcodes opcode_at
returns-clause-form c = ap (λ (o : Opcode). o.form) (past c.from-place.result c.args.number c.from-place.ensures c.if-place-lt202.false)

row_said : (lines : List Line) (n : ℕ) (line : Line) → (get_or lines n line).2 ≡ (get_or (map said lines) n (said line)).row
row_said lines n line = ap (λ (o : Opcode). o.row) (said_at lines n line)

pub returns-then-place-lt202-clause-row : goal.returns-then-place-lt202-clause-row
unfolding opcode plain_opcode left_out unassigned constants loads stores stack_forms arithmetic conversions comparisons control references extended opcodes opcode_at
returns-then-place-lt202-clause-row c = rw row_said (ap (λ (o : Opcode). o.row) (in_table c.from-place.result c.args.number _ c.from-place.ensures c.if-place-lt202.true))

pub returns-clause-row : goal.returns-clause-row
unfolding opcode plain_opcode left_out unassigned constants loads stores stack_forms arithmetic conversions comparisons control references extended opcodes opcode_at
returns-clause-row c = ap (λ (o : Opcode). o.row) (past c.from-place.result c.args.number c.from-place.ensures c.if-place-lt202.false)
