use Rattle.std.proofs.Common.{◌≡◌, ◌∙◌, sym, ap, arith, ℕ, pos, length}
use Rattle.std.specs.Int.{w32}
use Rattle.std.proofs.lemmas.Int.{to_z-of_z}
use Rattle.region_bytes.proofs.LowBytes.{one_read, two_read, four_read}
use Rattle.memory_space.proofs.cells.read.Goals as goal

pub returns-in-len1 : goal.returns-in-len1
returns-in-len1 c =
    let bytes = c.args.bytes.now in
    let n : length bytes ≡ 1 = omega (arith, c.in-len1.len_at_least, c.in-len1.len_below) in
    to_z-of_z w32 c.from.result (record { sfits = c.from.type_inv }) ∙ c.from.ensures ∙ sym (one_read bytes n)

pub returns-in-len2 : goal.returns-in-len2
returns-in-len2 c =
    let bytes = c.args.bytes.now in
    let n : length bytes ≡ 2 = omega (arith, c.in-len2.len_at_least, c.in-len2.len_below) in
    to_z-of_z w32 c.from-in-len2.result (record { sfits = c.from-in-len2.type_inv }) ∙ c.from-in-len2.ensures ∙ ap (λ (k : ℕ). pos k) c.from_le_bytes.ensures ∙ sym (two_read bytes n)

pub returns-in-len4 : goal.returns-in-len4
returns-in-len4 c =
    let bytes = c.args.bytes.now in
    let n : length bytes ≡ 4 = omega (arith, c.in-len4.len_at_least, c.in-len4.len_below) in
    to_z-of_z w32 c.from_le_bytes-in-len4.result (record { sfits = c.from_le_bytes-in-len4.type_inv }) ∙ c.from_le_bytes-in-len4.ensures ∙ sym (four_read bytes n)
