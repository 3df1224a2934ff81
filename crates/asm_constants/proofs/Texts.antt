-- How long the bytes of a text are.
use Rattle.std.proofs.Common.{ℕ, ◌*◌, ◌≤◌, List, [], ◌∷◌, length, length-append, inl, inr, arith}
use Rattle.std.specs.Prelude.{◌&&◌, nat_le, nat_lt}
use Rattle.std.proofs.lemmas.Bool.{cases_Bool}
use Rattle.class_grammar.specs.ModifiedUtf8.{unit_bytes, modified_utf8}

unit_length : (u : ℕ) → (1 ≤ length (unit_bytes u)) × (length (unit_bytes u) ≤ 3)
unfolding unit_bytes
unit_length u =
    elim (cases_Bool (nat_le 1 u && nat_lt u 0x80)) [
      | inl one ↦ rw one (omega arith, omega arith)
      | inr more ↦
          elim (cases_Bool (nat_lt u 0x800)) [
            | inl two ↦ rw (more, two) (omega arith, omega arith)
            | inr three ↦ rw (more, three) (omega arith, omega arith)
          ]
    ]

pub text_length : (units : List ℕ) → (length units ≤ length (modified_utf8 units)) × (length (modified_utf8 units) ≤ 3 * length units)
text_length [] = (omega arith, omega arith)
text_length (u ∷ units) =
    let one = unit_length u in
    let more = text_length units in
    let joined = length-append (unit_bytes u) (modified_utf8 units) in
    (omega (arith, joined, one, more), omega (arith, joined, one, more))
