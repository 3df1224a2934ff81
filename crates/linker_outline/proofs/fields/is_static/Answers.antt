use Rattle.std.specs.Prelude.{◌≡◌, refl, ℕ, zero, suc, ◌*◌, ◌<◌, ◌==◌, ◌%◌, ◌/◌, not}
use Rattle.std.proofs.Common.{arith}
use Rattle.std.proofs.lemmas.Nat.Bits.{and_pow}
use Rattle.class_grammar.specs.Flags.{is_static, has_flag}
use Rattle.linker_outline.proofs.fields.is_static.Goals as goal

is_bit : (bit : ℕ) → bit < 2 → not (bit * 8 == 0) ≡ (bit == 1)
is_bit zero h = refl
is_bit (suc zero) h = refl
is_bit (suc (suc n)) h = absurd (omega arith)

pub returns : goal.returns
unfolding is_static has_flag
returns c =
    let small : c.args.flags / 8 % 2 < 2 = omega arith in
    rw (and_pow c.args.flags 3) (is_bit (c.args.flags / 8 % 2) small)
