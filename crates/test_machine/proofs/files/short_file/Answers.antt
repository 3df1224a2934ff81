use Rattle.std.proofs.Common.{arith}
use Rattle.class_grammar.proofs.CodeLengths.{has_short_codes}
use Rattle.test_machine.proofs.ReadBytes.{bytes_fit}
use Rattle.test_machine.proofs.files.short_file.Goals as goal

pub try_methods-requires : goal.try_methods-requires
try_methods-requires c = record { short = rw c.as_slice.ensures (has_short_codes c.args.bytes.now c.in-Ok.file c.in-Ok.ensures.found) }

pub returns-in_ok-try_methods-in-Ok : goal.returns-in_ok-try_methods-in-Ok
returns-in_ok-try_methods-in-Ok c =
    record {
      bytes = c.args.bytes.now;
      are_bytes = bytes_fit c.args.bytes.now (λ i. omega (arith, c.type_inv.bytes i));
      file = c.in-Ok.ensures.found;
      codes = rw c.as_slice.ensures at c.in_ok-try_methods-in-Ok.ensures;
    }
