use Rattle.std.proofs.Common.{◌≡◌, ◌-◌, ◌<◌, ◌^◌, length}
use Rattle.class_grammar.specs.Descriptors.{types_at}
use Rattle.class_texts.specs.Shapes.{of_types}
use Rattle.class_texts.proofs.Shapes.{with_tally}
use Rattle.class_texts.proofs.descriptors.types_at.Given as goal

abbrev pub invariant-loop : goal.invariant-loop
invariant-loop l = record {
  read : with_tally l.tally (of_types (types_at (length l.text - l.counter) l.rest)) ≡ of_types (types_at (length l.text) l.text);
  fits : l.tally.slots < 2 ^ 16;
}
