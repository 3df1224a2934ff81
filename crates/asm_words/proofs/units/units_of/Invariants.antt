use Rattle.std.proofs.Common.{◌≡◌, ◌++◌}
use Rattle.std.specs.Prelude.{flat_map}
use Rattle.std.specs.Char.Escape.{encode_utf16}
use Rattle.std.specs.Str.{IsUtf8, chars}
use Rattle.std.specs.Str.Iter.{encode_utf16_rest, encode_utf16_pending}
use Rattle.asm_words.proofs.units.units_of.Given as goal

abbrev pub invariant-loop-unit : goal.invariant-loop-unit
invariant-loop-unit l = record {
  is_utf8 : IsUtf8 (encode_utf16_rest l.unit-iterator);
  units : l.units.items ++ (encode_utf16_pending l.unit-iterator ++ flat_map encode_utf16 (chars (encode_utf16_rest l.unit-iterator))) ≡ flat_map encode_utf16 (chars l.line);
}
