use Rattle.std.proofs.Common.{◌≡◌, take}
use Rattle.linker_outline.proofs.fields.copy_of.Given as goal

abbrev pub invariant-loop-field : goal.invariant-loop-field
invariant-loop-field l = l.copies.items ≡ take l.field-index l.fields
