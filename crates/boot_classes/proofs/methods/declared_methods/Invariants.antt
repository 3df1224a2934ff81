use Rattle.std.proofs.Common.{◌≡◌, take}
use Rattle.boot_classes.specs.Rows.{declared_methods}
use Rattle.boot_classes.proofs.methods.declared_methods.Given as goal

abbrev pub invariant-loop-signature : goal.invariant-loop-signature
invariant-loop-signature l = l.methods.items ≡ declared_methods l.flags (take l.signature-index l.signatures)
