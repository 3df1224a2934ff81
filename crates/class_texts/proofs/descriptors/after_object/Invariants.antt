use Rattle.std.proofs.Common.{◌≡◌, [], take, drop}
use Rattle.class_grammar.specs.Descriptors.{object_at}
use Rattle.class_texts.proofs.descriptors.after_object.Given as goal

abbrev pub invariant-loop-i : goal.invariant-loop-i
invariant-loop-i l = object_at (take l.i l.text) (drop l.i l.text) ≡ object_at [] l.text
