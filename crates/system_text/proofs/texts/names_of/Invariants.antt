use Rattle.std.proofs.Common.{◌≡◌, take}
use Rattle.system_text.specs.Scan.{texts_at}
use Rattle.system_text.proofs.texts.names_of.Given as goal

abbrev pub invariant-loop-text : goal.invariant-loop-text
invariant-loop-text l = l.names.items ≡ texts_at (take l.text-index l.texts)
