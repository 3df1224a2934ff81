use Rattle.std.proofs.Common.{◌≡◌, ℕ, List, take}
use Rattle.std.specs.HashSet.{contains}
use Rattle.std.specs.Str.{bytes_eq}
use Rattle.asm_bodies.specs.Bodies.{has_label}
use Rattle.asm_checks.proofs.body.labels_of.Given as goal

abbrev pub invariant-loop-line : goal.invariant-loop-line
invariant-loop-line l = (name : List ℕ) → contains bytes_eq l.labels name ≡ has_label name (take l.line-index l.body)
