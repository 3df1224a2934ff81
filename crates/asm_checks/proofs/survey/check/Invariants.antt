use Rattle.std.proofs.Common.{◌≡◌, [], take, drop, reverse}
use Rattle.asm_bodies.specs.Needs.{pool_of}
use Rattle.asm_checks.specs.Faults.{first_fault}
use Rattle.asm_checks.specs.Following.{Follows}
use Rattle.asm_checks.proofs.survey.check.Given as goal

abbrev pub invariant-loop-i : goal.invariant-loop-i
invariant-loop-i l =
    Follows l.survey (reverse (take l.i l.lines)) (drop l.i l.lines)
    × (l.pool ≡ pool_of (reverse (take l.i l.lines)))
    × (first_fault [] l.lines ≡ first_fault (reverse (take l.i l.lines)) (drop l.i l.lines))
