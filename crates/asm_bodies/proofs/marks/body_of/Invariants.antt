use Rattle.std.proofs.Common.{◌≡◌, ◌++◌, take, drop}
use Rattle.asm_bodies.specs.Bodies.{body_of}
use Rattle.asm_bodies.proofs.marks.body_of.Given as goal

abbrev pub invariant-loop-i : goal.invariant-loop-i
invariant-loop-i l = take l.i l.lines ++ body_of (drop l.i l.lines) ≡ body_of l.lines
