use Rattle.std.proofs.Common.{◌≡◌, ◌∙◌, ◌+◌, sym, ap, subst}
use Rattle.asm_bodies.specs.Needs.{line_length}
use Rattle.asm_bodies.proofs.FarLines.{Seen, far_here, near_here, all_near}
use Rattle.asm_bodies.proofs.distances.first_far_from.Goals as goal

pub returns-then-is_far-clause-place : goal.returns-then-is_far-clause-place
returns-then-is_far-clause-place c =
    far_here c.args.marks.now c.loop-i.pc c.args.body.now c.loop-i.i c.index-body-i.result c.loop-i-test.true c.index-body-i.is (sym c.is_far.ensures ∙ c.if-is_far.true) c.loop-i.invariant

pub loop-i-preserved : goal.loop-i-preserved
loop-i-preserved c =
    let line = c.index-body-i.result in
    let pc : c.in_ok-pc.pc ≡ c.loop-i.pc + line_length c.loop-i.pc line = c.in_ok-pc.ensures ∙ ap (λ n. c.loop-i.pc + n) c.in_ok-line_length.ensures in
    subst (λ pc. Seen c.args.marks.now pc c.args.body.now (c.loop-i.i + 1)) (sym pc)
    (near_here c.args.marks.now c.loop-i.pc c.args.body.now c.loop-i.i line c.loop-i-test.true c.index-body-i.is (sym c.is_far.ensures ∙ c.if-is_far.false) c.loop-i.invariant)

pub returns-clause-place : goal.returns-clause-place
returns-clause-place c = all_near c.args.marks.now c.loop-i.pc c.args.body.now c.loop-i.i c.loop-i-test.false c.loop-i.invariant
