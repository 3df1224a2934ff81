use Rattle.std.proofs.Common.{◌≡◌, ◌∙◌, ◌+◌, sym, ap, subst}
use Rattle.asm_bodies.specs.Needs.{line_length}
use Rattle.asm_bodies.proofs.MarkLaws.{Read, none_read, one_more, all_read}
use Rattle.asm_bodies.proofs.marks.marks_of.Goals as goal

pub loop-line-init : goal.loop-line-init
loop-line-init c = none_read c.new-marks.result c.args.body.now c.new-marks.ensures

pub loop-line-preserved : goal.loop-line-preserved
loop-line-preserved c =
    let i = c.loop-line.line-index in
    let line = c.line-item.result in
    let pc : c.in_ok-pc.pc ≡ c.loop-line.pc + line_length c.loop-line.pc line = c.in_ok-pc.ensures ∙ ap (λ n. c.loop-line.pc + n) c.in_ok-line_length.ensures in
    subst (λ pc. Read c.add_line.new.self pc c.args.body.now (i + 1)) (sym pc)
    (one_more c.loop-line.marks c.add_line.new.self c.loop-line.pc c.args.body.now i line c.loop-line-test.true c.line-item.is c.in_ok-add_line.ensures c.loop-line.invariant)

pub returns : goal.returns
returns c = all_read c.loop-line.marks c.loop-line.pc c.args.body.now c.loop-line.line-index c.loop-line-test.false c.loop-line.invariant
