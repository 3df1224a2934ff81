use Rattle.std.proofs.Common.{◌≡◌, ◌∙◌, ◌+◌, sym, ap, subst}
use Rattle.asm_bodies.specs.Needs.{line_length}
use Rattle.asm_bytes.proofs.CodeOn.{Coded, none_coded, one_coded, all_coded}
use Rattle.asm_bytes.proofs.code.code_of.Goals as goal

pub loop-line-init : goal.loop-line-init
loop-line-init c = none_coded c.args.pool.now c.args.marks.now c.args.body.now c.new-bytes.result.items c.new-bytes.ensures.items

pub loop-line-preserved : goal.loop-line-preserved
loop-line-preserved c =
    let i = c.loop-line.line-index in
    let line = c.line-item.result in
    let pc : c.in_ok-pc.pc ≡ c.loop-line.pc + line_length c.loop-line.pc line = c.in_ok-pc.ensures ∙ ap (λ n. c.loop-line.pc + n) c.in_ok-line_length.ensures in
    subst (λ pc. Coded c.args.pool.now c.args.marks.now c.args.body.now (i + 1) pc c.push_line.new.bytes.items) (sym pc)
    (one_coded c.args.pool.now c.args.marks.now c.args.body.now i c.loop-line.pc line c.loop-line.bytes.items _ c.loop-line-test.true c.line-item.is c.in_ok-push_line.ensures c.loop-line.invariant)

pub returns : goal.returns
returns c = all_coded c.args.pool.now c.args.marks.now c.args.body.now c.loop-line.line-index c.loop-line.pc c.loop-line.bytes.items c.loop-line-test.false c.loop-line.invariant
