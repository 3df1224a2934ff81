use Rattle.std.proofs.Common.{◌<◌, length, ap, ◌∙◌, subst, sym, arith}
use Rattle.std.proofs.lemmas.List.{length-replicate, length-set}
use Rattle.jx_base.specs.declared.class_file.Instr.{Instr}
use Rattle.code_reader.proofs.Starts.{none, one_marked, all_marked}
use Rattle.code_reader.proofs.targets.starts_of.Goals as goal

pub loop-instr-init : goal.loop-instr-init
loop-instr-init c =
    let e = c.in_ok-starts.ensures.items_if_clones_equal (λ y is. is) in
    (ap length e ∙ length-replicate _ _, none c.in_ok-starts.starts.items c.args.size e)

pub loop-instr-preserved : goal.loop-instr-preserved
loop-instr-preserved c =
    let x = c.instr-item.result in
    let short = subst (λ (i : Instr). i.pc < c.args.size) (sym c.instr-item.is) (c.requires c.loop-instr.instr-index x c.loop-instr-test.true) in
    let below : x.pc < length c.loop-instr.starts.items = omega arith in
    (length-set c.loop-instr.starts.items _ _ ∙ c.loop-instr.invariant.0, one_marked c.loop-instr.starts.items c.args.instrs.now c.loop-instr.instr-index x c.loop-instr-test.true c.instr-item.is below c.loop-instr.invariant.1)

pub returns : goal.returns
returns c = all_marked c.loop-instr.starts.items c.args.instrs.now c.loop-instr.instr-index (omega arith) c.loop-instr.invariant.1
