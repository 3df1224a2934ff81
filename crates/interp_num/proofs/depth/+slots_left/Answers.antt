-- The slots of a run, and those of the values below it.
use Rattle.std.proofs.Common.{arith, ℕ, sym, ap, ◌∙◌, ◌≡◌, ◌+◌, take, length}
use Rattle.std.proofs.lemmas.List.{length-append, length-take-le}
use Rattle.jx_base.specs.Stacks.{StackState}
use Rattle.machine_model.specs.NumericRows.{depth_of}
use Rattle.interp_num.proofs.depth.+slots_left.Goals as goal
use Rattle.interp_num.proofs.depth.+slots_left.Goals.{then-count-eq-RUN, else-count-eq-RUN}
use Rattle.interp_num.proofs.Depths.{depth_append, depth_none, length_within}

pub left_by_run-left-requires : goal.left_by_run-left-requires
left_by_run-left-requires t c =
    let split = sym (ap depth_of c.take_run-count.ensures.values) ∙ depth_append (take c.take_run-count.result c.take_run-count.new.run) c.take_run-count.new.stack.values in
    omega arith

pub slots_left-left-requires : goal.slots_left-left-requires
slots_left-left-requires t c =
    let run = take c.take_run-count.result c.take_run-count.new.run in
    let split = sym (ap depth_of c.take_run-count.ensures.values) ∙ depth_append run c.take_run-count.new.stack.values in
    let size = length-take-le c.take_run-count.result c.take_run-count.new.run (omega arith) in
    let some = length_within run in
    (omega arith, (omega arith, omega arith))

pub put_run-requires : goal.put_run-requires
put_run-requires t c =
    let same : c.if-count-eq-RUN.stack ≡ c.take_run-count.new.stack =
    elim c.if-count-eq-RUN.branch [ then-count-eq-RUN w ↦ w.stack-is ∙ w.slots_left-left.ensures.same | else-count-eq-RUN w ↦ w.stack-is ] in
    let below = ap (λ (s : StackState). length s.values) same in
    let room = ap (λ (s : StackState). s.room) same in
    let sizes = simp length-append at (ap length c.take_run-count.ensures.values) in
    omega (arith, sizes, length_within c.args.stack.now.values, c.take_run-count.ensures.room)

-- the slots that are left by a run and by the values below it
joined : (old run below most left less : ℕ) → old ≡ run + below → run + left ≡ most → below + less ≡ left → old + less ≡ most
joined old run below most left less a b c = omega arith

pub returns-clause-left : goal.returns-clause-left
returns-clause-left t c =
    let run = take c.take_run-count.result c.take_run-count.new.run in
    let split = sym (ap depth_of c.take_run-count.ensures.values) ∙ depth_append run c.take_run-count.new.stack.values in
    elim c.if-count-eq-RUN.branch [
      | then-count-eq-RUN w ↦
          let less = w.left-is in
          joined _ _ _ c.args.most c.left_by_run-left.result _ split c.left_by_run-left.ensures (omega arith)
      | else-count-eq-RUN w ↦
          let none = ap depth_of (c.take_run-count.ensures.all (omega arith)) ∙ depth_none in
          let less = w.left-is in
          joined _ _ _ c.args.most c.left_by_run-left.result _ split c.left_by_run-left.ensures (omega arith)
    ]
