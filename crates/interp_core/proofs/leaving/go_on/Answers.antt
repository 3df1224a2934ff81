-- The slots that are left decide.
use Rattle.std.proofs.Common.{◌≡◌, ◌+◌, ◌∙◌, Option, sym, ap, length, drop, arith}
use Rattle.std.specs.Prelude.{not, nat_lt}
use Rattle.jx_base.specs.Stacks.{StackState}
use Rattle.jx_base.specs.declared.value.Value.{Value}
use Rattle.machine_model.specs.NumericRows.{depth_of}
use Rattle.machine_model.specs.ObjectRows.{with_result}
use Rattle.machine_model.specs.State.{stack_limit}
use Rattle.interp_num.proofs.Depths.{some_slot, length_within}
use Rattle.interp_core.proofs.Leavings.{depth_drop, fits_none, fits_some, fits_not, frame_is, stack_none, stack_some}
use Rattle.interp_core.proofs.leaving.go_on.Goals as goal

pub returns-in_default-clause-fits : goal.returns-in_default-clause-fits
returns-in_default-clause-fits c = fits_none (stack_limit c.args.system.now c.args.frame.now) c.args.taken c.args.frame.now.stack.values c.args.pushed c.in_default.is c.requires.frame.depth

pub returns-in_default-clause-frame : goal.returns-in_default-clause-frame
returns-in_default-clause-frame c e =
    let f = c.args.frame.now in
    frame_is c.args.system.now f c.pc_behind-frame.result (with_result c.args.pushed (drop c.args.taken f.stack.values)) c.take.new.stack c.pc_behind-frame.ensures (stack_none f.stack c.take.new.stack c.args.taken c.args.pushed c.in_default.is c.take.ensures)

pub slots_left-requires-clause-depth : goal.slots_left-requires-clause-depth
slots_left-requires-clause-depth c =
    let same = ap (λ (s : StackState). s.values) c.take.ensures in
    let le = depth_drop c.args.taken c.args.frame.now.stack.values in
    omega (arith, ap depth_of same, c.stack_limit-most.ensures, c.requires.frame.depth)

pub returns-then-slots_left-slots_of-clause-fits : goal.returns-then-slots_left-slots_of-clause-fits
returns-then-slots_left-slots_of-clause-fits c =
    let f = c.args.frame.now in let most = stack_limit c.args.system.now f in
    let same = ap (λ (s : StackState). depth_of s.values) c.take.ensures in
    let left : depth_of (drop c.args.taken f.stack.values) + c.slots_left.result ≡ most = omega (arith, same, c.slots_left.ensures.left, c.stack_limit-most.ensures) in
    fits_not most c.args.taken c.slots_left.result f.stack.values c.in-Some.value left (omega (arith, c.slots_of.ensures, c.if-slots_left-slots_of.true))
    ∙ ap (λ (o : Option Value). not (nat_lt most (depth_of (with_result o (drop c.args.taken f.stack.values))))) (sym c.in-Some.is)

pub push-requires : goal.push-requires
push-requires c =
    let same = ap (λ (s : StackState). length s.values) c.slots_left.ensures.same in
    let room = ap (λ (s : StackState). s.room) c.slots_left.ensures.same in
    let one = some_slot c.in-Some.value in
    let room2 = ap (λ (s : StackState). s.room) c.take.ensures in
    omega (arith, length_within c.take.new.stack.values, c.slots_left.ensures.left, c.stack_limit-most.ensures, c.requires.frame.room)

pub returns-clause-fits : goal.returns-clause-fits
returns-clause-fits c =
    let f = c.args.frame.now in let most = stack_limit c.args.system.now f in
    let same = ap (λ (s : StackState). depth_of s.values) c.take.ensures in
    let left : depth_of (drop c.args.taken f.stack.values) + c.slots_left.result ≡ most = omega (arith, same, c.slots_left.ensures.left, c.stack_limit-most.ensures) in
    fits_some most c.args.taken c.slots_left.result f.stack.values c.in-Some.value left (omega (arith, c.slots_of.ensures, c.if-slots_left-slots_of.false))
    ∙ ap (λ (o : Option Value). not (nat_lt most (depth_of (with_result o (drop c.args.taken f.stack.values))))) (sym c.in-Some.is)

pub returns-clause-frame : goal.returns-clause-frame
returns-clause-frame c e =
    let f = c.args.frame.now in
    frame_is c.args.system.now f c.pc_behind-frame.result (with_result c.args.pushed (drop c.args.taken f.stack.values)) c.push.new.self c.pc_behind-frame.ensures
    (stack_some f.stack c.take.new.stack c.slots_left.new.stack c.push.new.self c.args.taken c.args.pushed c.in-Some.value c.in-Some.is c.take.ensures c.slots_left.ensures.same c.push.ensures)
