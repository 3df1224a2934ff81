use Rattle.std.proofs.Common.{◌∙◌, ◌≤◌, length, arith, refl}
use Rattle.domain_machine.specs.declared.held.Held.{Held}
use Rattle.domain_machine.proofs.Arriving.{arrived, can_work_held, none_held}
use Rattle.domain_machine.proofs.advancing.run_held.Goals as goal

pub returns-then-place-len : goal.returns-then-place-len
returns-then-place-len c =
    let l : length c.args.held.now.threads.items ≤ c.in-Some.running = grind (arith, c.if-place-len.true, c.len.ensures, c.args.held.now.threads.ok) in
    none_held c.args.system.now c.args.held.now c.in-Some.running c.in-Some.is l

pub run_own-requires-clause-thread : goal.run_own-requires-clause-thread
run_own-requires-clause-thread c = can_work_held c.args.system.now c.args.held.now c.in-Some.running c.take_thread-thread.result c.in-Some.is c.take_thread-thread.ensures.thread c.requires.held

pub returns : goal.returns
returns c =
    let s = c.args.system.now in let old = c.args.held.now in let k = c.in-Some.running in let x = c.take_thread-thread.result in
    let new : Held = record old { core = c.run_own.new.core; threads = c.put_thread.new.threads; fuel = c.run_own.new.fuel } in
    arrived s old new k x c.run_own.new.thread c.next_of.result c.in_ok-act.act c.in-Some.is c.take_thread-thread.ensures.thread (c.put_thread.ensures ∙ c.take_thread-thread.ensures.others c.run_own.new.thread) refl c.in_ok-act.ensures c.next_of.ensures
