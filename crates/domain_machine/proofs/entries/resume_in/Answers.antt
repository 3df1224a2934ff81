use Rattle.std.proofs.Common.{◌∙◌, Some, refl}
use Rattle.machine_model.specs.AfterEntry.{after_resume, with_running_thread}
use Rattle.machine_model.specs.MachineThreads.{core_of}
use Rattle.domain_machine.specs.declared.held.Held.{Held}
use Rattle.domain_machine.specs.Entering.{held_state}
use Rattle.domain_machine.specs.Works.{thread_of}
use Rattle.domain_machine.proofs.Arms.{leads, same_thread}
use Rattle.domain_machine.proofs.Arriving.{thread_held}
use Rattle.domain_machine.proofs.entries.resume_in.Goals as goal

pub answer_to-requires-clause-reply : goal.answer_to-requires-clause-reply
unfolding core_of
answer_to-requires-clause-reply c = c.requires.reply (thread_of c.take_thread-thread.result) (thread_held c.args.held.now c.args.place c.take_thread-thread.result c.take_thread-thread.ensures.thread)

pub returns : goal.returns
unfolding with_running_thread
returns c x h =
    let old = c.args.held.now in let k = c.args.place in let t = c.take_thread-thread.result in let u = c.answer_to.new.thread in
    let new : Held = record { core = c.answer_to.new.core; threads = c.put_thread.new.threads; running = Some k; fuel = old.fuel } in
    leads old new (with_running_thread (held_state old) k) k t u c.take_thread-thread.ensures.thread (record { threads = refl; store = refl }) (c.put_thread.ensures ∙ c.take_thread-thread.ensures.others u) refl
    (λ st t x. after_resume c.args.system.now st t x c.args.answer.now) c.in_ok-bad.bad c.in_ok-bad.ensures x (same_thread old k t x c.take_thread-thread.ensures.thread h) refl refl
