use Rattle.std.proofs.Common.{◌∙◌, refl}
use Rattle.machine_model.specs.AfterEntry.{after_reply}
use Rattle.machine_model.specs.MachineThreads.{core_of, with_less_fuel}
use Rattle.domain_machine.specs.declared.held.Held.{Held}
use Rattle.domain_machine.specs.Entering.{held_state}
use Rattle.domain_machine.specs.Works.{thread_of}
use Rattle.domain_machine.proofs.Arms.{leads, same_thread}
use Rattle.domain_machine.proofs.Arriving.{thread_held}
use Rattle.domain_machine.proofs.entries.reply_in.Goals as goal

pub reply_to-requires-clause-reply : goal.reply_to-requires-clause-reply
unfolding core_of
reply_to-requires-clause-reply c = c.requires.reply (thread_of c.take_thread-thread.result) (thread_held c.args.held.now c.args.place c.take_thread-thread.result c.take_thread-thread.ensures.thread)

pub returns : goal.returns
unfolding with_less_fuel
returns c x h =
    let old = c.args.held.now in let k = c.args.place in let t = c.take_thread-thread.result in let u = c.reply_to.new.thread in
    let new : Held = record { core = c.reply_to.new.core; threads = c.put_thread.new.threads; running = old.running; fuel = c.spend.new.fuel } in
    leads old new (with_less_fuel (held_state old)) k t u c.take_thread-thread.ensures.thread (record { threads = refl; store = refl }) (c.put_thread.ensures ∙ c.take_thread-thread.ensures.others u) c.spend.ensures
    (λ st t x. after_reply c.args.system.now st t x c.args.reply.now) c.in_ok-bad.bad c.in_ok-bad.ensures x (same_thread old k t x c.take_thread-thread.ensures.thread h) c.requires.running c.requires.running
