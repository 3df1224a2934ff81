use Rattle.std.proofs.Common.{◌≡◌, ◌∙◌, subst}
use Rattle.interp_core.specs.Cores.{store_of}
use Rattle.machine_model.specs.AfterEntry.{after_reply, with_export}
use Rattle.machine_model.specs.MachineThreads.{with_less_fuel}
use Rattle.machine_model.specs.State.{Thread}
use Rattle.machine_replies.specs.Leaving.{exported_by, with_exported}
use Rattle.domain_machine.specs.declared.held.Held.{Held}
use Rattle.domain_machine.specs.declared.threads.Thread.{Thread as OneThread}
use Rattle.domain_machine.specs.Entering.{Settles, held_state}
use Rattle.domain_machine.specs.Taking.{exported_from}
use Rattle.domain_machine.specs.Works.{thread_of}
use Rattle.domain_machine.proofs.Arms.{exported_beside, exported_given, leads, same_thread, still_there}
use Rattle.domain_machine.proofs.entries.export_in.Goals as goal

pub reply_to-requires-clause-reply : goal.reply_to-requires-clause-reply
reply_to-requires-clause-reply c =
    let old = c.args.held.now in let k = c.args.place in let t = c.take_thread-thread.result in
    let mid : Held = record old { threads = c.add_threads.new.threads } in
    exported_given c.args.system.now old mid c.export_by.new.core k t c.export_by.new.thread c.args.iface c.args.threads c.args.service c.args.reply.now c.requires.there
    c.in_ok-add_threads.ensures c.take_thread-thread.ensures.thread c.in_ok-export_by.ensures.store c.in_ok-export_by.ensures.thread c.requires.reply

pub returns : goal.returns
unfolding with_export with_less_fuel
returns c x h =
    let s = c.args.system.now in
    let old = c.args.held.now in let k = c.args.place in let t = c.take_thread-thread.result in let u = c.reply_to.new.thread in
    let mid : Held = record old { core = c.export_by.new.core; threads = c.add_threads.new.threads; fuel = c.spend.new.fuel } in
    let new : Held = record mid { core = c.reply_to.new.core; threads = c.put_thread.new.threads } in
    let there = still_there old mid c.args.threads k x c.in_ok-add_threads.ensures h in
    let q = same_thread mid k t x c.take_thread-thread.ensures.thread there in
    let P = exported_from (held_state old) x c.args.iface c.args.threads c.args.service in
    let beside = exported_beside old mid x c.args.iface c.args.threads c.args.service c.in_ok-add_threads.ensures
    (subst (λ (y : Thread). store_of c.export_by.new.core ≡ with_exported (store_of old.core) (exported_by y.frames) c.args.service c.args.iface) q c.in_ok-export_by.ensures.store) in
    leads mid new P k t u c.take_thread-thread.ensures.thread beside (c.put_thread.ensures ∙ c.take_thread-thread.ensures.others u) c.spend.ensures
    (λ st t x. after_reply s st t x c.args.reply.now) c.in_ok-bad.bad
    (subst (λ (y : OneThread). Settles (store_of c.export_by.new.core) (thread_of y) (store_of c.reply_to.new.core) (thread_of u) (λ st t x. after_reply s st t x c.args.reply.now) c.in_ok-bad.bad) c.in_ok-export_by.ensures.thread c.in_ok-bad.ensures)
    x q c.requires.running c.requires.running
