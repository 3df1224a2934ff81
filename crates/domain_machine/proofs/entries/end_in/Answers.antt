use Rattle.std.proofs.Common.{◌∙◌, [], None, ap, refl}
use Rattle.machine_model.specs.AfterEntry.{after_end}
use Rattle.machine_model.specs.MachineThreads.{at_rest, with_store, with_thread}
use Rattle.machine_model.specs.State.{Going, Thread}
use Rattle.domain_machine.specs.declared.held.Held.{Held}
use Rattle.domain_machine.specs.Entering.{held_state}
use Rattle.domain_machine.proofs.Arms.{put_held, same_thread}
use Rattle.domain_machine.proofs.entries.end_in.Goals as goal

pub returns : goal.returns
unfolding after_end at_rest with_store with_thread
returns c x h =
    let old = c.args.held.now in let k = c.args.place in let t = c.take_thread-thread.result in let u = c.end_code.new.thread in
    let new : Held = record { core = old.core; threads = c.put_thread.new.threads; running = None; fuel = old.fuel } in
    put_held old new (held_state old) k t u c.take_thread-thread.ensures.thread (record { threads = refl; store = refl }) (c.put_thread.ensures ∙ c.take_thread-thread.ensures.others u) refl None refl
    ∙ ap (λ (y : Thread). at_rest (with_thread (held_state old) k y)) (c.end_code.ensures ∙ ap (λ (y : Thread). record y { call = None; frames = []; stage = Going }) (same_thread old k t x c.take_thread-thread.ensures.thread h))
