use Rattle.std.proofs.Common.{◌∙◌, ap, refl, sym, subst, Option, Some, None}
use Rattle.std.specs.Prelude.{IsSome, reverse}
use Rattle.jx_base.specs.declared.program.Template.{Template}
use Rattle.interp_core.specs.Cores.{core_state}
use Rattle.machine_model.specs.MachineThreads.{after_finish, idle_thread}
use Rattle.machine_model.specs.State.{State, Thread}
use Rattle.domain_machine.specs.declared.held.Held.{Held}
use Rattle.domain_machine.specs.Entering.{Leads}
use Rattle.domain_machine.specs.Works.{thread_of}
use Rattle.domain_machine.proofs.Starts.{first_thread, leads, nothing_begun, state_is}
use Rattle.domain_machine.proofs.starting.first_held.Goals as goal

pub unreachable-requires : goal.unreachable-requires
unreachable-requires c = let h = subst (λ (o : Option Template). IsSome o) (sym c.in_default.ensures) c.requires.template in cc

pub first_core-requires-clause-heap : goal.first_core-requires-clause-heap
first_core-requires-clause-heap c = c.requires.system.heaps c.args.template c.in-Some.found.now (sym c.in-Some.ensures)

pub returns : goal.returns
unfolding idle_thread
returns c =
    let s = c.args.system.now in let t = c.in-Some.found.now in
    let begun = c.finish.new.core in
    let waiting = reverse c.finish.new.waiting.items in
    let held : Held = record { core = c.exchange_frames.new.core; threads = c.in_ok-first_threads.field-0; running = Some 0; fuel = t.fuel } in
    let after = after_finish s (nothing_begun s t) 0 (first_thread s t) None in
    let is = ap thread_of c.exchange_frames.ensures.thread ∙ ap (λ (y : Thread). record y { frames = (core_state begun).frames; waiting = waiting }) c.in_ok-thread.ensures in
    let w = c.in_ok-stage.ensures (nothing_begun s t) 0 (first_thread s t) (record { store = sym c.in_ok-core.ensures.store; frames = ap reverse (sym c.in_ok-core.ensures.frames) }) (ap (λ (y : Thread). y.waiting) (sym c.in_ok-thread.ensures)) in
    subst (λ (z : State). Leads 0 z held c.settle-bad.result) (sym (state_is s c.args.template t (sym c.in-Some.ensures)))
    (leads s t begun held c.exchange_frames.new.thread c.settle-bad.new.thread waiting c.in_ok-stage.stage c.settle-bad.result is c.in_ok-first_threads.ensures c.exchange_frames.ensures.store refl refl after w c.settle-bad.ensures)
