use Rattle.std.proofs.Common.{◌≡◌, refl, sym, subst, ap, inl, ◌∷◌, [], ◌++◌, ℕ}
use Rattle.jx_base.specs.declared.act.Act.TheVariants as act
use Rattle.domain_machine.specs.Machines.{StandsFor}
use Rattle.jx_model.specs.Permits.{is_ending}
use Rattle.supported_acts.specs.SupportedActs.{is_supported}
use Rattle.table_threads.specs.CallChanges.{entry}
use Rattle.run_alone.proofs.Actors.{added, kept}
use Rattle.run_alone.proofs.Booting.{boot_there}
use Rattle.run_alone.proofs.Entered.{has_gone_on, has_memory, is_entered, zero_asked}
use Rattle.run_alone.proofs.Permitting.{create_may, zero_acts}
use Rattle.run_alone.proofs.Picking.{picks_boot}
use Rattle.run_alone.specs.Workers.{AreActorsOf, past_in}
use Rattle.run_alone.proofs.worker.Worker.create.Goals as goal

pub step-requires-clause-act : goal.step-requires-clause-act
unfolding is_supported
step-requires-clause-act c =
    record { domain = inl refl; well_made = boot_there c.args.system.now (past_in c.args.self.now) c.args.template c.requires.boot; has_entry = tt }

pub returns-in-Born : goal.returns-in-Born
unfolding is_supported is_ending
returns-in-Born c =
    let s = c.args.system.now in let w = c.args.self.now in let h = c.requires.worker in
    let e = entry 0 c.in-Born.field-0.0 (act.Create c.args.template) c.in-Born.field-1 in
    let x = c.in_ok-first_actor-in-Born.field-0 in
    let t : c.in_ok-first_actor-in-Born.field-0.template ≡ c.args.template = c.in_ok-first_actor-in-Born.ensures.template in
    let m = subst (λ (t : ℕ). StandsFor s t [] x.machine) (sym t) c.in_ok-first_actor-in-Born.ensures.machine in
    let xs = w.actors.items in
    let items : c.push.new.self.items ≡ c.args.self.now.actors.items ++ c.in_ok-first_actor-in-Born.field-0 ∷ [] = c.in_ok-push-in-Born.ensures.items in
    let actors = added s (past_in w) xs h.worker.actors e x (c.in-Born.ensures.0.next, h.worker.nucleus.stands.admitted) refl c.in-Born.ensures.2 (ap act.Create (sym t)) m in
    has_gone_on s w (record { nucleus = c.step.new.self; actors = c.push.new.self }) h e c.in-Born.ensures.0 (picks_boot s (past_in w) c.args.template c.requires.room c.requires.boot) refl
    (subst (AreActorsOf s (e ∷ past_in w)) (sym items) actors) c.requires.room refl

pub returns-in-Replied : goal.returns-in-Replied
unfolding is_supported is_ending
returns-in-Replied c =
    let s = c.args.system.now in let w = c.args.self.now in let h = c.requires.worker in
    let e = entry 0 c.in-Replied.field-0.0 (act.Create c.args.template) c.in-Replied.field-1 in
    has_gone_on s w (record { nucleus = c.step.new.self; actors = w.actors }) h e c.in-Replied.ensures.0 (picks_boot s (past_in w) c.args.template c.requires.room c.requires.boot) refl
    (kept s (past_in w) w.actors.items h.worker.actors e refl c.in-Replied.ensures.1) c.requires.room refl

pub unreachable-requires : goal.unreachable-requires
unreachable-requires c =
    let s = c.args.system.now in let w = c.args.self.now in let h = c.requires.worker in let a = act.Create c.args.template in
    let may = create_may s (past_in w) c.args.template c.requires.room c.requires.boot in
    is_entered s w.nucleus c.step.new.self 0 0 a c.step.result h.worker.nucleus (zero_asked s (past_in w) a h.going may) (zero_acts s (past_in w) a h.going may)
    (has_memory s w.nucleus c.step.new.self 0 a c.step.result (λ z. z) c.step.ensures) c.in_default.not-Replied c.in_default.not-Born c.step.ensures
