use Rattle.std.proofs.Common.{refl, inl}
use Rattle.table_threads.specs.CallChanges.{entry}
use Rattle.nucleus_tables.proofs.SupportedEntries.{supported_has_entry}
use Rattle.run_alone.proofs.Actors.{kept}
use Rattle.run_alone.proofs.Entered.{has_memory, is_done, is_replied, zero_asked}
use Rattle.run_alone.proofs.KindsOfActs.{last_makes_none, last_supported, last_takes_none, last_well_made}
use Rattle.run_alone.proofs.Permitting.{zero_acts}
use Rattle.run_alone.specs.Workers.{past_in}
use Rattle.run_alone.proofs.worker.Worker.end_run.Goals as goal

pub step-requires-clause-act : goal.step-requires-clause-act
step-requires-clause-act c =
    let s = c.args.system.now in let past = past_in c.args.self.now in let ends = c.requires.last.ends in
    record { domain = inl refl; well_made = last_well_made s past c.args.act ends; has_entry = supported_has_entry c.args.act (last_supported c.args.act ends) }

pub unreachable-requires : goal.unreachable-requires
unreachable-requires c =
    let s = c.args.system.now in let w = c.args.self.now in let a = c.args.act in let h = c.requires.worker in let may = c.requires.last.may in
    is_replied s w.nucleus c.step.new.self 0 0 a c.step.result h.worker.nucleus (zero_asked s (past_in w) a h.going may) (zero_acts s (past_in w) a h.going may)
    (has_memory s w.nucleus c.step.new.self 0 a c.step.result (last_takes_none a c.requires.last.ends) c.step.ensures) (λ r. last_makes_none a r c.requires.last.ends) c.in_default.not-Replied c.step.ensures

pub returns : goal.returns
returns c =
    let s = c.args.system.now in let w = c.args.self.now in let a = c.args.act in let h = c.requires.worker in let ends = c.requires.last.ends in
    let e = entry 0 c.in-Replied.field-0.0 a c.in-Replied.field-1 in
    is_done s w (record { nucleus = c.step.new.self; actors = w.actors }) h e c.in-Replied.ensures.0 c.requires.last.picked (last_supported a ends)
    (kept s (past_in w) w.actors.items h.worker.actors e refl c.in-Replied.ensures.1) ends
