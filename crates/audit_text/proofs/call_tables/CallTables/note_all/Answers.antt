use Rattle.std.proofs.Common.{ℕ, ◌+◌, ◌≤◌, ◌≡◌, Bool, true, false, if◌then◌else◌, List, reverse, subst, arith}
use Rattle.std.proofs.lemmas.List.{take_all}
use Rattle.jx_base.specs.declared.act.Entry.{Entry}
use Rattle.jx_model.specs.Portals.{is_export}
use Rattle.audit_text.specs.CallTables.{HasCallTables}
use Rattle.audit_text.proofs.CallSteps.{none_made, tables_step}
use Rattle.audit_text.proofs.call_tables.CallTables.note_all.Goals as goal

one_more : (b : Bool) (new old place : ℕ) → new ≡ (if b then old + 1 else old) → old ≤ place → new ≤ place + 1
one_more true new old place h l = omega (arith, h, l)
one_more false new old place h l = omega (arith, h, l)

pub loop-entry-init : goal.loop-entry-init
loop-entry-init c = record { few = omega (arith, none_made c.args.self.now c.requires); tables = c.requires }

pub loop-entry-preserved : goal.loop-entry-preserved
loop-entry-preserved c =
    let h = c.note.ensures in
    record {
      few = one_more (is_export c.entry-item.result) c.note.new.self.owners.made c.loop-entry.self.owners.made c.loop-entry.entry-index h.made c.loop-entry.invariant.few;
      tables = tables_step c.args.entries.now c.loop-entry.entry-index c.entry-item.result c.loop-entry.self c.note.new.self c.entry-item.is (omega arith) c.loop-entry.invariant.tables
          (record { served = h.served; taken = h.taken; taker = h.taker; made = h.made; owners = h.owners; ended = h.ended });
    }

pub returns : goal.returns
returns c =
    subst (λ (entries : List Entry). HasCallTables c.loop-entry.self (reverse entries)) (take_all c.loop-entry.entry-index c.args.entries.now (omega arith)) c.loop-entry.invariant.tables
