use Rattle.std.proofs.Common.{◌∙◌, ◌++◌, ◌∷◌, ◌+◌, [], ap, subst, sym, refl, arith}
use Rattle.jx_base.specs.declared.act.Act.TheVariants as act
use Rattle.jx_base.specs.declared.act.Entry.{Entry}
use Rattle.jx_base.specs.declared.act.Reply.TheVariants as reply
use Rattle.jx_base.proofs.BasicLaws.{ap2}
use Rattle.jx_model.specs.Journal.{reply_words}
use Rattle.journal.specs.Journals.{HasRoomFor, JournalState}
use Rattle.nucleus_domains.proofs.NewDomains.{creates_fit, creates_kept, done_create, refused_create}
use Rattle.nucleus_tables.proofs.Room.{has_room}
use Rattle.nucleus_tables.specs.declared.tables.Tables.{Tables}
use Rattle.nucleus_domains.proofs.birth.enter_create.Goals as goal

pub overflow_add-tables : goal.overflow_add-tables
overflow_add-tables c =
    omega (
      arith,
      creates_fit c.args.system.now c.args.tables.now c.args.template c.requires.permitted,
      creates_kept c.args.system.now c.args.tables.now c.make_domain-made.new.tables c.args.template c.make_domain-made.result c.make_domain-made.ensures,
    )

pub push-requires : goal.push-requires
unfolding reply_words
push-requires c =
    subst (λ (j : JournalState). HasRoomFor j c.create_entry.result) (sym (ap (λ (z : Tables). z.journal) c.in-Ok.ensures.0))
    (subst (HasRoomFor c.args.tables.now.journal) (sym c.create_entry.ensures)
    (has_room c.args.system.now c.args.tables.now 0 0 (act.Create c.args.template) (reply.Domain c.in-Ok.field-0.domain c.in-Ok.field-0.at) c.requires.permitted refl))

pub push-requires-in-Err : goal.push-requires-in-Err
unfolding reply_words
push-requires-in-Err c =
    subst (λ (j : JournalState). HasRoomFor j c.create_entry-in-Err.result) (sym (ap (λ (z : Tables). z.journal) c.in-Err.ensures.0))
    (subst (HasRoomFor c.args.tables.now.journal) (sym c.create_entry-in-Err.ensures)
    (has_room c.args.system.now c.args.tables.now 0 0 (act.Create c.args.template) (reply.Refused c.in-Err.refusal) c.requires.permitted refl))

pub returns-in-Ok : goal.returns-in-Ok
returns-in-Ok c =
    done_create c.args.system.now c.args.tables.now c.args.template c.requires.permitted _ c.in-Ok.field-0 c.in-Ok.ensures.1
    (ap2 (λ (j : JournalState) (z : Tables). record z { creates = z.creates + 1; journal = j })
    (c.push.ensures ∙ ap2 (λ (j : JournalState) (e : Entry). record j { entries = j.entries ++ e ∷ [] }) (ap (λ (z : Tables). z.journal) c.in-Ok.ensures.0) c.create_entry.ensures)
    c.in-Ok.ensures.0)

pub returns-in-Err : goal.returns-in-Err
returns-in-Err c =
    refused_create c.args.system.now c.args.tables.now c.args.template c.requires.permitted _ c.in-Err.refusal c.in-Err.ensures.1
    (ap2 (λ (j : JournalState) (z : Tables). record z { creates = z.creates + 1; journal = j })
    (c.push-in-Err.ensures ∙ ap2 (λ (j : JournalState) (e : Entry). record j { entries = j.entries ++ e ∷ [] }) (ap (λ (z : Tables). z.journal) c.in-Err.ensures.0) c.create_entry-in-Err.ensures)
    c.in-Err.ensures.0)
