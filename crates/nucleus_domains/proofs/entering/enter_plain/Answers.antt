use Rattle.std.proofs.Common.{◌∙◌, ◌++◌, ◌∷◌, [], ap, subst, sym, refl}
use Rattle.jx_base.specs.declared.act.Entry.{Entry}
use Rattle.jx_base.specs.declared.act.Reply.TheVariants as reply
use Rattle.jx_model.specs.Journal.{reply_words}
use Rattle.journal.specs.Journals.{HasRoomFor, JournalState}
use Rattle.nucleus_tables.proofs.Entered.{plain_entered}
use Rattle.nucleus_tables.proofs.Room.{has_room}
use Rattle.nucleus_domains.proofs.entering.enter_plain.Goals as goal

pub push-requires : goal.push-requires
unfolding reply_words
push-requires c =
    subst (HasRoomFor c.args.tables.now.journal) (sym c.done.ensures)
    (has_room c.args.system.now c.args.tables.now c.args.domain.0 c.args.thread.0 c.args.act reply.Done c.requires.permitted refl)

pub returns : goal.returns
returns c =
    plain_entered c.args.system.now c.args.tables.now _ c.args.domain.0 c.args.thread.0 c.args.act c.requires.permitted c.requires.plain
    (ap (λ (j : JournalState). record c.args.tables.now { journal = j }) (c.push.ensures ∙ ap (λ (e : Entry). record c.args.tables.now.journal { entries = c.args.tables.now.journal.entries ++ e ∷ [] }) c.done.ensures))
