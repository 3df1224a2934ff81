use Rattle.std.proofs.Common.{◌∙◌, ◌++◌, ◌∷◌, [], ap, subst, sym, refl, true}
use Rattle.jx_base.specs.declared.act.Entry.{Entry}
use Rattle.jx_base.specs.declared.act.Reply.TheVariants as reply
use Rattle.jx_model.specs.Journal.{reply_words}
use Rattle.journal.specs.Journals.{HasRoomFor, JournalState}
use Rattle.nucleus_tables.proofs.Entered.{ending_entered}
use Rattle.nucleus_tables.proofs.Room.{has_room}
use Rattle.nucleus_domains.proofs.entering.enter_ending.Goals as goal

pub push-requires : goal.push-requires
unfolding reply_words
push-requires c =
    subst (HasRoomFor c.args.tables.now.journal) (sym c.done.ensures)
    (has_room c.args.system.now c.args.tables.now 0 0 c.args.act reply.Done c.requires.permitted refl)

pub returns : goal.returns
returns c =
    ending_entered c.args.system.now c.args.tables.now _ c.args.act c.requires.permitted c.requires.ending
    (ap (λ (j : JournalState). record c.args.tables.now { over = true; journal = j }) (c.push.ensures ∙ ap (λ (e : Entry). record c.args.tables.now.journal { entries = c.args.tables.now.journal.entries ++ e ∷ [] }) c.done.ensures))
