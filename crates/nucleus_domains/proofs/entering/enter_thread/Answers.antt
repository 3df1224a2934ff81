use Rattle.std.proofs.Common.{◌∙◌, ◌++◌, ◌∷◌, [], ap, subst, sym, refl}
use Rattle.jx_base.specs.declared.act.Entry.{Entry}
use Rattle.jx_base.specs.declared.act.Reply.TheVariants as reply
use Rattle.jx_base.specs.declared.states.ThreadState.{ThreadState}
use Rattle.jx_model.specs.Journal.{reply_words}
use Rattle.jx_base.proofs.BasicLaws.{ap2}
use Rattle.domain_table.specs.DomainLists.{DomainsState, with_state}
use Rattle.journal.specs.Journals.{HasRoomFor, JournalState}
use Rattle.nucleus_tables.proofs.Room.{has_room}
use Rattle.nucleus_tables.proofs.ThreadsMoved.{mover_there, thread_entered}
use Rattle.table_threads.specs.ThreadChanges.{own_changed}
use Rattle.nucleus_domains.proofs.entering.enter_thread.Goals as goal

pub set_thread-requires : goal.set_thread-requires
set_thread-requires c =
    mover_there c.args.system.now c.args.tables.now c.args.domain.0 c.args.thread.0 c.args.act c.requires.permitted c.requires.act

pub push-requires : goal.push-requires
unfolding reply_words
push-requires c =
    subst (HasRoomFor c.args.tables.now.journal) (sym c.done.ensures)
    (has_room c.args.system.now c.args.tables.now c.args.domain.0 c.args.thread.0 c.args.act reply.Done c.requires.permitted refl)

pub returns : goal.returns
returns c =
    thread_entered c.args.system.now c.args.tables.now c.args.domain.0 c.args.thread.0 _ c.args.act c.requires.permitted c.requires.act
    (ap2 (λ (j : JournalState) (x : DomainsState). record c.args.tables.now { domains = x; journal = j })
    (c.push.ensures ∙ ap (λ (e : Entry). record c.args.tables.now.journal { entries = c.args.tables.now.journal.entries ++ e ∷ [] }) c.done.ensures)
    (c.set_thread.ensures ∙ ap (λ (z : ThreadState). record c.args.tables.now.domains { threads = own_changed c.args.domain.0 c.args.thread.0 (with_state z) c.args.tables.now.domains.threads }) c.requires.state))
