use Rattle.std.proofs.Common.{◌∙◌, ◌++◌, ◌∷◌, [], ap, subst, sym, refl}
use Rattle.jx_base.specs.declared.act.Entry.{Entry}
use Rattle.jx_base.specs.declared.act.Reply.TheVariants as reply
use Rattle.jx_model.specs.Journal.{reply_words}
use Rattle.journal.specs.Journals.{HasRoomFor, JournalState}
use Rattle.nucleus_domains.proofs.EndedTables.{end_entered, ends_live}
use Rattle.nucleus_tables.proofs.Room.{has_room}
use Rattle.nucleus_tables.specs.Entering.{done_entry}
use Rattle.nucleus_tables.specs.Inner.{with_put}
use Rattle.nucleus_tables.specs.declared.tables.Tables.{Tables}
use Rattle.nucleus_domains.proofs.ends.enter_end.Goals as goal

pub end_domain-requires-clause-live : goal.end_domain-requires-clause-live
end_domain-requires-clause-live c =
    ends_live c.args.system.now c.args.tables.now c.args.domain.0 c.args.thread.0 c.args.act c.args.reason c.requires.permitted c.requires.act

pub push-requires : goal.push-requires
unfolding reply_words
push-requires c =
    subst (HasRoomFor c.end_domain.new.tables.journal) (sym c.done.ensures)
    (subst (λ (t : Tables). HasRoomFor t.journal (done_entry c.args.domain.0 c.args.thread.0 c.args.act)) (sym c.end_domain.ensures)
    (has_room c.args.system.now c.args.tables.now c.args.domain.0 c.args.thread.0 c.args.act reply.Done c.requires.permitted refl))

pub returns : goal.returns
returns c =
    let ended = c.end_domain.new.tables in
    end_entered c.args.system.now c.args.tables.now _ c.args.domain.0 c.args.thread.0 c.args.act c.args.reason c.requires.permitted c.requires.act
    (ap (λ (j : JournalState). record ended { journal = j }) (c.push.ensures ∙ ap (λ (e : Entry). record ended.journal { entries = ended.journal.entries ++ e ∷ [] }) c.done.ensures)
    ∙ ap (λ (t : Tables). with_put t (done_entry c.args.domain.0 c.args.thread.0 c.args.act)) c.end_domain.ensures)
