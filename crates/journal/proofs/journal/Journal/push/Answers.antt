use Rattle.std.proofs.Common.{◌∙◌, ◌∷◌, [], sym, ap, subst, arith, length, length-append, reverse, List}
use Rattle.jx_base.specs.declared.act.Entry.{Entry}
use Rattle.jx_model.specs.Journal.{words_of}
use Rattle.journal.specs.Journals.{JournalState, HasRoomFor, journal_state}
use Rattle.journal.proofs.Halts.{kept_for_halt, least_words, room_behind, words_more}
use Rattle.journal.proofs.journal.Journal.push.Goals as goal

pub invariant_of-self : goal.invariant_of-self
invariant_of-self c =
    let j = c.self.inside in let e = c.args.entry in let old = j.entries.items in
    let room : HasRoomFor (journal_state j) e = subst (λ (s : JournalState). HasRoomFor s e) (sym c.self.view_is) c.requires in
    let new = c.push_reserved.ensures.items in
    let words = ap (λ (es : List Entry). words_of (reverse es)) new ∙ words_more old e in
    let halts = ap kept_for_halt new in
    let behind = room_behind (journal_state j) e room c.self.invariant.within in
    record {
      counted = omega (arith, words, c.self.invariant.counted, c.entry_words.ensures);
      limit = c.self.invariant.limit;
      within = omega (arith, words, halts, behind);
      least = omega (arith, words, ap length new, length-append old (e ∷ []), least_words e, c.self.invariant.least);
      capacity = omega (arith, c.push_reserved.ensures.capacity, c.self.invariant.capacity);
    }
