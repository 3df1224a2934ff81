use Rattle.std.proofs.Common.{sym, ap, arith, length, reverse, List}
use Rattle.jx_base.specs.declared.act.Entry.{Entry}
use Rattle.jx_model.specs.Journal.{words_of}
use Rattle.journal.proofs.Halts.{kept_for_halt}
use Rattle.journal.proofs.journal.Journal.open.Goals as goal

pub invariant_of-result : goal.invariant_of-result
unfolding words_of
invariant_of-result c =
    let e = c.in_ok-with_capacity.ensures.items in
    let words = ap (λ (es : List Entry). words_of (reverse es)) e in
    let halts = ap kept_for_halt e in
    record {
      counted = sym words;
      limit = c.requires;
      within = omega (arith, words, halts);
      least = omega (arith, words, ap length e);
      capacity = omega (arith, c.in_ok-with_capacity.ensures.capacity);
    }
