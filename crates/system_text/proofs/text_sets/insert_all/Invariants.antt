use Rattle.std.proofs.Common.{◌≡◌, drop}
use Rattle.system_text.specs.Scan.{with_all_new, texts_at}
use Rattle.system_text.proofs.text_sets.insert_all.Given as goal

abbrev pub invariant-loop-text : goal.invariant-loop-text
invariant-loop-text l = with_all_new (texts_at l.set.keys) (texts_at (drop l.text-index l.texts)) ≡ with_all_new (texts_at l.initial.set.keys) (texts_at l.texts)
