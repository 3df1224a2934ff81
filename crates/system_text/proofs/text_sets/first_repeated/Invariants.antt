use Rattle.std.proofs.Common.{◌≡◌, drop, take}
use Rattle.std.specs.Prelude.{reverse}
use Rattle.system_text.specs.Keys.{first_repeated, repeated_after}
use Rattle.system_text.specs.Scan.{texts_at}
use Rattle.system_text.proofs.text_sets.first_repeated.Given as goal

abbrev pub invariant-loop-text : goal.invariant-loop-text
invariant-loop-text l =
    (texts_at l.seen.keys ≡ texts_at (take l.text-index l.texts))
    × (repeated_after (reverse (texts_at (take l.text-index l.texts))) (texts_at (drop l.text-index l.texts)) ≡ first_repeated (texts_at l.texts))
