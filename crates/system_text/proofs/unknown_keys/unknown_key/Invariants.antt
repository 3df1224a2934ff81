use Rattle.std.proofs.Common.{◌≡◌, map, string_bytes}
use Rattle.std.specs.Prelude.{find, not}
use Rattle.std.specs.BTreeMap.{keys}
use Rattle.system_text.specs.Keys.{has_text}
use Rattle.system_text.specs.Scan.{texts_at}
use Rattle.system_text.proofs.unknown_keys.unknown_key.Given as goal

abbrev pub invariant-loop-key : goal.invariant-loop-key
invariant-loop-key l =
    find (λ key. not (has_text (texts_at l.known) key)) (map string_bytes l.key-iterator) ≡ find (λ key. not (has_text (texts_at l.known) key)) (map string_bytes (keys l.table))
