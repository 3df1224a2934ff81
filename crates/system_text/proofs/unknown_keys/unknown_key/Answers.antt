use Rattle.std.proofs.Common.{◌≡◌, ◌∙◌, sym, ap, map, Bool, List, ℕ, false, string_bytes, Some}
use Rattle.std.specs.Prelude.{find, not}
use Rattle.std.specs.Map.Iter.{deref}
use Rattle.std.proofs.lemmas.Map.Iter.{rest_more, rest_all}
use Rattle.system_text.specs.Keys.{has_text}
use Rattle.system_text.specs.Scan.{texts_at}
use Rattle.system_text.proofs.Maps.{keys_in-table, found_first}
use Rattle.system_text.proofs.unknown_keys.unknown_key.Goals as goal

pub returns-then-not-is_among : goal.returns-then-not-is_among
returns-then-not-is_among c =
    let test : List ℕ → Bool = λ key. not (has_text (texts_at c.args.known.now) key) in
    let more = rest_more deref c.loop-key.key-iterator _ _ c.in-Some.key c.in-Some.is c.next.ensures.steps in
    let unknown : has_text (texts_at c.args.known.now) (string_bytes c.in-Some.key.now) ≡ false = ap (has_text (texts_at c.args.known.now)) (sym c.as_str.ensures.value) ∙ (sym c.is_among.ensures ∙ c.if-not-is_among.true) in
    ap Some c.as_str-then-not-is_among.ensures.value
    ∙ (sym (ap (λ ks. find test (map string_bytes ks)) more ∙ found_first test _ _ (ap not unknown))
    ∙ (c.loop-key.invariant ∙ ap (find test) (keys_in-table c.args.table.now)))

pub returns : goal.returns
returns c =
    let test : List ℕ → Bool = λ key. not (has_text (texts_at c.args.known.now) key) in
    let all = rest_all deref c.loop-key.key-iterator _ _ c.in-None.is c.next.ensures.steps in
    sym (ap (λ ks. find test (map string_bytes ks)) all) ∙ (c.loop-key.invariant ∙ ap (find test) (keys_in-table c.args.table.now))
