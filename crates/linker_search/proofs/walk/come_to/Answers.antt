use Rattle.std.proofs.Common.{◌∙◌, sym}
use Rattle.linker_search.proofs.Followed.{known_key, new_key}
use Rattle.linker_search.proofs.walk.come_to.Goals as goal

pub returns-in_ok-insert-clause-order : goal.returns-in_ok-insert-clause-order
returns-in_ok-insert-clause-order c =
    new_key c.args.followed.now c.args.class c.insert.new.self 0
    (sym c.contains_key.ensures ∙ c.if-not-contains_key.true) c.in_ok-insert.ensures.entries

pub returns-else-not-contains_key-clause-order : goal.returns-else-not-contains_key-clause-order
returns-else-not-contains_key-clause-order c =
    known_key c.args.followed.now c.args.class (sym c.contains_key.ensures ∙ c.if-not-contains_key.false)
