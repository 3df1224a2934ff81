use Rattle.std.proofs.Common.{◌∙◌, ap, nat_eq}
use Rattle.std.specs.Map.{keys_of}
use Rattle.indexmap.proofs.CallerLemmas.{keys-insert_entry-present}
use Rattle.linker_search.proofs.walk.leave.Goals as goal

pub returns-clause-order : goal.returns-clause-order
returns-clause-order c =
    ap keys_of c.in_ok-insert.ensures.entries
    ∙ keys-insert_entry-present nat_eq c.args.followed.now c.args.class c.args.steps c.requires
