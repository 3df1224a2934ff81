use Rattle.std.proofs.Common.{rules, tests}
use Rattle.std.proofs.lemmas.Iterator.{YieldsList-from_slice}
use Rattle.std.proofs.lemmas.Iterator.Consumers.{YieldsList-from_filter, count_from_yields_List}
use Rattle.asm_bodies.specs.Lines.{count_of, is_catch}
use Rattle.asm_bytes.proofs.counts.catch_count.Goals as goal

pub returns : goal.returns
unfolding count_of
returns c =
    count_from_yields_List c.filter.result _ c.count.ensures.ran
    (YieldsList-from_filter _ is_catch (YieldsList-from_slice c.args.body.now cc) c.filter.ensures.closure (λ x b q k. search (rules, tests)))
