use Rattle.std.proofs.Common.{◌∙◌, sym, arith}
use Rattle.std.proofs.lemmas.List.{at_drop_all}
use Rattle.system_text.specs.Description.{unknown_in_domains}
use Rattle.system_text.specs.Scan.{tables_at}
use Rattle.system_text.proofs.Chains.{unknown_here, unknown_later}
use Rattle.system_text.proofs.unknown_keys.unknown_in_domains.Goals as goal

pub returns-then-is_some : goal.returns-then-is_some
returns-then-is_some c =
    sym (unknown_here c.args.domains.now c.loop-number.number c.index-domains-number.result _ (omega arith) c.index-domains-number.is c.in_ok-fault.ensures (sym c.is_some.ensures ∙ c.if-is_some.true))
    ∙ c.loop-number.invariant

pub loop-number-preserved : goal.loop-number-preserved
loop-number-preserved c =
    sym (unknown_later c.args.domains.now c.loop-number.number c.index-domains-number.result _ (omega arith) c.index-domains-number.is c.in_ok-fault.ensures (sym c.is_some.ensures ∙ c.if-is_some.false))
    ∙ c.loop-number.invariant

pub returns : goal.returns
unfolding unknown_in_domains
returns c =
    sym (at_drop_all (λ ts. unknown_in_domains c.loop-number.number (tables_at ts)) c.args.domains.now c.loop-number.number (omega arith)) ∙ c.loop-number.invariant
