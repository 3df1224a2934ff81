use Rattle.std.proofs.Common.{◌≡◌, ◌∙◌, sym, arith}
use Rattle.std.proofs.lemmas.List.{at_drop_all}
use Rattle.toml.specs.View.{table_view}
use Rattle.system_text.specs.Scan.{next_domain_fault, next_domains_fault, tables_at, texts_at}
use Rattle.system_text.proofs.Chains.{domain_here, domain_later}
use Rattle.system_text.proofs.domain_faults.domains_fault.Goals as goal

pub returns-then-is_some : goal.returns-then-is_some
returns-then-is_some c =
    let here : c.in_ok-fault.fault ≡ next_domain_fault c.loop-number.number (texts_at c.loop-number.names.keys) (texts_at c.loop-number.known.keys) (table_view c.index-domains-number.result.now) = cc (c.in_ok-fault.ensures) in
    sym (domain_here c.args.domains.now c.loop-number.number c.index-domains-number.result _ _ _ (omega arith) c.index-domains-number.is here (sym c.is_some.ensures ∙ c.if-is_some.true))
    ∙ c.loop-number.invariant

pub loop-number-preserved : goal.loop-number-preserved
loop-number-preserved c =
    let here : c.in_ok-fault.fault ≡ next_domain_fault c.loop-number.number (texts_at c.loop-number.names.keys) (texts_at c.loop-number.known.keys) (table_view c.index-domains-number.result.now) = cc (c.in_ok-fault.ensures) in
    rw (c.in_ok-insert.ensures.texts, c.text_in.ensures, c.in_ok-insert_all.ensures, c.as_slice.ensures.value, c.in_ok-classes.ensures)
    (sym (domain_later c.args.domains.now c.loop-number.number c.index-domains-number.result _ _ _ (omega arith) c.index-domains-number.is here (sym c.is_some.ensures ∙ c.if-is_some.false))
    ∙ c.loop-number.invariant)

pub returns : goal.returns
unfolding next_domains_fault
returns c =
    sym (at_drop_all (λ ts. next_domains_fault c.loop-number.number (texts_at c.loop-number.names.keys) (texts_at c.loop-number.known.keys) (tables_at ts)) c.args.domains.now c.loop-number.number (omega arith)) ∙ c.loop-number.invariant
