use Rattle.std.proofs.Common.{◌≡◌, ◌∙◌, ap, subst, sym, false, Some, Option, ℕ}
use Rattle.std.specs.Prelude.{IfErr, IfOk, Result, Ok, Err}
use Rattle.std.proofs.lemmas.Result.{err_from_is_err_and}
use Rattle.jx_base.specs.declared.ids.ThreadId.{ThreadId}
use Rattle.jx_base.specs.declared.states.Why.{Why}
use Rattle.jx_model.specs.Permits.{acting_thread, domain_thread, is_zero_act}
use Rattle.jx_model.specs.WhyNot.{boot_or, why_not, why_not_domain}
use Rattle.nucleus_tables.proofs.Permitted.{domain_acts, domain_why, full_waits, wrong_actor, zero_acts, zero_why}
use Rattle.nucleus_tables.specs.Inner.{past_in}
use Rattle.nucleus.proofs.stepping.permit.Goals as goal

pub returns-in_err-permit_zero-clause-why : goal.returns-in_err-permit_zero-clause-why
returns-in_err-permit_zero-clause-why c =
    let p = err_from_is_err_and c.from_residual.result c.from_residual.ensures.1 in
    subst (λ (r : Result ThreadId Why). IfErr r (λ why. why_not c.args.system.now (past_in c.args.tables.now) c.args.domain.0 c.args.act.now ≡ Some why)) (sym p.1)
    (zero_why c.args.system.now (past_in c.args.tables.now) c.args.domain.0 c.args.act.now _ c.if-domain-eq0.true (c.in_err-permit_zero.ensures.why ∙ ap (λ (w : Why). Some w) (sym p.2)))

pub returns-then-domain-eq0-clause-thread : goal.returns-then-domain-eq0-clause-thread
returns-then-domain-eq0-clause-thread c =
    zero_acts c.args.system.now (past_in c.args.tables.now) c.args.domain.0 c.args.act.now c.requires.asked.going c.if-domain-eq0.true c.in_ok-permit_zero.ensures.may

pub returns-then-is_zero_act-clause-why : goal.returns-then-is_zero_act-clause-why
returns-then-is_zero_act-clause-why c =
    wrong_actor c.args.system.now (past_in c.args.tables.now) c.args.domain.0 c.args.act.now c.if-domain-eq0.false (sym c.is_zero_act.ensures ∙ c.if-is_zero_act.true)

pub returns-in-Some-clause-why : goal.returns-in-Some-clause-why
unfolding boot_or
returns-in-Some-clause-why c =
    domain_why c.args.system.now (past_in c.args.tables.now) c.args.domain.0 c.args.act.now _ c.if-domain-eq0.false (sym c.is_zero_act.ensures ∙ c.if-is_zero_act.false)
    (ap (λ (o : Option ℕ). boot_or o (why_not_domain (past_in c.args.tables.now) c.args.domain.0 c.args.act.now)) (sym c.next_boot.ensures ∙ c.in-Some.is))

pub returns-in-None-clause-thread : goal.returns-in-None-clause-thread
returns-in-None-clause-thread c = by c.permit_domain.result c.permit_domain.ensures.may
  where
    zero : is_zero_act c.args.act.now ≡ false
    zero = sym c.is_zero_act.ensures ∙ c.if-is_zero_act.false

    by : (r : Result ThreadId Why) → IfOk r (λ t. domain_thread (past_in c.args.tables.now) c.args.domain.0 c.args.act.now ≡ Some t.0) →
        IfOk r (λ t. acting_thread c.args.system.now (past_in c.args.tables.now) c.args.domain.0 c.args.act.now ≡ Some t.0)
    by (Ok t) h =
        domain_acts c.args.system.now (past_in c.args.tables.now) c.args.domain.0 t.0 c.args.act.now c.requires.asked.going c.if-domain-eq0.false
        (full_waits c.args.system.now (past_in c.args.tables.now) c.args.act.now zero c.requires.asked.room)
        (sym c.next_boot.ensures ∙ c.in-None.is) h
    by (Err w) h = tt

pub returns-in-None-clause-why : goal.returns-in-None-clause-why
unfolding boot_or
returns-in-None-clause-why c = by c.permit_domain.result c.permit_domain.ensures.why
  where
    by : (r : Result ThreadId Why) → IfErr r (λ w. why_not_domain (past_in c.args.tables.now) c.args.domain.0 c.args.act.now ≡ Some w) →
        IfErr r (λ w. why_not c.args.system.now (past_in c.args.tables.now) c.args.domain.0 c.args.act.now ≡ Some w)
    by (Ok t) h = tt
    by (Err w) h =
        domain_why c.args.system.now (past_in c.args.tables.now) c.args.domain.0 c.args.act.now w c.if-domain-eq0.false (sym c.is_zero_act.ensures ∙ c.if-is_zero_act.false)
        (ap (λ (o : Option ℕ). boot_or o (why_not_domain (past_in c.args.tables.now) c.args.domain.0 c.args.act.now)) (sym c.next_boot.ensures ∙ c.in-None.is) ∙ h)
