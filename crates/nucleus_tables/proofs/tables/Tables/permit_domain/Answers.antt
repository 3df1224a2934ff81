use Rattle.std.proofs.Common.{◌≡◌, ◌∙◌, sym, ap, ℕ, Some, None, true}
use Rattle.std.specs.Prelude.{IfErr, IfOk, Result, Ok, Err}
use Rattle.std.specs.Option.{option_map}
use Rattle.jx_base.specs.declared.act.Act.{Act}
use Rattle.jx_base.specs.declared.ids.ThreadId.{ThreadId}
use Rattle.jx_base.specs.declared.states.Why.{Why}
use Rattle.jx_base.specs.Histories.{Past}
use Rattle.jx_model.specs.Permits.{choice_thread, domain_thread, may_perform}
use Rattle.jx_model.specs.Threads.{running_thread}
use Rattle.jx_model.specs.WhyNot.{why_not_asleep, why_not_domain, why_not_running}
use Rattle.nucleus_tables.proofs.DomainReads.{running_is}
use Rattle.nucleus_tables.proofs.Permitted.{asleep_why, choice_performs, running_performs, running_why}
use Rattle.nucleus_tables.specs.Inner.{past_in}
use Rattle.nucleus_tables.proofs.tables.Tables.permit_domain.Goals as goal

pub returns-in-Some-clause-may : goal.returns-in-Some-clause-may
returns-in-Some-clause-may c = by c.permit_running.result c.permit_running.ensures.same c.permit_running.ensures.may
  where
    past : Past
    past = past_in c.args.self.now

    d : ℕ
    d = c.args.domain.0

    a : Act
    a = c.args.act.now

    runs : running_thread past d ≡ Some c.in-Some.thread.0
    runs = sym (running_is c.args.system.now c.args.self.now c.requires.tables d) ∙ sym c.running.ensures ∙ ap (option_map (λ (t : ThreadId). t.0)) c.in-Some.is

    by : (r : Result ThreadId Why) → IfOk r (λ t. t ≡ c.in-Some.thread) → IfOk r (λ t. may_perform past d c.in-Some.thread.0 a ≡ true) → IfOk r (λ t. domain_thread past d a ≡ Some t.0)
    by (Ok t) q m = running_performs past d c.in-Some.thread.0 a runs m ∙ ap (λ (k : ThreadId). Some k.0) (sym q)
    by (Err w) q m = tt

pub returns-in-Some-clause-why : goal.returns-in-Some-clause-why
returns-in-Some-clause-why c = by c.permit_running.result c.permit_running.ensures.why
  where
    past : Past
    past = past_in c.args.self.now

    d : ℕ
    d = c.args.domain.0

    a : Act
    a = c.args.act.now

    runs : running_thread past d ≡ Some c.in-Some.thread.0
    runs = sym (running_is c.args.system.now c.args.self.now c.requires.tables d) ∙ sym c.running.ensures ∙ ap (option_map (λ (t : ThreadId). t.0)) c.in-Some.is

    by : (r : Result ThreadId Why) → IfErr r (λ w. why_not_running past d c.in-Some.thread.0 a ≡ Some w) → IfErr r (λ w. why_not_domain past d a ≡ Some w)
    by (Ok t) m = tt
    by (Err w) m = running_why past d c.in-Some.thread.0 a w runs m

pub returns-in-None-clause-may : goal.returns-in-None-clause-may
returns-in-None-clause-may c = by c.permit_asleep.result c.permit_asleep.ensures.may
  where
    past : Past
    past = past_in c.args.self.now

    d : ℕ
    d = c.args.domain.0

    a : Act
    a = c.args.act.now

    asleep : running_thread past d ≡ None
    asleep = sym (running_is c.args.system.now c.args.self.now c.requires.tables d) ∙ sym c.running.ensures ∙ ap (option_map (λ (t : ThreadId). t.0)) c.in-None.is

    by : (r : Result ThreadId Why) → IfOk r (λ t. choice_thread past d a ≡ Some t.0) → IfOk r (λ t. domain_thread past d a ≡ Some t.0)
    by (Ok t) q = choice_performs past d t.0 a asleep c.requires.live q
    by (Err w) q = tt

pub returns-in-None-clause-why : goal.returns-in-None-clause-why
returns-in-None-clause-why c = by c.permit_asleep.result c.permit_asleep.ensures.why
  where
    past : Past
    past = past_in c.args.self.now

    d : ℕ
    d = c.args.domain.0

    a : Act
    a = c.args.act.now

    asleep : running_thread past d ≡ None
    asleep = sym (running_is c.args.system.now c.args.self.now c.requires.tables d) ∙ sym c.running.ensures ∙ ap (option_map (λ (t : ThreadId). t.0)) c.in-None.is

    by : (r : Result ThreadId Why) → IfErr r (λ w. why_not_asleep past d a ≡ Some w) → IfErr r (λ w. why_not_domain past d a ≡ Some w)
    by (Ok t) m = tt
    by (Err w) m = asleep_why past d a w asleep m
