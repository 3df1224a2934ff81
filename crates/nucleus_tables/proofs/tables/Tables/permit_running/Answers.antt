use Rattle.std.proofs.Common.{◌≡◌, ◌∙◌, ap, refl, sym, ℕ, Some, true, false}
use Rattle.std.specs.Prelude.{IfErr, IfOk, Result, Ok, Err}
use Rattle.jx_base.specs.declared.act.Act.{Act}
use Rattle.jx_base.specs.declared.act.Act.TheVariants as act
use Rattle.jx_base.specs.declared.ids.ThreadId.{ThreadId}
use Rattle.jx_base.specs.declared.states.Why.{Why}
use Rattle.jx_base.specs.declared.states.Why.TheVariants as why
use Rattle.jx_base.specs.Histories.{Past}
use Rattle.jx_model.specs.Permits.{is_choice, may_perform}
use Rattle.jx_model.specs.WhyNot.{why_not_running}
use Rattle.nucleus_tables.proofs.Permitted.{ends, ends_not, performs, runs, wrong_thread}
use Rattle.nucleus_tables.specs.Inner.{past_in}
use Rattle.nucleus_tables.proofs.tables.Tables.permit_running.Goals as goal

pub returns-in-Take-clause-why : goal.returns-in-Take-clause-why
unfolding is_choice
returns-in-Take-clause-why c =
    ap (why_not_running (past_in c.args.self.now) c.args.domain.0 c.args.thread.0) c.in-Take.is ∙ runs (past_in c.args.self.now) c.args.domain.0 c.args.thread (act.Take c.in-Take.field-0) refl

pub returns-in-Resume-clause-why : goal.returns-in-Resume-clause-why
unfolding is_choice
returns-in-Resume-clause-why c =
    ap (why_not_running (past_in c.args.self.now) c.args.domain.0 c.args.thread.0) c.in-Resume.is ∙ runs (past_in c.args.self.now) c.args.domain.0 c.args.thread (act.Resume c.in-Resume.field-0) refl

pub returns-in-Go-clause-why : goal.returns-in-Go-clause-why
unfolding is_choice
returns-in-Go-clause-why c =
    ap (why_not_running (past_in c.args.self.now) c.args.domain.0 c.args.thread.0) c.in-Go.is ∙ runs (past_in c.args.self.now) c.args.domain.0 c.args.thread (act.Go c.in-Go.field-0) refl

-- what may be said of an act, where its answer is permitted
permitted : (past : Past) (d : ℕ) (t : ThreadId) (a b : Act) (r : Result ThreadId Why) → a ≡ b → IfOk r (λ k. may_perform past d t.0 b ≡ true) → IfOk r (λ k. may_perform past d t.0 a ≡ true)
permitted past d t a b (Ok k) q m = ap (may_perform past d t.0) q ∙ m
permitted past d t a b (Err w) q m = tt

-- and where not
refused : (past : Past) (d : ℕ) (t : ThreadId) (a b : Act) (r : Result ThreadId Why) → a ≡ b → is_choice b ≡ false → IfErr r (λ w. (w ≡ why.WrongThread t) × (may_perform past d t.0 b ≡ false)) → IfErr r (λ w. why_not_running past d t.0 a ≡ Some w)
refused past d t a b (Ok k) q n m = tt
refused past d t a b (Err w) q n m = ap (why_not_running past d t.0) q ∙ wrong_thread past d t b n m.1 ∙ ap (λ (w : Why). Some w) (sym m.0)

pub returns-in-Return-clause-may : goal.returns-in-Return-clause-may
unfolding may_perform
returns-in-Return-clause-may c = permitted (past_in c.args.self.now) c.args.domain.0 c.args.thread c.args.act.now (act.Return c.in-Return.call c.in-Return.parcel) _ c.in-Return.is c.permit_answer.ensures.may

pub returns-in-Return-clause-why : goal.returns-in-Return-clause-why
unfolding may_perform is_choice
returns-in-Return-clause-why c =
    refused (past_in c.args.self.now) c.args.domain.0 c.args.thread c.args.act.now (act.Return c.in-Return.call c.in-Return.parcel) _ c.in-Return.is refl c.permit_answer.ensures.wrong

pub returns-in-Throw-clause-may : goal.returns-in-Throw-clause-may
unfolding may_perform
returns-in-Throw-clause-may c =
    permitted (past_in c.args.self.now) c.args.domain.0 c.args.thread c.args.act.now (act.Throw c.in-Throw.call c.in-Throw.parcel) _ c.in-Throw.is c.permit_answer-in-Throw.ensures.may

pub returns-in-Throw-clause-why : goal.returns-in-Throw-clause-why
unfolding may_perform is_choice
returns-in-Throw-clause-why c =
    refused (past_in c.args.self.now) c.args.domain.0 c.args.thread c.args.act.now (act.Throw c.in-Throw.call c.in-Throw.parcel) _ c.in-Throw.is refl c.permit_answer-in-Throw.ensures.wrong

pub returns-then-thread-eq0-clause-may : goal.returns-then-thread-eq0-clause-may
returns-then-thread-eq0-clause-may c =
    ap (may_perform (past_in c.args.self.now) c.args.domain.0 c.args.thread.0) c.in-EndThread.is
    ∙ ends (past_in c.args.self.now) c.args.domain.0 c.args.thread.0 c.in-EndThread.field-0 c.if-thread-eq0.true

pub returns-else-thread-eq0-clause-why : goal.returns-else-thread-eq0-clause-why
returns-else-thread-eq0-clause-why c =
    ap (why_not_running (past_in c.args.self.now) c.args.domain.0 c.args.thread.0) c.in-EndThread.is
    ∙ ends_not (past_in c.args.self.now) c.args.domain.0 c.args.thread c.in-EndThread.field-0 c.if-thread-eq0.false

pub returns-in_default : goal.returns-in_default
returns-in_default c =
    record {
      same = refl;
      may = performs (past_in c.args.self.now) c.args.domain.0 c.args.thread.0 c.args.act.now c.requires.domain c.in_default.not-Go c.in_default.not-EndThread c.in_default.not-Take c.in_default.not-Resume c.in_default.not-Return c.in_default.not-Throw;
      why = tt;
    }
