use Rattle.std.proofs.Common.{◌≡◌, ◌⊎◌, subst, sym, true, false, Some}
use Rattle.std.specs.Prelude.{IfOk, Result, Ok, Err}
use Rattle.jx_base.specs.declared.act.Act.{Act}
use Rattle.jx_base.specs.declared.act.Act.TheVariants as act
use Rattle.jx_base.specs.declared.states.Why.{Why}
use Rattle.jx_model.specs.Journal.{is_full}
use Rattle.jx_model.specs.Permits.{is_halt, next_boot, zero_may, zero_may_now}
use Rattle.nucleus_tables.proofs.Permitted.{create_may, halt_may, no_zero_act, not_zeros, quiet_may_now}
use Rattle.nucleus_tables.specs.Inner.{past_in}
use Rattle.nucleus_tables.proofs.tables.Tables.permit_zero.Goals as goal

-- what is shown of the one act is so of the act
moved : {A : Type 0} (P : Act → Type 0) (a b : Act) (r : Result A Why) → a ≡ b → IfOk r (λ x. P b) → IfOk r (λ x. P a)
moved P a b (Ok x) q h = subst P (sym q) h
moved P a b (Err w) q h = tt

pub returns-in-Create-clause-may : goal.returns-in-Create-clause-may
returns-in-Create-clause-may c =
    moved (λ a. zero_may_now c.args.system.now (past_in c.args.self.now) a ≡ true) c.args.act.now (act.Create c.in-Create.template) c.permit_create.result c.in-Create.is
    (by c.permit_create.result c.permit_create.ensures.may)
  where
    room : (is_full c.args.system.now (past_in c.args.self.now) ≡ false) ⊎ (is_halt (act.Create c.in-Create.template) ≡ true)
    room = subst (λ (a : Act). (is_full c.args.system.now (past_in c.args.self.now) ≡ false) ⊎ (is_halt a ≡ true)) c.in-Create.is c.requires.room

    by : {A : Type 0} (r : Result A Why) → IfOk r (λ x. next_boot c.args.system.now (past_in c.args.self.now) ≡ Some c.in-Create.template) →
        IfOk r (λ x. zero_may_now c.args.system.now (past_in c.args.self.now) (act.Create c.in-Create.template) ≡ true)
    by (Ok x) h = create_may c.args.system.now (past_in c.args.self.now) c.in-Create.template room h
    by (Err w) h = tt

pub returns-in-Quiet-clause-may : goal.returns-in-Quiet-clause-may
returns-in-Quiet-clause-may c =
    moved (λ a. zero_may_now c.args.system.now (past_in c.args.self.now) a ≡ true) c.args.act.now act.Quiet c.permit_quiet.result c.in-Quiet.is
    (by c.permit_quiet.result c.permit_quiet.ensures.may)
  where
    room : (is_full c.args.system.now (past_in c.args.self.now) ≡ false) ⊎ (is_halt act.Quiet ≡ true)
    room = subst (λ (a : Act). (is_full c.args.system.now (past_in c.args.self.now) ≡ false) ⊎ (is_halt a ≡ true)) c.in-Quiet.is c.requires.room

    by : {A : Type 0} (r : Result A Why) → IfOk r (λ x. zero_may c.args.system.now (past_in c.args.self.now) act.Quiet ≡ true) →
        IfOk r (λ x. zero_may_now c.args.system.now (past_in c.args.self.now) act.Quiet ≡ true)
    by (Ok x) h = quiet_may_now c.args.system.now (past_in c.args.self.now) room h
    by (Err w) h = tt

pub returns-in-Halt-clause-may : goal.returns-in-Halt-clause-may
returns-in-Halt-clause-may c =
    moved (λ a. zero_may_now c.args.system.now (past_in c.args.self.now) a ≡ true) c.args.act.now act.Halt c.permit_halt.result c.in-Halt.is
    (by c.permit_halt.result c.permit_halt.ensures.may)
  where
    by : {A : Type 0} (r : Result A Why) → IfOk r (λ x. is_full c.args.system.now (past_in c.args.self.now) ≡ true) →
        IfOk r (λ x. zero_may_now c.args.system.now (past_in c.args.self.now) act.Halt ≡ true)
    by (Ok x) h = halt_may c.args.system.now (past_in c.args.self.now) h
    by (Err w) h = tt

pub returns-in_default : goal.returns-in_default
returns-in_default c =
    record {
      may = tt;
      why = not_zeros c.args.system.now (past_in c.args.self.now) c.args.act.now (no_zero_act c.args.act.now c.in_default.not-Create c.in_default.not-Quiet c.in_default.not-Halt);
    }
