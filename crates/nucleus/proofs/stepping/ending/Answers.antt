use Rattle.std.proofs.Common.{◌≡◌, ◌∙◌, subst, sym, inl, inr, ◌⊎◌, Option, true}
use Rattle.std.specs.Option.{IfNone}
use Rattle.jx_model.specs.Domains.{is_live, is_made}
use Rattle.nucleus_tables.proofs.DomainReads.{ended_is, lives, not_made}
use Rattle.nucleus_tables.specs.Inner.{past_in}
use Rattle.nucleus_tables.specs.declared.step.Ending.{Ending}
use Rattle.nucleus.proofs.stepping.ending.Goals as goal

pub returns-in_err-state-clause-actor : goal.returns-in_err-state-clause-actor
returns-in_err-state-clause-actor c =
    subst (λ (o : Option Ending). IfNone o ((c.args.domain.0 ≡ 0) ⊎ (is_live (past_in c.args.tables.now) c.args.domain.0 ≡ true))) (sym c.from_residual.ensures) (by c.requires.domain)
  where
    by : (c.args.domain.0 ≡ 0) ⊎ (is_made (past_in c.args.tables.now) c.args.domain.0 ≡ true) → (c.args.domain.0 ≡ 0) ⊎ (is_live (past_in c.args.tables.now) c.args.domain.0 ≡ true)
    by (inl z) = inl z
    by (inr m) = let q = not_made c.args.system.now c.args.tables.now c.requires.tables c.args.domain.0 (sym c.in_err-state.ensures) in absurd (cc (m, q))

pub returns-in_err-branch-clause-actor : goal.returns-in_err-branch-clause-actor
returns-in_err-branch-clause-actor c =
    subst (λ (o : Option Ending). IfNone o ((c.args.domain.0 ≡ 0) ⊎ (is_live (past_in c.args.tables.now) c.args.domain.0 ≡ true))) (sym c.from_residual-in_err-branch.ensures)
    (inr (lives c.args.system.now c.args.tables.now c.requires.tables c.args.domain.0 c.in_ok-state.field-0 (sym c.in_ok-state.ensures) c.in_err-branch.was))

pub returns-clause-over : goal.returns-clause-over
returns-clause-over c = (
  sym c.requires.tables.stands.over ∙ c.if-tables.false,
  sym (ended_is c.args.system.now c.args.tables.now c.requires.tables c.args.domain.0 c.in_ok-state.field-0 (sym c.in_ok-state.ensures)).1 ∙ c.in_ok-branch.was,
)
