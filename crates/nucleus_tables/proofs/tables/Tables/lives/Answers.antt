use Rattle.std.proofs.Common.{◌≡◌, ◌∙◌, ap, refl, Bool, true, false, is_none, is_some, not, sym, Option, Some, None}
use Rattle.jx_base.specs.declared.states.DomainState.{DomainState}
use Rattle.jx_base.specs.Basics.{passes}
use Rattle.nucleus_tables.proofs.tables.Tables.lives.Goals as goal

none_is : {A : Type 0} (o : Option A) (b : Bool) → is_some o ≡ not b → b ≡ is_none o
none_is None true h = refl
none_is None false h = cc
none_is (Some x) true h = cc
none_is (Some x) false h = refl

pub returns-in-Some : goal.returns-in-Some
unfolding passes
returns-in-Some c = none_is c.in-Some.state.ended c.is_none.result c.is_none.ensures ∙ ap (passes (λ (item : DomainState). is_none item.ended)) (sym c.in-Some.is ∙ c.state.ensures)

pub returns-in-None : goal.returns-in-None
unfolding passes
returns-in-None c = ap (passes (λ (item : DomainState). is_none item.ended)) (sym c.in-None.is ∙ c.state.ensures)
