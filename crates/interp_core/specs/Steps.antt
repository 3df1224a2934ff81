-- What a step on objects answers, and the core that it leaves, where its row has that outcome.
use Rattle.std.specs.Prelude.{◌≡◌}
use Rattle.machine_model.specs.ObjectRows.{ObjectOutcome}
use Rattle.machine_model.specs.ObjectRows.{ObjectOutcome as outcome}
use Rattle.machine_model.specs.State.{Core}
use Rattle.interp_core.specs.declared.step.ObjStep.{ObjStep}
use Rattle.interp_core.specs.declared.step.ObjStep.TheVariants as step

-- the answer and the core that is left are the row's outcome: a Raise, an act and a row of the others leave the core as it was; after bad code it is open
abbrev pub Gives : ObjStep → Core → Core → ObjectOutcome → Type 0
Gives step.Next old new r = r ≡ outcome.Next new
Gives (step.Raise c) old new r = (r ≡ outcome.Raise c.0) × (new ≡ old)
Gives (step.Raised x) old new r = r ≡ outcome.Raised x new
Gives (step.Ask a) old new r = (r ≡ outcome.Ask a) × (new ≡ old)
Gives (step.Finish v) old new r = r ≡ outcome.Finish v new
Gives step.BadCode old new r = r ≡ outcome.BadCode
Gives step.NotMine old new r = (r ≡ outcome.NotMine) × (new ≡ old)

-- a step that goes on in the running frame, or is bad code there
abbrev pub Leaves : ObjStep → Core → ObjectOutcome → Type 0
Leaves step.Next new r = r ≡ outcome.Next new
Leaves step.BadCode new r = r ≡ outcome.BadCode
Leaves _ new r = ⊥
