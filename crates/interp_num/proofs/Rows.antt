-- From a numeric row to the row of the instruction.
use Rattle.std.proofs.Common.{◌≡◌, ◌↔◌, ◌⊎◌, inl, inr, ℕ, refl, Option, Some, None}
use Rattle.std.specs.Option.{unwrap_or}
use Rattle.jx_base.specs.declared.class_file.Instr.{Instr}
use Rattle.jx_base.specs.declared.program.System.{System}
use Rattle.jx_base.specs.declared.row.Row.{Row}
use Rattle.jx_base.specs.declared.row.Row.TheVariants as row
use Rattle.jx_base.specs.declared.row.Element.{Element}
use Rattle.jx_base.specs.declared.row.Kind.{Kind}
use Rattle.jx_base.specs.declared.row.Invocation.{Invocation}
use Rattle.jx_base.specs.declared.frame.Frame.{Frame}
use Rattle.machine_model.specs.NumericRows.{NumericOutcome, Locals, Stack, moving_row, arithmetic_row, branching_row, outcome_or}
use Rattle.machine_model.specs.NumericRows.{NumericOutcome as outcome}
use Rattle.interp_num.specs.declared.step.NumStep.{NumStep}
use Rattle.interp_num.specs.declared.step.NumStep.TheVariants as step
use Rattle.interp_num.specs.Steps.{Runs, MayGive, Gives}

-- nothing beside a row changes its outcome
or_not_mine : (r : NumericOutcome) → outcome_or r outcome.NotMine ≡ r
unfolding outcome_or
or_not_mine (outcome.Next l s) = refl
or_not_mine (outcome.Jump to l s) = refl
or_not_mine (outcome.Raise c) = refl
or_not_mine outcome.BadCode = refl
or_not_mine outcome.NotMine = refl

pub runs : (o : Option NumStep) (old new : Frame) (r : NumericOutcome) → Runs o old.locals new r → MayGive o old new r
runs None old new r h = h
runs (Some step.Next) old new r h = h
runs (Some (step.Jump to)) old new r h = h
runs (Some (step.Raise c)) old new r h = h
runs (Some step.BadCode) old new r h = absurd h
runs (Some step.NotMine) old new r h = absurd h

-- a row of arithmetic or of a branch has no other beside it
pub runs_alone : (o : Option NumStep) (old new : Frame) (r : NumericOutcome) → Runs o old.locals new r → MayGive o old new (outcome_or r outcome.NotMine)
runs_alone o old new r h = rw or_not_mine (runs o old new r h)

-- a row that moves values has neither of the others
pub runs_first : (o : Option NumStep) (old new : Frame) (r : NumericOutcome) → Runs o old.locals new r → MayGive o old new (outcome_or r (outcome_or outcome.NotMine outcome.NotMine))
unfolding outcome_or
runs_first o old new r h = runs_alone o old new r h

-- nor is a row after others that are not the instruction's
pub runs_second : (o : Option NumStep) (old new : Frame) (r : NumericOutcome) → Runs o old.locals new r → MayGive o old new (outcome_or outcome.NotMine (outcome_or r outcome.NotMine))
unfolding outcome_or
runs_second o old new r h = runs_alone o old new r h

pub runs_last : (o : Option NumStep) (old new : Frame) (r : NumericOutcome) → Runs o old.locals new r → MayGive o old new (outcome_or outcome.NotMine (outcome_or outcome.NotMine r))
unfolding outcome_or
runs_last o old new r h = runs o old new r h

-- the row is none on numbers, the stack, locals, branches or switches
abbrev pub IsOther : Row → Type 0
IsOther r =
    (r ≡ row.PushConstant)
    ⊎ ((x : Element) × (r ≡ row.LoadElement x))
    ⊎ ((x : Element) × (r ≡ row.StoreElement x))
    ⊎ ((x : Kind) × (r ≡ row.Return x))
    ⊎ (r ≡ row.ReturnVoid)
    ⊎ (r ≡ row.GetStatic)
    ⊎ (r ≡ row.PutStatic)
    ⊎ (r ≡ row.GetField)
    ⊎ (r ≡ row.PutField)
    ⊎ ((x : Invocation) × (r ≡ row.Invoke x))
    ⊎ (r ≡ row.New)
    ⊎ (r ≡ row.NewArray)
    ⊎ (r ≡ row.NewReferenceArray)
    ⊎ (r ≡ row.NewMultiArray)
    ⊎ (r ≡ row.ArrayLength)
    ⊎ (r ≡ row.Throw)
    ⊎ (r ≡ row.CheckCast)
    ⊎ (r ≡ row.InstanceOf)
    ⊎ (r ≡ row.Missing)

pub not_mine : (s : System) (c most : ℕ) (r : Row) (i : Instr) (l : Locals) (k : Stack) → IsOther r → outcome_or (moving_row s c most r i l k) (outcome_or (arithmetic_row most r i l k) (branching_row r i l k)) ≡ outcome.NotMine
unfolding moving_row arithmetic_row branching_row outcome_or
not_mine s c most r i l k (inl e) = rw e refl
not_mine s c most r i l k (inr (inl (x, e))) = rw e refl
not_mine s c most r i l k (inr (inr (inl (x, e)))) = rw e refl
not_mine s c most r i l k (inr (inr (inr (inl (x, e))))) = rw e refl
not_mine s c most r i l k (inr (inr (inr (inr (inl e))))) = rw e refl
not_mine s c most r i l k (inr (inr (inr (inr (inr (inl e)))))) = rw e refl
not_mine s c most r i l k (inr (inr (inr (inr (inr (inr (inl e))))))) = rw e refl
not_mine s c most r i l k (inr (inr (inr (inr (inr (inr (inr (inl e)))))))) = rw e refl
not_mine s c most r i l k (inr (inr (inr (inr (inr (inr (inr (inr (inl e))))))))) = rw e refl
not_mine s c most r i l k (inr (inr (inr (inr (inr (inr (inr (inr (inr (inl (x, e))))))))))) = rw e refl
not_mine s c most r i l k (inr (inr (inr (inr (inr (inr (inr (inr (inr (inr (inl e))))))))))) = rw e refl
not_mine s c most r i l k (inr (inr (inr (inr (inr (inr (inr (inr (inr (inr (inr (inl e)))))))))))) = rw e refl
not_mine s c most r i l k (inr (inr (inr (inr (inr (inr (inr (inr (inr (inr (inr (inr (inl e))))))))))))) = rw e refl
not_mine s c most r i l k (inr (inr (inr (inr (inr (inr (inr (inr (inr (inr (inr (inr (inr (inl e)))))))))))))) = rw e refl
not_mine s c most r i l k (inr (inr (inr (inr (inr (inr (inr (inr (inr (inr (inr (inr (inr (inr (inl e))))))))))))))) = rw e refl
not_mine s c most r i l k (inr (inr (inr (inr (inr (inr (inr (inr (inr (inr (inr (inr (inr (inr (inr (inl e)))))))))))))))) = rw e refl
not_mine s c most r i l k (inr (inr (inr (inr (inr (inr (inr (inr (inr (inr (inr (inr (inr (inr (inr (inr (inl e))))))))))))))))) = rw e refl
not_mine s c most r i l k (inr (inr (inr (inr (inr (inr (inr (inr (inr (inr (inr (inr (inr (inr (inr (inr (inr (inl e)))))))))))))))))) = rw e refl
not_mine s c most r i l k (inr (inr (inr (inr (inr (inr (inr (inr (inr (inr (inr (inr (inr (inr (inr (inr (inr (inr e)))))))))))))))))) = rw e refl

-- a row is left to another where the answer says so
pub answers_not_mine : (x : NumStep) (old new : Frame) (r : NumericOutcome) → Gives x old new r → (x ≡ step.NotMine) ↔ (r ≡ outcome.NotMine)
answers_not_mine step.Next old new r h = (λ e. cc, λ e. cc)
answers_not_mine (step.Jump to) old new r h = (λ e. cc, λ e. cc)
answers_not_mine (step.Raise c) old new r h = let k = h.0 in (λ e. cc, λ e. cc)
answers_not_mine step.BadCode old new r h = let k = h.0 in (λ e. cc, λ e. cc)
answers_not_mine step.NotMine old new r h = (λ e. h.0, λ e. refl)

pub gives : (o : Option NumStep) (old new : Frame) (r : NumericOutcome) → MayGive o old new r → Gives (unwrap_or o step.BadCode) old new r
gives None old new r h = h
gives (Some x) old new r h = h

pub ruleset rows = (runs, runs_first, runs_second, runs_last)
