-- The row of the instruction at the running frame.
use Rattle.std.proofs.Common.{◌≡◌, ◌∙◌, refl, sym, ap, subst, Bool, true, false, List, [], ◌∷◌, Option, Some, None}
use Rattle.std.specs.Prelude.{slice_get, IfOk}
use Rattle.std.specs.declared.result.Result.{Result}
use Rattle.std.specs.declared.result.Result.TheVariants.{Ok, Err}
use Rattle.class_grammar.specs.Opcodes.{row_at}
use Rattle.jx_base.specs.declared.class_file.Instr.{Instr}
use Rattle.jx_base.specs.declared.frame.Frame.{Frame}
use Rattle.jx_base.specs.declared.program.Resolved.{Resolved}
use Rattle.jx_base.specs.declared.program.System.{System}
use Rattle.jx_base.specs.declared.row.Row.{Row}
use Rattle.machine_model.specs.NumericRows.{Stack}
use Rattle.machine_model.specs.ObjectRows.{BadCode, NotMine, ObjectOutcome, constant_used_row, given, object_row, object_row_in, plain_row, uses_constant}
use Rattle.machine_model.specs.State.{Core, class_of_frame}
use Rattle.program_model.specs.Instructions.{index_operand}
use Rattle.program_model.specs.Lookup.{constant_at}
use Rattle.interp_core.specs.declared.step.ObjStep.{ObjStep}
use Rattle.interp_core.specs.declared.step.ObjStep.TheVariants as step
use Rattle.interp_core.specs.Cores.{running_stack}
use Rattle.interp_core.specs.Steps.{Gives}
use Rattle.interp_core.proofs.Leavings.{running_is}
use Rattle.interp_obj.specs.ObjectSteps.{is_object_row}
use Rattle.interp_obj.proofs.Mine.{constant_rows, not_mine, other_rows, used_not_mine}

-- a fact of a value that is there follows from another one
pub if_ok_more : {A E : Type 0} (r : Result A E) (P Q : A → Type 0) → ((x : A) → P x → Q x) → IfOk r P → IfOk r Q
if_ok_more (Ok x) P Q f h = f x h
if_ok_more (Err e) P Q f h = tt

pub first_is : (frames callers : List Frame) (f g : Frame) → Some g ≡ slice_get frames 0 → frames ≡ f ∷ callers → f ≡ g
first_is frames callers f g e h =
    let q : Some g ≡ Some f = e ∙ ap (λ (fs : List Frame). slice_get fs 0) h in cc

module _ (s : System) (core : Core) (i : Instr) (r : Row) (f : Frame) (callers : List Frame) (e : core.frames ≡ f ∷ callers) (q : r ≡ row_at i.opcode) where
  at_frame : (b : Bool) → uses_constant r ≡ b → object_row s core i ≡ elim b as (λ _. ObjectOutcome) [
    | true ↦ given (constant_at s (class_of_frame s f) (index_operand i 0)) (λ x. constant_used_row s core r i x (running_stack core))
    | false ↦ plain_row s core r i (running_stack core)
  ]
  unfolding object_row object_row_in
  at_frame b u =
      let stack = running_is core callers f e in
      ap (λ (fs : List Frame). elim fs as (λ _. ObjectOutcome) [ [] ↦ BadCode | f ∷ frames ↦ object_row_in s core f i ]) e
      ∙ ap (λ (r : Row). elim (uses_constant r) as (λ _. ObjectOutcome) [
        | true ↦ given (constant_at s (class_of_frame s f) (index_operand i 0)) (λ x. constant_used_row s core r i x f.stack.values)
        | false ↦ plain_row s core r i f.stack.values
      ]) (sym q)
      ∙ ap (λ (k : Stack). elim (uses_constant r) as (λ _. ObjectOutcome) [
        | true ↦ given (constant_at s (class_of_frame s f) (index_operand i 0)) (λ x. constant_used_row s core r i x k)
        | false ↦ plain_row s core r i k
      ]) (sym stack)
      ∙ ap (λ (b : Bool). elim b as (λ _. ObjectOutcome) [
        | true ↦ given (constant_at s (class_of_frame s f) (index_operand i 0)) (λ x. constant_used_row s core r i x (running_stack core))
        | false ↦ plain_row s core r i (running_stack core)
      ]) u

  pub plain_is : uses_constant r ≡ false → object_row s core i ≡ plain_row s core r i (running_stack core)
  plain_is u = at_frame false u

  pub no_constant : uses_constant r ≡ true → constant_at s (class_of_frame s f) (index_operand i 0) ≡ None → object_row s core i ≡ BadCode
  unfolding given
  no_constant u h = at_frame true u ∙ ap (λ (o : Option Resolved). given o (λ x. constant_used_row s core r i x (running_stack core))) h

  pub used_is : (x : Resolved) → uses_constant r ≡ true → constant_at s (class_of_frame s f) (index_operand i 0) ≡ Some x
      → object_row s core i ≡ constant_used_row s core r i x (running_stack core)
  unfolding given
  used_is x u h = at_frame true u ∙ ap (λ (o : Option Resolved). given o (λ x. constant_used_row s core r i x (running_stack core))) h

-- ---- which steps are not mine

given_by : (x : ObjStep) (old new : Core) → Gives x old new NotMine → x ≡ step.NotMine
given_by step.NotMine old new h = refl
given_by step.Next old new h = cc
given_by (step.Raise c) old new h = let e = h.0 in cc
given_by (step.Raised r) old new h = cc
given_by (step.Ask a) old new h = let e = h.0 in cc
given_by (step.Finish v) old new h = cc
given_by step.BadCode old new h = cc

module _ (s : System) (core : Core) (i : Instr) (r : Row) (stack : Stack) where
  pub plain_others : (x : ObjStep) (old new : Core) → uses_constant r ≡ false → Gives x old new (plain_row s core r i stack)
      → (x ≡ step.NotMine → is_object_row r ≡ false) × (is_object_row r ≡ false → x ≡ step.NotMine)
  plain_others x old new u h = (
    λ e. not_mine s core r i stack (subst (λ (x : ObjStep). Gives x old new (plain_row s core r i stack)) e h).0 u,
    λ e. given_by x old new (subst (Gives x old new) (other_rows s core r i stack e) h),
  )

  pub used_others : (x : ObjStep) (old new : Core) (constant : Resolved) → uses_constant r ≡ true → Gives x old new (constant_used_row s core r i constant stack)
      → (x ≡ step.NotMine → is_object_row r ≡ false) × (is_object_row r ≡ false → x ≡ step.NotMine)
  used_others x old new constant u h = (
    λ e. absurd (used_not_mine s core r i constant stack (subst (λ (x : ObjStep). Gives x old new (constant_used_row s core r i constant stack)) e h).0),
    λ e. let t : true ≡ false = sym (constant_rows r u) ∙ e in cc,
  )

pub bad_others : (r : Row) → uses_constant r ≡ true → (step.BadCode ≡ step.NotMine → is_object_row r ≡ false) × (is_object_row r ≡ false → step.BadCode ≡ step.NotMine)
bad_others r u = (λ e. cc, λ e. let t : true ≡ false = sym (constant_rows r u) ∙ e in cc)
