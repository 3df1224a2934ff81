-- The types that the result of a call fits that a frame is at.
use Rattle.std.proofs.Common.{◌≡◌, ◌∙◌, refl, sym, ap, subst, ℕ, Bool, true, false, List, [], ◌∷◌, length, get_or, Option, Some, None, ◌<◌, ◌≤◌, ◌&&◌, nat_eq, arith}
use Rattle.std.specs.Prelude.{if◌then◌else◌}
use Rattle.std.proofs.lemmas.Bool.Decides.{nat_tests}
use Rattle.std.specs.Option.{option_and_then, option_map}
use Rattle.jx_base.specs.declared.class_file.Instr.{Instr}
use Rattle.jx_base.specs.declared.frame.Frame.{Frame}
use Rattle.jx_base.specs.declared.program.Resolved.{Resolved}
use Rattle.jx_base.specs.declared.program.Resolved.TheVariants as resolved
use Rattle.jx_base.specs.declared.program.Selector.{Selector}
use Rattle.jx_base.specs.declared.program.System.{System}
use Rattle.jx_base.specs.declared.row.Invocation.{Invocation}
use Rattle.jx_base.specs.declared.row.Invocation.TheVariants as invocation
use Rattle.jx_base.specs.declared.row.Row.{Row}
use Rattle.jx_base.specs.declared.row.Row.TheVariants as row
use Rattle.jx_base.specs.declared.value.Value.{Value}
use Rattle.class_grammar.specs.Opcodes.{row_at}
use Rattle.machine_model.specs.AfterEntry.{Site, result_types, site_at, site_for, site_in, site_of}
use Rattle.machine_model.specs.ObjectRows.{all_fit}
use Rattle.machine_model.specs.State.{Core, Store, class_of_frame, code_bytes, shape_of}
use Rattle.machine_steps.specs.Stepping.{Finds}
use Rattle.program_model.specs.Instructions.{Reading, index_operand, instruction_at}
use Rattle.program_model.specs.Lookup.{constant_at, selector_of_method, shape_fits}
use Rattle.program_model.specs.Types.{is_void, result_type, signature_of}
use Rattle.machine_replies.specs.Sites.{expected_first, result_first}

-- the type of what a call leaves
abbrev pub result_at : Option Site → Option (List ℕ)
result_at o = option_map (λ (x : Site). x.result) o

site_result : (kind : Invocation) (descriptor : List ℕ) → (site_for kind (signature_of descriptor)).result ≡ result_type descriptor
unfolding site_for result_type
site_result invocation.Static descriptor = refl
site_result kind descriptor = refl

module _ (s : System) (c : ℕ) (i : Instr) where
  -- an instruction of another row
  pub no_call_result : ((kind : Invocation) → row_at i.opcode ≡ row.Invoke kind → ⊥) → result_at (site_in s c i) ≡ None
  unfolding site_in site_at
  no_call_result n = by (row_at i.opcode) n (constant_at s c (index_operand i 0))
    where
      by : (r : Row) → ((kind : Invocation) → r ≡ row.Invoke kind → ⊥) → (o : Option Resolved) → result_at (option_and_then (site_at s r) o) ≡ None
      by (row.Invoke kind) n o = absurd (n kind refl)
      by r n None = refl
      by r n (Some x) = refl

  -- one of another constant
  pub no_method_result : ((m : ℕ) → constant_at s c (index_operand i 0) ≡ Some (resolved.Method m) → ⊥) → result_at (site_in s c i) ≡ None
  unfolding site_in site_at
  no_method_result n = by (row_at i.opcode) (constant_at s c (index_operand i 0)) n
    where
      by : (r : Row) → (o : Option Resolved) → ((m : ℕ) → o ≡ Some (resolved.Method m) → ⊥) → result_at (option_and_then (site_at s r) o) ≡ None
      by (row.Invoke kind) (Some (resolved.Method m)) n = absurd (n m refl)
      by (row.Invoke kind) (Some x) n = refl
      by (row.Invoke kind) None n = refl
      by r None n = refl
      by r (Some x) n = refl

  -- the call of a method
  pub call_result : (kind : Invocation) (m : ℕ) (o : Option Selector) → row_at i.opcode ≡ row.Invoke kind → constant_at s c (index_operand i 0) ≡ Some (resolved.Method m) → selector_of_method s m ≡ o
      → result_at (site_in s c i) ≡ option_map (λ (y : Selector). result_type y.descriptor) o
  unfolding site_in site_at
  call_result kind m None e f g = rw (e, f, g) refl
  call_result kind m (Some y) e f g = rw (e, f, g) (ap Some (site_result kind y.descriptor))

module _ (s : System) (core : Core) (f : Frame) (callers : List Frame) (frames : core.frames ≡ f ∷ callers) where
  -- what the instruction leaves that is read
  at_reading : (o : Option Reading) → instruction_at (code_bytes s f) f.pc ≡ o → result_first s core.frames ≡ result_at (option_and_then (λ (r : Reading). site_in s (class_of_frame s f) r.instr) o)
  unfolding site_of
  at_reading o e = ap (result_first s) frames ∙ ap (λ (o : Option Reading). result_at (option_and_then (λ (r : Reading). site_in s (class_of_frame s f) r.instr) o)) e

  pub result_unread : Finds s core None → result_first s core.frames ≡ None
  result_unread none = at_reading None (none f callers frames)

  pub result_read : (i : Instr) → Finds s core (Some i) → result_first s core.frames ≡ result_at (site_in s (class_of_frame s f) i)
  result_read i at =
      let both : at.frame ∷ at.callers ≡ f ∷ callers = sym at.running ∙ frames in
      let same : at.frame ≡ f = cc in
      let read : instruction_at (code_bytes s f) f.pc ≡ Some at.reading = subst (λ (g : Frame). instruction_at (code_bytes s g) g.pc ≡ Some at.reading) same at.read in
      at_reading (Some at.reading) read ∙ ap (λ (i : Instr). result_at (site_in s (class_of_frame s f) i)) at.instr

-- ---- the values that fit

-- the types that a result of that type fits
abbrev types_for : Option (List ℕ) → List (List ℕ)
types_for None = []
types_for (Some t) = if is_void t then [] else t ∷ []

expected_is : (s : System) (fs : List Frame) → expected_first s fs ≡ types_for (result_first s fs)
unfolding result_types
expected_is s [] = refl
expected_is s (f ∷ fs) = by (site_of s f)
  where
    by : (o : Option Site) → (elim o as (λ _. List (List ℕ)) [ None ↦ [] | Some x ↦ if is_void x.result then [] else x.result ∷ [] ]) ≡ types_for (result_at o)
    by None = refl
    by (Some x) = refl

module _ (s : System) (store : Store) where
  -- the only value
  pub one_fits : (vs : List Value) (t : List ℕ) (d : Value) → 1 ≤ length vs → length vs ≤ 1 → shape_fits s false (shape_of store (get_or vs 0 d)) t ≡ all_fit s false store vs (t ∷ [])
  unfolding all_fit
  one_fits [] t d a b = absurd (omega (arith, a))
  one_fits (v ∷ []) t d a b = by (shape_fits s false (shape_of store v) t)
    where
      by : (b : Bool) → b ≡ (b && true)
      by true = refl
      by false = refl
  one_fits (v ∷ w ∷ vs) t d a b = absurd (omega (arith, b))

  pub too_few : (vs : List Value) (t : List ℕ) → length vs < 1 → false ≡ all_fit s false store vs (t ∷ [])
  unfolding all_fit
  too_few [] t h = refl
  too_few (v ∷ vs) t h = absurd (omega (arith, h))

  pub too_many : (vs : List Value) (t : List ℕ) → 1 < length vs → false ≡ all_fit s false store vs (t ∷ [])
  unfolding all_fit
  too_many [] t h = absurd (omega (arith, h))
  too_many (v ∷ []) t h = absurd (omega (arith, h))
  too_many (v ∷ w ∷ vs) t h = by (shape_fits s false (shape_of store v) t)
    where
      by : (b : Bool) → false ≡ (b && false)
      by true = refl
      by false = refl

  module _ (vs : List Value) (fs : List Frame) where
    expects : (o : Option (List ℕ)) → result_first s fs ≡ o → all_fit s false store vs (types_for o) ≡ all_fit s false store vs (expected_first s fs)
    expects o e = ap (all_fit s false store vs) (sym (expected_is s fs ∙ ap types_for e))

    -- the result has a type
    pub one_expected : (t : List ℕ) → result_first s fs ≡ Some t → is_void t ≡ false → all_fit s false store vs (t ∷ []) ≡ all_fit s false store vs (expected_first s fs)
    one_expected t e v = ap (λ (b : Bool). all_fit s false store vs (if b then [] else t ∷ [])) (sym v) ∙ expects (Some t) e

    -- it has none
    pub void_expected : (t : List ℕ) → result_first s fs ≡ Some t → is_void t ≡ true → all_fit s false store vs [] ≡ all_fit s false store vs (expected_first s fs)
    void_expected t e v = ap (λ (b : Bool). all_fit s false store vs (if b then [] else t ∷ [])) (sym v) ∙ expects (Some t) e

    pub none_expected : result_first s fs ≡ None → all_fit s false store vs [] ≡ all_fit s false store vs (expected_first s fs)
    none_expected e = expects None e

  -- no value
  pub none_fit : (vs : List Value) (b : Bool) → b ≡ nat_eq (length vs) 0 → b ≡ all_fit s false store vs []
  unfolding all_fit
  none_fit [] b e = e
  none_fit (v ∷ vs) b e = grind (arith, nat_tests, e)
