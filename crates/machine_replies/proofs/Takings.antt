-- How many values the call takes that a frame is at.
use Rattle.std.proofs.Common.{◌≡◌, ◌∙◌, refl, sym, ap, subst, ℕ, List, [], ◌∷◌, drop, Option, Some, None}
use Rattle.std.specs.Prelude.{slice_get}
use Rattle.std.specs.Option.{option_and_then, option_map, unwrap_or}
use Rattle.jx_base.specs.declared.class_file.Instr.{Instr}
use Rattle.jx_base.specs.declared.frame.Frame.{Frame}
use Rattle.jx_base.specs.declared.program.Resolved.{Resolved}
use Rattle.jx_base.specs.declared.program.Resolved.TheVariants as resolved
use Rattle.jx_base.specs.declared.program.Selector.{Selector}
use Rattle.jx_base.specs.declared.program.System.{System}
use Rattle.jx_base.specs.declared.row.Invocation.{Invocation}
use Rattle.jx_base.specs.declared.row.Row.{Row}
use Rattle.jx_base.specs.declared.row.Row.TheVariants as row
use Rattle.class_grammar.specs.Opcodes.{row_at}
use Rattle.machine_model.specs.AfterEntry.{Site, site_at, site_for, site_in, site_of, taken_at}
use Rattle.machine_model.specs.State.{Core, class_of_frame, code_bytes}
use Rattle.machine_steps.specs.Stepping.{Finds}
use Rattle.program_model.specs.Instructions.{Reading, index_operand, instruction_at}
use Rattle.program_model.specs.Lookup.{constant_at, selector_of_method}
use Rattle.program_model.specs.Types.{signature_of}
use Rattle.machine_replies.specs.Sites.{taken_first}

-- ---- the running frame

pub first_frame : (fs : List Frame) (f : Frame) → Some f ≡ slice_get fs 0 → fs ≡ f ∷ drop 1 fs
first_frame [] f e = cc
first_frame (g ∷ gs) f e = let q : f ≡ g = cc in ap (λ (x : Frame). x ∷ gs) (sym q)

pub no_frame : (fs : List Frame) → None ≡ slice_get fs 0 → fs ≡ []
no_frame [] e = refl
no_frame (g ∷ gs) e = cc

-- ---- its call

-- how many values the call takes, if it is one
abbrev pub takes : Option Site → Option ℕ
takes o = option_map (λ (x : Site). x.takes) o

module _ (s : System) (c : ℕ) (i : Instr) where
  -- an instruction of another row
  pub no_call : ((kind : Invocation) → row_at i.opcode ≡ row.Invoke kind → ⊥) → takes (site_in s c i) ≡ None
  unfolding site_in site_at
  no_call n = by (row_at i.opcode) n (constant_at s c (index_operand i 0))
    where
      by : (r : Row) → ((kind : Invocation) → r ≡ row.Invoke kind → ⊥) → (o : Option Resolved) → takes (option_and_then (site_at s r) o) ≡ None
      by (row.Invoke kind) n o = absurd (n kind refl)
      by r n None = refl
      by r n (Some x) = refl

  -- one of another constant
  pub no_method : ((m : ℕ) → constant_at s c (index_operand i 0) ≡ Some (resolved.Method m) → ⊥) → takes (site_in s c i) ≡ None
  unfolding site_in site_at
  no_method n = by (row_at i.opcode) (constant_at s c (index_operand i 0)) n
    where
      by : (r : Row) → (o : Option Resolved) → ((m : ℕ) → o ≡ Some (resolved.Method m) → ⊥) → takes (option_and_then (site_at s r) o) ≡ None
      by (row.Invoke kind) (Some (resolved.Method m)) n = absurd (n m refl)
      by (row.Invoke kind) (Some x) n = refl
      by (row.Invoke kind) None n = refl
      by r None n = refl
      by r (Some x) n = refl

  -- the call of a method
  pub call_at : (kind : Invocation) (m : ℕ) (o : Option Selector) → row_at i.opcode ≡ row.Invoke kind → constant_at s c (index_operand i 0) ≡ Some (resolved.Method m) → selector_of_method s m ≡ o
      → takes (site_in s c i) ≡ option_map (λ (y : Selector). (site_for kind (signature_of y.descriptor)).takes) o
  unfolding site_in site_at
  call_at kind m None e f g = rw (e, f, g) refl
  call_at kind m (Some y) e f g = rw (e, f, g) refl

module _ (s : System) (core : Core) (f : Frame) (callers : List Frame) (frames : core.frames ≡ f ∷ callers) where
  -- what the instruction takes that is read
  at_reading : (o : Option Reading) → instruction_at (code_bytes s f) f.pc ≡ o → taken_at s f ≡ unwrap_or (takes (option_and_then (λ (r : Reading). site_in s (class_of_frame s f) r.instr) o)) 0
  unfolding taken_at site_of
  at_reading o e = ap (λ (o : Option Reading). unwrap_or (takes (option_and_then (λ (r : Reading). site_in s (class_of_frame s f) r.instr) o)) 0) e

  pub taken_unread : Finds s core None → taken_first s core.frames ≡ 0
  taken_unread none = ap (taken_first s) frames ∙ at_reading None (none f callers frames)

  pub taken_read : (i : Instr) → Finds s core (Some i) → taken_first s core.frames ≡ unwrap_or (takes (site_in s (class_of_frame s f) i)) 0
  taken_read i at =
      let both : at.frame ∷ at.callers ≡ f ∷ callers = sym at.running ∙ frames in
      let same : at.frame ≡ f = cc in
      let read : instruction_at (code_bytes s f) f.pc ≡ Some at.reading = subst (λ (g : Frame). instruction_at (code_bytes s g) g.pc ≡ Some at.reading) same at.read in
      ap (taken_first s) frames ∙ at_reading (Some at.reading) read
      ∙ ap (λ (i : Instr). unwrap_or (takes (site_in s (class_of_frame s f) i)) 0) at.instr
