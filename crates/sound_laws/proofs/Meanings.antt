-- What the constants of a linked system mean lies in its range, and arrays have the dimensions that code makes.
use Rattle.std.proofs.Common.{◌≡◌, ℕ, ◌≤◌, List, [], Option, Some, None, refl, sym, ap, ◌∙◌, subst}
use Rattle.std.specs.Prelude.{IsSomeAnd}
use Rattle.class_grammar.specs.Opcodes.{row_at}
use Rattle.jx_base.specs.declared.class_file.ClassFile.{ClassFile}
use Rattle.jx_base.specs.declared.frame.Frame.{Frame}
use Rattle.jx_base.specs.declared.ids.ClassId.{ClassId}
use Rattle.jx_base.specs.declared.program.Class.{Class}
use Rattle.jx_base.specs.declared.program.Method.{Method}
use Rattle.jx_base.specs.declared.program.Plan.{Plan}
use Rattle.jx_base.specs.declared.program.Resolved.{Resolved}
use Rattle.jx_base.specs.declared.program.Resolved.TheVariants as resolved
use Rattle.jx_base.specs.declared.program.System.{System}
use Rattle.jx_base.specs.declared.row.Row.TheVariants as row
use Rattle.link_model.specs.declared.uses.Use.{Use}
use Rattle.link_model.specs.declared.uses.Use.TheVariants.{AsArray}
use Rattle.link_model.specs.declared.uses.Used.{Used}
use Rattle.link_model.specs.ClassFiles.{use_by, used_by}
use Rattle.program_model.specs.Instructions.{Reading, instruction_at, index_operand}
use Rattle.link_model.specs.LinkFaults.{dimensions_of}
use Rattle.program_model.specs.Lookup.{class_at, constant_at, method_at}
use Rattle.machine_model.specs.State.{code_of, code_bytes, class_of_frame}
use Rattle.link_model.specs.LinkFaults.{IsLinked}
use Rattle.link_laws.specs.Meanings.{FitsUse}
use Rattle.link_laws.proofs.Fitting.{constants_fit}
use Rattle.link_laws.proofs.Lists.{same_there}
use Rattle.machine_laws.specs.Values.{IsPlaced}
use Rattle.sound_laws.proofs.Places.{none_of_none}
use Rattle.std.specs.Option.{option_and_then, option_map, unwrap_or}

-- ---- dimensions

module _ (plan : Plan) (files : List ClassFile) (s : System) (from : IsLinked plan files s) where
  -- an array of arrays has the dimensions that are made
  pub dimensions : (f : Frame) (r : Reading) (c : ClassId) (k : Class) → IsPlaced s f → instruction_at (code_bytes s f) f.pc ≡ Some r → row_at r.instr.opcode ≡ row.NewMultiArray →
      constant_at s (class_of_frame s f) (index_operand r.instr 0) ≡ Some (resolved.Class c) → class_at s c.0 ≡ Some k → index_operand r.instr 1 ≤ dimensions_of k.name
  unfolding class_of_frame used_by use_by code_bytes code_of
  dimensions f r c k here e q means there = by (method_at s f.method) refl
    where
      u : Used
      u = record { use_of = AsArray (index_operand r.instr 1); index = index_operand r.instr 0 }

      used : used_by r.instr ≡ Some u
      used = ap (λ w. option_map (λ (v : Use). record { use_of = v; index = index_operand r.instr 0 }) (use_by w r.instr)) q

      told : (o : Option Resolved) → o ≡ Some (resolved.Class c) → IsSomeAnd o (FitsUse s (AsArray (index_operand r.instr 1))) → index_operand r.instr 1 ≤ dimensions_of k.name
      told None w h = absurd cc
      told (Some x) w h = class (class_at s c.0) there (subst (FitsUse s (AsArray (index_operand r.instr 1))) (same_there x (resolved.Class c) w) h)
        where
          class : (o : Option Class) → o ≡ Some k → IsSomeAnd o (λ k. index_operand r.instr 1 ≤ dimensions_of k.name) → index_operand r.instr 1 ≤ dimensions_of k.name
          class None w h = absurd cc
          class (Some x) w h = subst (λ (y : Class). index_operand r.instr 1 ≤ dimensions_of y.name) (same_there x k w) h

      by : (o : Option Method) → method_at s f.method ≡ o → index_operand r.instr 1 ≤ dimensions_of k.name
      by None w = absurd (none_of_none f.pc r (ap (λ (o : Option Method). instruction_at (elim (option_and_then (λ x. x.code) o) as (λ _. List ℕ) [ None ↦ [] | Some c ↦ c.code ]) f.pc) (sym w) ∙ e))
      by (Some x) w =
          told (constant_at s x.class.0 (index_operand r.instr 0))
          (ap (λ (o : Option Method). constant_at s (unwrap_or (option_map (λ (m : Method). m.class.0) o) 0) (index_operand r.instr 0)) (sym w) ∙ means)
          ((constants_fit plan files s from).instructions f.method x r.instr u w (here x r w e) used)
