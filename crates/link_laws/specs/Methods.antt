-- The methods of a linked system, and those that a start runs.
use Rattle.std.specs.Prelude.{◌≡◌, ◌⊎◌, ℕ, ℤ, pos, ◌≤◌, ◌<◌, true, false, List, [], ◌∷◌, ◌++◌, length, map, Some, None, IfSome, IsSome, All, Contains}
use Rattle.std.specs.List.Sorted.{IsStrictlyIncreasing}
use Rattle.class_grammar.specs.CodeGrammar.{IsCode, targets_of}
use Rattle.class_grammar.specs.Flags.{is_abstract}
use Rattle.jx_base.specs.declared.class_file.Code.{Code}
use Rattle.jx_base.specs.declared.class_file.Instr.{Instr}
use Rattle.jx_base.specs.declared.program.Method.{Method}
use Rattle.jx_base.specs.declared.program.System.{System}
use Rattle.jx_base.specs.declared.program.Template.{Template}
use Rattle.program_model.specs.BuiltIn.{built_in_count}
use Rattle.program_model.specs.Instructions.{instruction_at}
use Rattle.program_model.specs.Lookup.{class_count, method_at, selector_at}
use Rattle.machine_model.specs.Start.{initializers, mains}
use Rattle.machine_model.specs.State.{code_of}
use Rattle.link_laws.specs.Meanings.{CanRun}

-- ---- code

-- an instruction starts at the place
abbrev pub StartsAt : List Instr → ℤ → Type 0
StartsAt instrs place = (j : Instr) × Contains instrs j × (pos j.pc ≡ place)

-- reading the code at the instruction's place gives it, and behind it stands another one or the end
abbrev pub ReadsAt : Code → List Instr → Instr → Type 0
ReadsAt c instrs i = (next : ℕ) × (instruction_at c.code i.pc ≡ Some (record { instr = i; next = next })) × ((next ≡ length c.code) ⊎ StartsAt instrs (pos next))

-- the code is the instructions; there are some, in order and within the code, and each may branch only to where one starts
pub record IsCodeOf (c : Code) (instrs : List Instr) : Type 0 where
  pub code : IsCode c.code c.table instrs
  pub some : 1 ≤ length instrs
  pub order : IsStrictlyIncreasing (map (λ i. i.pc) instrs)
  pub within : All (λ i. i.pc < length c.code) instrs
  pub reads : (i : Instr) → Contains instrs i → ReadsAt c instrs i
  pub targets : (i : Instr) (place : ℤ) → Contains instrs i → Contains (targets_of i) place → StartsAt instrs place

-- ---- methods

-- the class and the selector of a method are there, and its instructions are those of its code, which it has just where it is neither abstract nor built in
pub record IsWhole (s : System) (x : Method) : Type 0 where
  pub class : x.class.0 < class_count s
  pub selector : IsSome (selector_at s x.selector.0)
  pub runs : is_abstract x.flags ≡ false → CanRun x
  pub abstract : is_abstract x.flags ≡ true → x.code ≡ None
  pub built_in : x.class.0 < built_in_count → x.code ≡ None
  pub instructions : IfSome x.code (λ c. IsCodeOf c x.instrs)
  pub none : x.code ≡ None → x.instrs ≡ []

-- each method is whole, and no class has two methods of one selector
pub record MethodsHold (s : System) : Type 0 where
  pub whole : (m : ℕ) (x : Method) → method_at s m ≡ Some x → IsWhole s x
  pub once : (m n : ℕ) (x y : Method) → method_at s m ≡ Some x → method_at s n ≡ Some y → x.class ≡ y.class → x.selector ≡ y.selector → m ≡ n

-- ---- starts

-- a domain of the template runs methods with code, of which one is main
pub record IsStarted (s : System) (t : Template) : Type 0 where
  pub main : (m : ℕ) × (mains s t ≡ m ∷ [])
  pub code : All (λ m. IsSome (code_of s m)) (initializers s t ++ mains s t)

-- so it is of each template
abbrev pub StartsHold : System → Type 0
StartsHold s = (t : Template) → Contains s.plan.templates t → IsStarted s t
