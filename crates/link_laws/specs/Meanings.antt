-- What the constants that code uses mean.
use Rattle.std.specs.Prelude.{◌≡◌, ◌≢◌, ℕ, ◌≤◌, ◌<◌, ◌⊎◌, ⊤, Bool, true, false, length, Some, is_some, IsSomeAnd, Contains}
use Rattle.jx_base.specs.declared.class_file.Code.{Code}
use Rattle.jx_base.specs.declared.class_file.Instr.{Instr}
use Rattle.jx_base.specs.declared.class_file.Range.{Range}
use Rattle.jx_base.specs.declared.program.Class.{Class}
use Rattle.jx_base.specs.declared.program.Method.{Method}
use Rattle.jx_base.specs.declared.program.Resolved.{Resolved}
use Rattle.jx_base.specs.declared.program.Resolved.TheVariants as resolved
use Rattle.jx_base.specs.declared.program.System.{System}
use Rattle.jx_base.specs.declared.row.Invocation.{Invocation}
use Rattle.jx_base.specs.declared.row.Invocation.TheVariants as invocation
use Rattle.class_grammar.specs.Flags.{is_static, is_abstract, is_interface_flag}
use Rattle.program_model.specs.BuiltIn.{built_in_count, string_class, zero_class, memory_class}
use Rattle.link_model.specs.declared.uses.Use.{Use}
use Rattle.link_model.specs.declared.uses.Use.TheVariants.{AsWord, AsLong, AsField, AsMethod, AsNew, AsClass, AsArray}
use Rattle.link_model.specs.declared.uses.Used.{Used}
use Rattle.link_model.specs.ClassFiles.{used_by}
use Rattle.link_model.specs.LinkFaults.{calls_static, dimensions_of}
use Rattle.program_model.specs.Lookup.{class_at, class_count, method_at, constant_at}
use Rattle.machine_model.specs.State.{static_types}

-- a method that can run: its code is there, or it is built in
abbrev pub CanRun : Method → Type 0
CanRun x = (is_some x.code ≡ true) ⊎ (x.class.0 < built_in_count)

-- whether an invocation runs the method that the constant means, and not one of the object's class
abbrev pub runs_as_found : Invocation → Bool
runs_as_found invocation.Special = true
runs_as_found invocation.Static = true
runs_as_found _ = false

-- the method fits the invocation: it is static just where the call is, and can run where it runs as it was found
pub record FitsCall (kind : Invocation) (x : Method) : Type 0 where
  pub static : is_static x.flags ≡ calls_static kind
  pub runs : runs_as_found kind ≡ true → CanRun x

-- the class can be made by new
pub record CanBeMade (c : ℕ) (k : Class) : Type 0 where
  pub whole : is_abstract k.flags ≡ false
  pub no_interface : is_interface_flag k.flags ≡ false
  pub no_text : c ≢ string_class
  pub no_zero : c ≢ zero_class
  pub no_memory : c ≢ memory_class
  pub no_array : dimensions_of k.name ≡ 0

-- the place is one of the class's layout, and the class is no interface
pub record HasPlace (i : ℕ) (k : Class) : Type 0 where
  pub place : i < length k.fields
  pub no_interface : is_interface_flag k.flags ≡ false

-- what a constant means is of the kind that the use takes, and names what the system has
abbrev pub FitsUse : System → Use → Resolved → Type 0
FitsUse s AsWord (resolved.Int n) = ⊤
FitsUse s AsWord (resolved.Str text) = ⊤
FitsUse s AsLong (resolved.Long n) = ⊤
FitsUse s (AsField true) (resolved.Static c i) = (c.0 < class_count s) × (i < length (static_types s))
FitsUse s (AsField false) (resolved.Instance c i) = IsSomeAnd (class_at s c.0) (HasPlace i)
FitsUse s (AsMethod kind) (resolved.Method m) = IsSomeAnd (method_at s m) (FitsCall kind)
FitsUse s AsNew (resolved.Class c) = IsSomeAnd (class_at s c.0) (CanBeMade c.0)
FitsUse s AsClass (resolved.Class c) = c.0 < class_count s
FitsUse s (AsArray n) (resolved.Class c) = IsSomeAnd (class_at s c.0) (λ k. n ≤ dimensions_of k.name)
FitsUse _ _ _ = ⊥

-- the constant of the class means what fits the use
abbrev pub MeansFitting : System → ℕ → Used → Type 0
MeansFitting s c u = IsSomeAnd (constant_at s c u.index) (FitsUse s u.use_of)

-- each constant that an instruction or a catch type of a method uses means what fits the use
pub record ConstantsFit (s : System) : Type 0 where
  pub instructions : (m : ℕ) (x : Method) (i : Instr) (u : Used) → method_at s m ≡ Some x → Contains x.instrs i → used_by i ≡ Some u → MeansFitting s x.class.0 u
  pub catches : (m : ℕ) (x : Method) (c : Code) (r : Range) → method_at s m ≡ Some x → x.code ≡ Some c → Contains c.table r → r.catch_type ≢ 0
      → MeansFitting s x.class.0 (record { use_of = AsClass; index = r.catch_type })
