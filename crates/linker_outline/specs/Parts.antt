-- What an outline is made of.
use Rattle.std.specs.Prelude.{◌≡◌, ℕ, List, ◌++◌, map}
use Rattle.program_model.specs.BuiltIn.{built_in_table}
use Rattle.jx_base.specs.declared.program.Plan.{Plan}
use Rattle.linker_outline.specs.declared.parts.Parts.{Parts}

-- the names of the built-in classes, then those of the plan's
abbrev pub class_names : Plan → List (List ℕ)
class_names plan = map (λ k. k.name) built_in_table ++ plan.classes

-- the classes are the built-in ones, and the names are theirs and those of the plan
pub record AreParts (p : Parts) : Type 0 where
  pub built_in : p.built_in.now ≡ built_in_table
  pub numbers : p.numbers.now ≡ class_names p.plan.now
