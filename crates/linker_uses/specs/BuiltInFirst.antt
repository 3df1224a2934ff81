-- Systems in which the built-in classes come first.
use Rattle.std.specs.Prelude.{◌≡◌, take}
use Rattle.jx_base.specs.declared.program.System.{System}
use Rattle.program_model.specs.BuiltIn.{built_in_count, built_in_table}

-- the first classes of the system are the built-in ones
pub record HasBuiltIns (s : System) : Type 0 where
  pub first : take built_in_count s.program.classes ≡ built_in_table
