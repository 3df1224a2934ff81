-- A system for tests.
use Rattle.std.specs.Prelude.{[]}
use Rattle.jx_base.specs.declared.program.System.{System}

-- a system without templates, classes and methods
abbrev pub empty_system_value : System
empty_system_value = record {
  plan = record { granules = 1; journal = 8208; templates = []; classes = [] };
  program = record { classes = []; methods = []; selectors = [] };
}
