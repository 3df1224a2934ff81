-- Classes and systems that are given what their constants mean.
use Rattle.std.specs.Prelude.{ℕ, zero, suc, List, [], ◌∷◌}
use Rattle.jx_base.specs.declared.class_file.ClassFile.{ClassFile}
use Rattle.jx_base.specs.declared.program.Class.{Class}
use Rattle.jx_base.specs.declared.program.Resolved.{Resolved}
use Rattle.jx_base.specs.declared.program.System.{System}
use Rattle.link_model.specs.Linking.{with_meanings}

-- the classes, the one of that number with these constants
abbrev pub with_constants : List Class → ℕ → List Resolved → List Class
with_constants [] n constants = []
with_constants (k ∷ classes) zero constants = record k { constants = constants } ∷ classes
with_constants (k ∷ classes) (suc n) constants = k ∷ with_constants classes n constants

-- a system, the classes of these files with what their constants mean
abbrev pub with_all_meanings : System → List ClassFile → System
with_all_meanings s files = record s { program = record s.program { classes = with_meanings s files 0 s.program.classes } }
