-- Methods as classes declare them.
use Rattle.std.specs.Prelude.{ℕ, None}
use Rattle.jx_base.specs.declared.class_file.Member.{Member}
use Rattle.jx_base.specs.declared.program.Declared.{Declared}
use Rattle.link_model.specs.Linking.{Source, declared_of}

-- a method that built-in class c declares
abbrev pub class_source : ℕ → Declared → Source
class_source c m = record { class = c; declared = m; code = None }

-- a method that the file of class c declares
abbrev pub file_source : ℕ → Member → Source
file_source c m = record { class = c; declared = declared_of m; code = m.code }
