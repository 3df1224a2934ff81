-- Which classes give an interface a method.
use Rattle.std.specs.Prelude.{ℕ, Bool, ◌&&◌, ◌||◌, ◌==◌}
use Rattle.jx_base.specs.declared.program.Selector.{Selector}
use Rattle.jx_base.specs.declared.program.System.{System}
use Rattle.jx_base.specs.Basics.{passes}
use Rattle.program_model.specs.Lookup.{class_at, has_own_method, is_below, is_interface}

-- whether class c declares the method, and is the interface or an interface above it
abbrev pub offers : System → ℕ → Selector → ℕ → Bool
offers s iface selector c =
    passes (has_own_method selector) (class_at s c) && ((c == iface) || is_interface s c) && is_below s iface c
