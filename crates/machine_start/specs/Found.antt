-- Which classes and methods are sought for the start.
use Rattle.std.specs.Prelude.{ℕ, Bool, ◌&&◌, not, ◌==◌, List, [], ◌∷◌, ◌++◌, Some, None, is_some, slice_get, slice_set}
use Rattle.class_grammar.specs.Flags.{is_static}
use Rattle.jx_base.specs.declared.program.Method.{Method}
use Rattle.jx_base.specs.declared.program.Selector.{Selector}
use Rattle.jx_base.specs.declared.program.System.{System}
use Rattle.jx_base.specs.Basics.{passes}
use Rattle.program_model.specs.Lookup.{is_built_in, method_at, same_selector, selector_at}

-- whether the class is not built in
abbrev pub is_loaded : ℕ → Bool
is_loaded c = not (is_built_in c)

-- whether it is a static method with code of that selector
unfoldable pub is_static_with : System → Selector → Method → Bool
is_static_with s selector m =
    is_static m.flags && is_some m.code && passes (λ y. same_selector y selector) (selector_at s m.selector.0)

-- whether the method of that place is one
unfoldable pub is_static_at : System → Selector → ℕ → Bool
is_static_at s selector m = passes (is_static_with s selector) (method_at s m)

-- whether class c declares the method of that place
unfoldable pub is_declared_at : System → ℕ → ℕ → Bool
is_declared_at s c m = passes (λ x. x.class.0 == c) (method_at s m)

-- the groups with one member more in the one of that place, if there is one
unfoldable pub with_member : List (List ℕ) → ℕ → ℕ → List (List ℕ)
with_member groups c m = elim (slice_get groups c) [ None ↦ groups | Some members ↦ slice_set groups c (members ++ m ∷ []) ]
