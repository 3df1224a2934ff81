-- What the functions that read lines answer.
use Rattle.std.specs.Prelude.{◌≡◌, ℕ, List, map, Option, Some, None, Result, Ok, Err}
use Rattle.std.specs.Borrow.{Bor}
use Rattle.jx_base.specs.declared.error.Error.{Error}
use Rattle.jx_base.specs.declared.error.Error.TheVariants as error
use Rattle.asm_lines.specs.declared.error.Malformed.{Malformed}

-- the units of words
abbrev pub texts : List (Bor (List ℕ)) → List (List ℕ)
texts words = map (λ word. word.now) words

-- what was returned, seen by view, is what is said, or nothing is said, unless memory ran out
abbrev pub Tells : {X Y : Type 0} → (X → Y) → Result X (Error Malformed) → Option Y → Type 0
Tells view (Ok x) said = said ≡ Some (view x)
Tells view (Err (error.Bad malformed)) said = said ≡ None
Tells view (Err error.OutOfMemory) said = Unit {0}
