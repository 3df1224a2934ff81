-- Selectors as keys.
use Rattle.jx_base.specs.declared.program.Selector.{Selector}
use Rattle.linker_outline.specs.declared.selectors.Key.{Key}

-- the selector that a key is
abbrev pub selector_of_key : Key → Selector
selector_of_key k = record { name = k.name; descriptor = k.descriptor }
