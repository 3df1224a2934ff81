-- Walks over supers that were in vain.
use Rattle.std.specs.Prelude.{◌≡◌, ℕ, false, List, get_or}
use Rattle.jx_base.specs.declared.program.System.{System}
use Rattle.jx_base.specs.Basics.{contains_number}
use Rattle.program_model.specs.Lookup.{supers_within}

-- from no class as many steps as are noted for it lead to the class that is sought
abbrev pub AreVain : System → ℕ → List ℕ → Type 0
AreVain s above notes = (c : ℕ) → contains_number (supers_within s (get_or notes c 0) c) above ≡ false
