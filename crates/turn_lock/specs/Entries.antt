-- Which domains a list of entries made, and how it grows. The first entry is first.
use Rattle.std.specs.Prelude.{◌≡◌, ℕ, ◌⊎◌, List, [], ◌∷◌, ◌++◌, Option, None, Contains}
use Rattle.std.specs.List.{last_or}
use Rattle.std.specs.Option.{option_and_then}
use Rattle.jx_base.specs.declared.act.Entry.{Entry}
use Rattle.jx_base.specs.Births.{answered_domain, answered_domains}

-- the domain that the last entry is answered with
abbrev pub last_born : List Entry → Option ℕ
last_born entries = option_and_then answered_domain (last_or None entries)

-- the domain is Domain Zero, or an entry made it
pub record IsMade (entries : List Entry) (domain : ℕ) : Type 0 where
  pub either : (domain ≡ 0) ⊎ Contains (answered_domains entries) domain

-- the list stays, or has one entry of the domain more at its end
abbrev pub Extends : List Entry → List Entry → ℕ → Type 0
Extends before after domain =
    (after ≡ before) ⊎ ((entry : Entry) × (after ≡ before ++ entry ∷ []) × (entry.domain.0 ≡ domain))
