-- What contracts see of a plain list.
use Rattle.std.specs.Prelude.{◌≡◌, ℕ, ◌+◌, ◌<◌, ◌≤◌, List, [], ◌∷◌, ◌++◌, length, Option, All}
use Rattle.jx_base.specs.declared.act.Entry.{Entry}
use Rattle.jx_base.specs.declared.program.System.{System}
use Rattle.jx_base.specs.Births.{answered_domain, answered_domains, IsNumbered}

-- a system, and entries, the first one first
pub record ListState : Type 0 where
  pub system : System
  pub entries : List Entry

-- each entry that made a domain made another one, each below the next number
pub record HasNumbers (entries : List Entry) (next : ℕ) : Type 0 where
  pub numbered : IsNumbered entries
  pub below : All (λ domain. domain < next) (answered_domains entries)
  pub positive : 0 < next
  pub small : next ≤ 1 + length entries
  pub room : length entries ≤ 1000

-- one entry of the domain was added, which made this domain or none
pub record IsAdded (before after : ListState) (domain : ℕ) (born : Option ℕ) : Type 0 where
  pub entry : Entry
  pub system : after.system ≡ before.system
  pub entries : after.entries ≡ before.entries ++ entry ∷ []
  pub own : entry.domain.0 ≡ domain
  pub makes : answered_domain entry ≡ born
