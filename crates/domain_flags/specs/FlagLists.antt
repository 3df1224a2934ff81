-- Flags of domains: that of domain d at place d - 1.
use Rattle.std.specs.Prelude.{◌≤◌, ◌-◌, ◌==◌, ℕ, Bool, List, map}
use Rattle.jx_base.specs.Basics.{up_to}
use Rattle.table_threads.specs.Changes.{changed_at}

-- 1 to 64
abbrev pub IsDomain : ℕ → Type 0
IsDomain d = (1 ≤ d) × (d ≤ 64)

-- the flag of one domain alone
abbrev pub only_flag : ℕ → List Bool
only_flag d = map (λ k. d == k) (up_to 64)

-- the flags with that of the domain set or not
abbrev pub with_flag : ℕ → Bool → List Bool → List Bool
with_flag d flag flags = changed_at (d - 1) (λ _. flag) flags
