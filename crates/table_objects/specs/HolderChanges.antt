-- What an entry makes of the flags of who holds a portal or a memory object.
use Rattle.std.specs.Prelude.{ℕ, Bool, not, ◌&&◌, ◌||◌, List, Some, map, ◌==◌}
use Rattle.jx_base.specs.declared.act.Entry.{Entry}
use Rattle.jx_base.specs.declared.program.System.{System}
use Rattle.jx_base.specs.Basics.{up_to, contains_number}
use Rattle.program_model.specs.Limits.{domain_limit}
use Rattle.jx_base.specs.Histories.{is_done, is_own}
use Rattle.jx_model.specs.Domains.{ended_by}
use Rattle.jx_model.specs.Calls.{ends_domain}
use Rattle.jx_model.specs.Holding.{received_objects, is_drop_of}
use Rattle.table_threads.specs.Changes.{each_record}
use Rattle.jx_model.specs.Portals.{gives_portal}

-- whether an entry gives m to d
abbrev pub gives_object : Entry → ℕ → ℕ → Bool
gives_object e d m = is_own d e && contains_number (received_objects e.act e.reply) m

-- whether an entry takes m from d
abbrev pub drops_object : Entry → ℕ → ℕ → Bool
drops_object e d m = is_own d e && is_done e.reply && is_drop_of m e.act

-- whether a domain holds an object after an entry, from whether it did
abbrev pub held_after : Entry → ℕ → ℕ → Bool → Bool
held_after e m d held =
    not (ends_domain (ended_by e) (Some d)) && (gives_object e d m || (not (drops_object e d m) && held))

-- the flags of one domain alone
abbrev pub only_flag : System → ℕ → List Bool
only_flag s d = map (λ k. d == k) (up_to (domain_limit s))

-- whether a domain holds a portal after an entry, from whether it did
abbrev pub portal_after : Entry → ℕ → ℕ → Bool → Bool
portal_after e k d held =
    not (ends_domain (ended_by e) (Some d)) && ((is_own d e && gives_portal k e) || held)

-- who holds a portal after an entry, from who held it before
abbrev pub portals_after : Entry → ℕ → List Bool → List Bool
portals_after e k before = each_record (portal_after e k) before

-- who holds an object after an entry, from who held it before
abbrev pub holders_after : Entry → ℕ → List Bool → List Bool
holders_after e m before = each_record (held_after e m) before
