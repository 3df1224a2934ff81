-- What an entry makes of bytes and of granules in use.
use Rattle.std.specs.Prelude.{ℕ, ◌+◌, ◌-◌, Bool, true, false, cond, ◌&&◌, List, [], ◌∷◌, nat_le, nat_lt, not, ◌++◌, filter_map}
use Rattle.jx_base.specs.declared.act.Act.{Act}
use Rattle.jx_base.specs.declared.act.Act.TheVariants as act
use Rattle.jx_base.specs.declared.act.Entry.{Entry}
use Rattle.jx_base.specs.declared.program.System.{System}
use Rattle.jx_base.specs.Basics.{up_to}
use Rattle.jx_base.specs.Histories.{Past}
use Rattle.jx_model.specs.MemoryObjects.{extents_made}
use Rattle.jx_model.specs.Domains.{is_live, domains_made}
use Rattle.jx_model.specs.Holding.{is_extent_in_use}
use Rattle.jx_model.specs.Granules.{Run, run_if, heap_run, extent_run}

-- whether the act writes bytes
abbrev pub writes : Act → Bool
writes (act.Set m at width v) = true
writes (act.Fill m at count b) = true
writes (act.Copy m at k k_at count) = true
writes _ = false

-- a list of bytes, its first at that place, with so many of them from there written
abbrev pub written : ℕ → ℕ → ℕ → (ℕ → ℕ) → List ℕ → List ℕ
written k from count f [] = []
written k from count f (b ∷ bytes) =
    cond (nat_le from k && nat_lt k (from + count)) (f (k - from)) b ∷ written (k + 1) from count f bytes

-- whether an entry ends the use of a heap
abbrev pub is_heap_freed : Entry → Past → ℕ → Bool
is_heap_freed e past d = is_live past d && not (is_live (e ∷ past) d)

-- whether an entry ends the use of an extent
abbrev pub is_extent_freed : Entry → Past → ℕ → Bool
is_extent_freed e past x = is_extent_in_use past x && not (is_extent_in_use (e ∷ past) x)

-- the runs of what an entry frees
abbrev pub freed_runs : System → Entry → Past → List Run
freed_runs s e past =
    filter_map (run_if (is_heap_freed e past) (heap_run s past)) (up_to (domains_made past))
    ++ filter_map (run_if (is_extent_freed e past) (extent_run past)) (up_to (extents_made past))
