-- The machine's memory: which granules are in use, and where the next heap or extent goes.
use Rattle.std.specs.Prelude.{ℕ, zero, suc, ◌+◌, ◌-◌, Bool, true, false, ◌&&◌, not, List, [], ◌∷◌, ◌++◌, Option, Some, None, nat_lt, nat_le, if◌then◌else◌, filter_map, slice_get}
use Rattle.std.specs.List.{list_any, list_all, range_with_len}
use Rattle.jx_base.specs.declared.program.System.{System}
use Rattle.jx_base.specs.Basics.{up_to, parts_of}
use Rattle.program_model.specs.Limits.{granule_limit, granule_bytes, granule_cells}
use Rattle.jx_base.specs.Histories.{Past}
use Rattle.jx_model.specs.Domains.{is_live, domains_made, template_of, heap_place_of, reply_granule}
use Rattle.jx_model.specs.MemoryObjects.{extents_made, allocation_of, allocated_bytes}
use Rattle.jx_model.specs.Holding.{is_extent_in_use}
use Rattle.std.specs.Option.{option_map, unwrap_or}

-- the heap cells of a template
unfoldable pub heap_of_template : System → ℕ → ℕ
heap_of_template s t = unwrap_or (option_map (λ x. x.heap) (slice_get s.plan.templates t)) 0

-- the granules of the heap of a template
unfoldable pub heap_granules : System → ℕ → ℕ
heap_granules s t = parts_of granule_cells (heap_of_template s t)

-- the granules of an extent of so many bytes
unfoldable pub extent_granules : ℕ → ℕ
extent_granules n = parts_of granule_bytes n

-- granules in a row: the first, and how many
abbrev pub Run : Type 0
Run = ℕ × ℕ

-- the granules of a domain's heap
unfoldable pub heap_run : System → Past → ℕ → Run
heap_run s past d = (unwrap_or (heap_place_of past d) 0, unwrap_or (option_map (heap_granules s) (template_of s past d)) 0)

-- the granules of an extent
unfoldable pub extent_run : Past → ℕ → Run
extent_run past x =
    elim (allocation_of past x) [ None ↦ (0, 0) | Some e ↦ (reply_granule e.reply, extent_granules (allocated_bytes e.act)) ]

-- a thing's granules, where it is in use
unfoldable pub run_if : (ℕ → Bool) → (ℕ → Run) → ℕ → Option Run
run_if used run n = if used n then Some (run n) else None

-- the heaps of live domains
unfoldable pub heap_runs : System → Past → List Run
heap_runs s past = filter_map (run_if (is_live past) (heap_run s past)) (up_to (domains_made past))

-- the extents in use
unfoldable pub extent_runs : Past → List Run
extent_runs past = filter_map (run_if (is_extent_in_use past) (extent_run past)) (up_to (extents_made past))

-- all granules in use, by their owners
unfoldable pub used_runs : System → Past → List Run
used_runs s past = heap_runs s past ++ extent_runs past

-- whether the granule is one of the run's
unfoldable pub lies_in : ℕ → Run → Bool
lies_in g r = nat_le r.0 g && nat_lt g (r.0 + r.1)

-- whether the granule is one of these runs'
unfoldable pub lies_in_one : List Run → ℕ → Bool
lies_in_one runs g = list_any (lies_in g) runs

-- whether the granule is in use
unfoldable pub is_used_granule : System → Past → ℕ → Bool
is_used_granule s past g = lies_in_one (used_runs s past) g

-- how many granules the runs have
unfoldable pub run_granules : List Run → ℕ
run_granules [] = 0
run_granules (r ∷ runs) = r.1 + run_granules runs

-- how many granules are in use
unfoldable pub used_granules : System → Past → ℕ
used_granules s past = run_granules (used_runs s past)

-- whether n granules from g on are free
unfoldable pub is_free_run : (ℕ → Bool) → ℕ → ℕ → Bool
is_free_run used n g = list_all (λ k. not (used k)) (range_with_len g n)

-- the least of so many places from g on at which n granules are free
unfoldable pub least_free : (ℕ → Bool) → ℕ → ℕ → ℕ → Option ℕ
least_free used n zero g = None
least_free used n (suc more) g = elim (is_free_run used n g) [ true ↦ Some g | false ↦ least_free used n more (g + 1) ]

-- the least place in the machine's memory at which n granules are free
unfoldable pub first_fit : System → Past → ℕ → Option ℕ
first_fit s past n = least_free (lies_in_one (used_runs s past)) n (granule_limit s + 1 - n) 0

-- what a computed case opens
unfoldable pub opened_granules : Unit {0}
unfolding heap_of_template heap_granules extent_granules heap_run extent_run run_if heap_runs extent_runs used_runs lies_in lies_in_one is_used_granule run_granules used_granules is_free_run least_free first_fit
opened_granules = tt
