-- All that is kept at the start.
use Rattle.std.proofs.Common.{◌≡◌, refl, sym, ℕ, suc, zero, ◌+◌, Bool, false, [], map, replicate}
use Rattle.std.specs.List.{range_with_len}
use Rattle.jx_base.specs.declared.program.System.{System}
use Rattle.jx_base.specs.Basics.{up_to}
use Rattle.program_model.specs.Limits.{granule_limit}
use Rattle.jx_base.specs.Histories.{count_where}
use Rattle.jx_model.specs.Portals.{last_bound}
use Rattle.jx_model.specs.Journal.{words_of}
use Rattle.jx_model.specs.Permits.{is_over}
use Rattle.jx_model.specs.Calls.{waiting_calls}
use Rattle.jx_model.specs.MemoryObjects.{objects_of, objects_made}
use Rattle.jx_model.specs.Granules.{heap_runs, extent_runs, used_runs, lies_in_one, is_used_granule}
use Rattle.jx_model.specs.Tables.{StandsFor, domain_records, service_records, named_service, call_records, object_records, extent_records, granule_flags}
use Rattle.table_steps.specs.Steps.{first_kept}

no_flags : (f : ℕ → Bool) (a n : ℕ) → ((g : ℕ) → f g ≡ false) → map f (range_with_len a n) ≡ replicate n false
no_flags f a zero h = refl
no_flags f a (suc n) h = rw (h a, no_flags f (a + 1) n h) refl

-- it stands for the past without entries
pub stands_at_start : (s : System) → StandsFor s (first_kept s)
unfolding is_over words_of domain_records service_records named_service last_bound call_records waiting_calls objects_of object_records objects_made extent_records granule_flags is_used_granule lies_in_one used_runs heap_runs extent_runs count_where up_to
stands_at_start s =
    record {
      admitted = tt;
      over = refl;
      words = refl;
      creates = refl;
      domains = refl;
      threads = refl;
      services = refl;
      names = λ name. refl;
      calls = refl;
      waiting = refl;
      parts = refl;
      objects = refl;
      extents = refl;
      taken = sym (no_flags (is_used_granule s []) 0 (granule_limit s) (λ g. refl));
    }
