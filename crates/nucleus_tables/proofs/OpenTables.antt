-- The tables before the first entry, and the templates that are created at the start.
use Rattle.std.proofs.Common.{◌≡◌, sym, ◌∙◌, ap, subst, ℕ, ◌+◌, ◌/◌, ◌≤◌, Bool, true, false, cond, List, [], ◌∷◌, ◌++◌, filter, length, replicate, reverse, Some, arith, add-one, slice_get}
use Rattle.std.specs.List.{range_with_len}
use Rattle.std.proofs.lemmas.List.{append-nil}
use Rattle.std.proofs.lemmas.List.Elements.{filter-append}
use Rattle.jx_base.specs.declared.program.System.{System}
use Rattle.jx_base.specs.declared.program.Template.{Template}
use Rattle.jx_base.specs.Basics.{passes, up_to}
use Rattle.jx_base.specs.Histories.{count_where}
use Rattle.jx_base.proofs.BasicLaws.{ap2, ap3}
use Rattle.program_model.specs.Limits.{domain_limit, granule_limit, journal_limit}
use Rattle.program_model.specs.Plans.{IsPlanInRange}
use Rattle.jx_model.specs.Domains.{end_reason}
use Rattle.jx_model.specs.Journal.{words_of}
use Rattle.jx_model.specs.Permits.{boot_templates, is_boot_template}
use Rattle.jx_model.specs.Calls.{waiting_calls}
use Rattle.jx_model.specs.Tables.{CallRecord, Kept, StandsFor, call_records}
use Rattle.call_table.specs.CallLists.{CallsState}
use Rattle.memory_space.specs.SpaceLists.{SpaceState, first_space}
use Rattle.nucleus_tables.specs.CallTables.{AreCallsOf}
use Rattle.nucleus_tables.specs.PlaceLists.{PlacesState}
use Rattle.journal.specs.Journals.{JournalState}
use Rattle.domain_table.specs.DomainLists.{DomainsState}
use Rattle.portal_table.specs.NameLists.{name_words}
use Rattle.portal_table.specs.ServiceLists.{ServicesState}
use Rattle.table_steps.proofs.FirstKept.{stands_at_start}
use Rattle.table_steps.specs.Steps.{first_kept}
use Rattle.table_threads.proofs.Records.{range_more}
use Rattle.nucleus_tables.specs.Inner.{IsOf, kept_in, past_in}
use Rattle.nucleus_tables.specs.NucleusStates.{ended_flags}
use Rattle.nucleus_tables.specs.declared.tables.Tables.{Tables}

-- ---- the templates that are created at the start

-- those up to one place more
boots_more : (s : System) (i : ℕ) → filter (is_boot_template s) (range_with_len 0 (i + 1)) ≡ filter (is_boot_template s) (range_with_len 0 i) ++ cond (is_boot_template s i) (i ∷ []) []
boots_more s i =
    ap (filter (is_boot_template s)) (ap (range_with_len 0) (add-one i) ∙ range_more 0 i ∙ ap (λ (k : ℕ). range_with_len 0 i ++ k ∷ []) (omega arith))
    ∙ filter-append (is_boot_template s) (range_with_len 0 i) (i ∷ [])

-- one that is created
pub boots_with : (s : System) (i : ℕ) (t : Template) → slice_get s.plan.templates i ≡ Some t → t.boot ≡ true → filter (is_boot_template s) (range_with_len 0 (i + 1)) ≡ filter (is_boot_template s) (range_with_len 0 i) ++ i ∷ []
unfolding is_boot_template passes
boots_with s i t q b =
    boots_more s i
    ∙ ap (λ (b : Bool). filter (is_boot_template s) (range_with_len 0 i) ++ cond b (i ∷ []) []) (ap (passes (λ (x : Template). x.boot)) q ∙ b)

-- one that isn't
pub boots_without : (s : System) (i : ℕ) (t : Template) → slice_get s.plan.templates i ≡ Some t → t.boot ≡ false → filter (is_boot_template s) (range_with_len 0 (i + 1)) ≡ filter (is_boot_template s) (range_with_len 0 i)
unfolding is_boot_template passes
boots_without s i t q b =
    boots_more s i
    ∙ ap (λ (b : Bool). filter (is_boot_template s) (range_with_len 0 i) ++ cond b (i ∷ []) []) (ap (passes (λ (x : Template). x.boot)) q ∙ b)
    ∙ append-nil (filter (is_boot_template s) (range_with_len 0 i))

-- ---- the tables before the first entry

module _ (s : System) (x : Tables) (o : x.over ≡ false) (n : x.creates ≡ 0) (j : x.journal ≡ record { entries = []; limit = s.plan.journal })
    (d : x.domains ≡ record { domains = []; threads = []; services = 0; limit = domain_limit s })
    (v : x.services ≡ record { services = []; ended = replicate 64 false; binds = []; words = s.plan.journal })
    (m : x.space ≡ first_space s) (c : x.calls ≡ record { calls = []; limit = s.plan.journal / 8 }) (r : x.places ≡ record { places = []; limit = s.plan.journal / 8 }) where
  -- what is kept of them is what is kept at the start
  open_kept : kept_in x ≡ first_kept s
  unfolding words_of granule_limit call_records waiting_calls up_to count_where
  open_kept =
      ap2 (λ (over : Bool) (creates : ℕ). let k : Kept = record (kept_in x) { over = over; creates = creates } in k) o n
      ∙ ap (λ (z : ServicesState). let k : Kept = record (kept_in x) { over = false; creates = 0; services = z.services; names = z.binds } in k) v
      ∙ ap3 kept j d m
    where
      kept : JournalState → DomainsState → SpaceState → Kept
      kept journal domains space =
          record (first_kept s) {
            past = reverse journal.entries;
            words = words_of (reverse journal.entries);
            domains = domains.domains;
            threads = domains.threads;
            calls = call_records (reverse journal.entries);
            waiting = waiting_calls (reverse journal.entries);
            parts = space.parts;
            objects = space.objects;
            extents = space.extents;
            taken = space.taken;
          }

  -- they are those of a nucleus
  pub open_is_of : IsPlanInRange s.plan → x.boots.items ≡ boot_templates s → IsOf s x
  unfolding journal_limit end_reason up_to domain_limit call_records count_where
  open_is_of n b =
      record {
        plan = n;
        stands = subst (StandsFor s) (sym open_kept) (stands_at_start s);
        journal = ap (λ (z : JournalState). z.limit) j;
        domains = ap (λ (z : DomainsState). z.limit) d;
        boots = b;
        ended = ap (λ (z : ServicesState). z.ended) v ∙ ap (λ (z : JournalState). ended_flags s (reverse z.entries)) (sym j);
        serving = ap2 (λ (y : DomainsState) (z : ServicesState). y.services) d v ∙ sym (ap (λ (z : ServicesState). length z.services) v);
        names = ap (λ (z : ServicesState). z.words) v;
        cost = subst (λ (z : ServicesState). name_words z.binds ≤ words_of (past_in x)) (sym v) (omega arith);
        calls = subst (λ (cs : List CallRecord). AreCallsOf cs x.calls.calls x.places.places) (ap (λ (z : JournalState). call_records (reverse z.entries)) (sym j))
            (record { calls_are = ap (λ (z : CallsState). z.calls) c; places_are = ap (λ (z : PlacesState). z.places) r });
        call_room = ap (λ (z : CallsState). z.limit) c;
        place_room = ap (λ (z : PlacesState). z.limit) r;
        no_objects = ap (λ (z : SpaceState). z.objects) m;
        no_extents = ap (λ (z : SpaceState). z.extents) m;
      }
