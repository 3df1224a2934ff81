-- What the end of a domain and a release change, in words of the records alone.
use Rattle.std.proofs.Common.{◌≡◌, ◌≢◌, refl, sym, ◌∙◌, ap, ℕ, suc, zero, ◌+◌, ◌<◌, ◌≤◌, Bool, true, false, not, ◌&&◌, List, [], ◌∷◌, map, Option, Some, None, is_some, arith, ◌==◌, if◌then◌else◌, ◌⊎◌, inl, inr, filter, filter_map}
use Rattle.std.specs.List.{range_with_len, cons_option}
use Rattle.jx_base.specs.declared.act.Entry.{Entry}
use Rattle.jx_base.specs.declared.act.Reason.{Reason}
use Rattle.jx_base.specs.declared.program.System.{System}
use Rattle.jx_base.specs.Basics.{up_to, is_number}
use Rattle.jx_base.specs.Histories.{Past}
use Rattle.jx_model.specs.Domains.{is_live, domains_made, ended_by}
use Rattle.jx_model.specs.Portals.{owner_of}
use Rattle.jx_model.specs.Calls.{ends_domain, service_of_call}
use Rattle.jx_model.specs.Granules.{Run, run_if, heap_run, extent_run}
use Rattle.jx_model.specs.Tables.{CallRecord, call_records, service_records, extent_record, object_records}
use Rattle.jx_model.specs.Legal.{IsAdmittedPast}
use Rattle.jx_base.proofs.BasicLaws.{ap2, and_true}
use Rattle.table_threads.proofs.Records.{same_or_not, is_that, not_that}
use Rattle.table_threads.proofs.Actors.{live_made}
use Rattle.table_threads.proofs.CallStages.{live_after}
use Rattle.table_threads.specs.CallChanges.{owned_by, ended_call}
use Rattle.table_threads.proofs.CallActs.{filter_tests}
use Rattle.table_reads.specs.TableReads.{service_in, owner_in}
use Rattle.table_reads.proofs.ActingReads.{service_by_records, owner_by_records, no_export}
use Rattle.table_extents.specs.ExtentChanges.{is_heap_freed, is_extent_freed}
use Rattle.table_steps.specs.Steps.{in_use_by}
use Rattle.table_steps.proofs.StepParts.{in_use_by_records}
use Rattle.table_reads.proofs.ReplyReads.{in_use_by_record}
use Rattle.jx_model.specs.MemoryObjects.{objects_of, extents_made}
use Rattle.std.specs.Option.{option_and_then, option_map, unwrap_or}

-- ---- services of a domain

-- the records say whether a domain owns a service
pub owned_by_record : (s : System) (past : Past) (d k : ℕ) → owned_by past d k ≡ is_number (owner_in (service_records s past) k) d
owned_by_record s past d k = ap (λ (o : Option ℕ). is_number o d) (owner_by_records s past k)

map_tests : {A B : Type 0} (f g : A → B) (xs : List A) → ((x : A) → f x ≡ g x) → map f xs ≡ map g xs
map_tests f g [] h = refl
map_tests {B = B} f g (x ∷ xs) h = ap2 (λ (y : B) (ys : List B). y ∷ ys) (h x) (map_tests f g xs h)

-- the calls' records after the end of a domain, by the services' records
pub ended_calls_by_records : (s : System) (past : Past) (d at : ℕ) (calls : List CallRecord) → map (ended_call (owned_by past d) d at) calls ≡ map (ended_call (λ k. is_number (owner_in (service_records s past) k) d) d at) calls
ended_calls_by_records s past d at calls = map_tests (ended_call (owned_by past d) d at) (ended_call (λ k. is_number (owner_in (service_records s past) k) d) d at) calls (λ item. ended item (owned_by_record s past d item.service))
  where
    ended : (item : CallRecord) → owned_by past d item.service ≡ is_number (owner_in (service_records s past) item.service) d → ended_call (owned_by past d) d at item ≡ ended_call (λ k. is_number (owner_in (service_records s past) k) d) d at item
    ended item q = ap (λ (b : Bool). ended_call (λ k. b) d at item) q

zero_owner : (past : Past) (d : ℕ) → owned_by past d 0 ≡ false
unfolding owner_of is_number
zero_owner past d = ap (λ (o : Option Entry). is_number (option_map (λ e. e.domain.0) o) d) (no_export past 0 (inl refl))

-- the waiting calls after the end of a domain, by the records
pub ended_waiting_by_records : (s : System) (past : Past) (d : ℕ) (waiting : List ℕ) →
    filter (λ c. not (owned_by past d (unwrap_or (service_of_call past c) 0))) waiting ≡ filter (λ c. not (is_number (option_and_then (owner_in (service_records s past)) (service_in (call_records past) c)) d)) waiting
unfolding is_number
ended_waiting_by_records s past d waiting =
    filter_tests (λ c. not (owned_by past d (unwrap_or (service_of_call past c) 0))) (λ c. not (is_number (option_and_then (owner_in (service_records s past)) (service_in (call_records past) c)) d)) waiting (λ c.
    ap not (by (service_of_call past c) ∙ ap (λ (o : Option ℕ). is_number (option_and_then (owner_in (service_records s past)) o) d) (service_by_records past c)))
  where
    by : (o : Option ℕ) → owned_by past d (unwrap_or o 0) ≡ is_number (option_and_then (owner_in (service_records s past)) o) d
    by None = zero_owner past d
    by (Some k) = owned_by_record s past d k

-- ---- freed heaps

no_runs : (used : ℕ → Bool) (run : ℕ → Run) (a n : ℕ) → ((x : ℕ) → a ≤ x → x < a + n → used x ≡ false) → filter_map (run_if used run) (range_with_len a n) ≡ []
unfolding run_if
no_runs used run a zero h = refl
no_runs used run a (suc n) h =
    ap2 (λ (b : Bool) (rs : List Run). cons_option (if b then Some (run a) else None) rs) (h a (omega arith) (omega arith)) (no_runs used run (a + 1) n (λ x l u. h x (omega (arith, l)) (omega (arith, u))))

filter_single_run : (used : ℕ → Bool) (run : ℕ → Run) (d a n : ℕ) → a ≤ d → d < a + n → ((x : ℕ) → a ≤ x → x < a + n → used x ≡ (d == x)) → filter_map (run_if used run) (range_with_len a n) ≡ run d ∷ []
unfolding run_if
filter_single_run used run d a zero l u h = absurd (omega (arith, l, u))
filter_single_run used run d a (suc n) l u h = by (same_or_not a d) (filter_single_run used run d (a + 1) n)
  where
    by : (a ≡ d) ⊎ (a ≢ d) → (a + 1 ≤ d → d < a + 1 + n → ((x : ℕ) → a + 1 ≤ x → x < a + 1 + n → used x ≡ (d == x)) → filter_map (run_if used run) (range_with_len (a + 1) n) ≡ run d ∷ []) →
        cons_option (if used a then Some (run a) else None) (filter_map (run_if used run) (range_with_len (a + 1) n)) ≡ run d ∷ []
    by (inl q) again =
        ap2 (λ (b : Bool) (rs : List Run). cons_option (if b then Some (run a) else None) rs) (h a (omega arith) (omega arith) ∙ is_that d a (sym q))
        (no_runs used run (a + 1) n (λ x v w. h x (omega (arith, v)) (omega (arith, w)) ∙ not_that d x (λ z. omega (arith, z, q, v))))
        ∙ ap (λ (x : ℕ). run x ∷ []) q
    by (inr z) again =
        ap (λ (b : Bool). cons_option (if b then Some (run a) else None) (filter_map (run_if used run) (range_with_len (a + 1) n))) (h a (omega arith) (omega arith) ∙ not_that d a z)
        ∙ again (omega (arith, l, z)) (omega (arith, u)) (λ x v w. h x (omega (arith, v)) (omega (arith, w)))

-- an entry that ends nobody frees no heap
pub no_heap_freed : (s : System) (e : Entry) (past : Past) → ended_by e ≡ None → filter_map (run_if (is_heap_freed e past) (heap_run s past)) (up_to (domains_made past)) ≡ []
unfolding ends_domain up_to
no_heap_freed s e past z =
    no_runs (is_heap_freed e past) (heap_run s past) 1 (domains_made past) (λ d l u.
    ap (λ (b : Bool). is_live past d && not b) (live_after e past d (record { low = l; high = omega (arith, u) }) ∙ ap (λ (x : Option (ℕ × Reason)). is_live past d && not (ends_domain x (Some d))) z ∙ and_true (is_live past d))
    ∙ neither (is_live past d))
  where
    neither : (b : Bool) → (b && not b) ≡ false
    neither true = refl
    neither false = refl

-- the end of a live domain frees its heap alone
pub one_heap_freed : (s : System) (e : Entry) (past : Past) (d : ℕ) (why : Reason) → ended_by e ≡ Some (d, why) → is_live past d ≡ true → filter_map (run_if (is_heap_freed e past) (heap_run s past)) (up_to (domains_made past)) ≡ heap_run s past d ∷ []
unfolding ends_domain is_number up_to
one_heap_freed s e past d why z v =
    filter_single_run (is_heap_freed e past) (heap_run s past) d 1 (domains_made past) (live_made past d v).low (omega (arith, (live_made past d v).high)) (λ x l u.
    ap (λ (b : Bool). is_live past x && not b) (live_after e past x (record { low = l; high = omega (arith, u) }) ∙ ap (λ (y : Option (ℕ × Reason)). is_live past x && not (ends_domain y (Some x))) z)
    ∙ only x (same_or_not x d))
  where
    gone : (b c : Bool) → b ≡ true → c ≡ true → (b && not (b && not c)) ≡ true
    gone b c p q = ap2 (λ (x y : Bool). x && not (x && not y)) p q

    stays : (b c : Bool) → c ≡ false → (b && not (b && not c)) ≡ false
    stays true c q = ap (λ (x : Bool). not (not x)) q
    stays false c q = refl

    only : (x : ℕ) → (x ≡ d) ⊎ (x ≢ d) → (is_live past x && not (is_live past x && not (x == d))) ≡ (d == x)
    only x (inl q) = gone (is_live past x) (x == d) (ap (is_live past) q ∙ v) (is_that x d q) ∙ sym (is_that d x (sym q))
    only x (inr q) = stays (is_live past x) (x == d) (not_that x d (λ w. q (sym w))) ∙ sym (not_that d x q)

-- ---- freed extents

map_runs : (f g : ℕ → Option Run) (a n : ℕ) → ((x : ℕ) → a ≤ x → x < a + n → f x ≡ g x) → filter_map f (range_with_len a n) ≡ filter_map g (range_with_len a n)
map_runs f g a zero h = refl
map_runs f g a (suc n) h = ap2 (λ (o : Option Run) (rs : List Run). cons_option o rs) (h a (omega arith) (omega arith)) (map_runs f g (a + 1) n (λ x l u. h x (omega (arith, l)) (omega (arith, u))))

-- the runs of the extents that an entry frees, by the extents' records before it and the parts and the objects' records after it
pub extents_freed_by_records : (s : System) (e : Entry) (past : Past) → IsAdmittedPast s (e ∷ past) →
    filter_map (run_if (is_extent_freed e past) (extent_run past)) (up_to (extents_made past))
    ≡ filter_map (λ x. if is_some (extent_record past x).bytes && not (in_use_by (objects_of (e ∷ past)) (object_records s (e ∷ past)) x) then Some (extent_record past x).run else None) (up_to (extents_made past))
unfolding run_if up_to extent_record
extents_freed_by_records s e past a =
    map_runs (run_if (is_extent_freed e past) (extent_run past)) (λ x. if is_some (extent_record past x).bytes && not (in_use_by (objects_of (e ∷ past)) (object_records s (e ∷ past)) x) then Some (extent_record past x).run else None) 1 (extents_made past)
    (λ x l u. ap2 (λ (b c : Bool). if b && not c then Some (extent_run past x) else None) (in_use_by_record past x) (in_use_by_records s (e ∷ past) x a))
