-- Which services a domain exported, and the calls to them that are answered when it ends.
use Rattle.std.proofs.Common.{◌≡◌, ◌≢◌, refl, sym, ◌∙◌, ap, ℕ, suc, zero, ◌+◌, ◌-◌, ◌<◌, ◌≤◌, Bool, true, false, ◌&&◌, ◌||◌, List, length, map, Option, Some, None, arith, inl, inr, if◌then◌else◌}
use Rattle.std.specs.Prelude.{nat_lt}
use Rattle.std.specs.Option.{option_map}
use Rattle.std.proofs.lemmas.Bool.Decides.{nat_tests}
use Rattle.std.proofs.lemmas.List.{length-map}
use Rattle.std.proofs.lemmas.Option.{slice_get-map}
use Rattle.std.proofs.lemmas.Simd.{map-map}
use Rattle.std.proofs.lemmas.List.{map-id}
use Rattle.table_threads.proofs.Numbered.{numbered_at}
use Rattle.table_threads.proofs.Records.{not_that, records_length}
use Rattle.jx_base.specs.declared.states.AnswerKind.TheVariants as kind
use Rattle.jx_base.specs.declared.states.CallState.TheVariants as call
use Rattle.jx_base.specs.Basics.{is_number, numbered}
use Rattle.jx_base.specs.declared.program.System.{System}
use Rattle.jx_model.proofs.SmallNumbers.{services_few}
use Rattle.jx_model.specs.Portals.{services_made}
use Rattle.jx_model.specs.Tables.{ServiceRecord, service_record, service_records}
use Rattle.call_table.specs.CallLists.{ended_for, in_state, is_pending_for, is_queued_call, is_running_call}
use Rattle.call_table.specs.declared.calls.Call.{Call}
use Rattle.portal_table.specs.ServiceLists.{without_holder}
use Rattle.table_steps.specs.Steps.{owns}
use Rattle.nucleus_domains.specs.Ends.{lost_call}
use Rattle.nucleus_tables.specs.Inner.{IsOf, past_in}
use Rattle.nucleus_tables.specs.declared.tables.Tables.{Tables}
use Rattle.nucleus_tables.proofs.MappedLists.{map_same}
use Rattle.nucleus_tables.proofs.Owners.{owns_no}

-- ---- calls

-- a call to one of the services below that number that the domain exported is answered
abbrev pub lost_below : List ServiceRecord → ℕ → ℕ → Call → Call
lost_below services d n c = if nat_lt c.service.0 n then lost_call services d c else c

-- a call of another service stays
other_stays : (n : ℕ) (c : Call) → c.service.0 ≢ n → ended_for n c ≡ c
other_stays n c h =
    ap (λ (b : Bool). if (b && is_queued_call c.state) || (b && is_running_call c.state) then in_state (call.Answered kind.Ended) c else c) (not_that c.service.0 n (λ (z : n ≡ c.service.0). h (sym z)))

-- a call that is answered is of the same service
service_stays : (services : List ServiceRecord) (d : ℕ) (c : Call) → (lost_call services d c).service.0 ≡ c.service.0
service_stays services d c = by (owns services d c.service.0) (is_pending_for c.service.0 c)
  where
    by : (a b : Bool) → (let z : Call = if a then (if b then in_state (call.Answered kind.Ended) c else c) else c in z.service.0) ≡ c.service.0
    by true true = refl
    by true false = refl
    by false b = refl

-- where a number stands
data Place (k n : ℕ) : Type 0 where
  Below : nat_lt k n ≡ true → nat_lt k (n + 1) ≡ true → k ≢ n → Place k n
  At : nat_lt k n ≡ false → nat_lt k (n + 1) ≡ true → k ≡ n → Place k n
  Above : nat_lt k n ≡ false → nat_lt k (n + 1) ≡ false → k ≢ n → Place k n

place : (k n : ℕ) → Place k n
place k n = by (nat_lt k n) (nat_lt k (n + 1)) refl refl
  where
    by : (a b : Bool) → nat_lt k n ≡ a → nat_lt k (n + 1) ≡ b → Place k n
    by true true p q = Below p q (grind (arith, nat_tests))
    by false true p q = At p q (grind (arith, nat_tests))
    by false false p q = Above p q (grind (arith, nat_tests))
    by true false p q = absurd (grind (arith, nat_tests))

-- ---- one number more

module _ (services : List ServiceRecord) (d n : ℕ) (c : Call) where
  below_is : (m : ℕ) (b : Bool) → nat_lt c.service.0 m ≡ b → lost_below services d m c ≡ (if b then lost_call services d c else c)
  below_is m b q = ap (λ (b : Bool). if b then lost_call services d c else c) q

  lost_next : owns services d n ≡ true → ended_for n (lost_below services d n c) ≡ lost_below services d (n + 1) c
  lost_next q = by (place c.service.0 n)
    where
      by : Place c.service.0 n → ended_for n (lost_below services d n c) ≡ lost_below services d (n + 1) c
      by (Below l m e) =
          ap (ended_for n) (below_is n true l)
          ∙ other_stays n (lost_call services d c) (λ (z : (lost_call services d c).service.0 ≡ n). e (sym (service_stays services d c) ∙ z))
          ∙ sym (below_is (n + 1) true m)
      by (At l m e) =
          ap (ended_for n) (below_is n false l)
          ∙ ap (λ (k : ℕ). ended_for k c) (sym e)
          ∙ ap (λ (b : Bool). if b then ended_for c.service.0 c else c) (sym (ap (owns services d) e ∙ q))
          ∙ sym (below_is (n + 1) true m)
      by (Above l m e) = ap (ended_for n) (below_is n false l) ∙ other_stays n c e ∙ sym (below_is (n + 1) false m)

  lost_skipped : owns services d n ≡ false → lost_below services d n c ≡ lost_below services d (n + 1) c
  lost_skipped q = by (place c.service.0 n)
    where
      by : Place c.service.0 n → lost_below services d n c ≡ lost_below services d (n + 1) c
      by (Below l m e) = below_is n true l ∙ sym (below_is (n + 1) true m)
      by (At l m e) =
          below_is n false l
          ∙ ap (λ (b : Bool). if b then ended_for c.service.0 c else c) (sym (ap (owns services d) e ∙ q))
          ∙ sym (below_is (n + 1) true m)
      by (Above l m e) = below_is n false l ∙ sym (below_is (n + 1) false m)

-- ---- all calls

-- below service 1 there is none
pub lost_none : (services : List ServiceRecord) (d : ℕ) (calls : List Call) → map (lost_below services d 1) calls ≡ calls
lost_none services d calls = map_same (lost_below services d 1) (λ c. c) calls stays ∙ map-id calls
  where
    stays : (c : Call) → lost_below services d 1 c ≡ c
    stays c = by (nat_lt c.service.0 1) refl
      where
        by : (b : Bool) → nat_lt c.service.0 1 ≡ b → (if b then lost_call services d c else c) ≡ c
        by true q = ap (λ (b : Bool). if b then ended_for c.service.0 c else c) (owns_no services d c.service.0 (inl (grind (arith, nat_tests))))
        by false q = refl

-- and behind the last there is none
pub lost_all : (services : List ServiceRecord) (d : ℕ) (calls : List Call) → length services ≤ 256 → map (lost_below services d 257) calls ≡ map (lost_call services d) calls
lost_all services d calls few = map_same (lost_below services d 257) (lost_call services d) calls stays
  where
    stays : (c : Call) → lost_below services d 257 c ≡ lost_call services d c
    stays c = by (nat_lt c.service.0 257) refl
      where
        far : nat_lt c.service.0 257 ≡ false → length services < c.service.0
        far q = grind (arith, nat_tests)

        by : (b : Bool) → nat_lt c.service.0 257 ≡ b → (if b then lost_call services d c else c) ≡ lost_call services d c
        by true q = refl
        by false q = ap (λ (b : Bool). if b then ended_for c.service.0 c else c) (sym (owns_no services d c.service.0 (inr (far q))))

-- the calls to a service of the domain are answered next
pub lost_more : (services : List ServiceRecord) (d n : ℕ) (calls : List Call) → owns services d n ≡ true → map (ended_for n) (map (lost_below services d n) calls) ≡ map (lost_below services d (n + 1)) calls
lost_more services d n calls q =
    map-map (ended_for n) (lost_below services d n) calls
    ∙ map_same (λ (c : Call). ended_for n (lost_below services d n c)) (lost_below services d (n + 1)) calls (λ (c : Call). lost_next services d n c q)

-- those to one of another are not
pub lost_same : (services : List ServiceRecord) (d n : ℕ) (calls : List Call) → owns services d n ≡ false → map (lost_below services d n) calls ≡ map (lost_below services d (n + 1)) calls
lost_same services d n calls q = map_same (lost_below services d n) (lost_below services d (n + 1)) calls (λ (c : Call). lost_skipped services d n c q)

-- ---- the end of the domain

-- who owns a service doesn't change by who holds it
owned_after : (services : List ServiceRecord) (d k : ℕ) → owns (map (without_holder d) services) d k ≡ owns services d k
unfolding is_number
owned_after services d k = by k
  where
    inside : (o : Option ServiceRecord) → is_number (option_map (λ item. item.owner) (option_map (without_holder d) o)) d ≡ is_number (option_map (λ item. item.owner) o) d
    inside None = refl
    inside (Some s) = refl

    by : (k : ℕ) → owns (map (without_holder d) services) d k ≡ owns services d k
    by zero = owns_no (map (without_holder d) services) d 0 (inl refl) ∙ sym (owns_no services d 0 (inl refl))
    by (suc i) =
        ap (λ (o : Option ServiceRecord). is_number (option_map (λ item. item.owner) o) d)
        (numbered_at (map (without_holder d) services) (suc i) i (omega arith) (omega arith)
        ∙ slice_get-map (without_holder d) services i
        ∙ ap (option_map (without_holder d)) (sym (numbered_at services (suc i) i (omega arith) (omega arith))))
        ∙ inside (numbered services (suc i))

-- so the same calls are answered
pub lost_after : (services : List ServiceRecord) (d : ℕ) (calls : List Call) → map (lost_call (map (without_holder d) services) d) calls ≡ map (lost_call services d) calls
lost_after services d calls =
    map_same (lost_call (map (without_holder d) services) d) (lost_call services d) calls
    (λ (c : Call). ap (λ (b : Bool). if b then ended_for c.service.0 c else c) (owned_after services d c.service.0))

-- there are 256 services at most
pub few_services : (s : System) (x : Tables) (d : ℕ) → IsOf s x → length (map (without_holder d) x.services.services) ≤ 256
unfolding service_records
few_services s x d h =
    omega (arith, length-map x.services.services (without_holder d), services_few s (past_in x) h.stands.admitted, count)
  where
    count : length x.services.services ≡ services_made (past_in x)
    count = ap (λ (items : List ServiceRecord). length items) h.stands.services ∙ records_length (service_record s (past_in x)) (services_made (past_in x))
