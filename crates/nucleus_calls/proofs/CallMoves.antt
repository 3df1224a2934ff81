-- What an act on calls does to its thread, and what the tables of calls are after it.
use Rattle.std.proofs.Common.{◌≡◌, refl, sym, ◌∙◌, ap, subst, ℕ, suc, zero, ◌+◌, ◌-◌, ◌*◌, ◌<◌, ◌≤◌, Bool, true, false, ◌||◌, List, [], ◌∷◌, length, Option, Some, None, is_some, arith, slice_get, ◌⊎◌, inl, inr}
use Rattle.std.specs.Prelude.{IsSome, IsSomeAnd}
use Rattle.std.specs.Option.{option_map}
use Rattle.std.proofs.lemmas.List.{length-map}
use Rattle.jx_base.specs.declared.act.Act.{Act}
use Rattle.jx_base.specs.declared.ids.CallId.{CallId}
use Rattle.jx_base.specs.declared.ids.ServiceId.{ServiceId}
use Rattle.jx_base.specs.declared.program.System.{System}
use Rattle.jx_base.specs.declared.states.CallState.TheVariants as call
use Rattle.jx_base.specs.declared.states.ThreadState.TheVariants as thread
use Rattle.jx_base.specs.Basics.{numbered, passes}
use Rattle.jx_base.specs.Histories.{Past, count_where}
use Rattle.jx_base.proofs.NthEntries.{count_new, count_same}
use Rattle.jx_model.proofs.Acting.{acting_within}
use Rattle.jx_model.proofs.Serving.{last_serves, running_serves}
use Rattle.jx_model.specs.Calls.{calls_made, is_call}
use Rattle.jx_model.specs.Journal.{entry_words, is_full, words_of}
use Rattle.jx_model.specs.Permits.{is_halt, is_serving, zero_may}
use Rattle.jx_model.specs.Tables.{Kept, ObjectRecord, StandsFor, ThreadRecord, call_record, call_records, service_of_thread}
use Rattle.jx_model.specs.Threads.{last_of_thread, serving_state, served_call, service_threads, state_by_last, thread_state}
use Rattle.call_table.specs.CallLists.{IsPending, is_queued_call, is_running_call}
use Rattle.call_table.specs.declared.calls.Call.{Call}
use Rattle.domain_table.specs.DomainLists as Lists
use Rattle.nucleus_tables.proofs.CallReads.{call_is}
use Rattle.nucleus_tables.proofs.FirstSome.{get_there}
use Rattle.nucleus_tables.proofs.NumberedPlaces.{numbered_stands}
use Rattle.nucleus_tables.proofs.Room.{goes_on, room_left}
use Rattle.nucleus_tables.proofs.ThreadsMoved.{thread_there}
use Rattle.nucleus_calls.specs.CallActs.{next_call}
use Rattle.nucleus_tables.specs.CallTables.{call_of, places_of}
use Rattle.nucleus_tables.specs.Inner.{IsOf, IsPermittedIn, past_in}
use Rattle.nucleus_tables.specs.declared.places.CallPlaces.{CallPlaces}
use Rattle.nucleus_tables.specs.declared.tables.Tables.{Tables}
use Rattle.program_model.specs.Limits.{entry_limit, journal_limit}
use Rattle.table_threads.proofs.Actors.{acts_live, live_made}
use Rattle.table_threads.proofs.CallStages.{StandsAt}
use Rattle.table_threads.proofs.Numbered.{numbered_place}
use Rattle.table_threads.proofs.Records.{numbered_record, records_length}

-- ---- the thread that acts

-- it is there
pub acting_there : (s : System) (x : Tables) (d t : ℕ) (a : Act) → IsPermittedIn s x d t a → is_halt a ≡ false → zero_may s (past_in x) a ≡ false → Lists.HasThread x.domains d t
acting_there s x d t a h n z =
    ap is_some (thread_there s x d t h.tables (live_made (past_in x) d (acts_live s (past_in x) d t a n z h.thread)) (acting_within s (past_in x) d t a h.thread))

-- a thread that serves a call has a service
pub server_serves : (past : Past) (d t c : ℕ) → passes (is_serving c) (thread_state past d t) ≡ true → is_some (service_of_thread past d t) ≡ true
unfolding thread_state passes
server_serves past d zero c q = running_serves c (last_serves c thread.Running (last_of_thread past d 0) q)
server_serves past d (suc i) c q = by (slice_get (service_threads past d) i) q
  where
    by : (o : Option ServiceId) → passes (is_serving c) (option_map (λ s. state_by_last (serving_state s (served_call past d (suc i))) (last_of_thread past d (suc i))) o) ≡ true → is_some o ≡ true
    by None q = cc
    by (Some s) q = refl

-- ---- no objects

-- ---- the tables of calls

-- what is kept, of which the threads and the objects are told otherwise
pub kept_alike : (s : System) (k : Kept) (threads others : List (List ThreadRecord)) (objects rest : List ObjectRecord) → threads ≡ others → objects ≡ rest → StandsFor s (record k { threads = threads; objects = objects }) →
    StandsFor s (record k { threads = others; objects = rest })
kept_alike s k threads others objects rest p q h =
    subst (λ (z : List ObjectRecord). StandsFor s (record k { threads = others; objects = z })) q
    (subst (λ (z : List (List ThreadRecord)). StandsFor s (record k { threads = z; objects = objects })) p h)

module _ (s : System) (x : Tables) (h : IsOf s x) where
  -- as many calls as were made
  pub calls_count : length x.calls.calls ≡ calls_made (past_in x)
  unfolding call_records
  calls_count =
      ap (λ (items : List Call). length items) h.calls.calls_are ∙ length-map (call_records (past_in x)) call_of
      ∙ records_length (call_record (past_in x)) (calls_made (past_in x))

  -- and as many places
  pub places_count : length x.places.places ≡ length x.calls.calls
  places_count =
      ap (λ (items : List CallPlaces). length items) h.calls.places_are ∙ length-map (call_records (past_in x)) places_of
      ∙ sym (length-map (call_records (past_in x)) call_of) ∙ ap (λ (items : List Call). length items) (sym h.calls.calls_are)

  -- what the table has of a call that was made
  pub call_there : (c : ℕ) → 1 ≤ c → c ≤ calls_made (past_in x) → numbered x.calls.calls c ≡ Some (call_of (call_record (past_in x) c))
  unfolding call_records
  call_there c l u = call_is s x h c ∙ ap (option_map call_of) (numbered_record (call_record (past_in x)) (calls_made (past_in x)) c l u)

  -- one that runs waits for its answer
  pub runs_pending : (c : ℕ) → StandsAt (past_in x) c call.Running → IsPending x.calls c
  unfolding call_record
  runs_pending c r = by (numbered x.calls.calls c) (call_there c r.low r.high)
    where
      by : (o : Option Call) → o ≡ Some (call_of (call_record (past_in x) c)) → IsSomeAnd o (λ k. (is_queued_call k.state || is_running_call k.state) ≡ true)
      by None q = cc
      by (Some k) q = ap (λ (o : Option Call). state_pends o) q ∙ ap (λ z. is_queued_call z || is_running_call z) r.state
        where
          state_pends : Option Call → Bool
          state_pends None = false
          state_pends (Some k) = is_queued_call k.state || is_running_call k.state

-- each call costs 8 words at least
pub calls_cost : (past : Past) → 8 * calls_made past ≤ words_of past
unfolding words_of entry_words count_where
calls_cost [] = omega arith
calls_cost (e ∷ past) = by (is_call e) refl (calls_cost past)
  where
    by : (b : Bool) → is_call e ≡ b → 8 * calls_made past ≤ words_of past → 8 * calls_made (e ∷ past) ≤ words_of (e ∷ past)
    by true q again = omega (arith, again, count_new is_call e past q)
    by false q again = omega (arith, again, count_same is_call e past q)

-- so there is room for one more where the journal isn't full
pub call_fits : (s : System) (x : Tables) (d t : ℕ) (a : Act) → IsPermittedIn s x d t a → is_halt a ≡ false → length x.calls.calls < x.calls.limit
unfolding is_full entry_limit
call_fits s x d t a h n = by (goes_on s (past_in x) d t a h.thread).room
  where
    by : (is_full s (past_in x) ≡ false) ⊎ (is_halt a ≡ true) → length x.calls.calls < x.calls.limit
    by (inl q) =
        let room = room_left (words_of (past_in x)) (journal_limit s) q in
        let cost = calls_cost (past_in x) in
        let count = calls_count s x h.tables in
        let limit = h.tables.call_room in
        omega (arith, room, cost, count, limit)
    by (inr q) = cc

-- the number of the next call
pub next_is : (s : System) (x : Tables) → IsOf s x → next_call x ≡ record { 0 = calls_made (past_in x) + 1 }
next_is s x h = ap (λ (n : ℕ). let c : CallId = record { 0 = n + 1 } in c) (calls_count s x h)

-- a call that waits for its answer has places
pub places_there : (x : Tables) (c : ℕ) → IsPending x.calls c → length x.places.places ≡ length x.calls.calls → IsSome (numbered x.places.places c)
places_there x c p q =
    let there = numbered_stands x.calls.calls c (by (numbered x.calls.calls c) p) in
    ap is_some (numbered_place x.places.places c there.0) ∙ get_there x.places.places (c - 1) (omega (arith, there.1, q))
  where
    by : (o : Option Call) → IsSomeAnd o (λ k. (is_queued_call k.state || is_running_call k.state) ≡ true) → is_some o ≡ true
    by None p = absurd p
    by (Some k) p = refl
