-- The thread in which an act may come, read off the records.
use Rattle.std.proofs.Common.{◌≡◌, refl, sym, ◌∙◌, ap, ℕ, suc, zero, ◌+◌, ◌≤◌, Bool, true, false, ◌&&◌, ◌||◌, List, [], ◌∷◌, length, map, Option, Some, None, arith, ◌==◌, if◌then◌else◌, ◌⊎◌, inl, inr, slice_get, ◌<◌, is_some}
use Rattle.std.specs.Prelude.{nat_le, nat_lt}
use Rattle.std.specs.List.{range_with_len}
use Rattle.std.proofs.lemmas.Bool.Decides.{nat_tests}
use Rattle.std.proofs.lemmas.List.FromFn.{length-map-range_with_len}
use Rattle.jx_base.specs.declared.act.Act.{Act}
use Rattle.jx_base.specs.declared.act.Act.TheVariants as act
use Rattle.jx_base.specs.declared.act.Entry.{Entry}
use Rattle.jx_base.specs.declared.states.ThreadState.{ThreadState}
use Rattle.jx_base.specs.declared.program.System.{System}
use Rattle.jx_base.specs.Basics.{up_to, numbered, passes, is_number}
use Rattle.jx_base.specs.Histories.{Past, count_where, nth_entry}
use Rattle.jx_model.specs.Journal.{words_of, entry_words, is_full}
use Rattle.jx_model.specs.Domains.{is_live}
use Rattle.jx_model.specs.Threads.{service_threads, thread_state, thread_where, threads_of, running_thread}
use Rattle.jx_model.specs.Portals.{owner_of, services_made, export_of, is_export}
use Rattle.jx_model.specs.Calls.{calls_made, service_of_call, server_of, queue_head, waiting_calls, asked_of, asked_by, call_entry}
use Rattle.jx_model.specs.Permits.{domain_thread, may_perform, choice_thread, taking_thread, resuming_thread, going_thread, idle_thread, is_idle_for, is_waiting_for, is_yielded, is_serving, is_head, is_over, is_ending, creates_made, is_create_entry, acting_thread, zero_may, zero_may_now, domains_wait, is_halt, next_boot, boot_templates, first_alive}
use Rattle.program_model.specs.Limits.{journal_limit, entry_limit}
use Rattle.jx_model.specs.Tables.{domain_records, ThreadRecord, thread_record, thread_records, CallRecord, call_record, call_records, ServiceRecord, service_record, service_records}
use Rattle.jx_base.proofs.BasicLaws.{ap2, ap3, at_most, beyond}
use Rattle.jx_base.proofs.NthEntries.{nth_passes, nth_there, nth_none}
use Rattle.table_threads.proofs.Records.{get_range, some_of, numbered_record, no_record}
use Rattle.table_threads.proofs.CallActs.{call_service_there}
use Rattle.table_reads.specs.TableReads.{lives_in, thread_in, head_in, owner_in, performs_by, choice_thread_by, domain_thread_by, zero_by, acting_by}
use Rattle.table_reads.proofs.ChoiceReads.{lives_by_records, thread_by_records, running_by_records, resumable_by_records, head_by_records, state_by_record, unmade_entry}
use Rattle.std.specs.Option.{option_and_then, option_map, unwrap_or}

-- ---- counters

-- whether the run is over after an entry
pub over_step : (e : Entry) (past : Past) → is_over (e ∷ past) ≡ (is_ending e.act || is_over past)
unfolding is_over
over_step e past = refl

-- the words of the journal after an entry
pub words_step : (e : Entry) (past : Past) → words_of (e ∷ past) ≡ words_of past + entry_words e
unfolding words_of
words_step e past = refl

-- the creates after an entry
pub creates_step : (e : Entry) (past : Past) → creates_made (e ∷ past) ≡ creates_made past + (if is_create_entry e then 1 else 0)
unfolding count_where
creates_step e past = refl

-- ---- reads of records

get_none : {A : Type 0} (xs : List A) (i : ℕ) → length xs ≤ i → slice_get xs i ≡ None
get_none [] i l = refl
get_none (x ∷ xs) zero l = absurd (omega (arith, l))
get_none (x ∷ xs) (suc i) l = get_none xs i (omega (arith, l))

no_state : (past : Past) (d t : ℕ) → length (service_threads past d) < t → thread_state past d t ≡ None
unfolding thread_state
no_state past d zero l = absurd (omega (arith, l))
no_state past d (suc t) l = ap (option_map _) (get_none (service_threads past d) t (omega (arith, l)))

-- the records say what a thread does, where the domain has it
pub state_by_records : (past : Past) (d t : ℕ) → thread_state past d t ≡ option_map (λ item. item.state) (slice_get (thread_records past d) t)
unfolding thread_records threads_of
state_by_records past d t = by (nat_le t (length (service_threads past d))) refl
  where
    by : (b : Bool) → nat_le t (length (service_threads past d)) ≡ b → thread_state past d t ≡ option_map (λ item. item.state) (slice_get (map (thread_record past d) (range_with_len 0 (length (service_threads past d) + 1))) t)
    by true q =
        let l = at_most t (length (service_threads past d)) q in
        state_by_record past d t l
        ∙ sym (ap (option_map (λ (item : ThreadRecord). item.state)) (get_range (thread_record past d) 0 (length (service_threads past d) + 1) t (omega (arith, l))) ∙ ap (λ (j : ℕ). Some (thread_record past d j).state) (omega arith))
    by false q =
        let l = beyond t (length (service_threads past d)) q in
        no_state past d t l
        ∙ sym (ap (option_map (λ (item : ThreadRecord). item.state)) (get_none (map (thread_record past d) (range_with_len 0 (length (service_threads past d) + 1))) t (omega (arith, l, length-map-range_with_len (thread_record past d) 0 (length (service_threads past d) + 1)))))

-- what a record gives by its number, where what isn't made gives nothing
pub by_number : {A B : Type 0} (f : ℕ → A) (g : A → B) (n c : ℕ) (o : Option B) → ((1 ≤ c) → c ≤ n → o ≡ Some (g (f c))) → ((c ≡ 0) ⊎ (n < c) → o ≡ None) → o ≡ option_map g (numbered (map f (up_to n)) c)
by_number f g n c o there none = by (nat_lt 0 c) refl (nat_le c n) refl
  where
    some : (c : ℕ) → nat_lt 0 c ≡ true → 1 ≤ c
    some c q = grind (arith, nat_tests)

    zeroth : (c : ℕ) → nat_lt 0 c ≡ false → c ≡ 0
    zeroth c q = grind (arith, nat_tests)

    by : (x : Bool) → nat_lt 0 c ≡ x → (y : Bool) → nat_le c n ≡ y → o ≡ option_map g (numbered (map f (up_to n)) c)
    by false q y r = none (inl (zeroth c q)) ∙ sym (ap (option_map g) (no_record f n c (inl (zeroth c q))))
    by true q false r = none (inr (beyond c n r)) ∙ sym (ap (option_map g) (no_record f n c (inr (beyond c n r))))
    by true q true r = there (some c q) (at_most c n r) ∙ sym (ap (option_map g) (numbered_record f n c (some c q) (at_most c n r)))

-- the records say a call's service
pub service_by_records : (past : Past) (c : ℕ) → service_of_call past c ≡ option_map (λ item. item.service) (numbered (call_records past) c)
unfolding call_records call_record service_of_call asked_of call_entry
service_by_records past c =
    by_number (call_record past) (λ (item : CallRecord). item.service) (calls_made past) c (service_of_call past c) (λ l u. call_service_there past c l u)
    (λ h. ap (λ (o : Option Entry). option_map (λ a. a.service.0) (option_and_then (λ e. asked_by e.act) o)) (unmade_entry past c h))

-- a service that isn't made has no export
pub no_export : (past : Past) (k : ℕ) → (k ≡ 0) ⊎ (services_made past < k) → export_of past k ≡ None
unfolding export_of
no_export past k (inr l) = nth_none is_export past k l
no_export past k (inl q) = by (nth_entry is_export past k) refl
  where
    by : (o : Option Entry) → nth_entry is_export past k ≡ o → o ≡ None
    by None z = refl
    by (Some x) z = absurd (omega (arith, (nth_passes is_export past k x z).1, q))

-- the records say a service's owner
pub owner_by_records : (s : System) (past : Past) (k : ℕ) → owner_of past k ≡ option_map (λ item. item.owner) (numbered (service_records s past) k)
unfolding service_records service_record owner_of export_of
owner_by_records s past k =
    by_number (service_record s past) (λ (item : ServiceRecord). item.owner) (services_made past) k (owner_of past k) (λ l u. there (some_of (nth_entry is_export past k) (nth_there is_export past k l u)))
    (λ h. ap (option_map (λ (e : Entry). e.domain.0)) (no_export past k h))
  where
    there : (x : Entry) × (nth_entry is_export past k ≡ Some x) → owner_of past k ≡ Some (unwrap_or (owner_of past k) 0)
    there x = let q : option_map (λ (e : Entry). e.domain.0) (nth_entry is_export past k) ≡ Some x.0.domain.0 = ap (option_map (λ (e : Entry). e.domain.0)) x.1 in q ∙ ap (λ (o : Option ℕ). Some (unwrap_or o 0)) (sym q)

-- ---- the thread of an act

-- the records say whether it may
pub performs_by_records : (past : Past) (d t : ℕ) (a : Act) → may_perform past d t a ≡ performs_by (thread_records past d) t a
unfolding may_perform
performs_by_records past d t (act.Return c p) = ap (passes (is_serving c.0)) (state_by_records past d t)
performs_by_records past d t (act.Throw c p) = ap (passes (is_serving c.0)) (state_by_records past d t)
performs_by_records past d t _ = refl

then_same : (o : Option ℕ) (f g : ℕ → Option ℕ) → ((k : ℕ) → f k ≡ g k) → option_and_then f o ≡ option_and_then g o
then_same None f g h = refl
then_same (Some k) f g h = h k

-- the records say which thread that is
pub choice_thread_by_records : (s : System) (past : Past) (d : ℕ) (a : Act) →
    choice_thread past d a ≡ choice_thread_by (domain_records s past) (thread_records past d) (service_records s past) (call_records past) (waiting_calls past) d a
unfolding choice_thread taking_thread is_head server_of resuming_thread going_thread idle_thread
choice_thread_by_records s past d (act.Take c) =
    ap3 (λ (x y z : Option ℕ). if is_number x d && is_number y c.0 then z else None)
    (then_same (service_of_call past c.0) (owner_of past) (owner_in (service_records s past)) (owner_by_records s past) ∙ ap (λ (o : Option ℕ). option_and_then (owner_in (service_records s past)) o) (service_by_records past c.0))
    (then_same (service_of_call past c.0) (queue_head past) (head_in (call_records past) (waiting_calls past)) (head_by_records past) ∙ ap (λ (o : Option ℕ). option_and_then (head_in (call_records past) (waiting_calls past)) o) (service_by_records past c.0))
    (then_same (service_of_call past c.0) (λ k. thread_where past d (is_idle_for k)) (λ k. thread_in (thread_records past d) (is_idle_for k)) (λ k. thread_by_records past d (is_idle_for k))
    ∙ ap (λ (o : Option ℕ). option_and_then (λ k. thread_in (thread_records past d) (is_idle_for k)) o) (service_by_records past c.0))
choice_thread_by_records s past d (act.Resume c) = ap2 (λ (b : Bool) (o : Option ℕ). if b then o else None) (resumable_by_records s past c.0) (thread_by_records past d (is_waiting_for c.0))
choice_thread_by_records s past d (act.Go t) = ap (λ (o : Option ThreadState). if passes is_yielded o then Some t.0 else None) (state_by_records past d t.0)
choice_thread_by_records s past d _ = refl

-- the records say in which thread a domain's act may come
pub domain_thread_by_records : (s : System) (past : Past) (d : ℕ) (a : Act) →
    domain_thread past d a ≡ domain_thread_by (domain_records s past) (thread_records past d) (service_records s past) (call_records past) (waiting_calls past) d a
unfolding domain_thread
domain_thread_by_records s past d a =
    by (running_thread past d)
    ∙ ap (λ (o : Option ℕ). elim o as (λ _. Option ℕ) [
      | Some t ↦ if performs_by (thread_records past d) t a then Some t else None
      | None ↦ if lives_in (domain_records s past) d then choice_thread_by (domain_records s past) (thread_records past d) (service_records s past) (call_records past) (waiting_calls past) d a else None
    ]) (running_by_records s past d)
  where
    by : (o : Option ℕ) →
        (elim o as (λ _. Option ℕ) [ Some t ↦ if may_perform past d t a then Some t else None | None ↦ if is_live past d then choice_thread past d a else None ])
        ≡ (elim o as (λ _. Option ℕ) [
          | Some t ↦ if performs_by (thread_records past d) t a then Some t else None
          | None ↦ if lives_in (domain_records s past) d then choice_thread_by (domain_records s past) (thread_records past d) (service_records s past) (call_records past) (waiting_calls past) d a else None
        ])
    by (Some t) = ap (λ (b : Bool). if b then Some t else None) (performs_by_records past d t a)
    by None = ap2 (λ (b : Bool) (o : Option ℕ). if b then o else None) (lives_by_records s past d) (choice_thread_by_records s past d a)

-- ---- the thread of any act

zero_is : (s : System) (past : Past) (a : Act) → zero_may s past a ≡ zero_by (next_boot s past) (first_alive past) a
unfolding zero_may
zero_is s past (act.Create t) = refl
zero_is s past act.Quiet = refl
zero_is s past _ = refl

-- these say in which thread an act may come
pub acting_by_counters : (s : System) (past : Past) (d : ℕ) (a : Act) → acting_thread s past d a ≡ acting_by s (is_over past) (words_of past) (creates_made past) (first_alive past) (domain_thread past d a) d a
unfolding acting_thread zero_may_now domains_wait is_full next_boot
acting_by_counters s past d a =
    ap (λ (b : Bool).
    if is_over past then None
    else if d == 0 then (if (if nat_lt (journal_limit s) (words_of past + entry_limit s) then is_halt a else b) then Some 0 else None)
    else if nat_lt (journal_limit s) (words_of past + entry_limit s) || is_some (slice_get (boot_templates s) (creates_made past)) then None else domain_thread past d a) (zero_is s past a)
