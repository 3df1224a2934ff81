-- What the table of domains says is what the past says: who lives, who runs, who has yielded, and who can act.
use Rattle.std.proofs.Common.{◌≡◌, refl, sym, ◌∙◌, ap, ℕ, suc, zero, ◌+◌, Bool, true, false, not, cond, ◌&&◌, ◌||◌, List, [], ◌∷◌, length, Option, Some, None, is_some, is_none, arith, ltb, ◌<◌, if◌then◌else◌, ◌⊎◌, inl, inr, slice_get}
use Rattle.std.specs.List.{position, position_or_len}
use Rattle.std.specs.Prelude.{nat_le, nat_lt}
use borrow.Author.Tests.{tests}
use Rattle.std.proofs.lemmas.Bool.Decides.{nat_tests}
use Rattle.std.specs.Option.{option_and_then, option_map}
use Rattle.jx_base.specs.declared.act.Reason.{Reason}
use Rattle.jx_base.specs.declared.ids.ThreadId.{ThreadId}
use Rattle.jx_base.specs.declared.program.System.{System}
use Rattle.jx_base.specs.declared.states.DomainState.{DomainState}
use Rattle.jx_base.specs.declared.states.ThreadState.{ThreadState}
use Rattle.jx_base.specs.Basics.{numbered}
use Rattle.jx_base.proofs.BasicLaws.{ap2}
use Rattle.jx_model.proofs.Serving.{not_ended_yet}
use Rattle.jx_model.specs.Domains.{domains_made, end_reason, is_live, is_made}
use Rattle.jx_model.specs.Permits.{can_act, first_choice, first_of_choices}
use Rattle.jx_model.specs.Tables.{ThreadRecord, domain_record, domain_records, thread_records}
use Rattle.jx_model.specs.Threads.{is_running_state, running_thread, thread_state, thread_where}
use Rattle.domain_flags.specs.FlagLists.{IsDomain}
use Rattle.domain_table.specs.DomainLists as Lists
use Rattle.program_model.specs.Limits.{domain_limit}
use Rattle.table_reads.proofs.ActingReads.{state_by_records}
use Rattle.table_reads.proofs.ChoiceReads.{thread_by_records}
use Rattle.table_reads.specs.TableReads as Reads
use Rattle.table_threads.proofs.Actors.{IsMade, domains_fit, live_by_reason, live_made, made_is}
use Rattle.table_threads.proofs.Records.{no_record, numbered_record, records_length}
use Rattle.nucleus_tables.specs.Inner.{IsOf, past_in}
use Rattle.nucleus_tables.specs.declared.tables.Tables.{Tables}

-- ---- the first place that passes

-- counted from any number
pub place_is : {A : Type 0} (p : A → Bool) (a : ℕ) (xs : List A) → Reads.place_from p a xs ≡ cond (ltb (position_or_len p xs) (length xs)) (Some (a + position_or_len p xs)) None
place_is p a [] = refl
place_is {A} p a (x ∷ xs) = by (p x) (place_is p (a + 1) xs)
  where
    by : (b : Bool) → Reads.place_from p (a + 1) xs ≡ cond (ltb (position_or_len p xs) (length xs)) (Some (a + 1 + position_or_len p xs)) None
        → (elim b as (λ _. Option ℕ) [ true ↦ Some a | false ↦ Reads.place_from p (a + 1) xs ]) ≡ cond (ltb (cond (not b) (1 + position_or_len p xs) 0) (suc (length xs))) (Some (a + cond (not b) (1 + position_or_len p xs) 0)) None
    by true rest = grind (arith, tests)
    by false rest = grind (arith, tests, rest)

-- counted from 0
pub position_is : {A : Type 0} (p : A → Bool) (xs : List A) → position p xs ≡ Reads.place_from p 0 xs
position_is p xs = grind (arith, place_is p 0 xs)

-- a number is there exactly where the thread is
pub mapped_some : (o : Option ThreadId) → is_some (option_map (λ t. t.0) o) ≡ is_some o
mapped_some None = refl
mapped_some (Some t) = refl

-- ---- domains

-- as many as were made
pub made_count : (s : System) (x : Tables) → IsOf s x → length x.domains.domains ≡ domains_made (past_in x)
unfolding domain_records
made_count s x h = ap (λ (items : List DomainState). length items) h.stands.domains ∙ records_length (domain_record s (past_in x)) (domains_made (past_in x))

-- a live domain has one of the numbers that flags are kept for
pub live_numbered : (s : System) (x : Tables) (d : ℕ) → IsOf s x → is_live (past_in x) d ≡ true → IsDomain d
unfolding domain_limit
live_numbered s x d h l =
    let m = live_made (past_in x) d l in (m.low, omega (arith, m.high, domains_fit s (past_in x) h.stands.admitted))

module _ (s : System) (x : Tables) (h : IsOf s x) (d : ℕ) where
  -- a domain that was made has its record
  pub domain_there : IsMade (past_in x) d → numbered x.domains.domains d ≡ Some (domain_record s (past_in x) d)
  unfolding domain_records
  domain_there m = ap (λ (items : List DomainState). numbered items d) h.stands.domains ∙ numbered_record (domain_record s (past_in x)) (domains_made (past_in x)) d m.low m.high

  -- and its threads
  pub threads_there : IsMade (past_in x) d → numbered x.domains.threads d ≡ Some (thread_records (past_in x) d)
  threads_there m = ap (λ (items : List (List ThreadRecord)). numbered items d) h.stands.threads ∙ numbered_record (thread_records (past_in x)) (domains_made (past_in x)) d m.low m.high

  -- one that wasn't made has neither
  unmade : is_made (past_in x) d ≡ false → (d ≡ 0) ⊎ (domains_made (past_in x) < d)
  unfolding is_made
  unmade q = by d (domains_made (past_in x)) q
    where
      by : (d n : ℕ) → (nat_lt 0 d && nat_le d n) ≡ false → (d ≡ 0) ⊎ (n < d)
      by zero n q = inl refl
      by (suc d) n q = inr (grind (arith, nat_tests))

  pub no_domain : is_made (past_in x) d ≡ false → numbered x.domains.domains d ≡ None
  unfolding domain_records
  no_domain q = ap (λ (items : List DomainState). numbered items d) h.stands.domains ∙ no_record (domain_record s (past_in x)) (domains_made (past_in x)) d (unmade q)

  -- what the table has of a domain
  pub ended_is : (item : DomainState) → numbered x.domains.domains d ≡ Some item → IsMade (past_in x) d × (item.ended ≡ end_reason (past_in x) d)
  unfolding domain_record
  ended_is item q = by (is_made (past_in x) d) refl
    where
      by : (b : Bool) → is_made (past_in x) d ≡ b → IsMade (past_in x) d × (item.ended ≡ end_reason (past_in x) d)
      by true m =
          let z : Some item ≡ Some (domain_record s (past_in x) d) = sym q ∙ domain_there (made_is (past_in x) d m) in
          (made_is (past_in x) d m, let e : item ≡ domain_record s (past_in x) d = cc in ap (λ (i : DomainState). i.ended) e)
      by false m = let z : Some item ≡ None = sym q ∙ no_domain m in cc

  -- one that has not ended lives
  pub lives : (item : DomainState) → numbered x.domains.domains d ≡ Some item → item.ended ≡ None → is_live (past_in x) d ≡ true
  lives item q n = live_by_reason (past_in x) d (ended_is item q).0 ∙ ap is_none (sym (ended_is item q).1 ∙ n)

  -- one that the table doesn't have was not made
  pub not_made : numbered x.domains.domains d ≡ None → is_made (past_in x) d ≡ false
  not_made q = by (is_made (past_in x) d) refl
    where
      by : (b : Bool) → is_made (past_in x) d ≡ b → b ≡ false
      by false m = refl
      by true m = let z : None ≡ Some (domain_record s (past_in x) d) = sym q ∙ domain_there (made_is (past_in x) d m) in cc

  -- the threads of a live domain, by the table
  pub live_threads : is_live (past_in x) d ≡ true → Lists.live_threads_in x.domains d ≡ Some (thread_records (past_in x) d)
  unfolding domain_record
  live_threads l =
      let m = live_made (past_in x) d l in
      ap (option_and_then (λ (z : DomainState). Lists.of_live z.ended (numbered x.domains.threads d))) (domain_there m)
      ∙ ap2 (λ (r : Option Reason) (o : Option (List ThreadRecord)). Lists.of_live r o) (not_ended_yet (past_in x) d l) (threads_there m)

  -- one that doesn't live has none
  pub no_live_threads : is_live (past_in x) d ≡ false → Lists.live_threads_in x.domains d ≡ None
  unfolding is_live domain_record
  no_live_threads q = by (is_made (past_in x) d) refl (end_reason (past_in x) d) refl q
    where
      by : (b : Bool) → is_made (past_in x) d ≡ b → (o : Option Reason) → end_reason (past_in x) d ≡ o → (b && is_none o) ≡ false → Lists.live_threads_in x.domains d ≡ None
      by true m None e q = cc
      by true m (Some r) e q =
          ap (option_and_then (λ (z : DomainState). Lists.of_live z.ended (numbered x.domains.threads d))) (domain_there (made_is (past_in x) d m))
          ∙ ap (λ (o : Option Reason). Lists.of_live o (numbered x.domains.threads d)) e
      by false m o e q = ap (option_and_then (λ (z : DomainState). Lists.of_live z.ended (numbered x.domains.threads d))) (no_domain m)

  -- the first thread in such a state
  pub first_thread : (p : ThreadState → Bool) → option_and_then (λ items. position (λ r. p r.state) items) (Lists.live_threads_in x.domains d) ≡ (if is_live (past_in x) d then thread_where (past_in x) d p else None)
  first_thread p = by (is_live (past_in x) d) refl
    where
      by : (b : Bool) → is_live (past_in x) d ≡ b → option_and_then (λ items. position (λ r. p r.state) items) (Lists.live_threads_in x.domains d) ≡ (if b then thread_where (past_in x) d p else None)
      by true q =
          ap (option_and_then (λ (items : List ThreadRecord). position (λ r. p r.state) items)) (live_threads q)
          ∙ position_is (λ (r : ThreadRecord). p r.state) (thread_records (past_in x) d)
          ∙ sym (thread_by_records (past_in x) d p)
      by false q = ap (option_and_then (λ (items : List ThreadRecord). position (λ r. p r.state) items)) (no_live_threads q)

  -- the running thread
  pub running_is : Lists.running_in x.domains d ≡ running_thread (past_in x) d
  unfolding running_thread
  running_is = first_thread is_running_state

  -- a thread's state
  pub state_is : IsMade (past_in x) d → (t : ℕ) → option_map (λ r. r.state) (Lists.thread_in x.domains d t) ≡ thread_state (past_in x) d t
  state_is m t =
      ap (λ (o : Option (List ThreadRecord)). option_map (λ (r : ThreadRecord). r.state) (option_and_then (λ (items : List ThreadRecord). slice_get items t) o)) (threads_there m)
      ∙ sym (state_by_records (past_in x) d t)

  -- ---- choices

  -- where a thread runs there is none
  pub no_choice : (t : ℕ) → Lists.running_in x.domains d ≡ Some t → first_choice (past_in x) d ≡ None
  unfolding first_choice
  no_choice t q = by (is_live (past_in x) d) (running_thread (past_in x) d) (sym running_is ∙ q)
    where
      by : (b : Bool) (o : Option ℕ) → o ≡ Some t → (if b && is_none o then first_of_choices (past_in x) d else None) ≡ None
      by true (Some k) r = refl
      by false (Some k) r = refl
      by b None r = cc

  -- whether the domain can act
  pub runs_can : (o : Option ℕ) → o ≡ Lists.running_in x.domains d → is_some o ≡ true → can_act (past_in x) d ≡ true
  unfolding can_act
  runs_can o q r = ap (λ (o : Option ℕ). is_some o || is_some (first_choice (past_in x) d)) (sym running_is ∙ sym q) ∙ ap (λ (b : Bool). b || is_some (first_choice (past_in x) d)) r

  pub rests_can : (o : Option ℕ) → o ≡ Lists.running_in x.domains d → is_some o ≡ false → can_act (past_in x) d ≡ is_some (first_choice (past_in x) d)
  unfolding can_act
  rests_can o q r =
      ap (λ (o : Option ℕ). is_some o || is_some (first_choice (past_in x) d)) (sym running_is ∙ sym q)
      ∙ ap (λ (b : Bool). b || is_some (first_choice (past_in x) d)) r
