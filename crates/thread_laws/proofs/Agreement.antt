-- What a domain's history says of its threads is so in the state of its machine, and an entry's thread is the running one.
use Rattle.std.proofs.Common.{◌≡◌, ◌≢◌, refl, sym, ◌∙◌, ap, subst, ℕ, zero, suc, ◌+◌, ◌<◌, ◌≤◌, Bool, true, false, List, [], ◌∷◌, length, Option, Some, None, IsSome, is_some, arith, ◌==◌, if◌then◌else◌, ◌⊎◌, inl, inr, slice_get, length-append}
use Rattle.jx_base.specs.declared.act.Act.{Act}
use Rattle.jx_base.specs.declared.act.Entry.{Entry}
use Rattle.jx_base.specs.declared.ids.ServiceId.{ServiceId}
use Rattle.jx_base.specs.declared.program.System.{System}
use Rattle.jx_base.specs.declared.program.Template.{Template}
use Rattle.jx_base.specs.Basics.{passes}
use Rattle.jx_base.specs.Histories.{Past, is_own, own_entries}
use Rattle.jx_base.proofs.BasicLaws.{eq_of}
use Rattle.jx_model.specs.Domains.{end_reason, is_live}
use Rattle.jx_model.specs.Growth.{Runs}
use Rattle.jx_model.specs.Legal.{FollowsCode, IsAdmittedPast, IsFrom, IsNext}
use Rattle.jx_model.specs.Permits.{acting_thread, choice_thread, domain_thread, is_choice, may_perform, zero_may_now}
use Rattle.jx_model.specs.Threads.{is_of_thread, is_running_state, last_of_thread, state_by_last, thread_state, threads_of, new_threads, new_threads_of, running_thread, service_threads, thread_where}
use Rattle.jx_model.proofs.Acting.{acting_cases, domain_cases, running_live, running_runs}
use Rattle.jx_model.proofs.Serving.{before_end, not_ended_yet}
use Rattle.machine_model.specs.AfterEntry.{after_act, after_entry}
use Rattle.machine_model.specs.Machine.{NextAct, domain_state, next_act, no_state}
use Rattle.machine_model.specs.MachineThreads.{idle_thread, thread_at}
use Rattle.machine_model.specs.Running.{Ask, state_at_act, step}
use Rattle.machine_model.specs.Start.{start_of}
use Rattle.machine_model.specs.State.{Going, State, Thread}
use Rattle.program_model.specs.Lookup.{template_at}
use Rattle.machine_laws.specs.Depths.{HasStacksWithin}
use Rattle.machine_laws.specs.Standing.{Stands, advanced}
use Rattle.machine_laws.proofs.Cores.{stacks_within}
use Rattle.machine_laws.proofs.Lists.{all_get}
use Rattle.machine_laws.proofs.Standing.{act_of, advanced_at, advanced_running, at_act_is, fuel_asks, state_after}
use Rattle.machine_laws.proofs.StepDepths.{at_act_within}
use Rattle.table_threads.proofs.Records.{is_that, same_or_not}
use Rattle.table_threads.proofs.ThreadActs.{own_thread}
use Rattle.thread_laws.specs.Acting.{AgreesOn, IsOfThread}
use Rattle.thread_laws.proofs.EntryThreads.{acts_as, pausing_going, stopped_going}
use Rattle.thread_laws.proofs.KindsOfActs.{pauses, running_after, stops}
use Rattle.thread_laws.proofs.OwnEntries.{domain_of, none_yet, own_more, own_same}
use Rattle.thread_laws.proofs.RunningThreads.{actor_there, chosen_runs, ends_not, found_running, lets_by_choice, other_threads, other_where, performs_no_choice, runs_by_choice, runs_no_more, runs_on, still_runs, stopped_where}
use Rattle.thread_laws.proofs.StepThreads.{ChangesOnly, advanced_only, changes_none, finish_only}

-- what a domain's history says of its threads is so in the state, unless an entry ended it
pub record Agrees (past : Past) (d : ℕ) (st : State) : Type 0 where
  pub runs : end_reason past d ≡ None → st.running ≡ thread_where past d is_running_state
  pub count : length st.threads ≡ length (service_threads past d) + 1
  pub rest : (k : ℕ) (x : Thread) → thread_at st k ≡ Some x → st.running ≢ Some k → x.stage ≡ Going

-- a live domain's running thread is the one that is found
live_where : (past : Past) (d : ℕ) → is_live past d ≡ true → running_thread past d ≡ thread_where past d is_running_state
unfolding running_thread
live_where past d l = ap (λ (b : Bool). if b then thread_where past d is_running_state else None) l

-- so is what it says of a live domain
pub agrees_on : (past : Past) (d : ℕ) (st : State) → Agrees past d st → AgreesOn past d st
agrees_on past d st h = record { running = λ l. h.runs (not_ended_yet past d l) ∙ sym (live_where past d l); count = h.count; rest = h.rest }

-- on the way to the next act
pub agrees_on_way : (s : System) (past : Past) (d n : ℕ) (st : State) → Agrees past d st → Agrees past d (advanced s n st)
agrees_on_way s past d n st h =
    let x = advanced_only s n st in
    record {
      runs = λ e. x.running ∙ h.runs e;
      count = x.count ∙ h.count;
      rest = λ k y e r. let q : st.running ≢ Some k = λ z. r (x.running ∙ z) in h.rest k y (sym (x.others k q) ∙ e) q;
    }

-- at the next act
pub agrees_at_act : (s : System) (past : Past) (d : ℕ) (st : State) → Agrees past d st → Agrees past d (state_at_act s st)
agrees_at_act s past d st h = subst (Agrees past d) (sym (at_act_is s st)) (agrees_on_way s past d st.fuel st h)

-- ---- the start

start_only : (s : System) (x : Template) → (first : State) × (first.running ≡ Some 0) × (first.threads ≡ idle_thread ∷ []) × ChangesOnly 0 first (start_of s x)
unfolding start_of
start_only s x = (_, refl, refl, finish_only s _ 0 _ _ None (changes_none 0 _))

first_found : (d : ℕ) → thread_where [] d is_running_state ≡ Some 0
unfolding thread_where threads_of service_threads thread_state state_by_last last_of_thread passes is_running_state
first_found d = refl

no_threads_yet : (d : ℕ) → length (service_threads [] d) ≡ 0
unfolding service_threads
no_threads_yet d = refl

start_agrees : (s : System) (d : ℕ) (x : Template) → Agrees [] d (start_of s x)
unfolding thread_at
start_agrees s d x =
    let y = start_only s x in
    record {
      runs = λ e. y.3.running ∙ y.1 ∙ sym (first_found d);
      count = omega (arith, y.3.count, ap (λ (xs : List Thread). length xs) y.2, no_threads_yet d);
      rest = λ k z e r. let q : k ≢ 0 = λ w. r (y.3.running ∙ y.1 ∙ ap (λ (n : ℕ). let o : Option ℕ = Some n in o) (sym w)) in
          one k z q (ap (λ (xs : List Thread). slice_get xs k) (sym y.2) ∙ sym (y.3.others k q) ∙ e);
    }
  where
    one : (k : ℕ) (z : Thread) → k ≢ 0 → slice_get (idle_thread ∷ []) k ≡ Some z → z.stage ≡ Going
    one zero z q e = absurd (q refl)
    one (suc k) z q e = cc

-- at the start of a template
at_start : (s : System) (t d : ℕ) → IsSome (template_at s t) → Agrees [] d (domain_state s t [])
unfolding domain_state
at_start s t d i = by (template_at s t) i
  where
    by : (o : Option Template) → is_some o ≡ true → Agrees [] d (elim o as (λ _. State) [ None ↦ no_state | Some x ↦ start_of s x ])
    by None i = cc
    by (Some x) i = start_agrees s d x

-- ---- an entry of another domain

other_agrees : (e : Entry) (past : Past) (d : ℕ) (st : State) → is_own d e ≡ false → Agrees past d st → Agrees (e ∷ past) d st
other_agrees e past d st q h =
    record {
      runs = λ r. h.runs (before_end e past d r).1 ∙ sym (other_where e past d is_running_state q);
      count = h.count ∙ ap (λ (ss : List ServiceId). length ss + 1) (sym (other_threads e past d q));
      rest = h.rest;
    }

-- ---- an entry of its own

-- an item that is there
pub item_there : {X : Type 0} (xs : List X) (i : ℕ) → i < length xs → (x : X) × (slice_get xs i ≡ Some x)
item_there [] i l = absurd (omega (arith, l))
item_there (x ∷ xs) zero l = (x, refl)
item_there (x ∷ xs) (suc i) l = item_there xs i (omega (arith, l))

-- the entry is of its domain, and of its thread
own_of : (e : Entry) (d : ℕ) → e.domain.0 ≡ d → is_own d e ≡ true
unfolding is_own
own_of e d q = is_that e.domain.0 d q

pub of_thread : (e : Entry) (d : ℕ) → e.domain.0 ≡ d → is_of_thread d e.thread.0 e ≡ true
of_thread e d q = subst (λ (k : ℕ). is_of_thread k e.thread.0 e ≡ true) q (own_thread e)

-- the state has the entry's thread
actor_at : (s : System) (past : Past) (e : Entry) (d : ℕ) (st : State) → IsNext s past e → e.domain.0 ≡ d → Agrees past d st → (x : Thread) × (thread_at st e.thread.0 ≡ Some x)
unfolding thread_at
actor_at s past e d st n q h =
    let l = actor_there s past e d e.thread.0 n (of_thread e d q) in
    item_there st.threads e.thread.0 (omega (arith, h.count, l))

-- the entry's thread runs, or none does and a choice lets it run
pub actor_cases : (s : System) (past : Past) (e : Entry) (d : ℕ) → IsNext s past e → e.domain.0 ≡ d → 1 ≤ d →
    ((running_thread past d ≡ Some e.thread.0) × (may_perform past d e.thread.0 e.act ≡ true)) ⊎ ((running_thread past d ≡ None) × (is_live past d ≡ true) × (choice_thread past d e.act ≡ Some e.thread.0))
actor_cases s past e d n q l = by (acting_cases s past d e.thread.0 e.act a)
  where
    a : acting_thread s past d e.act ≡ Some e.thread.0
    a = subst (λ (k : ℕ). acting_thread s past k e.act ≡ Some e.thread.0) q n.thread

    by : (((d == 0) ≡ true) × (e.thread.0 ≡ 0) × (zero_may_now s past e.act ≡ true)) ⊎ (((d == 0) ≡ false) × (domain_thread past d e.act ≡ Some e.thread.0)) →
        ((running_thread past d ≡ Some e.thread.0) × (may_perform past d e.thread.0 e.act ≡ true)) ⊎ ((running_thread past d ≡ None) × (is_live past d ≡ true) × (choice_thread past d e.act ≡ Some e.thread.0))
    by (inl x) = absurd (omega (arith, l, eq_of d 0 x.0))
    by (inr x) = domain_cases past d e.thread.0 e.act x.1

-- the running thread asks for the act that the code performs next
pub asks_its_act : (s : System) (t : ℕ) (own : Past) (k : ℕ) (a : Act) → (state_at_act s (domain_state s t own)).running ≡ Some k → IsFrom (next_act s t own) a → step s (state_at_act s (domain_state s t own)) k ≡ Ask a
asks_its_act s t own k a r f = asked.1 ∙ ap (λ (x : Act). Ask x) (sym same)
  where
    st : State
    st = domain_state s t own

    q : st.running ≡ Some k
    q = sym (advanced_running s st.fuel st) ∙ ap (λ (x : State). x.running) (sym (at_act_is s st)) ∙ r

    asked : (b : Act) × (step s (state_at_act s st) k ≡ Ask b)
    asked = let x = fuel_asks s k st.fuel st refl in (x.0, ap (λ (y : State). step s y k) (at_act_is s st ∙ advanced_at s st.fuel k st q) ∙ x.1)

    same : a ≡ asked.0
    same = subst (λ (x : NextAct). IsFrom x a) (act_of s t own (state_at_act s st) k asked.0 refl (record { running = r; asked = asked.1 })) f

-- a domain's own entry adds as many threads to its history as to its state
own_count : (e : Entry) (past : Past) (d : ℕ) → is_own d e ≡ true → length (service_threads (e ∷ past) d) ≡ length (service_threads past d) + length (new_threads e.act e.reply)
unfolding service_threads new_threads_of
own_count e past d q = length-append (service_threads past d) _ ∙ ap (λ (b : Bool). length (service_threads past d) + length (if b then new_threads e.act e.reply else [])) q

module _ (s : System) (past : Past) (e : Entry) (d t : ℕ) (own : Past) (n : IsNext s past e) (a : IsAdmittedPast s past) (q : e.domain.0 ≡ d) (l : 1 ≤ d) (f : IsFrom (next_act s t own) e.act) (h : Agrees past d (domain_state s t own)) where
  -- the state that the entry meets
  abbrev mid : State
  mid = state_at_act s (domain_state s t own)

  met : Agrees past d mid
  met = agrees_at_act s past d (domain_state s t own) h

  -- the state after it, where its thread is x
  abbrev new : Thread → State
  new x = after_act s mid e.thread.0 x e.act e.reply

  -- the threads other than the entry's go on
  others_go : (x : Thread) → ((k : ℕ) → k ≢ e.thread.0 → mid.running ≢ Some k) → (k : ℕ) (y : Thread) → k ≢ e.thread.0 → thread_at (new x) k ≡ Some y → y.stage ≡ Going
  others_go x g k y z w = elim ((acts_as s mid e.thread.0 x e.act e.reply).others k y z w) [ inl v ↦ met.rest k y v (g k z) | inr v ↦ v ]

  counted : (x : Thread) → length (new x).threads ≡ length (service_threads (e ∷ past) d) + 1
  counted x = omega (arith, (acts_as s mid e.thread.0 x e.act e.reply).count, met.count, own_count e past d (own_of e d q))

  -- after an act that leaves its thread running, or lets it run
  on_it_goes : (x : Thread) → running_after e.act e.reply e.thread.0 mid.running ≡ Some e.thread.0 → Runs (e ∷ past) d e.thread.0 → ((k : ℕ) → k ≢ e.thread.0 → mid.running ≢ Some k) → Agrees (e ∷ past) d (new x)
  on_it_goes x r w g = record {
    runs = λ z. runs ∙ sym (found_running s (e ∷ past) d e.thread.0 (n, a) w);
    count = counted x;
    rest = λ k y z v. others_go x g k y (λ i. v (runs ∙ ap (λ (m : ℕ). let o : Option ℕ = Some m in o) (sym i))) z;
  }
    where
      runs : (new x).running ≡ Some e.thread.0
      runs = (acts_as s mid e.thread.0 x e.act e.reply).running ∙ r

  stacks : (x : Thread) → thread_at mid e.thread.0 ≡ Some x → HasStacksWithin s x
  unfolding thread_at
  stacks x i = all_get (HasStacksWithin s) mid.threads e.thread.0 x i (at_act_within s (domain_state s t own) (stacks_within s t own))

  -- after an act that makes it stop
  it_stops : (x : Thread) → thread_at mid e.thread.0 ≡ Some x → mid.running ≡ Some e.thread.0 → stops e.act e.reply ≡ true → may_perform past d e.thread.0 e.act ≡ true → Runs past d e.thread.0 → ((k : ℕ) → k ≢ e.thread.0 → mid.running ≢ Some k) → Agrees (e ∷ past) d (new x)
  it_stops x i r z m w g = record {
    runs = λ v. runs ∙ sym (stopped_where s past e d e.thread.0 n a (of_thread e d q) z (ends_not e d (own_of e d q) (before_end e past d v).0) m w);
    count = counted x;
    rest = λ k y v u. rest k y v (same_or_not k e.thread.0);
  }
    where
      runs : (new x).running ≡ None
      runs = (acts_as s mid e.thread.0 x e.act e.reply).running ∙ runs_no_more e.act e.reply e.thread.0 mid.running z

      within : HasStacksWithin s x
      within = stacks x i

      going : pauses e.act ≡ true → x.stage ≡ Going
      going p = pausing_going s mid e.thread.0 x e.act i (asks_its_act s t own e.thread.0 e.act r f) p

      rest : (k : ℕ) (y : Thread) → thread_at (new x) k ≡ Some y → (k ≡ e.thread.0) ⊎ (k ≢ e.thread.0) → y.stage ≡ Going
      rest k y v (inl p) = stopped_going s mid e.thread.0 x e.act e.reply z within going i y (ap (thread_at (new x)) (sym p) ∙ v)
      rest k y v (inr p) = others_go x g k y p v

  acted : (x : Thread) → thread_at mid e.thread.0 ≡ Some x → Agrees (e ∷ past) d (new x)
  acted x i = by (actor_cases s past e d n q l)
    where
      u : is_of_thread d e.thread.0 e ≡ true
      u = of_thread e d q

      there : e.thread.0 ≤ length (service_threads past d)
      there = actor_there s past e d e.thread.0 n u

      met_running : is_live past d ≡ true → mid.running ≡ running_thread past d
      met_running v = met.runs (not_ended_yet past d v) ∙ sym (live_where past d v)

      running : running_thread past d ≡ Some e.thread.0 → may_perform past d e.thread.0 e.act ≡ true → (b : Bool) → stops e.act e.reply ≡ b → Agrees (e ∷ past) d (new x)
      running y m b z = at_stop b z
        where
          r : mid.running ≡ Some e.thread.0
          r = met_running (running_live past d e.thread.0 y) ∙ y

          w : Runs past d e.thread.0
          w = running_runs past d e.thread.0 y

          c : is_choice e.act ≡ false
          c = performs_no_choice past d e.thread.0 e.act m

          g : (k : ℕ) → k ≢ e.thread.0 → mid.running ≢ Some k
          g k p v = let o : Some k ≡ Some e.thread.0 = sym v ∙ r in p cc

          at_stop : (b : Bool) → stops e.act e.reply ≡ b → Agrees (e ∷ past) d (new x)
          at_stop true z = it_stops x i r z m w g
          at_stop false z = on_it_goes x (runs_on e.act e.reply e.thread.0 mid.running z c ∙ r) (still_runs e past d e.thread.0 u there z c w) g

      by : ((running_thread past d ≡ Some e.thread.0) × (may_perform past d e.thread.0 e.act ≡ true)) ⊎ ((running_thread past d ≡ None) × (is_live past d ≡ true) × (choice_thread past d e.act ≡ Some e.thread.0)) → Agrees (e ∷ past) d (new x)
      by (inl y) = running y.0 y.1 (stops e.act e.reply) refl
      by (inr y) =
          let r : mid.running ≡ None = met_running y.1 ∙ y.0 in
          on_it_goes x (runs_by_choice s past d e.domain.0 e.thread.0 e.act e.reply mid.running y.2 n.reply) (chosen_runs s past e d e.thread.0 a l u there y.2) (λ k p v. let o : None ≡ Some k = sym r ∙ v in cc)

  entry_at : (x : Thread) → thread_at mid e.thread.0 ≡ Some x → after_entry s mid e ≡ new x
  unfolding after_entry
  entry_at x i = ap (λ (o : Option Thread). elim o as (λ _. State) [ None ↦ mid | Some y ↦ new y ]) i

  -- so it is after a domain's own entry
  own_agrees : Agrees (e ∷ past) d (domain_state s t (e ∷ own))
  own_agrees =
      let x = actor_at s past e d mid n q met in
      subst (Agrees (e ∷ past) d) (sym (state_after s t own e ∙ entry_at x.0 x.1)) (acted x.0 x.1)

-- ---- all entries

-- what a domain's history says of its threads is so in the state after its own entries
pub agreement : (s : System) (past : Past) → IsAdmittedPast s past → (d t : ℕ) → 1 ≤ d → IsSome (template_at s t) → FollowsCode s t (own_entries past d) → Agrees past d (domain_state s t (own_entries past d))
agreement s [] a d t l i f = subst (λ (own : Past). Agrees [] d (domain_state s t own)) (sym (none_yet d)) (at_start s t d i)
agreement s (e ∷ past) a d t l i f = by (is_own d e) refl (agreement s past a.1 d t l i)
  where
    by : (b : Bool) → is_own d e ≡ b → (FollowsCode s t (own_entries past d) → Agrees past d (domain_state s t (own_entries past d))) → Agrees (e ∷ past) d (domain_state s t (own_entries (e ∷ past) d))
    by false q again =
        let z = own_same e past d q in
        subst (λ (own : Past). Agrees (e ∷ past) d (domain_state s t own)) (sym z) (other_agrees e past d (domain_state s t (own_entries past d)) q (again (subst (FollowsCode s t) z f)))
    by true q again =
        let z = own_more e past d q in
        let g : FollowsCode s t (e ∷ own_entries past d) = subst (FollowsCode s t) z f in
        subst (λ (own : Past). Agrees (e ∷ past) d (domain_state s t own)) (sym z) (own_agrees s past e d t (own_entries past d) a.0 a.1 (domain_of e d q) l g.0 (again g.1))

-- so it is in a state that stands for the domain
pub agreement_stands : (s : System) (past : Past) → IsAdmittedPast s past → (d t : ℕ) (st : State) → 1 ≤ d → IsSome (template_at s t) → FollowsCode s t (own_entries past d) → Stands s t (own_entries past d) st → AgreesOn past d st
agreement_stands s past a d t st l i f h =
    agrees_on past d st (subst (Agrees past d) (sym h.1) (agrees_on_way s past d h.0 (domain_state s t (own_entries past d)) (agreement s past a d t l i f)))

-- ---- the thread of an entry

-- the entry that comes next is of its thread
pub of_its_thread : (s : System) (past : Past) (e : Entry) (d : ℕ) (st : State) → IsNext s past e → e.domain.0 ≡ d → 1 ≤ d → Agrees past d st → IsOfThread st e
of_its_thread s past e d st n q l h = by (actor_cases s past e d n q l)
  where
    x : (x : Thread) × (thread_at st e.thread.0 ≡ Some x)
    x = actor_at s past e d st n q h

    met : is_live past d ≡ true → st.running ≡ running_thread past d
    met v = h.runs (not_ended_yet past d v) ∙ sym (live_where past d v)

    by : ((running_thread past d ≡ Some e.thread.0) × (may_perform past d e.thread.0 e.act ≡ true)) ⊎ ((running_thread past d ≡ None) × (is_live past d ≡ true) × (choice_thread past d e.act ≡ Some e.thread.0)) → IsOfThread st e
    by (inl y) =
        let c = performs_no_choice past d e.thread.0 e.act y.1 in
        record {
          thread = x.0;
          there = x.1;
          act = λ v. met (running_live past d e.thread.0 y.0) ∙ y.0;
          choice = λ v. cc (c, v);
        }
    by (inr y) =
        let c = lets_by_choice past d e.thread.0 e.act y.2 in
        let r : st.running ≡ None = met y.1 ∙ y.0 in
        record {
          thread = x.0;
          there = x.1;
          act = λ v. cc (c, v);
          choice = λ v. (r, h.rest e.thread.0 x.0 x.1 (λ w. let o : None ≡ Some e.thread.0 = sym r ∙ w in cc));
        }

-- the thread of an entry is the one that runs in the state that it meets, or with a choice one that goes on
pub entry_of_thread : (s : System) (past : Past) → IsAdmittedPast s past → (d t : ℕ) (e : Entry) (own : Past) (st : State) → 1 ≤ d → IsSome (template_at s t) → own_entries past d ≡ e ∷ own → FollowsCode s t (e ∷ own) → Stands s t own st → IsOfThread st e
entry_of_thread s [] a d t e own st l i q f h = let w : [] ≡ e ∷ own = sym (none_yet d) ∙ q in cc
entry_of_thread s (g ∷ past) a d t e own st l i q f h = by (is_own d g) refl (entry_of_thread s past a.1 d t e own st l i)
  where
    by : (b : Bool) → is_own d g ≡ b → (own_entries past d ≡ e ∷ own → FollowsCode s t (e ∷ own) → Stands s t own st → IsOfThread st e) → IsOfThread st e
    by false u again = again (sym (own_same g past d u) ∙ q) f h
    by true u again =
        let w : g ∷ own_entries past d ≡ e ∷ own = sym (own_more g past d u) ∙ q in
        let y : g ≡ e = cc in
        let v : own_entries past d ≡ own = cc in
        let c : Agrees past d (domain_state s t own) = subst (λ (o : Past). Agrees past d (domain_state s t o)) v (agreement s past a.1 d t l i (subst (FollowsCode s t) (sym v) f.1)) in
        let k : Agrees past d st = subst (Agrees past d) (sym h.1) (agrees_on_way s past d h.0 (domain_state s t own) c) in
        subst (IsOfThread st) y (of_its_thread s past g d st a.0 (domain_of g d u) l k)
