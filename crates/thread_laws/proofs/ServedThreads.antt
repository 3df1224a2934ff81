-- Each thread of a live domain's machine serves the call that its history says.
use Rattle.std.proofs.Common.{◌≡◌, ◌≢◌, refl, sym, ◌∙◌, ap, subst, ℕ, zero, suc, ◌+◌, ◌-◌, ◌<◌, ◌≤◌, Bool, true, false, List, [], ◌∷◌, map, length, replicate, Option, Some, None, IsSome, is_some, arith, ◌⊎◌, inl, inr, slice_get}
use Rattle.std.specs.Prelude.{nat_lt}
use Rattle.std.proofs.lemmas.Bool.Decides.{nat_tests}
use Rattle.std.proofs.lemmas.Option.{slice_get_within}
use Rattle.jx_base.specs.declared.act.Act.{Act}
use Rattle.jx_base.specs.declared.act.Act.TheVariants as act
use Rattle.jx_base.specs.declared.act.Entry.{Entry}
use Rattle.jx_base.specs.declared.act.Reply.{Reply}
use Rattle.jx_base.specs.declared.act.Reply.TheVariants as reply
use Rattle.jx_base.specs.declared.ids.CallId.{CallId}
use Rattle.jx_base.specs.declared.program.System.{System}
use Rattle.jx_base.specs.declared.program.Template.{Template}
use Rattle.jx_base.specs.Histories.{Past, is_own, own_entries}
use Rattle.jx_base.proofs.BasicLaws.{get_left, get_right}
use Rattle.jx_model.specs.Domains.{end_reason}
use Rattle.jx_model.specs.Legal.{FollowsCode, IsAdmittedPast, IsFrom, IsNext}
use Rattle.jx_model.specs.Permits.{is_choice}
use Rattle.jx_model.specs.Threads.{is_of_thread, served_after, served_call, service_threads}
use Rattle.jx_model.proofs.OneThread.{absent, serves_same}
use Rattle.jx_model.proofs.Serving.{before_end, not_ended_yet}
use Rattle.machine_model.specs.Machine.{domain_state, next_act, no_state}
use Rattle.machine_model.specs.MachineThreads.{thread_at}
use Rattle.machine_model.specs.Running.{after_steps, state_at_act}
use Rattle.machine_model.specs.Start.{start_of}
use Rattle.machine_model.specs.State.{State}
use Rattle.program_model.specs.Lookup.{template_at}
use Rattle.machine_laws.specs.Standing.{advanced}
use Rattle.machine_laws.proofs.CodeActs.{IsActOfCall}
use Rattle.machine_laws.proofs.EntryCalls.{calls_after, entry_calls, start_calls}
use Rattle.machine_laws.proofs.KeptCalls.{at_act_calls, call_of, calls_of, steps_calls}
use Rattle.machine_laws.proofs.Lists.{mapped_length}
use Rattle.machine_laws.proofs.Standing.{state_after}
use Rattle.machine_laws.proofs.StepActs.{StepsOfCall, step_of_thread}
use Rattle.table_threads.proofs.Records.{same_or_not}
use Rattle.table_threads.proofs.ThreadRecords.{not_this}
use Rattle.thread_laws.specs.Acting.{CallsAgree, IsOfThread}
use Rattle.thread_laws.proofs.Agreement.{Agrees, actor_cases, agreement, agrees_at_act, asks_its_act, of_its_thread, of_thread}
use Rattle.thread_laws.proofs.KindsOfActs.{ends, running_after}
use Rattle.thread_laws.proofs.OwnEntries.{domain_of, none_yet, own_more, own_same}
use Rattle.thread_laws.proofs.RunningThreads.{ends_not, not_of, performs_no_choice, runs_by_choice, serves_own}
use Rattle.thread_laws.proofs.StepThreads.{get_others, get_set}

-- the calls are those that the history says, thread by thread
abbrev pub AreServed : Past → ℕ → List (Option CallId) → Type 0
AreServed past d cs = (k : ℕ) (c : Option CallId) → slice_get cs k ≡ Some c → c ≡ served_call past d k

-- ---- lists

-- an image of an item
get_image : {X Y : Type 0} (f : X → Y) (xs : List X) (i : ℕ) (x : X) → slice_get xs i ≡ Some x → slice_get (map f xs) i ≡ Some (f x)
get_image f [] i x e = cc
get_image f (y ∷ xs) zero x e = let q : y ≡ x = cc in ap (λ z. let o : Option _ = Some (f z) in o) q
get_image f (y ∷ xs) (suc i) x e = get_image f xs i x e

-- one of several copies
get_copy : {X : Type 0} (n i : ℕ) (x y : X) → slice_get (replicate n x) i ≡ Some y → y ≡ x
get_copy zero i x y e = cc
get_copy (suc n) zero x y e = cc
get_copy (suc n) (suc i) x y e = get_copy n i x y e

-- ---- what an act makes of the calls

-- of another thread: the same, or it is new and serves none
other_served : (t : ℕ) (a : Act) (r : Reply) (cs : List (Option CallId)) (k : ℕ) (c : Option CallId) → k ≢ t → slice_get (calls_after t a r cs) k ≡ Some c → (slice_get cs k ≡ Some c) ⊎ ((length cs ≤ k) × (c ≡ None))
other_served t (act.Take n) (reply.Job service method p) cs k c z h = inl (sym (get_others cs t (Some n) k z) ∙ h)
other_served t (act.Export iface n) (reply.Service service i) cs k c z h = by (nat_lt k (length cs)) refl
  where
    by : (b : Bool) → nat_lt k (length cs) ≡ b → (slice_get cs k ≡ Some c) ⊎ ((length cs ≤ k) × (c ≡ None))
    by true q = let l : k < length cs = grind (arith, nat_tests) in inl (sym (get_left cs (replicate n None) k l) ∙ h)
    by false q =
        let l : length cs ≤ k = grind (arith, nat_tests) in
        inr (l, get_copy n (k - length cs) None c (sym (get_right cs (replicate n None) (k - length cs) k (omega (arith, l))) ∙ h))
other_served t (act.Return n p) r cs k c z h = inl (sym (get_others cs t None k z) ∙ h)
other_served t (act.Throw n p) r cs k c z h = inl (sym (get_others cs t None k z) ∙ h)
other_served t (act.EndThread n) r cs k c z h = inl (sym (get_others cs t None k z) ∙ h)
other_served t (act.Exit code) r cs k c z h = inl (sym (get_others cs t None k z) ∙ h)
other_served t (act.End why) r cs k c z h = inl (sym (get_others cs t None k z) ∙ h)
other_served t a r cs k c z h = inl h

-- of its own thread, which served o: what the history says, unless the act ends the domain
own_served : (t : ℕ) (a : Act) (r : Reply) (cs : List (Option CallId)) (o c : Option CallId) → slice_get cs t ≡ Some o → slice_get (calls_after t a r cs) t ≡ Some c → ends a ≡ false → (is_choice a ≡ true → running_after a r t None ≡ Some t) → (is_choice a ≡ false → IsActOfCall o a) →
    c ≡ served_after o a
unfolding is_choice served_after
own_served t (act.Take n) (reply.Job service method p) cs o c e h x j z = get_set cs t (Some n) o c e h
own_served t (act.Take n) r cs o c e h x j z = let w = j refl in cc
own_served t (act.Export iface n) (reply.Service service i) cs o c e h x j z =
    let w : Some o ≡ Some c = sym e ∙ sym (get_left cs (replicate n None) t (slice_get_within cs t o e)) ∙ h in cc
own_served t (act.Return n p) r cs o c e h x j z = get_set cs t None o c e h
own_served t (act.Throw n p) r cs o c e h x j z = get_set cs t None o c e h
own_served t (act.EndThread n) r cs o c e h x j z = get_set cs t None o c e h ∙ sym (z refl)
own_served t (act.Exit code) r cs o c e h x j z = cc
own_served t (act.End why) r cs o c e h x j z = cc
own_served t a r cs o c e h x j z = cc

-- a choice lets its thread run: a take is answered with its job
takes_its_job : (s : System) (past : Past) (e : Entry) (d : ℕ) → IsNext s past e → e.domain.0 ≡ d → 1 ≤ d → is_choice e.act ≡ true → running_after e.act e.reply e.thread.0 None ≡ Some e.thread.0
takes_its_job s past e d n q l c = elim (actor_cases s past e d n q l) [
  | inl x ↦ let w = performs_no_choice past d e.thread.0 e.act x.1 in cc
  | inr x ↦ runs_by_choice s past d e.domain.0 e.thread.0 e.act e.reply None x.2 n.reply
]

-- ---- the start

begun_calls : (s : System) (t : ℕ) → IsSome (template_at s t) → calls_of (domain_state s t []) ≡ None ∷ []
unfolding domain_state
begun_calls s t i = by (template_at s t) i
  where
    by : (o : Option Template) → is_some o ≡ true → calls_of (elim o as (λ _. State) [ None ↦ no_state | Some x ↦ start_of s x ]) ≡ None ∷ []
    by None i = cc
    by (Some x) i = start_calls s x

first_served : (d : ℕ) → AreServed [] d (None ∷ [])
unfolding served_call
first_served d zero c h = cc
first_served d (suc k) c h = cc

-- ---- an entry

-- an entry of another domain changes no call of this one
other_kept : (e : Entry) (past : Past) (d : ℕ) (cs : List (Option CallId)) → is_own d e ≡ false → AreServed past d cs → AreServed (e ∷ past) d cs
other_kept e past d cs q h k c z = h k c z ∙ sym (serves_same e past d k (not_of e d k q))

-- an entry of its own makes of the calls what the history says
own_kept : (s : System) (past : Past) (e : Entry) (d : ℕ) (cs : List (Option CallId)) (o : Option CallId) → IsNext s past e → IsAdmittedPast s past → e.domain.0 ≡ d → 1 ≤ d → ends e.act ≡ false → length cs ≡ length (service_threads past d) + 1 →
    slice_get cs e.thread.0 ≡ Some o → (is_choice e.act ≡ false → IsActOfCall o e.act) → AreServed past d cs → AreServed (e ∷ past) d (calls_after e.thread.0 e.act e.reply cs)
unfolding is_of_thread
own_kept s past e d cs o n a q l x count i z h k c w = by (same_or_not k e.thread.0)
  where
    own : is_of_thread d e.thread.0 e ≡ true
    own = of_thread e d q

    other : k ≢ e.thread.0 → (slice_get cs k ≡ Some c) ⊎ ((length cs ≤ k) × (c ≡ None)) → c ≡ served_call (e ∷ past) d k
    other y (inl v) = h k c v ∙ sym (serves_same e past d k (not_this (is_own d e) e.thread.0 e.thread.0 k own y))
    other y (inr v) = v.1 ∙ sym ((absent s past d k a (omega (arith, v.0, count))).serves) ∙ sym (serves_same e past d k (not_this (is_own d e) e.thread.0 e.thread.0 k own y))

    by : (k ≡ e.thread.0) ⊎ (k ≢ e.thread.0) → c ≡ served_call (e ∷ past) d k
    by (inl y) =
        own_served e.thread.0 e.act e.reply cs o c i (ap (slice_get (calls_after e.thread.0 e.act e.reply cs)) (sym y) ∙ w) x (takes_its_job s past e d n q l) z
        ∙ ap (λ (u : Option CallId). served_after u e.act) (h e.thread.0 o i)
        ∙ sym (serves_own e past d e.thread.0 own)
        ∙ ap (served_call (e ∷ past) d) (sym y)
    by (inr y) = other y (other_served e.thread.0 e.act e.reply cs k c y w)

-- a domain's own entry, which follows its code
module _ (s : System) (past : Past) (e : Entry) (d t : ℕ) (own : Past) (n : IsNext s past e) (a : IsAdmittedPast s past) (q : e.domain.0 ≡ d) (l : 1 ≤ d) (f : IsFrom (next_act s t own) e.act) (h : Agrees past d (domain_state s t own)) where
  -- the state that the entry meets
  abbrev mid : State
  mid = state_at_act s (domain_state s t own)

  met : Agrees past d mid
  met = agrees_at_act s past d (domain_state s t own) h

  actor : IsOfThread mid e
  actor = of_its_thread s past e d mid n q l met

  -- its act is one for what its thread serves
  of_its_call : is_choice e.act ≡ false → IsActOfCall actor.thread.call e.act
  of_its_call c =
      subst (StepsOfCall actor.thread.call) (asks_its_act s t own e.thread.0 e.act (actor.act c) f) (step_of_thread s mid e.thread.0 actor.thread actor.there)

  -- after it the threads serve what the history says
  own_entry : ends e.act ≡ false → AreServed past d (calls_of (domain_state s t own)) → AreServed (e ∷ past) d (calls_of (domain_state s t (e ∷ own)))
  unfolding thread_at
  own_entry x g =
      let same : calls_of mid ≡ calls_of (domain_state s t own) = at_act_calls s (domain_state s t own) in
      let count : length (calls_of mid) ≡ length (service_threads past d) + 1 = mapped_length call_of mid.threads ∙ met.count in
      let made : calls_of (domain_state s t (e ∷ own)) ≡ calls_after e.thread.0 e.act e.reply (calls_of mid) = ap calls_of (state_after s t own e) ∙ entry_calls s mid e actor.thread actor.there in
      subst (AreServed (e ∷ past) d) (sym made)
      (own_kept s past e d (calls_of mid) actor.thread.call n a q l x count (get_image call_of mid.threads e.thread.0 actor.thread actor.there) of_its_call (subst (AreServed past d) (sym same) g))

-- ---- all entries

-- while no entry ended the domain, its threads serve what its history says
pub calls_served : (s : System) (past : Past) → IsAdmittedPast s past → (d t : ℕ) → 1 ≤ d → IsSome (template_at s t) → FollowsCode s t (own_entries past d) → end_reason past d ≡ None → AreServed past d (calls_of (domain_state s t (own_entries past d)))
calls_served s [] a d t l i f r = subst (λ (own : Past). AreServed [] d (calls_of (domain_state s t own))) (sym (none_yet d)) (subst (AreServed [] d) (sym (begun_calls s t i)) (first_served d))
calls_served s (e ∷ past) a d t l i f r = by (is_own d e) refl (λ g. calls_served s past a.1 d t l i g (before_end e past d r).1)
  where
    by : (b : Bool) → is_own d e ≡ b → (FollowsCode s t (own_entries past d) → AreServed past d (calls_of (domain_state s t (own_entries past d)))) → AreServed (e ∷ past) d (calls_of (domain_state s t (own_entries (e ∷ past) d)))
    by false q again =
        let z = own_same e past d q in
        subst (λ (own : Past). AreServed (e ∷ past) d (calls_of (domain_state s t own))) (sym z) (other_kept e past d (calls_of (domain_state s t (own_entries past d))) q (again (subst (FollowsCode s t) z f)))
    by true q again =
        let z = own_more e past d q in
        let g : FollowsCode s t (e ∷ own_entries past d) = subst (FollowsCode s t) z f in
        let x : ends e.act ≡ false = ends_not e d q (before_end e past d r).0 in
        subst (λ (own : Past). AreServed (e ∷ past) d (calls_of (domain_state s t own))) (sym z)
        (own_entry s past e d t (own_entries past d) a.0 a.1 (domain_of e d q) l g.0 (agreement s past a.1 d t l i g.1) x (again g.1))

-- on the way to the next act the calls are the same
way_calls : (s : System) (n : ℕ) (st : State) → calls_of (advanced s n st) ≡ calls_of st
unfolding advanced
way_calls s n st = by st.running
  where
    by : (o : Option ℕ) → calls_of (elim o as (λ _. State) [ None ↦ st | Some t ↦ after_steps s t n st ]) ≡ calls_of st
    by None = refl
    by (Some t) = steps_calls s t n st

-- each thread of a state that stands for a live domain serves what its history says
pub calls_agree : (s : System) (past : Past) → IsAdmittedPast s past → CallsAgree s past
unfolding thread_at
calls_agree s past a d t k st x l i f h live e =
    calls_served s past a d t l i f (not_ended_yet past d live) k x.call
    (subst (λ (cs : List (Option CallId)). slice_get cs k ≡ Some x.call) (ap calls_of h.1 ∙ way_calls s h.0 (domain_state s t (own_entries past d))) (get_image call_of st.threads k x e))
