-- Which entry an act is, by its kind.
use Rattle.std.proofs.Common.{◌≡◌, ◌≢◌, refl, sym, ◌∙◌, ap, subst, ℕ, ℤ, true, false, List, Option, Some, None, is_some, ◌==◌, ◌⊎◌, inl, inr, arith}
use Rattle.std.specs.Option.{option_map}
use Rattle.jx_base.specs.declared.act.Act.{Act}
use Rattle.jx_base.specs.declared.act.Act.TheVariants as act
use Rattle.jx_base.specs.declared.act.Reason.{Reason}
use Rattle.jx_base.specs.declared.act.Reply.TheVariants as reply
use Rattle.jx_base.specs.declared.ids.CallId.{CallId}
use Rattle.jx_base.specs.declared.ids.ClassId.{ClassId}
use Rattle.jx_base.specs.declared.ids.MethodId.{MethodId}
use Rattle.jx_base.specs.declared.value.Parcel.{Parcel}
use Rattle.jx_base.specs.declared.ids.ServiceId.{ServiceId}
use Rattle.jx_base.specs.declared.ids.ThreadId.{ThreadId}
use Rattle.jx_base.specs.declared.program.System.{System}
use Rattle.jx_base.specs.declared.states.ThreadState.TheVariants as thread
use Rattle.jx_base.specs.Histories.{Past}
use Rattle.jx_model.proofs.Acting.{acting_cases, domain_cases}
use Rattle.jx_model.specs.Permits.{choice_thread, domain_thread, is_choice, is_zero_act, may_perform, zero_may_now}
use Rattle.jx_model.specs.Domains.{is_live}
use Rattle.jx_model.specs.Threads.{running_thread}
use Rattle.jx_model.specs.Tables.{ThreadRecord, state_or_over}
use Rattle.jx_model.specs.Threads.{served_after, state_after}
use Rattle.domain_table.specs.DomainLists as Lists
use Rattle.nucleus_tables.specs.Entering.{IsPlain, thread_state_after}
use Rattle.nucleus_tables.specs.Inner.{IsPermittedIn, past_in}
use Rattle.nucleus_tables.specs.NucleusStates.{NucleusState}
use Rattle.nucleus_tables.specs.Stepping.{HasEntry, IsStepped}
use Rattle.nucleus_tables.specs.declared.step.Step.{Step}
use Rattle.nucleus_tables.specs.declared.tables.Tables.{Tables}
use Rattle.table_threads.specs.ThreadChanges.{thread_record_after}

-- ---- Domain Zero's acts

-- no domain may perform them
no_domains : (past : Past) (d t : ℕ) (a : Act) → is_zero_act a ≡ true → domain_thread past d a ≡ Some t → ⊥
unfolding is_zero_act may_perform choice_thread is_choice
no_domains past d t a z h = by a z (domain_cases past d t a h)
  where
    by : (a : Act) → is_zero_act a ≡ true → ((running_thread past d ≡ Some t) × (may_perform past d t a ≡ true)) ⊎ ((running_thread past d ≡ None) × (is_live past d ≡ true) × (choice_thread past d a ≡ Some t)) → ⊥
    by (act.Create x) z (inl m) = cc (m.1)
    by (act.Create x) z (inr m) = cc (m.2)
    by act.Quiet z (inl m) = cc (m.1)
    by act.Quiet z (inr m) = cc (m.2)
    by act.Halt z (inl m) = cc (m.1)
    by act.Halt z (inr m) = cc (m.2)
    by _ z m = cc (z)

-- so it is Domain Zero that does
pub zero_permitted : (s : System) (x : Tables) (d t : ℕ) (a b : Act) → a ≡ b → is_zero_act b ≡ true → IsPermittedIn s x d t a → (d ≡ 0) × (t ≡ 0) × IsPermittedIn s x 0 0 b
zero_permitted s x d t a b q z h = by (acting_cases s (past_in x) d t a h.thread)
  where
    by : (((d == 0) ≡ true) × (t ≡ 0) × (zero_may_now s (past_in x) a ≡ true)) ⊎ (((d == 0) ≡ false) × (domain_thread (past_in x) d a ≡ Some t)) → (d ≡ 0) × (t ≡ 0) × IsPermittedIn s x 0 0 b
    by (inl m) =
        let w : d ≡ 0 = grind (arith, m.0) in
        (w, m.1, subst (λ (k : ℕ). IsPermittedIn s x k 0 b) w (subst (λ (k : ℕ). IsPermittedIn s x d k b) m.1 (subst (λ (c : Act). IsPermittedIn s x d t c) q h)))
    by (inr m) = absurd (no_domains (past_in x) d t a (ap is_zero_act q ∙ z) m.1)

-- and the step is one of it
pub zero_stepped : (s : System) (old new : NucleusState) (d : ℕ) (a b : Act) (answer : Step) → d ≡ 0 → a ≡ b → IsStepped s old new 0 b answer → IsStepped s old new d a answer
zero_stepped s old new d a b answer w q h =
    subst (λ (k : ℕ). IsStepped s old new k a answer) (sym w) (subst (λ (c : Act). IsStepped s old new 0 c answer) (sym q) h)

-- ---- threads

-- whichever thread is said to go on
pub goes_alike : (x : Tables) (d t : ℕ) (k n : ThreadId) → thread_state_after x d t (act.Go k) ≡ thread_state_after x d t (act.Go n)
unfolding state_after served_after
goes_alike x d t k n = refl

pub yields_as : (x : Tables) (d t : ℕ) → Lists.HasThread x.domains d t → thread.Yielded ≡ thread_state_after x d t act.Yield
unfolding state_or_over state_after
yields_as x d t h = by (Lists.thread_in x.domains d t) h
  where
    by : (o : Option ThreadRecord) → is_some o ≡ true → thread.Yielded ≡ state_or_over (option_map (λ item. (thread_record_after item act.Yield reply.Done).state) o)
    by None h = cc
    by (Some r) h = refl

pub ends_as : (x : Tables) (d t : ℕ) (c : Option ClassId) → thread.Over ≡ thread_state_after x d t (act.EndThread c)
unfolding state_or_over state_after
ends_as x d t c = by (Lists.thread_in x.domains d t)
  where
    by : (o : Option ThreadRecord) → thread.Over ≡ state_or_over (option_map (λ item. (thread_record_after item (act.EndThread c) reply.Done).state) o)
    by None = refl
    by (Some r) = refl

-- ---- what is left

pub plain_left : (a : Act) → HasEntry a → ((i : ClassId) (k : ℕ) → a ≢ act.Export i k) → ((m : List ℕ) (k : ServiceId) → a ≢ act.Bind m k) → ((m : List ℕ) → a ≢ act.Lookup m) → ((k : ServiceId) (m : MethodId) (p : Parcel) → a ≢ act.Call k m p) → ((c : CallId) → a ≢ act.Take c) → ((c : CallId) (p : Parcel) → a ≢ act.Return c p) → ((c : CallId) (p : Parcel) → a ≢ act.Throw c p) → ((c : CallId) → a ≢ act.Resume c) → ((t : ℕ) → a ≢ act.Create t) → a ≢ act.Quiet → a ≢ act.Halt → ((c : ℤ) → a ≢ act.Exit c) → ((r : Reason) → a ≢ act.End r) →
    ((t : ThreadId) → a ≢ act.Go t) → a ≢ act.Yield → ((c : Option ClassId) → a ≢ act.EndThread c) → IsPlain a
plain_left (act.Print text) u v b l w o i j f c q h x e g y n = tt
plain_left (act.Export iface k) u v b l w o i j f c q h x e g y n = absurd (v iface k refl)
plain_left (act.Bind m k) u v b l w o i j f c q h x e g y n = absurd (b m k refl)
plain_left (act.Lookup m) u v b l w o i j f c q h x e g y n = absurd (l m refl)
plain_left (act.Create t) u v b l w o i j f c q h x e g y n = absurd (c t refl)
plain_left act.Quiet u v b l w o i j f c q h x e g y n = absurd (q refl)
plain_left act.Halt u v b l w o i j f c q h x e g y n = absurd (h refl)
plain_left (act.Exit k) u v b l w o i j f c q h x e g y n = absurd (x k refl)
plain_left (act.End r) u v b l w o i j f c q h x e g y n = absurd (e r refl)
plain_left (act.Go t) u v b l w o i j f c q h x e g y n = absurd (g t refl)
plain_left act.Yield u v b l w o i j f c q h x e g y n = absurd (y refl)
plain_left (act.EndThread k) u v b l w o i j f c q h x e g y n = absurd (n k refl)
plain_left (act.Call k m p) u v b l w o i j f c q h x e g y n = absurd (w k m p refl)
plain_left (act.Take z) u v b l w o i j f c q h x e g y n = absurd (o z refl)
plain_left (act.Return z p) u v b l w o i j f c q h x e g y n = absurd (i z p refl)
plain_left (act.Throw z p) u v b l w o i j f c q h x e g y n = absurd (j z p refl)
plain_left (act.Resume z) u v b l w o i j f c q h x e g y n = absurd (f z refl)
plain_left _ u v b l w o i j f c q h x e g y n = absurd u
