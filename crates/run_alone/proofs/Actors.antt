-- What one more entry makes of the actors.
use Rattle.std.proofs.Common.{◌≡◌, ◌≢◌, refl, sym, ◌∙◌, ap, subst, ℕ, suc, zero, ◌+◌, ◌-◌, ◌<◌, ◌≤◌, true, false, List, [], ◌∷◌, ◌++◌, length, Option, Some, None, arith, ◌⊎◌, inl, inr, slice_get, length-append}
use Rattle.std.specs.Prelude.{slice_set}
use Rattle.std.specs.Option.{option_and_then}
use Rattle.std.proofs.lemmas.Option.{slice_get_within}
use Rattle.jx_base.specs.declared.act.Act.TheVariants as act
use Rattle.jx_base.specs.declared.act.Entry.{Entry}
use Rattle.jx_base.specs.declared.program.System.{System}
use Rattle.jx_base.specs.Histories.{Past, count_where, is_own, nth_entry, own_entries}
use Rattle.jx_base.proofs.BasicLaws.{get_left, get_right}
use Rattle.jx_base.proofs.NthEntries.{count_grows, count_new, count_same, nth_new, nth_stays}
use Rattle.jx_model.specs.Domains.{birth_of, domains_made, is_birth, named_template, template_of}
use Rattle.jx_model.specs.Legal.{AllFollowCode, FollowsCode, IsAdmittedPast}
use Rattle.machine_laws.proofs.Lists.{length_set}
use Rattle.domain_machine.specs.Machines.{StandsFor}
use Rattle.table_threads.proofs.Actors.{unmade_acts}
use Rattle.table_threads.proofs.Records.{is_that, not_that, same_or_not}
use Rattle.thread_laws.proofs.OwnEntries.{none_yet, own_more, own_same}
use Rattle.run_alone.specs.Workers.{AreActorsOf, IsActorOf}
use Rattle.run_alone.specs.declared.actor.Actor.{Actor}

-- ---- lists

-- an item that is there
pub there : {A : Type 0} (xs : List A) (k : ℕ) → k < length xs → (x : A) × (slice_get xs k ≡ Some x)
there [] k h = absurd (omega (arith, h))
there (x ∷ xs) zero h = (x, refl)
there (x ∷ xs) (suc k) h = there xs k (omega (arith, h))

-- the items of a list in which one was put
pub set_same : {A : Type 0} (xs : List A) (k : ℕ) (x y : A) → slice_get (slice_set xs k x) k ≡ Some y → x ≡ y
set_same [] k x y h = cc
set_same (z ∷ xs) zero x y h = cc
set_same (z ∷ xs) (suc k) x y h = set_same xs k x y h

pub set_other : {A : Type 0} (xs : List A) (k j : ℕ) (x : A) → j ≢ k → slice_get (slice_set xs k x) j ≡ slice_get xs j
set_other [] k j x h = refl
set_other (z ∷ xs) zero zero x h = absurd (h refl)
set_other (z ∷ xs) zero (suc j) x h = refl
set_other (z ∷ xs) (suc k) zero x h = refl
set_other (z ∷ xs) (suc k) (suc j) x h = set_other xs k j x (λ q. h (ap suc q))

-- ---- domains

-- a template stays
pub template_stays : (s : System) (e : Entry) (past : Past) (d t : ℕ) → template_of s past d ≡ Some t → template_of s (e ∷ past) d ≡ Some t
unfolding template_of birth_of
template_stays s e past d t h = by (nth_entry is_birth past d) refl h
  where
    by : (o : Option Entry) → nth_entry is_birth past d ≡ o → option_and_then (λ (x : Entry). named_template s x.act) o ≡ Some t → option_and_then (λ (x : Entry). named_template s x.act) (nth_entry is_birth (e ∷ past) d) ≡ Some t
    by None q h = cc
    by (Some x) q h = ap (option_and_then (λ (x : Entry). named_template s x.act)) (nth_stays is_birth e past d x q) ∙ h

-- a domain that wasn't made has no entries
pub none_of_unmade : (s : System) (past : Past) (d : ℕ) → IsAdmittedPast s past → domains_made past < d → own_entries past d ≡ []
unfolding is_own
none_of_unmade s [] d a h = none_yet d
none_of_unmade s (e ∷ past) d a h =
    let l : domains_made past < d = omega (arith, h, count_grows is_birth e past) in
    own_same e past d (unmade_acts s past e d a.0 l) ∙ none_of_unmade s past d a.1 l

-- an entry of another leaves an actor
pub actor_stays : (s : System) (e : Entry) (past : Past) (d : ℕ) (x : Actor) → is_own d e ≡ false → IsActorOf s past d x → IsActorOf s (e ∷ past) d x
actor_stays s e past d x q h = record {
  template = template_stays s e past d x.template h.template;
  machine = subst (λ (own : Past). StandsFor s x.template own x.machine) (sym (own_same e past d q)) h.machine;
}

other : (e : Entry) (d : ℕ) → d ≢ e.domain.0 → is_own d e ≡ false
unfolding is_own
other e d h = not_that e.domain.0 d h

itself : (e : Entry) (d : ℕ) → e.domain.0 ≡ d → is_own d e ≡ true
unfolding is_own
itself e d h = is_that e.domain.0 d h

module _ (s : System) (past : Past) (xs : List Actor) (h : AreActorsOf s past xs) where
  -- each domain that was made has its actor
  pub actor_there : (d : ℕ) → 1 ≤ d → d ≤ domains_made past → (x : Actor) × (slice_get xs (d - 1) ≡ Some x) × IsActorOf s past d x
  actor_there d l u =
      let x = there xs (d - 1) (omega (arith, l, u, h.count)) in
      let q : d - 1 + 1 ≡ d = omega (arith, l) in (x.0, x.1, subst (λ (k : ℕ). IsActorOf s past k x.0) q (h.each (d - 1) x.0 x.1))

  -- each follows its code
  pub all_follow : AllFollowCode s past
  all_follow d t l u q =
      let x = actor_there d l u in
      let e : x.0.template ≡ t = cc (x.2.template) in subst (λ (t : ℕ). FollowsCode s t (own_entries past d)) e x.2.machine.follows

  -- an entry of Domain Zero that makes no domain
  pub kept : (e : Entry) → e.domain.0 ≡ 0 → is_birth e ≡ false → AreActorsOf s (e ∷ past) xs
  kept e z b = record {
    count = h.count ∙ sym (count_same is_birth e past b);
    each = λ k x q. actor_stays s e past (k + 1) x (other e (k + 1) (λ w. omega (arith, w, z))) (h.each k x q);
  }

  -- one that makes a domain
  pub added : (e : Entry) (x : Actor) → IsAdmittedPast s (e ∷ past) → e.domain.0 ≡ 0 → is_birth e ≡ true → e.act ≡ act.Create x.template → StandsFor s x.template [] x.machine → AreActorsOf s (e ∷ past) (xs ++ x ∷ [])
  unfolding template_of birth_of named_template
  added e x a z b c m = record {
    count = length-append xs (x ∷ []) ∙ ap (λ (n : ℕ). n + 1) h.count ∙ sym (count_new is_birth e past b);
    each = λ k y q. by k y q (same_or_not k (length xs));
  }
    where
      template : template_of s (e ∷ past) (length xs + 1) ≡ Some x.template
      template =
          ap (option_and_then (λ (x : Entry). named_template s x.act)) (nth_new is_birth e past (length xs + 1) b (ap (λ (n : ℕ). n + 1) h.count))
          ∙ ap (named_template s) c

      own : own_entries (e ∷ past) (length xs + 1) ≡ []
      own =
          own_same e past (length xs + 1) (other e (length xs + 1) (λ w. omega (arith, w, z)))
          ∙ none_of_unmade s past (length xs + 1) a.1 (omega (arith, h.count))

      new : IsActorOf s (e ∷ past) (length xs + 1) x
      new = record { template = template; machine = subst (λ (own : Past). StandsFor s x.template own x.machine) (sym own) m }

      by : (k : ℕ) (y : Actor) → slice_get (xs ++ x ∷ []) k ≡ Some y → (k ≡ length xs) ⊎ (k ≢ length xs) → IsActorOf s (e ∷ past) (k + 1) y
      by k y q (inl w) =
          let i : x ≡ y = cc (get_right xs (x ∷ []) 0 k (omega (arith, w))) in
          subst (λ (n : ℕ). IsActorOf s (e ∷ past) (n + 1) y) (sym w) (subst (IsActorOf s (e ∷ past) (length xs + 1)) i new)
      by k y q (inr w) =
          let l : k < length xs = omega (arith, w, slice_get_within (xs ++ x ∷ []) k y q, length-append xs (x ∷ [])) in
          actor_stays s e past (k + 1) y (other e (k + 1) (λ v. omega (arith, v, z))) (h.each k y (sym (get_left xs (x ∷ []) k l) ∙ q))

  -- the actor of one domain is another one for the same entries
  pub put : (k : ℕ) (x : Actor) → IsActorOf s past (k + 1) x → AreActorsOf s past (slice_set xs k x)
  put k x m = record { count = length_set xs k x ∙ h.count; each = λ j y q. by j y q (same_or_not j k) }
    where
      by : (j : ℕ) (y : Actor) → slice_get (slice_set xs k x) j ≡ Some y → (j ≡ k) ⊎ (j ≢ k) → IsActorOf s past (j + 1) y
      by j y q (inl w) =
          let i : x ≡ y = set_same xs k x y (ap (slice_get (slice_set xs k x)) (sym w) ∙ q) in
          subst (λ (n : ℕ). IsActorOf s past (n + 1) y) (sym w) (subst (IsActorOf s past (k + 1)) i m)
      by j y q (inr w) = h.each j y (sym (set_other xs k j x w) ∙ q)

  -- an entry of one domain, which its machine took
  pub took : (e : Entry) (k : ℕ) (x : Actor) → e.domain.0 ≡ k + 1 → is_birth e ≡ false → template_of s past (k + 1) ≡ Some x.template → StandsFor s x.template (e ∷ own_entries past (k + 1)) x.machine → AreActorsOf s (e ∷ past) (slice_set xs k x)
  took e k x z b t m = record { count = length_set xs k x ∙ h.count ∙ sym (count_same is_birth e past b); each = λ j y q. by j y q (same_or_not j k) }
    where
      new : IsActorOf s (e ∷ past) (k + 1) x
      new = record {
        template = template_stays s e past (k + 1) x.template t;
        machine = subst (λ (own : Past). StandsFor s x.template own x.machine) (sym (own_more e past (k + 1) (itself e (k + 1) z))) m;
      }

      by : (j : ℕ) (y : Actor) → slice_get (slice_set xs k x) j ≡ Some y → (j ≡ k) ⊎ (j ≢ k) → IsActorOf s (e ∷ past) (j + 1) y
      by j y q (inl w) =
          let i : x ≡ y = set_same xs k x y (ap (slice_get (slice_set xs k x)) (sym w) ∙ q) in
          subst (λ (n : ℕ). IsActorOf s (e ∷ past) (n + 1) y) (sym w) (subst (IsActorOf s (e ∷ past) (k + 1)) i new)
      by j y q (inr w) = actor_stays s e past (j + 1) y (other e (j + 1) (λ v. w (omega (arith, v, z)))) (h.each j y (sym (set_other xs k j x w) ∙ q))

-- before the first entry there are none
pub none_at_first : (s : System) → AreActorsOf s [] []
unfolding count_where
none_at_first s = record { count = refl; each = λ k x q. absurd (cc) }
