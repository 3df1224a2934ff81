-- Which domains live, as the history grows.
use Rattle.std.proofs.Common.{◌≡◌, refl, ◌∙◌, ap, ℕ, ◌≤◌, Bool, true, false, ◌&&◌, [], ◌∷◌, ◌++◌, Option, Some, None, is_none, arith, ◌==◌, if◌then◌else◌, inl, inr}
use Rattle.std.specs.Prelude.{nat_lt, nat_le}
use Rattle.std.proofs.lemmas.Bool.Decides.{nat_tests}
use Rattle.jx_base.specs.declared.act.Act.{Act}
use Rattle.jx_base.specs.declared.act.Act.TheVariants as act
use Rattle.jx_base.specs.declared.act.Entry.{Entry}
use Rattle.jx_base.specs.declared.act.Reason.{Reason}
use Rattle.jx_base.specs.declared.program.System.{System}
use Rattle.jx_base.specs.Basics.{is_number}
use Rattle.jx_base.specs.Histories.{Past}
use Rattle.jx_model.specs.Journal.{is_full}
use Rattle.jx_model.specs.Moments.{NonePasses}
use Rattle.jx_model.specs.Domains.{is_birth, domains_made, is_made, is_live, end_reason, reason_for, ended_by}
use Rattle.jx_model.specs.Calls.{ends_domain}
use Rattle.jx_model.specs.Permits.{acting_thread, is_zero_act, zero_may_now, zero_may, is_halt}
use Rattle.jx_model.specs.Legal.{IsNext}
use Rattle.jx_base.proofs.BasicLaws.{both}
use Rattle.jx_base.proofs.NthEntries.{count_grows}
use Rattle.jx_model.proofs.Acting.{acting_cases, domain_cases, running_live}
use Rattle.jx_model.proofs.Serving.{before_end, not_ended_yet, not_ended}
use Rattle.jx_laws.proofs.Basics.{clash, none_more}

-- ---- who acts lives

-- Domain Zero performs its own acts alone
pub zero_acts : (s : System) (past : Past) (a : Act) → zero_may_now s past a ≡ true → is_zero_act a ≡ true
unfolding zero_may_now zero_may is_halt is_zero_act
zero_acts s past (act.Create t) h = refl
zero_acts s past act.Quiet h = refl
zero_acts s past act.Halt h = refl
zero_acts s past _ h = by (is_full s past) h
  where
    by : {A : Type 0} (b : Bool) → (if b then false else false) ≡ true → A
    by true h = cc
    by false h = cc

-- who performs an act that isn't Domain Zero's is live
pub acts_live : (s : System) (past : Past) (d t : ℕ) (a : Act) → is_zero_act a ≡ false → acting_thread s past d a ≡ Some t → is_live past d ≡ true
acts_live s past d t a z h = elim (acting_cases s past d t a h) [
  | inl x ↦ clash (is_zero_act a) (zero_acts s past a x.2) z
  | inr x ↦ elim (domain_cases past d t a x.1) [ inl y ↦ running_live past d t y.0 | inr y ↦ y.1 ]
]

-- the domain of an entry that isn't Domain Zero's is live before it
pub actor_live : (s : System) (past : Past) (e : Entry) → is_zero_act e.act ≡ false → IsNext s past e → is_live past e.domain.0 ≡ true
actor_live s past e z n = acts_live s past e.domain.0 e.thread.0 e.act z n.thread

-- ---- made and ended domains stay so

-- a number that was given stays given as more are
made_more : (d n k : ℕ) → n ≤ k → (nat_lt 0 d && nat_le d n) ≡ true → (nat_lt 0 d && nat_le d k) ≡ true
made_more d n k l h = grind (arith, nat_tests)

-- a domain that was made stays made
pub made_stays : (e : Entry) (past : Past) (d : ℕ) → is_made past d ≡ true → is_made (e ∷ past) d ≡ true
unfolding is_made
made_stays e past d h = made_more d (domains_made past) (domains_made (e ∷ past)) (count_grows is_birth e past) h

-- a domain that was made is made in each later past
pub made_later : (later past : Past) (d : ℕ) → is_made past d ≡ true → is_made (later ++ past) d ≡ true
made_later [] past d h = h
made_later (e ∷ later) past d h = made_stays e (later ++ past) d (made_later later past d h)

-- a live domain was made
pub live_made : (past : Past) (d : ℕ) → is_live past d ≡ true → is_made past d ≡ true
unfolding is_live
live_made past d h = (both (is_made past d) (is_none (end_reason past d)) h).0

-- a domain that was made and hasn't ended is live
pub live_of : (past : Past) (d : ℕ) → is_made past d ≡ true → end_reason past d ≡ None → is_live past d ≡ true
unfolding is_live
live_of past d h i = by (is_made past d) (end_reason past d) h i
  where
    by : (b : Bool) (o : Option Reason) → b ≡ true → o ≡ None → (b && is_none o) ≡ true
    by true None h i = refl
    by false o h i = cc
    by true (Some r) h i = cc

-- a live domain that was made before was live before
pub live_before : (e : Entry) (past : Past) (d : ℕ) → is_made past d ≡ true → is_live (e ∷ past) d ≡ true → is_live past d ≡ true
live_before e past d m h = live_of past d m (before_end e past d (not_ended_yet (e ∷ past) d h)).1

-- a domain that an entry doesn't end, and that hadn't ended, hasn't ended after it
pub still_open : (e : Entry) (past : Past) (d : ℕ) → reason_for (ended_by e) d ≡ None → end_reason past d ≡ None → end_reason (e ∷ past) d ≡ None
unfolding end_reason
still_open e past d r h = ap (λ (o : Option Reason). elim o as (λ _. Option Reason) [ Some x ↦ Some x | None ↦ end_reason past d ]) r ∙ h

-- a live domain that the entry doesn't end stays live
pub live_stays : (e : Entry) (past : Past) (d : ℕ) → is_live past d ≡ true → reason_for (ended_by e) d ≡ None → is_live (e ∷ past) d ≡ true
live_stays e past d h r = live_of (e ∷ past) d (made_stays e past d (live_made past d h)) (still_open e past d r (not_ended_yet past d h))

-- an entry that doesn't end the domain has no reason for it
pub reasonless : (x : Option (ℕ × Reason)) (d : ℕ) → ends_domain x (Some d) ≡ false → reason_for x d ≡ None
unfolding reason_for ends_domain is_number
reasonless None d h = refl
reasonless (Some x) d h = by x.0 x.1 h
  where
    turned : (n : ℕ) (r : Reason) (b : Bool) → (n == d) ≡ b → (d == n) ≡ false → (if b then Some r else None) ≡ None
    turned n r false q h = refl
    turned n r true q h = grind (arith, nat_tests)

    by : (n : ℕ) (r : Reason) → (d == n) ≡ false → (if n == d then Some r else None) ≡ None
    by n r h = turned n r (n == d) refl h

-- no entry of a past ended the domain
pub ended_none : (past : Past) (d : ℕ) → end_reason past d ≡ None → NonePasses (λ e. ends_domain (ended_by e) (Some d)) past
ended_none [] d h = refl
ended_none (e ∷ past) d h =
    let x = before_end e past d h in
    none_more (λ e. ends_domain (ended_by e) (Some d)) e past (not_ended (ended_by e) d x.0) (ended_none past d x.1)
