-- Who acts, and whom an entry ends: domains that are made and live.
use Rattle.std.proofs.Common.{◌≡◌, ◌≢◌, refl, sym, ◌∙◌, ap, ℕ, ◌<◌, ◌≤◌, Bool, true, false, ◌&&◌, [], ◌∷◌, Option, Some, None, is_none, arith, ◌==◌, if◌then◌else◌, ◌⊎◌, inl, inr}
use Rattle.std.specs.Prelude.{nat_le, nat_lt}
use Rattle.std.proofs.lemmas.Bool.Decides.{nat_tests}
use Rattle.jx_base.specs.declared.act.Act.{Act}
use Rattle.jx_base.specs.declared.act.Act.TheVariants as act
use Rattle.jx_base.specs.declared.act.Reply.{Reply}
use Rattle.jx_base.specs.declared.act.Reply.TheVariants as reply
use Rattle.jx_base.specs.declared.act.Refusal.TheVariants as refusal
use Rattle.jx_base.specs.declared.ids.DomainId.{DomainId}
use Rattle.jx_base.specs.declared.act.Reason.{Reason}
use Rattle.jx_base.specs.declared.act.Reason.TheVariants as reason
use Rattle.jx_base.specs.declared.act.Entry.{Entry}
use Rattle.jx_base.specs.declared.program.System.{System}
use Rattle.jx_base.specs.Basics.{not_below_zero}
use Rattle.program_model.specs.Limits.{domain_limit}
use Rattle.jx_base.specs.Histories.{Past, is_done, count_where}
use Rattle.jx_model.specs.Domains.{is_live, is_made, is_birth, makes_domain, domains_made, template_named, end_reason, ended_by, ended_by_act, reason_for}
use Rattle.jx_model.specs.Permits.{acting_thread, zero_may, is_halt}
use Rattle.jx_model.specs.Replies.{reply_to, killed, new_domain, spawned, given_or, ◌refuses◌else◌}
use Rattle.jx_model.specs.Legal.{IsNext, IsAdmittedPast}
use Rattle.jx_base.proofs.BasicLaws.{both, eq_of, turned}
use Rattle.jx_base.proofs.NthEntries.{count_grows, count_new, count_same}
use Rattle.jx_model.proofs.Acting.{acting_cases, domain_cases, running_live}
use Rattle.jx_model.proofs.Serving.{in_domain}
use Rattle.jx_model.proofs.DoneReplies.{undone}

-- ---- life

-- a domain that was made has a number
pub record IsMade (past : Past) (d : ℕ) : Type 0 where
  pub low : 1 ≤ d
  pub high : d ≤ domains_made past

-- the test of a number that was made
pub made_is : (past : Past) (d : ℕ) → is_made past d ≡ true → IsMade past d
unfolding is_made
made_is past d h = record { low = low d (domains_made past) h; high = high d (domains_made past) h }
  where
    low : (d n : ℕ) → (nat_lt 0 d && nat_le d n) ≡ true → 1 ≤ d
    low d n h = grind (arith, nat_tests)

    high : (d n : ℕ) → (nat_lt 0 d && nat_le d n) ≡ true → d ≤ n
    high d n h = grind (arith, nat_tests)

-- a number that was made passes the test
pub is_made_at : (past : Past) (d : ℕ) → IsMade past d → is_made past d ≡ true
unfolding is_made
is_made_at past d h = by d (domains_made past) h.low h.high
  where
    by : (d n : ℕ) → 1 ≤ d → d ≤ n → (nat_lt 0 d && nat_le d n) ≡ true
    by d n l u = grind (arith, nat_tests)

-- a live domain was made
pub live_made : (past : Past) (d : ℕ) → is_live past d ≡ true → IsMade past d
unfolding is_live
live_made past d h = made_is past d (both (is_made past d) (is_none (end_reason past d)) h).0

-- one that was made stays so
pub made_stays : (e : Entry) (past : Past) (d : ℕ) → IsMade past d → IsMade (e ∷ past) d
made_stays e past d h = record { low = h.low; high = omega (arith, h.high, count_grows is_birth e past) }

-- what a made domain lives by
pub live_by_reason : (past : Past) (d : ℕ) → IsMade past d → is_live past d ≡ is_none (end_reason past d)
unfolding is_live
live_by_reason past d h = ap (λ (b : Bool). b && is_none (end_reason past d)) (is_made_at past d h)

-- ---- who acts

-- an act that Domain Zero may not perform is of a live domain
pub acts_live : (s : System) (past : Past) (d t : ℕ) (a : Act) → is_halt a ≡ false → zero_may s past a ≡ false → acting_thread s past d a ≡ Some t → is_live past d ≡ true
acts_live s past d t a h z e = elim (domain_cases past d t a (in_domain s past d t a h z e).1) [
  | inl x ↦ running_live past d t x.0
  | inr x ↦ x.1
]

-- the domain of an entry is Domain Zero, or live before it
pub actor_live : (s : System) (past : Past) (e : Entry) → IsNext s past e → (e.domain.0 ≡ 0) ⊎ (is_live past e.domain.0 ≡ true)
actor_live s past e n = elim (acting_cases s past e.domain.0 e.thread.0 e.act n.thread) [
  | inl x ↦ inl (eq_of e.domain.0 0 x.0)
  | inr x ↦ inr (elim (domain_cases past e.domain.0 e.thread.0 e.act x.1) [ inl y ↦ running_live past e.domain.0 e.thread.0 y.0 | inr y ↦ y.1 ])
]

-- a domain that wasn't made performs nothing
pub unmade_acts : (s : System) (past : Past) (e : Entry) (d : ℕ) → IsNext s past e → domains_made past < d → (e.domain.0 == d) ≡ false
unmade_acts s past e d n h = by (e.domain.0 == d) refl (actor_live s past e n)
  where
    by : (b : Bool) → (e.domain.0 == d) ≡ b → (e.domain.0 ≡ 0) ⊎ (is_live past e.domain.0 ≡ true) → b ≡ false
    by false q x = refl
    by true q (inl z) = absurd (omega (arith, z, eq_of e.domain.0 d q, h))
    by true q (inr l) = absurd (omega (arith, (live_made past e.domain.0 l).high, eq_of e.domain.0 d q, h))

-- ---- whom an entry ends

-- a done kill is of a live domain
pub killed_live : (past : Past) (d k : ℕ) → is_done (killed past d k) ≡ true → is_live past k ≡ true
unfolding killed
killed_live past d k h = turned (is_live past k) (undone _ _ _ (undone _ _ _ (undone _ _ _ h).1).1).0

-- whom an entry ends was live before it
pub ended_was_live : (s : System) (past : Past) (e : Entry) (k : ℕ) (why : Reason) → IsNext s past e → ended_by e ≡ Some (k, why) → is_live past k ≡ true
unfolding ended_by ended_by_act reply_to is_halt zero_may
ended_was_live s past e k why n h = by e.act e.reply refl n.reply h
  where
    lives : (a : Act) → e.act ≡ a → is_halt a ≡ false → zero_may s past a ≡ false → is_live past e.domain.0 ≡ true
    lives a p x y = acts_live s past e.domain.0 e.thread.0 a x y (ap (acting_thread s past e.domain.0) (sym p) ∙ n.thread)

    same : (i j : ℕ × Reason) → Some i ≡ Some j → i.0 ≡ j.0
    same i j q = let z : i ≡ j = cc in ap (λ (x : ℕ × Reason). x.0) z

    moved : (r : Reason) (a : Act) → e.act ≡ a → is_halt a ≡ false → zero_may s past a ≡ false → (let x : Option (ℕ × Reason) = Some (e.domain.0, r) in x) ≡ Some (k, why) → is_live past k ≡ true
    moved r a p x y q = let z = same (e.domain.0, r) (k, why) q in ap (is_live past) (sym z) ∙ lives a p x y

    killing : (b : Bool) (j : ℕ) → (let x : Option (ℕ × Reason) = if b then Some (j, reason.Killed) else None in x) ≡ Some (k, why) → (b ≡ true) × (j ≡ k)
    killing true j q = (refl, same (j, reason.Killed) (k, why) q)
    killing false j q = cc

    by : (a : Act) (r : Reply) → e.act ≡ a → r ≡ reply_to s past e.domain.0 a → ended_by_act e.domain.0 a r ≡ Some (k, why) → is_live past k ≡ true
    by (act.Exit code) r p q h = moved (reason.Exit code) (act.Exit code) p refl refl h
    by (act.End x) r p q h = moved x (act.End x) p refl refl h
    by (act.Kill j) r p q h =
        let x = killing (is_done r) (not_below_zero j) h in
        ap (is_live past) (sym x.1) ∙ killed_live past e.domain.0 (not_below_zero j) (ap is_done (sym q) ∙ x.0)
    by _ r p q h = cc

-- ---- whom no entry ended

-- a domain that wasn't made hasn't ended
pub unmade_unended : (s : System) (past : Past) (d : ℕ) → IsAdmittedPast s past → domains_made past < d → end_reason past d ≡ None
unfolding end_reason reason_for
unmade_unended s [] d a h = refl
unmade_unended s (e ∷ past) d a h = by (ended_by e) refl (unmade_unended s past d a.1 before)
  where
    before : domains_made past < d
    before = omega (arith, h, count_grows is_birth e past)

    other : (x : ℕ × Reason) → ended_by e ≡ Some x → (x.0 == d) ≡ false
    other x q = apart x.0 d (live_made past x.0 (ended_was_live s past e x.0 x.1 a.0 q)).high before
      where
        apart : (k d : ℕ) → k ≤ domains_made past → domains_made past < d → (k == d) ≡ false
        apart k d l u = let z : k ≢ d = λ q. omega (arith, q, l, u) in grind (arith, nat_tests)

    by : (o : Option (ℕ × Reason)) → ended_by e ≡ o → end_reason past d ≡ None → (elim (reason_for o d) as (λ _. Option Reason) [ Some r ↦ Some r | None ↦ end_reason past d ]) ≡ None
    by None q again = again
    by (Some x) q again = ap (λ (b : Bool). elim (if b then Some x.1 else None) as (λ _. Option Reason) [ Some r ↦ Some r | None ↦ end_reason past d ]) (other x q) ∙ again

-- ---- how many are made

new_domain_fits : (b : Bool) (rest : Reply) (j : DomainId) (g : ℕ) → reply.Domain j g ≡ (b refuses refusal.TooMany else rest) → b ≡ false
unfolding ◌refuses◌else◌
new_domain_fits true rest j g h = cc
new_domain_fits false rest j g h = refl

-- an entry makes a domain only below the limit
birth_fits : (s : System) (past : Past) (e : Entry) → IsNext s past e → is_birth e ≡ true → nat_le (domain_limit s) (domains_made past) ≡ false
unfolding is_birth makes_domain reply_to new_domain spawned given_or
birth_fits s past e n h = by e.act e.reply n.reply h
  where
    named : (o : Option ℕ) (j : DomainId) (g : ℕ) → reply.Domain j g ≡ given_or o refusal.Unknown (new_domain s past) → nat_le (domain_limit s) (domains_made past) ≡ false
    named None j g q = cc
    named (Some t) j g q = new_domain_fits _ _ j g q

    by : (a : Act) (r : Reply) → r ≡ reply_to s past e.domain.0 a → makes_domain a r ≡ true → nat_le (domain_limit s) (domains_made past) ≡ false
    by (act.Create t) (reply.Domain j g) q h = new_domain_fits _ _ j g q
    by (act.Spawn name) (reply.Domain j g) q h = named (template_named s name) j g q
    by _ _ q h = cc

-- no more domains are made than the limit
pub domains_fit : (s : System) (past : Past) → IsAdmittedPast s past → domains_made past ≤ domain_limit s
unfolding count_where
domains_fit s [] a = least (domain_limit s) refl
  where
    least : (n : ℕ) → domains_made [] ≡ 0 → domains_made [] ≤ n
    least n q = omega (arith, q)
domains_fit s (e ∷ past) a = by (is_birth e) refl (domains_fit s past a.1)
  where
    below : (x y : ℕ) → nat_le x y ≡ false → y < x
    below x y q = grind (arith, nat_tests)

    by : (b : Bool) → is_birth e ≡ b → domains_made past ≤ domain_limit s → domains_made (e ∷ past) ≤ domain_limit s
    by false q again = omega (arith, count_same is_birth e past q, again)
    by true q again = omega (arith, count_new is_birth e past q, below (domain_limit s) (domains_made past) (birth_fits s past e a.0 q))
