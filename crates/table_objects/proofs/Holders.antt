-- Which domains hold an object after an entry more.
use Rattle.std.proofs.Common.{◌≡◌, ◌≢◌, refl, sym, ◌∙◌, ap, ℕ, suc, zero, ◌+◌, ◌<◌, ◌≤◌, Bool, true, false, not, cond, ◌&&◌, ◌||◌, List, ◌∷◌, Option, Some, None, arith, ◌==◌, if◌then◌else◌, ◌⊎◌, inl, inr, filter}
use Rattle.std.specs.Prelude.{nat_le}
use Rattle.std.specs.List.{range_with_len}
use Rattle.std.proofs.lemmas.Bool.Decides.{nat_tests}
use Rattle.jx_base.specs.declared.act.Reason.{Reason}
use Rattle.jx_base.specs.declared.act.Entry.{Entry}
use Rattle.jx_base.specs.declared.program.System.{System}
use Rattle.jx_base.specs.Basics.{up_to, contains_number}
use Rattle.program_model.specs.Limits.{domain_limit}
use Rattle.jx_base.specs.Histories.{Past, is_done, is_own}
use Rattle.jx_model.specs.Domains.{is_made, is_live, domains_made, ended_by}
use Rattle.jx_model.specs.Calls.{ends_domain}
use Rattle.jx_model.specs.MemoryObjects.{objects_made}
use Rattle.jx_model.specs.Holding.{received_objects, is_drop_of, keeps_after, keeps_object, holds_object, holders}
use Rattle.jx_model.specs.Tables.{holder_flags}
use Rattle.jx_model.specs.Legal.{IsNext}
use Rattle.jx_base.proofs.BasicLaws.{ap2, ap3, eq_of, and_false, at_most, beyond}
use Rattle.jx_model.proofs.Refusals.{keeps_guarded, objects_grow}
use Rattle.table_threads.proofs.Records.{not_that, is_that, same_or_not, map_range, each_map}
use Rattle.table_threads.specs.Changes.{each_record}
use Rattle.table_threads.proofs.Actors.{IsMade, made_is, is_made_at, made_stays, unmade_acts, actor_live}
use Rattle.table_threads.proofs.CallStages.{live_after}
use Rattle.table_objects.specs.HolderChanges.{gives_object, drops_object, held_after}

-- ---- what is made

above : (a b : ℕ) → b < a → nat_le a b ≡ false
above a b l = grind (arith, nat_tests)

within : (a b : ℕ) → a ≤ b → nat_le a b ≡ true
within a b l = grind (arith, nat_tests)

none_first : (x y z : Bool) → x ≡ false → (x && y && z) ≡ false
none_first false y z h = refl
none_first true y z h = cc

none_second : (x y z : Bool) → y ≡ false → (x && y && z) ≡ false
none_second true true z h = cc
none_second true false z h = refl
none_second false y z h = refl

-- nobody keeps what isn't made
pub keeps_none : (past : Past) (d m : ℕ) → objects_made past < m → keeps_object past d m ≡ false
keeps_none past d m h = sym (keeps_guarded past d m) ∙ none_second (is_made past d) (nat_le m (objects_made past)) (keeps_object past d m) (above m (objects_made past) h)

unmade : (past : Past) (d : ℕ) → domains_made past < d → is_made past d ≡ false
unmade past d h = by (is_made past d) refl
  where
    by : (b : Bool) → is_made past d ≡ b → b ≡ false
    by false q = refl
    by true q = absurd (omega (arith, (made_is past d q).high, h))

-- who isn't made keeps nothing
pub unmade_keeps : (past : Past) (d m : ℕ) → domains_made past < d → keeps_object past d m ≡ false
unmade_keeps past d m h = sym (keeps_guarded past d m) ∙ none_first (is_made past d) (nat_le m (objects_made past)) (keeps_object past d m) (unmade past d h)

-- who keeps is made, and what it keeps too
pub keeps_made : (past : Past) (d m : ℕ) → keeps_object past d m ≡ true → IsMade past d
keeps_made past d m h = made_is past d (by (is_made past d) (nat_le m (objects_made past)) (keeps_object past d m) (keeps_guarded past d m ∙ h))
  where
    by : (x y z : Bool) → (x && y && z) ≡ true → x ≡ true
    by true y z h = refl
    by false y z h = cc

-- what a made domain keeps of a made object after an entry
pub keeps_step : (e : Entry) (past : Past) (d m : ℕ) → IsMade (e ∷ past) d → m ≤ objects_made (e ∷ past) → keeps_object (e ∷ past) d m ≡ keeps_after d m e (keeps_object past d m)
unfolding keeps_object
keeps_step e past d m q h = ap2 (λ (x y : Bool). x && y && keeps_after d m e (keeps_object past d m)) (is_made_at (e ∷ past) d q) (within m (objects_made (e ∷ past)) h)

-- ---- one domain and one object

-- whether a domain that was made before holds an object after an entry
pub holds_step : (e : Entry) (past : Past) (d m : ℕ) → IsMade past d → m ≤ objects_made (e ∷ past) →
    holds_object (e ∷ past) d m ≡ (is_live past d && not (ends_domain (ended_by e) (Some d)) && (if gives_object e d m then true else if drops_object e d m then false else keeps_object past d m))
unfolding holds_object keeps_after
holds_step e past d m q h = ap2 (λ (x y : Bool). x && y) (live_after e past d q) (keeps_step e past d m (made_stays e past d q) h)

-- where the entry neither gives nor drops it
pub holds_kept : (e : Entry) (past : Past) (d m : ℕ) → IsMade past d → m ≤ objects_made (e ∷ past) → gives_object e d m ≡ false → drops_object e d m ≡ false →
    holds_object (e ∷ past) d m ≡ (holds_object past d m && not (ends_domain (ended_by e) (Some d)))
unfolding holds_object
holds_kept e past d m q h g r =
    holds_step e past d m q h
    ∙ ap2 (λ (x y : Bool). is_live past d && not (ends_domain (ended_by e) (Some d)) && (if x then true else if y then false else keeps_object past d m)) g r
    ∙ turn (is_live past d) (not (ends_domain (ended_by e) (Some d))) (keeps_object past d m)
  where
    turn : (x y z : Bool) → (x && y && z) ≡ ((x && z) && y)
    turn true true true = refl
    turn true true false = refl
    turn true false true = refl
    turn true false false = refl
    turn false y z = refl

-- a domain that the entry makes holds nothing
pub newborn_holds : (s : System) (e : Entry) (past : Past) (d m : ℕ) → IsNext s past e → domains_made past < d → holds_object (e ∷ past) d m ≡ false
unfolding holds_object keeps_object keeps_after is_own
newborn_holds s e past d m n h =
    ap2 (λ (o k : Bool). is_live (e ∷ past) d && (is_made (e ∷ past) d && nat_le m (objects_made (e ∷ past)) && (if o && contains_number (received_objects e.act e.reply) m then true else if o && is_done e.reply && is_drop_of m e.act then false else k)))
    (unmade_acts s past e d n h) (unmade_keeps past d m h)
    ∙ by (is_live (e ∷ past) d) (is_made (e ∷ past) d) (nat_le m (objects_made (e ∷ past)))
  where
    by : (x y z : Bool) → (x && (y && z && false)) ≡ false
    by x y z = ap (λ (b : Bool). x && b) (and_false (y && z)) ∙ and_false x

-- ---- the holders of an object

-- what is in the numbers that pass
pub contains_kept : (p : ℕ → Bool) (a n k : ℕ) → a ≤ k → k < a + n → contains_number (filter p (range_with_len a n)) k ≡ p k
unfolding contains_number
contains_kept p a zero k l u = absurd (omega (arith, l, u))
contains_kept p a (suc n) k l u = by (same_or_not a k) (contains_kept p (a + 1) n k)
  where
    absent : (b n : ℕ) → k < b → contains_number (filter p (range_with_len b n)) k ≡ false
    absent b zero l = refl
    absent b (suc n) l = none (p b) (filter p (range_with_len (b + 1) n)) (absent (b + 1) n (omega (arith, l)))
      where
        none : (x : Bool) (ys : List ℕ) → contains_number ys k ≡ false → contains_number (cond x (b ∷ ys) ys) k ≡ false
        none true ys h = ap (λ (q : Bool). q || contains_number ys k) (not_that b k (λ z. omega (arith, z, l))) ∙ h
        none false ys h = h

    here : (x : Bool) (ys : List ℕ) → contains_number ys k ≡ false → a ≡ k → contains_number (cond x (a ∷ ys) ys) k ≡ x
    here true ys h q = ap (λ (b : Bool). b || contains_number ys k) (is_that a k q)
    here false ys h q = h

    later : (x : Bool) (ys : List ℕ) → contains_number ys k ≡ p k → a ≢ k → contains_number (cond x (a ∷ ys) ys) k ≡ p k
    later true ys h q = ap (λ (b : Bool). b || contains_number ys k) (not_that a k (λ z. q (sym z))) ∙ h
    later false ys h q = h

    by : (a ≡ k) ⊎ (a ≢ k) → (a + 1 ≤ k → k < a + 1 + n → contains_number (filter p (range_with_len (a + 1) n)) k ≡ p k) → contains_number (filter p (range_with_len a (suc n))) k ≡ p k
    by (inl q) again = here (p a) (filter p (range_with_len (a + 1) n)) (absent (a + 1) n (omega (arith, q))) q ∙ ap p q
    by (inr d) again = later (p a) (filter p (range_with_len (a + 1) n)) (again (omega (arith, l, d)) (omega (arith, u))) d

-- who is among the holders holds
pub holder_is : (past : Past) (d m : ℕ) → IsMade past d → contains_number (holders past m) d ≡ holds_object past d m
unfolding holders up_to
holder_is past d m h = contains_kept (λ d. holds_object past d m) 1 (domains_made past) d h.low (omega (arith, h.high))

-- ---- the flags of an object's holders

pub own_lives : (s : System) (past : Past) (e : Entry) (d : ℕ) → IsNext s past e → 1 ≤ d → (e.domain.0 == d) ≡ true → is_live past d ≡ true
own_lives s past e d n l q = by (actor_live s past e n)
  where
    by : (e.domain.0 ≡ 0) ⊎ (is_live past e.domain.0 ≡ true) → is_live past d ≡ true
    by (inl x) = absurd (omega (arith, x, l, eq_of e.domain.0 d q))
    by (inr x) = ap (is_live past) (sym (eq_of e.domain.0 d q)) ∙ x

-- whether any domain number holds an old object after an entry
pub holds_every : (s : System) (e : Entry) (past : Past) (d m : ℕ) → IsNext s past e → 1 ≤ d → m ≤ objects_made past → holds_object (e ∷ past) d m ≡ held_after e m d (holds_object past d m)
unfolding holds_object is_own
holds_every s e past d m n l h = by (nat_le d (domains_made past)) refl
  where
    turn : (l n o g r w : Bool) → (o ≡ true → l ≡ true) → (l && n && (if o && g then true else if r then false else w)) ≡ (n && ((o && g) || (not r && (l && w))))
    turn true true true true r w h = refl
    turn true true true false true w h = refl
    turn true true true false false w h = refl
    turn true true false g true w h = refl
    turn true true false g false w h = refl
    turn true false o g r w h = refl
    turn false n true g r w h = cc (h refl)
    turn false true false g true w h = refl
    turn false true false g false w h = refl
    turn false false false g r w h = refl

    nothing : (n g r l : Bool) → (n && ((false && g) || (not r && (l && false)))) ≡ false
    nothing n g r l = ap (λ (b : Bool). n && (not r && b)) (and_false l) ∙ ap (λ (b : Bool). n && b) (and_false (not r)) ∙ and_false n

    by : (b : Bool) → nat_le d (domains_made past) ≡ b → holds_object (e ∷ past) d m ≡ held_after e m d (holds_object past d m)
    by true q =
        holds_step e past d m (record { low = l; high = at_most d (domains_made past) q }) (omega (arith, h, objects_grow e past))
        ∙ turn (is_live past d) (not (ends_domain (ended_by e) (Some d))) (e.domain.0 == d) (contains_number (received_objects e.act e.reply) m) (drops_object e d m) (keeps_object past d m) (own_lives s past e d n l)
    by false q =
        let u = beyond d (domains_made past) q in
        newborn_holds s e past d m n u
        ∙ sym (ap2 (λ (o k : Bool). not (ends_domain (ended_by e) (Some d)) && ((o && contains_number (received_objects e.act e.reply) m) || (not (drops_object e d m) && (is_live past d && k)))) (unmade_acts s past e d n u) (unmade_keeps past d m u)
        ∙ nothing (not (ends_domain (ended_by e) (Some d))) (contains_number (received_objects e.act e.reply) m) (drops_object e d m) (is_live past d))

-- each flag after an entry comes from that flag alone
pub flags_every : (s : System) (e : Entry) (past : Past) (m : ℕ) → IsNext s past e → m ≤ objects_made past → holder_flags s (e ∷ past) m ≡ each_record (held_after e m) (holder_flags s past m)
unfolding up_to
flags_every s e past m n h =
    map_range (λ d. holds_object (e ∷ past) d m) (λ d. held_after e m d (holds_object past d m)) 1 (domain_limit s) (λ d l u. holds_every s e past d m n l h)
    ∙ sym (each_map (held_after e m) (λ d. holds_object past d m) 1 (domain_limit s))

-- they stay where the entry neither gives nor drops the object nor ends a domain
pub flags_same : (s : System) (e : Entry) (past : Past) (m : ℕ) → IsNext s past e → m ≤ objects_made past → ended_by e ≡ None → ((d : ℕ) → gives_object e d m ≡ false) → ((d : ℕ) → drops_object e d m ≡ false) →
    holder_flags s (e ∷ past) m ≡ holder_flags s past m
unfolding up_to ends_domain
flags_same s e past m n h z g r =
    map_range (λ d. holds_object (e ∷ past) d m) (λ d. holds_object past d m) 1 (domain_limit s) (λ d l u.
    holds_every s e past d m n l h ∙ ap3 (λ (x : Option (ℕ × Reason)) (p q : Bool). not (ends_domain x (Some d)) && (p || (not q && holds_object past d m))) z (g d) (r d))
