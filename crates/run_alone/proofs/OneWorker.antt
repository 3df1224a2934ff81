-- One worker goes one way.
use Rattle.std.proofs.Common.{◌≡◌, refl, sym, ◌∙◌, ap, subst, ℕ, ◌<◌, ◌≤◌, Bool, true, false, [], ◌∷◌, ◌++◌, length, Some, arith, ◌⊎◌, inl, inr, reverse}
use Rattle.std.specs.Prelude.{nat_lt}
use Rattle.std.proofs.lemmas.Bool.Decides.{nat_tests}
use Rattle.jx_base.specs.declared.act.Entry.{Entry}
use Rattle.jx_base.specs.declared.act.History.{History}
use Rattle.jx_base.specs.declared.program.System.{System}
use Rattle.jx_base.specs.Histories.{Past, past_of}
use Rattle.jx_base.proofs.BasicLaws.{ap2}
use Rattle.jx_model.specs.Domains.{template_of}
use Rattle.jx_model.specs.Legal.{IsAdmittedPast, IsNext}
use Rattle.jx_model.specs.Permits.{is_over}
use Rattle.jx_model.specs.SingleWorker.{IsPicked, IsSingleWorkerHistory, PicksEach, pick}
use Rattle.supported_acts.specs.SupportedActs.{IsSupported, is_supported}
use Rattle.jx_model.proofs.Growing.{start_admitted}
use Rattle.jx_model.proofs.OneHistory.{ended_is_over, entry_is_next, goes_on_before}
use Rattle.machine_laws.proofs.Lists.{all_reverse, all_right}
use Rattle.supported_acts.specs.SupportedActs.{AreSupported, HasSupportedActs, LacksCode}
use Rattle.table_threads.proofs.Records.{same_or_not}

-- the past is one of one worker
pub record IsWorked (s : System) (past : Past) : Type 0 where
  pub admitted : IsAdmittedPast s past
  pub picked : PicksEach s past

-- what is picked, with its thread and its reply, is one entry
same_entry : (s : System) (past : Past) (e f : Entry) → IsNext s past e → IsPicked s past e → IsNext s past f → IsPicked s past f → e ≡ f
same_entry s past e f n p m q = entry_is_next s past e n p ∙ sym (entry_is_next s past f m q)

-- two pasts of one length are the same
same_past : (s : System) (p q : Past) → IsWorked s p → IsWorked s q → length p ≡ length q → p ≡ q
same_past s [] [] x y l = refl
same_past s [] (f ∷ q) x y l = absurd (omega (arith, l))
same_past s (e ∷ p) [] x y l = absurd (omega (arith, l))
same_past s (e ∷ p) (f ∷ q) x y l =
    let r : p ≡ q = same_past s p q (record { admitted = x.admitted.1; picked = x.picked.1 }) (record { admitted = y.admitted.1; picked = y.picked.1 }) (omega (arith, l)) in
    ap2 (λ (e : Entry) (p : Past). e ∷ p) (same_entry s q e f (subst (λ (p : Past). IsNext s p e) r x.admitted.0) (subst (λ (p : Past). IsPicked s p e) r x.picked.0) y.admitted.0 y.picked.0) r

-- the longer one has an entry right behind the shorter one
pub record GoesOn (p q : Past) : Type 0 where
  pub entry : Entry
  pub later : Past
  pub is : q ≡ later ++ entry ∷ p

longer : (s : System) (p q : Past) → IsWorked s p → IsWorked s q → length p < length q → GoesOn p q
longer s p [] x y l = absurd (omega (arith, l))
longer s p (f ∷ q) x y l = by (same_or_not (length p) (length q)) (longer s p q x rest)
  where
    rest : IsWorked s q
    rest = record { admitted = y.admitted.1; picked = y.picked.1 }

    by : (length p ≡ length q) ⊎ (length p ≡ length q → ⊥) → (length p < length q → GoesOn p q) → GoesOn p (f ∷ q)
    by (inl e) again = record { entry = f; later = []; is = ap (λ (p : Past). f ∷ p) (sym (same_past s p q x rest e)) }
    by (inr n) again = let g = again (omega (arith, n, l)) in record { entry = g.entry; later = f ∷ g.later; is = ap (λ (p : Past). f ∷ p) g.is }

-- what stands in a past was picked so, and has code where all has
picked_at : (s : System) (later past : Past) (e : Entry) → PicksEach s (later ++ e ∷ past) → IsPicked s past e
picked_at s [] past e h = h.0
picked_at s (x ∷ later) past e h = picked_at s later past e h.1

code_at : (later past : Past) (e : Entry) → AreSupported (later ++ e ∷ past) → IsSupported e.act
code_at later past e h = (all_right (λ (e : Entry). IsSupported e.act) later (e ∷ past) h).0

-- ---- lacks of code

worked : (s : System) (t : ℕ) (l : LacksCode s t) → IsWorked s l.past
worked s t l = record { admitted = l.legal.admitted; picked = l.picked }

-- no past of acts with code goes on where the worker comes to one without
stays_there : (s : System) (t : ℕ) (l : LacksCode s t) (q : Past) → PicksEach s q → AreSupported q → GoesOn l.past q → ⊥
stays_there s t l q p u g =
    let picked = picked_at s g.later l.past g.entry (subst (PicksEach s) g.is p) in
    let code : is_supported g.entry.act ≡ true = code_at g.later l.past g.entry (subst AreSupported g.is u) in
    let none : is_supported g.entry.act ≡ false = ap is_supported picked.act ∙ l.no_code in cc

-- the lengths of two lists
compared : (m n : ℕ) → (m ≡ n) ⊎ ((m < n) ⊎ (n < m))
compared m n = by (same_or_not m n) (lower m n)
  where
    tested : (m n : ℕ) (b : Bool) → nat_lt m n ≡ b → (m < n) ⊎ (n ≤ m)
    tested m n true q = inl (grind (arith, nat_tests))
    tested m n false q = inr (grind (arith, nat_tests))

    lower : (m n : ℕ) → (m < n) ⊎ (n ≤ m)
    lower m n = tested m n (nat_lt m n) refl

    by : (m ≡ n) ⊎ (m ≡ n → ⊥) → (m < n) ⊎ (n ≤ m) → (m ≡ n) ⊎ ((m < n) ⊎ (n < m))
    by (inl e) x = inl e
    by (inr d) (inl l) = inr (inl l)
    by (inr d) (inr l) = inr (inr (omega (arith, d, l)))

-- both lacks are of one template
pub one_template : (s : System) (t u : ℕ) → LacksCode s t → LacksCode s u → t ≡ u
one_template s t u l k = elim (compared (length l.past) (length k.past)) [
  | inl e ↦
      let q : l.past ≡ k.past = same_past s l.past k.past (worked s t l) (worked s u k) e in
      let same : Some t ≡ Some u = sym l.template ∙ ap (λ (p : Past). template_of s p (pick s p).domain) q ∙ k.template in cc
  | inr x ↦ absurd (elim x [
    | inl m ↦ stays_there s t l k.past k.picked k.supported (longer s l.past k.past (worked s t l) (worked s u k) m)
    | inr m ↦ stays_there s u k l.past l.picked l.supported (longer s k.past l.past (worked s u k) (worked s t l) m)
  ])
]

-- with a lack there is no history of acts with code
pub no_history : (s : System) (t : ℕ) (h : History) → LacksCode s t → IsSingleWorkerHistory s h → HasSupportedActs h → ⊥
unfolding past_of
no_history s t h l w u = elim (compared (length l.past) (length (reverse h.entries))) [
  | inl e ↦
      let q : l.past ≡ reverse h.entries = same_past s l.past (reverse h.entries) (worked s t l) all e in
      let over : is_over l.past ≡ true = ap is_over q ∙ ended_is_over (reverse h.entries) w.complete.ended in let going = l.going in cc
  | inr x ↦ elim x [
    | inl m ↦ stays_there s t l (reverse h.entries) w.picked (all_reverse (λ (e : Entry). IsSupported e.act) h.entries u) (longer s l.past (reverse h.entries) (worked s t l) all m)
    | inr m ↦
        let g = longer s (reverse h.entries) l.past all (worked s t l) m in
        let n = (start_admitted s g.later (g.entry ∷ reverse h.entries) (subst (IsAdmittedPast s) g.is l.legal.admitted)).0 in
        let over : is_over (reverse h.entries) ≡ true = ended_is_over (reverse h.entries) w.complete.ended in
        let going : is_over (reverse h.entries) ≡ false = goes_on_before s (reverse h.entries) g.entry n in cc
  ]
]
  where
    all : IsWorked s (reverse h.entries)
    all = record { admitted = w.complete.legal.admitted; picked = w.picked }
