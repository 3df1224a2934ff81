-- What an entry more changes of what came of a call.
use Rattle.std.proofs.Common.{if◌then◌else◌, ◌≡◌, refl, ◌∙◌, ap, ℕ, ◌<◌, ◌≤◌, Bool, true, false, ◌||◌, [], ◌∷◌, Option, Some, None, is_some, arith}
use Rattle.jx_base.specs.declared.act.Entry.{Entry}
use Rattle.jx_base.specs.Histories.{Past, nth_entry, count_where}
use Rattle.jx_model.specs.Calls.{Answer, is_call, calls_made, call_entry, first_since, marked, answer_of, answered_by, is_taken, is_resumed, is_take_of, is_resume_of, service_of_call, asked_of}
use Rattle.jx_base.proofs.NthEntries.{nth_old, nth_none, nth_there}
use Rattle.std.specs.Option.{option_or}

-- ---- what comes after a call

-- nothing comes after a call that isn't made
pub since_none : {A : Type 0} (f : Past → Entry → Option A) (past : Past) (c : ℕ) → calls_made past < c → first_since f past c ≡ None
unfolding first_since count_where call_entry
since_none f [] c h = refl
since_none f (e ∷ past) c h =
    rw (since_none f past c (omega (arith, h)), nth_none is_call past c (omega (arith, h))) refl

after_made : {A : Type 0} (o : Option A) (b : Bool) (x : Option A) → b ≡ true →
    (option_or o (if b then x else None)) ≡ (elim o as (λ _. Option A) [ Some a ↦ Some a | None ↦ x ])
after_made None true x h = refl
after_made (Some a) true x h = refl
after_made o false x h = cc

-- a call that is made, in a past that has an entry more
pub since_made : {A : Type 0} (f : Past → Entry → Option A) (e : Entry) (past : Past) (c : ℕ) → 1 ≤ c → c ≤ calls_made past →
    first_since f (e ∷ past) c ≡ (elim (first_since f past c) as (λ _. Option A) [ Some a ↦ Some a | None ↦ f past e ])
unfolding first_since call_entry
since_made f e past c l u = after_made (first_since f past c) (is_some (nth_entry is_call past c)) (f past e) (nth_there is_call past c l u)

-- the call that the entry makes
pub since_new : {A : Type 0} (f : Past → Entry → Option A) (e : Entry) (past : Past) (c : ℕ) → calls_made past < c → first_since f (e ∷ past) c ≡ None
unfolding first_since call_entry
since_new f e past c h = rw (since_none f past c h, nth_none is_call past c h) refl

or_mark : (o : Option (Unit {0})) (b : Bool) → is_some (elim o as (λ _. Option (Unit {0})) [ Some a ↦ Some a | None ↦ marked b ]) ≡ (is_some o || b)
unfolding marked
or_mark (Some a) b = refl
or_mark None true = refl
or_mark None false = refl

pub taken_made : (e : Entry) (past : Past) (c : ℕ) → 1 ≤ c → c ≤ calls_made past → is_taken (e ∷ past) c ≡ (is_taken past c || is_take_of c e.act)
unfolding is_taken
taken_made e past c l u = ap is_some (since_made _ e past c l u) ∙ or_mark _ _

pub resumed_made : (e : Entry) (past : Past) (c : ℕ) → 1 ≤ c → c ≤ calls_made past → is_resumed (e ∷ past) c ≡ (is_resumed past c || is_resume_of c e.act)
unfolding is_resumed
resumed_made e past c l u = ap is_some (since_made _ e past c l u) ∙ or_mark _ _

pub answer_made : (e : Entry) (past : Past) (c : ℕ) → 1 ≤ c → c ≤ calls_made past →
    answer_of (e ∷ past) c ≡ (elim (answer_of past c) as (λ _. Option Answer) [ Some a ↦ Some a | None ↦ answered_by past e c ])
unfolding answer_of
answer_made e past c l u = since_made _ e past c l u

pub entry_made : (e : Entry) (past : Past) (c : ℕ) → c ≤ calls_made past → call_entry (e ∷ past) c ≡ call_entry past c
unfolding call_entry
entry_made e past c u = nth_old is_call e past c (λ q. omega (arith, u, q))

pub asked_made : (e : Entry) (past : Past) (c : ℕ) → c ≤ calls_made past → asked_of (e ∷ past) c ≡ asked_of past c
unfolding asked_of
asked_made e past c u = rw (entry_made e past c u) refl

pub service_made : (e : Entry) (past : Past) (c : ℕ) → c ≤ calls_made past → service_of_call (e ∷ past) c ≡ service_of_call past c
unfolding service_of_call
service_made e past c u = rw (asked_made e past c u) refl
