-- A permitted act is entered, and what its entry makes of the past.
use Rattle.std.proofs.Common.{◌≡◌, refl, sym, ◌∙◌, ap, ℕ, ◌+◌, ◌<◌, ◌≤◌, Bool, true, false, ◌||◌, [], ◌∷◌, Option, Some, None, is_some, is_none, arith, ◌==◌, ◌⊎◌, inl, inr, if◌then◌else◌}
use Rattle.std.specs.Prelude.{nat_lt}
use Rattle.std.specs.List.{list_any}
use Rattle.std.proofs.lemmas.Bool.Decides.{nat_tests}
use Rattle.jx_base.specs.declared.act.Act.{Act}
use Rattle.jx_base.specs.declared.act.Entry.{Entry}
use Rattle.jx_base.specs.declared.act.Reason.{Reason}
use Rattle.jx_base.specs.declared.program.System.{System}
use Rattle.jx_base.specs.Histories.{Past}
use Rattle.jx_base.proofs.BasicLaws.{both}
use Rattle.program_model.specs.Limits.{entry_limit, journal_limit}
use Rattle.jx_model.specs.Domains.{end_reason, ended_by, is_live, is_made, reason_for}
use Rattle.jx_model.specs.Journal.{entry_words, is_full, words_of}
use Rattle.jx_model.specs.Legal.{IsAdmittedPast}
use Rattle.jx_model.specs.Permits.{acting_thread, is_ending, is_over}
use Rattle.jx_model.specs.WhyNot.{CanBeAsked, why_not}
use Rattle.jx_model.proofs.Reasons.{reasons_given}
use Rattle.nucleus_tables.specs.Stepping.{IsRefusal}
use Rattle.nucleus_tables.specs.declared.step.Ending.TheVariants as ending
use Rattle.nucleus_tables.specs.declared.step.Step.{Step}
use Rattle.nucleus_tables.specs.declared.step.Step.TheVariants as step
use Rattle.table_threads.proofs.Actors.{ended_was_live, live_made}
use Rattle.table_threads.proofs.Records.{not_that}

-- ---- who hasn't ended

-- Domain Zero never ends
pub zero_unended : (s : System) (past : Past) → IsAdmittedPast s past → end_reason past 0 ≡ None
unfolding end_reason reason_for
zero_unended s [] a = refl
zero_unended s (e ∷ past) a = by (ended_by e) refl (zero_unended s past a.1)
  where
    other : (x : ℕ × Reason) → ended_by e ≡ Some x → (x.0 == 0) ≡ false
    other x q = not_that x.0 0 (λ w. omega (arith, w, (live_made past x.0 (ended_was_live s past e x.0 x.1 a.0 q)).low))

    by : (o : Option (ℕ × Reason)) → ended_by e ≡ o → end_reason past 0 ≡ None → (elim (reason_for o 0) as (λ _. Option Reason) [ Some r ↦ Some r | None ↦ end_reason past 0 ]) ≡ None
    by None q again = again
    by (Some x) q again = ap (λ (b : Bool). elim (if b then Some x.1 else None) as (λ _. Option Reason) [ Some r ↦ Some r | None ↦ end_reason past 0 ]) (other x q) ∙ again

-- nor has a live domain
unended : (s : System) (past : Past) (d : ℕ) → IsAdmittedPast s past → (d ≡ 0) ⊎ (is_live past d ≡ true) → end_reason past d ≡ None
unfolding is_live
unended s past d a (inl z) = ap (end_reason past) z ∙ zero_unended s past a
unended s past d a (inr l) = none (end_reason past d) (both (is_made past d) (is_none (end_reason past d)) l).1
  where
    none : (o : Option Reason) → is_none o ≡ true → o ≡ None
    none None h = refl
    none (Some r) h = cc

-- ---- a permitted act isn't refused, but for want of memory

pub never_refused : (s : System) (past : Past) (d r : ℕ) (a : Act) (answer : Step) → IsAdmittedPast s past → CanBeAsked s past d a → acting_thread s past d a ≡ Some r → (answer ≡ step.OutOfMemory → ⊥) → IsRefusal s past d a answer → ⊥
never_refused s past d r a (step.Over ending.Run) h q p w i = cc (q.going, i)
never_refused s past d r a (step.Over (ending.Domain why)) h q p w i = cc (unended s past d h q.actor, i.1)
never_refused s past d r a (step.Full words) h q p w i = elim q.room [ inl f ↦ cc (f, i.full) | inr k ↦ cc (k, i.no_halt) ]
never_refused s past d r a (step.NotNow why) h q p w i =
    let e : is_some (acting_thread s past d a) ≡ is_none (why_not s past d a) = reasons_given s past d a i.asked in
    let x : true ≡ is_none (why_not s past d a) = ap is_some (sym p) ∙ e in
    let y : is_none (why_not s past d a) ≡ false = ap is_none i.reason in cc
never_refused s past d r a (step.Busy pass) h q p w i = i
never_refused s past d r a step.OutOfMemory h q p w i = w refl
never_refused s past d r a (step.Replied t x) h q p w i = i
never_refused s past d r a (step.Born t x j) h q p w i = i

-- ---- the past with the entry

-- an act that doesn't end the run leaves it going
pub goes_on : (e : Entry) (past : Past) → is_over past ≡ false → is_ending e.act ≡ false → is_over (e ∷ past) ≡ false
unfolding is_over
goes_on e past o h = ap (λ (b : Bool). b || list_any (λ (x : Entry). is_ending x.act) past) h ∙ o

-- words grow
pub words_grow : (e : Entry) (past : Past) → words_of past < words_of (e ∷ past)
unfolding words_of entry_words
words_grow e past = omega arith

-- while the journal has room, they are within its limit
pub words_fit : (s : System) (past : Past) → is_full s past ≡ false → words_of past ≤ journal_limit s
unfolding is_full entry_limit
words_fit s past h = within (words_of past) (journal_limit s) h
  where
    within : (w j : ℕ) → nat_lt j (w + 4104) ≡ false → w ≤ j
    within w j h = grind (arith, nat_tests)
