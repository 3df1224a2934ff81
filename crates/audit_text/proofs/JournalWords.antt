-- The words that entries cost, and the room that an admitted history leaves.
use Rattle.std.proofs.Common.{◌≡◌, refl, ℕ, ◌≤◌, Bool, true, false, ◌||◌, ◌==◌, if◌then◌else◌, [], ◌∷◌, Option, Some, None, is_some, arith}
use Rattle.std.proofs.lemmas.Bool.Decides.{nat_tests}
use Rattle.jx_base.specs.declared.act.Act.{Act}
use Rattle.jx_base.specs.declared.act.Act.TheVariants as act
use Rattle.jx_base.specs.declared.act.Entry.{Entry}
use Rattle.jx_base.specs.declared.program.System.{System}
use Rattle.program_model.specs.Limits.{journal_limit, entry_limit}
use Rattle.jx_base.specs.Histories.{Past}
use Rattle.jx_model.specs.Journal.{words_of, entry_words, is_full}
use Rattle.jx_model.specs.Permits.{acting_thread, zero_may, zero_may_now, domains_wait, domain_thread, is_ending, is_halt, is_over, next_boot}
use Rattle.jx_model.specs.Legal.{IsNext, IsAdmittedPast}
use Rattle.audit_model.specs.AuditText.{before_last}
use Rattle.audit_text.proofs.EntryCosts.{entry_small}
use Rattle.audit_text.proofs.Sums.{entry_sum}

pub words-sum : (past : Past) → words_of past ≡ entry_sum entry_words past
unfolding words_of entry_sum
words-sum [] = refl
words-sum (e ∷ past) = omega (arith, words-sum past)

-- in a full journal the halt alone may come
full_stops : (over domain_zero full boots halt may : Bool) (o : Option ℕ) (t : ℕ) →
    (if over then None else if domain_zero then (if (if full then halt else may) then Some 0 else None) else if full || boots then None else o) ≡ Some t →
    halt ≡ false → full ≡ false
full_stops over domain_zero false boots halt may o t h other = refl
full_stops true domain_zero true boots halt may o t h other = cc
full_stops false true true boots true may o t h other = cc
full_stops false true true boots false may o t h other = cc
full_stops false false true boots halt may o t h other = cc

room_left : (s : System) (past : Past) (d : ℕ) (a : Act) (t : ℕ) → is_halt a ≡ false → acting_thread s past d a ≡ Some t → is_full s past ≡ false
unfolding acting_thread zero_may_now domains_wait
room_left s past d a t other may =
    full_stops (is_over past) (d == 0) (is_full s past) (is_some (next_boot s past)) (is_halt a) (zero_may s past a) (domain_thread past d a) t may other

-- after a run is over nothing may come
over_stops : (over : Bool) (o : Option ℕ) (t : ℕ) → (if over then None else o) ≡ Some t → over ≡ false
over_stops true o t h = cc
over_stops false o t h = refl

not_over : (s : System) (past : Past) (d : ℕ) (a : Act) (t : ℕ) → acting_thread s past d a ≡ Some t → is_over past ≡ false
unfolding acting_thread
not_over s past d a t may = over_stops (is_over past) _ t may

no_ending : (a : Act) (rest : Bool) → (is_ending a || rest) ≡ false → is_halt a ≡ false
unfolding is_ending is_halt
no_ending act.Halt rest h = cc
no_ending _ rest h = refl

before_halt : (e : Entry) (past : Past) → is_over (e ∷ past) ≡ false → is_halt e.act ≡ false
unfolding is_over
before_halt e past h = no_ending e.act _ h

-- what stands before an entry fits the journal
words_before : (s : System) (past : Past) (e : Entry) (halts : Bool) → is_halt e.act ≡ halts → IsNext s past e → IsAdmittedPast s past → words_of past ≤ journal_limit s
unfolding words_of is_full entry_limit
words_before s past e false other next admitted =
    let room : is_full s past ≡ false = room_left s past e.domain.0 e.act e.thread.0 other next.thread in
    grind (arith, nat_tests)
words_before s [] e true halts next admitted = omega arith
words_before s (f ∷ past) e true halts next admitted =
    let before : is_halt f.act ≡ false = before_halt f past (not_over s (f ∷ past) e.domain.0 e.act e.thread.0 next.thread) in
    let room : is_full s past ≡ false = room_left s past f.domain.0 f.act f.thread.0 before admitted.0.thread in
    let cost : entry_words f ≤ 4104 = entry_small s past f admitted.1 admitted.0 in
    grind (arith, nat_tests)

-- the entries before the last one of an admitted history cost no more words than the journal has
pub words_small : (s : System) (past : Past) → IsAdmittedPast s past → words_of (before_last past) ≤ journal_limit s
unfolding before_last words_of
words_small s [] admitted = omega arith
words_small s (e ∷ past) admitted = words_before s past e (is_halt e.act) refl admitted.0 admitted.1
