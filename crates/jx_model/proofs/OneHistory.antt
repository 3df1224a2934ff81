-- One worker of a system has one history: the computed one.
use Rattle.std.proofs.Common.{◌≡◌, refl, sym, ◌∙◌, ap, subst, ℕ, zero, suc, ◌+◌, ◌*◌, ◌/◌, ◌<◌, ◌≤◌, Bool, true, false, ◌||◌, List, [], ◌∷◌, ◌++◌, length, reverse, Option, Some, None, is_some, arith, ◌==◌, append_assoc, append-nil, if◌then◌else◌}
use Rattle.std.specs.Prelude.{nat_lt, ⊤}
use Rattle.std.specs.List.{list_any}
use Rattle.std.proofs.lemmas.Bool.Decides.{nat_tests}
use Rattle.std.proofs.lemmas.List.{length-reverse, reverse-append, reverse-reverse}
use Rattle.std.proofs.lemmas.Nat.{le-div}
use Rattle.jx_base.specs.declared.act.Act.{Act}
use Rattle.jx_base.specs.declared.act.Act.TheVariants as act
use Rattle.jx_base.specs.declared.act.Entry.{Entry}
use Rattle.jx_base.specs.declared.act.History.{History}
use Rattle.jx_base.specs.declared.program.System.{System}
use Rattle.jx_base.specs.Histories.{Past, past_of}
use Rattle.program_model.specs.Limits.{entry_limit, journal_limit}
use Rattle.jx_model.specs.Journal.{entry_words, is_full, words_of}
use Rattle.jx_model.specs.Legal.{HasEnded, IsAdmittedPast, IsNext}
use Rattle.jx_model.specs.Permits.{acting_thread, domain_thread, domains_wait, is_ending, is_halt, is_over, next_boot, zero_may, zero_may_now}
use Rattle.jx_model.specs.Replies.{reply_to}
use Rattle.jx_model.specs.SingleWorker.{IsPicked, IsSingleWorkerHistory, PicksEach, Pick, entry_for, next_entry, past_after, pick, single_worker_history}
use Rattle.jx_model.proofs.Growing.{start_admitted}
use Rattle.std.specs.Option.{unwrap_or}

-- ---- what may come next

-- an entry may come next only while the run isn't over
pub goes_on_before : (s : System) (past : Past) (e : Entry) → IsNext s past e → is_over past ≡ false
unfolding acting_thread
goes_on_before s past e n = by (is_over past) refl n.thread
  where
    rest : Option ℕ
    rest =
        if e.domain.0 == 0 then (if zero_may_now s past e.act then Some 0 else None)
        else if domains_wait s past then None else domain_thread past e.domain.0 e.act

    by : (o : Bool) → is_over past ≡ o → (if o then None else rest) ≡ Some e.thread.0 → is_over past ≡ false
    by true q h = cc
    by false q h = q

-- an act other than a halt comes while the journal has room
has_room : (s : System) (past : Past) (d t : ℕ) (a : Act) → is_halt a ≡ false → acting_thread s past d a ≡ Some t → is_full s past ≡ false
unfolding acting_thread zero_may_now domains_wait
has_room s past d t a other h = by (is_over past) (d == 0) (is_full s past) (zero_may s past a) (is_some (next_boot s past)) (is_halt a) other h
  where
    by : (o z f m w x : Bool) → x ≡ false →
        (if o then None else if z then (if (if f then x else m) then Some 0 else None) else if f || w then None else domain_thread past d a) ≡ Some t → f ≡ false
    by true z f m w x n h = cc
    by false z false m w x n h = refl
    by false true true m w true n h = cc
    by false true true m w false n h = cc
    by false false true m w x n h = cc

-- what doesn't end the run is no halt
no_halt : (a : Act) → is_ending a ≡ false → is_halt a ≡ false
unfolding is_ending is_halt
no_halt act.Halt h = cc
no_halt _ h = refl

-- ---- each entry is the one that is computed

-- what the worker picks, with its thread and its reply, is one entry
pub entry_is_next : (s : System) (past : Past) (e : Entry) → IsNext s past e → IsPicked s past e → e ≡ next_entry s past
unfolding next_entry entry_for
entry_is_next s past e n p =
    let thread : e.thread.0 ≡ unwrap_or (acting_thread s past (pick s past).domain (pick s past).act) 0 =
    ap (λ (o : Option ℕ). unwrap_or o 0) (sym n.thread) ∙ (λ i. unwrap_or (acting_thread s past (p.domain i) (p.act i)) 0) in
    let reply : e.reply ≡ reply_to s past (pick s past).domain (pick s past).act = n.reply ∙ (λ i. reply_to s past (p.domain i) (p.act i)) in
    (λ i. record { domain = record { 0 = p.domain i }; thread = record { 0 = thread i }; act = p.act i; reply = reply i })

-- the run is over where the last entry ends it
pub ended_is_over : (past : Past) → HasEnded past → is_over past ≡ true
unfolding is_over
ended_is_over [] h = absurd h
ended_is_over (e ∷ past) h = ap (λ (b : Bool). b || list_any (λ x. is_ending x.act) past) h

-- once the run is over, nothing is added
stays_over : (s : System) (n : ℕ) (past : Past) → is_over past ≡ true → past_after s n past ≡ past
unfolding past_after
stays_over s zero past h = refl
stays_over s (suc n) past h =
    ap (λ (b : Bool). elim b as (λ _. Past) [ true ↦ past | false ↦ past_after s n (next_entry s past ∷ past) ]) h

-- while it isn't, the next entry is
adds_next : (s : System) (n : ℕ) (past : Past) → is_over past ≡ false → past_after s (suc n) past ≡ past_after s n (next_entry s past ∷ past)
unfolding past_after
adds_next s n past h =
    ap (λ (b : Bool). elim b as (λ _. Past) [ true ↦ past | false ↦ past_after s n (next_entry s past ∷ past) ]) h

-- what was picked before was picked so
start_picked : (s : System) (later past : Past) → PicksEach s (later ++ past) → PicksEach s past
start_picked s [] past h = h
start_picked s (e ∷ later) past h = start_picked s later past h.1

-- the entries that follow a past, the oldest first, are those that are computed from it
computed_from : (s : System) (n : ℕ) (es : List Entry) (past : Past) → length es ≤ n →
    IsAdmittedPast s (reverse es ++ past) → PicksEach s (reverse es ++ past) → HasEnded (reverse es ++ past) → past_after s n past ≡ reverse es ++ past
computed_from s n [] past l a p h = stays_over s n past (ended_is_over past h)
computed_from s zero (e ∷ es) past l a p h = absurd (omega (arith, l))
computed_from s (suc n) (e ∷ es) past l a p h =
    let q : reverse (e ∷ es) ++ past ≡ reverse es ++ (e ∷ past) =
    ap (λ (x : Past). x ++ past) (reverse-append (e ∷ []) es) ∙ append_assoc (reverse es) (e ∷ []) past in
    let admitted = subst (IsAdmittedPast s) q a in
    let picked = subst (PicksEach s) q p in
    let next = (start_admitted s (reverse es) (e ∷ past) admitted).0 in
    let first = entry_is_next s past e next (start_picked s (reverse es) (e ∷ past) picked).0 in
    adds_next s n past (goes_on_before s past e next)
    ∙ ap (λ (x : Entry). past_after s n (x ∷ past)) (sym first)
    ∙ computed_from s n es (e ∷ past) (omega (arith, l)) admitted picked (subst HasEnded q h)
    ∙ sym q

-- a history of one worker is what so many entries or more give, from nothing
history_computed : (s : System) (n : ℕ) (h : History) → length h.entries ≤ n → IsSingleWorkerHistory s h → past_after s n [] ≡ past_of h
unfolding past_of
history_computed s n h l w =
    let q : reverse h.entries ++ [] ≡ reverse h.entries = append-nil (reverse h.entries) in
    computed_from s n h.entries [] l (subst (IsAdmittedPast s) (sym q) w.complete.legal.admitted)
    (subst (PicksEach s) (sym q) w.picked) (subst HasEnded (sym q) w.complete.ended)
    ∙ q

-- ---- how many entries there are

-- each entry costs 8 words or more
words_cost : (past : Past) → 8 * length past ≤ words_of past
unfolding words_of entry_words
words_cost [] = omega arith
words_cost (e ∷ past) = omega (arith, words_cost past)

-- where the journal has room, there are fewer entries than an eighth of its words
few_entries : (s : System) (past : Past) → is_full s past ≡ false → length past ≤ journal_limit s / 8
unfolding is_full entry_limit
few_entries s past h =
    let l : nat_lt (journal_limit s) (words_of past + 4104) ≡ false = h in
    let w = words_cost past in
    le-div (length past) (journal_limit s) 8 (omega arith) (within (length past) (words_of past) (journal_limit s) w l)
  where
    within : (n w j : ℕ) → 8 * n ≤ w → nat_lt j (w + 4104) ≡ false → n * 8 ≤ j
    within n w j l h = grind (arith, nat_tests, l)

-- the entry before the last one doesn't end the run
last_goes : (f : Entry) (past : Past) → is_over (f ∷ past) ≡ false → is_ending f.act ≡ false
unfolding is_over
last_goes f past h = by (is_ending f.act) (list_any (λ x. is_ending x.act) past) h
  where
    by : (x y : Bool) → (x || y) ≡ false → x ≡ false
    by true y q = cc
    by false y q = refl

-- an admitted past has at most two entries more than the journal has eighths
few_in_all : (s : System) (past : Past) → IsAdmittedPast s past → length past ≤ journal_limit s / 8 + 2
few_in_all s [] a = omega arith
few_in_all s (e ∷ []) a = omega arith
few_in_all s (e ∷ f ∷ past) a =
    let goes = no_halt f.act (last_goes f past (goes_on_before s (f ∷ past) e a.0)) in
    omega (arith, few_entries s past (has_room s past f.domain.0 f.thread.0 f.act goes a.1.0.thread))

few_of : (s : System) (h : History) → IsSingleWorkerHistory s h → length h.entries ≤ journal_limit s / 8 + 2
unfolding past_of
few_of s h w = omega (arith, few_in_all s (past_of h) w.complete.legal.admitted, length-reverse h.entries)

-- ---- the law

-- two histories of one worker are the same
pub one_history : (s : System) (h k : History) → IsSingleWorkerHistory s h → IsSingleWorkerHistory s k → h ≡ k
unfolding past_of
one_history s h k a b =
    let n : ℕ = length h.entries + length k.entries in
    let same : reverse h.entries ≡ reverse k.entries = sym (history_computed s n h (omega arith) a) ∙ history_computed s n k (omega arith) b in
    let entries : h.entries ≡ k.entries = sym (reverse-reverse h.entries) ∙ ap reverse same ∙ reverse-reverse k.entries in
    (λ i. record { entries = entries i })

-- a history of one worker is the computed one
pub is_computed : (s : System) (h : History) → IsSingleWorkerHistory s h → h.entries ≡ single_worker_history s
unfolding single_worker_history past_of
is_computed s h a =
    sym (reverse-reverse h.entries) ∙ ap reverse (sym (history_computed s (journal_limit s / 8 + 2) h (few_of s h a) a))
