-- What the queues have of the calls, before and after a change.
use Rattle.std.proofs.Common.{◌≡◌, ◌≢◌, refl, sym, ◌∙◌, ap, subst, ℕ, suc, zero, ◌-◌, ◌<◌, ◌≤◌, Bool, true, false, not, cond, ◌||◌, ◌&&◌, append-nil, List, [], ◌∷◌, ◌++◌, length, get_or, replicate, Some, slice_get, arith, ◌==◌, ◌⊎◌, inl, inr}
use Rattle.std.proofs.lemmas.List.{length-replicate}
use Rattle.std.proofs.lemmas.Option.{slice_get_past, slice_get_read}
use Rattle.jx_base.specs.declared.states.CallState.{CallState}
use Rattle.jx_base.specs.declared.states.CallState.TheVariants as call
use Rattle.jx_base.specs.Basics.{passes}
use Rattle.jx_base.proofs.BasicLaws.{and_false}
use Rattle.table_threads.specs.Changes.{changed_at}
use Rattle.table_threads.proofs.Records.{is_that, not_that, same_or_not}
use Rattle.call_table.specs.declared.calls.Call.{Call}
use Rattle.call_table.specs.declared.calls.Calls.TheInside.{Inside}
use Rattle.call_table.specs.CallLists.{CallsState, IsPending, in_state, is_answered_call, is_queued_for, is_queued_call, is_running_for, is_running_call}
use Rattle.call_table.specs.Inner.{IsCalls, IsWide, calls_state, places}
use Rattle.call_table.specs.QueueLists.{IsFree, IsIn, QueuesState, has, queue_at, with_last, without}
use Rattle.call_table.proofs.Lists.{length_changed}
use Rattle.call_table.proofs.Members.{has_append, has_without}
use Rattle.call_table.proofs.Waiting.{has_places, passes_come, passes_left, passes_more, passes_same, places_left, places_more, places_same}
use Rattle.call_table.proofs.CallPlaces.{HasPlace, has_place, holds_there}

-- ---- queues that change

pub queue_changed : (x : QueuesState) (q : ℕ) (f : List ℕ → List ℕ) → q < length x.queues → queue_at (record x { queues = changed_at q f x.queues }) q ≡ f (queue_at x q)
queue_changed x q f l = by x.queues q l
  where
    by : (qs : List (List ℕ)) (i : ℕ) → i < length qs → get_or (changed_at i f qs) i [] ≡ f (get_or qs i [])
    by [] i l = absurd (omega (arith, l))
    by (y ∷ qs) zero l = refl
    by (y ∷ qs) (suc i) l = by qs i (omega (arith, l))

pub queue_other : (x : QueuesState) (q s : ℕ) (f : List ℕ → List ℕ) → q ≢ s → queue_at (record x { queues = changed_at q f x.queues }) s ≡ queue_at x s
queue_other x q s f d = by x.queues q s d
  where
    by : (qs : List (List ℕ)) (i j : ℕ) → i ≢ j → get_or (changed_at i f qs) j [] ≡ get_or qs j []
    by [] i j d = refl
    by (y ∷ qs) zero zero d = absurd (d refl)
    by (y ∷ qs) zero (suc j) d = refl
    by (y ∷ qs) (suc i) zero d = refl
    by (y ∷ qs) (suc i) (suc j) d = by qs i j (λ e. d (ap suc e))

-- a queue that has a number is there
pub queue_there : (x : QueuesState) (q i : ℕ) → IsIn x q i → q < length x.queues
queue_there x q i h = by x.queues q h
  where
    by : (qs : List (List ℕ)) (k : ℕ) → has (get_or qs k []) i ≡ true → k < length qs
    by [] k h = cc
    by (y ∷ qs) zero h = omega arith
    by (y ∷ qs) (suc k) h = let l = by qs k h in omega (arith, l)

-- ---- what the queues are

abbrev pub AreQueued : List Call → QueuesState → Type 0
AreQueued calls x = (s : ℕ) → queue_at x s ≡ places (is_queued_for s) calls

abbrev pub AreRunning : List Call → QueuesState → Type 0
AreRunning calls x = (s i : ℕ) → has (queue_at x s) i ≡ passes (is_running_for s) (slice_get calls i)

-- a queue has the places of its calls
pub queued_has : (calls : List Call) (x : QueuesState) (s i : ℕ) → AreQueued calls x → has (queue_at x s) i ≡ passes (is_queued_for s) (slice_get calls i)
queued_has calls x s i h = ap (λ (xs : List ℕ). has xs i) (h s) ∙ has_places (is_queued_for s) calls i

-- no queue is of a call that wasn't made
pub free_past : (calls : List Call) (x : QueuesState) (n : ℕ) → AreQueued calls x → length calls ≤ n → IsFree x n
unfolding passes
free_past calls x n h l = λ q m. queued_has calls x q n h ∙ ap (passes (is_queued_for q)) (slice_get_past calls n l)

-- a call that doesn't run is in no list of those that do
pub free_waiting : (calls : List Call) (x : QueuesState) (n : ℕ) (c : Call) → AreRunning calls x → slice_get calls n ≡ Some c → is_running_call c.state ≡ false → IsFree x n
unfolding passes
free_waiting calls x n c h at w = λ q m. h q n ∙ ap (passes (is_running_for q)) at ∙ ap (λ (b : Bool). (c.service.0 == q) && b) w ∙ and_false (c.service.0 == q)

-- queues are as wide after one changed
pub wide_changed : (limit : ℕ) (x : QueuesState) (q : ℕ) (f : List ℕ → List ℕ) → IsWide limit x → IsWide limit (record x { queues = changed_at q f x.queues })
wide_changed limit x q f h = record { queues = length_changed q f x.queues ∙ h.queues; room = h.room }

-- ---- no calls

empty_at : (n s : ℕ) → get_or {A = List ℕ} (replicate n []) s [] ≡ []
empty_at zero s = refl
empty_at (suc n) zero = refl
empty_at (suc n) (suc s) = empty_at n s

-- empty queues
abbrev pub no_queues : ℕ → QueuesState
no_queues limit = record { queues = replicate 257 []; room = limit }

pub queued_none : (limit : ℕ) → AreQueued [] (no_queues limit)
queued_none limit = λ s. empty_at 257 s

pub running_none : (limit : ℕ) → AreRunning [] (no_queues limit)
unfolding passes
running_none limit = λ s i. ap (λ (xs : List ℕ). has xs i) (empty_at 257 s)

pub wide_none : (limit : ℕ) → IsWide limit (no_queues limit)
wide_none limit = record { queues = length-replicate {A = List ℕ} 257 []; room = refl }

-- ---- a call more

pub queued_more : (calls : List Call) (x : QueuesState) (c : Call) → AreQueued calls x → is_queued_call c.state ≡ true → c.service.0 < length x.queues →
    AreQueued (calls ++ c ∷ []) (record x { queues = changed_at c.service.0 (with_last (length calls)) x.queues })
queued_more calls x c h w l = λ s. by s (same_or_not c.service.0 s)
  where
    by : (s : ℕ) → (c.service.0 ≡ s) ⊎ (c.service.0 ≢ s) → queue_at (record x { queues = changed_at c.service.0 (with_last (length calls)) x.queues }) s ≡ places (is_queued_for s) (calls ++ c ∷ [])
    by s (inl e) =
        let test : is_queued_for s c ≡ true = ap (λ (b : Bool). b && is_queued_call c.state) (is_that c.service.0 s e) ∙ w in
        ap (queue_at (record x { queues = changed_at c.service.0 (with_last (length calls)) x.queues })) (sym e)
        ∙ queue_changed x c.service.0 (with_last (length calls)) l
        ∙ ap (λ (k : ℕ). with_last (length calls) (queue_at x k)) e
        ∙ ap (with_last (length calls)) (h s)
        ∙ ap (λ (b : Bool). places (is_queued_for s) calls ++ cond b (length calls ∷ []) []) (sym test)
        ∙ sym (places_more (is_queued_for s) calls c)
    by s (inr d) =
        let test : is_queued_for s c ≡ false = ap (λ (b : Bool). b && is_queued_call c.state) (not_that c.service.0 s (λ e. d (sym e))) in
        queue_other x c.service.0 s (with_last (length calls)) d
        ∙ h s
        ∙ sym (append-nil (places (is_queued_for s) calls))
        ∙ ap (λ (b : Bool). places (is_queued_for s) calls ++ cond b (length calls ∷ []) []) (sym test)
        ∙ sym (places_more (is_queued_for s) calls c)

pub running_more : (calls : List Call) (x : QueuesState) (c : Call) → AreRunning calls x → is_running_call c.state ≡ false → AreRunning (calls ++ c ∷ []) x
running_more calls x c h w = λ s i.
    h s i
    ∙ sym (passes_more (is_running_for s) calls c i (ap (λ (b : Bool). (c.service.0 == s) && b) w ∙ and_false (c.service.0 == s)))

-- ---- a call in another state

-- an answered call neither waits nor runs
pub answered_else : (state : CallState) → is_answered_call state ≡ true → (is_queued_call state ≡ false) × (is_running_call state ≡ false)
answered_else call.Queued h = cc
answered_else call.Running h = cc
answered_else (call.Answered k) h = (refl, refl)
answered_else call.Resumed h = cc

-- a queued call doesn't run
pub queued_else : (state : CallState) → is_queued_call state ≡ true → is_running_call state ≡ false
queued_else call.Queued h = refl
queued_else call.Running h = cc
queued_else (call.Answered k) h = cc
queued_else call.Resumed h = cc

-- a call of another service passes neither before nor after
other_service : (t : CallState → Bool) (c : Call) (state : CallState) (s : ℕ) → c.service.0 ≢ s → ((c.service.0 == s) && t c.state) ≡ ((c.service.0 == s) && t state)
other_service t c state s d = rw (not_that c.service.0 s (λ e. d (sym e))) refl

-- neither does one in states that don't pass
same_states : (t : CallState → Bool) (c : Call) (state : CallState) (s : ℕ) → t c.state ≡ false → t state ≡ false → ((c.service.0 == s) && t c.state) ≡ ((c.service.0 == s) && t state)
same_states t c state s a b = rw (a, b) refl

-- a call that runs doesn't wait
pub running_else : (state : CallState) → is_running_call state ≡ true → is_queued_call state ≡ false
running_else call.Queued h = cc
running_else call.Running h = refl
running_else (call.Answered k) h = cc
running_else call.Resumed h = cc

-- a call without an answer that isn't queued runs
pub pending_else : (state : CallState) → (is_queued_call state || is_running_call state) ≡ true → (state ≡ call.Queued → ⊥) → is_running_call state ≡ true
pending_else call.Queued h n = absurd (n refl)
pending_else call.Running h n = refl
pending_else (call.Answered k) h n = cc
pending_else call.Resumed h n = cc

-- a queued call is in the queue of its service
pub in_queue : (x : Inside) (n : ℕ) (c : Call) → IsCalls x → slice_get x.calls.items n ≡ Some c → is_queued_call c.state ≡ true → IsIn x.queued c.service.0 n
unfolding passes
in_queue x n c h at w =
    queued_has x.calls.items x.queued c.service.0 n h.queued
    ∙ ap (passes (is_queued_for c.service.0)) at
    ∙ ap (λ (b : Bool). b && is_queued_call c.state) (is_that c.service.0 c.service.0 refl)
    ∙ w

-- one that runs is in the other list
pub in_running : (x : Inside) (n : ℕ) (c : Call) → IsCalls x → slice_get x.calls.items n ≡ Some c → is_running_call c.state ≡ true → IsIn x.running c.service.0 n
unfolding passes
in_running x n c h at w =
    h.running c.service.0 n
    ∙ ap (passes (is_running_for c.service.0)) at
    ∙ ap (λ (b : Bool). b && is_running_call c.state) (is_that c.service.0 c.service.0 refl)
    ∙ w

-- the call of a number that waits for its answer
pub record IsOpen (x : Inside) (n : ℕ) (c : Call) : Type 0 where
  pub at : slice_get x.calls.items (n - 1) ≡ Some c
  pub pending : (is_queued_call c.state || is_running_call c.state) ≡ true

pub is_open : (x : Inside) (y : CallsState) (n : ℕ) (c : Call) → calls_state x ≡ y → IsPending y n → c ≡ get_or x.calls.items (n - 1) c → IsOpen x n c
is_open x y n c same h read =
    let calls = x.calls.items in
    let pending : IsPending (calls_state x) n = subst (λ (z : CallsState). IsPending z n) (sym same) h in
    let place = has_place calls n (λ z. (is_queued_call z.state || is_running_call z.state) ≡ true) pending in
    let at : slice_get calls (n - 1) ≡ Some c = slice_get_read calls (length calls) (n - 1) c refl place.within read in
    record { at = at; pending = holds_there calls n (λ z. (is_queued_call z.state || is_running_call z.state) ≡ true) c pending place.from_one at }

-- the number of a call that waits for its answer
pub pending_place : (y : CallsState) (n : ℕ) → IsPending y n → HasPlace y.calls n
pending_place y n h = has_place y.calls n (λ z. (is_queued_call z.state || is_running_call z.state) ≡ true) h

pub queued_same : (calls : List Call) (x : QueuesState) (n : ℕ) (c : Call) (state : CallState) → AreQueued calls x → slice_get calls n ≡ Some c →
    is_queued_call c.state ≡ false → is_queued_call state ≡ false → AreQueued (changed_at n (in_state state) calls) x
queued_same calls x n c state h at a b = λ s. h s ∙ sym (places_same (is_queued_for s) calls n (in_state state) c at (same_states is_queued_call c state s a b))

pub running_same : (calls : List Call) (x : QueuesState) (n : ℕ) (c : Call) (state : CallState) → AreRunning calls x → slice_get calls n ≡ Some c →
    is_running_call c.state ≡ false → is_running_call state ≡ false → AreRunning (changed_at n (in_state state) calls) x
running_same calls x n c state h at a b = λ s i. h s i ∙ sym (passes_same (is_running_for s) calls n (in_state state) c i at (same_states is_running_call c state s a b))

-- it leaves its queue
pub queued_left : (calls : List Call) (x : QueuesState) (n : ℕ) (c : Call) (state : CallState) → AreQueued calls x → slice_get calls n ≡ Some c → c.service.0 < length x.queues →
    is_queued_call state ≡ false → AreQueued (changed_at n (in_state state) calls) (record x { queues = changed_at c.service.0 (without n) x.queues })
queued_left calls x n c state h at l b = λ s. by s (same_or_not c.service.0 s)
  where
    by : (s : ℕ) → (c.service.0 ≡ s) ⊎ (c.service.0 ≢ s) → queue_at (record x { queues = changed_at c.service.0 (without n) x.queues }) s ≡ places (is_queued_for s) (changed_at n (in_state state) calls)
    by s (inl e) =
        let gone : is_queued_for s (in_state state c) ≡ false = ap (λ (b : Bool). (c.service.0 == s) && b) b ∙ and_false (c.service.0 == s) in
        ap (queue_at (record x { queues = changed_at c.service.0 (without n) x.queues })) (sym e)
        ∙ queue_changed x c.service.0 (without n) l
        ∙ ap (λ (k : ℕ). without n (queue_at x k)) e
        ∙ ap (without n) (h s)
        ∙ sym (places_left (is_queued_for s) calls n (in_state state) c at gone)
    by s (inr d) =
        queue_other x c.service.0 s (without n) d
        ∙ h s
        ∙ sym (places_same (is_queued_for s) calls n (in_state state) c at (other_service is_queued_call c state s d))

-- it runs no more
pub running_left : (calls : List Call) (x : QueuesState) (n : ℕ) (c : Call) (state : CallState) → AreRunning calls x → slice_get calls n ≡ Some c → c.service.0 < length x.queues →
    is_running_call state ≡ false → AreRunning (changed_at n (in_state state) calls) (record x { queues = changed_at c.service.0 (without n) x.queues })
running_left calls x n c state h at l b = λ s i. by s i (same_or_not c.service.0 s)
  where
    by : (s i : ℕ) → (c.service.0 ≡ s) ⊎ (c.service.0 ≢ s) →
        has (queue_at (record x { queues = changed_at c.service.0 (without n) x.queues }) s) i ≡ passes (is_running_for s) (slice_get (changed_at n (in_state state) calls) i)
    by s i (inl e) =
        let gone : is_running_for s (in_state state c) ≡ false = ap (λ (b : Bool). (c.service.0 == s) && b) b ∙ and_false (c.service.0 == s) in
        ap (λ (k : ℕ). has (queue_at (record x { queues = changed_at c.service.0 (without n) x.queues }) k) i) (sym e)
        ∙ ap (λ (xs : List ℕ). has xs i) (queue_changed x c.service.0 (without n) l)
        ∙ ap (λ (k : ℕ). has (without n (queue_at x k)) i) e
        ∙ has_without n i (queue_at x s)
        ∙ ap (λ (b : Bool). not (n == i) && b) (h s i)
        ∙ sym (passes_left (is_running_for s) calls n (in_state state) c i at gone)
    by s i (inr d) =
        ap (λ (xs : List ℕ). has xs i) (queue_other x c.service.0 s (without n) d)
        ∙ h s i
        ∙ sym (passes_same (is_running_for s) calls n (in_state state) c i at (other_service is_running_call c state s d))

-- it runs now
pub running_come : (calls : List Call) (x : QueuesState) (n : ℕ) (c : Call) (state : CallState) → AreRunning calls x → slice_get calls n ≡ Some c → c.service.0 < length x.queues →
    is_running_call state ≡ true → AreRunning (changed_at n (in_state state) calls) (record x { queues = changed_at c.service.0 (with_last n) x.queues })
running_come calls x n c state h at l b = λ s i. by s i (same_or_not c.service.0 s)
  where
    or_nothing : (b e : Bool) → (b || (e || false)) ≡ (b || e)
    or_nothing b true = refl
    or_nothing b false = refl

    by : (s i : ℕ) → (c.service.0 ≡ s) ⊎ (c.service.0 ≢ s) →
        has (queue_at (record x { queues = changed_at c.service.0 (with_last n) x.queues }) s) i ≡ passes (is_running_for s) (slice_get (changed_at n (in_state state) calls) i)
    by s i (inl e) =
        let come : is_running_for s (in_state state c) ≡ true = ap (λ (b : Bool). b && is_running_call state) (is_that c.service.0 s e) ∙ b in
        ap (λ (k : ℕ). has (queue_at (record x { queues = changed_at c.service.0 (with_last n) x.queues }) k) i) (sym e)
        ∙ ap (λ (xs : List ℕ). has xs i) (queue_changed x c.service.0 (with_last n) l)
        ∙ ap (λ (k : ℕ). has (with_last n (queue_at x k)) i) e
        ∙ has_append (queue_at x s) (n ∷ []) i
        ∙ or_nothing (has (queue_at x s) i) (i == n)
        ∙ ap (λ (b : Bool). b || (i == n)) (h s i)
        ∙ sym (passes_come (is_running_for s) calls n (in_state state) c i at come)
    by s i (inr d) =
        ap (λ (xs : List ℕ). has xs i) (queue_other x c.service.0 s (with_last n) d)
        ∙ h s i
        ∙ sym (passes_same (is_running_for s) calls n (in_state state) c i at (other_service is_running_call c state s d))
