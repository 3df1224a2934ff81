-- The first calls of the lists.
use Rattle.std.proofs.Common.{◌≡◌, refl, sym, ◌∙◌, ap, ℕ, ◌+◌, ◌<◌, Bool, true, false, ◌&&◌, List, [], ◌∷◌, length, get_or, Option, Some, None, slice_get, ◌==◌}
use Rattle.std.specs.List.{list_any}
use Rattle.std.specs.Option.{option_map, option_or}
use Rattle.std.proofs.lemmas.Option.{slice_get_read, slice_get_within}
use Rattle.jx_base.specs.Basics.{passes}
use Rattle.jx_base.proofs.BasicLaws.{both, eq_of}
use Rattle.table_threads.proofs.Records.{is_that}
use Rattle.call_table.specs.declared.calls.Call.{Call}
use Rattle.call_table.specs.declared.calls.Calls.TheInside.{Inside}
use Rattle.call_table.specs.CallLists.{CallsState, first_queued, is_pending_for, is_queued_for, is_queued_call, is_running_for}
use Rattle.call_table.specs.Inner.{IsCalls, calls_state}
use Rattle.call_table.specs.QueueLists.{has, queue_at}
use Rattle.call_table.proofs.Lists.{or_first, or_second}
use Rattle.call_table.proofs.Waiting.{first_place, none_pass}
use Rattle.call_table.proofs.CallQueues.{queued_has}

-- ---- the first call

-- the first number of a list is in it
pub first_in : (xs : List ℕ) (i : ℕ) → slice_get xs 0 ≡ Some i → has xs i ≡ true
first_in [] i h = cc
first_in (x ∷ xs) i h = or_first (i == x) (has xs i) (is_that i x (let q : x ≡ i = cc in sym q))

-- a list without a first number is empty
pub first_none : (xs : List ℕ) (i : ℕ) → slice_get xs 0 ≡ None → has xs i ≡ false
first_none [] i h = refl
first_none (x ∷ xs) i h = cc

pub first_is : (x : Inside) (y : CallsState) (s : ℕ) (o : Option ℕ) → calls_state x ≡ y → IsCalls x → o ≡ slice_get (queue_at x.queued s) 0 → option_map (λ i. i + 1) o ≡ first_queued y s
first_is x y s o same h e =
    ap (option_map (λ i. i + 1)) (e ∙ ap (λ (xs : List ℕ). slice_get xs 0) (h.queued s) ∙ first_place (is_queued_for s) x.calls.items)
    ∙ ap (λ (z : CallsState). first_queued z s) same

-- a call that a queue has
pub record IsCallOf (calls : List Call) (n : ℕ) (p : Call → Bool) : Type 0 where
  pub call : Call
  pub at : slice_get calls n ≡ Some call
  pub passes : p call ≡ true
  pub within : n < length calls

pub call_of : (calls : List Call) (n : ℕ) (p : Call → Bool) → passes p (slice_get calls n) ≡ true → IsCallOf calls n p
unfolding passes
call_of calls n p h = by (slice_get calls n) refl h
  where
    by : (o : Option Call) → slice_get calls n ≡ o → passes p o ≡ true → IsCallOf calls n p
    by None e h = cc
    by (Some c) e h = record { call = c; at = e; passes = h; within = slice_get_within calls n c e }

-- the place of the first number of a queue
pub queued_first : (x : Inside) (s n : ℕ) → IsCalls x → Some n ≡ slice_get (queue_at x.queued s) 0 → IsCallOf x.calls.items n (is_queued_for s)
queued_first x s n h e = call_of x.calls.items n (is_queued_for s) (sym (queued_has x.calls.items x.queued s n h.queued) ∙ first_in (queue_at x.queued s) n (sym e))

pub running_first : (x : Inside) (s n : ℕ) → IsCalls x → Some n ≡ slice_get (queue_at x.running s) 0 → IsCallOf x.calls.items n (is_running_for s)
running_first x s n h e = call_of x.calls.items n (is_running_for s) (sym (h.running s n) ∙ first_in (queue_at x.running s) n (sym e))

-- a first call that is pending
pub pending_first : (x : Inside) (s n : ℕ) → IsCalls x → Some n ≡ option_or (slice_get (queue_at x.queued s) 0) (slice_get (queue_at x.running s) 0) → IsCallOf x.calls.items n (is_pending_for s)
pending_first x s n h e = by (slice_get (queue_at x.queued s) 0) refl e
  where
    by : (o : Option ℕ) → slice_get (queue_at x.queued s) 0 ≡ o → Some n ≡ option_or o (slice_get (queue_at x.running s) 0) → IsCallOf x.calls.items n (is_pending_for s)
    by None a e =
        let r = running_first x s n h e in
        record { call = r.call; at = r.at; passes = or_second (is_queued_for s r.call) (is_running_for s r.call) r.passes; within = r.within }
    by (Some k) a e =
        let r = queued_first x s n h (e ∙ sym a) in
        record { call = r.call; at = r.at; passes = or_first (is_queued_for s r.call) (is_running_for s r.call) r.passes; within = r.within }

-- no call is pending where both lists are empty
pub none_pending : (x : Inside) (s : ℕ) → IsCalls x → None ≡ option_or (slice_get (queue_at x.queued s) 0) (slice_get (queue_at x.running s) 0) → list_any (is_pending_for s) x.calls.items ≡ false
unfolding passes
none_pending x s h e = none_pass (is_pending_for s) x.calls.items (λ i. by (slice_get (queue_at x.queued s) 0) refl i e)
  where
    at : (i : ℕ) (o : Option Call) → passes (is_queued_for s) o ≡ false → passes (is_running_for s) o ≡ false → passes (is_pending_for s) o ≡ false
    at i None a b = refl
    at i (Some c) a b = rw a b

    by : (o : Option ℕ) → slice_get (queue_at x.queued s) 0 ≡ o → (i : ℕ) → None ≡ option_or o (slice_get (queue_at x.running s) 0) → passes (is_pending_for s) (slice_get x.calls.items i) ≡ false
    by None a i e =
        at i (slice_get x.calls.items i) (sym (queued_has x.calls.items x.queued s i h.queued) ∙ first_none (queue_at x.queued s) i a)
        (sym (h.running s i) ∙ first_none (queue_at x.running s) i (sym e))
    by (Some k) a i e = cc

-- ---- a call that is read where a list has it

-- it passes the test of the list
pub passes_there : (calls : List Call) (n : ℕ) (p : Call → Bool) (c : Call) → passes p (slice_get calls n) ≡ true → slice_get calls n ≡ Some c → p c ≡ true
unfolding passes
passes_there calls n p c h at = sym (ap (passes p) at) ∙ h

-- the call at the head of a queue
pub record IsHead (x : Inside) (s n : ℕ) (c : Call) : Type 0 where
  pub at : slice_get x.calls.items n ≡ Some c
  pub service : c.service.0 ≡ s
  pub waits : is_queued_call c.state ≡ true

pub is_head : (x : Inside) (s n : ℕ) (c : Call) → IsCalls x → Some n ≡ slice_get (queue_at x.queued s) 0 → c ≡ get_or x.calls.items n c → IsHead x s n c
is_head x s n c h e read =
    let calls = x.calls.items in
    let there = queued_first x s n h e in
    let at : slice_get calls n ≡ Some c = slice_get_read calls (length calls) n c refl there.within read in
    let passes : (c.service.0 == s) && is_queued_call c.state ≡ true = passes_there calls n (is_queued_for s) c (sym (queued_has calls x.queued s n h.queued) ∙ first_in (queue_at x.queued s) n (sym e)) at in
    let parts = both (c.service.0 == s) (is_queued_call c.state) passes in
    record { at = at; service = eq_of c.service.0 s parts.0; waits = parts.1 }
