-- The calls of a service that ends.
use Rattle.std.proofs.Common.{◌≡◌, refl, sym, ◌∙◌, ap, subst, ℕ, suc, zero, ◌+◌, ◌-◌, ◌<◌, Bool, true, false, cond, List, [], ◌∷◌, map, get_or, set, Option, Some, None, slice_get, arith, ◌==◌}
use Rattle.std.specs.Prelude.{IsSomeAnd}
use Rattle.std.specs.List.{count_by, list_any, sum_by}
use Rattle.std.proofs.lemmas.List.Sums.{sum_by-set}
use Rattle.std.proofs.lemmas.Option.{get_or_from_slice_get, slice_get_within}
use Rattle.jx_base.specs.declared.states.AnswerKind.{AnswerKind}
use Rattle.jx_base.specs.declared.states.AnswerKind.TheVariants as kind
use Rattle.jx_base.specs.declared.states.CallState.TheVariants as call
use Rattle.jx_base.specs.Basics.{numbered}
use Rattle.jx_base.proofs.BasicLaws.{and_false}
use Rattle.table_threads.specs.Changes.{changed_at}
use Rattle.table_threads.proofs.Records.{set_changed}
use Rattle.call_table.specs.declared.calls.Call.{Call}
use Rattle.call_table.specs.declared.calls.Calls.TheInside.{Inside}
use Rattle.call_table.specs.CallLists.{CallsState, ended_for, in_state, is_pending_for}
use Rattle.call_table.specs.Inner.{calls_state}
use Rattle.call_table.proofs.Lists.{neither}
use Rattle.call_table.proofs.CallPlaces.{has_place, numbered_next}
use Rattle.table_threads.proofs.Numbered.{numbered_place}
use Rattle.call_table.proofs.FirstCalls.{IsCallOf}

-- ---- the end of a service

-- without pending calls nothing changes
pub none_end : (s : ℕ) (calls : List Call) → list_any (is_pending_for s) calls ≡ false → map (ended_for s) calls ≡ calls
none_end s [] h = refl
none_end s (c ∷ calls) h = let n = neither (is_pending_for s c) (list_any (is_pending_for s) calls) h in rw n.0 (ap (λ (cs : List Call). c ∷ cs) (none_end s calls n.1))

-- a call that ended is not pending
pub not_pending : (s : ℕ) (c : Call) (k : AnswerKind) → is_pending_for s (in_state (call.Answered k) c) ≡ false
not_pending s c k = rw (and_false (c.service.0 == s)) refl

-- a pending call may end first
pub one_ended : (s i : ℕ) (calls : List Call) (c : Call) → slice_get calls i ≡ Some c → is_pending_for s c ≡ true →
    map (ended_for s) (changed_at i (in_state (call.Answered kind.Ended)) calls) ≡ map (ended_for s) calls
one_ended s i [] c at h = refl
one_ended s zero (x ∷ calls) c at h =
    let same : x ≡ c = cc in
    let pending : is_pending_for s x ≡ true = ap (is_pending_for s) same ∙ h in
    ap (λ (y : Call). y ∷ map (ended_for s) calls) (rw (not_pending s x kind.Ended, pending) refl)
one_ended s (suc i) (x ∷ calls) c at h = ap (λ (cs : List Call). ended_for s x ∷ cs) (one_ended s i calls c at h)

-- then one fewer is pending
pub fewer_pending : (s i : ℕ) (calls : List Call) (c : Call) (k : AnswerKind) → slice_get calls i ≡ Some c → is_pending_for s c ≡ true →
    count_by (is_pending_for s) (changed_at i (in_state (call.Answered k)) calls) < count_by (is_pending_for s) calls
fewer_pending s i calls c k at h =
    let g : Call → Call = in_state (call.Answered k) in
    let one : Call → ℕ = λ x. cond (is_pending_for s x) 1 0 in
    let sums : sum_by one (set calls i (g c)) + one (get_or calls i c) ≡ sum_by one calls + one (g c) = sum_by-set one calls i (g c) c (slice_get_within calls i c at) in
    let changed : sum_by one (set calls i (g c)) ≡ count_by (is_pending_for s) (changed_at i g calls) = ap (sum_by one) (set_changed i g calls c at) in
    let before : one (get_or calls i c) ≡ 1 = ap one (get_or_from_slice_get calls i c c at) ∙ ap (λ (b : Bool). cond b 1 0) h in
    let after : one (g c) ≡ 0 = ap (λ (b : Bool). cond b 1 0) (not_pending s c k) in
    omega (arith, sums, changed, before, after)

-- ---- the end of a service, call by call

-- the place of a pending call
pub pending_call : (calls : List Call) (s n : ℕ) → IsSomeAnd (numbered calls n) (λ c. is_pending_for s c ≡ true) → IsCallOf calls (n - 1) (is_pending_for s)
pending_call calls s n h =
    let place = has_place calls n (λ c. is_pending_for s c ≡ true) h in
    by (slice_get calls (n - 1)) refl (subst (λ (o : Option Call). IsSomeAnd o (λ c. is_pending_for s c ≡ true)) (numbered_place calls n place.from_one) h)
  where
    by : (o : Option Call) → slice_get calls (n - 1) ≡ o → IsSomeAnd o (λ c. is_pending_for s c ≡ true) → IsCallOf calls (n - 1) (is_pending_for s)
    by None e h = absurd h
    by (Some c) e h = record { call = c; at = e; passes = h; within = slice_get_within calls (n - 1) c e }

-- the found place has its number
pub found_number : (x : Inside) (y : CallsState) (s n : ℕ) → calls_state x ≡ y → IsCallOf x.calls.items n (is_pending_for s) → IsSomeAnd (numbered y.calls (n + 1)) (λ c. is_pending_for s c ≡ true)
found_number x y s n same h =
    subst (λ (z : CallsState). IsSomeAnd (numbered z.calls (n + 1)) (λ c. is_pending_for s c ≡ true)) same
    (subst (λ (o : Option Call). IsSomeAnd o (λ c. is_pending_for s c ≡ true)) (sym (numbered_next x.calls.items n ∙ h.at)) h.passes)
