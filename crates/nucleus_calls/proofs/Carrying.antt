-- Parcels whose objects a call may carry, and may hand over.
use Rattle.std.proofs.Common.{◌≡◌, sym, ap, subst, ℕ, ◌-◌, ◌<◌, ◌≤◌, Bool, true, false, ◌||◌, ◌==◌, List, [], ◌∷◌, length, Option, Some, None, arith, if◌then◌else◌}
use Rattle.std.specs.List.{AllByRecursion}
use Rattle.std.specs.Option.{option_map}
use Rattle.std.specs.Prelude.{IsSomeAnd}
use Rattle.jx_base.specs.declared.act.Act.TheVariants as act
use Rattle.jx_base.specs.declared.act.Reply.TheVariants as reply
use Rattle.jx_base.specs.declared.ids.CallId.{CallId}
use Rattle.jx_base.specs.declared.ids.MethodId.{MethodId}
use Rattle.jx_base.specs.declared.ids.ServiceId.{ServiceId}
use Rattle.jx_base.specs.declared.program.System.{System}
use Rattle.jx_base.specs.declared.value.Parcel.{Parcel}
use Rattle.jx_base.specs.Basics.{contains_number, numbered}
use Rattle.jx_base.specs.Histories.{is_done}
use Rattle.jx_base.proofs.BasicLaws.{same_number}
use Rattle.jx_model.specs.Calls.{calls_made}
use Rattle.jx_model.specs.Replies.{reply_to, sent_back}
use Rattle.jx_model.specs.Tables.{ObjectRecord}
use Rattle.memory_objects.proofs.Tree.{numbered_each}
use Rattle.memory_objects.specs.ObjectLists.{CanRide, IsKept, IsRiding, ObjectsState, with_holder}
use Rattle.memory_space.specs.SpaceLists.{objects_in}
use Rattle.nucleus_calls.proofs.CallMoves.{calls_count}
use Rattle.nucleus_calls.specs.CallActs.{CanCarry}
use Rattle.nucleus_tables.proofs.ObjectsKept.{can_ride, kept_there}
use Rattle.nucleus_tables.specs.Inner.{IsOf, past_in}
use Rattle.nucleus_tables.specs.declared.tables.Tables.{Tables}
use Rattle.parcel_carriage.proofs.ObjectSteps.{second}
use Rattle.parcel_carriage.specs.Carriage.{with_given}
use Rattle.program_model.specs.Limits.{journal_limit}
use Rattle.program_model.specs.ParcelParts.{parcel_objects}
use Rattle.table_objects.proofs.UsedBefore.{Use, call_held, sent_held}

-- what holds of each number of a list holds of all
pub all_of : (P : ℕ → Type 0) (xs : List ℕ) → ((m : ℕ) → contains_number xs m ≡ true → P m) → AllByRecursion P xs
unfolding contains_number
all_of P [] h = tt
all_of P (x ∷ xs) h =
    (h x (ap (λ (b : Bool). b || contains_number xs x) (same_number x)), all_of P xs (λ m q. h m (second (x == m) (contains_number xs m) q)))

-- ---- what a call may carry

-- where there is room for one more, there are few calls
few_calls : (s : System) (x : Tables) → IsOf s x → length x.calls.calls < x.calls.limit → calls_made (past_in x) < 4294967295
unfolding journal_limit
few_calls s x h l = omega (arith, l, calls_count s x h, h.call_room, h.plan.journal)

-- a parcel of objects that are held or carried
can_carry : (s : System) (x : Tables) (p : Parcel) → IsOf s x → length x.calls.calls < x.calls.limit →
    ((m : ℕ) → contains_number (parcel_objects p) m ≡ true → Use (past_in x) m) → CanCarry x p
can_carry s x p h l u =
    record {
      kept = all_of (IsKept (objects_in x.space)) (parcel_objects p) (λ m i. kept_there s x h m (u m i));
      few = all_of (CanRide (objects_in x.space)) (parcel_objects p) (λ m i. can_ride s x h m (few_calls s x h l) (u m i));
    }

-- that of a call that is queued
pub call_carries : (s : System) (x : Tables) (d : ℕ) (k : ServiceId) (m : MethodId) (p : Parcel) (c : CallId) → IsOf s x → length x.calls.calls < x.calls.limit →
    reply.Queued c ≡ reply_to s (past_in x) d (act.Call k m p) → CanCarry x p
unfolding is_done
call_carries s x d k m p c h l q = can_carry s x p h l (λ n i. call_held s (past_in x) d n k m p (ap is_done (sym q)) i)

-- that of an answer that its caller gets
pub sent_carries : (s : System) (x : Tables) (d c : ℕ) (p : Parcel) → IsOf s x → length x.calls.calls < x.calls.limit → reply.Done ≡ sent_back s (past_in x) d c p → CanCarry x p
unfolding is_done
sent_carries s x d c p h l q = can_carry s x p h l (λ n i. sent_held s (past_in x) d c p n (ap is_done (sym q)) i)

-- ---- what is handed over

-- one that rides does so too once it is given
riding_one : (d : ℕ) (p : Parcel) (x : ObjectsState) (m : ℕ) → IsRiding x m → IsRiding (with_given d p x) m
riding_one d p x m h =
    subst (λ (o : Option ObjectRecord). IsSomeAnd o (λ r. 1 ≤ r.riding))
    (sym (numbered_each (λ k r. if contains_number (parcel_objects p) k then with_holder d true r else r) x.records m))
    (by (numbered x.records m) (contains_number (parcel_objects p) m) h)
  where
    by : (o : Option ObjectRecord) (b : Bool) → IsSomeAnd o (λ r. 1 ≤ r.riding) → IsSomeAnd (option_map (λ r. if b then with_holder d true r else r) o) (λ r. 1 ≤ r.riding)
    by None b h = h
    by (Some r) true h = h
    by (Some r) false h = h

pub riding_given : (d : ℕ) (p : Parcel) (x : ObjectsState) (xs : List ℕ) → AllByRecursion (IsRiding x) xs → AllByRecursion (IsRiding (with_given d p x)) xs
riding_given d p x [] h = tt
riding_given d p x (m ∷ xs) h = (riding_one d p x m h.0, riding_given d p x xs h.1)
