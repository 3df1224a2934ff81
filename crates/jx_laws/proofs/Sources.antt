-- The objects that an entry hands over: new ones, or what the taken call or the resumed answer carried.
use Rattle.std.proofs.Common.{◌≡◌, refl, ℕ, ◌<◌, ◌≤◌, ◌+◌, ℤ, Bool, true, false, [], ◌∷◌, Option, Some, None, arith, inl, inr}
use Rattle.jx_base.specs.declared.act.Act.{Act}
use Rattle.jx_base.specs.declared.act.Act.TheVariants as act
use Rattle.jx_base.specs.declared.act.Reply.{Reply}
use Rattle.jx_base.specs.declared.act.Reply.TheVariants as reply
use Rattle.jx_base.specs.declared.act.Refusal.{Refusal}
use Rattle.jx_base.specs.declared.ids.CallId.{CallId}
use Rattle.jx_base.specs.declared.ids.ObjectId.{ObjectId}
use Rattle.jx_base.specs.declared.program.System.{System}
use Rattle.jx_base.specs.Basics.{contains_number}
use Rattle.jx_base.specs.Histories.{Past}
use Rattle.jx_model.specs.Portals.{received_parcel}
use Rattle.jx_model.specs.Calls.{Asked, Answer, asked_of, answer_of}
use Rattle.jx_model.specs.MemoryObjects.{Part, objects_made}
use Rattle.jx_model.specs.Holding.{received_objects, objects_in, answer_objects, asked_objects}
use Rattle.jx_model.specs.Replies.{reply_to, with_object, allocated, derived, divided, one_object, new_object, given_or, job_of, or_done, answer_reply, ◌refuses◌else◌}
use Rattle.jx_laws.proofs.Lists.{no_number, contains_first, contains_one}
use Rattle.std.specs.Option.{option_and_then}

-- the act, so answered, hands over the object
abbrev pub Gives : Act → ℕ → Reply → Type 0
Gives a m r = contains_number (received_objects a r) m ≡ true

-- an entry hands over a new object, or what the call that it takes or the answer that it resumes after carries
pub data Source (past : Past) (a : Act) (m : ℕ) : Type 0 where
  Fresh : objects_made past < m → Source past a m
  FromCall : (c : CallId) → a ≡ act.Take c → contains_number (asked_objects (asked_of past c.0)) m ≡ true → Source past a m
  FromAnswer : (c : CallId) → a ≡ act.Resume c → contains_number (answer_objects (answer_of past c.0)) m ≡ true → Source past a m

-- ---- what a refusal hides

-- a refusal hands over nothing
refused_gives : {A : Type 0} (a : Act) (m : ℕ) (r : Refusal) → Gives a m (reply.Refused r) → A
unfolding received_objects objects_in received_parcel
refused_gives (act.Alloc n) m r h = no_number m h
refused_gives (act.Sub k at count) m r h = no_number m h
refused_gives (act.Split k at) m r h = no_number m h
refused_gives (act.Revoke k) m r h = no_number m h
refused_gives (act.Take c) m r h = no_number m h
refused_gives (act.Resume c) m r h = no_number m h
refused_gives _ m r h = no_number m h

-- what a reply behind a test hands over, the rest hands over
behind_test : (a : Act) (m : ℕ) (b : Bool) (r : Refusal) (rest : Reply) → Gives a m (b refuses r else rest) → Gives a m rest
unfolding ◌refuses◌else◌
behind_test a m true r rest h = refused_gives a m r h
behind_test a m false r rest h = h

-- what a reply behind a value hands over comes of that value
behind_given : {A : Type 0} (a : Act) (m : ℕ) (o : Option A) (r : Refusal) (f : A → Reply) → Gives a m (given_or o r f) → (x : A) × Gives a m (f x)
unfolding given_or
behind_given a m None r f h = refused_gives a m r h
behind_given a m (Some x) r f h = (x, h)

-- what an act through an object hands over comes of its part
behind_object : (a : Act) (m : ℕ) (past : Past) (d : ℕ) (k : ObjectId) (f : Part → Reply) → Gives a m (with_object past d k f) → (o : Part) × Gives a m (f o)
unfolding with_object
behind_object a m past d k f h = behind_given a m _ _ f (behind_test a m _ _ _ (behind_test a m _ _ _ h))

-- ---- new objects

-- a number behind the last is above it
above : (past : Past) (n m : ℕ) → 1 ≤ n → contains_number ((objects_made past + n) ∷ []) m ≡ true → objects_made past < m
above past n m l h = omega (arith, l, contains_one (objects_made past + n) m h)

-- an alloc hands over a new object
made_new : (past : Past) (n : ℤ) (g m : ℕ) → Gives (act.Alloc n) m (reply.Made (new_object past 1) g) → objects_made past < m
unfolding received_objects new_object
made_new past n g m h = above past 1 m (omega arith) h

-- a sub hands over a new object
sub_new : (past : Past) (k : ObjectId) (at count : ℤ) (m : ℕ) → Gives (act.Sub k at count) m (reply.Object (new_object past 1)) → objects_made past < m
unfolding received_objects new_object
sub_new past k at count m h = above past 1 m (omega arith) h

-- a revoke hands over a new object
revoke_new : (past : Past) (k : ObjectId) (m : ℕ) → Gives (act.Revoke k) m (reply.Object (new_object past 1)) → objects_made past < m
unfolding received_objects new_object
revoke_new past k m h = above past 1 m (omega arith) h

-- a split hands over new objects
split_new : (past : Past) (k : ObjectId) (at : ℤ) (m : ℕ) → Gives (act.Split k at) m (reply.Pair (new_object past 1) (new_object past 2)) → objects_made past < m
unfolding received_objects new_object
split_new past k at m h = elim (contains_first (objects_made past + 1) m ((objects_made past + 2) ∷ []) h) [
  | inl q ↦ omega (arith, q)
  | inr q ↦ above past 2 m (omega arith) q
]

-- ---- what calls and answers carry

-- a take hands over what the call carries
asked_gives : (c : CallId) (o : Option Asked) (m : ℕ) → Gives (act.Take c) m (job_of o) → contains_number (asked_objects o) m ≡ true
unfolding received_objects objects_in received_parcel job_of asked_objects
asked_gives c None m h = h
asked_gives c (Some a) m h = h

-- a resume hands over what the answer carries
answer_gives : (c : CallId) (o : Option Answer) (m : ℕ) → Gives (act.Resume c) m (or_done (option_and_then answer_reply o)) → contains_number (answer_objects o) m ≡ true
unfolding received_objects objects_in received_parcel or_done answer_reply answer_objects
answer_gives c None m h = h
answer_gives c (Some (Answer.Value p)) m h = h
answer_gives c (Some (Answer.Thrown p)) m h = h
answer_gives c (Some Answer.CopyFailed) m h = h
answer_gives c (Some Answer.Ended) m h = h
answer_gives c (Some Answer.Discarded) m h = h

-- ---- all acts

-- each object that a reply hands over has its source
pub source : (s : System) (past : Past) (d m : ℕ) (a : Act) → Gives a m (reply_to s past d a) → Source past a m
unfolding reply_to allocated derived divided one_object received_objects objects_in received_parcel
source s past d m (act.Take c) h = FromCall c refl (asked_gives c (asked_of past c.0) m h)
source s past d m (act.Resume c) h = FromAnswer c refl (answer_gives c (answer_of past c.0) m h)
source s past d m (act.Alloc n) h =
    let x = behind_given (act.Alloc n) m _ _ _ (behind_test (act.Alloc n) m _ _ _ (behind_test (act.Alloc n) m _ _ _ h)) in Fresh (made_new past n x.0 m x.1)
source s past d m (act.Sub k at count) h =
    let x = behind_object (act.Sub k at count) m past d k _ h in
    Fresh (sub_new past k at count m (behind_test (act.Sub k at count) m _ _ _ (behind_test (act.Sub k at count) m _ _ _ x.1)))
source s past d m (act.Split k at) h =
    let x = behind_object (act.Split k at) m past d k _ h in
    Fresh (split_new past k at m (behind_test (act.Split k at) m _ _ _ (behind_test (act.Split k at) m _ _ _ x.1)))
source s past d m (act.Revoke k) h =
    let x = behind_object (act.Revoke k) m past d k _ h in Fresh (revoke_new past k m (behind_test (act.Revoke k) m _ _ _ x.1))
source s past d m _ h = no_number m h
