-- Where an object that an entry hands over comes from: it is new, or a call or an answer carried it.
use Rattle.std.proofs.Common.{◌≡◌, refl, sym, ◌∙◌, ap, ℕ, suc, zero, ◌+◌, ◌<◌, ◌≤◌, Bool, true, false, ◌||◌, List, [], ◌∷◌, ◌++◌, length, Option, Some, None, arith, ◌==◌, length-append}
use Rattle.std.specs.List.{range_with_len}
use Rattle.jx_base.specs.declared.act.Act.{Act}
use Rattle.jx_base.specs.declared.act.Act.TheVariants as act
use Rattle.jx_base.specs.declared.act.Reply.{Reply}
use Rattle.jx_base.specs.declared.act.Reply.TheVariants as reply
use Rattle.jx_base.specs.declared.act.Entry.{Entry}
use Rattle.jx_base.specs.declared.ids.CallId.{CallId}
use Rattle.jx_base.specs.declared.value.Parcel.{Parcel}
use Rattle.jx_base.specs.declared.program.System.{System}
use Rattle.jx_base.specs.Basics.{up_to, contains_number}
use Rattle.program_model.specs.ParcelParts.{parcel_objects}
use Rattle.jx_base.specs.Histories.{Past}
use Rattle.jx_model.specs.Portals.{received_parcel}
use Rattle.jx_model.specs.Calls.{Answer, Asked, asked_of, answer_of}
use Rattle.jx_base.specs.declared.ids.MethodId.{MethodId}
use Rattle.jx_base.specs.declared.ids.ServiceId.{ServiceId}
use Rattle.jx_model.specs.MemoryObjects.{Part, objects_of, objects_made, new_parts, extents_made}
use Rattle.jx_model.specs.Holding.{received_objects, objects_in, asked_objects, answer_objects}
use Rattle.jx_model.specs.Replies.{reply_to, job_of, or_done, answer_reply}
use Rattle.jx_model.specs.Growth.{numbers_given, new_object_numbers}
use Rattle.jx_model.specs.Legal.{IsAdmittedPast}
use Rattle.jx_base.proofs.BasicLaws.{up_to_append, eq_of, nothing}
use Rattle.jx_model.proofs.NumbersGiven.{numbers_once}
use Rattle.std.specs.Option.{option_and_then}

cancel : (xs ys zs : List ℕ) → xs ++ ys ≡ xs ++ zs → ys ≡ zs
cancel [] ys zs h = h
cancel (x ∷ xs) ys zs h = cancel xs ys zs (let q : xs ++ ys ≡ xs ++ zs = cc in q)

-- the objects that an entry makes have the next numbers
pub new_numbers : (s : System) (e : Entry) (past : Past) → IsAdmittedPast s (e ∷ past) →
    new_object_numbers e.act e.reply ≡ range_with_len (objects_made past + 1) (length (new_parts (objects_of past) (extents_made past + 1) e.act e.reply))
unfolding numbers_given objects_made objects_of
new_numbers s e past a =
    cancel (up_to (objects_made past)) (new_object_numbers e.act e.reply) (range_with_len (objects_made past + 1) (length new))
    (ap (λ (xs : List ℕ). xs ++ new_object_numbers e.act e.reply) (sym (numbers_once s past a.1).objects)
    ∙ (numbers_once s (e ∷ past) a).objects
    ∙ ap up_to (length-append (objects_of past) new)
    ∙ up_to_append (objects_made past) (length new))
  where
    new : List Part
    new = new_parts (objects_of past) (extents_made past + 1) e.act e.reply

-- a number of a range
pub in_range : (a n m : ℕ) → contains_number (range_with_len a n) m ≡ true → (a ≤ m) × (m < a + n)
unfolding contains_number
in_range a zero m h = cc
in_range a (suc n) m h = by (a == m) refl h (in_range (a + 1) n m)
  where
    by : (b : Bool) → (a == m) ≡ b → (b || contains_number (range_with_len (a + 1) n) m) ≡ true → (contains_number (range_with_len (a + 1) n) m ≡ true → (a + 1 ≤ m) × (m < a + 1 + n)) → (a ≤ m) × (m < a + suc n)
    by true q h again = let z = eq_of a m q in (omega (arith, z), omega (arith, z))
    by false q h again = let x = again h in (omega (arith, x.0), omega (arith, x.1))

-- where an object that an entry hands over comes from
pub data Source (past : Past) (m : ℕ) (a : Act) : Type 0 where
  Fresh : objects_made past < m → Source past m a
  FromCall : (c : CallId) → a ≡ act.Take c → contains_number (asked_objects (asked_of past c.0)) m ≡ true → Source past m a
  FromAnswer : (c : CallId) → a ≡ act.Resume c → contains_number (answer_objects (answer_of past c.0)) m ≡ true → Source past m a

job_gives : (o : Option Asked) (k : ℕ) (p : Parcel) → (s : ServiceId) (n : MethodId) → reply.Job s n p ≡ job_of o → contains_number (parcel_objects p) k ≡ true → contains_number (asked_objects o) k ≡ true
unfolding job_of asked_objects
job_gives None k p s n q h = cc
job_gives (Some a) k p s n q h = let z : p ≡ a.parcel = cc in ap (λ (x : Parcel). contains_number (parcel_objects x) k) (sym z) ∙ h

value_gives : (o : Option Answer) (k : ℕ) (p : Parcel) → reply.Value p ≡ or_done (option_and_then answer_reply o) → contains_number (parcel_objects p) k ≡ true → contains_number (answer_objects o) k ≡ true
unfolding or_done answer_reply answer_objects
value_gives None k p q h = cc
value_gives (Some (Answer.Value x)) k p q h = let z : p ≡ x = cc in ap (λ (y : Parcel). contains_number (parcel_objects y) k) (sym z) ∙ h
value_gives (Some (Answer.Thrown x)) k p q h = cc
value_gives (Some Answer.CopyFailed) k p q h = cc
value_gives (Some Answer.Ended) k p q h = cc
value_gives (Some Answer.Discarded) k p q h = cc

thrown_gives : (o : Option Answer) (k : ℕ) (p : Parcel) → reply.Thrown p ≡ or_done (option_and_then answer_reply o) → contains_number (parcel_objects p) k ≡ true → contains_number (answer_objects o) k ≡ true
unfolding or_done answer_reply answer_objects
thrown_gives None k p q h = cc
thrown_gives (Some (Answer.Value x)) k p q h = cc
thrown_gives (Some (Answer.Thrown x)) k p q h = let z : p ≡ x = cc in ap (λ (y : Parcel). contains_number (parcel_objects y) k) (sym z) ∙ h
thrown_gives (Some Answer.CopyFailed) k p q h = cc
thrown_gives (Some Answer.Ended) k p q h = cc
thrown_gives (Some Answer.Discarded) k p q h = cc

-- an object that an entry hands over is new, or came by the taken call or the answer
pub source : (s : System) (e : Entry) (past : Past) (m : ℕ) → IsAdmittedPast s (e ∷ past) → contains_number (received_objects e.act e.reply) m ≡ true → Source past m e.act
unfolding received_objects received_parcel objects_in new_object_numbers reply_to
source s e past m a h = by e.act e.reply a.0.reply (new_numbers s e past a) h
  where
    count : ℕ
    count = length (new_parts (objects_of past) (extents_made past + 1) e.act e.reply)

    fresh : (xs : List ℕ) → xs ≡ range_with_len (objects_made past + 1) count → contains_number xs m ≡ true → objects_made past < m
    fresh xs q h = let x = in_range (objects_made past + 1) count m (ap (λ (ys : List ℕ). contains_number ys m) (sym q) ∙ h) in omega (arith, x.0)

    by : (b : Act) (r : Reply) → r ≡ reply_to s past e.domain.0 b → new_object_numbers b r ≡ range_with_len (objects_made past + 1) count → contains_number (received_objects b r) m ≡ true → Source past m b
    by (act.Alloc n) (reply.Made k g) q w h = Fresh (fresh (k.0 ∷ []) w h)
    by (act.Sub k at n) (reply.Object x) q w h = Fresh (fresh (x.0 ∷ []) w h)
    by (act.Split k at) (reply.Pair x y) q w h = Fresh (fresh (x.0 ∷ y.0 ∷ []) w h)
    by (act.Revoke k) (reply.Object x) q w h = Fresh (fresh (x.0 ∷ []) w h)
    by (act.Take c) (reply.Job k n p) q w h = FromCall c refl (job_gives (asked_of past c.0) m p k n q h)
    by (act.Resume c) (reply.Value p) q w h = FromAnswer c refl (value_gives (answer_of past c.0) m p q h)
    by (act.Resume c) (reply.Thrown p) q w h = FromAnswer c refl (thrown_gives (answer_of past c.0) m p q h)
    by _ _ q w h = nothing m h
