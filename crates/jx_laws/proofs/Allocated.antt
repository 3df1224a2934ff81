-- An extent is in use once it is made.
use Rattle.std.proofs.Common.{◌≡◌, refl, sym, ◌∙◌, ap, ℕ, suc, zero, ◌+◌, ℤ, Bool, true, false, not, ◌&&◌, ◌||◌, List, [], ◌∷◌, ◌++◌, length, Option, Some, None, arith, ◌==◌, if◌then◌else◌, slice_get, length-append}
use Rattle.std.specs.Prelude.{nat_le}
use Rattle.std.proofs.lemmas.Bool.Decides.{nat_tests}
use Rattle.jx_base.specs.declared.act.Act.{Act}
use Rattle.jx_base.specs.declared.act.Act.TheVariants as act
use Rattle.jx_base.specs.declared.act.Reply.{Reply}
use Rattle.jx_base.specs.declared.act.Reply.TheVariants as reply
use Rattle.jx_base.specs.declared.act.Refusal.{Refusal}
use Rattle.jx_base.specs.declared.act.Reason.{Reason}
use Rattle.jx_base.specs.declared.act.Entry.{Entry}
use Rattle.jx_base.specs.declared.ids.ObjectId.{ObjectId}
use Rattle.jx_base.specs.declared.program.System.{System}
use Rattle.jx_base.specs.Basics.{numbered, contains_number, not_below_zero}
use Rattle.jx_base.specs.Histories.{Past, is_own, is_done}
use Rattle.jx_model.specs.Domains.{is_made, ended_by, ended_by_act, reason_for}
use Rattle.jx_model.specs.MemoryObjects.{Part, makes_extent, is_allocation, new_parts, objects_of, objects_made, object_part, extents_made, is_valid, lineage_of, ends_one_of}
use Rattle.jx_model.specs.Holding.{received_objects, keeps_after, keeps_object, holds_object, is_extent_in_use, is_drop_of}
use Rattle.jx_model.specs.Permits.{is_zero_act}
use Rattle.jx_model.specs.Replies.{reply_to, allocated, new_object, given_or, ◌refuses◌else◌}
use Rattle.jx_model.specs.Legal.{IsNext}
use Rattle.jx_base.proofs.BasicLaws.{ap2, ap3, same_number}
use Rattle.jx_laws.proofs.Living.{actor_live, live_stays, live_made}
use Rattle.jx_laws.proofs.Uses.{ByDomain, holds_of}
use Rattle.jx_laws.proofs.InUse.{in_use_of}
use Rattle.jx_laws.proofs.Lineage.{news}

-- ---- what an allocation makes

-- an entry that made an extent, with the next object
pub record IsAllocated (past : Past) (e : Entry) : Type 0 where
  pub count : ℤ
  pub object : ObjectId
  pub granule : ℕ
  pub act : e.act ≡ act.Alloc count
  pub reply : e.reply ≡ reply.Made object granule
  pub number : object.0 ≡ objects_made past + 1

-- a done alloc gives the number that stands in its reply
made_next : (b1 b2 : Bool) (o : Option ℕ) (r1 r2 r3 : Refusal) (n g : ℕ) (k : ObjectId) →
    (b1 refuses r1 else b2 refuses r2 else given_or o r3 (λ g. reply.Made (record { 0 = n }) g)) ≡ reply.Made k g → k.0 ≡ n
unfolding ◌refuses◌else◌ given_or
made_next true b2 o r1 r2 r3 n g k h = cc
made_next false true o r1 r2 r3 n g k h = cc
made_next false false None r1 r2 r3 n g k h = cc
made_next false false (Some x) r1 r2 r3 n g k h = let q : (let y : ObjectId = record { 0 = n } in y) ≡ k = cc (h) in ap (λ (y : ObjectId). y.0) (sym q)

-- a done alloc gives the next object's number
alloc_number : (s : System) (past : Past) (d : ℕ) (n : ℤ) (k : ObjectId) (g : ℕ) → reply_to s past d (act.Alloc n) ≡ reply.Made k g → k.0 ≡ objects_made past + 1
unfolding reply_to allocated new_object
alloc_number s past d n k g h = made_next _ _ _ _ _ _ (objects_made past + 1) g k h

-- an act that makes an extent is an alloc that was answered with an object
extent_made : (a : Act) (r : Reply) → makes_extent a r ≡ true → (n : ℤ) × (k : ObjectId) × (g : ℕ) × (a ≡ act.Alloc n) × (r ≡ reply.Made k g)
unfolding makes_extent
extent_made (act.Alloc n) (reply.Made k g) h = (n, k, g, refl, refl)
extent_made (act.Alloc n) _ h = cc
extent_made _ r h = cc

-- the facts of an allocation, at its own moment
pub allocation_is : (s : System) (past : Past) (e : Entry) → IsNext s past e → is_allocation e ≡ true → IsAllocated past e
unfolding is_allocation
allocation_is s past e n h =
    let x = extent_made e.act e.reply h in
    record {
      count = x.0;
      object = x.1;
      granule = x.2;
      act = x.3;
      reply = x.4;
      number = alloc_number s past e.domain.0 x.0 x.1 x.2 (ap (reply_to s past e.domain.0) (sym x.3) ∙ sym n.reply ∙ x.4);
    }

-- the whole of an extent
pub whole : (x n : ℕ) → Part
whole x n = record { parent = 0; extent = x; from = 0; size = n }

-- the parts of a done alloc: the whole new extent
alloc_news : (olds : List Part) (x : ℕ) (n : ℤ) (k : ObjectId) (g : ℕ) → new_parts olds x (act.Alloc n) (reply.Made k g) ≡ whole x (not_below_zero n) ∷ []
unfolding new_parts whole
alloc_news olds x n k g = refl

-- an allocation adds one object, the whole new extent
pub news_one : (past : Past) (e : Entry) (a : IsAllocated past e) → news e past ≡ whole (extents_made past + 1) (not_below_zero a.count) ∷ []
news_one past e a =
    ap2 (new_parts (objects_of past) (extents_made past + 1)) a.act a.reply ∙ alloc_news (objects_of past) (extents_made past + 1) a.count a.object a.granule

-- the last item of a list
get_end : {A : Type 0} (xs : List A) (x : A) → slice_get (xs ++ x ∷ []) (length xs) ≡ Some x
get_end [] x = refl
get_end (y ∷ xs) x = get_end xs x

-- the last numbered item of a list
numbered_end : {A : Type 0} (xs : List A) (x : A) (m : ℕ) → m ≡ length xs + 1 → numbered (xs ++ x ∷ []) m ≡ Some x
unfolding numbered
numbered_end xs x zero h = absurd (omega (arith, h))
numbered_end xs x (suc i) h = let q : i ≡ length xs = omega (arith, h) in ap (λ (k : ℕ). slice_get (xs ++ x ∷ []) k) q ∙ get_end xs x

-- the next object is the whole new extent
new_is : (past : Past) (e : Entry) (a : IsAllocated past e) → object_part (e ∷ past) (objects_made past + 1) ≡ Some (whole (extents_made past + 1) (not_below_zero a.count))
unfolding object_part objects_of objects_made
new_is past e a =
    ap (λ (l : List Part). numbered (objects_of past ++ l) (length (objects_of past) + 1)) (news_one past e a)
    ∙ numbered_end (objects_of past) (whole (extents_made past + 1) (not_below_zero a.count)) (length (objects_of past) + 1) refl

-- an allocation makes one object more
made_more : (past : Past) (e : Entry) (a : IsAllocated past e) → objects_made (e ∷ past) ≡ objects_made past + 1
unfolding objects_made objects_of
made_more past e a =
    length-append (objects_of past) (news e past)
    ∙ ap (λ (l : List Part). length (objects_of past) + length l) (news_one past e a)

-- ---- it is valid and held

-- a number more is above
above : (n : ℕ) → nat_le (n + 1) n ≡ false
above n = grind (arith, nat_tests)

-- a number is at most itself
itself : (n : ℕ) → nat_le n n ≡ true
itself n = grind (arith, nat_tests)

-- a new object is valid
new_valid : (past : Past) (e : Entry) → IsAllocated past e → is_valid (e ∷ past) (objects_made past + 1) ≡ true
unfolding is_valid
new_valid past e a =
    ap (λ (b : Bool). if b then is_valid past (objects_made past + 1) && not (ends_one_of (lineage_of (objects_of past) (objects_made past + 1)) e) else nat_le (objects_made past + 1) (objects_made (e ∷ past))) (above (objects_made past))
    ∙ ap (nat_le (objects_made past + 1)) (made_more past e a)
    ∙ itself (objects_made past + 1)

-- an alloc ends no domain
alloc_ends : (d : ℕ) (n : ℤ) (r : Reply) → ended_by_act d (act.Alloc n) r ≡ None
unfolding ended_by_act
alloc_ends d n r = refl

-- what ends no domain has no reason
no_reason : (d : ℕ) → reason_for None d ≡ None
unfolding reason_for
no_reason d = refl

-- an entry that allocates ends no domain
no_end : (e : Entry) (d : ℕ) (n : ℤ) → e.act ≡ act.Alloc n → reason_for (ended_by e) d ≡ None
unfolding ended_by
no_end e d n q = ap (λ (x : Option (ℕ × Reason)). reason_for x d) (ap (λ (y : Act). ended_by_act e.domain.0 y e.reply) q ∙ alloc_ends e.domain.0 n e.reply) ∙ no_reason d

-- a done alloc hands over its object
alloc_gives : (n : ℤ) (k : ObjectId) (g m : ℕ) → k.0 ≡ m → contains_number (received_objects (act.Alloc n) (reply.Made k g)) m ≡ true
unfolding received_objects contains_number
alloc_gives n k g m q = first k.0 m q
  where
    first : (x m : ℕ) → x ≡ m → ((x == m) || false) ≡ true
    first x m q = grind arith

-- a domain keeps what its own entry hands over
own_keeps : (e : Entry) (m : ℕ) (before : Bool) → contains_number (received_objects e.act e.reply) m ≡ true → keeps_after e.domain.0 m e before ≡ true
unfolding keeps_after is_own
own_keeps e m before h = by (e.domain.0 == e.domain.0) (same_number e.domain.0) (contains_number (received_objects e.act e.reply) m) h (is_done e.reply) (is_drop_of m e.act)
  where
    by : (o : Bool) → o ≡ true → (r : Bool) → r ≡ true → (x y : Bool) → (if (o && r) then true else if (o && x && y) then false else before) ≡ true
    by true p true q x y = refl
    by true p false q x y = cc
    by false p r q x y = cc

-- the allocating domain keeps the new object
new_kept : (past : Past) (e : Entry) → IsAllocated past e → is_made (e ∷ past) e.domain.0 ≡ true → keeps_object (e ∷ past) e.domain.0 (objects_made past + 1) ≡ true
unfolding keeps_object
new_kept past e a h =
    ap3 (λ (x y z : Bool). x && y && z) h
    (ap (nat_le (objects_made past + 1)) (made_more past e a) ∙ itself (objects_made past + 1))
    (own_keeps e (objects_made past + 1) (keeps_object past e.domain.0 (objects_made past + 1))
    (ap2 (λ (x : Act) (r : Reply). contains_number (received_objects x r) (objects_made past + 1)) a.act a.reply ∙ alloc_gives a.count a.object a.granule (objects_made past + 1) a.number))

-- an alloc isn't Domain Zero's
alloc_acts : (n : ℤ) → is_zero_act (act.Alloc n) ≡ false
unfolding is_zero_act
alloc_acts n = refl

-- the allocating domain holds the new object
new_held : (s : System) (past : Past) (e : Entry) → IsNext s past e → IsAllocated past e → holds_object (e ∷ past) e.domain.0 (objects_made past + 1) ≡ true
new_held s past e n a =
    let l = actor_live s past e (ap is_zero_act a.act ∙ alloc_acts a.count) n in
    let m = live_stays e past e.domain.0 l (no_end e e.domain.0 a.count a.act) in
    holds_of (e ∷ past) e.domain.0 (objects_made past + 1) m (new_kept past e a (live_made (e ∷ past) e.domain.0 m))

-- the whole of an extent lies on it
whole_on : (x n : ℕ) → (whole x n).extent ≡ x
unfolding whole
whole_on x n = refl

-- an extent is in use once it is made
pub used_once_made : (s : System) (past : Past) (e : Entry) → IsNext s past e → is_allocation e ≡ true → is_extent_in_use (e ∷ past) (extents_made past + 1) ≡ true
used_once_made s past e n h =
    let a = allocation_is s past e n h in
    in_use_of (e ∷ past) (extents_made past + 1) (objects_made past + 1)
    (record {
      part = whole (extents_made past + 1) (not_below_zero a.count);
      is = new_is past e a;
      on = whole_on (extents_made past + 1) (not_below_zero a.count);
      valid = new_valid past e a;
      used = ByDomain e.domain.0 (new_held s past e n a);
    })
