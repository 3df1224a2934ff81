-- Domains, services, calls and memory objects are numbered in the order in which they are made.
use Rattle.std.proofs.Common.{◌≡◌, refl, sym, ◌∙◌, ap, subst, ℕ, ◌+◌, ℤ, Bool, true, false, ◌&&◌, List, [], ◌∷◌, ◌++◌, length, Option, Some, None, is_some, ◌⊎◌, inl, inr, arith, append-nil, length-append, if◌then◌else◌}
use Rattle.std.specs.List.{range_with_len}
use Rattle.jx_base.specs.declared.act.Act.{Act}
use Rattle.jx_base.specs.declared.act.Act.TheVariants as act
use Rattle.jx_base.specs.declared.act.Reply.{Reply}
use Rattle.jx_base.specs.declared.act.Reply.TheVariants as reply
use Rattle.jx_base.specs.declared.act.Refusal.TheVariants as refusal
use Rattle.jx_base.specs.declared.act.Entry.{Entry}
use Rattle.jx_base.specs.declared.ids.ClassId.{ClassId}
use Rattle.jx_base.specs.declared.ids.MethodId.{MethodId}
use Rattle.jx_base.specs.declared.ids.ObjectId.{ObjectId}
use Rattle.jx_base.specs.declared.ids.ServiceId.{ServiceId}
use Rattle.jx_base.specs.declared.value.Parcel.{Parcel}
use Rattle.jx_base.specs.declared.program.System.{System}
use Rattle.jx_base.specs.Basics.{up_to, numbered}
use Rattle.jx_base.specs.Histories.{Past, count_where}
use Rattle.jx_model.specs.Domains.{is_birth, makes_domain, domains_made, template_named}
use Rattle.jx_model.specs.Portals.{is_export, exported_interface, services_made}
use Rattle.jx_model.specs.Calls.{is_call, asked_by, queued_as, calls_made}
use Rattle.jx_model.specs.MemoryObjects.{Part, new_parts, made_of, sides_at, objects_of, objects_made, object_part, extents_made}
use Rattle.jx_model.specs.Granules.{first_fit, heap_granules}
use Rattle.jx_model.specs.Replies.{reply_to, ◌refuses◌else◌, given_or, new_domain, spawned, new_service, called, with_object, derived, divided, one_object, allocated, new_object}
use Rattle.jx_model.specs.Legal.{IsNext, IsAdmittedPast}
use Rattle.jx_model.specs.Growth.{GivesNumbersOnce, numbers_given, new_domain_number, new_service_number, new_call_number, new_object_numbers}
use Rattle.jx_base.proofs.BasicLaws.{up_to_append}
use Rattle.jx_base.proofs.NthEntries.{count_new, count_same}

-- an entry that is counted gives the next number, and one that isn't gives none
abbrev pub Counts : Bool → List ℕ → ℕ → Type 0
Counts b xs n = ((b ≡ true) × (xs ≡ (n + 1) ∷ [])) ⊎ ((b ≡ false) × (xs ≡ []))

-- numbers that each entry counts are those up to the count
counted : (s : System) (new : Act → Reply → List ℕ) (p : Entry → Bool) →
    ((past : Past) (e : Entry) → IsNext s past e → Counts (p e) (new e.act e.reply) (count_where p past)) →
    (past : Past) → IsAdmittedPast s past → numbers_given new past ≡ up_to (count_where p past)
unfolding numbers_given count_where up_to
counted s new p f [] h = refl
counted s new p f (e ∷ past) h = by (f past e h.0) (counted s new p f past h.1)
  where
    by : Counts (p e) (new e.act e.reply) (count_where p past) → numbers_given new past ≡ up_to (count_where p past) →
        numbers_given new past ++ new e.act e.reply ≡ up_to (count_where p (e ∷ past))
    by (inl c) again =
        ap (λ (xs : List ℕ). numbers_given new past ++ xs) c.1
        ∙ ap (λ (xs : List ℕ). xs ++ (count_where p past + 1) ∷ []) again
        ∙ sym (up_to_append (count_where p past) 1)
        ∙ ap up_to (sym (count_new p e past c.0))
    by (inr c) again =
        ap (λ (xs : List ℕ). numbers_given new past ++ xs) c.1 ∙ append-nil _ ∙ again ∙ ap up_to (sym (count_same p e past c.0))

-- ---- domains

created : (b : Bool) (o : Option ℕ) (t n : ℕ) → let r : Reply = b refuses refusal.TooMany else given_or o refusal.NoRoom (λ g. reply.Domain (record { 0 = n + 1 }) g) in
    Counts (makes_domain (act.Create t) r) (new_domain_number (act.Create t) r) n
unfolding makes_domain new_domain_number ◌refuses◌else◌ given_or
created true o t n = inr (refl, refl)
created false None t n = inr (refl, refl)
created false (Some g) t n = inl (refl, refl)

spawns : (b : Bool) (o : Option ℕ) (name : List ℕ) (n : ℕ) → let r : Reply = b refuses refusal.TooMany else given_or o refusal.NoRoom (λ g. reply.Domain (record { 0 = n + 1 }) g) in
    Counts (makes_domain (act.Spawn name) r) (new_domain_number (act.Spawn name) r) n
unfolding makes_domain new_domain_number ◌refuses◌else◌ given_or
spawns true o name n = inr (refl, refl)
spawns false None name n = inr (refl, refl)
spawns false (Some g) name n = inl (refl, refl)

spawns_named : (s : System) (past : Past) (name : List ℕ) (o : Option ℕ) → let r : Reply = given_or o refusal.Unknown (new_domain s past) in
    Counts (makes_domain (act.Spawn name) r) (new_domain_number (act.Spawn name) r) (domains_made past)
unfolding given_or makes_domain new_domain_number new_domain
spawns_named s past name None = inr (refl, refl)
spawns_named s past name (Some t) = spawns _ (first_fit s past (heap_granules s t)) name (domains_made past)

domain_counts : (s : System) (past : Past) (d : ℕ) (a : Act) → Counts (makes_domain a (reply_to s past d a)) (new_domain_number a (reply_to s past d a)) (domains_made past)
unfolding reply_to new_domain spawned makes_domain new_domain_number
domain_counts s past d (act.Create t) = created _ (first_fit s past (heap_granules s t)) t (domains_made past)
domain_counts s past d (act.Spawn name) = spawns_named s past name (template_named s name)
domain_counts s past d _ = inr (refl, refl)

-- ---- services

exports : (b : Bool) (iface : ClassId) (k n : ℕ) → let r : Reply = b refuses refusal.TooMany else reply.Service (record { 0 = n + 1 }) iface in
    Counts (is_some (exported_interface (act.Export iface k) r)) (new_service_number (act.Export iface k) r) n
unfolding exported_interface new_service_number ◌refuses◌else◌
exports true iface k n = inr (refl, refl)
exports false iface k n = inl (refl, refl)

service_counts : (s : System) (past : Past) (d : ℕ) (a : Act) → Counts (is_some (exported_interface a (reply_to s past d a))) (new_service_number a (reply_to s past d a)) (services_made past)
unfolding reply_to new_service exported_interface new_service_number
service_counts s past d (act.Export iface k) = exports _ iface k (services_made past)
service_counts s past d _ = inr (refl, refl)

-- ---- calls

calls : (b1 b2 b3 b4 : Bool) (k : ServiceId) (m : MethodId) (p : Parcel) (n : ℕ) →
    let r : Reply = b1 refuses refusal.NotHeld else b2 refuses refusal.Gone else b3 refuses refusal.NoMethod else b4 refuses refusal.Unfit else reply.Queued (record { 0 = n + 1 }) in
    Counts (is_some (asked_by (act.Call k m p)) && is_some (queued_as r)) (new_call_number (act.Call k m p) r) n
unfolding asked_by queued_as new_call_number ◌refuses◌else◌
calls true b2 b3 b4 k m p n = inr (refl, refl)
calls false true b3 b4 k m p n = inr (refl, refl)
calls false false true b4 k m p n = inr (refl, refl)
calls false false false true k m p n = inr (refl, refl)
calls false false false false k m p n = inl (refl, refl)

call_counts : (s : System) (past : Past) (d : ℕ) (a : Act) →
    Counts (is_some (asked_by a) && is_some (queued_as (reply_to s past d a))) (new_call_number a (reply_to s past d a)) (calls_made past)
unfolding reply_to called asked_by new_call_number
call_counts s past d (act.Call k m p) = calls _ _ _ _ k m p (calls_made past)
call_counts s past d _ = inr (refl, refl)

-- ---- memory objects

-- an entry that makes so many objects gives that many numbers
abbrev pub CountsParts : List Part → List ℕ → ℕ → Type 0
CountsParts parts xs n = xs ≡ range_with_len (n + 1) (length parts)

allocates : (b1 b2 : Bool) (o : Option ℕ) (olds : List Part) (x : ℕ) (z : ℤ) (n : ℕ) →
    let r : Reply = b1 refuses refusal.Range else b2 refuses refusal.TooMany else given_or o refusal.NoRoom (λ g. reply.Made (record { 0 = n + 1 }) g) in
    CountsParts (new_parts olds x (act.Alloc z) r) (new_object_numbers (act.Alloc z) r) n
unfolding new_parts new_object_numbers ◌refuses◌else◌ given_or
allocates true b2 o olds x z n = refl
allocates false true o olds x z n = refl
allocates false false None olds x z n = refl
allocates false false (Some g) olds x z n = refl

-- one object from a part that is there
sub_of : (b3 b4 : Bool) (olds : List Part) (x : ℕ) (m : ObjectId) (at count : ℤ) (n : ℕ) (part : Part) → numbered olds m.0 ≡ Some part →
    let r : Reply = b3 refuses refusal.Range else b4 refuses refusal.TooMany else reply.Object (record { 0 = n + 1 }) in
    CountsParts (new_parts olds x (act.Sub m at count) r) (new_object_numbers (act.Sub m at count) r) n
unfolding new_parts new_object_numbers made_of ◌refuses◌else◌
sub_of true b4 olds x m at count n part q = refl
sub_of false true olds x m at count n part q = refl
sub_of false false olds x m at count n part q = rw q refl

derives : (b1 b2 b4 : Bool) (b3 : Part → Bool) (olds : List Part) (x : ℕ) (m : ObjectId) (at count : ℤ) (n : ℕ) (o : Option Part) → numbered olds m.0 ≡ o →
    let r : Reply = b1 refuses refusal.NotHeld else b2 refuses refusal.Revoked else given_or o refusal.Revoked (λ part. b3 part refuses refusal.Range else b4 refuses refusal.TooMany else reply.Object (record { 0 = n + 1 })) in
    CountsParts (new_parts olds x (act.Sub m at count) r) (new_object_numbers (act.Sub m at count) r) n
unfolding new_parts new_object_numbers made_of ◌refuses◌else◌ given_or
derives true b2 b4 b3 olds x m at count n o q = refl
derives false true b4 b3 olds x m at count n o q = refl
derives false false b4 b3 olds x m at count n None q = refl
derives false false b4 b3 olds x m at count n (Some part) q = sub_of (b3 part) b4 olds x m at count n part q

-- two objects from a part that is there
sides_of : (b3 b4 : Bool) (olds : List Part) (x : ℕ) (m : ObjectId) (at : ℤ) (n : ℕ) (part : Part) → numbered olds m.0 ≡ Some part →
    let r : Reply = b3 refuses refusal.Range else b4 refuses refusal.TooMany else reply.Pair (record { 0 = n + 1 }) (record { 0 = n + 2 }) in
    CountsParts (new_parts olds x (act.Split m at) r) (new_object_numbers (act.Split m at) r) n
unfolding new_parts new_object_numbers made_of sides_at ◌refuses◌else◌
sides_of true b4 olds x m at n part q = refl
sides_of false true olds x m at n part q = refl
sides_of false false olds x m at n part q = rw q (ap (λ (k : ℕ). (n + 1) ∷ k ∷ []) (omega arith))

divides : (b1 b2 b4 : Bool) (b3 : Part → Bool) (olds : List Part) (x : ℕ) (m : ObjectId) (at : ℤ) (n : ℕ) (o : Option Part) → numbered olds m.0 ≡ o →
    let r : Reply = b1 refuses refusal.NotHeld else b2 refuses refusal.Revoked else given_or o refusal.Revoked (λ part. b3 part refuses refusal.Range else b4 refuses refusal.TooMany else reply.Pair (record { 0 = n + 1 }) (record { 0 = n + 2 })) in
    CountsParts (new_parts olds x (act.Split m at) r) (new_object_numbers (act.Split m at) r) n
unfolding new_parts new_object_numbers made_of ◌refuses◌else◌ given_or
divides true b2 b4 b3 olds x m at n o q = refl
divides false true b4 b3 olds x m at n o q = refl
divides false false b4 b3 olds x m at n None q = refl
divides false false b4 b3 olds x m at n (Some part) q = sides_of (b3 part) b4 olds x m at n part q

revokes : (b1 b2 b4 : Bool) (olds : List Part) (x : ℕ) (m : ObjectId) (n : ℕ) (o : Option Part) → numbered olds m.0 ≡ o →
    let r : Reply = b1 refuses refusal.NotHeld else b2 refuses refusal.Revoked else given_or o refusal.Revoked (λ part. b4 refuses refusal.TooMany else reply.Object (record { 0 = n + 1 })) in
    CountsParts (new_parts olds x (act.Revoke m) r) (new_object_numbers (act.Revoke m) r) n
unfolding new_parts new_object_numbers made_of ◌refuses◌else◌ given_or
revokes true b2 b4 olds x m n o q = refl
revokes false true b4 olds x m n o q = refl
revokes false false b4 olds x m n None q = refl
revokes false false true olds x m n (Some part) q = refl
revokes false false false olds x m n (Some part) q = rw q refl

-- a reply gives the objects that its act makes the next numbers
pub object_counts : (s : System) (past : Past) (d x : ℕ) (a : Act) →
    CountsParts (new_parts (objects_of past) x a (reply_to s past d a)) (new_object_numbers a (reply_to s past d a)) (objects_made past)
unfolding reply_to with_object derived divided one_object allocated new_object object_part new_parts new_object_numbers
object_counts s past d x (act.Alloc z) = allocates _ _ _ (objects_of past) x z (objects_made past)
object_counts s past d x (act.Sub m at count) = derives _ _ _ _ (objects_of past) x m at count (objects_made past) (numbered (objects_of past) m.0) refl
object_counts s past d x (act.Split m at) = divides _ _ _ _ (objects_of past) x m at (objects_made past) (numbered (objects_of past) m.0) refl
object_counts s past d x (act.Revoke m) = revokes _ _ _ (objects_of past) x m (objects_made past) (numbered (objects_of past) m.0) refl
object_counts s past d x _ = refl

objects_counted : (s : System) (past : Past) → IsAdmittedPast s past → numbers_given new_object_numbers past ≡ up_to (objects_made past)
unfolding numbers_given up_to objects_made objects_of
objects_counted s [] h = refl
objects_counted s (e ∷ past) h =
    ap (λ (xs : List ℕ). numbers_given new_object_numbers past ++ xs) (counts e.reply h.0.reply)
    ∙ ap (λ (xs : List ℕ). xs ++ range_with_len (objects_made past + 1) (length (parts e.reply))) (objects_counted s past h.1)
    ∙ sym (up_to_append (objects_made past) (length (parts e.reply)))
    ∙ ap up_to (sym (length-append (objects_of past) (parts e.reply)))
  where
    parts : Reply → List Part
    parts r = new_parts (objects_of past) (extents_made past + 1) e.act r

    counts : (r : Reply) → r ≡ reply_to s past e.domain.0 e.act → CountsParts (new_parts (objects_of past) (extents_made past + 1) e.act r) (new_object_numbers e.act r) (objects_made past)
    counts r q = subst (λ (y : Reply). CountsParts (new_parts (objects_of past) (extents_made past + 1) e.act y) (new_object_numbers e.act y) (objects_made past)) (sym q) (object_counts s past e.domain.0 (extents_made past + 1) e.act)

-- ---- all of them

abbrev by_act : (Act → Reply → Bool) → (Act → Reply → List ℕ) → System → Past → Entry → Type 0
by_act p new s past e = (n : ℕ) → Counts (p e.act (reply_to s past e.domain.0 e.act)) (new e.act (reply_to s past e.domain.0 e.act)) n → Counts (p e.act e.reply) (new e.act e.reply) n

of_reply : (p : Act → Reply → Bool) (new : Act → Reply → List ℕ) (s : System) (past : Past) (e : Entry) → IsNext s past e → by_act p new s past e
of_reply p new s past e h n c = subst (λ (r : Reply). Counts (p e.act r) (new e.act r) n) (sym h.reply) c

-- each domain, service, call and memory object has the next number of its kind
pub numbers_once : (s : System) (past : Past) → IsAdmittedPast s past → GivesNumbersOnce past
unfolding is_birth is_export is_call count_where
numbers_once s past h =
    record {
      domains = counted s new_domain_number is_birth (λ before e n. of_reply makes_domain new_domain_number s before e n (domains_made before) (domain_counts s before e.domain.0 e.act)) past h;
      services = counted s new_service_number is_export (λ before e n. of_reply (λ a r. is_some (exported_interface a r)) new_service_number s before e n (services_made before) (service_counts s before e.domain.0 e.act)) past h;
      calls = counted s new_call_number is_call (λ before e n. of_reply (λ a r. is_some (asked_by a) && is_some (queued_as r)) new_call_number s before e n (calls_made before) (call_counts s before e.domain.0 e.act)) past h;
      objects = objects_counted s past h;
    }
