-- Only a done release and the end of a domain free an extent.
use Rattle.std.proofs.Common.{◌≡◌, ◌≢◌, refl, sym, ◌∙◌, ap, ℕ, suc, zero, ◌+◌, ◌-◌, ◌<◌, ◌≤◌, Bool, true, false, not, ◌&&◌, ◌||◌, List, [], ◌∷◌, Option, Some, None, is_some, arith, ◌==◌, if◌then◌else◌, ◌⊎◌, inl, inr, slice_get, length-append}
use Rattle.std.specs.Prelude.{nat_le}
use Rattle.jx_base.specs.declared.act.Act.{Act}
use Rattle.jx_base.specs.declared.act.Act.TheVariants as act
use Rattle.jx_base.specs.declared.act.Reply.{Reply}
use Rattle.jx_base.specs.declared.act.Refusal.{Refusal}
use Rattle.jx_base.specs.declared.act.Refusal.TheVariants as refusal
use Rattle.jx_base.specs.declared.act.Reason.{Reason}
use Rattle.jx_base.specs.declared.act.Entry.{Entry}
use Rattle.jx_base.specs.declared.ids.CallId.{CallId}
use Rattle.jx_base.specs.declared.ids.ObjectId.{ObjectId}
use Rattle.jx_base.specs.declared.program.System.{System}
use Rattle.jx_base.specs.Basics.{contains_number, passes, numbered, not_below_zero}
use Rattle.jx_base.specs.Histories.{Past, is_done, is_own}
use Rattle.jx_model.specs.Domains.{is_live, ended_by, ended_by_act}
use Rattle.jx_model.specs.Calls.{Answer, Asked, ends_domain, calls_made, is_queued, is_resumed, has_live_caller, answer_of, answered_by, answered_by_act, answer_by_reply, thrown, server_of, ends_server, asked_of, is_take_of, is_resume_of, call_state}
use Rattle.jx_model.specs.MemoryObjects.{Part, new_parts, made_of, sides_at, part_within, objects_of, objects_made, object_part, extents_made, is_valid, ended_object, ends_one_of, lineage_of, lineage_within}
use Rattle.jx_model.specs.Holding.{received_objects, objects_in, is_drop_of, keeps_object, holds_object, carried, carried_by, asked_objects, answer_objects, is_extent_in_use}
use Rattle.jx_model.specs.Portals.{received_parcel}
use Rattle.jx_base.specs.declared.states.CallState.TheVariants as call
use Rattle.jx_model.specs.Permits.{acting_thread, is_halt, zero_may}
use Rattle.jx_model.specs.Replies.{reply_to, job_of, or_done, answer_reply, with_object, one_object, divided, given_or, ◌refuses◌else◌}
use Rattle.jx_model.specs.Legal.{IsNext, IsAdmittedPast}
use Rattle.jx_base.proofs.BasicLaws.{ap2, ap3, both, eq_of, at_most, beyond}
use Rattle.jx_model.proofs.CallSteps.{answer_made, resumed_made, asked_made}
use Rattle.jx_model.proofs.Serving.{take_at}
use Rattle.table_threads.proofs.CallRecords.{unqueues, queued_made}
use Rattle.table_threads.proofs.CallActs.{caller_lives_on, running_not_queued}
use Rattle.table_threads.proofs.CallStages.{returns_running, throws_running}
use Rattle.table_threads.proofs.Records.{or_false, is_that, not_that}
use Rattle.table_threads.proofs.Actors.{live_made, acts_live}
use Rattle.table_objects.proofs.Holders.{holds_step}
use Rattle.jx_model.proofs.Refusals.{objects_grow}
use Rattle.table_objects.specs.HolderChanges.{gives_object, drops_object}
use Rattle.table_objects.proofs.Parts.{PartSource, NewExtent, OfObject, part_old, part_new, part_made, part_source, valid_old, valid_new, valid_same, with_done}
use Rattle.table_objects.proofs.UsedBefore.{Use, ByDomain, ByCall}
use Rattle.table_objects.proofs.GivenObjects.{new_numbers}
use Rattle.table_objects.proofs.ObjectRecords.{parts_made, makes_gives, contains_range}
use Rattle.table_objects.proofs.ExtentsInUse.{IsUsedBy, used_by, in_use, holder_lives, carrier_made}
use Rattle.std.specs.Option.{option_and_then}

-- ---- an object's line lies on its extent

-- an object is derived from an older one on the same extent
pub record HasOlderParent (past : Past) (m : ℕ) (o : Part) : Type 0 where
  pub older : o.parent < m
  pub extent : (q : Part) → object_part past o.parent ≡ Some q → q.extent ≡ o.extent

-- each object is
pub older_parent : (s : System) (past : Past) (m : ℕ) (o : Part) → IsAdmittedPast s past → object_part past m ≡ Some o → HasOlderParent past m o
unfolding objects_made objects_of
older_parent s [] m o a h = absurd (omega (arith, part_made [] m o h, none))
  where
    none : objects_made [] ≡ 0
    none = refl
older_parent s (e ∷ past) m o a h = by (nat_le m (objects_made past)) refl (λ k q. older_parent s past k q a.1)
  where
    Again : Type 0
    Again = (k : ℕ) (q : Part) → object_part past k ≡ Some q → HasOlderParent past k q

    grown : (k : ℕ) (x : Part) → k ≤ objects_made past → HasOlderParent past k x → HasOlderParent (e ∷ past) k x
    grown k x l p = record { older = p.older; extent = λ q z. p.extent q (sym (part_old e past x.parent (omega (arith, p.older, l))) ∙ z) }

    new : Again → objects_made past < m → PartSource past e o → HasOlderParent (e ∷ past) m o
    new again l (NewExtent x q r) = record { older = omega (arith, r, l); extent = λ y z. absurd (omega (arith, (part_made (e ∷ past) o.parent y z).0, r)) }
    new again l (OfObject k q x y v w) = beside y.parent
      where
        made : k.0 ≤ objects_made past
        made = (part_made past k.0 q x).1

        beside : (o.parent ≡ k.0) ⊎ (o.parent ≡ q.parent) → HasOlderParent (e ∷ past) m o
        beside (inl z) =
            record {
              older = omega (arith, z, made, l);
              extent = λ p i.
                  let same : p ≡ q = let j : Some p ≡ Some q = sym i ∙ ap (object_part (e ∷ past)) z ∙ part_old e past k.0 made ∙ x in cc in
                  ap (λ (u : Part). u.extent) same ∙ sym y.extent;
            }
        beside (inr z) =
            let b = again k.0 q x in
            record {
              older = omega (arith, z, b.older, made, l);
              extent = λ p i. b.extent p (sym (part_old e past q.parent (omega (arith, b.older, made))) ∙ ap (object_part (e ∷ past)) (sym z) ∙ i) ∙ sym y.extent;
            }

    by : (b : Bool) → nat_le m (objects_made past) ≡ b → Again → HasOlderParent (e ∷ past) m o
    by true q again = let l = at_most m (objects_made past) q in grown m o l (again m o (sym (part_old e past m l) ∙ h))
    by false q again =
        let l = beyond m (objects_made past) q in
        new again l (part_source s e past o (m - (objects_made past + 1)) a.0 (sym (part_new e past m (m - (objects_made past + 1)) (omega (arith, l))) ∙ h))

-- each object of a line lies on the extent of the object
line_extent : (s : System) (past : Past) (n m k : ℕ) (o : Part) → IsAdmittedPast s past → object_part past m ≡ Some o → contains_number (lineage_within (objects_of past) n m) k ≡ true →
    (q : Part) × (object_part past k ≡ Some q) × (q.extent ≡ o.extent)
unfolding lineage_within object_part contains_number
line_extent s past zero m k o a h c = cc
line_extent s past (suc n) m k o a h c =
    there (m == k) refl (shape (numbered (objects_of past) m) h c) (λ q i x. line_extent s past n o.parent k q a i x)
  where
    shape : (p : Option Part) → p ≡ Some o → contains_number (elim p as (λ _. List ℕ) [ None ↦ [] | Some o ↦ m ∷ lineage_within (objects_of past) n o.parent ]) k ≡ true → ((m == k) || contains_number (lineage_within (objects_of past) n o.parent) k) ≡ true
    shape None q c = cc
    shape (Some p) q c = let z : p ≡ o = cc in ap (λ (u : Part). (m == k) || contains_number (lineage_within (objects_of past) n u.parent) k) (sym z) ∙ c

    nobody : (n p k : ℕ) → object_part past p ≡ None → contains_number (lineage_within (objects_of past) n p) k ≡ false
    nobody zero p k i = refl
    nobody (suc n) p k i = ap (λ (u : Option Part). contains_number (elim u as (λ _. List ℕ) [ None ↦ [] | Some o ↦ p ∷ lineage_within (objects_of past) n o.parent ]) k) i

    parent : (p : Option Part) → object_part past o.parent ≡ p → contains_number (lineage_within (objects_of past) n o.parent) k ≡ true →
        ((q : Part) → object_part past o.parent ≡ Some q → contains_number (lineage_within (objects_of past) n o.parent) k ≡ true → (x : Part) × (object_part past k ≡ Some x) × (x.extent ≡ q.extent)) →
        (q : Part) × (object_part past k ≡ Some q) × (q.extent ≡ o.extent)
    parent None i c again = cc (nobody n o.parent k i, c)
    parent (Some q) i c again = let r = again q i c in (r.0, r.1, r.2 ∙ (older_parent s past m o a h).extent q i)

    there : (b : Bool) → (m == k) ≡ b → (b || contains_number (lineage_within (objects_of past) n o.parent) k) ≡ true →
        ((q : Part) → object_part past o.parent ≡ Some q → contains_number (lineage_within (objects_of past) n o.parent) k ≡ true → (x : Part) × (object_part past k ≡ Some x) × (x.extent ≡ q.extent)) →
        (q : Part) × (object_part past k ≡ Some q) × (q.extent ≡ o.extent)
    there true z c again = (o, ap (object_part past) (sym (eq_of m k z)) ∙ h, refl)
    there false z c again = parent (object_part past o.parent) refl c again

-- ---- what is held or carried stays so

-- what a call carries after an entry that ends nobody
pub carried_raw : (s : System) (e : Entry) (past : Past) (c : ℕ) → IsAdmittedPast s past → 1 ≤ c → c ≤ calls_made past → ended_by e ≡ None →
    carried (e ∷ past) c ≡ carried_by (is_queued past c && not (unqueues past e c)) (has_live_caller past c && not (is_resumed past c || is_resume_of c e.act)) (asked_of past c)
    (elim (answer_of past c) as (λ _. Option Answer) [ Some a ↦ Some a | None ↦ answered_by past e c ])
unfolding carried
carried_raw s e past c a l u z =
    ap3 (λ (x y : Bool) (o : Option Answer). carried_by x (y && not (is_resumed (e ∷ past) c)) (asked_of (e ∷ past) c) o) (queued_made e past c l u) (caller_lives_on s e past c a u z) (answer_made e past c l u)
    ∙ ap2 (λ (x : Bool) (o : Option Asked). carried_by (is_queued past c && not (unqueues past e c)) (has_live_caller past c && not x) o (elim (answer_of past c) as (λ _. Option Answer) [ Some a ↦ Some a | None ↦ answered_by past e c ]))
    (resumed_made e past c l u) (asked_made e past c u)

-- a queued call is answered by no act
pub queued_unanswered : (s : System) (e : Entry) (past : Past) (c : ℕ) → IsAdmittedPast s (e ∷ past) → is_queued past c ≡ true → ended_by e ≡ None → answered_by past e c ≡ None
unfolding answered_by answered_by_act ends_server ends_domain
queued_unanswered s e past c a q z =
    ap2 (λ (o : Option Answer) (x : Option (ℕ × Reason)). elim o as (λ _. Option Answer) [ Some a ↦ Some a | None ↦ if ends_domain x (server_of past c) then Some Answer.Ended else None ]) (by e.act refl) z
  where
    running : (k : CallId) → call_state past k.0 ≡ call.Running → (b : Bool) → (k.0 == c) ≡ b → (x : Answer) → (if b then Some x else None) ≡ None
    running k r true w x = cc (ap (is_queued past) (sym (eq_of k.0 c w)) ∙ running_not_queued past k.0 r, q)
    running k r false w x = refl

    by : (b : Act) → e.act ≡ b → answered_by_act c b e.reply ≡ None
    by (act.Return k p) w = running k (returns_running s past e.domain.0 e.thread.0 k p a.1 (ap (acting_thread s past e.domain.0) (sym w) ∙ a.0.thread)).state (k.0 == c) refl (answer_by_reply e.reply (Answer.Value p))
    by (act.Throw k p) w = running k (throws_running s past e.domain.0 e.thread.0 k p a.1 (ap (acting_thread s past e.domain.0) (sym w) ∙ a.0.thread)).state (k.0 == c) refl (answer_by_reply e.reply (thrown p))
    by _ w = refl

take_is : (a : Act) (c : ℕ) → is_take_of c a ≡ true → (k : CallId) × (a ≡ act.Take k) × (k.0 ≡ c)
unfolding is_take_of
take_is (act.Take k) c h = (k, refl, eq_of k.0 c h)
take_is _ c h = cc

resume_is : (a : Act) (c : ℕ) → is_resume_of c a ≡ true → (k : CallId) × (a ≡ act.Resume k) × (k.0 ≡ c)
unfolding is_resume_of
resume_is (act.Resume k) c h = (k, refl, eq_of k.0 c h)
resume_is _ c h = cc

-- who takes a call receives what it asks with
take_receives : (o : Option Asked) (k : CallId) (m : ℕ) → contains_number (asked_objects o) m ≡ true → contains_number (received_objects (act.Take k) (job_of o)) m ≡ true
unfolding asked_objects job_of received_objects received_parcel objects_in contains_number
take_receives None k m h = cc
take_receives (Some a) k m h = h

-- who goes on after a call receives its answer
resume_receives : (o : Option Answer) (k : CallId) (m : ℕ) → contains_number (answer_objects o) m ≡ true → contains_number (received_objects (act.Resume k) (or_done (option_and_then answer_reply o))) m ≡ true
unfolding answer_objects or_done answer_reply received_objects received_parcel objects_in contains_number
resume_receives None k m h = cc
resume_receives (Some (Answer.Value p)) k m h = h
resume_receives (Some (Answer.Thrown p)) k m h = h
resume_receives (Some Answer.CopyFailed) k m h = cc
resume_receives (Some Answer.Ended) k m h = cc
resume_receives (Some Answer.Discarded) k m h = cc

-- what an entry hands to a live domain that it doesn't end is held
pub gift_held : (e : Entry) (past : Past) (m : ℕ) → is_live past e.domain.0 ≡ true → m ≤ objects_made (e ∷ past) → ended_by e ≡ None → contains_number (received_objects e.act e.reply) m ≡ true → holds_object (e ∷ past) e.domain.0 m ≡ true
unfolding ends_domain is_own
gift_held e past m v l z g =
    holds_step e past e.domain.0 m (live_made past e.domain.0 v) l
    ∙ ap3 (λ (x : Bool) (w : Option (ℕ × Reason)) (y : Bool). x && not (ends_domain w (Some e.domain.0)) && (if (e.domain.0 == e.domain.0) && y then true else if drops_object e e.domain.0 m then false else keeps_object past e.domain.0 m)) v z g
    ∙ ap (λ (b : Bool). if b && true then true else if drops_object e e.domain.0 m then false else keeps_object past e.domain.0 m) (is_that e.domain.0 e.domain.0 refl)

-- what is held or carried before an entry that ends nobody and drops nothing is so after it
pub use_after : (s : System) (e : Entry) (past : Past) (m : ℕ) → IsAdmittedPast s (e ∷ past) → m ≤ objects_made past → ended_by e ≡ None → ((d : ℕ) → drops_object e d m ≡ false) → Use past m → Use (e ∷ past) m
unfolding ends_domain holds_object carried carried_by reply_to is_halt zero_may answer_objects contains_number
use_after s e past m a l z r (ByDomain d h) = ByDomain d (
    holds_step e past d m (live_made past d (holder_lives past d m h)) (omega (arith, l, objects_grow e past))
    ∙ ap2 (λ (w : Option (ℕ × Reason)) (x : Bool). is_live past d && not (ends_domain w (Some d)) && (if gives_object e d m then true else if x then false else keeps_object past d m)) z (r d)
    ∙ by (is_live past d) (gives_object e d m) (keeps_object past d m) h)
  where
    by : (x g k : Bool) → (x && k) ≡ true → (x && true && (if g then true else if false then false else k)) ≡ true
    by true true k h = refl
    by true false k h = h
    by false g k h = cc
use_after s e past m a l z r (ByCall c h) = by (is_queued past c) refl (is_take_of c e.act) refl (is_resume_of c e.act) refl
  where
    made : (1 ≤ c) × (c ≤ calls_made past)
    made = carrier_made past c m h

    was : contains_number (carried_by (is_queued past c) (has_live_caller past c && not (is_resumed past c)) (asked_of past c) (answer_of past c)) m ≡ true
    was = h

    asks : is_queued past c ≡ true → contains_number (asked_objects (asked_of past c)) m ≡ true
    asks q = ap (λ (b : Bool). contains_number (carried_by b (has_live_caller past c && not (is_resumed past c)) (asked_of past c) (answer_of past c)) m) (sym q) ∙ was

    waits : is_queued past c ≡ false → ((has_live_caller past c && not (is_resumed past c)) ≡ true) × (contains_number (answer_objects (answer_of past c)) m ≡ true)
    waits q = opened (has_live_caller past c && not (is_resumed past c)) refl (ap (λ (b : Bool). contains_number (carried_by b (has_live_caller past c && not (is_resumed past c)) (asked_of past c) (answer_of past c)) m) (sym q) ∙ was)
      where
        opened : (b : Bool) → (has_live_caller past c && not (is_resumed past c)) ≡ b → contains_number (if b then answer_objects (answer_of past c) else []) m ≡ true → (b ≡ true) × (contains_number (answer_objects (answer_of past c)) m ≡ true)
        opened true w h = (refl, h)
        opened false w h = cc

    held : contains_number (received_objects e.act e.reply) m ≡ true → is_live past e.domain.0 ≡ true → Use (e ∷ past) m
    held g v = ByDomain e.domain.0 (gift_held e past m v (omega (arith, l, objects_grow e past)) z g)

    still : (x : List ℕ) → carried (e ∷ past) c ≡ x → contains_number x m ≡ true → Use (e ∷ past) m
    still x q w = ByCall c (ap (λ (ys : List ℕ). contains_number ys m) q ∙ w)

    raw : carried (e ∷ past) c ≡ carried_by (is_queued past c && not (is_take_of c e.act || is_some (answered_by past e c))) (has_live_caller past c && not (is_resumed past c || is_resume_of c e.act)) (asked_of past c)
        (elim (answer_of past c) as (λ _. Option Answer) [ Some a ↦ Some a | None ↦ answered_by past e c ])
    raw = carried_raw s e past c a.1 made.0 made.1 z

    answered : (o : Option Answer) → contains_number (answer_objects o) m ≡ true → (elim o as (λ _. Option Answer) [ Some a ↦ Some a | None ↦ answered_by past e c ]) ≡ o
    answered None w = cc
    answered (Some x) w = refl

    by : (q : Bool) → is_queued past c ≡ q → (t : Bool) → is_take_of c e.act ≡ t → (x : Bool) → is_resume_of c e.act ≡ x → Use (e ∷ past) m
    by true i true j x k =
        let y = take_is e.act c j in
        held
        (ap2 (λ (b : Act) (o : Reply). contains_number (received_objects b o) m) y.1 (a.0.reply ∙ ap (reply_to s past e.domain.0) y.1)
        ∙ take_receives (asked_of past y.0.0) y.0 m (ap (λ (n : ℕ). contains_number (asked_objects (asked_of past n)) m) y.2 ∙ asks i))
        (take_at s past e y.0 a.0 y.1).live
    by true i false j x k =
        still (asked_objects (asked_of past c))
        (raw ∙ ap3 (λ (p t : Bool) (o : Option Answer). carried_by (p && not (t || is_some o)) (has_live_caller past c && not (is_resumed past c || is_resume_of c e.act)) (asked_of past c)
        (elim (answer_of past c) as (λ _. Option Answer) [ Some a ↦ Some a | None ↦ answered_by past e c ])) i j (queued_unanswered s e past c a i z))
        (asks i)
    by false i t j true k =
        let y = resume_is e.act c k in
        held
        (ap2 (λ (b : Act) (o : Reply). contains_number (received_objects b o) m) y.1 (a.0.reply ∙ ap (reply_to s past e.domain.0) y.1)
        ∙ resume_receives (answer_of past y.0.0) y.0 m (ap (λ (n : ℕ). contains_number (answer_objects (answer_of past n)) m) y.2 ∙ (waits i).1))
        (acts_live s past e.domain.0 e.thread.0 (act.Resume y.0) refl refl (ap (acting_thread s past e.domain.0) (sym y.1) ∙ a.0.thread))
    by false i t j false k =
        let w = waits i in
        still (answer_objects (answer_of past c))
        (raw
        ∙ ap3 (λ (p r : Bool) (o : Option Answer). carried_by (p && not (is_take_of c e.act || is_some (answered_by past e c))) (has_live_caller past c && not (is_resumed past c || r)) (asked_of past c) o) i k (answered (answer_of past c) w.1)
        ∙ ap (λ (b : Bool). if has_live_caller past c && not b then answer_objects (answer_of past c) else []) (or_false (is_resumed past c))
        ∙ ap (λ (b : Bool). if b then answer_objects (answer_of past c) else []) w.0)
        w.1

-- an object that an entry makes is held by its domain
pub new_held : (s : System) (e : Entry) (past : Past) (m : ℕ) → IsAdmittedPast s (e ∷ past) → is_live past e.domain.0 ≡ true → ended_by e ≡ None → objects_made past < m → m ≤ objects_made (e ∷ past) → holds_object (e ∷ past) e.domain.0 m ≡ true
unfolding objects_made objects_of
new_held s e past m a v z l u =
    gift_held e past m v u z (makes_gives e.act e.reply m (
    ap (λ (xs : List ℕ). contains_number xs m) (new_numbers s e past a)
    ∙ contains_range (objects_made past + 1) (parts_made e past) m (omega (arith, l)) (omega (arith, u, length-append (objects_of past) (new_parts (objects_of past) (extents_made past + 1) e.act e.reply)))))

-- ---- what frees an extent

passed_on : (b : Bool) (r : Refusal) (rest : Reply) → is_done (b refuses r else rest) ≡ true → (b refuses r else rest) ≡ rest
unfolding ◌refuses◌else◌ is_done
passed_on true r rest h = cc
passed_on false r rest h = refl

-- an act on an object that is done gives what it gives of the object's part
pub with_part : (past : Past) (d : ℕ) (k : ObjectId) (f : Part → Reply) (q : Part) → object_part past k.0 ≡ Some q → is_done (with_object past d k f) ≡ true → with_object past d k f ≡ f q
unfolding with_object given_or
with_part past d k f q i h =
    let x = passed_on (not (holds_object past d k.0)) _ _ h in
    let y = passed_on (not (is_valid past k.0)) _ _ (ap is_done (sym x) ∙ h) in
    x ∙ y ∙ ap (λ (o : Option Part). given_or o refusal.Revoked f) i

-- a part that a done revoke or split of a held object makes, on the object's extent
pub record HasEndingPart (e : Entry) (past : Past) (q : Part) : Type 0 where
  pub part : Part
  pub is : slice_get (new_parts (objects_of past) (extents_made past + 1) e.act e.reply) 0 ≡ Some part
  pub extent : part.extent ≡ q.extent
  pub live : is_live past e.domain.0 ≡ true

-- a done revoke or split of an object makes one
pub ending_part : (s : System) (e : Entry) (past : Past) (k : ℕ) (q : Part) → IsNext s past e → is_done e.reply ≡ true → ended_object e.act ≡ Some k → object_part past k ≡ Some q → HasEndingPart e past q
unfolding ended_object reply_to new_parts made_of sides_at part_within object_part one_object divided
ending_part s e past k q n d z i = by e.act refl n.reply z
  where
    by : (a : Act) → e.act ≡ a → e.reply ≡ reply_to s past e.domain.0 e.act → ended_object a ≡ Some k → HasEndingPart e past q
    by (act.Revoke m) p w z =
        let v : m.0 ≡ k = cc in
        let j : numbered (objects_of past) m.0 ≡ Some q = ap (numbered (objects_of past)) v ∙ i in
        let r : e.reply ≡ with_object past e.domain.0 m (λ o. one_object s past) = w ∙ ap (reply_to s past e.domain.0) p in
        let x = r ∙ with_part past e.domain.0 m (λ o. one_object s past) q j (ap is_done (sym r) ∙ d) in
        let y = x ∙ passed_on _ _ _ (ap is_done (sym x) ∙ d) in
        record {
          part = q;
          is = ap2 (λ (b : Act) (u : Reply). slice_get (new_parts (objects_of past) (extents_made past + 1) b u) 0) p y ∙ ap (λ (o : Option Part). slice_get (made_of o (λ o. o ∷ [])) 0) j;
          extent = refl;
          live = holder_lives past e.domain.0 m.0 (with_done past e.domain.0 m (λ o. one_object s past) (ap is_done (sym r) ∙ d)).0;
        }
    by (act.Split m at) p w z =
        let v : m.0 ≡ k = cc in
        let j : numbered (objects_of past) m.0 ≡ Some q = ap (numbered (objects_of past)) v ∙ i in
        let r : e.reply ≡ with_object past e.domain.0 m (divided s past at) = w ∙ ap (reply_to s past e.domain.0) p in
        let x = r ∙ with_part past e.domain.0 m (divided s past at) q j (ap is_done (sym r) ∙ d) in
        let u = x ∙ passed_on _ _ _ (ap is_done (sym x) ∙ d) in
        let y = u ∙ passed_on _ _ _ (ap is_done (sym u) ∙ d) in
        record {
          part = part_within q.parent q 0 (not_below_zero at);
          is = ap2 (λ (b : Act) (u : Reply). slice_get (new_parts (objects_of past) (extents_made past + 1) b u) 0) p y ∙ ap (λ (o : Option Part). slice_get (made_of o (sides_at (not_below_zero at))) 0) j;
          extent = refl;
          live = holder_lives past e.domain.0 m.0 (with_done past e.domain.0 m (divided s past at) (ap is_done (sym r) ∙ d)).0;
        }
    by _ p w z = cc

-- an entry that ends nobody and isn't a done release leaves each extent in use that was in use
pub stays_in_use : (s : System) (e : Entry) (past : Past) (x : ℕ) → IsAdmittedPast s (e ∷ past) → ended_by e ≡ None → ((d m : ℕ) → drops_object e d m ≡ false) → is_extent_in_use past x ≡ true → is_extent_in_use (e ∷ past) x ≡ true
unfolding ends_one_of passes lineage_of
stays_in_use s e past x a z r h = by (used_by past x h)
  where
    by : (m : ℕ) × IsUsedBy past x m → is_extent_in_use (e ∷ past) x ≡ true
    by u = ended (ends_one_of (lineage_of (objects_of past) u.0) e) refl
      where
        l : u.0 ≤ objects_made past
        l = (part_made past u.0 u.1.part u.1.is).1

        line : (o : Option ℕ) → ended_object e.act ≡ o → is_done e.reply ≡ true → passes (contains_number (lineage_of (objects_of past) u.0)) o ≡ true → is_extent_in_use (e ∷ past) x ≡ true
        line None q d c = cc
        line (Some k) q d c =
            let y = line_extent s past u.0 u.0 k u.1.part a.1 u.1.is c in
            ending k y.0 y.2 (ending_part s e past k y.0 a.0 d q y.1)
          where
            ending : (k : ℕ) (y : Part) → y.extent ≡ u.1.part.extent → HasEndingPart e past y → is_extent_in_use (e ∷ past) x ≡ true
            ending k y f p =
                let m : object_part (e ∷ past) (objects_made past + 1) ≡ Some p.part = part_new e past (objects_made past + 1) 0 (omega arith) ∙ p.is in
                in_use (e ∷ past) x (objects_made past + 1) (record {
                  part = p.part;
                  is = m;
                  extent = p.extent ∙ f ∙ u.1.extent;
                  valid = valid_new e past (objects_made past + 1) (omega arith) (part_made (e ∷ past) (objects_made past + 1) p.part m).1;
                  used = ByDomain e.domain.0 (new_held s e past (objects_made past + 1) a p.live z (omega arith) (part_made (e ∷ past) (objects_made past + 1) p.part m).1);
                })

        ended : (b : Bool) → ends_one_of (lineage_of (objects_of past) u.0) e ≡ b → is_extent_in_use (e ∷ past) x ≡ true
        ended false q =
            in_use (e ∷ past) x u.0 (record {
              part = u.1.part;
              is = part_old e past u.0 l ∙ u.1.is;
              extent = u.1.extent;
              valid = valid_old e past u.0 l ∙ ap2 (λ (v w : Bool). v && not w) u.1.valid q;
              used = use_after s e past u.0 a l z (λ d. r d u.0) u.1.used;
            })
        ended true q = let d = both (is_done e.reply) (passes (contains_number (lineage_of (objects_of past) u.0)) (ended_object e.act)) q in line (ended_object e.act) refl d.0 d.1

-- a done release frees no other extent than that of its object
pub release_frees_only : (s : System) (e : Entry) (past : Past) (x : ℕ) (m : ObjectId) (o : Part) → IsAdmittedPast s (e ∷ past) → e.act ≡ act.Release m → object_part past m.0 ≡ Some o → o.extent ≢ x → is_extent_in_use past x ≡ true → is_extent_in_use (e ∷ past) x ≡ true
unfolding is_drop_of ended_by ended_by_act ended_object ends_one_of passes
release_frees_only s e past x m o a q i n h = by (used_by past x h)
  where
    by : (u : ℕ) × IsUsedBy past x u → is_extent_in_use (e ∷ past) x ≡ true
    by u =
        in_use (e ∷ past) x u.0 (record {
          part = u.1.part;
          is = part_old e past u.0 l ∙ u.1.is;
          extent = u.1.extent;
          valid = valid_same e past u.0 l (inr (ap ended_object q)) ∙ u.1.valid;
          used = use_after s e past u.0 a l (ap (λ (b : Act). ended_by_act e.domain.0 b e.reply) q) kept u.1.used;
        })
      where
        l : u.0 ≤ objects_made past
        l = (part_made past u.0 u.1.part u.1.is).1

        other : (m.0 == u.0) ≡ false
        other = not_that m.0 u.0 (λ z.
            let same : o ≡ u.1.part = let j : Some o ≡ Some u.1.part = sym i ∙ ap (object_part past) (sym z) ∙ u.1.is in cc in
            n (ap (λ (p : Part). p.extent) same ∙ u.1.extent))

        turn : (y z w : Bool) → w ≡ false → (y && z && w) ≡ false
        turn true true w h = h
        turn true false w h = refl
        turn false z w h = refl

        kept : (d : ℕ) → drops_object e d u.0 ≡ false
        kept d = turn (is_own d e) (is_done e.reply) (is_drop_of u.0 e.act) (ap (is_drop_of u.0) q ∙ other)
