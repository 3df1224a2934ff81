-- After a done revoke or split of an object, each use of it or of what was derived from it is refused.
use Rattle.std.proofs.Common.{◌≡◌, refl, sym, ◌∙◌, ap, subst, ℕ, ◌<◌, ◌≤◌, Bool, true, false, not, ◌&&◌, List, [], ◌∷◌, ◌++◌, Some, arith, ◌⊎◌, inl, inr}
use Rattle.jx_base.specs.declared.act.Act.{Act}
use Rattle.jx_base.specs.declared.act.Act.TheVariants as act
use Rattle.jx_base.specs.declared.act.Reply.{Reply}
use Rattle.jx_base.specs.declared.act.Refusal.TheVariants as refusal
use Rattle.jx_base.specs.declared.act.Entry.{Entry}
use Rattle.jx_base.specs.declared.ids.ObjectId.{ObjectId}
use Rattle.jx_base.specs.declared.program.System.{System}
use Rattle.jx_base.specs.Basics.{passes, contains_number}
use Rattle.jx_base.specs.Histories.{Past, is_done}
use Rattle.jx_model.specs.MemoryObjects.{Part, objects_of, objects_made, object_part, lineage_of, lineage_within, ended_object, ends_one_of, is_valid}
use Rattle.jx_model.specs.Holding.{holds_object}
use Rattle.jx_model.specs.Replies.{reply_to, with_object, copied, ◌refuses◌else◌}
use Rattle.jx_model.specs.Legal.{IsAdmittedPast}
use Rattle.jx_laws.specs.Laws.{RevocationHolds, RefusesUse, EndsObject, used_objects}
use Rattle.jx_model.proofs.Growing.{moment, before_admitted}
use Rattle.jx_laws.proofs.Basics.{clash, within_or_above}
use Rattle.jx_laws.proofs.Lists.{contains_first, contains_one, no_number}
use Rattle.jx_laws.proofs.Parts.{NewPart, OfExtent, OfParent, OfEnded, IsUsed, ended_used}
use Rattle.jx_laws.proofs.Lineage.{part_before, part_within, part_stays, objects_grow, falls, lineage_cases, lineage_up, lineage_below, lineage_stays, valid_old}

-- ---- what derives from an ended object is not valid

-- the object was made, and nothing that derives from it is valid
pub record IsDead (past : Past) (m : ℕ) : Type 0 where
  pub low : 1 ≤ m
  pub high : m ≤ objects_made past
  pub dead : (k : ℕ) → contains_number (lineage_of (objects_of past) k) m ≡ true → is_valid past k ≡ false

-- the number 0 derives from nothing
no_line : {A : Type 0} (past : Past) (n m : ℕ) → n ≡ 0 → contains_number (lineage_of (objects_of past) n) m ≡ true → A
unfolding lineage_of lineage_within
no_line past n m z h = no_number m (ap (λ (l : List ℕ). contains_number l m) (sym (ap (λ (k : ℕ). lineage_of (objects_of past) k) z)) ∙ h)

-- each object's parent has a lower number
falls_part : (s : System) (past : Past) (j : ℕ) (o : Part) → IsAdmittedPast s past → object_part past j ≡ Some o → o.parent < j
unfolding object_part
falls_part s past j o a h = falls s past a j o h

-- what an object derives from has no higher number
line_below : (s : System) (past : Past) (k m : ℕ) → IsAdmittedPast s past → contains_number (lineage_of (objects_of past) k) m ≡ true → m ≤ k
unfolding lineage_of
line_below s past k m a h = lineage_below (objects_of past) k k m (falls s past a) h

-- what derives from m is m or an old object or a new one whose parent derives from m
pub record IsChild (past : Past) (k m : ℕ) : Type 0 where
  pub part : Part
  pub is : object_part past k ≡ Some part
  pub line : (k ≡ m) ⊎ (contains_number (lineage_of (objects_of past) part.parent) m ≡ true)

-- what derives from m is an object: m, or one whose parent derives from m
child : (s : System) (past : Past) (k m : ℕ) → IsAdmittedPast s past → contains_number (lineage_of (objects_of past) k) m ≡ true → IsChild past k m
unfolding object_part
child s past k m a h = let x = lineage_cases (objects_of past) k m (falls s past a) h in record { part = x.0; is = x.1; line = x.2 }

-- what an object's parent derives from, the object does
child_up : (s : System) (past : Past) (k m : ℕ) (o : Part) → IsAdmittedPast s past → object_part past k ≡ Some o → contains_number (lineage_of (objects_of past) o.parent) m ≡ true →
    contains_number (lineage_of (objects_of past) k) m ≡ true
unfolding object_part
child_up s past k m o a q h = lineage_up (objects_of past) k m o (falls s past a) q h

-- a done revoke or split of m ends what derives from m
ends_it : (line : List ℕ) (e : Entry) (m : ℕ) → is_done e.reply ≡ true → ended_object e.act ≡ Some m → contains_number line m ≡ true → ends_one_of line e ≡ true
unfolding ends_one_of passes
ends_it line e m d q h = ap (λ (b : Bool). b && passes (contains_number line) (ended_object e.act)) d ∙ ap (passes (contains_number line)) q ∙ h

-- what is ended isn't valid
and_not : (x y : Bool) → y ≡ true → (x && not y) ≡ false
and_not true true h = refl
and_not false true h = refl
and_not x false h = cc

module _ (s : System) (past : Past) (e : Entry) (m : ℕ) (a : IsAdmittedPast s (e ∷ past)) where
  same_line : (k : ℕ) → k ≤ objects_made past → contains_number (lineage_of (objects_of (e ∷ past)) k) m ≡ true → contains_number (lineage_of (objects_of past) k) m ≡ true
  same_line k u h = ap (λ (l : List ℕ). contains_number l m) (sym (lineage_stays s e past k a.1 u)) ∙ h

  -- a done revoke or split makes what derives from its object invalid
  pub dies : EndsObject e m → IsDead (e ∷ past) m
  dies x = record { low = within.0; high = omega (arith, within, objects_grow e past); dead = λ k h. by k h (within_or_above k (objects_made past)) }
    where
      used : (o : Part) × IsUsed past e.domain.0 m o
      used = ended_used s past e.domain.0 m e.act (ap is_done (sym a.0.reply) ∙ x.0) x.1

      within : (1 ≤ m) × (m ≤ objects_made past)
      within = part_within past m used.0 used.1.part

      old : (k : ℕ) → contains_number (lineage_of (objects_of (e ∷ past)) k) m ≡ true → k ≤ objects_made past → is_valid (e ∷ past) k ≡ false
      old k h u =
          valid_old e past k u
          ∙ and_not (is_valid past k) (ends_one_of (lineage_of (objects_of past) k) e) (ends_it (lineage_of (objects_of past) k) e m x.0 x.1 (same_line k u h))

      new : (k : ℕ) (o : Part) → objects_made past < k → NewPart past e.domain.0 e.act e.reply o → (k ≡ m) ⊎ (contains_number (lineage_of (objects_of (e ∷ past)) o.parent) m ≡ true) → ⊥
      new k o l p (inl q) = omega (arith, l, q, within)
      new k o l (OfExtent f) (inr h) = no_line (e ∷ past) o.parent m f.parent h
      new k o l (OfParent j old u i p n) (inr h) = let w = x.1 in cc (w, n)
      new k o l (OfEnded j old u i p n) (inr h) =
          let w = x.1 in
          let q : j ≡ m = cc (w, n) in
          let y = falls_part s past j old a.1 u.part in omega (arith, line_below s (e ∷ past) o.parent m a h, p, q, y)

      by : (k : ℕ) → contains_number (lineage_of (objects_of (e ∷ past)) k) m ≡ true → (k ≤ objects_made past) ⊎ (objects_made past < k) → is_valid (e ∷ past) k ≡ false
      by k h (inl u) = old k h u
      by k h (inr l) =
          let c = child s (e ∷ past) k m a h in
          elim (part_before s past e k c.part a.0 c.is) [
            | inl q ↦ absurd (omega (arith, l, part_within past k c.part q))
            | inr q ↦ absurd (new k c.part l q.1 c.line)
          ]

  -- what is dead stays dead
  pub stays_dead : IsDead past m → IsDead (e ∷ past) m
  stays_dead x = record { low = x.low; high = omega (arith, x.high, objects_grow e past); dead = λ k h. by k h (within_or_above k (objects_made past)) }
    where
      old : (k : ℕ) → contains_number (lineage_of (objects_of (e ∷ past)) k) m ≡ true → k ≤ objects_made past → is_valid (e ∷ past) k ≡ false
      old k h u = valid_old e past k u ∙ ap (λ (b : Bool). b && not (ends_one_of (lineage_of (objects_of past) k) e)) (x.dead k (same_line k u h))

      lost : (j : ℕ) (old : Part) → IsUsed past e.domain.0 j old → contains_number (lineage_of (objects_of (e ∷ past)) j) m ≡ true → ⊥
      lost j old u h = clash (is_valid past j) u.valid (x.dead j (same_line j (part_within past j old u.part).1 h))

      new : (k : ℕ) (o : Part) → objects_made past < k → NewPart past e.domain.0 e.act e.reply o → (k ≡ m) ⊎ (contains_number (lineage_of (objects_of (e ∷ past)) o.parent) m ≡ true) → ⊥
      new k o l p (inl q) = omega (arith, l, q, x.high)
      new k o l (OfExtent f) (inr h) = no_line (e ∷ past) o.parent m f.parent h
      new k o l (OfParent j old u i p n) (inr h) = lost j old u (ap (λ (n : ℕ). contains_number (lineage_of (objects_of (e ∷ past)) n) m) (sym p) ∙ h)
      new k o l (OfEnded j old u i p n) (inr h) =
          lost j old u (child_up s (e ∷ past) j m old a (part_stays e past j old u.part) (ap (λ (n : ℕ). contains_number (lineage_of (objects_of (e ∷ past)) n) m) (sym p) ∙ h))

      by : (k : ℕ) → contains_number (lineage_of (objects_of (e ∷ past)) k) m ≡ true → (k ≤ objects_made past) ⊎ (objects_made past < k) → is_valid (e ∷ past) k ≡ false
      by k h (inl u) = old k h u
      by k h (inr l) =
          let c = child s (e ∷ past) k m a h in
          elim (part_before s past e k c.part a.0 c.is) [
            | inl q ↦ absurd (omega (arith, l, part_within past k c.part q))
            | inr q ↦ absurd (new k c.part l q.1 c.line)
          ]

-- after a done revoke or split of an object, it is dead in each later past
pub dead_after : (s : System) (between : Past) (e : Entry) (past : Past) (m : ℕ) → IsAdmittedPast s (between ++ e ∷ past) → EndsObject e m → IsDead (between ++ e ∷ past) m
dead_after s [] e past m a x = dies s past e m a x
dead_after s (f ∷ between) e past m a x = stays_dead s (between ++ e ∷ past) f m a (dead_after s between e past m a.1 x)

-- ---- a use of what is not valid is refused

-- a use is refused where the object isn't held or isn't valid
refused_use : (h v : Bool) (rest : Reply) → v ≡ false → RefusesUse (not h refuses refusal.NotHeld else not v refuses refusal.Revoked else rest)
unfolding ◌refuses◌else◌
refused_use false v rest q = inl refl
refused_use true false rest q = inr refl
refused_use true true rest q = cc

-- a use of an object that isn't valid is refused
object_refused : (past : Past) (d k : ℕ) (m : ObjectId) (f : Part → Reply) → is_valid past k ≡ false → contains_number (m.0 ∷ []) k ≡ true → RefusesUse (with_object past d m f)
unfolding with_object
object_refused past d k m f v h = refused_use (holds_object past d m.0) (is_valid past m.0) _ (ap (is_valid past) (contains_one m.0 k h) ∙ v)

-- two tests together fail where one does
either_false : (x y : Bool) → (x ≡ false) ⊎ (y ≡ false) → (x && y) ≡ false
either_false false y h = refl
either_false true false h = refl
either_false true true (inl h) = cc
either_false true true (inr h) = cc

-- an act that works through an object that is not valid is refused
pub use_refused : (s : System) (past : Past) (d k : ℕ) (a : Act) → is_valid past k ≡ false → contains_number (used_objects a) k ≡ true → RefusesUse (reply_to s past d a)
unfolding reply_to used_objects copied
use_refused s past d k (act.Size m) v h = object_refused past d k m _ v h
use_refused s past d k (act.Get m at w) v h = object_refused past d k m _ v h
use_refused s past d k (act.Set m at w x) v h = object_refused past d k m _ v h
use_refused s past d k (act.Fill m at n b) v h = object_refused past d k m _ v h
use_refused s past d k (act.Copy m at n n_at count) v h =
    refused_use (holds_object past d m.0 && holds_object past d n.0) (is_valid past m.0 && is_valid past n.0) _
    (either_false (is_valid past m.0) (is_valid past n.0) (elim (contains_first m.0 k (n.0 ∷ []) h) [
      | inl q ↦ inl (ap (is_valid past) q ∙ v)
      | inr q ↦ inr (ap (is_valid past) (contains_one n.0 k q) ∙ v)
    ]))
use_refused s past d k (act.Sub m at n) v h = object_refused past d k m _ v h
use_refused s past d k (act.Split m at) v h = object_refused past d k m _ v h
use_refused s past d k (act.Revoke m) v h = object_refused past d k m _ v h
use_refused s past d k _ v h = no_number k h

-- ---- the law

-- after a done revoke or split of m, each use of m or of what was derived from it is refused
pub revocation_holds : (s : System) (whole : Past) → IsAdmittedPast s whole → RevocationHolds whole
revocation_holds s whole h e f past between m k at x used line =
    let n = moment s whole f (between ++ e ∷ past) h at in
    let dead = dead_after s between e past m (before_admitted s whole f (between ++ e ∷ past) h at) x in
    subst (λ (r : Reply). RefusesUse r) (sym n.reply) (use_refused s (between ++ e ∷ past) f.domain.0 k f.act (dead.dead k line) used)
