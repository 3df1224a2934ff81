-- The records of the memory objects after an entry more.
use Rattle.std.proofs.Common.{◌≡◌, ◌≢◌, refl, sym, ◌∙◌, ap, ℕ, suc, zero, ◌+◌, ◌<◌, ◌≤◌, Bool, true, false, not, ◌&&◌, ◌||◌, List, [], ◌∷◌, ◌++◌, length, map, replicate, Option, Some, None, arith, ◌==◌, if◌then◌else◌, ◌⊎◌, inl, inr, length-append, append-nil}
use Rattle.std.specs.Prelude.{nat_le}
use Rattle.std.specs.List.{range_with_len}
use Rattle.std.proofs.lemmas.List.{map-append}
use Rattle.jx_base.specs.declared.act.Act.{Act}
use Rattle.jx_base.specs.declared.act.Act.TheVariants as act
use Rattle.jx_base.specs.declared.act.Reply.{Reply}
use Rattle.jx_base.specs.declared.act.Reply.TheVariants as reply
use Rattle.jx_base.specs.declared.act.Reason.{Reason}
use Rattle.jx_base.specs.declared.act.Entry.{Entry}
use Rattle.jx_base.specs.declared.program.System.{System}
use Rattle.jx_base.specs.Basics.{up_to, contains_number}
use Rattle.program_model.specs.Limits.{domain_limit}
use Rattle.jx_base.specs.Histories.{Past, is_done, is_own}
use Rattle.jx_model.specs.Domains.{is_live, domains_made, ended_by}
use Rattle.jx_model.specs.Calls.{ends_domain}
use Rattle.jx_model.specs.MemoryObjects.{Part, objects_of, objects_made, new_parts, extents_made, is_valid, ended_object, ends_one_of, lineage_of}
use Rattle.jx_model.specs.Holding.{received_objects, holds_object}
use Rattle.jx_model.specs.Growth.{new_object_numbers}
use Rattle.jx_model.specs.Tables.{ObjectRecord, object_record, object_records, call_records}
use Rattle.jx_model.specs.Legal.{IsNext, IsAdmittedPast}
use Rattle.jx_base.proofs.BasicLaws.{ap2, ap3, up_to_append, and_false, at_most, beyond}
use Rattle.table_threads.proofs.Records.{records_same, map_range, not_that, is_that, same_or_not}
use Rattle.table_threads.proofs.Actors.{unmade_acts}
use Rattle.table_objects.proofs.GivenObjects.{new_numbers}
use Rattle.table_objects.proofs.Holders.{holds_step, keeps_none, newborn_holds, flags_same, own_lives}
use Rattle.table_objects.specs.HolderChanges.{gives_object, drops_object}
use Rattle.table_objects.proofs.Parts.{valid_new, valid_old, valid_same}
use Rattle.table_objects.proofs.Riding.{riding_new, riding_same}
use Rattle.table_objects.specs.ObjectChanges.{new_object_record}

-- ---- the records of old and new objects

-- how many objects an entry makes
abbrev pub parts_made : Entry → Past → ℕ
parts_made e past = length (new_parts (objects_of past) (extents_made past + 1) e.act e.reply)

-- the records of the old objects, and behind them those of the new ones
pub objects_split : (s : System) (e : Entry) (past : Past) → object_records s (e ∷ past) ≡ map (object_record s (e ∷ past)) (up_to (objects_made past)) ++ map (object_record s (e ∷ past)) (range_with_len (objects_made past + 1) (parts_made e past))
unfolding object_records objects_made objects_of
objects_split s e past =
    ap (λ (n : ℕ). map (object_record s (e ∷ past)) (up_to n)) (length-append (objects_of past) (new_parts (objects_of past) (extents_made past + 1) e.act e.reply))
    ∙ ap (map (object_record s (e ∷ past))) (up_to_append (objects_made past) (parts_made e past))
    ∙ map-append (object_record s (e ∷ past)) (up_to (objects_made past)) _

-- a number of a range is in it
pub contains_range : (a n m : ℕ) → a ≤ m → m < a + n → contains_number (range_with_len a n) m ≡ true
unfolding contains_number
contains_range a zero m l u = absurd (omega (arith, l, u))
contains_range a (suc n) m l u = by (same_or_not a m) (contains_range (a + 1) n m)
  where
    or_true : (b : Bool) → (b || true) ≡ true
    or_true true = refl
    or_true false = refl

    by : (a ≡ m) ⊎ (a ≢ m) → (a + 1 ≤ m → m < a + 1 + n → contains_number (range_with_len (a + 1) n) m ≡ true) → ((a == m) || contains_number (range_with_len (a + 1) n) m) ≡ true
    by (inl q) again = ap (λ (b : Bool). b || contains_number (range_with_len (a + 1) n) m) (is_that a m q)
    by (inr z) again = ap (λ (b : Bool). (a == m) || b) (again (omega (arith, l, z)) (omega (arith, u))) ∙ or_true (a == m)

-- an entry that makes objects hands them to its domain
pub makes_gives : (a : Act) (r : Reply) (m : ℕ) → contains_number (new_object_numbers a r) m ≡ true → contains_number (received_objects a r) m ≡ true
unfolding new_object_numbers received_objects contains_number
makes_gives (act.Alloc n) (reply.Made k g) m h = h
makes_gives (act.Sub k at n) (reply.Object x) m h = h
makes_gives (act.Split k at) (reply.Pair x y) m h = h
makes_gives (act.Revoke k) (reply.Object x) m h = h
makes_gives _ _ m h = cc

-- the record of a new object
pub object_record_new : (s : System) (e : Entry) (past : Past) (m : ℕ) → IsAdmittedPast s (e ∷ past) → ended_by e ≡ None → objects_made past < m → m ≤ objects_made past + parts_made e past →
    object_record s (e ∷ past) m ≡ new_object_record s e.domain.0
unfolding object_record ends_domain is_own up_to objects_made objects_of
object_record_new s e past m a z l u =
    ap3 (λ (x : Bool) (hs : List Bool) (n : ℕ). let item : ObjectRecord = record { valid = x; holders = hs; riding = n } in item)
    (valid_new e past m l made)
    (map_range (λ d. holds_object (e ∷ past) d m) (λ d. e.domain.0 == d) 1 (domain_limit s) (λ d x y. one d x (nat_le d (domains_made past)) refl))
    (riding_new s e past m a l)
  where
    made : m ≤ objects_made (e ∷ past)
    made = omega (arith, u, length-append (objects_of past) (new_parts (objects_of past) (extents_made past + 1) e.act e.reply))

    given : contains_number (received_objects e.act e.reply) m ≡ true
    given = makes_gives e.act e.reply m (ap (λ (xs : List ℕ). contains_number xs m) (new_numbers s e past a) ∙ contains_range (objects_made past + 1) (parts_made e past) m (omega (arith, l)) (omega (arith, u)))

    turn : (i k r : Bool) → (i ≡ true → k ≡ true) → (k && true && (if i && true then true else if r then false else false)) ≡ i
    turn true true r h = refl
    turn true false r h = cc (h refl)
    turn false true true h = refl
    turn false true false h = refl
    turn false false r h = refl

    one : (d : ℕ) → 1 ≤ d → (b : Bool) → nat_le d (domains_made past) ≡ b → holds_object (e ∷ past) d m ≡ (e.domain.0 == d)
    one d x true y =
        holds_step e past d m (record { low = x; high = at_most d (domains_made past) y }) made
        ∙ ap3 (λ (w : Option (ℕ × Reason)) (c k : Bool). is_live past d && not (ends_domain w (Some d)) && (if (e.domain.0 == d) && c then true else if drops_object e d m then false else k)) z given (keeps_none past d m l)
        ∙ turn (e.domain.0 == d) (is_live past d) (drops_object e d m) (own_lives s past e d a.0 x)
    one d x false y =
        let u = beyond d (domains_made past) y in newborn_holds s e past d m a.0 u ∙ sym (unmade_acts s past e d a.0 u)

-- the records of all new objects
pub objects_new : (s : System) (e : Entry) (past : Past) → IsAdmittedPast s (e ∷ past) → ended_by e ≡ None →
    map (object_record s (e ∷ past)) (range_with_len (objects_made past + 1) (parts_made e past)) ≡ replicate (parts_made e past) (new_object_record s e.domain.0)
objects_new s e past a z =
    all (objects_made past + 1) (parts_made e past) (λ m l u. object_record_new s e past m a z (omega (arith, l)) (omega (arith, u)))
  where
    all : (x n : ℕ) → ((m : ℕ) → x ≤ m → m < x + n → object_record s (e ∷ past) m ≡ new_object_record s e.domain.0) → map (object_record s (e ∷ past)) (range_with_len x n) ≡ replicate n (new_object_record s e.domain.0)
    all x zero h = refl
    all x (suc n) h = ap2 (λ (y : ObjectRecord) (ys : List ObjectRecord). y ∷ ys) (h x (omega arith) (omega arith)) (all (x + 1) n (λ m l u. h m (omega (arith, l)) (omega (arith, u))))

-- an entry that makes objects adds their records behind those of the old ones, which stay or change each by itself
pub objects_after : (s : System) (e : Entry) (past : Past) → IsAdmittedPast s (e ∷ past) → ended_by e ≡ None →
    object_records s (e ∷ past) ≡ map (object_record s (e ∷ past)) (up_to (objects_made past)) ++ replicate (parts_made e past) (new_object_record s e.domain.0)
objects_after s e past a z = objects_split s e past ∙ ap (λ (xs : List ObjectRecord). map (object_record s (e ∷ past)) (up_to (objects_made past)) ++ xs) (objects_new s e past a z)

-- an entry that makes none
pub objects_made_none : (s : System) (e : Entry) (past : Past) → new_parts (objects_of past) (extents_made past + 1) e.act e.reply ≡ [] → object_records s (e ∷ past) ≡ map (object_record s (e ∷ past)) (up_to (objects_made past))
objects_made_none s e past h =
    objects_split s e past
    ∙ ap (λ (ps : List Part). map (object_record s (e ∷ past)) (up_to (objects_made past)) ++ map (object_record s (e ∷ past)) (range_with_len (objects_made past + 1) (length ps))) h
    ∙ append-nil _

-- ---- the record of an old object

-- an entry that hands over and drops none, ends no domain and no object, and leaves what calls carry, leaves an object's record
pub object_record_same : (s : System) (e : Entry) (past : Past) (m : ℕ) → IsNext s past e → m ≤ objects_made past → (is_done e.reply ≡ false) ⊎ (ended_object e.act ≡ None) → ended_by e ≡ None →
    ((d : ℕ) → gives_object e d m ≡ false) → ((d : ℕ) → drops_object e d m ≡ false) → call_records (e ∷ past) ≡ call_records past → object_record s (e ∷ past) m ≡ object_record s past m
unfolding object_record
object_record_same s e past m n l v z g r c =
    ap3 (λ (x : Bool) (hs : List Bool) (k : ℕ). let item : ObjectRecord = record { valid = x; holders = hs; riding = k } in item)
    (valid_same e past m l v) (flags_same s e past m n l z g r) (riding_same e past m c)

-- an entry that makes no objects and leaves each record leaves all
pub objects_same : (s : System) (e : Entry) (past : Past) → new_parts (objects_of past) (extents_made past + 1) e.act e.reply ≡ [] → ((m : ℕ) → 1 ≤ m → m ≤ objects_made past → object_record s (e ∷ past) m ≡ object_record s past m) → object_records s (e ∷ past) ≡ object_records s past
unfolding object_records
objects_same s e past h f = objects_made_none s e past h ∙ records_same (object_record s (e ∷ past)) (object_record s past) (objects_made past) f

-- ---- the records of old objects where new ones are made

above_range : (a n m : ℕ) → m < a → contains_number (range_with_len a n) m ≡ false
unfolding contains_number
above_range a zero m l = refl
above_range a (suc n) m l = ap2 (λ (x y : Bool). x || y) (not_that a m (λ z. omega (arith, z, l))) (above_range (a + 1) n m (omega (arith, l)))

-- an entry that hands over only what it makes leaves who holds an old object, and who carries it where the calls' records stay
pub object_record_beside : (s : System) (e : Entry) (past : Past) (m : ℕ) → IsAdmittedPast s (e ∷ past) → m ≤ objects_made past → received_objects e.act e.reply ≡ new_object_numbers e.act e.reply → ended_by e ≡ None →
    ((d : ℕ) → drops_object e d m ≡ false) → call_records (e ∷ past) ≡ call_records past → object_record s (e ∷ past) m ≡ record (object_record s past m) { valid = is_valid past m && not (ends_one_of (lineage_of (objects_of past) m) e) }
unfolding object_record
object_record_beside s e past m a l q z r c =
    ap3 (λ (x : Bool) (hs : List Bool) (k : ℕ). let item : ObjectRecord = record { valid = x; holders = hs; riding = k } in item)
    (valid_old e past m l) (flags_same s e past m a.0 l z none r) (riding_same e past m c)
  where
    none : (d : ℕ) → gives_object e d m ≡ false
    none d =
        ap (λ (xs : List ℕ). is_own d e && contains_number xs m) (q ∙ new_numbers s e past a)
        ∙ ap (λ (b : Bool). is_own d e && b) (above_range (objects_made past + 1) (parts_made e past) m (omega (arith, l)))
        ∙ and_false (is_own d e)
