-- The records of memory objects after an entry: who holds them, and how many calls carry them.
use Rattle.std.proofs.Common.{◌≡◌, refl, sym, ◌∙◌, ap, ℕ, ◌+◌, ◌-◌, ◌≤◌, Bool, true, false, not, ◌&&◌, ◌||◌, List, [], ◌∷◌, ◌++◌, Option, Some, None, arith, ◌==◌, slice_get, if◌then◌else◌}
use Rattle.jx_base.specs.declared.act.Entry.{Entry}
use Rattle.jx_base.specs.declared.act.Reason.{Reason}
use Rattle.jx_base.specs.declared.program.System.{System}
use Rattle.jx_base.specs.Basics.{contains_number, up_to}
use Rattle.jx_base.specs.Histories.{Past, is_done, is_own}
use Rattle.jx_base.proofs.BasicLaws.{ap2, ap3}
use Rattle.domain_flags.specs.FlagLists.{with_flag}
use Rattle.jx_model.specs.Calls.{ends_domain}
use Rattle.jx_model.specs.Domains.{ended_by}
use Rattle.jx_model.specs.Holding.{is_drop_of, received_objects}
use Rattle.jx_model.specs.MemoryObjects.{ends_one_of, lineage_of, objects_made}
use Rattle.jx_model.specs.Tables.{CallRecord, Kept, ObjectRecord, call_records, object_record, object_records}
use Rattle.memory_objects.specs.ObjectLists.{with_holder, with_riding}
use Rattle.memory_space.proofs.RunsTaken.{each_alike}
use Rattle.parcel_carriage.specs.Carriage.{each_of}
use Rattle.table_objects.proofs.Riding.{count_more, count_set, riding_by_records}
use Rattle.table_objects.specs.HolderChanges.{held_after, holders_after}
use Rattle.table_objects.specs.ObjectChanges.{carries, count_of, object_record_after}
use Rattle.table_steps.specs.Steps.{handed_objects}
use Rattle.table_threads.proofs.Records.{each_map, map_range, one_if, set_changed}
use Rattle.table_threads.specs.Changes.{changed_at, each_record}
use Rattle.nucleus_tables.proofs.OneChanged.{each_left, each_one, each_twice}
use Rattle.nucleus_tables.specs.Riding.{counted}

-- the record of an object that so many calls carry
abbrev pub riding_at : ObjectRecord → ℕ → ObjectRecord
riding_at r n = record r { riding = n }

-- the records of a past are counted by its calls
pub records_counted : (s : System) (past : Past) → counted (call_records past) (object_records s past) ≡ object_records s past
unfolding object_records object_record up_to
records_counted s past =
    each_map (λ m r. riding_at r (count_of (carries m) (call_records past))) (object_record s past) 1 (objects_made past)
    ∙ map_range (λ m. riding_at (object_record s past m) (count_of (carries m) (call_records past))) (object_record s past) 1 (objects_made past)
    (λ m a b. ap (riding_at (object_record s past m)) (sym (riding_by_records past m)))

-- ---- calls that change

-- other counts, by what each call carries
counted_as : (calls : List CallRecord) (more : List CallRecord) (xs : List ℕ) (g : ℕ → ℕ) (os : List ObjectRecord) →
    ((m : ℕ) → count_of (carries m) more ≡ (if contains_number xs m then g (count_of (carries m) calls) else count_of (carries m) calls)) →
    counted more os ≡ each_of xs (with_riding g) (counted calls os)
counted_as calls more xs g os h =
    each_alike (λ m r. riding_at r (count_of (carries m) more)) (λ m r. if contains_number xs m then with_riding g (riding_at r (count_of (carries m) calls)) else riding_at r (count_of (carries m) calls)) 1 os
    (λ m r. ap (riding_at r) (h m) ∙ by m r (contains_number xs m))
    ∙ sym (each_twice (λ m r. if contains_number xs m then with_riding g r else r) (λ m r. riding_at r (count_of (carries m) calls)) 1 os)
  where
    by : (m : ℕ) (r : ObjectRecord) (b : Bool) →
        riding_at r (if b then g (count_of (carries m) calls) else count_of (carries m) calls)
        ≡ (if b then with_riding g (riding_at r (count_of (carries m) calls)) else riding_at r (count_of (carries m) calls))
    by m r true = refl
    by m r false = refl

-- a call more carries what it does
pub counted_more : (calls : List CallRecord) (c : CallRecord) (os : List ObjectRecord) → counted (calls ++ c ∷ []) os ≡ each_of c.carried (with_riding (λ n. n + 1)) (counted calls os)
counted_more calls c os = counted_as calls (calls ++ c ∷ []) c.carried (λ n. n + 1) os (λ m. count_more (carries m) calls c ∙ by (count_of (carries m) calls) (contains_number c.carried m))
  where
    by : (n : ℕ) (b : Bool) → n + one_if b ≡ (if b then n + 1 else n)
    by n true = refl
    by n false = omega arith

module _ (i : ℕ) (f : CallRecord → CallRecord) (calls : List CallRecord) (c : CallRecord) (there : slice_get calls i ≡ Some c) (os : List ObjectRecord) where
  counts : (m : ℕ) → count_of (carries m) (changed_at i f calls) + one_if (carries m c) ≡ count_of (carries m) calls + one_if (carries m (f c))
  counts m = ap (λ (cs : List CallRecord). count_of (carries m) cs + one_if (carries m c)) (sym (set_changed i f calls c there)) ∙ count_set (carries m) calls i c (f c) there

  -- a call that carries nothing any more
  pub counted_less : (f c).carried ≡ [] → counted (changed_at i f calls) os ≡ each_of c.carried (with_riding (λ n. n - 1)) (counted calls os)
  unfolding contains_number
  counted_less z =
      counted_as calls (changed_at i f calls) c.carried (λ n. n - 1) os
      (λ m. by (count_of (carries m) (changed_at i f calls)) (count_of (carries m) calls) (contains_number c.carried m) (counts m ∙ ap (λ (xs : List ℕ). count_of (carries m) calls + one_if (contains_number xs m)) z))
    where
      by : (n k : ℕ) (b : Bool) → n + one_if b ≡ k + 0 → n ≡ (if b then k - 1 else k)
      by n k true q = omega (arith, q)
      by n k false q = omega (arith, q)

  -- a call that carried nothing carries what it does now
  pub counted_anew : c.carried ≡ [] → counted (changed_at i f calls) os ≡ each_of (f c).carried (with_riding (λ n. n + 1)) (counted calls os)
  unfolding contains_number
  counted_anew z =
      counted_as calls (changed_at i f calls) (f c).carried (λ n. n + 1) os
      (λ m. by (count_of (carries m) (changed_at i f calls)) (count_of (carries m) calls) (contains_number (f c).carried m)
      (ap (λ (xs : List ℕ). count_of (carries m) (changed_at i f calls) + one_if (contains_number xs m)) (sym z) ∙ counts m))
    where
      by : (n k : ℕ) (b : Bool) → n + 0 ≡ k + one_if b → n ≡ (if b then k + 1 else k)
      by n k true q = omega (arith, q)
      by n k false q = omega (arith, q)

-- ---- who holds them

module _ (e : Entry) (q : ended_by e ≡ None) (l : 1 ≤ e.domain.0) where
  held_is : (m x : ℕ) (held given : Bool) → contains_number (received_objects e.act e.reply) m ≡ given → is_drop_of m e.act ≡ false →
      held_after e m x held ≡ ((is_own x e && given) || held)
  unfolding ends_domain
  held_is m x held given g p =
      ap3 (λ (o : Option (ℕ × Reason)) (b c : Bool). not (ends_domain o (Some x)) && ((is_own x e && b) || (not (is_own x e && is_done e.reply && c) && held))) q g p
      ∙ by (is_own x e && given) (is_own x e) (is_done e.reply)
    where
      by : (a b c : Bool) → (a || (not (b && c && false) && held)) ≡ (a || held)
      by a true true = refl
      by a true false = refl
      by a false c = refl

  -- those that its domain is given, and no others
  pub holders_are : (m : ℕ) (hs : List Bool) (given : Bool) → contains_number (received_objects e.act e.reply) m ≡ given → is_drop_of m e.act ≡ false →
      holders_after e m hs ≡ (if given then with_flag e.domain.0 true hs else hs)
  unfolding is_own
  holders_are m hs true g p = each_one (held_after e m) (λ _. true) e.domain.0 1 hs l (λ x held. held_is m x held true g p ∙ by (e.domain.0 == x) held)
    where
      by : (b held : Bool) → ((b && true) || held) ≡ (if b then true else held)
      by true held = refl
      by false held = refl
  holders_are m hs false g p = each_left (held_after e m) 1 hs (λ x held _. held_is m x held false g p ∙ by (e.domain.0 == x) held)
    where
      by : (b held : Bool) → ((b && false) || held) ≡ held
      by true held = refl
      by false held = refl

  -- the objects after an entry that ends none, by those that its domain is given
  pub handed_are : (k : Kept) (calls : List CallRecord) (given : ℕ → Bool) → ((m : ℕ) → contains_number (received_objects e.act e.reply) m ≡ given m) →
      ((m : ℕ) → is_drop_of m e.act ≡ false) → ((line : List ℕ) → ends_one_of line e ≡ false) →
      handed_objects k e calls ≡ each_record (λ m r. if given m then with_holder e.domain.0 true r else r) (counted calls k.objects)
  handed_are k calls given g p z =
      each_alike (object_record_after e k.parts calls) (λ m r. if given m then with_holder e.domain.0 true (riding_at r (count_of (carries m) calls)) else riding_at r (count_of (carries m) calls)) 1 k.objects
      (λ m r. ap2 (λ (v : Bool) (hs : List Bool). let o : ObjectRecord = record { valid = v; holders = hs; riding = count_of (carries m) calls } in o)
      (ap (λ (b : Bool). r.valid && not b) (z (lineage_of k.parts m)) ∙ stays r.valid)
      (holders_are m r.holders (given m) (g m) (p m))
      ∙ by r (count_of (carries m) calls) (given m))
      ∙ sym (each_twice (λ m r. if given m then with_holder e.domain.0 true r else r) (λ m r. riding_at r (count_of (carries m) calls)) 1 k.objects)
    where
      stays : (b : Bool) → (b && not false) ≡ b
      stays true = refl
      stays false = refl

      by : (r : ObjectRecord) (n : ℕ) (b : Bool) →
          (let o : ObjectRecord = record { valid = r.valid; holders = if b then with_flag e.domain.0 true r.holders else r.holders; riding = n } in o)
          ≡ (if b then with_holder e.domain.0 true (riding_at r n) else riding_at r n)
      by r n true = refl
      by r n false = refl

  -- the objects after one that gives none
  pub handed_none : (k : Kept) (calls : List CallRecord) → ((m : ℕ) → contains_number (received_objects e.act e.reply) m ≡ false) →
      ((m : ℕ) → is_drop_of m e.act ≡ false) → ((line : List ℕ) → ends_one_of line e ≡ false) → handed_objects k e calls ≡ counted calls k.objects
  handed_none k calls g p z = handed_are k calls (λ _. false) g p z ∙ each_left (λ _ r. r) 1 (counted calls k.objects) (λ _ r _. refl)

-- what is given to a domain and what rides come in any order
pub given_riding : (xs : List ℕ) (d : ℕ) (f : ℕ → ℕ) (os : List ObjectRecord) →
    each_of xs (with_riding f) (each_of xs (with_holder d true) os) ≡ each_of xs (with_holder d true) (each_of xs (with_riding f) os)
given_riding xs d f os =
    each_twice (λ m r. if contains_number xs m then with_riding f r else r) (λ m r. if contains_number xs m then with_holder d true r else r) 1 os
    ∙ each_alike _ _ 1 os (λ m r. by r (contains_number xs m))
    ∙ sym (each_twice (λ m r. if contains_number xs m then with_holder d true r else r) (λ m r. if contains_number xs m then with_riding f r else r) 1 os)
  where
    by : (r : ObjectRecord) (b : Bool) →
        (let z : ObjectRecord = if b then with_holder d true r else r in if b then with_riding f z else z)
        ≡ (let z : ObjectRecord = if b then with_riding f r else r in if b then with_holder d true z else z)
    by r true = refl
    by r false = refl
