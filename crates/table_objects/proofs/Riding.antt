-- How many calls carry an object after an entry more.
use Rattle.std.proofs.Common.{◌≡◌, refl, sym, ◌∙◌, ap, ℕ, suc, zero, ◌+◌, ◌<◌, ◌≤◌, Bool, true, false, cond, List, [], ◌∷◌, ◌++◌, length, map, Some, arith, filter, set, slice_get, length-append}
use Rattle.std.specs.Prelude.{nat_le}
use Rattle.std.proofs.lemmas.Bool.Decides.{nat_tests}
use Rattle.std.proofs.lemmas.List.Elements.{filter-append}
use Rattle.jx_base.specs.declared.act.Entry.{Entry}
use Rattle.jx_base.specs.declared.program.System.{System}
use Rattle.jx_base.specs.Basics.{up_to, contains_number}
use Rattle.jx_base.specs.Histories.{Past, count_where}
use Rattle.jx_model.specs.Domains.{is_live}
use Rattle.jx_model.specs.Calls.{calls_made}
use Rattle.jx_model.specs.MemoryObjects.{objects_made}
use Rattle.jx_model.specs.Holding.{holds_object, keeps_object, carried, riders, riding_count}
use Rattle.jx_model.specs.Tables.{CallRecord, call_record, call_records}
use Rattle.jx_model.specs.Legal.{IsAdmittedPast}
use Rattle.table_threads.proofs.Records.{one_if, filter_none}
use Rattle.table_objects.proofs.Holders.{keeps_none}
use Rattle.jx_model.proofs.Refusals.{objects_grow}
use Rattle.table_objects.proofs.UsedBefore.{Use, ByDomain, ByCall, carried_use}
use Rattle.table_objects.proofs.ExtentsInUse.{carrier_made}
use Rattle.jx_base.proofs.BasicLaws.{both}
use Rattle.table_objects.specs.ObjectChanges.{carries, count_of}

-- ---- by the records of the calls

count_map : {A B : Type 0} (p : B → Bool) (f : A → B) (xs : List A) → count_of p (map f xs) ≡ count_of (λ x. p (f x)) xs
count_map p f [] = refl
count_map {A = A} {B = B} p f (x ∷ xs) = by (p (f x)) (filter p (map f xs)) (filter (λ x. p (f x)) xs) (count_map p f xs)
  where
    by : (b : Bool) (ys : List B) (zs : List A) → length ys ≡ length zs → length (cond b (f x ∷ ys) ys) ≡ length (cond b (x ∷ zs) zs)
    by true ys zs h = omega (arith, h)
    by false ys zs h = h

-- as many calls carry an object as records do
pub riding_by_records : (past : Past) (m : ℕ) → riding_count past m ≡ count_of (carries m) (call_records past)
unfolding riding_count riders call_records call_record
riding_by_records past m = sym (count_map (carries m) (call_record past) (up_to (calls_made past)))

-- a record more
pub count_more : {A : Type 0} (p : A → Bool) (xs : List A) (x : A) → count_of p (xs ++ x ∷ []) ≡ count_of p xs + one_if (p x)
count_more p xs x = ap length (filter-append p xs (x ∷ [])) ∙ length-append (filter p xs) _ ∙ ap (λ (n : ℕ). length (filter p xs) + n) (by (p x))
  where
    by : (b : Bool) → length (cond b (x ∷ []) []) ≡ one_if b
    by true = refl
    by false = refl

-- a record changed
pub count_set : {A : Type 0} (p : A → Bool) (xs : List A) (i : ℕ) (x y : A) → slice_get xs i ≡ Some x → count_of p (set xs i y) + one_if (p x) ≡ count_of p xs + one_if (p y)
count_set p [] i x y h = cc
count_set {A = A} p (z ∷ xs) zero x y h = let q : z ≡ x = cc in ap (λ (k : A). count_of p (y ∷ xs) + one_if (p k)) (sym q) ∙ by (p z) (p y) (filter p xs)
  where
    by : (a b : Bool) (zs : List A) → length (cond b (y ∷ zs) zs) + one_if a ≡ length (cond a (z ∷ zs) zs) + one_if b
    by true true zs = refl
    by true false zs = omega arith
    by false true zs = omega arith
    by false false zs = refl
count_set {A = A} p (z ∷ xs) (suc i) x y h = by (p z) (filter p (set xs i y)) (filter p xs) (count_set p xs i x y h)
  where
    by : (a : Bool) (us vs : List A) → length us + one_if (p x) ≡ length vs + one_if (p y) → length (cond a (z ∷ us) us) + one_if (p x) ≡ length (cond a (z ∷ vs) vs) + one_if (p y)
    by true us vs h = omega (arith, h)
    by false us vs h = h

-- records that all change
pub count_mapped : {A B : Type 0} (p : B → Bool) (f : A → B) (xs : List A) → count_of p (map f xs) ≡ count_of (λ x. p (f x)) xs
count_mapped p f xs = count_map p f xs

-- where the records stay, so do the counts
pub riding_same : (e : Entry) (past : Past) (m : ℕ) → call_records (e ∷ past) ≡ call_records past → riding_count (e ∷ past) m ≡ riding_count past m
riding_same e past m h = riding_by_records (e ∷ past) m ∙ ap (count_of (carries m)) h ∙ sym (riding_by_records past m)

-- where a record is added, it may carry the object
pub riding_more : (e : Entry) (past : Past) (m : ℕ) (item : CallRecord) → call_records (e ∷ past) ≡ call_records past ++ item ∷ [] → riding_count (e ∷ past) m ≡ riding_count past m + one_if (carries m item)
riding_more e past m item h =
    riding_by_records (e ∷ past) m ∙ ap (count_of (carries m)) h ∙ count_more (carries m) (call_records past) item ∙ ap (λ (n : ℕ). n + one_if (carries m item)) (sym (riding_by_records past m))

-- where a record is set, what it carried counts no more, and what it carries does
pub riding_set : (e : Entry) (past : Past) (m i : ℕ) (old new : CallRecord) → slice_get (call_records past) i ≡ Some old → call_records (e ∷ past) ≡ set (call_records past) i new →
    riding_count (e ∷ past) m + one_if (carries m old) ≡ riding_count past m + one_if (carries m new)
riding_set e past m i old new g h =
    ap (λ (n : ℕ). n + one_if (carries m old)) (riding_by_records (e ∷ past) m ∙ ap (count_of (carries m)) h)
    ∙ count_set (carries m) (call_records past) i old new g
    ∙ ap (λ (n : ℕ). n + one_if (carries m new)) (sym (riding_by_records past m))

-- where all records change alike
pub riding_mapped : (e : Entry) (past : Past) (m : ℕ) (f : CallRecord → CallRecord) → call_records (e ∷ past) ≡ map f (call_records past) → riding_count (e ∷ past) m ≡ count_of (λ item. carries m (f item)) (call_records past)
riding_mapped e past m f h = riding_by_records (e ∷ past) m ∙ ap (count_of (carries m)) h ∙ count_map (carries m) f (call_records past)

-- ---- what isn't made

-- what is held or carried was made
pub use_made : (s : System) (past : Past) (m : ℕ) → IsAdmittedPast s past → Use past m → m ≤ objects_made past
unfolding holds_object count_where
use_made s past m a (ByDomain d h) = by (nat_le m (objects_made past)) refl
  where
    within : (x y : ℕ) → nat_le x y ≡ true → x ≤ y
    within x y q = grind (arith, nat_tests)

    beyond : (x y : ℕ) → nat_le x y ≡ false → y < x
    beyond x y q = grind (arith, nat_tests)

    by : (b : Bool) → nat_le m (objects_made past) ≡ b → m ≤ objects_made past
    by true q = within m (objects_made past) q
    by false q = cc (keeps_none past d m (beyond m (objects_made past) q), (both (is_live past d) (keeps_object past d m) h).1)
use_made s [] m a (ByCall c h) = let x = carrier_made [] c m h in absurd (omega (arith, x.0, x.1, none))
  where
    none : calls_made [] ≡ 0
    none = refl
use_made s (e ∷ past) m a (ByCall c h) = omega (arith, use_made s past m a.1 (carried_use s e past c m a h), objects_grow e past)

-- no call carries what an entry makes
pub riding_new : (s : System) (e : Entry) (past : Past) (m : ℕ) → IsAdmittedPast s (e ∷ past) → objects_made past < m → riding_count (e ∷ past) m ≡ 0
unfolding riding_count riders up_to
riding_new s e past m a l = ap length (filter_none (λ c. contains_number (carried (e ∷ past) c) m) 1 (calls_made (e ∷ past)) (λ c x y. none c (contains_number (carried (e ∷ past) c) m) refl))
  where
    none : (c : ℕ) (b : Bool) → contains_number (carried (e ∷ past) c) m ≡ b → b ≡ false
    none c false q = refl
    none c true q = absurd (omega (arith, use_made s past m a.1 (carried_use s e past c m a q), l))
