-- The tree of memory objects: what ends with an object.
use Rattle.std.proofs.Common.{◌≡◌, ◌≢◌, refl, sym, ◌∙◌, ap, ℕ, zero, suc, ◌+◌, ◌<◌, ◌≤◌, ◌==◌, ◌&&◌, ◌||◌, not, Bool, true, false, List, [], ◌∷◌, length, set, Option, Some, None, slice_get, ◌⊎◌, inl, inr, arith}
use Rattle.std.specs.Prelude.{nat_le}
use Rattle.std.specs.Option.{option_map}
use Rattle.std.proofs.lemmas.Bool.Decides.{nat_tests}
use Rattle.jx_base.specs.Basics.{numbered, passes, contains_number}
use Rattle.jx_base.proofs.BasicLaws.{ap2}
use Rattle.jx_model.specs.MemoryObjects.{Part, lineage_of, lineage_within}
use Rattle.jx_model.specs.Tables.{ObjectRecord}
use Rattle.jx_laws.proofs.Lineage.{Falls, lineage_steps}
use Rattle.table_threads.specs.Changes.{each_from, each_record}
use Rattle.table_threads.proofs.Records.{is_that, not_that, same_or_not}
use Rattle.table_threads.proofs.Numbered.{numbered_at}
use Rattle.memory_objects.specs.ObjectLists.{revoked_in, valid_in}
use Rattle.memory_objects.specs.Rows.{IsNode, IsTree}

-- ---- lists of which each item changes

-- an item of such a list
pub get_each : {A : Type 0} (f : ℕ → A → A) (a i : ℕ) (xs : List A) → slice_get (each_from f a xs) i ≡ option_map (f (a + i)) (slice_get xs i)
get_each f a i [] = refl
get_each {A = A} f a zero (x ∷ xs) = let e : a ≡ a + 0 = omega arith in ap (λ (k : ℕ). Some (f k x)) e
get_each f a (suc i) (x ∷ xs) =
    let e : (a + 1) + i ≡ a + suc i = omega arith in
    get_each f (a + 1) i xs ∙ ap (λ (k : ℕ). option_map (f k) (slice_get xs i)) e

-- an item by its number
pub numbered_each : {A : Type 0} (f : ℕ → A → A) (xs : List A) (m : ℕ) → numbered (each_record f xs) m ≡ option_map (f m) (numbered xs m)
unfolding numbered
numbered_each f xs zero = refl
numbered_each f xs (suc i) = let e : 1 + i ≡ suc i = omega arith in get_each f 1 i xs ∙ ap (λ (k : ℕ). option_map (f k) (slice_get xs i)) e

-- changes that agree from a number on
each_agree : {A : Type 0} (f g : ℕ → A → A) (a : ℕ) (xs : List A) → ((j : ℕ) (y : A) → a ≤ j → f j y ≡ g j y) → each_from f a xs ≡ each_from g a xs
each_agree f g a [] h = refl
each_agree {A = A} f g a (x ∷ xs) h = ap2 (λ (y : A) (ys : List A). y ∷ ys) (h a x (omega arith)) (each_agree f g (a + 1) xs (λ j y l. h j y (omega (arith, l))))

-- changes that agree but at one item
pub each_set : {A : Type 0} (f g : ℕ → A → A) (a i : ℕ) (xs : List A) (x : A) → slice_get xs i ≡ Some x → ((j : ℕ) (y : A) → j ≢ a + i → f j y ≡ g j y) →
    set (each_from f a xs) i (g (a + i) x) ≡ each_from g a xs
each_set f g a i [] x e h = cc
each_set {A = A} f g a zero (y ∷ xs) x e h =
    let q : x ≡ y = cc in
    let n : a + 0 ≡ a = omega arith in
    ap2 (λ (z : A) (zs : List A). z ∷ zs) (ap2 g n q) (each_agree f g (a + 1) xs (λ j y l. h j y (λ z. omega (arith, l, z))))
each_set {A = A} f g a (suc i) (y ∷ xs) x e h =
    let n : a + suc i ≡ (a + 1) + i = omega arith in
    ap2 (λ (z : A) (zs : List A). z ∷ zs) (h a y (λ z. omega (arith, z)))
    (ap (λ (k : ℕ). set (each_from f (a + 1) xs) i (g k x)) n ∙ each_set f g (a + 1) i xs x e (λ j y d. h j y (λ z. d (z ∙ n))))

-- ---- lineages

-- the numbers fall in a tree
pub tree_falls : (parts : List Part) (records : List ObjectRecord) → IsTree parts records → Falls parts
tree_falls parts records h m o q = (h m o q).falls

-- the lineage of an object is itself and the lineage of its parent
pub lineage_up : (parts : List Part) (j m : ℕ) (o : Part) → Falls parts → numbered parts j ≡ Some o →
    contains_number (lineage_of parts j) m ≡ ((j == m) || contains_number (lineage_of parts o.parent) m)
unfolding lineage_of lineage_within contains_number numbered
lineage_up parts zero m o f h = cc
lineage_up parts (suc k) m o f h =
    let l : o.parent < suc k = f (suc k) o h in
    ap (λ (p : Option Part). contains_number (elim p as (λ _. List ℕ) [ None ↦ [] | Some o ↦ suc k ∷ lineage_within parts k o.parent ]) m) h
    ∙ ap (λ (xs : List ℕ). contains_number (suc k ∷ xs) m) (lineage_steps parts k o.parent o.parent f (omega (arith, l)) (omega arith))

-- nothing has the lineage of no object
pub lineage_zero : (parts : List Part) (m : ℕ) → contains_number (lineage_of parts 0) m ≡ false
unfolding lineage_of lineage_within contains_number
lineage_zero parts m = refl

-- ---- what has ended so far

-- a record, where the first k objects that derive from m have ended
abbrev pub ended_to : ℕ → List Part → ℕ → ℕ → ObjectRecord → ObjectRecord
ended_to k parts m j r = record r { valid = r.valid && not (nat_le j k && contains_number (lineage_of parts j) m) }

and_true : (b : Bool) → (b && true) ≡ b
and_true true = refl
and_true false = refl

-- none has ended at first
pub ended_none : (parts : List Part) (m : ℕ) (records : List ObjectRecord) → each_record (ended_to 0 parts m) records ≡ records
ended_none parts m records = same 1 records (omega arith)
  where
    none : (j : ℕ) (r : ObjectRecord) → 1 ≤ j → ended_to 0 parts m j r ≡ r
    none zero r l = absurd (omega (arith, l))
    none (suc j) r l =
        let high : nat_le (suc j) 0 ≡ false = grind (arith, nat_tests) in
        ap (λ (b : Bool). let x : ObjectRecord = record r { valid = r.valid && not (b && contains_number (lineage_of parts (suc j)) m) } in x) high
        ∙ ap (λ (b : Bool). let x : ObjectRecord = record r { valid = b } in x) (and_true r.valid)

    same : (a : ℕ) (rs : List ObjectRecord) → 1 ≤ a → each_from (ended_to 0 parts m) a rs ≡ rs
    same a [] l = refl
    same a (r ∷ rs) l = ap2 (λ (x : ObjectRecord) (xs : List ObjectRecord). x ∷ xs) (none a r l) (same (a + 1) rs (omega (arith, l)))

le_more : (j k : ℕ) → j ≢ 1 + k → nat_le j k ≡ nat_le j (k + 1)
le_more j k d = by (nat_le j k) (nat_le j (k + 1)) refl refl
  where
    by : (a b : Bool) → nat_le j k ≡ a → nat_le j (k + 1) ≡ b → a ≡ b
    by true true p q = refl
    by false false p q = refl
    by true false p q = grind (arith, nat_tests)
    by false true p q = grind (arith, nat_tests)

-- one more has ended or not
pub ended_set : (k m : ℕ) (parts : List Part) (records : List ObjectRecord) (r : ObjectRecord) → slice_get records k ≡ Some r →
    set (each_record (ended_to k parts m) records) k (ended_to (k + 1) parts m (1 + k) r) ≡ each_record (ended_to (k + 1) parts m) records
ended_set k m parts records r e =
    each_set (ended_to k parts m) (ended_to (k + 1) parts m) 1 k records r e
    (λ j y d. ap (λ (b : Bool). let x : ObjectRecord = record y { valid = y.valid && not (b && contains_number (lineage_of parts j) m) } in x) (le_more j k d))

-- all have ended
pub ended_all : (k m : ℕ) (parts : List Part) (records : List ObjectRecord) → length records ≤ k → each_record (ended_to k parts m) records ≡ revoked_in parts m records
ended_all k m parts records l = all 1 records (omega (arith, l))
  where
    low : (j : ℕ) → j ≤ k → nat_le j k ≡ true
    low j h = grind (arith, nat_tests)

    all : (a : ℕ) (rs : List ObjectRecord) → a + length rs ≤ k + 1 →
        each_from (ended_to k parts m) a rs ≡ each_from (λ j r. record r { valid = r.valid && not (contains_number (lineage_of parts j) m) }) a rs
    all a [] h = refl
    all a (r ∷ rs) h =
        let n : a ≤ k = omega (arith, h) in
        ap2 (λ (x : ObjectRecord) (xs : List ObjectRecord). x ∷ xs)
        (ap (λ (b : Bool). let x : ObjectRecord = record r { valid = r.valid && not (b && contains_number (lineage_of parts a) m) } in x) (low a n))
        (all (a + 1) rs (omega (arith, h)))

-- whether an object can stay valid, by what has ended before it
stays_by : (v e c w b : Bool) → w ≡ ((v && true) && (not e && b)) → (v ≡ true → b ≡ not c) → w ≡ (v && not (e || c))
stays_by true true c w b h k = h
stays_by true false c w b h k = h ∙ k refl
stays_by false e c w b h k = h

-- whether an earlier object is valid once the first have ended
valid_now : (k m : ℕ) (parts : List Part) (records : List ObjectRecord) (p : ℕ) → p ≤ k →
    valid_in (each_record (ended_to k parts m) records) p ≡ (valid_in records p && not (contains_number (lineage_of parts p) m))
unfolding passes
valid_now k m parts records p l = ap (passes (λ (r : ObjectRecord). r.valid)) (numbered_each (ended_to k parts m) records p) ∙ by (numbered records p)
  where
    low : nat_le p k ≡ true
    low = grind (arith, nat_tests)

    by : (q : Option ObjectRecord) → passes (λ r. r.valid) (option_map (ended_to k parts m p) q) ≡ (passes (λ r. r.valid) q && not (contains_number (lineage_of parts p) m))
    by None = refl
    by (Some r) = ap (λ (b : Bool). r.valid && not (b && contains_number (lineage_of parts p) m)) low

-- a record that is valid makes its object so
valid_at : (records : List ObjectRecord) (m : ℕ) (r : ObjectRecord) → numbered records m ≡ Some r → r.valid ≡ true → valid_in records m ≡ true
unfolding passes
valid_at records m r q h = ap (passes (λ (r : ObjectRecord). r.valid)) q ∙ h

-- the parent of a valid object is valid, but where it has ended
parent_stays : (k m : ℕ) (parts : List Part) (records : List ObjectRecord) (o : Part) (r : ObjectRecord) → IsTree parts records →
    numbered parts (k + 1) ≡ Some o → numbered records (k + 1) ≡ Some r → r.valid ≡ true →
    ((o.parent == 0) || valid_in (each_record (ended_to k parts m) records) o.parent) ≡ not (contains_number (lineage_of parts o.parent) m)
parent_stays k m parts records o r tree p q v = by (same_or_not o.parent 0)
  where
    node : IsNode records (k + 1) o
    node = tree (k + 1) o p

    now : Bool
    now = valid_in (each_record (ended_to k parts m) records) o.parent

    by : (o.parent ≡ 0) ⊎ (o.parent ≢ 0) → ((o.parent == 0) || now) ≡ not (contains_number (lineage_of parts o.parent) m)
    by (inl e) =
        ap (λ (b : Bool). b || now) (is_that o.parent 0 e)
        ∙ sym (ap not (ap (λ (n : ℕ). contains_number (lineage_of parts n) m) e ∙ lineage_zero parts m))
    by (inr d) =
        let l : o.parent ≤ k = let f = node.falls in omega (arith, f) in
        ap (λ (b : Bool). b || now) (not_that o.parent 0 (λ z. d (sym z)))
        ∙ valid_now k m parts records o.parent l
        ∙ ap (λ (b : Bool). b && not (contains_number (lineage_of parts o.parent) m)) (node.upward d (valid_at records (k + 1) r q v))

-- the next object ends where it is m, or where its parent has ended
next_ended : (k m : ℕ) (parts : List Part) (records : List ObjectRecord) (o : Part) (r : ObjectRecord) → IsTree parts records →
    numbered parts (k + 1) ≡ Some o → numbered records (k + 1) ≡ Some r →
    ((r.valid && not (nat_le (1 + k) k && contains_number (lineage_of parts (1 + k)) m)) && (not (k + 1 == m) && ((o.parent == 0) || valid_in (each_record (ended_to k parts m) records) o.parent)))
    ≡ (r.valid && not (nat_le (1 + k) (k + 1) && contains_number (lineage_of parts (1 + k)) m))
next_ended k m parts records o r tree p q =
    let line : Bool = contains_number (lineage_of parts (1 + k)) m in
    let stays : Bool = (o.parent == 0) || valid_in (each_record (ended_to k parts m) records) o.parent in
    let high : nat_le (1 + k) k ≡ false = grind (arith, nat_tests) in
    let low : nat_le (1 + k) (k + 1) ≡ true = grind (arith, nat_tests) in
    let n : 1 + k ≡ k + 1 = omega arith in
    let up : line ≡ ((k + 1 == m) || contains_number (lineage_of parts o.parent) m) =
    ap (λ (j : ℕ). contains_number (lineage_of parts j) m) n ∙ lineage_up parts (k + 1) m o (tree_falls parts records tree) p
    in
    stays_by r.valid (k + 1 == m) (contains_number (lineage_of parts o.parent) m) _ stays (ap (λ (b : Bool). (r.valid && not (b && line)) && (not (k + 1 == m) && stays)) high) (parent_stays k m parts records o r tree p q)
    ∙ sym (ap (λ (b : Bool). r.valid && not (b && line)) low ∙ ap (λ (b : Bool). r.valid && not b) up)

-- the record of the next object once it has ended or not
pub next_record : (k m : ℕ) (parts : List Part) (olds now : List ObjectRecord) (o : Part) (r x : ObjectRecord) (stays : Bool) → IsTree parts olds →
    slice_get parts k ≡ Some o → slice_get olds k ≡ Some r → now ≡ each_record (ended_to k parts m) olds → slice_get now k ≡ Some x →
    stays ≡ (not (k + 1 == m) && ((o.parent == 0) || valid_in now o.parent)) →
    (let y : ObjectRecord = record x { valid = x.valid && stays } in y) ≡ ended_to (k + 1) parts m (1 + k) r
next_record k m parts olds now o r x stays tree p q i a s =
    let old : ObjectRecord = ended_to k parts m (1 + k) r in
    let there : Some x ≡ Some old = sym a ∙ ap (λ (xs : List ObjectRecord). slice_get xs k) i ∙ get_each (ended_to k parts m) 1 k olds ∙ ap (option_map (ended_to k parts m (1 + k))) q in
    let same : x ≡ old = cc in
    let by_old : stays ≡ (not (k + 1 == m) && ((o.parent == 0) || valid_in (each_record (ended_to k parts m) olds) o.parent)) =
    s ∙ ap (λ (xs : List ObjectRecord). not (k + 1 == m) && ((o.parent == 0) || valid_in xs o.parent)) i
    in
    let first : numbered parts (k + 1) ≡ Some o = numbered_at parts (k + 1) k (omega arith) (omega arith) ∙ p in
    let second : numbered olds (k + 1) ≡ Some r = numbered_at olds (k + 1) k (omega arith) (omega arith) ∙ q in
    ap (λ (z : ObjectRecord). let y : ObjectRecord = record z { valid = z.valid && stays } in y) same
    ∙ ap (λ (b : Bool). let y : ObjectRecord = record r { valid = b } in y) (ap (λ (b : Bool). old.valid && b) by_old ∙ next_ended k m parts olds o r tree first second)
