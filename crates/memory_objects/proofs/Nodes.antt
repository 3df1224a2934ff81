-- The tree of memory objects, as the records change and objects come to it.
use Rattle.std.proofs.Common.{◌≡◌, refl, sym, ◌∙◌, ap, subst, ℕ, zero, suc, ◌+◌, ◌<◌, ◌≤◌, ◌&&◌, ◌||◌, ◌==◌, not, Bool, true, false, List, [], ◌∷◌, ◌++◌, length, map, Option, Some, None, slice_get, ◌⊎◌, inl, inr, arith}
use Rattle.std.specs.Option.{option_map}
use Rattle.std.proofs.lemmas.Option.{slice_get-map, slice_get_within}
use Rattle.jx_base.specs.Basics.{numbered, passes, contains_number}
use Rattle.jx_base.proofs.BasicLaws.{ap2, get_left}
use Rattle.jx_model.specs.MemoryObjects.{Part, lineage_of}
use Rattle.jx_model.specs.Tables.{ObjectRecord}
use Rattle.jx_laws.proofs.Lists.{numbered_left, numbered_split, numbered_within, get_one}
use Rattle.table_threads.specs.Changes.{changed_at}
use Rattle.memory_objects.specs.ObjectLists.{ObjectsState, CanJoin, revoked_in, valid_in}
use Rattle.memory_objects.specs.Rows.{IsNode, IsTree}
use Rattle.memory_objects.proofs.Tree.{lineage_up, numbered_each, tree_falls}

-- the same objects are valid
abbrev pub AreSameValid : List ObjectRecord → List ObjectRecord → Type 0
AreSameValid xs ys = (m : ℕ) → valid_in ys m ≡ valid_in xs m

-- a change of one record that keeps whether it is valid
pub same_changed : (f : ObjectRecord → ObjectRecord) (i : ℕ) (xs : List ObjectRecord) → ((r : ObjectRecord) → (f r).valid ≡ r.valid) → AreSameValid xs (changed_at i f xs)
unfolding numbered passes
same_changed f i xs h zero = refl
same_changed f i xs h (suc m) = by i xs m
  where
    by : (i : ℕ) (xs : List ObjectRecord) (m : ℕ) → passes (λ r. r.valid) (slice_get (changed_at i f xs) m) ≡ passes (λ r. r.valid) (slice_get xs m)
    by i [] m = refl
    by zero (x ∷ xs) zero = h x
    by zero (x ∷ xs) (suc m) = refl
    by (suc i) (x ∷ xs) zero = refl
    by (suc i) (x ∷ xs) (suc m) = by i xs m

-- a change of all records that keeps whether they are valid
pub same_map : (f : ObjectRecord → ObjectRecord) (xs : List ObjectRecord) → ((r : ObjectRecord) → (f r).valid ≡ r.valid) → AreSameValid xs (map f xs)
unfolding numbered passes
same_map f xs h zero = refl
same_map f xs h (suc m) = ap (passes (λ (r : ObjectRecord). r.valid)) (slice_get-map f xs m) ∙ by (slice_get xs m)
  where
    by : (o : Option ObjectRecord) → passes (λ r. r.valid) (option_map f o) ≡ passes (λ r. r.valid) o
    by None = refl
    by (Some r) = h r

-- a tree stays one where the same objects are valid
pub tree_same : (parts : List Part) (xs ys : List ObjectRecord) → AreSameValid xs ys → IsTree parts xs → IsTree parts ys
tree_same parts xs ys same h m o q =
    let node = h m o q in
    record { falls = node.falls; upward = λ d v. same o.parent ∙ node.upward d (sym (same m) ∙ v); small = node.small }

-- which objects are valid once m and what derives from it have ended
pub valid_revoked : (parts : List Part) (m : ℕ) (xs : List ObjectRecord) (n : ℕ) → valid_in (revoked_in parts m xs) n ≡ (valid_in xs n && not (contains_number (lineage_of parts n) m))
unfolding passes
valid_revoked parts m xs n = ap (passes (λ (r : ObjectRecord). r.valid)) (numbered_each _ xs n) ∙ by (numbered xs n)
  where
    by : (q : Option ObjectRecord) → passes (λ r. r.valid) (option_map (λ r. let y : ObjectRecord = record r { valid = r.valid && not (contains_number (lineage_of parts n) m) } in y) q) ≡ (passes (λ r. r.valid) q && not (contains_number (lineage_of parts n) m))
    by None = refl
    by (Some r) = refl

-- what follows from a pair of tests
both : (a b : Bool) → (a && b) ≡ true → (a ≡ true) × (b ≡ true)
both true true h = (refl, refl)
both true false h = cc
both false b h = cc

-- a test that fails with a second one
not_or : (e c : Bool) → not (e || c) ≡ true → not c ≡ true
not_or true c h = cc
not_or false c h = h

-- a tree stays one when an object and what derives from it end
pub tree_revoked : (parts : List Part) (m : ℕ) (xs : List ObjectRecord) → IsTree parts xs → IsTree parts (revoked_in parts m xs)
tree_revoked parts m xs h n o q =
    let node = h n o q in
    record {
      falls = node.falls;
      upward = λ d v.
          let x = both (valid_in xs n) (not (contains_number (lineage_of parts n) m)) (sym (valid_revoked parts m xs n) ∙ v) in
          valid_revoked parts m xs o.parent
          ∙ ap2 (λ (a b : Bool). a && b) (node.upward d x.0)
          (not_or (n == m) (contains_number (lineage_of parts o.parent) m) (sym (ap not (lineage_up parts n m o (tree_falls parts xs h) q)) ∙ x.1));
      small = node.small;
    }

-- a valid object stays so when more come behind
pub valid_left : (xs ys : List ObjectRecord) (m : ℕ) → valid_in xs m ≡ true → valid_in (xs ++ ys) m ≡ true
unfolding passes
valid_left xs ys m h = by (numbered xs m) refl h
  where
    by : (q : Option ObjectRecord) → numbered xs m ≡ q → passes (λ r. r.valid) q ≡ true → valid_in (xs ++ ys) m ≡ true
    by None e g = cc
    by (Some r) e g = ap (passes (λ (r : ObjectRecord). r.valid)) (numbered_left xs ys m r e) ∙ g

-- of the first objects the same are valid
valid_old : (xs ys : List ObjectRecord) (m : ℕ) → m ≤ length xs → valid_in (xs ++ ys) m ≡ true → valid_in xs m ≡ true
unfolding passes numbered
valid_old xs ys zero l h = cc
valid_old xs ys (suc i) l h = sym (ap (passes (λ (r : ObjectRecord). r.valid)) (get_left xs ys i (omega (arith, l)))) ∙ h

-- a tree to which an object comes
pub tree_more : (x : ObjectsState) (o : Part) (ys : List ObjectRecord) → length x.records ≡ length x.parts → CanJoin x o → IsTree x.parts x.records → IsTree (x.parts ++ o ∷ []) (x.records ++ ys)
tree_more x o ys same join h m p q = by (numbered_split x.parts (o ∷ []) m p q)
  where
    new : (k : ℕ) → slice_get (o ∷ []) k ≡ Some p → m ≡ length x.parts + k + 1 → IsNode (x.records ++ ys) m p
    new k e n =
        let w : k < 1 = slice_get_within (o ∷ []) k p e in
        subst (λ (y : Part). IsNode (x.records ++ ys) m y) (get_one o k p e)
        (record {
          falls = let l = join.made in omega (arith, l, n, w);
          upward = λ d v. valid_left x.records ys o.parent (join.valid d);
          small = join.small;
        })

    by : (numbered x.parts m ≡ Some p) ⊎ ((k : ℕ) × (m ≡ length x.parts + k + 1) × (slice_get (o ∷ []) k ≡ Some p)) → IsNode (x.records ++ ys) m p
    by (inl e) =
        let node = h m p e in
        let w = numbered_within x.parts m p e in
        record {
          falls = node.falls;
          upward = λ d v. valid_left x.records ys p.parent (node.upward d (valid_old x.records ys m (omega (arith, w.1, same)) v));
          small = node.small;
        }
    by (inr (k, n, e)) = new k e n

-- without parts there is a tree
pub tree_empty : (parts : List Part) (records : List ObjectRecord) → parts ≡ [] → IsTree parts records
tree_empty parts records e m o q = let w = numbered_within parts m o q in absurd (omega (arith, w.0, w.1, ap (λ (xs : List Part). length xs) e))
