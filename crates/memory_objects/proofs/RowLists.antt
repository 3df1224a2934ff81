-- Lists of rows, and what they show.
use Rattle.std.proofs.Common.{◌≡◌, refl, sym, subst, ◌∙◌, ap, ℕ, zero, suc, ◌-◌, ◌<◌, ◌≤◌, Bool, false, List, [], ◌∷◌, length, map, set, Option, Some, None, slice_get, get_or, take, drop, ◌++◌, arith}
use Rattle.std.specs.Prelude.{IsSome, IsSomeAnd}
use Rattle.std.specs.Option.{option_map}
use Rattle.std.proofs.lemmas.List.{map-set}
use Rattle.std.proofs.lemmas.Option.{slice_get_past, slice_get_read, slice_get_within, get_or_from_slice_get, slice_get-get_or, slice_get-map}
use Rattle.jx_base.specs.Basics.{numbered, passes}
use Rattle.jx_model.specs.Tables.{ObjectRecord}
use Rattle.memory_objects.specs.declared.rows.HoldRow.{HoldRow}
use Rattle.memory_objects.specs.Rows.{record_of, records_of}
use Rattle.table_threads.specs.Changes.{changed_at}
use Rattle.table_threads.proofs.Records.{set_changed}
use Rattle.table_threads.proofs.Numbered.{numbered_at}

-- ---- numbers

-- ---- rows

-- what stands for a row where there is none
abbrev pub no_row : HoldRow
no_row = record { valid = false; holders = record { flags = [] }; riding = 0 }

-- an object that was made has a row
pub record HasRow (P : ObjectRecord → Type 0) (rows : List HoldRow) (m : ℕ) : Type 0 where
  pub first : 1 ≤ m
  pub below : m - 1 < length rows
  pub row : HoldRow
  pub there : slice_get rows (m - 1) ≡ Some row
  pub holds : P (record_of row)

-- what is read of an object with such a record is its row
pub row_at : (P : ObjectRecord → Type 0) (rows : List HoldRow) (m : ℕ) → IsSomeAnd (numbered (records_of rows) m) P → HasRow P rows m
unfolding numbered
row_at P rows zero h = absurd h
row_at P rows (suc i) h = by (slice_get rows i) refl (subst (λ (o : Option ObjectRecord). IsSomeAnd o P) (slice_get-map record_of rows i) h)
  where
    by : (o : Option HoldRow) → slice_get rows i ≡ o → IsSomeAnd (option_map record_of o) P → HasRow P rows (suc i)
    by None q g = absurd g
    by (Some row) q g =
        let n : suc i - 1 ≡ i = omega arith in
        let l : i < length rows = slice_get_within rows i row q in
        record { first = omega arith; below = omega (arith, l); row = row; there = ap (slice_get rows) n ∙ q; holds = g }

-- a record that is there
pub some_and : {A : Type 0} (o : Option A) → IsSome o → IsSomeAnd o (λ _. Unit {0})
some_and None h = absurd cc
some_and (Some x) h = tt

-- the row that is read there
pub row_read : (P : ObjectRecord → Type 0) (rows : List HoldRow) (m : ℕ) → IsSomeAnd (numbered (records_of rows) m) P → P (record_of (get_or rows (m - 1) no_row))
row_read P rows m h =
    let x = row_at P rows m h in
    subst (λ (row : HoldRow). P (record_of row)) (sym (get_or_from_slice_get rows (m - 1) x.row no_row x.there)) x.holds

-- a row set to what a change gives of what it shows
pub row_changed : (f : ObjectRecord → ObjectRecord) (rows : List HoldRow) (i : ℕ) (new : HoldRow) → i < length rows →
    record_of new ≡ f (record_of (get_or rows i no_row)) → records_of (set rows i new) ≡ changed_at i f (records_of rows)
row_changed f rows i new l e =
    let old : HoldRow = get_or rows i no_row in
    map-set record_of rows i new
    ∙ ap (set (records_of rows) i) e
    ∙ set_changed i f (records_of rows) (record_of old) (slice_get-map record_of rows i ∙ ap (option_map record_of) (slice_get-get_or rows i no_row l))

-- a test of the record whose row is there
pub test_there : (p : ObjectRecord → Bool) (rows : List HoldRow) (m place : ℕ) (row : HoldRow) → 1 ≤ m → place ≡ m - 1 → place < length rows → row ≡ get_or rows place row →
    p (record_of row) ≡ passes p (numbered (records_of rows) m)
unfolding passes
test_there p rows m place row one e l r =
    sym (ap (passes p)
    (numbered_at (records_of rows) m place one e ∙ slice_get-map record_of rows place ∙ ap (option_map record_of) (slice_get_read rows (length rows) place row refl l r)))

-- no object passes that has no row
pub test_past : (p : ObjectRecord → Bool) (rows : List HoldRow) (m : ℕ) → (1 ≤ m → length rows ≤ m - 1) → false ≡ passes p (numbered (records_of rows) m)
unfolding passes numbered
test_past p rows zero h = refl
test_past p rows (suc i) h =
    let past : length rows ≤ i = let k = h (omega arith) in omega (arith, k) in
    sym (ap (passes p) (slice_get-map record_of rows i ∙ ap (option_map record_of) (slice_get_past rows i past)))

-- ---- lists of which the first items are changed

-- the first items changed
abbrev pub changed_up_to : {A : Type 0} → ℕ → (A → A) → List A → List A
changed_up_to k f xs = map f (take k xs) ++ drop k xs

-- one item more
pub changed_more : {A : Type 0} (k : ℕ) (f : A → A) (xs : List A) → changed_at k f (changed_up_to k f xs) ≡ changed_up_to (suc k) f xs
changed_more zero f [] = refl
changed_more (suc k) f [] = refl
changed_more zero f (x ∷ xs) = refl
changed_more {A = A} (suc k) f (x ∷ xs) = ap (λ (ys : List A). f x ∷ ys) (changed_more k f xs)

-- all items changed
pub changed_all : {A : Type 0} (k : ℕ) (f : A → A) (xs : List A) → length xs ≤ k → changed_up_to k f xs ≡ map f xs
changed_all zero f [] l = refl
changed_all (suc k) f [] l = refl
changed_all zero f (x ∷ xs) l = absurd (omega (arith, l))
changed_all {A = A} (suc k) f (x ∷ xs) l = ap (λ (ys : List A). f x ∷ ys) (changed_all k f xs (omega (arith, l)))

-- ---- numbers of things that are there

-- numbers begin with 1
pub first_number : {A : Type 0} (xs : List A) (m : ℕ) → IsSome (numbered xs m) → 1 ≤ m
unfolding numbered
first_number xs zero h = absurd cc
first_number xs (suc i) h = omega arith
