-- An extent whose bytes are given up.
use Rattle.std.proofs.Common.{◌≡◌, ◌≢◌, refl, sym, ◌∙◌, ap, subst, arith, ℕ, zero, suc, ◌-◌, ◌≤◌, ◌<◌, Bool, true, false, List, [], ◌∷◌, length, map, set, get_or, slice_get, Option, Some, None, if◌then◌else◌, ◌⊎◌, inl, inr}
use Rattle.std.specs.Prelude.{IsSome, IfSome}
use Rattle.std.specs.Option.{option_map}
use Rattle.std.proofs.lemmas.Option.{get_or_from_slice_get, slice_get-map}
use Rattle.jx_base.specs.Basics.{numbered}
use Rattle.jx_model.specs.Granules.{Run}
use Rattle.jx_model.specs.Tables.{ExtentRecord}
use Rattle.table_threads.specs.Changes.{changed_at}
use Rattle.table_threads.proofs.Records.{set_changed}
use Rattle.memory_space.specs.declared.extents.Extents.TheInside.{Inside}
use Rattle.memory_space.specs.declared.rows.ExtentRow.{ExtentRow}
use Rattle.memory_space.specs.Cells.{IsExtents, IsRow, LieApart, cells_of, extents_state, record_of, records_of, run_of}
use Rattle.memory_space.specs.ExtentLists.{AreDisjoint, ExtentsState, IsClear, bytes_in, without_bytes}
use Rattle.memory_space.proofs.Placed.{kept, live_shown}

-- a row whose cells are given up
abbrev pub idle : ExtentRow → ExtentRow
idle row = record row { live = false }

-- what a change makes of what each item shows
pub change_shown : {A B : Type 0} (g : A → B) (f : A → A) (h : B → B) (i : ℕ) (xs : List A) → ((x : A) → g (f x) ≡ h (g x)) → map g (changed_at i f xs) ≡ changed_at i h (map g xs)
change_shown g f h i [] e = refl
change_shown {A} {B} g f h zero (x ∷ xs) e = ap (λ (y : B). y ∷ map g xs) (e x)
change_shown {A} {B} g f h (suc i) (x ∷ xs) e = ap (λ (ys : List B). g x ∷ ys) (change_shown g f h i xs e)

-- what stands at a place once one item was changed
pub changed_from : {A : Type 0} (f : A → A) (i : ℕ) (xs : List A) (j : ℕ) (a : A) → slice_get (changed_at i f xs) j ≡ Some a →
    ((j ≢ i) × (slice_get xs j ≡ Some a)) ⊎ ((b : A) × (slice_get xs j ≡ Some b) × (a ≡ f b) × (j ≡ i))
changed_from f i [] zero a e = cc
changed_from f i [] (suc j) a e = cc
changed_from f zero (x ∷ xs) zero a e = inr (x, refl, cc, refl)
changed_from f zero (x ∷ xs) (suc j) a e = inl (apart j, e)
  where
    apart : (j : ℕ) → suc j ≢ 0
    apart j q = omega (arith, q)
changed_from f (suc i) (x ∷ xs) zero a e = inl (apart i, e)
  where
    apart : (i : ℕ) → 0 ≢ suc i
    apart i q = omega (arith, q)
changed_from f (suc i) (x ∷ xs) (suc j) a e =
    elim (changed_from f i xs j a e) [ inl u ↦ inl (λ q. u.0 (omega (arith, q)), u.1) | inr u ↦ inr (u.0, u.1, u.2, ap suc u.3) ]

-- rows that lie apart from a run show extents that do
pub clear_by : (cells : List ℕ) (rows : List ExtentRow) (run : Run) → ((j : ℕ) (a : ExtentRow) → slice_get rows j ≡ Some a → a.live ≡ true → AreDisjoint (run_of a) run) → IsClear (records_of cells rows) run
unfolding numbered
clear_by cells rows run h zero item e s = cc
clear_by cells rows run h (suc j) item e s = by (slice_get rows j) refl (sym (slice_get-map (record_of cells) rows j) ∙ e)
  where
    by : (o : Option ExtentRow) → slice_get rows j ≡ o → option_map (record_of cells) o ≡ Some item → AreDisjoint item.run run
    by None q g = cc
    by (Some a) q g =
        let same : record_of cells a ≡ item = cc in
        subst (λ (z : ExtentRecord). AreDisjoint z.run run) same (h j a q (lives a.live refl (subst (λ (z : ExtentRecord). IsSome z.bytes) (sym same) s)))
      where
        lives : (b : Bool) → a.live ≡ b → IsSome (if b then Some (cells_of cells a) else None) → a.live ≡ true
        lives true q g = q
        lives false q g = absurd cc

-- what is left once the cells of an extent are given up
pub record IsForgotten (x : Inside) (y : ExtentsState) (e : ℕ) (row : ExtentRow) : Type 0 where
  pub first : 1 ≤ e
  pub below : e - 1 < length x.rows.items
  pub there : slice_get x.rows.items (e - 1) ≡ Some row
  pub run : IfSome (numbered y.items e) (λ item. item.run ≡ run_of row)
  pub rows : (i : ℕ) (a : ExtentRow) → slice_get (set x.rows.items (e - 1) (idle row)) i ≡ Some a → IsRow (length x.cells.items) a
  pub apart : LieApart (set x.rows.items (e - 1) (idle row))
  pub clear : IsClear (records_of x.cells.items (set x.rows.items (e - 1) (idle row))) (run_of row)
  pub seen : records_of x.cells.items (set x.rows.items (e - 1) (idle row)) ≡ changed_at (e - 1) without_bytes y.items

-- an extent with bytes has a number from 1
pub some_first : (es : List ExtentRecord) (e : ℕ) → IsSome (bytes_in es e) → 1 ≤ e
unfolding numbered
some_first es zero h = absurd cc
some_first es (suc i) h = omega arith

-- and a place
pub place_last : (x : Inside) (y : ExtentsState) (e : ℕ) → extents_state x ≡ y → IsSome (bytes_in y.items e) → e - 1 < length x.rows.items
place_last x y e view h =
    let k = kept x.cells.items x.rows.items e (subst (λ (z : ExtentsState). IsSome (bytes_in z.items e)) (sym view) h) in
    omega (arith, k.first, k.last)

pub forgotten : (x : Inside) (y : ExtentsState) (e : ℕ) (row : ExtentRow) → extents_state x ≡ y → IsExtents x → IsSome (bytes_in y.items e) →
    row ≡ get_or x.rows.items (e - 1) row → IsForgotten x y e row
forgotten x y e row view inv h r =
    let cells : List ℕ = x.cells.items in
    let olds : List ExtentRow = x.rows.items in
    let k = kept cells olds e (subst (λ (z : ExtentsState). IsSome (bytes_in z.items e)) (sym view) h) in
    let same : row ≡ k.row = r ∙ get_or_from_slice_get olds (e - 1) k.row row k.at in
    let there : slice_get olds (e - 1) ≡ Some row = k.at ∙ ap (λ (a : ExtentRow). Some a) (sym same) in
    let live : row.live ≡ true = ap (λ (a : ExtentRow). a.live) same ∙ k.live in
    let new : set olds (e - 1) (idle row) ≡ changed_at (e - 1) idle olds = set_changed (e - 1) idle olds row there in
    let shown : records_of cells olds ≡ y.items = ap (λ (z : ExtentsState). z.items) view in
    record {
      first = k.first;
      below = omega (arith, k.first, k.last);
      there = there;
      run =
          subst (λ (es : List ExtentRecord). IfSome (numbered es e) (λ item. item.run ≡ run_of row)) shown
          (subst (λ (o : Option ExtentRecord). IfSome o (λ item. item.run ≡ run_of row)) (sym (number_shown cells olds e row k.first there)) refl);
      rows = subst (λ (rs : List ExtentRow). (i : ℕ) (a : ExtentRow) → slice_get rs i ≡ Some a → IsRow (length cells) a) (sym new) (all cells olds (e - 1) inv.rows);
      apart = subst LieApart (sym new) (left olds (e - 1) inv.apart);
      clear = subst (λ (rs : List ExtentRow). IsClear (records_of cells rs) (run_of row)) (sym new) (clear_by cells (changed_at (e - 1) idle olds) (run_of row) (others olds (e - 1) row inv.apart there live));
      seen = ap (records_of cells) new ∙ change_shown (record_of cells) idle without_bytes (e - 1) olds (λ a. refl) ∙ ap (changed_at (e - 1) without_bytes) shown;
    }
  where
    number_shown : (cells : List ℕ) (rows : List ExtentRow) (e : ℕ) (row : ExtentRow) → 1 ≤ e → slice_get rows (e - 1) ≡ Some row → numbered (records_of cells rows) e ≡ Some (record_of cells row)
    number_shown cells rows zero row l q = absurd (omega (arith, l))
    number_shown cells rows (suc i) row l q =
        let n : i ≡ suc i - 1 = omega arith in live_shown cells rows i row (ap (slice_get rows) n ∙ q)

    all : (cells : List ℕ) (rows : List ExtentRow) (i : ℕ) → ((j : ℕ) (a : ExtentRow) → slice_get rows j ≡ Some a → IsRow (length cells) a) →
        (j : ℕ) (a : ExtentRow) → slice_get (changed_at i idle rows) j ≡ Some a → IsRow (length cells) a
    all cells rows i h j a q = by (changed_from idle i rows j a q)
      where
        by : ((j ≢ i) × (slice_get rows j ≡ Some a)) ⊎ ((b : ExtentRow) × (slice_get rows j ≡ Some b) × (a ≡ idle b) × (j ≡ i)) → IsRow (length cells) a
        by (inl u) = h j a u.1
        by (inr u) = subst (IsRow (length cells)) (sym u.2) (let f = h j u.0 u.1 in record { some = f.some; within = f.within })

    -- one with cells is as it was
    stays : (rows : List ExtentRow) (i j : ℕ) (a : ExtentRow) → slice_get (changed_at i idle rows) j ≡ Some a → a.live ≡ true → (j ≢ i) × (slice_get rows j ≡ Some a)
    stays rows i j a q l = by (changed_from idle i rows j a q)
      where
        by : ((j ≢ i) × (slice_get rows j ≡ Some a)) ⊎ ((b : ExtentRow) × (slice_get rows j ≡ Some b) × (a ≡ idle b) × (j ≡ i)) → (j ≢ i) × (slice_get rows j ≡ Some a)
        by (inl u) = u
        by (inr u) = let f : false ≡ true = sym (ap (λ (b : ExtentRow). b.live) u.2) ∙ l in absurd cc

    left : (rows : List ExtentRow) (i : ℕ) → LieApart rows → LieApart (changed_at i idle rows)
    left rows i h j k a b p q d l m = h j k a b (stays rows i j a p l).1 (stays rows i k b q m).1 d l m

    others : (rows : List ExtentRow) (i : ℕ) (row : ExtentRow) → LieApart rows → slice_get rows i ≡ Some row → row.live ≡ true →
        (j : ℕ) (a : ExtentRow) → slice_get (changed_at i idle rows) j ≡ Some a → a.live ≡ true → AreDisjoint (run_of a) (run_of row)
    others rows i row h t live j a q l = let s = stays rows i j a q l in h j i a row s.1 t s.0 l live
