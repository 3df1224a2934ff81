-- Extents that lie in one row of cells.
use Rattle.std.proofs.Common.{◌≡◌, ◌≢◌, ◌/◌, refl, sym, ◌∙◌, ap, subst, arith, ℕ, zero, suc, ◌+◌, ◌-◌, ◌*◌, ◌≤◌, ◌<◌, Bool, true, false, List, [], ◌∷◌, ◌++◌, length, map, take, drop, replicate, get_or, slice_get, Option, Some, None, Vec, Global, if◌then◌else◌, ◌⊎◌, inl, inr}
use Rattle.std.specs.Prelude.{IsSome, IsSomeAnd, IfSome, vec_capacity}
use Rattle.std.specs.Option.{option_and_then, option_map, unwrap_or}
use Rattle.std.specs.Vec.{with_items}
use Rattle.std.proofs.lemmas.List.{length-append, length-drop, length-map, length-take, length-take-le, map-append, with_items_is}
use Rattle.std.proofs.lemmas.Option.{slice_get_within, slice_get-map}
use Rattle.jx_base.specs.Basics.{numbered, parts_of}
use Rattle.jx_base.proofs.BasicLaws.{ap2}
use Rattle.jx_model.specs.Granules.{Run, extent_granules}
use Rattle.jx_model.specs.Tables.{ExtentRecord}
use Rattle.program_model.specs.Limits.{granule_bytes}
use Rattle.region_bytes.proofs.Splices.{length_written}
use Rattle.region_bytes.specs.Extents.{number_read}
use Rattle.table_extents.specs.ExtentChanges.{written}
use Rattle.table_steps.specs.Steps.{written_extent}
use Rattle.table_threads.specs.Changes.{changed_at}
use Rattle.memory_space.specs.declared.extents.Extents.TheInside.{Inside}
use Rattle.memory_space.specs.declared.rows.ExtentRow.{ExtentRow}
use Rattle.memory_space.specs.Cells.{IsExtents, IsRow, LieApart, cells_of, extents_state, record_of, records_of, run_of}
use Rattle.memory_space.specs.ExtentLists.{AreDisjoint, ExtentsState, IsClear, LieWithin, byte_in, bytes_in, number_in, with_written, zeros}
use Rattle.jx_laws.proofs.Lists.{get_none, get_one, get_split}
use Rattle.memory_space.proofs.Windows.{byte_of_part, part_of_part, seen, unseen, written_all}

-- what a change of one item makes of what each item shows
pub map_changed : {A B : Type 0} (g h : A → B) (f : B → B) (i : ℕ) (xs : List A) →
    ((j : ℕ) (x : A) → slice_get xs j ≡ Some x → j ≢ i → h x ≡ g x) → ((x : A) → slice_get xs i ≡ Some x → h x ≡ f (g x)) →
    map h xs ≡ changed_at i f (map g xs)
map_changed g h f i [] other one = refl
map_changed {A} {B} g h f zero (x ∷ xs) other one =
    ap2 (λ (y : B) (ys : List B). y ∷ ys) (one x refl) (rest xs (λ j y e. other (suc j) y e (apart j)))
  where
    apart : (j : ℕ) → suc j ≢ 0
    apart j e = omega (arith, e)

    rest : (xs : List A) → ((j : ℕ) (x : A) → slice_get xs j ≡ Some x → h x ≡ g x) → map h xs ≡ map g xs
    rest [] k = refl
    rest (y ∷ ys) k = ap2 (λ (z : B) (zs : List B). z ∷ zs) (k 0 y refl) (rest ys (λ j z e. k (suc j) z e))
map_changed {A} {B} g h f (suc i) (x ∷ xs) other one =
    ap2 (λ (y : B) (ys : List B). y ∷ ys) (other 0 x refl (apart i))
    (map_changed g h f i xs (λ j y e d. other (suc j) y e (λ q. d (omega (arith, q)))) one)
  where
    apart : (i : ℕ) → 0 ≢ suc i
    apart i e = omega (arith, e)

-- an extent that has bytes
pub record IsKept (cells : List ℕ) (rows : List ExtentRow) (e : ℕ) : Type 0 where
  pub first : 1 ≤ e
  pub last : e ≤ length rows
  pub row : ExtentRow
  pub at : slice_get rows (e - 1) ≡ Some row
  pub live : row.live ≡ true
  pub value : bytes_in (records_of cells rows) e ≡ Some (cells_of cells row)

-- the bytes that a record shows
shown_bytes : (cells : List ℕ) (row : ExtentRow) → row.live ≡ true → (record_of cells row).bytes ≡ Some (cells_of cells row)
shown_bytes cells row l = ap (λ (b : Bool). if b then Some (cells_of cells row) else None) l

-- it stands at the place before its number
pub kept : (cells : List ℕ) (rows : List ExtentRow) (e : ℕ) → IsSome (bytes_in (records_of cells rows) e) → IsKept cells rows e
unfolding numbered
kept cells rows zero h = absurd cc
kept cells rows (suc i) h =
    by (slice_get rows i) refl (subst (λ (o : Option ExtentRecord). IsSome (option_and_then (λ item. item.bytes) o)) (slice_get-map (record_of cells) rows i) h)
  where
    by : (o : Option ExtentRow) → slice_get rows i ≡ o → IsSome (option_and_then (λ (item : ExtentRecord). item.bytes) (option_map (record_of cells) o)) → IsKept cells rows (suc i)
    by None q g = absurd cc
    by (Some row) q g =
        let n : suc i - 1 ≡ i = omega arith in
        let l : i < length rows = slice_get_within rows i row q in
        let live : row.live ≡ true = lives row.live refl g in
        record {
          first = omega arith;
          last = omega (arith, l);
          row = row;
          at = ap (slice_get rows) n ∙ q;
          live = live;
          value = ap (λ (o : Option ExtentRecord). option_and_then (λ item. item.bytes) o) (slice_get-map (record_of cells) rows i ∙ ap (option_map (record_of cells)) q) ∙ shown_bytes cells row live;
        }
      where
        lives : (b : Bool) → row.live ≡ b → IsSome (if b then Some (cells_of cells row) else None) → row.live ≡ true
        lives true e g = e
        lives false e g = absurd cc

-- as many bytes are within it as it has cells
pub record IsPlaced (x : Inside) (e at count : ℕ) : Type 0 where
  pub kept : IsKept x.cells.items x.rows.items e
  pub bytes : at + count ≤ kept.row.size
  pub room : 64 * kept.row.at + at + count ≤ length x.cells.items

some_bytes : (o : Option (List ℕ)) (n : ℕ) → IsSomeAnd o (λ bytes. n ≤ length bytes) → IsSome o
some_bytes None n h = absurd h
some_bytes (Some bytes) n h = refl

pub placed : (x : Inside) (y : ExtentsState) (e at count : ℕ) → extents_state x ≡ y → IsExtents x → LieWithin y.items e at count → IsPlaced x e at count
placed x y e at count view inv h =
    let within : LieWithin (records_of x.cells.items x.rows.items) e at count = subst (λ (z : ExtentsState). LieWithin z.items e at count) (sym view) h in
    let k = kept x.cells.items x.rows.items e (some_bytes (bytes_in (records_of x.cells.items x.rows.items) e) (at + count) within) in
    let l : at + count ≤ length (cells_of x.cells.items k.row) = subst (λ (o : Option (List ℕ)). IsSomeAnd o (λ bytes. at + count ≤ length bytes)) k.value within in
    let s : length (cells_of x.cells.items k.row) ≤ k.row.size = grind (arith, length-take k.row.size (drop (64 * k.row.at) x.cells.items)) in
    let r = inv.rows (e - 1) k.row k.at in
    record { kept = k; bytes = omega (arith, l, s); room = omega (arith, l, s, r.within) }

-- an extent within which bytes lie has a place
pub first_cell : (x : Inside) (y : ExtentsState) (e at count : ℕ) → extents_state x ≡ y → IsExtents x → LieWithin y.items e at count → 1 ≤ e
first_cell x y e at count view inv h = (placed x y e at count view inv h).kept.first

pub last_cell : (x : Inside) (y : ExtentsState) (e at count : ℕ) (rows : List ExtentRow) → extents_state x ≡ y → IsExtents x → LieWithin y.items e at count → rows ≡ x.rows.items → e ≤ length rows
last_cell x y e at count rows view inv h r = omega (arith, (placed x y e at count view inv h).kept.last, ap (λ (rs : List ExtentRow). length rs) r)

-- the cell that is found
pub cell_there : (x : Inside) (y : ExtentsState) (e at count from : ℕ) (rows : List ExtentRow) (view : extents_state x ≡ y) (inv : IsExtents x) (h : LieWithin y.items e at count) →
    rows ≡ x.rows.items → IfSome (slice_get rows (e - 1)) (λ row. from ≡ 64 * row.at + at) → from ≡ 64 * (placed x y e at count view inv h).kept.row.at + at
cell_there x y e at count from rows view inv h r start =
    subst (λ (o : Option ExtentRow). IfSome o (λ row. from ≡ 64 * row.at + at)) (ap (λ (rs : List ExtentRow). slice_get rs (e - 1)) r ∙ (placed x y e at count view inv h).kept.at) start

-- the cells are there
pub room_there : (x : Inside) (y : ExtentsState) (e at count from : ℕ) (rows : List ExtentRow) (now : List ℕ) → extents_state x ≡ y → IsExtents x → LieWithin y.items e at count →
    rows ≡ x.rows.items → IfSome (slice_get rows (e - 1)) (λ row. from ≡ 64 * row.at + at) → now ≡ x.cells.items → from + count ≤ length now
room_there x y e at count from rows now view inv h r start n =
    omega (arith, (placed x y e at count view inv h).room, cell_there x y e at count from rows view inv h r start, ap (λ (cells : List ℕ). length cells) n)

-- granules that lie apart have cells that do
pub cells_apart : (a b : ExtentRow) → 1 ≤ a.size → 1 ≤ b.size → AreDisjoint (run_of a) (run_of b) →
    (64 * a.at + a.size ≤ 64 * b.at) ⊎ (64 * b.at + b.size ≤ 64 * a.at)
unfolding extent_granules parts_of granule_bytes
cells_apart a b p q d = by a.at a.size b.at b.size p q d
  where
    decide : (m n : ℕ) → (m ≤ n) ⊎ (n < m)
    decide zero n = inl (omega arith)
    decide (suc m) zero = inr (omega arith)
    decide (suc m) (suc n) = elim (decide m n) [ inl l ↦ inl (omega (arith, l)) | inr l ↦ inr (omega (arith, l)) ]

    by : (m k n l : ℕ) → 1 ≤ k → 1 ≤ l → AreDisjoint (m, (k + (64 - 1)) / 64) (n, (l + (64 - 1)) / 64) → (64 * m + k ≤ 64 * n) ⊎ (64 * n + l ≤ 64 * m)
    by m k n l p q d = elim (decide m n) [ inl h ↦ left h | inr h ↦ right h ]
      where
        left : m ≤ n → (64 * m + k ≤ 64 * n) ⊎ (64 * n + l ≤ 64 * m)
        left h = elim (decide (m + (k + 63) / 64) n) [ inl e ↦ inl (omega (arith, e)) | inr e ↦ absurd (d n h e (omega arith) (omega (arith, q))) ]

        right : n < m → (64 * m + k ≤ 64 * n) ⊎ (64 * n + l ≤ 64 * m)
        right h = elim (decide (n + (l + 63) / 64) m) [ inl e ↦ inr (omega (arith, e)) | inr e ↦ absurd (d m (omega arith) (omega (arith, p)) (omega (arith, h)) e) ]

-- what a record shows of cells that are the same where its bytes are kept
pub shown_same : (new cells : List ℕ) (row : ExtentRow) → (row.live ≡ true → cells_of new row ≡ cells_of cells row) → record_of new row ≡ record_of cells row
shown_same new cells row h = ap (λ (o : Option (List ℕ)). let z : ExtentRecord = record { run = run_of row; bytes = o } in z) (by row.live h)
  where
    by : (b : Bool) → (b ≡ true → cells_of new row ≡ cells_of cells row) → (if b then Some (cells_of new row) else None) ≡ (if b then Some (cells_of cells row) else None)
    by true g = ap (λ (bs : List ℕ). Some bs) (g refl)
    by false g = refl

-- bytes of an extent that are written in its cells
pub records_written : (cells : List ℕ) (rows : List ExtentRow) (i : ℕ) (row : ExtentRow) (at count : ℕ) (f : ℕ → ℕ) →
    ((j : ℕ) (a : ExtentRow) → slice_get rows j ≡ Some a → IsRow (length cells) a) → LieApart rows →
    slice_get rows i ≡ Some row → row.live ≡ true → at + count ≤ row.size →
    records_of (written 0 (64 * row.at + at) count f cells) rows ≡ changed_at i (written_extent at count f) (records_of cells rows)
records_written cells rows i row at count f fit apart there live size =
    map_changed (record_of cells) (record_of new) (written_extent at count f) i rows other one
  where
    new : List ℕ
    new = written 0 (64 * row.at + at) count f cells

    away : (a : ExtentRow) → (64 * a.at + a.size ≤ 64 * row.at) ⊎ (64 * row.at + row.size ≤ 64 * a.at) → (64 * a.at + a.size ≤ 64 * row.at + at) ⊎ (64 * row.at + at + count ≤ 64 * a.at)
    away a (inl l) = inl (omega (arith, l))
    away a (inr l) = inr (omega (arith, l, size))

    other : (j : ℕ) (a : ExtentRow) → slice_get rows j ≡ Some a → j ≢ i → record_of new a ≡ record_of cells a
    other j a e d =
        shown_same new cells a (λ l. unseen count f (64 * row.at + at) (64 * a.at) a.size cells
        (away a (cells_apart a row (fit j a e).some (fit i row there).some (apart j i a row e there d l live))))

    one : (a : ExtentRow) → slice_get rows i ≡ Some a → record_of new a ≡ written_extent at count f (record_of cells a)
    one a e =
        let same : row ≡ a = cc in
        subst (λ (b : ExtentRow). record_of new b ≡ written_extent at count f (record_of cells b)) same here
      where
        here : record_of new row ≡ written_extent at count f (record_of cells row)
        here =
            ap (λ (o : Option (List ℕ)). let z : ExtentRecord = record { run = run_of row; bytes = o } in z)
            (shown_bytes new row live ∙ ap (λ (bs : List ℕ). Some bs) (seen count f at (64 * row.at) row.size cells)
            ∙ sym (ap (option_map (written 0 at count f)) (shown_bytes cells row live)))

-- what there is once bytes are written from a cell on
pub written_seen : (x : Inside) (y : ExtentsState) (e at count from : ℕ) (f : ℕ → ℕ) (rows : List ExtentRow) (now new : List ℕ) →
    extents_state x ≡ y → IsExtents x → LieWithin y.items e at count →
    rows ≡ x.rows.items → IfSome (slice_get rows (e - 1)) (λ row. from ≡ 64 * row.at + at) →
    now ≡ x.cells.items → new ≡ written 0 from count f now →
    extents_state (record x { cells = with_items x.cells new }) ≡ record y { items = with_written y.items e at count f }
written_seen x y e at count from f rows now new view inv h r start n w =
    let p = placed x y e at count view inv h in
    let row = p.kept.row in
    let place : from ≡ 64 * row.at + at = cell_there x y e at count from rows view inv h r start in
    let all : new ≡ written 0 (64 * row.at + at) count f x.cells.items = w ∙ ap2 (λ (k : ℕ) (cells : List ℕ). written 0 k count f cells) place n in
    let size : length new ≡ length x.cells.items = ap length all ∙ length_written (64 * row.at + at) count f 0 x.cells.items in
    let items : (with_items x.cells new).items ≡ new = with_items_is x.cells new (size ∙ sym x.cells.ok.0) in
    ap (λ (es : List ExtentRecord). let z : ExtentsState = record { granules = x.granules; items = es } in z)
    (ap (λ (cells : List ℕ). records_of cells x.rows.items) (items ∙ all)
    ∙ records_written x.cells.items x.rows.items (e - 1) row at count f inv.rows inv.apart p.kept.at p.kept.live p.bytes)
    ∙ ap (λ (z : ExtentsState). let w : ExtentsState = record z { items = with_written z.items e at count f } in w) view

-- the number that so many cells are
pub number_seen : (x : Inside) (y : ExtentsState) (e at width from : ℕ) (rows : List ExtentRow) (now : List ℕ) → extents_state x ≡ y → IsExtents x → LieWithin y.items e at width →
    rows ≡ x.rows.items → IfSome (slice_get rows (e - 1)) (λ row. from ≡ 64 * row.at + at) → now ≡ x.cells.items →
    number_read (take width (drop from now)) ≡ number_in y.items e at width
number_seen x y e at width from rows now view inv h r start n =
    let p = placed x y e at width view inv h in
    ap number_read
    (ap2 (λ (k : ℕ) (cells : List ℕ). take width (drop k cells)) (cell_there x y e at width from rows view inv h r start) n
    ∙ sym (part_of_part (64 * p.kept.row.at) p.kept.row.size at width x.cells.items p.bytes)
    ∙ ap (λ (o : Option (List ℕ)). take width (drop at (unwrap_or o []))) (sym p.kept.value)
    ∙ ap (λ (z : ExtentsState). take width (drop at (unwrap_or (bytes_in z.items e) []))) view)

-- the bytes that are copied from an extent
pub copied_seen : (x : Inside) (y : ExtentsState) (e at count from : ℕ) (rows : List ExtentRow) (now : List ℕ) → extents_state x ≡ y → IsExtents x → LieWithin y.items e at count →
    rows ≡ x.rows.items → IfSome (slice_get rows (e - 1)) (λ row. from ≡ 64 * row.at + at) → now ≡ x.cells.items →
    (k : ℕ) → k < count → get_or now (from + k) 0 ≡ byte_in y.items e at k
copied_seen x y e at count from rows now view inv h r start n k l =
    let p = placed x y e at count view inv h in
    ap2 (λ (i : ℕ) (cells : List ℕ). get_or cells (i + k) 0) (cell_there x y e at count from rows view inv h r start) n
    ∙ sym (byte_of_part (64 * p.kept.row.at) p.kept.row.size at x.cells.items k (omega (arith, l, p.bytes)))
    ∙ ap (λ (o : Option (List ℕ)). get_or (unwrap_or o []) (at + k) 0) (sym p.kept.value)
    ∙ ap (λ (z : ExtentsState). get_or (unwrap_or (bytes_in z.items e) []) (at + k) 0) view

-- ---- one more extent

-- a row more shows one record more
pub row_more : (cells : List ℕ) (rows : List ExtentRow) (row : ExtentRow) → records_of cells (rows ++ row ∷ []) ≡ records_of cells rows ++ record_of cells row ∷ []
row_more cells rows row = map-append (record_of cells) rows (row ∷ [])

-- a row with bytes shows a record with bytes
pub live_shown : (cells : List ℕ) (rows : List ExtentRow) (i : ℕ) (row : ExtentRow) → slice_get rows i ≡ Some row → numbered (records_of cells rows) (suc i) ≡ Some (record_of cells row)
unfolding numbered
live_shown cells rows i row e = slice_get-map (record_of cells) rows i ∙ ap (option_map (record_of cells)) e

pub live_some : (cells : List ℕ) (row : ExtentRow) → row.live ≡ true → IsSome (record_of cells row).bytes
live_some cells row l = subst IsSome (sym (shown_bytes cells row l)) refl

-- the records before zeros are written where no extent with bytes lies
pub records_clear : (cells : List ℕ) (rows : List ExtentRow) (row : ExtentRow) (f : ℕ → ℕ) →
    ((j : ℕ) (a : ExtentRow) → slice_get rows j ≡ Some a → IsRow (length cells) a) → 1 ≤ row.size → IsClear (records_of cells rows) (run_of row) →
    records_of (written 0 (64 * row.at) row.size f cells) rows ≡ records_of cells rows
records_clear cells rows row f fit some clear = same rows (λ j a e. one j a e)
  where
    new : List ℕ
    new = written 0 (64 * row.at) row.size f cells

    one : (j : ℕ) (a : ExtentRow) → slice_get rows j ≡ Some a → record_of new a ≡ record_of cells a
    one j a e =
        shown_same new cells a (λ l. unseen row.size f (64 * row.at) (64 * a.at) a.size cells
        (cells_apart a row (fit j a e).some some (clear (suc j) (record_of cells a) (live_shown cells rows j a e) (live_some cells a l))))

    same : (bs : List ExtentRow) → ((j : ℕ) (a : ExtentRow) → slice_get bs j ≡ Some a → record_of new a ≡ record_of cells a) → records_of new bs ≡ records_of cells bs
    same [] h = refl
    same (b ∷ bs) h = ap2 (λ (z : ExtentRecord) (zs : List ExtentRecord). z ∷ zs) (h 0 b refl) (same bs (λ j c e. h (suc j) c e))

-- the zeros
pub zeros_shown : (cells : List ℕ) (row : ExtentRow) → row.live ≡ true → 64 * row.at + row.size ≤ length cells →
    record_of (written 0 (64 * row.at) row.size (λ _. 0) cells) row ≡ zeros row.at row.size
zeros_shown cells row live room =
    let a : ℕ = 64 * row.at in
    let n : ℕ = row.size in
    let part : List ℕ = take n (drop a cells) in
    let size : length part ≡ n = length-take-le n (drop a cells) (omega (arith, length-drop a cells, room)) in
    let e : a ≡ a + 0 = omega arith in
    ap (λ (o : Option (List ℕ)). let z : ExtentRecord = record { run = run_of row; bytes = o } in z)
    (shown_bytes (written 0 a n (λ _. 0) cells) row live
    ∙ ap (λ (bs : List ℕ). Some bs)
    (ap (λ (k : ℕ). take n (drop a (written 0 k n (λ _. 0) cells))) e
    ∙ seen n (λ _. 0) 0 a n cells
    ∙ written_all 0 0 n 0 part (omega arith) (omega (arith, size))
    ∙ ap (λ (k : ℕ). replicate k 0) size))

-- the granules of an extent have its bytes
pub granules_hold : (at size granules cells : ℕ) → at + extent_granules size ≤ granules → cells ≡ 64 * granules → 64 * at + size ≤ cells
unfolding extent_granules parts_of granule_bytes
granules_hold at size granules cells h e = by at size granules cells h e
  where
    by : (m k n c : ℕ) → m + (k + (64 - 1)) / 64 ≤ n → c ≡ 64 * n → 64 * m + k ≤ c
    by m k n c h e = omega (arith, h, e)

-- a row more, apart from those with bytes
pub apart_more : (cells : List ℕ) (rows : List ExtentRow) (row : ExtentRow) → LieApart rows → IsClear (records_of cells rows) (run_of row) → LieApart (rows ++ row ∷ [])
apart_more cells rows row h clear i j a b p q d l m =
    by (get_split rows (row ∷ []) i a p) (get_split rows (row ∷ []) j b q)
  where
    old : (i : ℕ) (a : ExtentRow) → slice_get rows i ≡ Some a → a.live ≡ true → AreDisjoint (run_of a) (run_of row)
    old i a e v = clear (suc i) (record_of cells a) (live_shown cells rows i a e) (live_some cells a v)

    turned : (r s : Run) → AreDisjoint r s → AreDisjoint s r
    turned r s f g x y z w = f g z w x y

    by : (slice_get rows i ≡ Some a) ⊎ ((k : ℕ) × (i ≡ length rows + k) × (slice_get (row ∷ []) k ≡ Some a)) →
        (slice_get rows j ≡ Some b) ⊎ ((k : ℕ) × (j ≡ length rows + k) × (slice_get (row ∷ []) k ≡ Some b)) → AreDisjoint (run_of a) (run_of b)
    by (inl u) (inl v) = h i j a b u v d l m
    by (inl u) (inr v) = subst (λ (c : ExtentRow). AreDisjoint (run_of a) (run_of c)) (get_one row v.0 b v.2) (old i a u l)
    by (inr u) (inl v) = turned (run_of b) (run_of a) (subst (λ (c : ExtentRow). AreDisjoint (run_of b) (run_of c)) (get_one row u.0 a u.2) (old j b v m))
    by (inr u) (inr v) = absurd (d (omega (arith, u.1, v.1, only u.0 a u.2, only v.0 b v.2)))
      where
        only : (k : ℕ) (c : ExtentRow) → slice_get (row ∷ []) k ≡ Some c → k ≡ 0
        only zero c e = refl
        only (suc k) c e = get_none k c e

-- a row more that has its cells
pub rows_more : (cells : ℕ) (rows : List ExtentRow) (row : ExtentRow) → ((i : ℕ) (a : ExtentRow) → slice_get rows i ≡ Some a → IsRow cells a) → IsRow cells row →
    (i : ℕ) (a : ExtentRow) → slice_get (rows ++ row ∷ []) i ≡ Some a → IsRow cells a
rows_more cells rows row h r i a e = by (get_split rows (row ∷ []) i a e)
  where
    by : (slice_get rows i ≡ Some a) ⊎ ((k : ℕ) × (i ≡ length rows + k) × (slice_get (row ∷ []) k ≡ Some a)) → IsRow cells a
    by (inl u) = h i a u
    by (inr u) = subst (IsRow cells) (get_one row u.0 a u.2) r

-- what a new extent makes of all
pub record IsAdded (x : Inside) (y : ExtentsState) (cells : Vec ℕ Global) (rows : Vec ExtentRow Global) (at size : ℕ) : Type 0 where
  pub extents : IsExtents (record { cells = cells; rows = rows; granules = x.granules })
  pub seen : extents_state (record { cells = cells; rows = rows; granules = x.granules }) ≡ record y { items = y.items ++ zeros at size ∷ [] }

pub added : (x : Inside) (y : ExtentsState) (at size from : ℕ) (now new : List ℕ) (rows : Vec ExtentRow Global) → extents_state x ≡ y → IsExtents x →
    length y.items < 65536 → 1 ≤ size → at + extent_granules size ≤ y.granules → IsClear y.items (at, extent_granules size) → from ≡ 64 * at →
    now ≡ x.cells.items → new ≡ written 0 from size (λ _. 0) now → rows.items ≡ x.rows.items ++ record { at = at; size = size; live = true } ∷ [] → vec_capacity rows ≡ vec_capacity x.rows →
    IsAdded x y (with_items x.cells new) rows at size
added x y at size from now new rows view inv few some room clear place n w r c =
    let row : ExtentRow = record { at = at; size = size; live = true } in
    let granules : x.granules ≡ y.granules = ap (λ (z : ExtentsState). z.granules) view in
    let shown : records_of x.cells.items x.rows.items ≡ y.items = ap (λ (z : ExtentsState). z.items) view in
    let within : 64 * at + size ≤ length x.cells.items = granules_hold at size x.granules (length x.cells.items) (omega (arith, room, granules)) inv.cells in
    let free : IsClear (records_of x.cells.items x.rows.items) (run_of row) = subst (λ (es : List ExtentRecord). IsClear es (run_of row)) (sym shown) clear in
    let all : new ≡ written 0 (64 * at) size (λ _. 0) x.cells.items = w ∙ ap2 (λ (k : ℕ) (cells : List ℕ). written 0 k size (λ _. 0) cells) place n in
    let same : length new ≡ length x.cells.items = ap length all ∙ length_written (64 * at) size (λ _. 0) 0 x.cells.items in
    let items : (with_items x.cells new).items ≡ new = with_items_is x.cells new (same ∙ sym x.cells.ok.0) in
    let cells : (with_items x.cells new).items ≡ written 0 (64 * at) size (λ _. 0) x.cells.items = items ∙ all in
    let count : length (with_items x.cells new).items ≡ length x.cells.items = ap length items ∙ same in
    let one : length rows.items ≡ length x.rows.items + 1 = ap length r ∙ length-append x.rows.items (row ∷ []) in
    let old : length x.rows.items ≡ length y.items = sym (length-map x.rows.items (record_of x.cells.items)) ∙ ap length shown in
    let fit : IsRow (length x.cells.items) row = record { some = some; within = within } in
    record {
      extents = record {
        cells = count ∙ inv.cells;
        few = omega (arith, one, old, few);
        room = omega (arith, c, inv.room);
        rows = subst (λ (m : ℕ). (i : ℕ) (a : ExtentRow) → slice_get rows.items i ≡ Some a → IsRow m a) (sym count)
            (subst (λ (rs : List ExtentRow). (i : ℕ) (a : ExtentRow) → slice_get rs i ≡ Some a → IsRow (length x.cells.items) a) (sym r) (rows_more (length x.cells.items) x.rows.items row inv.rows fit));
        apart = subst LieApart (sym r) (apart_more x.cells.items x.rows.items row inv.apart free);
      };
      seen =
          ap (λ (es : List ExtentRecord). let z : ExtentsState = record { granules = x.granules; items = es } in z)
          (ap2 (λ (cs : List ℕ) (rs : List ExtentRow). records_of cs rs) cells r
          ∙ row_more (written 0 (64 * at) size (λ _. 0) x.cells.items) x.rows.items row
          ∙ ap2 (λ (es : List ExtentRecord) (e : ExtentRecord). es ++ e ∷ []) (records_clear x.cells.items x.rows.items row (λ _. 0) inv.rows some free) (zeros_shown x.cells.items row refl within))
          ∙ ap (λ (z : ExtentsState). let v : ExtentsState = record z { items = z.items ++ zeros at size ∷ [] } in v) view;
    }
