-- Which extents are in use, as the rows are looked through.
use Rattle.std.proofs.Common.{◌≡◌, sym, ◌∙◌, ap, ℕ, ◌+◌, ◌<◌, ◌==◌, ◌&&◌, ◌||◌, Bool, true, false, List, length, get_or, arith}
use Rattle.std.specs.List.{list_any}
use Rattle.std.specs.Option.{option_map}
use Rattle.std.proofs.lemmas.List.{length-map}
use Rattle.std.proofs.lemmas.Option.{slice_get-get_or, slice_get-map}
use Rattle.jx_base.specs.Basics.{numbered, passes, up_to}
use Rattle.jx_base.proofs.BasicLaws.{ap2}
use Rattle.jx_model.specs.MemoryObjects.{Part}
use Rattle.table_steps.specs.Steps.{is_record_used, in_use_by}
use Rattle.table_threads.proofs.Records.{any_at, any_more}
use Rattle.memory_objects.specs.declared.rows.HoldRow.{HoldRow}
use Rattle.memory_objects.specs.declared.rows.PartRow.{PartRow}
use Rattle.memory_objects.specs.Rows.{part_of, parts_of, record_of, records_of}
use Rattle.memory_objects.proofs.RowLists.{no_row}
use Rattle.table_threads.proofs.Numbered.{numbered_at}

-- what stands for a part where there is none
abbrev pub no_part : PartRow
no_part = record { parent = 0; extent = 0; from = 0; size = 0 }

-- whether object m is a used part of the extent
abbrev pub is_use : List PartRow → List HoldRow → ℕ → ℕ → Bool
is_use parts rows x m =
    passes (λ o. o.extent == x) (numbered (parts_of parts) m) && passes is_record_used (numbered (records_of rows) m)

-- it is so by the rows at its place
pub use_there : (parts : List PartRow) (rows : List HoldRow) (x i : ℕ) → i < length parts → i < length rows →
    is_use parts rows x (i + 1) ≡ (((get_or parts i no_part).extent == x) && is_record_used (record_of (get_or rows i no_row)))
unfolding passes
use_there parts rows x i l k =
    ap2 (λ (a b : Bool). a && b)
    (ap (passes (λ (o : Part). o.extent == x)) (numbered_at (parts_of parts) (i + 1) i (omega arith) (omega arith) ∙ slice_get-map part_of parts i ∙ ap (option_map part_of) (slice_get-get_or parts i no_part l)))
    (ap (passes is_record_used) (numbered_at (records_of rows) (i + 1) i (omega arith) (omega arith) ∙ slice_get-map record_of rows i ∙ ap (option_map record_of) (slice_get-get_or rows i no_row k)))

-- no use so far, and none at the next place
pub none_more : (parts : List PartRow) (rows : List HoldRow) (x n : ℕ) → list_any (is_use parts rows x) (up_to n) ≡ false → is_use parts rows x (n + 1) ≡ false →
    list_any (is_use parts rows x) (up_to (n + 1)) ≡ false
none_more parts rows x n h k = any_more (is_use parts rows x) n ∙ ap2 (λ (a b : Bool). a || b) h k

-- a use at a place
pub use_found : (parts : List PartRow) (rows : List HoldRow) (x i : ℕ) → i < length parts → is_use parts rows x (i + 1) ≡ true → true ≡ in_use_by (parts_of parts) (records_of rows) x
unfolding up_to
use_found parts rows x i l h = sym (any_at (is_use parts rows x) 1 (length (parts_of parts)) (i + 1) (omega arith) (omega (arith, l, length-map parts part_of)) h)

-- no use at all
pub use_none : (parts : List PartRow) (rows : List HoldRow) (x n : ℕ) → n ≡ length parts → list_any (is_use parts rows x) (up_to n) ≡ false → false ≡ in_use_by (parts_of parts) (records_of rows) x
use_none parts rows x n e h = sym (ap (λ (k : ℕ). list_any (is_use parts rows x) (up_to k)) (length-map parts part_of ∙ sym e) ∙ h)
