-- Which acts are well made: what the type of an act can't say.
use Rattle.std.specs.Prelude.{FitsSigned, ◌≡◌, ℕ, ◌<◌, ◌≤◌, Bool, true, false, ◌&&◌, ◌⊎◌, length, Option, Some, None, is_some, IsSome, IfSome, nat_lt, nat_le}
use Rattle.std.specs.Bool.{Decides}
use Rattle.std.specs.List.{AllByRecursion, list_all}
use Rattle.std.specs.Int.{w32, w64}
use Rattle.jx_base.specs.declared.act.Act.{Act}
use Rattle.jx_base.specs.declared.act.Act.TheVariants as act
use Rattle.jx_base.specs.declared.act.Reason.{Reason}
use Rattle.jx_base.specs.declared.act.Reason.TheVariants as reason
use Rattle.jx_base.specs.declared.ids.ClassId.{ClassId}
use Rattle.jx_base.specs.declared.value.Parcel.{Parcel}
use Rattle.jx_base.specs.declared.value.Word.{Word}
use Rattle.jx_base.specs.declared.value.Word.TheVariants as word
use Rattle.jx_base.specs.declared.program.System.{System}
use Rattle.jx_base.specs.Basics.{is_number}
use Rattle.program_model.specs.Limits.{thread_limit, node_limit, parcel_limit}
use Rattle.program_model.specs.ParcelParts.{parcel_cells, parcel_words}
use Rattle.jx_base.specs.Histories.{Past}
use Rattle.jx_model.specs.Portals.{interface_of}
use Rattle.program_model.specs.Lookup.{class_at, selector_at, template_at}
use Rattle.program_model.specs.Ranges.{IsId, IsInt, IsText, IsServiceName, IsWidth, is_id, has_bits, is_int, is_text, is_service_name, is_width}
use Rattle.std.specs.Option.{option_map}

-- a portal to a service that was exported, with its interface
abbrev pub IsPortalIn : Past → ℕ → ClassId → Type 0
IsPortalIn past k c = IsId k × (interface_of past k ≡ Some c)

-- a word within its range
abbrev pub IsWordIn : Past → ℕ → Word → Type 0
IsWordIn past nodes (word.Int n) = FitsSigned w32 n
IsWordIn past nodes (word.Long n) = FitsSigned w64 n
IsWordIn past nodes (word.Node k) = k < nodes
IsWordIn past nodes (word.Portal k c) = IsPortalIn past k.0 c
IsWordIn past nodes (word.Mem m) = IsId m.0
IsWordIn past nodes _ = Unit {0}

-- a class of the system
abbrev pub IsClass : System → ℕ → Type 0
IsClass s c = IsSome (class_at s c)

-- a parcel within its limits whose classes, places and portals are there
pub record IsParcelIn (s : System) (past : Past) (p : Parcel) : Type 0 where
  pub few : length p.nodes ≤ node_limit
  pub small : parcel_words p ≤ parcel_limit
  pub classes : AllByRecursion (λ n. IsClass s n.class.0) p.nodes
  pub cells : AllByRecursion (IsWordIn past (length p.nodes)) (parcel_cells p)

-- the act is one that a nucleus with this past can be asked for
abbrev pub IsWellMade : System → Past → Act → Type 0
IsWellMade s past (act.Create t) = IsSome (template_at s t)
IsWellMade s past (act.Print text) = IsText text
IsWellMade s past (act.Export iface k) = IsClass s iface.0 × (1 ≤ k) × (k ≤ thread_limit)
IsWellMade s past (act.Bind name service) = IsServiceName name × IsId service.0
IsWellMade s past (act.Lookup name) = IsServiceName name
IsWellMade s past (act.Call service method parcel) = IsSome (selector_at s method.0) × IsParcelIn s past parcel × IsId service.0
IsWellMade s past (act.Take c) = IsId c.0
IsWellMade s past (act.Return c parcel) = IsParcelIn s past parcel × IsId c.0
IsWellMade s past (act.Throw c parcel) = IsParcelIn s past parcel × IsId c.0
IsWellMade s past (act.Resume c) = IsId c.0
IsWellMade s past (act.Go t) = IsId t.0
IsWellMade s past (act.Alloc n) = IsInt n
IsWellMade s past (act.Size m) = IsId m.0
IsWellMade s past (act.Get m at width) = IsWidth width × IsInt at × IsId m.0
IsWellMade s past (act.Set m at width v) = IsWidth width × IsInt at × IsInt v × IsId m.0
IsWellMade s past (act.Fill m at count b) = IsInt at × IsInt count × (b < 256) × IsId m.0
IsWellMade s past (act.Copy m at k k_at count) = IsInt at × IsInt k_at × IsInt count × IsId m.0 × IsId k.0
IsWellMade s past (act.Sub m at count) = IsInt at × IsInt count × IsId m.0
IsWellMade s past (act.Split m at) = IsInt at × IsId m.0
IsWellMade s past (act.Revoke m) = IsId m.0
IsWellMade s past (act.Release m) = IsId m.0
IsWellMade s past (act.Spawn name) = IsText name
IsWellMade s past (act.Kill k) = IsInt k
IsWellMade s past (act.Exit code) = IsInt code
IsWellMade s past (act.EndThread c) = IfSome c (λ k. IsClass s k.0)
IsWellMade s past (act.End r) = (r ≡ reason.Fuel) ⊎ (r ≡ reason.BadCode)
IsWellMade s past _ = Unit {0}

-- ---- the same as tests

-- whether it is a portal to a service that was exported, with its interface
unfoldable pub is_portal_in : Past → ℕ → ClassId → Bool
is_portal_in past k c = is_id k && is_number (option_map (λ x. x.0) (interface_of past k)) c.0

-- whether the word is within its range
unfoldable pub is_word_in : Past → ℕ → Word → Bool
is_word_in past nodes (word.Int n) = has_bits 31 n
is_word_in past nodes (word.Long n) = has_bits 63 n
is_word_in past nodes (word.Node k) = nat_lt k nodes
is_word_in past nodes (word.Portal k c) = is_portal_in past k.0 c
is_word_in past nodes (word.Mem m) = is_id m.0
is_word_in past nodes _ = true

-- whether the system has the class
unfoldable pub is_class : System → ℕ → Bool
is_class s c = is_some (class_at s c)

-- whether the parcel is within its limits, and its classes, places and portals are there
unfoldable pub is_parcel_in : System → Past → Parcel → Bool
is_parcel_in s past p =
    nat_le (length p.nodes) node_limit
    && nat_le (parcel_words p) parcel_limit
    && list_all (λ n. is_class s n.class.0) p.nodes
    && list_all (is_word_in past (length p.nodes)) (parcel_cells p)

-- whether the system has the class that is there
unfoldable pub is_exception : System → Option ClassId → Bool
is_exception s None = true
is_exception s (Some c) = is_class s c.0

-- whether an end may have the reason
unfoldable pub is_end_reason : Reason → Bool
is_end_reason reason.Fuel = true
is_end_reason reason.BadCode = true
is_end_reason _ = false

-- whether a nucleus with this past can be asked for the act
unfoldable pub is_well_made : System → Past → Act → Bool
is_well_made s past (act.Create t) = is_some (template_at s t)
is_well_made s past (act.Print text) = is_text text
is_well_made s past (act.Export iface k) = is_class s iface.0 && nat_le 1 k && nat_le k thread_limit
is_well_made s past (act.Bind name service) = is_service_name name && is_id service.0
is_well_made s past (act.Lookup name) = is_service_name name
is_well_made s past (act.Call service method parcel) = is_some (selector_at s method.0) && is_parcel_in s past parcel && is_id service.0
is_well_made s past (act.Take c) = is_id c.0
is_well_made s past (act.Return c parcel) = is_parcel_in s past parcel && is_id c.0
is_well_made s past (act.Throw c parcel) = is_parcel_in s past parcel && is_id c.0
is_well_made s past (act.Resume c) = is_id c.0
is_well_made s past (act.Go t) = is_id t.0
is_well_made s past (act.Alloc n) = is_int n
is_well_made s past (act.Size m) = is_id m.0
is_well_made s past (act.Get m at width) = is_width width && is_int at && is_id m.0
is_well_made s past (act.Set m at width v) = is_width width && is_int at && is_int v && is_id m.0
is_well_made s past (act.Fill m at count b) = is_int at && is_int count && nat_lt b 256 && is_id m.0
is_well_made s past (act.Copy m at k k_at count) = is_int at && is_int k_at && is_int count && is_id m.0 && is_id k.0
is_well_made s past (act.Sub m at count) = is_int at && is_int count && is_id m.0
is_well_made s past (act.Split m at) = is_int at && is_id m.0
is_well_made s past (act.Revoke m) = is_id m.0
is_well_made s past (act.Release m) = is_id m.0
is_well_made s past (act.Spawn name) = is_text name
is_well_made s past (act.Kill k) = is_int k
is_well_made s past (act.Exit code) = is_int code
is_well_made s past (act.EndThread c) = is_exception s c
is_well_made s past (act.End r) = is_end_reason r
is_well_made s past _ = true

-- the test says whether the act is well made
abbrev pub IsWellMadeTest : System → Past → Act → Type 0
IsWellMadeTest s past a = Decides (is_well_made s past a) (IsWellMade s past a)

-- what a computed case opens
unfoldable pub opened_well_made : Unit {0}
unfolding is_portal_in is_word_in is_class is_parcel_in is_exception is_end_reason is_well_made
opened_well_made = tt
