-- Memory stays within its bounds.
use Rattle.std.specs.Prelude.{◌≡◌, ℕ, ◌+◌, ◌<◌, ◌≤◌, ◌∷◌, Some, true, IsTrue, slice_get}
use Rattle.jx_base.specs.declared.act.Entry.{Entry}
use Rattle.jx_base.specs.declared.program.System.{System}
use Rattle.program_model.specs.Limits.{granule_limit}
use Rattle.jx_base.specs.Histories.{Past}
use Rattle.jx_model.specs.Moments.{IsMoment}
use Rattle.jx_model.specs.MemoryObjects.{Part, object_part, extents_made, is_allocation}
use Rattle.jx_model.specs.Holding.{is_extent_in_use}
use Rattle.jx_model.specs.Granules.{Run, used_runs}
use Rattle.jx_model.specs.Bytes.{byte_at}
use Rattle.jx_model.specs.Tables.{extent_size}

-- a part of an extent that was made, of one byte at least, within the extent's bytes
pub record LiesWithin (past : Past) (o : Part) : Type 0 where
  pub low : 1 ≤ o.extent
  pub high : o.extent ≤ extents_made past
  pub some : 1 ≤ o.size
  pub within : o.from + o.size ≤ extent_size past o.extent

-- granules in use lie in the machine's memory, objects in their extents; an extent is in use once it is made; an extent that isn't made has no byte but 0
pub record MemoryIsInBounds (s : System) (whole : Past) : Type 0 where
  pub runs : (i : ℕ) (r : Run) → slice_get (used_runs s whole) i ≡ Some r → r.0 + r.1 ≤ granule_limit s
  pub objects : (m : ℕ) (o : Part) → object_part whole m ≡ Some o → LiesWithin whole o
  pub used : (e : Entry) (past : Past) → IsMoment whole e past → IsTrue (is_allocation e) → is_extent_in_use (e ∷ past) (extents_made past + 1) ≡ true
  pub blank : (x i : ℕ) → extents_made whole < x → byte_at whole x i ≡ 0
