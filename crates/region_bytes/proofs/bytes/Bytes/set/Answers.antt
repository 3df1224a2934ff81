use Rattle.std.proofs.Common.{◌∙◌, ap, ℕ, ℤ, None}
use Rattle.std.specs.Vec.{with_items}
use Rattle.region_bytes.specs.Extents.{Extents, extents_of, with_written}
use Rattle.table_extents.specs.ExtentChanges.{written}
use Rattle.region_bytes.proofs.OneExtent.{put_whole, rewritten, still_last, there}
use Rattle.std.specs.Int.{w32}
use Rattle.std.proofs.lemmas.Int.{to_z-of_z}
use Rattle.jx_base.specs.Basics.{low_byte}
use Rattle.region_bytes.proofs.bytes.Bytes.set.Goals as goal

pub put_bytes-requires-clause-first : goal.put_bytes-requires-clause-first
put_bytes-requires-clause-first c = (there (extents_of c.self.inside.extents.items) c.args.x c.take_bytes-bytes.result.items c.take_bytes-bytes.ensures.bytes).first

pub put_bytes-requires-clause-last : goal.put_bytes-requires-clause-last
put_bytes-requires-clause-last c =
    still_last c.take_bytes-bytes.new.extents.items (extents_of c.self.inside.extents.items) c.args.x c.take_bytes-bytes.result.items None c.take_bytes-bytes.ensures.bytes c.take_bytes-bytes.ensures.rest

pub returns : goal.returns
returns c =
    let old = c.take_bytes-bytes.result in
    let f : ℕ → ℕ = low_byte c.args.value in
    let after = put_whole old c.args.at c.args.width f c.as_mut_slice.result.now c.put_number.new.bytes c.as_mut_slice.ensures.value (c.put_number.ensures ∙ ap (λ (v : ℤ). written 0 c.args.at c.args.width (low_byte v) c.as_mut_slice.result.now) (to_z-of_z w32 c.args.value c.ranges.value)) in
    rewritten (extents_of c.self.inside.extents.items) (extents_of c.take_bytes-bytes.new.extents.items) (extents_of c.put_bytes.new.extents.items) c.args.x old.items
    (with_items old c.put_number.new.bytes).items (written 0 c.args.at c.args.width f) c.take_bytes-bytes.ensures.bytes c.take_bytes-bytes.ensures.rest c.put_bytes.ensures after
    ∙ ap (λ (ys : Extents). with_written ys c.args.x c.args.at c.args.width f) c.self.view_is
