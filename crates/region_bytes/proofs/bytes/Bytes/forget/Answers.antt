use Rattle.std.proofs.Common.{◌∙◌, ◌-◌, ap, None}
use Rattle.region_bytes.specs.Extents.{Extents, extents_of}
use Rattle.table_threads.specs.Changes.{changed_at}
use Rattle.region_bytes.proofs.OneExtent.{taken}
use Rattle.region_bytes.proofs.bytes.Bytes.forget.Goals as goal

pub returns : goal.returns
returns c =
    c.take_bytes.ensures.rest
    ∙ taken (extents_of c.self.inside.extents.items) c.args.x c.take_bytes.result.items c.take_bytes.ensures.bytes
    ∙ ap (λ (es : Extents). changed_at (c.args.x - 1) (λ _. None) es) c.self.view_is
