use Rattle.std.proofs.Common.{◌∙◌, sym, ap, List, Bool, not}
use Rattle.std.specs.Prelude.{count_by}
use Rattle.extent_pool.proofs.Tally.{count_free}
use Rattle.extent_pool.proofs.pool.Pool.spare.Goals as goal

pub returns : goal.returns
returns c =
    let p = c.self.inside in
    sym c.self.invariant.counted ∙ sym (count_free p.granules p.holes.items c.self.invariant.apart)
    ∙ ap (λ (xs : List Bool). count_by not xs) c.self.view_is
