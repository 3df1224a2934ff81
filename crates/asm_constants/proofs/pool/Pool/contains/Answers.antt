use Rattle.std.proofs.Common.{◌∙◌, ap}
use Rattle.asm_constants.specs.Pools.{has_content}
use Rattle.asm_constants.proofs.Numbered.{is_found}
use Rattle.asm_constants.proofs.pool.Pool.contains.Goals as goal

pub returns : goal.returns
returns c =
    c.contains_key.ensures
    ∙ (is_found c.self.inside.indices.entries c.args.content.now ∙ ap (λ pool. has_content pool c.args.content.now) c.self.view_is)
