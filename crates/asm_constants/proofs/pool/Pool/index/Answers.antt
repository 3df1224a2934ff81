use Rattle.std.proofs.Common.{◌∙◌, ap, ℕ, Option}
use Rattle.std.specs.Prelude.{unwrap_or}
use Rattle.asm_constants.specs.Pools.{index_of}
use Rattle.asm_constants.proofs.Numbered.{index_found}
use Rattle.asm_constants.proofs.pool.Pool.index.Goals as goal

pub returns-in-Some : goal.returns-in-Some
unfolding index_of
returns-in-Some c =
    ap (λ (index : Option ℕ). unwrap_or index 0) c.in-Some.ensures.value
    ∙ (index_found 1 c.self.inside.indices.entries c.args.content.now c.self.invariant.numbered
    ∙ ap (λ pool. index_of pool c.args.content.now) c.self.view_is)

pub returns-in-None : goal.returns-in-None
unfolding index_of
returns-in-None c =
    ap (λ (index : Option ℕ). unwrap_or index 0) c.in-None.ensures.value
    ∙ (index_found 1 c.self.inside.indices.entries c.args.content.now c.self.invariant.numbered
    ∙ ap (λ pool. index_of pool c.args.content.now) c.self.view_is)
