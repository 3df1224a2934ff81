use Rattle.std.proofs.Common.{refl, sym, subst, true, List, [], ℕ}
use Rattle.asm_constants.specs.declared.content.Content.{Content}
use Rattle.asm_constants.specs.Entries.{AreNumbered, IsPool}
use Rattle.asm_constants.proofs.pool.Pool.new.Goals as goal

none : IsPool [] 1 true
unfolding AreNumbered
none = record { numbered = tt; counted = refl; short = refl }

pub invariant_of-result : goal.invariant_of-result
invariant_of-result c = subst (λ (entries : List (Content × ℕ)). IsPool entries 1 true) (sym c.new.ensures.empty) none
