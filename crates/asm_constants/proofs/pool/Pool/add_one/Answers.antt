use Rattle.std.proofs.Common.{rules, ◌≡◌, ◌∙◌, sym, ap, ◌+◌, false, [], ◌∷◌, ◌++◌, List}
use Rattle.std.specs.Map.{keys_of}
use Rattle.asm_constants.specs.declared.content.Content.{Content}
use Rattle.asm_constants.specs.Pools.{has_content, places}
use Rattle.asm_constants.proofs.Numbered.{keys_with_new, pool_with_new, known_stays, new_comes_last}
use Rattle.asm_constants.proofs.pool.Pool.add_one.Goals as goal

pub returns-then-contains : goal.returns-then-contains
returns-then-contains c = sym (known_stays c.args.self.now c.args.content (sym c.contains.ensures ∙ c.if-contains.true))

pub invariant_of-self-2 : goal.invariant_of-self-2
invariant_of-self-2 c =
    let entries = c.self.inside.indices.entries in
    let content = c.args.content in
    let new : has_content (keys_of entries) content ≡ false =
    ap (λ pool. has_content pool content) c.self.view_is ∙ (sym c.contains.ensures ∙ c.if-contains.false) in
    let next : c.in-Some.next ≡ c.self.inside.next + places content = search rules in
    rw (c.in_ok-insert.ensures.entries, next, c.is_short.ensures) (pool_with_new entries content c.self.inside.next c.self.inside.are_short c.self.invariant new)

pub returns : goal.returns
returns c =
    let entries = c.self.inside.indices.entries in
    let content = c.args.content in
    let new : has_content c.args.self.now content ≡ false = sym c.contains.ensures ∙ c.if-contains.false in
    let absent : has_content (keys_of entries) content ≡ false = ap (λ pool. has_content pool content) c.self.view_is ∙ new in
    ap keys_of c.in_ok-insert.ensures.entries
    ∙ (keys_with_new entries content c.self.inside.next absent
    ∙ (ap (λ (pool : List Content). pool ++ content ∷ []) c.self.view_is
    ∙ sym (new_comes_last c.args.self.now content new)))
