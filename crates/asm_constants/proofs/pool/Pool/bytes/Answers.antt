use Rattle.std.proofs.Common.{◌≡◌, ◌∙◌, sym, ap, ◌++◌, List, ℕ, append_assoc, append-nil}
use Rattle.std.specs.Prelude.{flat_map}
use Rattle.std.specs.Map.Iter.{deref}
use Rattle.std.proofs.lemmas.Map.Iter.{rest_more, rest_all}
use Rattle.asm_constants.specs.declared.content.Content.{Content}
use Rattle.asm_constants.specs.Pools.{constant_bytes, pool_bytes}
use Rattle.asm_constants.proofs.pool.Pool.bytes.Goals as goal

pub loop-content-init : goal.loop-content-init
unfolding pool_bytes
loop-content-init c =
    let pool = c.args.self.now in
    let all : c.into_iter-content-iterator.result ≡ pool = c.into_iter-content-iterator.ensures.into_iter_gives ∙ (c.keys-content-items.ensures.rest ∙ c.self.view_is) in
    ap (λ (bytes : List ℕ). bytes ++ flat_map (constant_bytes pool) c.into_iter-content-iterator.result) c.new-bytes.ensures.items
    ∙ ap (flat_map (constant_bytes pool)) all

pub loop-content-preserved : goal.loop-content-preserved
loop-content-preserved c =
    let pool = c.args.self.now in
    let content = c.in-Some.content.now in
    let before = c.loop-content.bytes.items in
    let rest = flat_map (constant_bytes pool) c.next.new.self in
    let more = rest_more deref c.loop-content.content-iterator _ _ c.in-Some.content c.in-Some.is c.next.ensures.steps in
    ap (λ (bytes : List ℕ). bytes ++ rest) c.in_ok-push_constant.ensures
    ∙ (append_assoc before (constant_bytes pool content) rest
    ∙ (sym (ap (λ (cs : List Content). before ++ flat_map (constant_bytes pool) cs) more) ∙ c.loop-content.invariant))

pub returns : goal.returns
returns c =
    let all = rest_all deref c.loop-content.content-iterator _ _ c.in-None.is c.next.ensures.steps in
    let before = c.loop-content.bytes.items in
    sym (append-nil before)
    ∙ (sym (ap (λ (cs : List Content). before ++ flat_map (constant_bytes c.args.self.now) cs) all) ∙ c.loop-content.invariant)
