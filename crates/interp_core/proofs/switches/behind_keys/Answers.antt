use Rattle.std.proofs.Common.{◌≡◌, ◌-◌, ◌+◌, ◌∙◌, sym, ap, Some, option_map, to_z, of_z, rules}
use Rattle.std.proofs.lemmas.Int.{to_z-of_z}
use Rattle.std.specs.Int.{w32}
use Rattle.std.specs.Prelude.{FitsSigned}
use Rattle.interp_core.specs.Behind.{behind_keys}
use Rattle.interp_core.proofs.Keys.{fails, goes_on, ends}
use Rattle.interp_core.proofs.switches.behind_keys.Goals as goal

pub returns-in_err-key : goal.returns-in_err-key
returns-in_err-key c =
    ap (option_map (λ x. x.now)) c.from_residual.ensures
    ∙ sym (sym c.loop.invariant ∙ fails c.loop.last c.args.count c.loop.counter c.loop.rest.now c.loop-test.true (sym c.in_err-key.ensures))

pub loop-preserved : goal.loop-preserved
loop-preserved c =
    let fits : FitsSigned w32 c.in_ok-key.key = search rules in
    let same : to_z w32 (of_z w32 c.in_ok-key.key) ≡ c.in_ok-key.key = to_z-of_z w32 c.in_ok-key.key fits in
    ap (λ k. behind_keys (Some k) (c.args.count - (c.loop.counter + 1)) c.in_ok-key.after.now) same
    ∙ sym (goes_on c.loop.last c.args.count c.loop.counter c.loop.rest.now c.in_ok-key.key c.in_ok-key.after.now c.loop-test.true (sym c.in_ok-key.ensures)) ∙ c.loop.invariant

pub returns : goal.returns
returns c = sym (sym c.loop.invariant ∙ ends c.loop.last c.args.count c.loop.counter c.loop.rest.now c.loop-test.false)
