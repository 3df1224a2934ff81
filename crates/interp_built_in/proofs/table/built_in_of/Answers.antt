use Rattle.std.proofs.Common.{◌≡◌, arith, Some, None, slice_get}
use Rattle.std.proofs.lemmas.Grind.{common_steps}
use Rattle.std.proofs.lemmas.Option.{gets}
use Rattle.program_model.specs.Lookup.{selector_at}
use Rattle.interp_built_in.proofs.TableSteps.{found_effect, no_effect, found_parameters}
use Rattle.interp_built_in.proofs.table.built_in_of.Goals as goal

pub returns-in_default-clause-effect : goal.returns-in_default-clause-effect
unfolding selector_at
returns-in_default-clause-effect c =
    let h = c.in_default.ensures.lookup in
    let e : slice_get c.args.system.now.program.selectors c.args.method.now.selector.0 ≡ None = grind (arith, common_steps, gets) in
    no_effect c.args.system.now c.args.method.now e

pub returns-clause-effect : goal.returns-clause-effect
unfolding selector_at
returns-clause-effect c =
    let h = c.in-Some.ensures.lookup in
    let e : slice_get c.args.system.now.program.selectors c.args.method.now.selector.0 ≡ Some c.in-Some.selector.now = grind (arith, common_steps, gets) in
    found_effect c.args.system.now c.args.method.now c.in-Some.selector.now c.methods_of.result.now c.record_for.result c.record_for.ensures c.methods_of.ensures.effects e

pub returns-clause-parameters : goal.returns-clause-parameters
unfolding selector_at
returns-clause-parameters c =
    let h = c.in-Some.ensures.lookup in
    let e : slice_get c.args.system.now.program.selectors c.args.method.now.selector.0 ≡ Some c.in-Some.selector.now = grind (arith, common_steps, gets) in
    found_parameters c.args.system.now c.args.method.now c.in-Some.selector.now c.methods_of.result.now c.record_for.result c.record_for.ensures c.methods_of.ensures.parameters e
