use Rattle.interp_core.specs.Cores.{store_of}
use Rattle.interp_built_in.proofs.CallSteps.{texts_of_call}
use Rattle.interp_built_in.proofs.run.run_built_in.Goals as goal

pub outcome_of-requires-clause-texts : goal.outcome_of-requires-clause-texts
outcome_of-requires-clause-texts c = texts_of_call c.args.system.now (store_of c.args.core.now) c.args.method.now c.args.arguments.now c.in-Some.built_in c.requires.system c.requires.call c.in-Some.ensures.parameters
