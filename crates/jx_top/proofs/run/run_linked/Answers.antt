use Rattle.std.proofs.Common.{subst, sym}
use Rattle.link_laws.proofs.Names.{same_plan}
use Rattle.linked_runs.proofs.Runs.{linked_runs}
use Rattle.program_model.specs.Plans.{IsPlanInRange}
use Rattle.jx_top.proofs.run.run_linked.Goals as goal

pub run_and_put-requires : goal.run_and_put-requires
run_and_put-requires g c = record {
  machines = linked_runs c.requires.plan c.requires.classes c.args.system.now c.requires.linked (c.are_numbered.ensures.0 c.if-are_numbered.true);
  plan = subst IsPlanInRange (sym (same_plan c.requires.plan c.requires.classes c.args.system.now c.requires.linked)) c.requires.linked.has_files.range;
}
