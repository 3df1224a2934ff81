use Rattle.std.proofs.Common.{refl}
use Rattle.system_text.specs.Description.{one_class_plan}
use Rattle.system_text.proofs.OneClassPlan.{one_class_in_range}
use Rattle.jx_top.proofs.finding.one_class_system.Goals as goal

pub link_files-requires : goal.link_files-requires
unfolding one_class_plan
link_files-requires c = record {
  range = rw c.in_ok-plan.ensures (one_class_in_range c.args.name.now c.requires.name);
  count = rw (c.in_ok-plan.ensures, c.in_ok-files.ensures.items) refl;
  read = rw c.in_ok-files.ensures.items (c.requires.file, tt);
}
