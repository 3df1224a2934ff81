use Rattle.std.proofs.Common.{sym, subst}
use Rattle.std.specs.Prelude.{IfOk}
use Rattle.jx_base.specs.declared.program.System.{System}
use Rattle.linker.proofs.Outlined.{with_built_ins}
use Rattle.linker.proofs.linking.outline_of.Goals as goal

pub returns-clause-built_ins : goal.returns-clause-built_ins
returns-clause-built_ins c = with_built_ins c.args.plan c.args.files.now c.in_ok-system.system c.new.result c.in_ok-system.ensures c.new.ensures
