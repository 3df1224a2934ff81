use Rattle.std.proofs.lemmas.List.{set-set}
use Rattle.domain_machine.proofs.threads.take_thread.Goals as goal

pub returns-clause-others : goal.returns-clause-others
returns-clause-others c y = set-set c.args.threads.now.items c.args.place c.replace.new.dest y
