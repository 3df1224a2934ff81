use Rattle.std.proofs.Common.{◌≡◌, ◌++◌, map, replicate}
use Rattle.machine_model.specs.MachineThreads.{idle_thread}
use Rattle.domain_machine.specs.Works.{thread_of}
use Rattle.domain_machine.proofs.threads.add_threads.Given as goal

abbrev pub invariant-loop : goal.invariant-loop
invariant-loop l = map thread_of l.threads.items ≡ map thread_of l.fn.threads.items ++ replicate l.counter idle_thread
