use Rattle.std.proofs.Common.{None, subst}
use Rattle.interp_core.specs.Cores.{store_of}
use Rattle.machine_model.specs.AfterEntry.{after_result}
use Rattle.domain_machine.specs.Entering.{Settles}
use Rattle.domain_machine.specs.Works.{thread_of}
use Rattle.domain_machine.proofs.Settlings.{goes_on_well, leaves_settle}
use Rattle.domain_machine.proofs.settling.go_on.Goals as goal

pub returns : goal.returns
returns c =
    let s = c.args.system.now in
    let bad = goes_on_well c.exchange_frames-2.new.thread c.settle.new.thread c.go_behind-stage.result c.settle.result c.go_behind-stage.ensures.going c.settle.ensures in
    subst (Settles (store_of c.args.core.now) (thread_of c.args.thread.now) (store_of c.exchange_frames-2.new.core) (thread_of c.settle.new.thread) (λ st t x. after_result s st t x None)) bad
    (leaves_settle c.args.core.now c.exchange_frames.new.core c.go_behind-stage.new.core c.exchange_frames-2.new.core c.args.thread.now c.exchange_frames.new.thread c.exchange_frames-2.new.thread c.settle.new.thread
    c.exchange_frames.ensures.core c.exchange_frames.ensures.thread c.exchange_frames.ensures.store c.exchange_frames-2.ensures.thread c.exchange_frames-2.ensures.store
    c.go_behind-stage.result c.settle.result (λ st t x. after_result s st t x None) c.go_behind-stage.ensures.left c.settle.ensures)
