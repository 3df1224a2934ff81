use Rattle.domain_machine.proofs.Settlings.{takes_settle}
use Rattle.domain_machine.proofs.settling.take_in.Goals as goal

pub returns : goal.returns
returns c =
    takes_settle c.args.core.now c.exchange_frames.new.core c.take_call.new.core c.exchange_frames-2.new.core c.args.thread.now c.exchange_frames.new.thread c.exchange_frames-2.new.thread c.settle.new.thread
    c.exchange_frames.ensures.core c.exchange_frames.ensures.thread c.exchange_frames.ensures.store c.exchange_frames-2.ensures.thread c.exchange_frames-2.ensures.store
    c.args.call c.in_ok-stage.stage c.settle.result c.args.system.now c.args.service c.args.method c.args.parcel.now c.in_ok-stage.ensures c.settle.ensures
