use Rattle.machine_model.specs.AfterEntry.{after_reply}
use Rattle.domain_machine.proofs.Settlings.{leaves_settle}
use Rattle.domain_machine.proofs.settling.reply_to.Goals as goal

pub returns : goal.returns
returns c =
    let s = c.args.system.now in
    leaves_settle c.args.core.now c.exchange_frames.new.core c.give_reply.new.core c.exchange_frames-2.new.core c.args.thread.now c.exchange_frames.new.thread c.exchange_frames-2.new.thread c.settle.new.thread
    c.exchange_frames.ensures.core c.exchange_frames.ensures.thread c.exchange_frames.ensures.store c.exchange_frames-2.ensures.thread c.exchange_frames-2.ensures.store
    c.in_ok-stage.stage c.settle.result (λ st t x. after_reply s st t x c.args.reply.now) c.in_ok-stage.ensures c.settle.ensures
