use Rattle.machine_model.specs.AfterEntry.{after_resume}
use Rattle.domain_machine.proofs.Settlings.{leaves_settle}
use Rattle.domain_machine.proofs.settling.answer_to.Goals as goal

pub returns : goal.returns
returns c =
    let s = c.args.system.now in
    leaves_settle c.args.core.now c.exchange_frames.new.core c.resume.new.core c.exchange_frames-2.new.core c.args.thread.now c.exchange_frames.new.thread c.exchange_frames-2.new.thread c.settle.new.thread
    c.exchange_frames.ensures.core c.exchange_frames.ensures.thread c.exchange_frames.ensures.store c.exchange_frames-2.ensures.thread c.exchange_frames-2.ensures.store
    c.in_ok-stage.stage c.settle.result (λ st t x. after_resume s st t x c.args.answer.now) c.in_ok-stage.ensures c.settle.ensures
