use Rattle.jx_top.proofs.OneOutcome.{decided}
use Rattle.jx_top.proofs.calls.jx_serial.Goals as goal

pub returns-clause-decided : goal.returns-clause-decided
returns-clause-decided g c = λ no_shelf.
    decided _ _ c.serve.result c.serve.ensures.cause (λ e. no_shelf (c.serve.ensures.shelf e))
