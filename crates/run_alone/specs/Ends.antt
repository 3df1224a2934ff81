-- The act that ends a run.
use Rattle.std.specs.Prelude.{◌≡◌, true}
use Rattle.jx_base.specs.declared.act.Act.{Act}
use Rattle.jx_base.specs.declared.program.System.{System}
use Rattle.jx_base.specs.Histories.{Past}
use Rattle.jx_model.specs.Permits.{is_ending, zero_may_now}
use Rattle.jx_model.specs.SingleWorker.{pick}

-- the act ends the run, Domain Zero may perform it now, and it is what one worker picks
pub record IsLast (s : System) (past : Past) (a : Act) : Type 0 where
  pub ends : is_ending a ≡ true
  pub may : zero_may_now s past a ≡ true
  pub picked : pick s past ≡ record { domain = 0; act = a }
