-- What a run prints: the audit of one complete legal history of the system that the shelf's files give.
use Rattle.std.specs.Prelude.{◌≡◌, ℕ, List}
use Rattle.jx_base.specs.Files.{Files}
use Rattle.jx_base.specs.declared.act.Act.{Act}
use Rattle.jx_base.specs.declared.act.History.{History}
use Rattle.jx_base.specs.declared.program.System.{System}
use Rattle.audit_model.specs.AuditText.{audit_text}
use Rattle.jx_model.specs.SingleWorker.{IsSingleWorkerHistory}
use Rattle.jx_top.specs.Runs.{EndsBy}
use Rattle.jx_top.specs.Systems.{IsSystemOf}

-- the text is the audit of the complete legal history that one worker makes of that system, and that act ends it
pub record IsAuditOf (files : Files) (file : List ℕ) (ending : Act) (text : List ℕ) : Type 0 where
  pub system : System
  pub of_file : IsSystemOf files file system
  pub history : History
  pub complete : IsSingleWorkerHistory system history
  pub ends : EndsBy history ending
  pub text_is : text ≡ audit_text system history
