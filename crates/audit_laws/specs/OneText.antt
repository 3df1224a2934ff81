-- One history to a text.
use Rattle.std.specs.Prelude.{◌≡◌}
use Rattle.jx_base.specs.declared.act.History.{History}
use Rattle.jx_base.specs.declared.program.System.{System}
use Rattle.jx_model.specs.Legal.{IsAdmitted}
use Rattle.audit_model.specs.AuditText.{audit_text}

-- no two admitted histories of the system have the same audit
abbrev pub AuditsDiffer : System → Type 0
AuditsDiffer s = (h k : History) → IsAdmitted s h → IsAdmitted s k → audit_text s h ≡ audit_text s k → h ≡ k
