-- Whose acts a legal history has.
use Rattle.std.specs.Prelude.{◌≡◌, ◌≤◌, ℕ, Some}
use Rattle.jx_base.specs.declared.act.Entry.{Entry}
use Rattle.jx_base.specs.declared.program.System.{System}
use Rattle.jx_base.specs.Histories.{Past, own_entries}
use Rattle.machine_model.specs.Machine.{next_act}
use Rattle.jx_model.specs.Domains.{template_of}
use Rattle.jx_model.specs.Legal.{IsFrom}
use Rattle.jx_model.specs.Moments.{IsMoment}
use Rattle.jx_model.specs.Permits.{IsPermitted}

-- the domain has a template, whose code performs the entry's act next after the domain's entries before it, or performs none, and the act is a choice; and it is permitted
pub record IsOwnAct (s : System) (past : Past) (e : Entry) : Type 0 where
  pub template : ℕ
  pub of : template_of s past e.domain.0 ≡ Some template
  pub from : IsFrom (next_act s template (own_entries past e.domain.0)) e.act
  pub permitted : IsPermitted s past e.domain.0 e.act

-- so it is for each entry of a domain other than Domain Zero
abbrev pub PerformOwnActs : System → Past → Type 0
PerformOwnActs s whole = (e : Entry) (past : Past) → IsMoment whole e past → 1 ≤ e.domain.0 → IsOwnAct s past e
