-- Which histories are admitted, follow the domains' code, are legal, and are complete.
use Rattle.std.specs.Prelude.{◌≡◌, ℕ, ◌≤◌, [], ◌∷◌, Some, IsTrue, ⊤}
use Rattle.jx_base.specs.declared.act.Act.{Act}
use Rattle.jx_base.specs.declared.act.Entry.{Entry}
use Rattle.jx_base.specs.declared.act.History.{History}
use Rattle.jx_base.specs.declared.program.System.{System}
use Rattle.jx_base.specs.Histories.{Past, past_of, own_entries}
use Rattle.jx_model.specs.Domains.{domains_made, template_of}
use Rattle.jx_model.specs.Permits.{acting_thread, is_ending, is_choice}
use Rattle.jx_model.specs.Replies.{reply_to}
use Rattle.jx_model.specs.WellMade.{IsWellMade}
use Rattle.machine_model.specs.Machine.{NextAct, Does, Idle, next_act}

-- the entry may come after this past: its act is permitted and well made, and it has the thread and the reply that the past gives
pub record IsNext (s : System) (past : Past) (e : Entry) : Type 0 where
  pub thread : acting_thread s past e.domain.0 e.act ≡ Some e.thread.0
  pub well_made : IsWellMade s past e.act
  pub reply : e.reply ≡ reply_to s past e.domain.0 e.act

-- each entry may come after those before it
abbrev pub IsAdmittedPast : System → Past → Type 0
IsAdmittedPast s [] = ⊤
IsAdmittedPast s (e ∷ past) = IsNext s past e × IsAdmittedPast s past

-- each entry of the history may come after those before it
abbrev pub IsAdmitted : System → History → Type 0
IsAdmitted s h = IsAdmittedPast s (past_of h)

-- the act is the one that the code performs next, or a choice where it performs none
abbrev pub IsFrom : NextAct → Act → Type 0
IsFrom (Does a) b = b ≡ a
IsFrom Idle b = IsTrue (is_choice b)

-- the acts of a domain's own entries are those of its template's code
abbrev pub FollowsCode : System → ℕ → Past → Type 0
FollowsCode s t [] = ⊤
FollowsCode s t (e ∷ own) = IsFrom (next_act s t own) e.act × FollowsCode s t own

-- each domain that was made follows its code
abbrev pub AllFollowCode : System → Past → Type 0
AllFollowCode s past =
    (d t : ℕ) → 1 ≤ d → d ≤ domains_made past → template_of s past d ≡ Some t → FollowsCode s t (own_entries past d)

-- admitted, and each domain follows its code
pub record IsLegalPast (s : System) (past : Past) : Type 0 where
  pub admitted : IsAdmittedPast s past
  pub follows : AllFollowCode s past

-- admitted, and each domain follows its code
abbrev pub IsLegal : System → History → Type 0
IsLegal s h = IsLegalPast s (past_of h)

-- the last entry ends the run
abbrev pub HasEnded : Past → Type 0
HasEnded [] = ⊥
HasEnded (e ∷ past) = IsTrue (is_ending e.act)

-- legal, and the last entry ends the run
pub record IsComplete (s : System) (h : History) : Type 0 where
  pub legal : IsLegal s h
  pub ended : HasEnded (past_of h)
