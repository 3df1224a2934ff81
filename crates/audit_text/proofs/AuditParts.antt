-- The parts of an audit.
use Rattle.std.proofs.Common.{◌≡◌, ℕ, List, [], ◌∷◌, ◌++◌, append_assoc, reverse}
use Rattle.std.specs.Prelude.{codes}
use Rattle.std.specs.List.{flat_map}
use Rattle.jx_base.specs.declared.act.Entry.{Entry}
use Rattle.jx_base.specs.declared.act.History.{History}
use Rattle.jx_base.specs.declared.program.System.{System}
use Rattle.jx_base.specs.Texts.{line}
use Rattle.jx_base.specs.Basics.{up_to}
use Rattle.program_model.specs.Limits.{granule_limit, journal_limit}
use Rattle.jx_base.specs.Histories.{Past, past_of}
use Rattle.jx_model.specs.Journal.{words_of}
use Rattle.jx_model.specs.Calls.{calls_made}
use Rattle.jx_model.specs.Domains.{domains_made}
use Rattle.jx_model.specs.Granules.{used_granules}
use Rattle.audit_model.specs.AuditText.{call_line, entry_lines, console_line, domain_line, total_line, before_last, end_word, state_lines, total_lines, lines_after, audit_text}

pub state_lines-parts : (s : System) (past : Past) →
    state_lines s past
    ≡ line (codes "domains" ∷ [])
    ++ (flat_map (domain_line s past) (up_to (domains_made past)) ++ (line (codes "calls" ∷ []) ++ flat_map (call_line past) (up_to (calls_made past))))
unfolding state_lines
state_lines-parts s past = simp append_assoc

pub total_lines-parts : (s : System) (past : Past) (used granules words journal : ℕ) (ending : List ℕ) →
    used ≡ used_granules s past → granules ≡ s.plan.granules → words ≡ words_of (before_last past) → journal ≡ s.plan.journal → ending ≡ end_word past →
    total_lines s past ≡ total_line (codes "memory") used granules ++ (total_line (codes "words") words journal ++ line (codes "end" ∷ ending ∷ []))
unfolding total_lines granule_limit journal_limit
total_lines-parts s past used granules words journal ending p q r t u = rw (p, q, r, t, u) (simp append_assoc)

pub lines_after-parts : (s : System) (entries : List Entry) (past : Past) →
    lines_after s entries past ≡ line (codes "console" ∷ []) ++ (flat_map console_line entries ++ (state_lines s past ++ total_lines s past))
unfolding lines_after
lines_after-parts s entries past = simp append_assoc

pub audit_text-parts : (s : System) (h : History) (entries : List Entry) → entries ≡ h.entries →
    audit_text s h ≡ line (codes "jx audit 1" ∷ []) ++ (entry_lines s 1 entries ++ lines_after s entries (reverse entries))
unfolding audit_text past_of
audit_text-parts s h entries is = rw is (simp append_assoc)
