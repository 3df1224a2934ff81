-- Admitted histories with the same audit are the same.
use Rattle.std.proofs.Common.{◌≡◌, List, [], ◌∷◌, ◌++◌, codes, reverse, refl, sym, ap, ◌∙◌, subst, append_assoc, append-nil}
use Rattle.std.proofs.lemmas.List.{append_cancel_left, reverse-append}
use Rattle.jx_base.specs.Texts.{line, spaced}
use Rattle.jx_base.specs.declared.act.Entry.{Entry}
use Rattle.jx_base.specs.declared.act.History.{History}
use Rattle.jx_base.specs.declared.program.System.{System}
use Rattle.jx_base.specs.Histories.{Past, past_of}
use Rattle.jx_model.specs.Legal.{IsAdmittedPast}
use Rattle.audit_model.specs.Audit.{Bytes}
use Rattle.audit_model.specs.AuditText.{entry_lines, lines_after, audit_text}
use Rattle.program_model.specs.DistinctNames.{HasDistinctNames}
use Rattle.jx_model.proofs.Growing.{start_admitted}
use Rattle.audit_laws.specs.OneText.{AuditsDiffer}
use Rattle.audit_laws.proofs.Cuts.{later_units}
use Rattle.audit_laws.proofs.Entries.{AllFollow, entries_take}

-- the entries of an admitted past, the first one first
follow : (s : System) (es : List Entry) (past : Past) → IsAdmittedPast s (reverse es ++ past) → AllFollow s past es
follow s [] past h = tt
follow s (e ∷ es) past h =
    let k = subst (IsAdmittedPast s) (ap (λ (x : Past). x ++ past) (reverse-append (e ∷ []) es) ∙ append_assoc (reverse es) (e ∷ []) past) h in
    ((start_admitted s (reverse es) (e ∷ past) k).0, follow s es (e ∷ past) k)

-- the entries of an admitted history
history_follows : (s : System) (h : History) → IsAdmittedPast s (past_of h) → AllFollow s [] h.entries
unfolding past_of
history_follows s h k = follow s h.entries [] (subst (IsAdmittedPast s) (sym (append-nil (reverse h.entries))) k)

-- what stands behind the lines of the entries begins with `c`
after_begins : (s : System) (es : List Entry) (past : Past) → lines_after s es past ≡ 99 ∷ later_units (lines_after s es past)
unfolding lines_after line spaced
after_begins s es past = refl

-- a history of a system with distinct names has its own audit
pub audits_differ : (s : System) → HasDistinctNames s → AuditsDiffer s
unfolding audit_text
audits_differ s names h k a b e =
    let parts : (x : History) → audit_text s x ≡ line (codes "jx audit 1" ∷ []) ++ (entry_lines s 1 x.entries ++ 99 ∷ later_units (lines_after s x.entries (past_of x))) =
    λ x. append_assoc (line (codes "jx audit 1" ∷ [])) (entry_lines s 1 x.entries) (lines_after s x.entries (past_of x))
    ∙ ap (λ (y : Bytes). line (codes "jx audit 1" ∷ []) ++ (entry_lines s 1 x.entries ++ y)) (after_begins s x.entries (past_of x)) in
    let rest = append_cancel_left (line (codes "jx audit 1" ∷ [])) _ _ (sym (parts h) ∙ e ∙ parts k) in
    let same = entries_take s names [] 1 h.entries k.entries _ _ tt (history_follows s h a) (history_follows s k b) rest in
    (λ t. record { entries = same t })
