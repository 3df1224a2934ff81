-- The lines of entries, part by part.
use Rattle.std.specs.Prelude.{◌≡◌, ◌<◌, ℕ, ◌+◌, List, [], ◌∷◌, ◌++◌, length, drop, decimal, codes, refl}
use Rattle.std.proofs.Common.{append_assoc, get_or, drop-cons, add-one}
use Rattle.std.specs.List.{flat_map}
use Rattle.std.proofs.lemmas.Grind.{flat_map-append}
use Rattle.jx_base.specs.declared.act.Entry.{Entry}
use Rattle.jx_base.specs.declared.program.System.{System}
use Rattle.jx_base.specs.Texts.{after_space, spaced, line}
use Rattle.audit_model.specs.Audit.{act_word, act_operands, reply_word, reply_operands}
use Rattle.audit_model.specs.AuditText.{entry_line, entry_lines}
use Rattle.audit_lines.specs.LineParts.{actor_text, spaced_act, spaced_reply}

-- a first word, two more, those of an act, an arrow, and those of a reply
joined_words : (first : List ℕ) (front act arrow reply end : List (List ℕ)) (tail : List ℕ) →
    (first ++ flat_map after_space (front ++ (act ++ (arrow ++ reply)))) ++ tail
    ≡ (first ++ flat_map after_space front) ++ (flat_map after_space act ++ (flat_map after_space arrow ++ (flat_map after_space reply ++ tail)))
joined_words first front act arrow reply end tail =
    simp (flat_map-append, append_assoc) refl

pub entry_line-parts : (s : System) (n : ℕ) (e : Entry) →
    entry_line s n e ≡ actor_text n e ++ (spaced_act s e.act ++ (codes " ->" ++ (spaced_reply s e.reply ++ codes "\n")))
unfolding entry_line line spaced actor_text spaced_act spaced_reply
entry_line-parts s n e =
    joined_words
    (decimal n)
    (decimal e.domain.0 ∷ decimal e.thread.0 ∷ [])
    (act_word e.act ∷ act_operands s e.act)
    (codes "->" ∷ [])
    (reply_word e.reply ∷ reply_operands s e.reply)
    []
    (codes "\n")

-- the lines from an entry on are its line and the rest
pub entry_lines-more : (s : System) (n place : ℕ) (entries : List Entry) (x : Entry) → x ≡ get_or entries place x → place < length entries →
    entry_lines s n (drop place entries) ≡ entry_line s n x ++ entry_lines s (n + 1) (drop (place + 1) entries)
unfolding entry_lines
entry_lines-more s n place entries x is lt =
    let split : drop place entries ≡ x ∷ drop (place + 1) entries = rw (add-one, drop-cons entries place x lt, ← is) refl in
    rw split refl
