-- The text of an audit.
use Rattle.std.specs.Prelude.{ℕ, ◌+◌, List, [], ◌∷◌, ◌++◌, Option, Some, None, if◌then◌else◌, flat_map, codes, decimal}
use Rattle.jx_base.specs.declared.act.Act.{Act}
use Rattle.jx_base.specs.declared.act.Act.TheVariants as act
use Rattle.jx_base.specs.declared.act.Reply.{Reply}
use Rattle.jx_base.specs.declared.act.Reply.TheVariants as reply
use Rattle.jx_base.specs.declared.act.Reason.{Reason}
use Rattle.jx_base.specs.declared.act.Entry.{Entry}
use Rattle.jx_base.specs.declared.act.History.{History}
use Rattle.jx_base.specs.declared.program.System.{System}
use Rattle.jx_base.specs.Basics.{up_to}
use Rattle.program_model.specs.Limits.{granule_limit, journal_limit}
use Rattle.jx_base.specs.Histories.{Past, past_of}
use Rattle.jx_model.specs.Journal.{words_of}
use Rattle.jx_model.specs.Domains.{domains_made, template_of, creator_of, end_reason}
use Rattle.jx_model.specs.Calls.{calls_made, is_queued, is_being_served}
use Rattle.jx_model.specs.Granules.{used_granules}
use Rattle.jx_base.specs.Texts.{line, quoted}
use Rattle.audit_model.specs.Audit.{Bytes, template_text, reason_words, act_word, act_operands, reply_word, reply_operands}
use Rattle.std.specs.Option.{unwrap_or}

-- ---- the entries

-- the line of entry n
unfoldable pub entry_line : System → ℕ → Entry → Bytes
entry_line s n e =
    line (
    (decimal n ∷ decimal e.domain.0 ∷ decimal e.thread.0 ∷ act_word e.act ∷ act_operands s e.act)
    ++ codes "->" ∷ reply_word e.reply ∷ reply_operands s e.reply
    )

-- the lines of entries, the oldest first, from number n on
unfoldable pub entry_lines : System → ℕ → List Entry → Bytes
entry_lines s n [] = []
entry_lines s n (e ∷ entries) = entry_line s n e ++ entry_lines s (n + 1) entries

-- ---- what was printed

-- the text of a done print
unfoldable pub printed : Act → Reply → Option (List ℕ)
printed (act.Print text) reply.Done = Some text
printed _ _ = None

-- the line of what an entry printed
unfoldable pub console_line : Entry → Bytes
console_line e = elim (printed e.act e.reply) [ None ↦ [] | Some text ↦ line (decimal e.domain.0 ∷ quoted text ∷ []) ]

-- ---- domains, calls and totals

-- the words of how a domain stands
unfoldable pub standing_words : Option Reason → List Bytes
standing_words None = codes "live" ∷ []
standing_words (Some r) = codes "ended" ∷ reason_words r

-- the line of domain d
unfoldable pub domain_line : System → Past → ℕ → Bytes
domain_line s past d =
    line (
    (decimal d ∷ template_text s (unwrap_or (template_of s past d) 0) ∷ codes "by" ∷ decimal (unwrap_or (creator_of past d) 0) ∷ [])
    ++ standing_words (end_reason past d)
    )

-- the line of call c, where it is unanswered
unfoldable pub call_line : Past → ℕ → Bytes
call_line past c =
    if is_queued past c then line (decimal c ∷ codes "queued" ∷ [])
    else if is_being_served past c then line (decimal c ∷ codes "running" ∷ []) else []

-- a line of an amount in use, and of all
unfoldable pub total_line : Bytes → ℕ → ℕ → Bytes
total_line word used all = line (word ∷ decimal used ∷ codes "of" ∷ decimal all ∷ [])

-- the past before the last entry
unfoldable pub before_last : Past → Past
before_last [] = []
before_last (e ∷ past) = past

-- the word of how a run ends whose last act this is
unfoldable pub end_word_of : Act → Bytes
end_word_of act.Quiet = codes "quiet"
end_word_of act.Halt = codes "halt"
end_word_of _ = codes "open"

-- the word of how the run ends
unfoldable pub end_word : Past → Bytes
end_word [] = codes "open"
end_word (e ∷ past) = end_word_of e.act

-- the lines of all domains, and of all unanswered calls
unfoldable pub state_lines : System → Past → Bytes
state_lines s past =
    line (codes "domains" ∷ [])
    ++ flat_map (domain_line s past) (up_to (domains_made past))
    ++ line (codes "calls" ∷ [])
    ++ flat_map (call_line past) (up_to (calls_made past))

-- the lines of the totals, and of how the run ends
unfoldable pub total_lines : System → Past → Bytes
total_lines s past =
    total_line (codes "memory") (used_granules s past) (granule_limit s)
    ++ total_line (codes "words") (words_of (before_last past)) (journal_limit s)
    ++ line (codes "end" ∷ end_word past ∷ [])

-- the lines behind those of the entries
unfoldable pub lines_after : System → List Entry → Past → Bytes
lines_after s entries past =
    line (codes "console" ∷ []) ++ flat_map console_line entries ++ state_lines s past ++ total_lines s past

-- the audit of a history
unfoldable pub audit_text : System → History → Bytes
audit_text s h = line (codes "jx audit 1" ∷ []) ++ entry_lines s 1 h.entries ++ lines_after s h.entries (past_of h)

-- what a computed case opens
unfoldable pub opened_audit_text : Unit {0}
unfolding entry_line entry_lines printed console_line standing_words domain_line call_line total_line before_last end_word_of end_word state_lines total_lines lines_after audit_text
opened_audit_text = tt
