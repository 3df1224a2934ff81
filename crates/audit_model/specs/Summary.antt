-- The summary of a history: how often each act was answered so.
use Rattle.std.specs.Prelude.{ℕ, Bool, ◌&&◌, List, [], ◌∷◌, ◌++◌, ◌==◌, if◌then◌else◌, flat_map, count_by, codes, decimal}
use Rattle.std.specs.Str.{bytes_eq}
use Rattle.jx_base.specs.declared.act.Entry.{Entry}
use Rattle.jx_base.specs.declared.act.History.{History}
use Rattle.jx_base.specs.Texts.{line}
use Rattle.audit_model.specs.Audit.{Bytes, act_word, reply_word}

-- an act's word, and the words of its replies and then of its refusals
abbrev pub Kind : Type 0
Kind = Bytes × List Bytes

-- the kinds of entries on boot domains and texts
unfoldable pub first_kinds : List Kind
first_kinds =
    (codes "create", codes "domain" ∷ codes "toomany" ∷ codes "noroom" ∷ [])
    ∷ (codes "print", codes "done" ∷ [])
    ∷ []

-- the kinds of entries on services and calls
unfoldable pub service_kinds : List Kind
service_kinds =
    (codes "export", codes "service" ∷ codes "toomany" ∷ [])
    ∷ (codes "bind", codes "done" ∷ codes "notheld" ∷ codes "taken" ∷ [])
    ∷ (codes "lookup", codes "none" ∷ codes "service" ∷ [])
    ∷ (codes "call", codes "queued" ∷ codes "notheld" ∷ codes "gone" ∷ codes "nomethod" ∷ codes "unfit" ∷ [])
    ∷ (codes "take", codes "job" ∷ [])
    ∷ (codes "return", codes "done" ∷ codes "discarded" ∷ codes "notheld" ∷ codes "unfit" ∷ [])
    ∷ (codes "throw", codes "done" ∷ codes "discarded" ∷ codes "notheld" ∷ codes "unfit" ∷ [])
    ∷ (codes "resume", codes "value" ∷ codes "thrown" ∷ codes "copyfailed" ∷ codes "ended" ∷ [])
    ∷ (codes "go", codes "done" ∷ [])
    ∷ []

-- the kinds of entries on memory objects
unfoldable pub memory_kinds : List Kind
memory_kinds =
    (codes "alloc", codes "made" ∷ codes "range" ∷ codes "toomany" ∷ codes "noroom" ∷ [])
    ∷ (codes "size", codes "number" ∷ codes "notheld" ∷ codes "revoked" ∷ [])
    ∷ (codes "get", codes "number" ∷ codes "notheld" ∷ codes "revoked" ∷ codes "range" ∷ [])
    ∷ (codes "set", codes "done" ∷ codes "notheld" ∷ codes "revoked" ∷ codes "range" ∷ [])
    ∷ (codes "fill", codes "done" ∷ codes "notheld" ∷ codes "revoked" ∷ codes "range" ∷ [])
    ∷ (codes "copy", codes "done" ∷ codes "notheld" ∷ codes "revoked" ∷ codes "range" ∷ [])
    ∷ (codes "sub", codes "object" ∷ codes "notheld" ∷ codes "revoked" ∷ codes "range" ∷ codes "toomany" ∷ [])
    ∷ (codes "split", codes "pair" ∷ codes "notheld" ∷ codes "revoked" ∷ codes "range" ∷ codes "toomany" ∷ [])
    ∷ (codes "revoke", codes "object" ∷ codes "notheld" ∷ codes "revoked" ∷ codes "toomany" ∷ [])
    ∷ (codes "drop", codes "done" ∷ codes "notheld" ∷ [])
    ∷ []

-- the kinds of entries that begin and end domains and threads
unfoldable pub ending_kinds : List Kind
ending_kinds =
    (codes "spawn", codes "domain" ∷ codes "unknown" ∷ codes "toomany" ∷ codes "noroom" ∷ [])
    ∷ (codes "kill", codes "done" ∷ codes "unknown" ∷ codes "notyours" ∷ codes "notlive" ∷ [])
    ∷ (codes "exit", codes "done" ∷ [])
    ∷ (codes "yield", codes "done" ∷ [])
    ∷ (codes "end-thread", codes "done" ∷ [])
    ∷ (codes "end", codes "done" ∷ [])
    ∷ (codes "quiet", codes "done" ∷ [])
    ∷ (codes "halt", codes "done" ∷ [])
    ∷ []

-- all kinds of entries, in the order of a summary
unfoldable pub kinds : List Kind
kinds = first_kinds ++ service_kinds ++ memory_kinds ++ ending_kinds

-- whether the entry is an act of that word with a reply of that word
unfoldable pub is_kind : Bytes → Bytes → Entry → Bool
is_kind a r e = bytes_eq (act_word e.act) a && bytes_eq (reply_word e.reply) r

-- the line of a number of entries, where there are any
unfoldable pub count_line : Bytes → Bytes → ℕ → Bytes
count_line a r n = if n == 0 then [] else line (a ∷ r ∷ decimal n ∷ [])

-- the line of that act and reply
unfoldable pub kind_line : List Entry → Bytes → Bytes → Bytes
kind_line entries a r = count_line a r (count_by (is_kind a r) entries)

-- the lines of an act
unfoldable pub kind_lines : List Entry → Kind → Bytes
kind_lines entries k = flat_map (kind_line entries k.0) k.1

-- the summary of a history
unfoldable pub summary_text : History → Bytes
summary_text h = flat_map (kind_lines h.entries) kinds

-- what a computed case opens
unfoldable pub opened_summary : Unit {0}
unfolding first_kinds service_kinds memory_kinds ending_kinds kinds is_kind count_line kind_line kind_lines summary_text
opened_summary = tt
