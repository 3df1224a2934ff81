-- Where the line of an entry ends, and that it takes_off the entry.
use Rattle.std.proofs.Common.{◌≡◌, ℕ, ◌+◌, true, false, List, [], ◌∷◌, ◌++◌, codes, Some, refl, sym, ap, ◌∙◌, subst, append_assoc}
use Rattle.std.specs.Prelude.{⊤}
use Rattle.std.specs.Fmt.{decimal}
use Rattle.std.proofs.lemmas.List.{append_cancel_left}
use Rattle.jx_base.specs.declared.act.Act.{Act}
use Rattle.jx_base.specs.declared.act.Reply.{Reply}
use Rattle.jx_base.specs.declared.act.Entry.{Entry}
use Rattle.jx_base.specs.declared.program.System.{System}
use Rattle.jx_base.specs.Histories.{Past}
use Rattle.jx_model.specs.Permits.{acting_thread}
use Rattle.jx_model.specs.Replies.{reply_to}
use Rattle.jx_model.specs.Legal.{IsNext, IsAdmittedPast}
use Rattle.audit_model.specs.Audit.{Bytes, act_word, act_operands, reply_word, reply_operands}
use Rattle.audit_model.specs.AuditText.{entry_line, entry_lines}
use Rattle.program_model.specs.DistinctNames.{HasDistinctNames}
use Rattle.audit_laws.proofs.Cuts.{Stops, parts_of_cons}
use Rattle.audit_laws.proofs.Numbers.{Begins, begins, is_number_byte, decimal_begins}
use Rattle.audit_laws.proofs.Lines.{words_before, line_words, words_append}
use Rattle.audit_laws.proofs.ActWords.{is_no_blank, word_number, act_words_take}
use Rattle.audit_laws.proofs.Acts.{id_takes, act_takes, AreGoesOfOneThread}
use Rattle.audit_laws.proofs.Choices.{go_thread}
use Rattle.jx_model.proofs.SmallNumbers.{domain_small, thread_small}

-- ---- one entry

-- the words of a reply behind an arrow, and a line feed
abbrev reply_part : System → Reply → Bytes → Bytes
reply_part s x r = words_before (codes "->" ∷ reply_word x ∷ reply_operands s x) (10 ∷ r)

-- the words of an act, and the reply
abbrev act_part : System → Entry → Bytes → Bytes
act_part s e r = act_word e.act ++ words_before (act_operands s e.act) (reply_part s e.reply r)

-- the line of an entry before a rest
entry_parts : (s : System) (n : ℕ) (e : Entry) (r : Bytes) →
    entry_line s n e ++ r ≡ decimal n ++ 32 ∷ (decimal e.domain.0 ++ 32 ∷ (decimal e.thread.0 ++ 32 ∷ act_part s e r))
unfolding entry_line
entry_parts s n e r =
    line_words (decimal n) (decimal e.domain.0 ∷ decimal e.thread.0 ∷ act_word e.act ∷ (act_operands s e.act ++ codes "->" ∷ reply_word e.reply ∷ reply_operands s e.reply)) r
    ∙ ap (λ (x : Bytes). decimal n ++ 32 ∷ (decimal e.domain.0 ++ 32 ∷ (decimal e.thread.0 ++ 32 ∷ (act_word e.act ++ x))))
    (words_append (act_operands s e.act) (codes "->" ∷ reply_word e.reply ∷ reply_operands s e.reply) (10 ∷ r))

-- words and a rest that begins with a blank begin with a blank
words_start : (ws : List Bytes) (r : Bytes) → Stops is_no_blank (words_before ws (32 ∷ r))
words_start [] r = refl
words_start (w ∷ ws) r = refl

-- rests behind the same words
words_cancel : (ws : List Bytes) (r q : Bytes) → words_before ws r ≡ words_before ws q → r ≡ q
words_cancel [] r q e = e
words_cancel (w ∷ ws) r q e = words_cancel ws r q (append_cancel_left w _ _ (parts_of_cons e).1)

-- the go of an entry is of its thread
goes_alike : (s : System) (past : Past) (e f : Entry) → IsNext s past e → IsNext s past f → e.thread.0 ≡ f.thread.0 → AreGoesOfOneThread e.act f.act
goes_alike s past e f h k same t u p q =
    go_thread s past e.domain.0 e.thread.0 t (subst (λ (a : Act). acting_thread s past e.domain.0 a ≡ Some e.thread.0) p h.thread)
    ∙ same
    ∙ sym (go_thread s past f.domain.0 f.thread.0 u (subst (λ (a : Act). acting_thread s past f.domain.0 a ≡ Some f.thread.0) q k.thread))

-- the reply is that of the past, the domain and the act
replies_alike : (s : System) (past : Past) (e f : Entry) → IsNext s past e → IsNext s past f → e.domain.0 ≡ f.domain.0 → e.act ≡ f.act → e.reply ≡ f.reply
replies_alike s past e f h k p q = h.reply ∙ (λ t. reply_to s past (p t) (q t)) ∙ sym k.reply

-- lines of entries that may come next, before rests, are taken off
entry_takes : (s : System) → HasDistinctNames s → (past : Past) (n : ℕ) (e f : Entry) (r q : Bytes) → IsAdmittedPast s past → IsNext s past e → IsNext s past f →
    entry_line s n e ++ r ≡ entry_line s n f ++ q → (e ≡ f) × (r ≡ q)
entry_takes s names past n e f r q past_is h k g =
    let start = append_cancel_left (decimal n) _ _ (sym (entry_parts s n e r) ∙ g ∙ entry_parts s n f q) in
    let d = id_takes e.domain.0 f.domain.0 _ _ (domain_small s past e past_is h) (domain_small s past f past_is k) start in
    let t = id_takes e.thread.0 f.thread.0 _ _ (thread_small s past e past_is h) (thread_small s past f past_is k) d.1 in
    let w = act_words_take e.act f.act _ _ (words_start (act_operands s e.act) _) (words_start (act_operands s f.act) _) (parts_of_cons t.1).1 in
    let a = act_takes s names past past_is e.act f.act _ _ h.well_made k.well_made (goes_alike s past e f h k t.0) (ap word_number w.0) w.1 in
    let y = replies_alike s past e f h k d.0 a.0 in (
      (λ x. record { domain = record { 0 = d.0 x }; thread = record { 0 = t.0 x }; act = a.0 x; reply = y x }),
      (parts_of_cons (words_cancel (codes "->" ∷ reply_word f.reply ∷ reply_operands s f.reply) _ _ (ap (λ (x : Reply). reply_part s x r) (sym y) ∙ a.1))).1,
    )

-- ---- all entries

-- each entry may come after those before it
abbrev pub AllFollow : System → Past → List Entry → Type 0
AllFollow s past [] = ⊤
AllFollow s past (e ∷ entries) = IsNext s past e × AllFollow s (e ∷ past) entries

-- no number begins with `c`
begins_otherwise : (w r q : Bytes) → Begins w → w ++ r ≡ 99 ∷ q → ⊥
begins_otherwise _ r q (begins {u} {units} h) e = let g : is_number_byte u ≡ false = ap is_number_byte (parts_of_cons e).0 in let f : true ≡ false = sym h ∙ g in cc

-- no line of an entry begins with `c`
entry_begins : (s : System) (n : ℕ) (e : Entry) (r q : Bytes) → entry_line s n e ++ r ≡ 99 ∷ q → ⊥
entry_begins s n e r q g = begins_otherwise (decimal n) _ q (decimal_begins n) (sym (entry_parts s n e r) ∙ g)

-- lines of entries before rests that begin with `c` are taken off
pub entries_take : (s : System) → HasDistinctNames s → (past : Past) (n : ℕ) (es fs : List Entry) (r q : Bytes) → IsAdmittedPast s past → AllFollow s past es → AllFollow s past fs →
    entry_lines s n es ++ 99 ∷ r ≡ entry_lines s n fs ++ 99 ∷ q → es ≡ fs
unfolding entry_lines
entries_take s names past n [] [] r q past_is h k g = refl
entries_take s names past n [] (f ∷ fs) r q past_is h k g =
    absurd (entry_begins s n f _ r (sym (append_assoc (entry_line s n f) (entry_lines s (n + 1) fs) (99 ∷ q)) ∙ sym g))
entries_take s names past n (e ∷ es) [] r q past_is h k g =
    absurd (entry_begins s n e _ q (sym (append_assoc (entry_line s n e) (entry_lines s (n + 1) es) (99 ∷ r)) ∙ g))
entries_take s names past n (e ∷ es) (f ∷ fs) r q past_is h k g =
    let c = entry_takes s names past n e f _ _ past_is h.0 k.0
    (sym (append_assoc (entry_line s n e) (entry_lines s (n + 1) es) (99 ∷ r)) ∙ g ∙ append_assoc (entry_line s n f) (entry_lines s (n + 1) fs) (99 ∷ q)) in
    let m = entries_take s names (e ∷ past) (n + 1) es fs r q (h.0, past_is) h.1 (subst (λ (x : Entry). AllFollow s (x ∷ past) fs) (sym c.0) k.1) c.1 in
    (λ t. c.0 t ∷ m t)
