-- A text has just its lines.
use Rattle.std.proofs.Common.{◌≡◌, ◌≢◌, ℕ, List, [], ◌∷◌, ◌++◌, Bool, true, false, refl, sym, ap, subst, ◌∙◌, inl, inr, append_assoc, append-nil}
use Rattle.std.specs.Prelude.{◌⊎◌, ◌==◌, if◌then◌else◌}
use Rattle.std.specs.List.{AllByRecursion}
use Rattle.std.proofs.lemmas.Bool.Decides.{nat_tests}
use Rattle.std.proofs.Common.{arith}
use Rattle.asm_words.specs.Words.{feed, begun, lines_of}
use Rattle.asm_words.specs.TextLaws.{has_unit, ended_lines, IsLines}
use Rattle.asm_words.proofs.Lines.{line_ends, last_line}

Joined : List ℕ → List (List ℕ) → Type 0
Joined text lines = (text ≡ ended_lines lines)
    ⊎ ((before : List (List ℕ)) × (last : List ℕ) × (lines ≡ before ++ last ∷ []) × (last ≢ []) × (text ≡ ended_lines before ++ last))

Apart : List (List ℕ) → Type 0
Apart lines = AllByRecursion (λ line. has_unit feed line ≡ false) lines

-- ---- its lines

joined_behind_feed : (text : List ℕ) (lines : List (List ℕ)) → Joined text lines → Joined (feed ∷ text) ([] ∷ lines)
unfolding Joined ended_lines
joined_behind_feed text lines (inl e) = inl (ap (λ bytes. feed ∷ bytes) e)
joined_behind_feed text lines (inr h) = inr ([] ∷ h.0, h.1, ap (λ ls. [] ∷ ls) h.2, h.3, ap (λ bytes. feed ∷ bytes) h.4)

begun_last : (b : ℕ) (text : List ℕ) (before : List (List ℕ)) (last : List ℕ) → last ≢ [] → text ≡ ended_lines before ++ last → Joined (b ∷ text) (begun b (before ++ last ∷ []))
unfolding Joined ended_lines begun
begun_last b text [] last some e = inr ([], b ∷ last, refl, (λ k. cc), ap (λ bytes. b ∷ bytes) e)
begun_last b text (line ∷ before) last some e = inr ((b ∷ line) ∷ before, last, refl, some, ap (λ bytes. b ∷ bytes) e)

begun_joined : (b : ℕ) (text : List ℕ) (lines : List (List ℕ)) → Joined text lines → Joined (b ∷ text) (begun b lines)
unfolding Joined ended_lines begun
begun_joined b text [] (inl e) = inr ([], b ∷ [], refl, (λ k. cc), ap (λ bytes. b ∷ bytes) e)
begun_joined b text (line ∷ lines) (inl e) = inl (ap (λ bytes. b ∷ bytes) e)
begun_joined b text lines (inr h) = subst (λ ls. Joined (b ∷ text) (begun b ls)) (sym h.2) (begun_last b text h.0 h.1 h.3 h.4)

apart_begun : (b : ℕ) (lines : List (List ℕ)) → (b == feed) ≡ false → Apart lines → Apart (begun b lines)
unfolding Apart begun has_unit
apart_begun b [] e h = (rw e refl, tt)
apart_begun b (line ∷ lines) e h = (rw e h.0, h.1)

with_unit : (b : ℕ) (bytes : List ℕ) (t : Bool) → (b == feed) ≡ t → Joined bytes (lines_of bytes) → Joined (b ∷ bytes) (if t then [] ∷ lines_of bytes else begun b (lines_of bytes))
with_unit b bytes true e h = let k : b ≡ feed = grind (arith, nat_tests) in subst (λ c. Joined (c ∷ bytes) ([] ∷ lines_of bytes)) (sym k) (joined_behind_feed bytes (lines_of bytes) h)
with_unit b bytes false e h = begun_joined b bytes (lines_of bytes) h

apart_with_unit : (b : ℕ) (bytes : List ℕ) (t : Bool) → (b == feed) ≡ t → Apart (lines_of bytes) → Apart (if t then [] ∷ lines_of bytes else begun b (lines_of bytes))
unfolding Apart has_unit
apart_with_unit b bytes true e h = (refl, h)
apart_with_unit b bytes false e h = apart_begun b (lines_of bytes) e h

joined : (text : List ℕ) → Joined text (lines_of text)
unfolding Joined ended_lines lines_of
joined [] = inl refl
joined (b ∷ bytes) = with_unit b bytes (b == feed) refl (joined bytes)

apart : (text : List ℕ) → Apart (lines_of text)
unfolding Apart lines_of
apart [] = tt
apart (b ∷ bytes) = apart_with_unit b bytes (b == feed) refl (apart bytes)

pub has_lines : (text : List ℕ) → IsLines text (lines_of text)
unfolding Joined Apart
has_lines text = record { joined = joined text; apart = apart text }

-- ---- no other lines

ended : (lines : List (List ℕ)) (text : List ℕ) → Apart lines → lines_of (ended_lines lines ++ text) ≡ lines ++ lines_of text
unfolding Apart ended_lines
ended [] text h = refl
ended (line ∷ lines) text h =
    ap lines_of (append_assoc (line ++ feed ∷ []) (ended_lines lines) text ∙ append_assoc line (feed ∷ []) (ended_lines lines ++ text))
    ∙ (line_ends line (ended_lines lines ++ text) h.0 ∙ ap (λ ls. line ∷ ls) (ended lines text h.1))

apart_before : (before : List (List ℕ)) (last : List ℕ) → Apart (before ++ last ∷ []) → Apart before × (has_unit feed last ≡ false)
unfolding Apart
apart_before [] last h = (tt, h.0)
apart_before (line ∷ before) last h = let k = apart_before before last h.1 in ((h.0, k.0), k.1)

one_line : (last : List ℕ) → last ≢ [] → has_unit feed last ≡ false → lines_of last ≡ last ∷ []
one_line [] some h = absurd (some refl)
one_line (b ∷ last) some h = last_line b last h

no_other : (text : List ℕ) (lines : List (List ℕ)) → Joined text lines → Apart lines → lines ≡ lines_of text
unfolding Joined lines_of
no_other text lines (inl e) h = sym (ap lines_of (e ∙ sym (append-nil (ended_lines lines))) ∙ (ended lines [] h ∙ append-nil lines))
no_other text lines (inr k) h =
    let w = apart_before k.0 k.1 (subst Apart k.2 h) in
    sym (ap lines_of k.4 ∙ (ended k.0 k.1 w.0 ∙ (ap (λ ls. k.0 ++ ls) (one_line k.1 k.3 w.1) ∙ sym k.2)))

pub has_no_other_lines : (text : List ℕ) (lines : List (List ℕ)) → IsLines text lines → lines ≡ lines_of text
unfolding Joined Apart
has_no_other_lines text lines h = no_other text lines h.joined h.apart
