-- The words of a line.
use Rattle.std.proofs.Common.{◌≡◌, List, [], ◌∷◌, ◌++◌, refl, ap, ◌∙◌, append_assoc}
use Rattle.std.specs.List.{flat_map}
use Rattle.jx_base.specs.Texts.{after_space, spaced, line}
use Rattle.audit_model.specs.Audit.{Bytes}

-- words, each behind a blank, and a rest
abbrev pub words_before : List Bytes → Bytes → Bytes
words_before [] r = r
words_before (w ∷ ws) r = 32 ∷ (w ++ words_before ws r)

-- words, each behind a blank, written one after another
after_spaces : (ws : List Bytes) (r : Bytes) → flat_map after_space ws ++ r ≡ words_before ws r
after_spaces [] r = refl
after_spaces (w ∷ ws) r = append_assoc (32 ∷ w) (flat_map after_space ws) r ∙ ap (λ (x : Bytes). 32 ∷ (w ++ x)) (after_spaces ws r)

-- words with blanks between are the first one and the others behind blanks
pub spaced_words : (w : Bytes) (ws : List Bytes) (r : Bytes) → spaced (w ∷ ws) ++ r ≡ w ++ words_before ws r
unfolding spaced
spaced_words w ws r = append_assoc w (flat_map after_space ws) r ∙ ap (λ (x : Bytes). w ++ x) (after_spaces ws r)

-- a line is its first word, the others behind blanks, and a line feed
pub line_words : (w : Bytes) (ws : List Bytes) (r : Bytes) → line (w ∷ ws) ++ r ≡ w ++ words_before ws (10 ∷ r)
unfolding line
line_words w ws r = append_assoc (spaced (w ∷ ws)) (10 ∷ []) r ∙ spaced_words w ws (10 ∷ r)

-- words, then other words, and a rest
pub words_append : (ws vs : List Bytes) (r : Bytes) → words_before (ws ++ vs) r ≡ words_before ws (words_before vs r)
words_append [] vs r = refl
words_append (w ∷ ws) vs r = ap (λ (x : Bytes). 32 ∷ (w ++ x)) (words_append ws vs r)
