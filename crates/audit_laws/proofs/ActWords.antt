-- The first word of an act takes_off its form.
use Rattle.std.proofs.Common.{◌≡◌, ℕ, ◌+◌, ◌*◌, ◌==◌, Bool, true, not, [], ◌∷◌, ◌++◌, refl}
use Rattle.std.specs.List.{list_all}
use Rattle.jx_base.specs.declared.act.Act.{Act}
use Rattle.jx_base.specs.declared.act.Act.TheVariants as act
use Rattle.audit_model.specs.Audit.{Bytes, act_word}
use Rattle.jx_base.proofs.BasicLaws.{both}
use Rattle.audit_laws.proofs.Cuts.{AllPass, Stops, cut}

-- whether the byte is no blank
abbrev pub is_no_blank : ℕ → Bool
is_no_blank u = not (u == 32)

-- a word as a number
abbrev pub word_number : Bytes → ℕ
word_number [] = 0
word_number (u ∷ w) = u + 256 * word_number w

-- a test of all bytes says that each passes
passing : (p : ℕ → Bool) (w : Bytes) → list_all p w ≡ true → AllPass p w
passing p [] h = tt
passing p (u ∷ w) h = let q = both (p u) (list_all p w) h in (q.0, passing p w q.1)

-- the first word of an act has no blanks
no_blanks : (a : Act) → list_all is_no_blank (act_word a) ≡ true
unfolding act_word
no_blanks (act.Create t) = refl
no_blanks _ = refl

-- first words of acts before rests that begin with blanks are taken off
pub act_words_take : (a b : Act) (r q : Bytes) → Stops is_no_blank r → Stops is_no_blank q → act_word a ++ r ≡ act_word b ++ q → (act_word a ≡ act_word b) × (r ≡ q)
act_words_take a b r q f g e =
    cut is_no_blank (act_word a) (act_word b) r q (passing is_no_blank (act_word a) (no_blanks a)) (passing is_no_blank (act_word b) (no_blanks b)) f g e
