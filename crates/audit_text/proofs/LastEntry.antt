-- The last entry of a history, and those before it.
use Rattle.std.proofs.Common.{◌≡◌, refl, List, [], ◌∷◌, ◌++◌, length, reverse, arith}
use Rattle.std.specs.Prelude.{codes}
use Rattle.jx_base.specs.declared.act.Act.{Act}
use Rattle.jx_base.specs.declared.act.Act.TheVariants as act
use Rattle.jx_base.specs.declared.act.Entry.{Entry}
use Rattle.std.proofs.lemmas.List.{reverse-append}
use Rattle.jx_model.specs.Journal.{words_of}
use Rattle.audit_model.specs.AuditText.{before_last, end_word, end_word_of}

pub before_last-reverse : (entries front : List Entry) (last : Entry) → entries ≡ front ++ (last ∷ []) → before_last (reverse entries) ≡ reverse front
unfolding before_last
before_last-reverse entries front last is = rw (is, reverse-append front (last ∷ [])) refl

pub before_last-none : (entries : List Entry) → length entries ≡ 0 → words_of (before_last (reverse entries)) ≡ 0
unfolding before_last words_of
before_last-none [] none = refl
before_last-none (e ∷ entries) none = absurd (omega arith)

pub end_word-none : (entries : List Entry) → length entries ≡ 0 → end_word (reverse entries) ≡ codes "open"
unfolding end_word
end_word-none [] none = refl
end_word-none (e ∷ entries) none = absurd (omega arith)

pub end_word-last : (entries front : List Entry) (last : Entry) → entries ≡ front ++ (last ∷ []) → end_word (reverse entries) ≡ end_word_of last.act
unfolding end_word
end_word-last entries front last is = rw (is, reverse-append front (last ∷ [])) refl

-- an act that ends no run
pub end_word-open : (a : Act) → (a ≡ act.Quiet → ⊥) → (a ≡ act.Halt → ⊥) → end_word_of a ≡ codes "open"
unfolding end_word_of
end_word-open act.Quiet other more = absurd (other refl)
end_word-open act.Halt other more = absurd (more refl)
end_word-open _ other more = refl
