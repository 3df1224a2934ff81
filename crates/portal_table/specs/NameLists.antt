-- What the names of a run are seen as.
use Rattle.std.specs.Prelude.{ℕ, ◌+◌, ◌*◌, ◌%◌, ◌^◌, List, [], ◌∷◌, length, fold}

-- the names that were bound with their services, the newest first, and how many words they may cost
pub record NamesState : Type 0 where
  pub binds : List (List ℕ × ℕ)
  pub words : ℕ

-- what names cost: 8 words each, and one for each unit
abbrev pub name_words : List (List ℕ × ℕ) → ℕ
name_words [] = 0
name_words (bind ∷ binds) = 8 + length bind.0 + name_words binds

-- the digest of a text: 31 times that of the units before the last and the last, as 64 bits
abbrev pub digest_of : List ℕ → ℕ
digest_of units = fold (λ digest unit. (digest * 31 % 2 ^ 64 + unit) % 2 ^ 64) 0 units
