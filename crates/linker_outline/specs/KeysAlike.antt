-- Keys that are looked up by their parts.
use Rattle.std.proofs.Common.{◌≡◌, ℕ, Bool, List, IsTrue}
use Rattle.std.specs.Prelude.{◌&&◌}
use Rattle.std.specs.Cmp.Lexicographic.{bytes_decides}
use Rattle.std.specs.Str.{bytes_eq}
use Rattle.jx_base.proofs.BasicLaws.{ap2, both}

-- whether two texts are those two others
abbrev pub same_texts : List ℕ → List ℕ → List ℕ → List ℕ → Bool
same_texts a b x y = bytes_eq a x && bytes_eq b y

module _ (a b x y : List ℕ) (h : IsTrue (same_texts a b x y)) where
  -- then the first ones are one
  pub first_alike : a ≡ x
  first_alike = (bytes_decides a x).0 (both (bytes_eq a x) (bytes_eq b y) h).0

  -- and the second ones
  pub second_alike : b ≡ y
  second_alike = (bytes_decides b y).0 (both (bytes_eq a x) (bytes_eq b y) h).1

  -- so that they are alike with any others
  pub alike_with : (u v : List ℕ) → same_texts a b u v ≡ same_texts x y u v
  alike_with u v = ap2 (λ c d. same_texts c d u v) first_alike second_alike
