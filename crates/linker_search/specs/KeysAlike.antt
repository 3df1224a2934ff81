-- Members of classes as keys that are looked up by their parts.
use Rattle.std.proofs.Common.{◌≡◌, ℕ, Bool, ◌==◌, List, IsTrue}
use Rattle.std.specs.Prelude.{◌&&◌}
use Rattle.jx_base.specs.declared.program.Selector.{Selector}
use Rattle.jx_base.proofs.BasicLaws.{ap2, both, eq_of}
use Rattle.linker_outline.specs.KeysAlike.{first_alike, same_texts, second_alike}

-- whether class c and a selector are those two others
abbrev pub same_member : ℕ → Selector → ℕ → Selector → Bool
same_member c x d y = (c == d) && same_texts x.name x.descriptor y.name y.descriptor

module _ (c : ℕ) (x : Selector) (d : ℕ) (y : Selector) (h : IsTrue (same_member c x d y)) where
  -- then the classes are one
  pub class_alike : c ≡ d
  class_alike = eq_of c d (both (c == d) (same_texts x.name x.descriptor y.name y.descriptor) h).0

  -- and the names
  pub name_alike : x.name ≡ y.name
  name_alike = first_alike x.name x.descriptor y.name y.descriptor (both (c == d) (same_texts x.name x.descriptor y.name y.descriptor) h).1

  -- and the descriptors
  pub descriptor_alike : x.descriptor ≡ y.descriptor
  descriptor_alike = second_alike x.name x.descriptor y.name y.descriptor (both (c == d) (same_texts x.name x.descriptor y.name y.descriptor) h).1

  -- and the selectors
  pub selector_alike : x ≡ y
  selector_alike = ap2 (λ (a b : List ℕ). record { name = a; descriptor = b }) name_alike descriptor_alike

  -- so that they are alike with any others
  pub alike_with : (e : ℕ) (z : Selector) → same_member c x e z ≡ same_member d y e z
  alike_with e z = ap2 (λ b w. same_member b w e z) class_alike selector_alike
