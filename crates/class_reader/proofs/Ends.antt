-- The end of a text.
use Rattle.std.proofs.Common.{◌≡◌, ℕ, List, [], ◌∷◌, length, true, false, Ok, Err, refl}
use Rattle.std.specs.Prelude.{◌==◌}
use Rattle.jx_base.specs.declared.fault.ClassFault.{ClassFault}
use Rattle.class_grammar.specs.Parts.{at_end}
use Rattle.class_texts.proofs.Tests.{not_nil}

pub all_read : (f : ClassFault) (bytes : List ℕ) → (length bytes == 0) ≡ true → (at_end f).reads bytes ≡ Ok (tt, [])
all_read f [] h = refl
all_read f (b ∷ bytes) h = absurd (not_nil b bytes h)

pub some_left : (f : ClassFault) (bytes : List ℕ) → (length bytes == 0) ≡ false → (at_end f).reads bytes ≡ Err f
some_left f [] h = absurd (cc)
some_left f (b ∷ bytes) h = refl

pub ruleset ends = (all_read, some_left)
