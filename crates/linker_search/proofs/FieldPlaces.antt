-- Fields as members of classes.
use Rattle.std.proofs.Common.{◌≡◌, ◌∙◌, ap, ℕ, ◌+◌, ◌<◌, List, length, take, get_or}
use Rattle.std.specs.Prelude.{◌&&◌}
use Rattle.std.specs.Cmp.Lexicographic.{nat_list_eq_equiv}
use Rattle.jx_base.specs.declared.program.Field.{Field}
use Rattle.jx_base.specs.declared.program.Selector.{Selector}
use Rattle.jx_base.proofs.BasicLaws.{ap2}
use Rattle.link_model.specs.Linking.{is_field}
use Rattle.program_model.specs.Lookup.{same_selector}
use Rattle.linker_search.specs.OwnFields.{before, selector_of_field}
use Rattle.linker_search.proofs.OneMore.{take_next}
use Rattle.jx_base.specs.declared.program.Class.{Class}
use Rattle.std.specs.List.{sum_by}
use Rattle.std.proofs.lemmas.List.Sums.{sum_by_push}

-- a field has that selector where its own is the same
pub field_selector : (x : Selector) (f : Field) → same_selector x (selector_of_field f) ≡ is_field x f
unfolding same_selector is_field
field_selector x f = ap2 (λ a b. a && b) (nat_list_eq_equiv.symm x.name f.name) (nat_list_eq_equiv.symm x.descriptor f.descriptor)

-- the static fields before the next class
pub before_next : (ks : List Class) (i : ℕ) (k : Class) → i < length ks → k ≡ get_or ks i k → before ks (i + 1) ≡ before ks i + length k.statics
before_next ks i k le is =
    ap (sum_by count) (take_next ks i k le is) ∙ sum_by_push count (take i ks) k
  where
    count : Class → ℕ
    count j = length j.statics
