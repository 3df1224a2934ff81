-- Plans whose numbers, names and lists lie in their ranges.
use Rattle.std.specs.Prelude.{◌≡◌, ◌≤◌, ◌<◌, ℕ, Bool, true, false, ◌&&◌, List, [], ◌∷◌, length, nat_le, map, flat_map, All, Contains, IsTrue}
use Rattle.std.specs.List.{list_all, list_any, range_with_len}
use Rattle.std.specs.Str.{bytes_eq}
use Rattle.jx_base.specs.ClassNames.{is_name_byte, has_filled_parts, is_reserved, is_class_name}
use Rattle.jx_base.specs.declared.program.Plan.{Plan}
use Rattle.jx_base.specs.declared.program.Template.{Template}
use Rattle.jx_base.specs.Basics.{distinct_after, distinct, firsts}

-- ---- texts

-- the texts without later repeats, and without those that were seen before
abbrev pub first_texts_after : List (List ℕ) → List (List ℕ) → List (List ℕ)
first_texts_after seen texts = distinct_after bytes_eq seen texts

-- the texts without later repeats
abbrev pub first_texts : List (List ℕ) → List (List ℕ)
first_texts texts = distinct bytes_eq texts

-- 1 to 255 units
unfoldable pub has_name_length : List ℕ → Bool
has_name_length units = nat_le 1 (length units) && nat_le (length units) 255

-- 1 to 255 visible ASCII characters
unfoldable pub is_template_name : List ℕ → Bool
is_template_name units = has_name_length units && list_all (λ u. nat_le 0x21 u && nat_le u 0x7e) units

-- ---- plans

-- a number from the first to the second
abbrev pub IsFromTo : ℕ → ℕ → ℕ → Type 0
IsFromTo low high n = (low ≤ n) × (n ≤ high)

-- a template whose name, lists and numbers lie in their ranges, in a plan of so many classes
pub record IsTemplateInRange (classes : ℕ) (t : Template) : Type 0 where
  pub name : IsTrue (is_template_name t.name)
  pub main : Contains t.classes t.main
  pub class_count : IsFromTo 1 256 (length t.classes)
  pub class_places : All (λ c. c < classes) t.classes
  pub class_once : firsts t.classes ≡ t.classes
  pub heap : IsFromTo 16 131072 t.heap
  pub fuel : t.fuel ≤ 100000000

-- a plan whose numbers, names and lists lie in their ranges; the classes stand in the order in which the templates first list them
pub record IsPlanInRange (plan : Plan) : Type 0 where
  pub granules : IsFromTo 1 262144 plan.granules
  pub journal : IsFromTo 8208 16777216 plan.journal
  pub template_count : length plan.templates ≤ 64
  pub templates : All (IsTemplateInRange (length plan.classes)) plan.templates
  pub template_once : first_texts (map (λ t. t.name) plan.templates) ≡ map (λ t. t.name) plan.templates
  pub class_count : length plan.classes ≤ 256
  pub class_names : All (λ name. IsTrue (is_class_name name)) plan.classes
  pub class_once : first_texts plan.classes ≡ plan.classes
  pub class_order : firsts (flat_map (λ t. t.classes) plan.templates) ≡ range_with_len 0 (length plan.classes)

-- what a computed case opens
unfoldable pub opened_plans : Unit {0}
unfolding distinct_after distinct has_name_length is_template_name is_name_byte has_filled_parts is_reserved is_class_name
opened_plans = tt
