-- The plan of a class alone lies in its ranges.
use Rattle.std.specs.Prelude.{◌≡◌, refl, ◌<◌, ℕ, true, List, [], ◌∷◌, All, IsTrue, codes}
use Rattle.std.proofs.Common.{arith}
use Rattle.std.proofs.lemmas.List.Elements.{All-nil, All-cons}
use Rattle.jx_base.specs.ClassNames.{is_class_name}
use Rattle.jx_base.specs.declared.program.Template.{Template}
use Rattle.program_model.specs.Plans.{IsTemplateInRange, IsPlanInRange, has_name_length, is_template_name}
use Rattle.jx_base.specs.Basics.{distinct_after, distinct}
use Rattle.system_text.specs.Description.{one_class_plan}

all_one : {X : Type 0} (P : X → Type 0) (x : X) → P x → All P (x ∷ [])
all_one P x p = All-cons P x [] p (All-nil P)

main_template : Template
main_template = record { name = codes "main"; main = 0; classes = 0 ∷ []; heap = 1024; fuel = 1000000; boot = true }

template_in_range : IsTemplateInRange 1 main_template
unfolding main_template distinct_after distinct has_name_length is_template_name
template_in_range =
    record {
      name = refl;
      main = (0, omega arith, refl);
      class_count = (omega arith, omega arith);
      class_places = all_one (λ c. c < 1) 0 (omega arith);
      class_once = refl;
      heap = (omega arith, omega arith);
      fuel = omega arith;
    }

pub one_class_in_range : (name : List ℕ) → IsTrue (is_class_name name) → IsPlanInRange (one_class_plan name)
unfolding main_template distinct_after distinct one_class_plan
one_class_in_range name h =
    record {
      granules = (omega arith, omega arith);
      journal = (omega arith, omega arith);
      template_count = omega arith;
      templates = all_one (IsTemplateInRange 1) _ template_in_range;
      template_once = refl;
      class_count = omega arith;
      class_names = all_one (λ name. IsTrue (is_class_name name)) name h;
      class_once = refl;
      class_order = refl;
    }
