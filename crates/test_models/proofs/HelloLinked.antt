-- The plan of the first class is in range, and its system is linked.
use Rattle.std.specs.Prelude.{◌≡◌, refl, ◌<◌, ℕ, zero, suc, List, [], ◌∷◌, All, IsTrue, codes}
use Rattle.std.proofs.Common.{arith, rules, sym}
use Rattle.jx_base.specs.ClassNames.{is_class_name}
use Rattle.program_model.specs.Plans.{IsTemplateInRange, IsPlanInRange}
use Rattle.link_model.specs.LinkFaults.{IsLinked}
use Rattle.opened_models.specs.Opened.{opened_model}
use Rattle.test_models.proofs.HelloRead.{hello_is_read}
use Rattle.test_models.proofs.Hello.{hello_plan, hello_file, hello_system, hello_links, hello_is_good}

-- ---- all elements of short lists

pub all_none : {X : Type 0} (P : X → Type 0) → All P []
all_none P k d h = absurd (omega (arith, h))

pub all_one : {X : Type 0} (P : X → Type 0) (x : X) → P x → All P (x ∷ [])
all_one P x p zero d h = p
all_one P x p (suc k) d h = absurd (omega (arith, h))

pub all_two : {X : Type 0} (P : X → Type 0) (x y : X) → P x → P y → All P (x ∷ y ∷ [])
all_two P x y p q zero d h = p
all_two P x y p q (suc zero) d h = q
all_two P x y p q (suc (suc k)) d h = absurd (omega (arith, h))

-- ---- the plan and the system

pub plan_in_range : IsPlanInRange (hello_plan 1000000)
unfolding opened_model
plan_in_range =
    record {
      granules = (omega arith, omega arith);
      journal = (omega arith, omega arith);
      template_count = omega arith;
      templates = all_one (IsTemplateInRange 1) _ (record {
        name = search rules;
        main = (0, omega arith, refl);
        class_count = (omega arith, omega arith);
        class_places = all_one (λ c. c < 1) 0 (omega arith);
        class_once = refl;
        heap = (omega arith, omega arith);
        fuel = omega arith;
      });
      template_once = refl;
      class_count = omega arith;
      class_names = all_one (λ name. IsTrue (is_class_name name)) (codes "Hello") (search rules);
      class_once = refl;
      class_order = refl;
    }

pub is_linked : IsLinked (hello_plan 1000000) (hello_file ∷ []) (hello_system 1000000)
is_linked =
    record {
      has_files = record { range = plan_in_range; count = refl; read = (hello_is_read, tt) };
      no_fault = hello_is_good;
      system = sym hello_links;
    }
