-- The first class meets the conditions: its plan is in range, it is linked, and its start is a core of it.
use Rattle.std.specs.Prelude.{◌≡◌, refl, ◌<◌, ℕ, zero, suc, List, [], ◌∷◌, Option, Some, All, IsTrue, codes}
use Rattle.std.proofs.Common.{arith, rules, sym}
use Rattle.jx_base.specs.declared.frame.Frame.{Frame}
use Rattle.jx_base.specs.declared.states.Exported.{Exported}
use Rattle.jx_base.specs.declared.value.Value.TheVariants as value
use Rattle.machine_model.specs.Conditions.{IsFrameOf, IsCoreOf, IsInstrOf, IsHeldBy, HasKnownInterface, HasCellsOfClass, HasUnits, RefersToText}
use Rattle.jx_base.specs.ClassNames.{is_class_name}
use Rattle.program_model.specs.Plans.{IsTemplateInRange, IsPlanInRange}
use Rattle.link_model.specs.LinkFaults.{IsLinked}
use Rattle.machine_model.specs.Machine.{domain_state}
use Rattle.machine_model.specs.State.{State, Core}
use Rattle.machine_model.specs.MachineThreads.{thread_at, core_of}
use Rattle.program_model.specs.Parcels.{HeapObject}
use Rattle.opened_models.specs.Opened.{opened_model}
use Rattle.test_models.proofs.HelloLinked.{all_none, all_one, all_two}
use Rattle.test_models.proofs.Hello.{hello_plan, hello_file, hello_system, hello_links, hello_is_good, instr}
use Rattle.std.specs.Option.{option_map}

-- ---- the start

-- the frame of main with the empty array of texts in its local
abbrev pub first_frame : Frame
first_frame = record { method = 79; pc = 0; locals = Some (value.Ref 1) ∷ []; stack = record { values = []; room = 1 } }

-- what thread 0 works on at the start
-- the object that is thrown for want of room, and the empty array of texts
abbrev pub first_object : HeapObject
first_object = record { class = record { 0 = 16 }; cells = value.Null ∷ [] }

abbrev pub second_object : HeapObject
second_object = record { class = record { 0 = 28 }; cells = [] }

abbrev pub first_core : Core
first_core =
    record {
      frames = first_frame ∷ [];
      store = record {
        objects = first_object ∷ second_object ∷ [];
        left = 1019;
        statics = [];
        literals = [];
        exports = [];
      };
    }

-- the core of thread 0
abbrev pub core_at : State → Option Core
core_at st = option_map (core_of st) (thread_at st 0)

starts_so : core_at (domain_state (hello_system 1000000) 0 []) ≡ Some first_core
unfolding opened_model
starts_so = refl

first_frame_is_one : IsFrameOf (hello_system 1000000) first_frame
unfolding opened_model
first_frame_is_one = record { method = search rules; locals = refl; depth = omega arith; room = omega arith }

no_text : ◌≡◌ {A = ℕ} 16 1 → ⊥
no_text same = omega (arith, same)

no_array : ◌≡◌ {A = ℕ} 28 1 → ⊥
no_array same = omega (arith, same)

no_builder : ◌≡◌ {A = ℕ} 16 2 → ⊥
no_builder same = omega (arith, same)

no_array_builder : ◌≡◌ {A = ℕ} 28 2 → ⊥
no_array_builder same = omega (arith, same)

first_core_is_one : IsCoreOf (hello_system 1000000) first_core
unfolding opened_model
first_core_is_one =
    record {
      frames = all_one (IsFrameOf (hello_system 1000000)) first_frame first_frame_is_one;
      references = all_two (IsHeldBy first_core.store) (value.Ref 1) value.Null (omega arith) tt;
      literals = all_none {X = List ℕ × ℕ} (λ x. x.1 < 2);
      exports = all_none {X = Exported} (λ x. x.object < 2);
      classes = all_two (λ o. o.class.0 < 30) first_object second_object (omega arith) (omega arith);
      interfaces = all_two (HasKnownInterface (hello_system 1000000)) (value.Ref 1) value.Null tt tt;
      cells = all_two (HasCellsOfClass (hello_system 1000000)) first_object second_object (λ other. refl) (λ other. tt);
      texts = all_two HasUnits first_object second_object (λ same. absurd (no_text same)) (λ same. absurd (no_array same));
      builders = all_two (RefersToText first_core.store) first_object second_object
          (λ same. absurd (no_builder same)) (λ same. absurd (no_array_builder same));
    }

first_instr_is_one : IsInstrOf (hello_system 1000000) first_core first_frame [] (instr 0 0x12 9)
unfolding opened_model
first_instr_is_one =
    record {
      running = refl;
      instruction = record { listed = (0, omega arith, refl); place = refl };
      statics = tt;
    }
