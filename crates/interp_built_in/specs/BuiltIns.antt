-- What the cases of built-in methods do.
use Rattle.std.specs.Prelude.{◌≡◌, codes, ℤ, ℕ, List, [], ◌∷◌, Some, None}
use Rattle.jx_base.specs.declared.act.Act.{Act}
use Rattle.jx_base.specs.declared.act.Act.TheVariants as act
use Rattle.jx_base.specs.declared.ids.ObjectId.{ObjectId}
use Rattle.jx_base.specs.declared.value.Value.{Value}
use Rattle.jx_base.specs.declared.value.Value.TheVariants as value
use Rattle.program_model.specs.BuiltIn.{string_class}
use Rattle.machine_model.specs.BuiltInMethods as Spec
use Rattle.machine_model.specs.BuiltInMethods.{BuiltInOutcome, Effect}
use Rattle.machine_model.specs.Conditions.{IsTextIfObject}
use Rattle.machine_model.specs.State.{Store, new_object, with_cell}
use Rattle.interp_built_in.specs.declared.built_in.Appended.{Appended}
use Rattle.interp_built_in.specs.declared.built_in.Appended.TheVariants as appended
use Rattle.interp_built_in.specs.declared.built_in.BuiltIn.{BuiltIn}
use Rattle.interp_built_in.specs.declared.built_in.BuiltIn.TheVariants as built_in
use Rattle.interp_built_in.specs.declared.built_in.TextAct.{TextAct}
use Rattle.interp_built_in.specs.declared.built_in.TextAct.TheVariants as text_act
use Rattle.interp_built_in.specs.declared.built_in.IntAct.{IntAct}
use Rattle.interp_built_in.specs.declared.built_in.IntAct.TheVariants as int_act
use Rattle.interp_built_in.specs.declared.built_in.MemoryAct.{MemoryAct}
use Rattle.interp_built_in.specs.declared.built_in.MemoryAct.TheVariants as memory_act
use Rattle.interp_built_in.specs.declared.built_in.PlaceAct.{PlaceAct}
use Rattle.interp_built_in.specs.declared.built_in.PlaceAct.TheVariants as place_act
use Rattle.interp_built_in.specs.declared.built_in.RangeAct.{RangeAct}
use Rattle.interp_built_in.specs.declared.built_in.RangeAct.TheVariants as range_act

-- the units that are appended for a value
abbrev pub appended_units : Appended → Store → Value → List ℕ
appended_units appended.Text = Spec.appended_text
appended_units appended.Number = Spec.appended_number
appended_units appended.Unit = Spec.appended_unit
appended_units appended.Bool = Spec.appended_bool

-- a StringBuilder's text becomes a new String of these cells, where it has room
abbrev pub text_set : Store → ℕ → List Value → BuiltInOutcome
text_set store b cells =
    elim (new_object store string_class cells) [
      | None ↦ Spec.HasNoRoom
      | Some x ↦ Spec.result_value (with_cell x.0 b 0 (value.Ref x.1)) (value.Ref b)
    ]

-- the act of a text
abbrev pub act_of_text : TextAct → List ℕ → Act
act_of_text text_act.Print t = act.Print t
act_of_text text_act.Spawn t = act.Spawn t

-- the act of an int
abbrev pub act_of_int : IntAct → ℤ → Act
act_of_int int_act.Alloc n = act.Alloc n
act_of_int int_act.Kill n = act.Kill n
act_of_int int_act.Exit n = act.Exit n

-- the act on a memory object
abbrev pub act_on_memory : MemoryAct → ObjectId → Act
act_on_memory memory_act.Size m = act.Size m
act_on_memory memory_act.Revoke m = act.Revoke m
act_on_memory memory_act.Release m = act.Release m

-- the act at a place of a memory object
abbrev pub act_at_place : PlaceAct → ObjectId → ℤ → Act
act_at_place (place_act.Get width) m at = act.Get m at width
act_at_place place_act.Split m at = act.Split m at

-- the act at a place of a memory object, with an int more
abbrev pub act_over_range : RangeAct → ObjectId → ℤ → ℤ → Act
act_over_range (range_act.Set width) m at n = act.Set m at width n
act_over_range range_act.Sub m at n = act.Sub m at n

-- what a built-in method does
unfoldable pub effect_of : BuiltIn → Effect
effect_of built_in.Construct = Spec.constructor
effect_of built_in.IsSame = Spec.identity_test
effect_of built_in.SetMessage = Spec.message_constructor
effect_of built_in.FirstCell = Spec.first_cell
effect_of built_in.Length = Spec.text_length
effect_of built_in.CharAt = Spec.text_unit
effect_of built_in.EqualsText = Spec.text_test
effect_of built_in.HashCode = Spec.text_hash
effect_of built_in.Concat = Spec.text_concatenation
effect_of built_in.MakeBuilder = Spec.builder_constructor
effect_of (built_in.Append a) = Spec.append_of (appended_units a)
effect_of (built_in.OfText a) = Spec.text_act (act_of_text a)
effect_of built_in.Export = Spec.export
effect_of built_in.Bind = Spec.bind
effect_of built_in.Lookup = Spec.lookup
effect_of (built_in.OfInt a) = Spec.int_act (act_of_int a)
effect_of built_in.Pause = Spec.pause
effect_of (built_in.OfMemory a) = Spec.memory_act (act_on_memory a)
effect_of (built_in.AtPlace a) = Spec.memory_int_act (act_at_place a)
effect_of (built_in.OverRange a) = Spec.memory_ints_act (act_over_range a)
effect_of built_in.Fill = Spec.fill
effect_of built_in.Copy = Spec.copy

-- a text that an act takes is a String, where it is an object
abbrev pub HasTexts : BuiltIn → Store → List Value → Type 0
HasTexts (built_in.OfText a) store (v ∷ []) = IsTextIfObject store v
HasTexts built_in.Lookup store (v ∷ []) = IsTextIfObject store v
HasTexts built_in.Bind store (v ∷ p ∷ []) = IsTextIfObject store v
HasTexts built_in.Export store (o ∷ v ∷ n ∷ []) = IsTextIfObject store v
HasTexts _ store args = Unit {0}

-- the type of a String
abbrev pub text_type : List ℕ
text_type = codes "Ljava/lang/String;"

-- the types of the parameters, where one is a text that an act takes
abbrev pub HasParameters : BuiltIn → List (List ℕ) → Type 0
HasParameters (built_in.OfText a) types = types ≡ text_type ∷ []
HasParameters built_in.Lookup types = types ≡ text_type ∷ []
HasParameters built_in.Bind types = types ≡ text_type ∷ codes "Ljx/Portal;" ∷ []
HasParameters built_in.Export types = types ≡ codes "Ljava/lang/Object;" ∷ text_type ∷ codes "I" ∷ []
HasParameters _ types = Unit {0}
