-- Where classes have their own fields.
use Rattle.std.specs.Prelude.{ℕ, ◌+◌, ◌==◌, ◌&&◌, Bool, List, Option, length, slice_get, sum_by, take}
use Rattle.std.specs.List.{position}
use Rattle.std.specs.Option.{option_and_then, option_map}
use Rattle.jx_base.specs.declared.program.Class.{Class}
use Rattle.jx_base.specs.declared.program.Field.{Field}
use Rattle.jx_base.specs.declared.program.Selector.{Selector}
use Rattle.link_model.specs.Linking.{is_field}

-- the selector of a field
abbrev pub selector_of_field : Field → Selector
selector_of_field f = record { name = f.name; descriptor = f.descriptor }

-- whether it is a field of that name and descriptor which class c itself declares
abbrev pub is_own : Selector → ℕ → Field → Bool
is_own x c f = (f.owner.0 == c) && is_field x f

-- the place in its layout of the field of an instance that class c itself declares
abbrev pub instance_place : Selector → ℕ → Class → Option ℕ
instance_place x c k = position (is_own x c) k.fields

-- how many static fields the classes before class c declare
abbrev pub before : List Class → ℕ → ℕ
before classes c = sum_by (λ k. length k.statics) (take c classes)

-- the place among all static fields of the one that class c declares
abbrev pub static_place : List Class → Selector → ℕ → Class → Option ℕ
static_place classes x c k = option_map (λ i. before classes c + i) (position (is_field x) k.statics)

-- what class c has, where there is such a class
abbrev pub of_class : (ℕ → Class → Option ℕ) → List Class → ℕ → Option ℕ
of_class place classes c = option_and_then (place c) (slice_get classes c)
