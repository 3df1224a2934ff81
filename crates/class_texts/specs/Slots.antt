-- The 32-bit slots that a method's arguments take up.
use Rattle.std.specs.Prelude.{ℕ, ◌-◌, ◌^◌, ◌&&◌, ◌==◌, if◌then◌else◌, min, sum_by, codes}
use Rattle.std.specs.List.{list_any}
use Rattle.class_grammar.specs.Descriptors.{Number, Object, FieldType, MethodType}

-- two slots for a long or a double, one for each other value
unfoldable pub slots_of : FieldType → ℕ
slots_of t = elim t.base [ Number letter ↦ if (t.dimensions == 0) && list_any (λ k. k == letter) (codes "JD") then 2 else 1 | Object name ↦ 1 ]

unfoldable pub argument_slots : MethodType → ℕ
argument_slots m = sum_by slots_of m.parameters

-- the number, or the largest of 16 bits where it is larger
abbrev pub capped : ℕ → ℕ
capped n = min n (2 ^ 16 - 1)
