-- What is told of a descriptor: whether a float or a double stands in it, the slots that it takes up, and what stands behind it.
use Rattle.std.specs.Prelude.{◌≡◌, ℕ, ◌+◌, Bool, false, ◌||◌, List, [], ◌∷◌, Option, Some, None, ◌==◌, if◌then◌else◌, option_map, length, sum_by}
use Rattle.std.specs.List.{list_any}
use Rattle.class_grammar.specs.Descriptors.{Base, Number, FieldType, closing, MethodType, is_floating, has_floating, types_at, result_of, with_result}
use Rattle.class_texts.specs.Slots.{slots_of, argument_slots, capped}
use Rattle.class_texts.specs.declared.descriptors.Tally.{Tally}

-- a float or a double stands in one of two, and the slots of both
abbrev pub joined : Tally → Tally → Tally
joined a b = record { floating = a.floating || b.floating; slots = capped (a.slots + b.slots) }

abbrev pub tally_of : FieldType → Tally
tally_of t = record { floating = is_floating t; slots = slots_of t }

abbrev pub number_type : ℕ → ℕ → FieldType
number_type n letter = record { dimensions = n; base = Number letter }

abbrev pub object_tally : Tally
object_tally = record { floating = false; slots = 1 }

abbrev pub tally_of_types : List FieldType → Tally
tally_of_types ts = record { floating = list_any is_floating ts; slots = capped (sum_by slots_of ts) }

-- of the slots, those of the arguments
abbrev pub tally_of_method : MethodType → Tally
tally_of_method m = record { floating = has_floating m; slots = capped (argument_slots m) }

-- a base under so many dimensions
abbrev pub of_base : ℕ → Option (Base × List ℕ) → Option (Tally × List ℕ)
of_base n read = option_map (λ x. (tally_of (record { dimensions = n; base = x.0 }), x.1)) read

abbrev pub of_type : Option (FieldType × List ℕ) → Option (Tally × List ℕ)
of_type read = option_map (λ x. (tally_of x.0, x.1)) read

abbrev pub of_types : Option (List FieldType × List ℕ) → Option (Tally × List ℕ)
of_types read = option_map (λ x. (tally_of_types x.0, x.1)) read

-- what stands behind a closing parenthesis
unfoldable pub after_closing : List ℕ → Option (List ℕ)
after_closing [] = None
after_closing (u ∷ units) = if u == closing then Some units else None

-- parameters, a closing parenthesis and a result
unfoldable pub signature_of : List ℕ → Option MethodType
signature_of units = elim (types_at (length units) units) [ None ↦ None | Some x ↦ with_result x.0 (result_of x.1) ]

-- the answer is that of the test on the value that there is, or there is none
abbrev pub TellsOf : {A : Type 0} → (A → Bool) → Option A → Option Bool → Type 0
TellsOf test value (Some b) = (x : _) × (value ≡ Some x) × (b ≡ test x)
TellsOf test value None = value ≡ None
