-- Texts and the cells that hold them.
use Rattle.std.proofs.Common.{◌≡◌, refl, sym, ◌∙◌, ap, ℕ, ◌<◌, ◌≤◌, List, [], length, arith, All, ℤ, pos, negsuc, Option, Some, None, slice_get, subst}
use Rattle.std.proofs.lemmas.List.{length-map}
use Rattle.jx_base.specs.declared.value.Value.{Value}
use Rattle.jx_base.specs.declared.value.Value.TheVariants as value
use Rattle.machine_model.specs.BuiltInMethods.{unit_of}
use Rattle.std.specs.Option.{option_map}
use Rattle.std.proofs.lemmas.Option.{slice_get_within, get_or_from_slice_get}
use Rattle.program_model.specs.BuiltIn.{string_class}
use Rattle.std.specs.Prelude.{codes}
use Rattle.program_model.specs.Arithmetic.{low_char}
use Rattle.program_model.specs.Types.{cut_to_type}
use Rattle.machine_laws.specs.Values.{cell_limit}
use Rattle.machine_laws.proofs.Ranges.{low_char_is}
use Rattle.program_model.specs.Parcels.{HeapObject}
use Rattle.machine_model.specs.Conditions.{IsUnit, HasUnits}
use Rattle.machine_model.specs.State.{Store, cells_of, class_of_object}
use Rattle.jx_base.specs.Basics.{not_below_zero}

pub ruleset lengths = (length-map)

-- the unit of a cell of a String has sixteen bits
pub unit_small : (v : Value) → IsUnit v → unit_of v < 65536
unfolding unit_of not_below_zero
unit_small (value.Int (pos n)) h = h
unit_small (value.Int (negsuc n)) h = absurd h
unit_small (value.Long n) h = absurd h
unit_small value.Null h = absurd h
unit_small (value.Ref r) h = absurd h
unit_small (value.Portal k c) h = absurd h
unit_small (value.Mem m) h = absurd h

-- the cells of a String are units
pub units_of_text : (store : Store) (r : ℕ) → All HasUnits store.objects → class_of_object store r ≡ Some string_class → All IsUnit (cells_of store r)
unfolding cells_of class_of_object
units_of_text store r h e = by (slice_get store.objects r) refl e
  where
    by : (x : Option HeapObject) → slice_get store.objects r ≡ x → option_map (λ (o : HeapObject). o.class.0) x ≡ Some string_class →
        All IsUnit (elim x as (λ _. List Value) [ None ↦ [] | Some o ↦ o.cells ])
    by None e q = cc
    by (Some o) e q =
        let p : o.class.0 ≡ string_class = cc in
        let i = h r o (slice_get_within store.objects r o e) in
        subst (λ (o : HeapObject). HasUnits o) (get_or_from_slice_get store.objects r o o e) i p

pub char_not_below : (n : ℤ) → cut_to_type (codes "C") n ≡ pos (not_below_zero (cut_to_type (codes "C") n))
unfolding cut_to_type not_below_zero
char_not_below n = let x = low_char_is n in let e : low_char n ≡ pos x.0 = x.1 in e ∙ ap (λ (z : ℤ). pos (not_below_zero z)) (sym e)

-- where no object has more cells than a heap, those of one are as few
pub few_cells : (store : Store) (r : ℕ) → All (λ o. length o.cells ≤ cell_limit) store.objects → length (cells_of store r) ≤ cell_limit
unfolding cells_of
few_cells store r h = by (slice_get store.objects r) refl
  where
    by : (x : Option HeapObject) → slice_get store.objects r ≡ x → length (elim x as (λ _. List Value) [ None ↦ [] | Some o ↦ o.cells ]) ≤ cell_limit
    by None e = omega arith
    by (Some o) e = subst (λ (o : HeapObject). length o.cells ≤ cell_limit) (get_or_from_slice_get store.objects r o o e) (h r o (slice_get_within store.objects r o e))
