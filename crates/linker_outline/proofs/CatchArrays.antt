-- The array classes of what exception tables catch.
use Rattle.std.proofs.Common.{◌≡◌, refl, sym, ap, Bool, true, false, not, ◌==◌, List, [], ◌∷◌, ◌++◌, map, filter, if◌then◌else◌}
use Rattle.std.specs.Prelude.{flat_map}
use Rattle.jx_base.specs.declared.class_file.ClassFile.{ClassFile}
use Rattle.jx_base.specs.declared.class_file.Code.{Code}
use Rattle.jx_base.specs.declared.class_file.Range.{Range}
use Rattle.link_model.specs.ClassFiles.{arrays_of_code, arrays_of_instr, arrays_of_name, catch_uses, class_at_index}
use Rattle.link_model.specs.declared.uses.Use.TheVariants.{AsClass}
use Rattle.link_model.specs.declared.uses.Used.{Used}
use Rattle.program_model.specs.Instructions.{instructions_of}
use Rattle.linker_outline.specs.Catches.{arrays_of_catch}

-- those of the uses of catch types are those of the table
of_ranges : (f : ClassFile) (rs : List Range) → flat_map (λ (u : Used). arrays_of_name (class_at_index f u.index)) (map (λ (r : Range). record { use_of = AsClass; index = r.catch_type }) (filter (λ (r : Range). not (r.catch_type == 0)) rs))
    ≡ flat_map (arrays_of_catch f) rs
of_ranges f [] = refl
of_ranges f (r ∷ rs) = by (r.catch_type == 0) (of_ranges f rs)
  where
    rest : List Range
    rest = filter (λ (r : Range). not (r.catch_type == 0)) rs

    by : (b : Bool) → flat_map (λ (u : Used). arrays_of_name (class_at_index f u.index)) (map (λ (r : Range). record { use_of = AsClass; index = r.catch_type }) rest) ≡ flat_map (arrays_of_catch f) rs
        → flat_map (λ (u : Used). arrays_of_name (class_at_index f u.index)) (map (λ (r : Range). record { use_of = AsClass; index = r.catch_type }) (if not b then r ∷ rest else rest))
        ≡ (if b then [] else arrays_of_name (class_at_index f r.catch_type)) ++ flat_map (arrays_of_catch f) rs
    by true again = again
    by false again = ap (λ xs. arrays_of_name (class_at_index f r.catch_type) ++ xs) again

-- those of the uses of catch types are those of the table
of_table : (f : ClassFile) (c : Code) → flat_map (λ u. arrays_of_name (class_at_index f u.index)) (catch_uses c) ≡ flat_map (arrays_of_catch f) c.table
unfolding catch_uses
of_table f c = of_ranges f c.table

-- the array classes of code are those of its instructions and of its table
pub code_arrays : (f : ClassFile) (c : Code) → flat_map (arrays_of_instr f) (instructions_of c.code) ++ flat_map (arrays_of_catch f) c.table ≡ arrays_of_code f c
unfolding arrays_of_code
code_arrays f c = ap (λ xs. flat_map (arrays_of_instr f) (instructions_of c.code) ++ xs) (sym (of_table f c))
