-- What the outline of a plan and its class files gives, as the crates above need it.
use Rattle.std.proofs.Common.{◌≡◌, ◌∙◌, refl, ap, take, ◌++◌, List, length, map, append_assoc, ℕ, arith}
use Rattle.std.proofs.lemmas.List.{take-append-le, take_all}
use Rattle.jx_base.specs.declared.class_file.ClassFile.{ClassFile}
use Rattle.jx_base.specs.declared.program.Plan.{Plan}
use Rattle.link_model.specs.Linking.{array_class_named, array_names, classes_from, linked_classes, linked_system, outline}
use Rattle.linker_outline.proofs.Layouts.{built_in_length}
use Rattle.linker_uses.specs.BuiltInFirst.{HasBuiltIns}
use Rattle.linker_uses.specs.Systems.{with_all_meanings}
use Rattle.program_model.specs.BuiltIn.{built_in_count, built_in_table}

-- a list before another one
front : {A : Type 0} (xs ys : List A) (n : ℕ) → length xs ≡ n → take n (xs ++ ys) ≡ xs
front xs ys n e = take-append-le n xs ys (omega (arith, e)) ∙ take_all n xs (omega (arith, e))

-- its first classes are the built-in ones
pub outline_has_built_ins : (plan : Plan) (files : List ClassFile) → HasBuiltIns (outline plan files)
unfolding outline linked_classes
outline_has_built_ins plan files =
    let own = classes_from plan files built_in_count files in
    let arrays = map array_class_named (array_names plan files) in
    record {
      first = ap (take built_in_count) (append_assoc built_in_table own arrays) ∙ front built_in_table (own ++ arrays) built_in_count built_in_length;
    }

-- with what its constants mean, it is the linked system
pub outline_with_meanings : (plan : Plan) (files : List ClassFile) → with_all_meanings (outline plan files) files ≡ linked_system plan files
unfolding linked_system
outline_with_meanings plan files = refl
