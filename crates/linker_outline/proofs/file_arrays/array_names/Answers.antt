use Rattle.std.proofs.Common.{◌∙◌, [], ◌∷◌, sym, ap, arith}
use Rattle.std.specs.Prelude.{flat_map}
use Rattle.std.specs.Str.{bytes_eq}
use Rattle.std.proofs.lemmas.List.{take_all}
use Rattle.jx_base.specs.Basics.{all_added}
use Rattle.link_model.specs.ClassFiles.{arrays_of}
use Rattle.linker_outline.proofs.FileArrays.{arrays_are, first_two, memories, strings}
use Rattle.linker_outline.proofs.SelectorLists.{added_flat}
use Rattle.linker_outline.proofs.file_arrays.array_names.Goals as goal

pub loop-class-init : goal.loop-class-init
loop-class-init c =
    first_two c.new-names.result.keys c.insert.new.self.keys c.insert-2.new.self.keys c.in_ok-text_of.field-0 c.in_ok-text_of-2.field-0
    c.new-names.ensures.empty c.in_ok-insert.ensures.keys c.in_ok-insert-2.ensures.keys c.in_ok-text_of.ensures c.in_ok-text_of-2.ensures

pub loop-class-preserved : goal.loop-class-preserved
loop-class-preserved c =
    c.in_ok-add_arrays_of_file.ensures
    ∙ ap (λ xs. all_added bytes_eq xs (arrays_of c.class-item.result)) c.loop-class.invariant
    ∙ sym (added_flat bytes_eq arrays_of (strings ∷ memories ∷ []) [] c.args.files.now c.loop-class.class-index c.class-item.result (omega arith) c.class-item.is)

pub returns : goal.returns
returns c =
    c.loop-class.invariant
    ∙ ap (λ fs. all_added bytes_eq (strings ∷ memories ∷ []) (flat_map arrays_of fs)) (take_all c.loop-class.class-index c.args.files.now (omega arith))
    ∙ arrays_are c.args.plan.now c.args.files.now c.requires
