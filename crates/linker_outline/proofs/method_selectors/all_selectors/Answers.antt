use Rattle.std.proofs.Common.{◌∙◌, [], ◌++◌, sym, ap, arith}
use Rattle.std.specs.Prelude.{flat_map}
use Rattle.std.proofs.lemmas.List.{append-nil, take_all}
use Rattle.jx_base.specs.Basics.{all_added}
use Rattle.program_model.specs.Lookup.{same_selector}
use Rattle.linker_outline.proofs.SelectorLists.{added_flat, class_selectors, file_selectors, selectors_are}
use Rattle.linker_outline.proofs.method_selectors.all_selectors.Goals as goal

pub loop-class-preserved : goal.loop-class-preserved
loop-class-preserved c =
    c.in_ok-add_of_class.ensures
    ∙ ap (λ xs. all_added same_selector xs (class_selectors c.class-item.result)) c.loop-class.invariant
    ∙ sym (added_flat same_selector class_selectors [] [] c.args.built_in.now c.loop-class.class-index c.class-item.result (omega arith) c.class-item.is)

pub loop-file-init : goal.loop-file-init
loop-file-init c =
    c.loop-class.invariant
    ∙ ap (λ ks. all_added same_selector [] (flat_map class_selectors ks)) (take_all c.loop-class.class-index c.args.built_in.now (omega arith))
    ∙ ap (all_added same_selector []) (sym (append-nil (flat_map class_selectors c.args.built_in.now)))

pub loop-file-preserved : goal.loop-file-preserved
loop-file-preserved c =
    c.in_ok-add_of_file.ensures
    ∙ ap (λ xs. all_added same_selector xs (file_selectors c.file-item.result)) c.loop-file.invariant
    ∙ sym (added_flat same_selector file_selectors [] (flat_map class_selectors c.args.built_in.now) c.args.files.now c.loop-file.file-index c.file-item.result (omega arith) c.file-item.is)

pub returns-clause-selectors : goal.returns-clause-selectors
returns-clause-selectors c =
    c.loop-file.invariant
    ∙ ap (λ fs. all_added same_selector [] (flat_map class_selectors c.args.built_in.now ++ flat_map file_selectors fs)) (take_all c.loop-file.file-index c.args.files.now (omega arith))
    ∙ ap (λ ks. all_added same_selector [] (flat_map class_selectors ks ++ flat_map file_selectors c.args.files.now)) c.requires
    ∙ selectors_are c.args.files.now
