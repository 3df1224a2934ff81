use Rattle.std.proofs.Common.{◌≡◌, ◌∙◌, ◌++◌, ◌+◌, [], refl, sym, ap, List, length, map, arith}
use Rattle.std.proofs.lemmas.List.{append-nil, take_all}
use Rattle.jx_base.specs.declared.class_file.ClassFile.{ClassFile}
use Rattle.program_model.specs.BuiltIn.{built_in_table}
use Rattle.link_model.specs.Linking.{built_in_sources_from, file_sources_from, linked_method, sources}
use Rattle.linker_outline.proofs.Layouts.{built_in_length, few_built_in}
use Rattle.linker_outline.proofs.SourceLists.{linked_next, more_classes, more_files, no_classes, no_files, of_class, of_file}
use Rattle.linker_outline.proofs.methods.all_methods.Goals as goal

pub loop-place-init : goal.loop-place-init
loop-place-init c = c.new-methods.ensures.items ∙ ap (map (linked_method c.args.selectors.now)) (sym (no_classes 0))

pub overflow_cast-id : goal.overflow_cast-id
overflow_cast-id c = omega (arith, ap length c.requires.built_in, few_built_in, c.loop-place-test.true)

pub loop-place-preserved : goal.loop-place-preserved
loop-place-preserved c =
    c.in_ok-push_of_class.ensures
    ∙ ap (λ ms. ms ++ map (linked_method c.args.selectors.now) (of_class c.loop-place.place c.index-built_in-place.result)) c.loop-place.invariant
    ∙ sym (linked_next of_class built_in_sources_from no_classes more_classes (linked_method c.args.selectors.now) [] 0 c.args.built_in.now c.loop-place.place c.loop-place.place
    c.index-built_in-place.result (omega arith) c.index-built_in-place.is (omega arith))

pub loop-place-2-init : goal.loop-place-2-init
loop-place-2-init c =
    c.loop-place.invariant
    ∙ ap (λ ks. map (linked_method c.args.selectors.now) (built_in_sources_from 0 ks)) (take_all c.loop-place.place c.args.built_in.now (omega arith))
    ∙ ap (map (linked_method c.args.selectors.now))
    (sym (append-nil (built_in_sources_from 0 c.args.built_in.now)) ∙ ap (λ xs. built_in_sources_from 0 c.args.built_in.now ++ xs) (sym (no_files (length c.args.built_in.now))))

pub overflow_cast-id-in-loop-place-2 : goal.overflow_cast-id-in-loop-place-2
overflow_cast-id-in-loop-place-2 c = omega (arith, ap length c.requires.built_in, few_built_in, c.requires.few, c.loop-place-2-test.true)

pub loop-place-2-preserved : goal.loop-place-2-preserved
loop-place-2-preserved c =
    c.in_ok-push_of_file.ensures
    ∙ ap (λ ms. ms ++ map (linked_method c.args.selectors.now) (of_file (length c.args.built_in.now + c.loop-place-2.place) c.index-files-place.result)) c.loop-place-2.invariant
    ∙ sym (linked_next of_file file_sources_from no_files more_files (linked_method c.args.selectors.now) (built_in_sources_from 0 c.args.built_in.now)
    (length c.args.built_in.now) c.args.files.now c.loop-place-2.place (length c.args.built_in.now + c.loop-place-2.place) c.index-files-place.result (omega arith) c.index-files-place.is refl)

-- the methods of the built-in classes and of the files are all methods
all_are : (files : List ClassFile) → built_in_sources_from 0 built_in_table ++ file_sources_from (length built_in_table) files ≡ sources files
unfolding sources
all_are files = ap (λ n. built_in_sources_from 0 built_in_table ++ file_sources_from n files) built_in_length

pub returns : goal.returns
returns c =
    c.loop-place-2.invariant
    ∙ ap (λ fs. map (linked_method c.args.selectors.now) (built_in_sources_from 0 c.args.built_in.now ++ file_sources_from (length c.args.built_in.now) fs))
    (take_all c.loop-place-2.place c.args.files.now (omega arith))
    ∙ ap (λ ks. map (linked_method c.args.selectors.now) (built_in_sources_from 0 ks ++ file_sources_from (length ks) c.args.files.now)) c.requires.built_in
    ∙ ap (map (linked_method c.args.selectors.now)) (all_are c.args.files.now)
