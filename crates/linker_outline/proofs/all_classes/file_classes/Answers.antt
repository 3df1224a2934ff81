use Rattle.std.proofs.Common.{◌∙◌, ◌+◌, [], ◌∷◌, ◌++◌, sym, ap, length, take, arith}
use Rattle.program_model.specs.BuiltIn.{built_in_count}
use Rattle.link_model.specs.Linking.{class_of_file, classes_from}
use Rattle.linker_outline.proofs.Layouts.{built_in_length, few_built_in}
use Rattle.linker_outline.proofs.SourceLists.{next_class}
use Rattle.linker_outline.proofs.all_classes.file_classes.Goals as goal

pub loop-place-init : goal.loop-place-init
unfolding classes_from
loop-place-init c = c.new-classes.ensures.items

pub overflow_cast-number : goal.overflow_cast-number
overflow_cast-number c = omega (arith, ap length c.requires.parts.built_in, few_built_in, c.requires.few, c.loop-place-test.true)

pub loop-place-preserved : goal.loop-place-preserved
loop-place-preserved c =
    let plan = c.args.parts.now.plan.now in
    let files = c.args.parts.now.files.now in
    let place = c.loop-place.place in
    let item = c.index-parts-place.result in
    let front = classes_from plan files built_in_count (take place files) in
    c.in_ok-push.ensures.items
    ∙ ap (λ ks. ks ++ c.in_ok-class_of_file.field-0 ∷ []) c.loop-place.invariant
    ∙ ap (λ k. front ++ k ∷ []) (
    c.in_ok-class_of_file.ensures ∙ ap (class_of_file plan files (length c.args.parts.now.built_in.now + place)) c.file.ensures
    ∙ ap (λ f. class_of_file plan files (length c.args.parts.now.built_in.now + place) f) (sym c.index-parts-place.is)
    ∙ ap (λ n. class_of_file plan files (n + place) item) (ap length c.requires.parts.built_in ∙ built_in_length))
    ∙ sym (next_class plan files built_in_count files place item c.loop-place-test.true c.index-parts-place.is)
