use Rattle.std.proofs.Common.{◌∙◌, ◌∷◌, [], ◌++◌, ap, sym, length, map, arith}
use Rattle.std.proofs.lemmas.List.FromFn.{map-range_with_len_more}
use Rattle.std.specs.List.{range_with_len}
use Rattle.jx_base.specs.Basics.{contains_number}
use Rattle.linker_lists.proofs.template_classes.are_listed.Goals as goal

pub overflow_cast-place : goal.overflow_cast-place
overflow_cast-place c = omega (arith, c.requires.few, c.loop-place-test.true, ap length c.as_slice-place-end.ensures)

pub loop-place-preserved : goal.loop-place-preserved
loop-place-preserved c =
    let listed = c.args.template.now.classes in
    c.in_ok-push.ensures.items
    ∙ ap (λ xs. xs ++ c.is_listed.result ∷ []) c.loop-place.invariant
    ∙ ap (λ b. map (contains_number listed) (range_with_len 0 c.loop-place.place) ++ b ∷ []) c.is_listed.ensures
    ∙ sym (map-range_with_len_more (contains_number listed) 0 c.loop-place.place c.loop-place.place (omega arith))
