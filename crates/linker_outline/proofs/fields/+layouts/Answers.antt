use Rattle.std.proofs.Common.{◌≡◌, ◌∙◌, ◌<◌, ◌≤◌, ◌-◌, ◌++◌, suc, refl, sym, ap, subst, length, slice_get, Some, None, false, IfOk, arith}
use Rattle.std.proofs.lemmas.Bool.{ltb-false, ltb-true}
use Rattle.std.proofs.lemmas.Option.{slice_get_past, slice_get_read}
use Rattle.program_model.specs.BuiltIn.{built_in_table}
use Rattle.link_model.specs.Linking.{layout_within, own_fields}
use Rattle.linker_outline.specs.Fields.{inherited_fields}
use Rattle.linker_outline.proofs.Layouts.{built_in_layout, file_layout, no_layout}
use Rattle.linker_outline.proofs.fields.+layouts.Goals as goal

pub layout_within-returns-in_default-checked_sub :
    goal.layout_within-returns-in_default-checked_sub
layout_within-returns-in_default-checked_sub t c =
    let plan = c.args.parts.now.plan.now in
    let files = c.args.parts.now.files.now in
    let class = c.index-parts-place.result in
    let steps : suc c.in-Some.fewer ≡ c.args.steps = omega (arith, c.in-Some.ensures) in
    let less : c.args.number < length c.args.parts.now.built_in.now = omega (arith, c.in_default-checked_sub.ensures) in
    let there : slice_get built_in_table c.args.number ≡ Some class =
    ap (λ xs. slice_get xs c.args.number) (sym c.requires.built_in)
    ∙ slice_get_read c.args.parts.now.built_in.now (length c.args.parts.now.built_in.now) c.args.number class refl less c.index-parts-place.is in
    let in_table : c.args.number < length built_in_table = subst (λ xs. c.args.number < length xs) c.requires.built_in less in
    subst (λ fs. IfOk c.copy_of.result (λ fields. fields.items ≡ fs))
    (c.as_slice.ensures ∙ ap (λ x. x.fields) (sym c.index-parts-place.is) ∙ sym (built_in_layout plan files c.in-Some.fewer c.args.number class in_table there)
    ∙ ap (λ n. layout_within plan files n c.args.number) steps) c.copy_of.ensures

pub layout_within-returns-in-Some-get : goal.layout_within-returns-in-Some-get
layout_within-returns-in-Some-get t c =
    let plan = c.args.parts.now.plan.now in
    let files = c.args.parts.now.files.now in
    let file = c.in-Some-get.class.now in
    let steps : suc c.in-Some.fewer ≡ c.args.steps = omega (arith, c.in-Some.ensures) in
    let behind : length built_in_table ≤ c.args.number = subst (λ xs. length xs ≤ c.args.number) c.requires.built_in (c.in-Some-checked_sub.ensures.0) in
    let place : c.in-Some-checked_sub.place ≡ c.args.number - length built_in_table = c.in-Some-checked_sub.ensures.1 ∙ ap (λ xs. c.args.number - length xs) c.requires.built_in in
    let got : slice_get files c.in-Some-checked_sub.place ≡ Some file = slice_get_read files (length files) c.in-Some-checked_sub.place file refl (ltb-true c.in-Some-checked_sub.place (length files) (sym c.in-Some-get.ensures.lookup.0)) c.in-Some-get.ensures.lookup.1 in
    let there : slice_get files (c.args.number - length built_in_table) ≡ Some file = ap (slice_get files) (sym place) ∙ got in
    subst (λ fs. IfOk c.file_layout.result (λ fields. fields.items ≡ fs))
    (ap (λ f. inherited_fields plan files c.in-Some.fewer f ++ own_fields false c.args.number f) c.file.ensures
    ∙ sym (file_layout plan files c.in-Some.fewer c.args.number file behind there)
    ∙ ap (λ n. layout_within plan files n c.args.number) steps) c.file_layout.ensures

pub layout_within-returns-in-None : goal.layout_within-returns-in-None
layout_within-returns-in-None t c =
    let plan = c.args.parts.now.plan.now in
    let files = c.args.parts.now.files.now in
    let steps : suc c.in-Some.fewer ≡ c.args.steps = omega (arith, c.in-Some.ensures) in
    let behind : length built_in_table ≤ c.args.number = subst (λ xs. length xs ≤ c.args.number) c.requires.built_in (c.in-Some-checked_sub.ensures.0) in
    let place : c.in-Some-checked_sub.place ≡ c.args.number - length built_in_table = c.in-Some-checked_sub.ensures.1 ∙ ap (λ xs. c.args.number - length xs) c.requires.built_in in
    let none : slice_get files c.in-Some-checked_sub.place ≡ None = slice_get_past files c.in-Some-checked_sub.place (ltb-false c.in-Some-checked_sub.place (length files) (sym c.in-None.ensures.lookup.0)) in
    c.new-in-None.ensures.items
    ∙ sym (no_layout plan files c.in-Some.fewer c.args.number behind (ap (slice_get files) (sym place) ∙ none))
    ∙ ap (λ n. layout_within plan files n c.args.number) steps
