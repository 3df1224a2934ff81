use Rattle.std.proofs.Common.{arith, sym, ap, ◌∙◌, ◌≡◌, ◌<◌, ◌≤◌, ◌&&◌, Bool, length, get_or, map, [], pos}
use Rattle.std.proofs.lemmas.List.{length-map, get_or-map}
use Rattle.jx_base.specs.declared.program.Field.{Field}
use Rattle.jx_base.specs.declared.value.Word.TheVariants as word
use Rattle.program_model.specs.Parcels.{cell_fits}
use Rattle.param_copy.proofs.FitSteps.{fit_none, fit_more, fit_not, fit_all, fit_lengths}
use Rattle.param_copy.proofs.fitting.fields_fit.Goals as goal

pub returns-then-words-fields : goal.returns-then-words-fields
returns-then-words-fields c =
    let types = map (λ (f : Field). f.descriptor) c.args.fields.now in
    let n : length types ≡ length c.args.fields.now = length-map c.args.fields.now (λ (f : Field). f.descriptor) in
    sym (fit_lengths c.args.system.now c.args.nodes.now c.args.words.now types (λ e. c.if-words-fields.true (e ∙ n)))

pub loop-place-init : goal.loop-place-init
loop-place-init c = fit_none c.args.system.now c.args.nodes.now

pub returns-then-not-cell_fits : goal.returns-then-not-cell_fits
returns-then-not-cell_fits c =
    let words = c.args.words.now in let fields = c.args.fields.now in let i = c.loop-place.place in let types = map (λ (f : Field). f.descriptor) fields in
    let m : i < length fields = omega (arith, c.loop-place-test.true, c.if-words-fields.false) in
    let l : i < length types = omega (arith, m, length-map fields (λ (f : Field). f.descriptor)) in
    let t : get_or types i [] ≡ c.as_slice.result.now = get_or-map (λ (f : Field). f.descriptor) fields i c.index-fields-place.result [] m ∙ sym c.as_slice.ensures in
    let this_word = get_or words i (word.Int (pos 0)) in
    sym (fit_not c.args.system.now c.args.nodes.now words types i (word.Int (pos 0)) [] c.loop-place-test.true l
    (ap (cell_fits c.args.system.now c.args.nodes.now this_word) t ∙ sym c.cell_fits.ensures ∙ c.if-not-cell_fits.true))

pub loop-place-preserved : goal.loop-place-preserved
loop-place-preserved c =
    let words = c.args.words.now in let fields = c.args.fields.now in let i = c.loop-place.place in let types = map (λ (f : Field). f.descriptor) fields in
    let m : i < length fields = omega (arith, c.loop-place-test.true, c.if-words-fields.false) in
    let l : i < length types = omega (arith, m, length-map fields (λ (f : Field). f.descriptor)) in
    let t : get_or types i [] ≡ c.as_slice.result.now = get_or-map (λ (f : Field). f.descriptor) fields i c.index-fields-place.result [] m ∙ sym c.as_slice.ensures in
    let this_word = get_or words i (word.Int (pos 0)) in
    let this = ap (cell_fits c.args.system.now c.args.nodes.now this_word) t ∙ sym c.cell_fits.ensures ∙ c.if-not-cell_fits.false in
    fit_more c.args.system.now c.args.nodes.now words types i (word.Int (pos 0)) [] c.loop-place-test.true l
    ∙ ap (λ (b : Bool). b && cell_fits c.args.system.now c.args.nodes.now this_word (get_or types i [])) c.loop-place.invariant ∙ this

pub returns : goal.returns
returns c =
    let types = map (λ (f : Field). f.descriptor) c.args.fields.now in
    let m : length types ≤ c.loop-place.place = omega (arith, length-map c.args.fields.now (λ (f : Field). f.descriptor), c.if-words-fields.false, c.loop-place-test.false) in
    sym (fit_all c.args.system.now c.args.nodes.now c.args.words.now types c.loop-place.place c.loop-place-test.false m c.loop-place.invariant)
