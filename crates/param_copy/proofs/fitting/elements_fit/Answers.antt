use Rattle.std.proofs.Common.{arith, sym, ap, ◌∙◌, ◌≡◌, ◌<◌, ◌&&◌, Bool, length, get_or, replicate, [], pos}
use Rattle.std.proofs.lemmas.List.{length-replicate, get_or-replicate}
use Rattle.jx_base.specs.declared.value.Word.TheVariants as word
use Rattle.program_model.specs.Parcels.{cell_fits}
use Rattle.param_copy.proofs.FitSteps.{fit_none, fit_more, fit_not}
use Rattle.param_copy.proofs.fitting.elements_fit.Goals as goal

pub loop-word-init : goal.loop-word-init
loop-word-init c = fit_none c.args.system.now c.args.nodes.now

pub returns-then-not-cell_fits : goal.returns-then-not-cell_fits
returns-then-not-cell_fits c =
    let words = c.args.words.now in let kind = c.args.kind.now in let i = c.loop-word.word-index in let types = replicate (length words) kind in
    let t : get_or types i [] ≡ kind = get_or-replicate (length words) i kind [] c.loop-word-test.true in
    let l : i < length types = omega (arith, length-replicate (length words) kind, c.loop-word-test.true) in
    sym (fit_not c.args.system.now c.args.nodes.now words types i (word.Int (pos 0)) [] c.loop-word-test.true l
    (ap (cell_fits c.args.system.now c.args.nodes.now (get_or words i (word.Int (pos 0)))) t ∙ sym c.cell_fits.ensures ∙ c.if-not-cell_fits.true))

pub loop-word-preserved : goal.loop-word-preserved
loop-word-preserved c =
    let words = c.args.words.now in let kind = c.args.kind.now in let i = c.loop-word.word-index in let types = replicate (length words) kind in
    let t : get_or types i [] ≡ kind = get_or-replicate (length words) i kind [] c.loop-word-test.true in
    let l : i < length types = omega (arith, length-replicate (length words) kind, c.loop-word-test.true) in
    let this = ap (cell_fits c.args.system.now c.args.nodes.now (get_or words i (word.Int (pos 0)))) t ∙ sym c.cell_fits.ensures ∙ c.if-not-cell_fits.false in
    fit_more c.args.system.now c.args.nodes.now words types i (word.Int (pos 0)) [] c.loop-word-test.true l
    ∙ ap (λ (b : Bool). b && cell_fits c.args.system.now c.args.nodes.now (get_or words i (word.Int (pos 0))) (get_or types i [])) c.loop-word.invariant ∙ this
