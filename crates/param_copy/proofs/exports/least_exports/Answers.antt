use Rattle.std.proofs.Common.{subst, ap, ◌∙◌, Option, Some, get_or, nat_eq}
use Rattle.std.proofs.lemmas.List.{get_or_default}
use Rattle.indexmap.specs.IndexMap.{Updates}
use Rattle.jx_base.specs.declared.states.Exported.{Exported}
use Rattle.param_copy.specs.Exports.{lesser_of}
use Rattle.param_copy.proofs.LeastExports.{none, leads_nowhere, leads_further}
use Rattle.param_copy.proofs.exports.least_exports.Goals as goal

pub loop-export-init : goal.loop-export-init
loop-export-init c = leads_nowhere c.new-by_object.result c.new-by_object.ensures.empty

pub loop-export-preserved : goal.loop-export-preserved
loop-export-preserved c =
    let old = c.loop-export.by_object in let exports = c.args.exports.now in let i = c.loop-export.export-index in
    let x = get_or exports i none in
    let found = c.lesser.ensures ∙ ap (λ (o : Option Exported). lesser_of o x) (c.copied-earlier.ensures ∙ c.get.ensures.value) in
    leads_further old c.insert.new.self exports i x c.loop-export-test.true (get_or_default exports i none x c.loop-export-test.true) c.loop-export.invariant
    (subst (λ (y : Exported). Updates nat_eq old c.insert.new.self x.object (Some y)) found c.in_ok-insert.ensures.updates)
