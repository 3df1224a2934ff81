use Rattle.std.proofs.Common.{sym, ap, ◌∙◌, ◌++◌, ◌∷◌, [], append_assoc, get_or, take}
use Rattle.std.proofs.lemmas.List.{take_more}
use Rattle.jx_base.specs.Basics.{firsts}
use Rattle.param_copy.proofs.Visits.{visit_one}
use Rattle.machine_start.proofs.classes.add_classes.Goals as goal

pub loop-class-preserved : goal.loop-class-preserved
loop-class-preserved c = λ mentioned e.
    let classes = c.args.classes.now in
    let i = c.loop-class.class-index in
    let x = get_or classes i 0 in
    c.in_ok-insert.ensures.keys
    ∙ visit_one c.loop-class.met.keys (mentioned ++ take i classes) x (c.loop-class.invariant mentioned e)
    ∙ ap firsts (append_assoc mentioned (take i classes) (x ∷ []) ∙ ap (λ xs. mentioned ++ xs) (sym (take_more classes i 0 c.loop-class-test.true)))
