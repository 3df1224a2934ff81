use Rattle.std.proofs.Common.{sym, subst, map, List, arith}
use Rattle.std.proofs.lemmas.List.{take_all}
use Rattle.link_model.specs.declared.uses.Used.{Used}
use Rattle.linker_uses.specs.Constants.{AreMarked}
use Rattle.linker_uses.proofs.MarkLists.{marked_at, none_marked}
use Rattle.linker_uses.proofs.constants.marks_of.Goals as goal

pub loop-used-init : goal.loop-used-init
loop-used-init c = none_marked c.args.count c.in_ok-marks.marks.items (c.in_ok-marks.ensures.items_if_clones_equal (λ y is. is))

pub loop-used-preserved : goal.loop-used-preserved
loop-used-preserved c =
    subst (AreMarked _ c.args.count) (sym c.mark.ensures) (marked_at c.args.uses.now c.loop-used.used-index _ c.args.count c.loop-used.marks.items (omega arith) c.loop-used.invariant)

pub returns : goal.returns
returns c =
    subst (λ (us : List Used). AreMarked (map (λ (u : Used). u.index) us) c.args.count c.loop-used.marks.items)
    (take_all c.loop-used.used-index c.args.uses.now (omega arith)) c.loop-used.invariant
