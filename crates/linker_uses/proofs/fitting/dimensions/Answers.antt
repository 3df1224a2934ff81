use Rattle.std.proofs.Common.{◌≡◌, ◌+◌, ◌<◌, ◌==◌, suc, sym, ap, length, drop, arith}
use Rattle.std.proofs.lemmas.Bool.{ltb-false, ltb-true}
use Rattle.link_model.specs.LinkFaults.{dimensions_of}
use Rattle.linker_outline.proofs.ArrayNames.{dimension_more, dimension_other, dimension_end, not_same}
use Rattle.linker_uses.proofs.fitting.dimensions.Goals as goal

pub loop-unit-preserved : goal.loop-unit-preserved
loop-unit-preserved c =
    let class = c.args.class.now in
    let within : c.loop-unit.count < length class = ltb-true c.loop-unit.count (length class) (sym c.in-Some.ensures.lookup.0) in
    let more : dimensions_of (drop c.loop-unit.count class) ≡ suc (dimensions_of (drop (c.loop-unit.count + 1) class)) =
    dimension_more class c.loop-unit.count c.in-Some.unit.now within c.in-Some.ensures.lookup.1 (ap (λ x. x == 91) c.if-unit-ne-MARK.false) in
    (omega (arith, within), omega (arith, c.loop-unit.invariant.1, more))

pub returns-then-unit-ne-MARK-clause-count : goal.returns-then-unit-ne-MARK-clause-count
returns-then-unit-ne-MARK-clause-count c =
    let class = c.args.class.now in
    let within : c.loop-unit.count < length class = ltb-true c.loop-unit.count (length class) (sym c.in-Some.ensures.lookup.0) in
    let none : dimensions_of (drop c.loop-unit.count class) ≡ 0 =
    dimension_other class c.loop-unit.count c.in-Some.unit.now within c.in-Some.ensures.lookup.1 (not_same c.in-Some.unit.now 91 c.if-unit-ne-MARK.true) in
    omega (arith, c.loop-unit.invariant.1, none)

pub returns-in_default-clause-count : goal.returns-in_default-clause-count
returns-in_default-clause-count c =
    let class = c.args.class.now in
    let none : dimensions_of (drop c.loop-unit.count class) ≡ 0 =
    dimension_end class c.loop-unit.count (ltb-false c.loop-unit.count (length class) (sym c.in_default.ensures.lookup.0)) in
    omega (arith, c.loop-unit.invariant.1, none)
