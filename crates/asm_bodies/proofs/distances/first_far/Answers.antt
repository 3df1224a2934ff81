use Rattle.std.proofs.Common.{◌≡◌, ◌∙◌, ◌+◌, sym, ap, drop, arith, Some, None}
use Rattle.std.proofs.lemmas.Slice.{between_to_end}
use Rattle.asm_bodies.specs.Bodies.{body_of, first_far_in}
use Rattle.asm_bodies.proofs.FarLines.{no_method, near_body, far_body, all_passed}
use Rattle.asm_bodies.proofs.distances.first_far.Goals as goal
use Rattle.asm_bodies.proofs.distances.first_far.Goals.{then-is_method+in_ok-place+in_default, else-is_method}

pub returns-in-Some : goal.returns-in-Some
returns-in-Some c =
    let lines = c.args.lines.now in
    let body = c.body_of.ensures.body ∙ ap body_of (between_to_end lines (c.loop-i.i + 1) _ (omega arith)) in
    let far : Some c.in-Some.place ≡ first_far_in (body_of (drop (c.loop-i.i + 1) lines)) =
    sym c.in-Some.is ∙ (c.in_ok-place.ensures.place ∙ ap first_far_in body) in
    far_body lines c.loop-i.i c.index-lines-i.result c.in-Some.place c.loop-i-test.true c.index-lines-i.is (sym c.is_method.ensures ∙ c.if-is_method.true) far c.loop-i.invariant

pub loop-i-preserved : goal.loop-i-preserved
loop-i-preserved c =
    let lines = c.args.lines.now in
    elim c.if-is_method.branch [
      | then-is_method+in_ok-place+in_default w ↦
          let body = w.body_of.ensures.body ∙ ap body_of (between_to_end lines (c.loop-i.i + 1) _ (omega arith)) in
          let near : None ≡ first_far_in (body_of (drop (c.loop-i.i + 1) lines)) =
          sym w.in_default.is ∙ (w.in_ok-place.ensures.place ∙ ap first_far_in body) in
          near_body lines c.loop-i.i c.index-lines-i.result c.loop-i-test.true c.index-lines-i.is (sym c.is_method.ensures ∙ w.if-is_method.true) near c.loop-i.invariant
      | else-is_method w ↦
          no_method lines c.loop-i.i c.index-lines-i.result c.loop-i-test.true c.index-lines-i.is (sym c.is_method.ensures ∙ w.if-is_method.false) c.loop-i.invariant
    ]

pub returns : goal.returns
returns c = all_passed c.args.lines.now c.loop-i.i c.loop-i-test.false c.loop-i.invariant
