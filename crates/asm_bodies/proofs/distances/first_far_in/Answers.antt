use Rattle.std.proofs.Common.{◌≡◌, ◌∙◌, Option, ℕ}
use Rattle.std.proofs.lemmas.Result.{IfOk-weaker}
use Rattle.asm_bodies.specs.Bodies.{first_far_from, first_far_in}
use Rattle.asm_bodies.proofs.FarLines.{in_body}
use Rattle.asm_bodies.proofs.distances.first_far_in.Goals as goal

pub returns-clause-place : goal.returns-clause-place
returns-clause-place c =
    let marks = c.in_ok-marks_of.field-0 in
    let body = c.args.body.now in
    IfOk-weaker c.first_far_from-2.result (λ (place : Option ℕ). place ≡ first_far_from marks 0 body) (λ (place : Option ℕ). place ≡ first_far_in body)
    (λ place is. is ∙ in_body marks body c.in_ok-marks_of.ensures) c.first_far_from-2.ensures.place
