use Rattle.std.proofs.Common.{◌≡◌, Some, rules, ap, ◌∙◌}
use Rattle.std.proofs.lemmas.Int.{to_z-of_z}
use mir.Val.{SFits}
use mir.Syntax.{w128}
use Rattle.asm_words.specs.Numbers.{within}
use Rattle.asm_words.proofs.Magnitudes.{within_capped}
use Rattle.asm_words.proofs.numbers.number.Goals as goal

pub returns-in-Some : goal.returns-in-Some
returns-in-Some c =
    let f : SFits w128 c.in-Some.value = search rules in
    let low = c.ranges.low in let high = c.ranges.high in
    let e : c.narrowed.result ≡ within c.args.low c.args.high (Some c.in-Some.value) = simp to_z-of_z at c.narrowed.ensures in
    e ∙ (ap (within c.args.low c.args.high) c.in-Some.ensures ∙ within_capped c.args.low c.args.high _ low high)

pub returns-in-None : goal.returns-in-None
unfolding within
returns-in-None c = ap (within c.args.low c.args.high) c.in-None.ensures ∙ within_capped c.args.low c.args.high _ c.ranges.low c.ranges.high
