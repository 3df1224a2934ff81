use Rattle.std.proofs.Common.{◌≡◌, ◌∙◌, ◌+◌, ◌-◌, ◌≤◌, ap, arith, length, length-drop, drop, get_or}
use Rattle.std.proofs.Math.Seq.{paste}
use Rattle.std.proofs.lemmas.List.{get_or-drop}
use Rattle.region_bytes.proofs.Splices.{pasted}
use Rattle.memory_space.proofs.cells.move_within.Goals as goal

pub returns : goal.returns
returns c =
    let d = c.args.bytes.now in let n = c.args.count in let s = drop c.args.at d in
    let width : c.args.at + n - c.args.at ≡ n = omega arith in
    let long : n ≤ length s = omega (arith, length-drop c.args.at d, c.requires.from) in
    c.copy_within.ensures.after ∙ ap (paste d c.args.to s) width
    ∙ pasted d c.args.to s n (λ k. get_or d (c.args.at + k) 0) c.requires.to long (λ i l. get_or-drop c.args.at d i 0)
