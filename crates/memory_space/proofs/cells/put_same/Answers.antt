use Rattle.std.proofs.Common.{◌≡◌, ◌∙◌, ◌+◌, ◌-◌, ◌≤◌, ℕ, sym, ap, arith, length, length-drop, drop, take, replicate}
use Rattle.std.proofs.lemmas.List.{get_or-replicate, length-replicate, length-take-le}
use Rattle.std.proofs.lemmas.Slice.{put_mid-paste}
use Rattle.region_bytes.proofs.Splices.{pasted}
use Rattle.memory_space.proofs.cells.put_same.Goals as goal

pub returns : goal.returns
returns c =
    let d = c.args.bytes.now in let n = c.args.count in let s = replicate n c.args.byte in
    let width : c.args.at + n - c.args.at ≡ n = omega arith in
    let long : n ≤ length (drop c.args.at d) = omega (arith, length-drop c.args.at d, c.requires) in
    let size = ap (λ (k : ℕ). length (take k (drop c.args.at d))) width ∙ length-take-le n (drop c.args.at d) long in
    put_mid-paste c.args.at (c.args.at + n - c.args.at) d c.fill.new.self s n
    (c.fill.ensures.after (λ y e. e) ∙ ap (λ (k : ℕ). replicate k c.args.byte) size) (omega arith) (sym (length-replicate n c.args.byte))
    ∙ pasted d c.args.at s n (λ _. c.args.byte) c.requires (omega (arith, length-replicate n c.args.byte)) (λ i l. get_or-replicate n i c.args.byte 0 l)
