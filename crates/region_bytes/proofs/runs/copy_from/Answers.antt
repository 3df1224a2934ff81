use Rattle.std.proofs.Common.{◌≡◌, ◌∙◌, ◌+◌, ◌-◌, ◌≤◌, ℕ, sym, ap, arith, length, length-drop, drop, take, get_or}
use Rattle.std.proofs.lemmas.List.{get_or-drop, get_or-take, length-take-le}
use Rattle.std.proofs.lemmas.Slice.{put_mid-paste}
use Rattle.region_bytes.proofs.Splices.{pasted}
use Rattle.region_bytes.proofs.runs.copy_from.Goals as goal

pub returns : goal.returns
returns c =
    let d = c.args.bytes.now in let n = c.args.count in let s = drop c.args.at c.args.other.now in
    let width : c.args.at + n - c.args.at ≡ n = omega arith in
    let long : n ≤ length s = omega (arith, length-drop c.args.at c.args.other.now, c.requires.from) in
    let size : length (take n s) ≡ n = length-take-le n s long in
    put_mid-paste c.args.to (c.args.to + n - c.args.to) d c.copy_from_slice.new.self (take n s) n
    (c.copy_from_slice.ensures.after ∙ ap (λ (k : ℕ). take k s) width) (omega arith) (sym size)
    ∙ pasted d c.args.to (take n s) n (λ k. get_or c.args.other.now (c.args.at + k) 0) c.requires.to (omega (arith, size))
    (λ i l. get_or-take n s i 0 l ∙ get_or-drop c.args.at c.args.other.now i 0)
