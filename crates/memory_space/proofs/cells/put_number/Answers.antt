use Rattle.std.proofs.Common.{◌≡◌, ◌∙◌, ◌+◌, ◌-◌, ℕ, List, sym, ap, arith, length, take, get_or}
use Rattle.std.proofs.lemmas.List.{get_or-take, length-take-le}
use Rattle.std.proofs.lemmas.Slice.{put_mid-paste}
use Rattle.std.proofs.lemmas.Int.{to_z-of_z}
use Rattle.std.specs.Int.{cast_unsigned, w32}
use Rattle.jx_base.specs.Basics.{low_byte}
use Rattle.region_bytes.proofs.LowBytes.{low_bytes, width_small}
use Rattle.region_bytes.proofs.Splices.{pasted}
use Rattle.memory_space.proofs.cells.put_number.Goals as goal

pub returns : goal.returns
returns c =
    let d = c.args.bytes.now in let n = c.args.width in let r = c.to_le_bytes-number.result in
    let width : c.args.at + n - c.args.at ≡ n = omega arith in
    let small = width_small n c.requires.width in
    let four : length r ≡ 4 = ap length c.to_le_bytes-number.ensures in
    let size : length (take n r) ≡ n = length-take-le n r (omega (arith, small, four)) in
    put_mid-paste c.args.at (c.args.at + n - c.args.at) d c.copy_from_slice.new.self (take n r) n c.copy_from_slice.ensures.after (omega arith) (sym size)
    ∙ pasted d c.args.at (take n r) n (low_byte c.args.value) c.requires.within (omega (arith, size))
    (λ i l. get_or-take n r i 0 l ∙ ap (λ (bs : List ℕ). get_or bs i 0) c.to_le_bytes-number.ensures
    ∙ low_bytes c.args.value c.cast_unsigned.result i (c.cast_unsigned.ensures ∙ ap (cast_unsigned w32) (to_z-of_z w32 c.args.value c.ranges.value)) (omega (arith, l, small)))
