use Rattle.std.proofs.Common.{◌≡◌, ◌+◌, ◌*◌, ◌-◌, ◌<◌, ap, sym, subst, length, false, ℕ, arith, Option}
use Rattle.std.specs.Prelude.{IfSome}
use Rattle.std.proofs.lemmas.Option.{slice_get-get_or}
use Rattle.memory_space.specs.declared.rows.ExtentRow.{ExtentRow}
use Rattle.memory_space.proofs.extents.cell_of.Goals as goal

pub overflow_add-result : goal.overflow_add-result
overflow_add-result c = omega (arith, c.start.ensures.small, c.ranges.at.fits)

pub returns : goal.returns
returns c =
    let none : ExtentRow = record { at = 0; size = 0; live = false } in
    let below : c.args.extent - 1 < length c.args.rows.now = omega (arith, c.requires.first, c.requires.last) in
    subst (λ (o : Option ExtentRow). IfSome o (λ row. c.start.result + c.args.at ≡ 64 * row.at + c.args.at)) (sym (slice_get-get_or c.args.rows.now (c.args.extent - 1) none below))
    (ap (λ (n : ℕ). n + c.args.at) c.start.ensures.cell)
