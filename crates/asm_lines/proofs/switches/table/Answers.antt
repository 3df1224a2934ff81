use Rattle.std.proofs.Common.{rules}
use Rattle.std.specs.Prelude.{FitsSigned}
use Rattle.std.specs.Int.{w32}
use Rattle.std.proofs.lemmas.Int.{to_z-of_z}
use Rattle.asm_lines.proofs.Targets.{is_table}
use Rattle.asm_lines.proofs.switches.table.Goals as goal

pub returns-in_ok-push_targets-in-len3-up : goal.returns-in_ok-push_targets-in-len3-up
returns-in_ok-push_targets-in-len3-up c =
    let low = c.in_ok-low-in-len3-up.low in
    let high = c.in_ok-high-in-len3-up.high in
    let f : FitsSigned w32 low = search rules in
    let g : FitsSigned w32 high = search rules in
    is_table c.args.words.now _ low high _ _ _ _ c.in-len3-up.len_at_least c.in_ok-low-in-len3-up.ensures (simp to_z-of_z at c.in_ok-high-in-len3-up.ensures) (simp to_z-of_z at c.in_ok-operands-in-len3-up.ensures)
    c.in_ok-name-in-len3-up.ensures c.in_ok-push-in-len3-up.ensures.items c.in_ok-push_targets-in-len3-up.ensures
