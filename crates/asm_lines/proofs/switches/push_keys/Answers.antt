use Rattle.std.proofs.Common.{◌≡◌, ◌++◌, ◌∷◌, [], rules}
use Rattle.std.specs.Prelude.{FitsSigned}
use Rattle.std.specs.Int.{w32}
use Rattle.std.proofs.lemmas.Result.{err_from_is_err_and}
use Rattle.std.proofs.lemmas.Int.{to_z-of_z}
use Rattle.asm_lines.specs.declared.line.Operand.TheVariants as operand
use Rattle.asm_lines.specs.Operands.{is_above}
use Rattle.asm_lines.proofs.Targets.{key_goes_on, is_not_above, key_fails, label_fails, are_done, label_is_missing}
use Rattle.asm_lines.proofs.switches.push_keys.Goals as goal

pub returns-in_err-key : goal.returns-in_err-key
returns-in_err-key c =
    let p = err_from_is_err_and c.from_residual.result c.from_residual.ensures.1 in
    rw (p.1, p.2) (key_fails c.loop-rest.operands.items c.loop-rest.before c.loop-rest.rest.now _ c.in_err-key.field-0.0 _ c.in-len2-up.len_at_least c.loop-rest.invariant c.in_err-key.ensures)

pub returns-then-not-is_above : goal.returns-then-not-is_above
returns-then-not-is_above c =
    let f : FitsSigned w32 c.in_ok-key.key = search rules in
    let a : c.is_above.result ≡ is_above c.loop-rest.before c.in_ok-key.key = simp to_z-of_z at c.is_above.ensures in
    is_not_above c.loop-rest.operands.items c.loop-rest.before c.loop-rest.rest.now _ c.in_ok-key.key _ c.in-len2-up.len_at_least c.loop-rest.invariant c.in_ok-key.ensures (cc)

pub returns-in_err-name : goal.returns-in_err-name
returns-in_err-name c =
    let p = err_from_is_err_and c.from_residual-in_err-name.result c.from_residual-in_err-name.ensures.1 in
    let f : FitsSigned w32 c.in_ok-key.key = search rules in
    let a : c.is_above.result ≡ is_above c.loop-rest.before c.in_ok-key.key = simp to_z-of_z at c.is_above.ensures in
    rw (p.1, p.2) (label_fails c.loop-rest.operands.items c.loop-rest.before c.loop-rest.rest.now _ c.in_ok-key.key c.in_err-name.field-0.0 _ c.in-len2-up.len_at_least c.loop-rest.invariant c.in_ok-key.ensures (cc) c.in_err-name.ensures)

pub loop-rest-preserved : goal.loop-rest-preserved
loop-rest-preserved c =
    let key = c.in_ok-key.key in
    let f : FitsSigned w32 key = search rules in
    let a : c.is_above.result ≡ is_above c.loop-rest.before key = simp to_z-of_z at c.is_above.ensures in
    let p : c.push.new.self.items ≡ c.loop-rest.operands.items ++ operand.Int key ∷ [] = simp to_z-of_z at c.in_ok-push.ensures.items in
    let q : c.push-in-len2-up.new.self.items ≡ c.push.new.self.items ++ operand.FarTarget c.in_ok-name.field-0 ∷ [] = c.in_ok-push-2.ensures.items in
    simp (to_z-of_z, q, p) (key_goes_on c.loop-rest.operands.items c.loop-rest.before c.loop-rest.rest.now _ key c.in_ok-name.field-0 _ c.in-len2-up.len_at_least c.loop-rest.invariant c.in_ok-key.ensures (cc) c.in_ok-name.ensures)

pub returns-then-is_empty : goal.returns-then-is_empty
returns-then-is_empty c = are_done c.loop-rest.operands.items c.loop-rest.before c.loop-rest.rest.now _ (cc) c.loop-rest.invariant

pub returns-else-is_empty : goal.returns-else-is_empty
returns-else-is_empty c = label_is_missing c.loop-rest.operands.items c.loop-rest.before c.loop-rest.rest.now _ c.in_default.len_below (cc) c.loop-rest.invariant
