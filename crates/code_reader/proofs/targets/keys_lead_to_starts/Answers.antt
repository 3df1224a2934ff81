use Rattle.std.proofs.Common.{◌≡◌, true, false, sym, ◌∙◌, ap, refl, pos, get_or, rules}
use Rattle.std.specs.Prelude.{FitsSigned}
use Rattle.std.specs.Int.{w32}
use Rattle.std.proofs.lemmas.Int.{to_z-of_z}
use Rattle.code_reader.specs.CodeReading.{is_marked}
use Rattle.code_reader.proofs.KeyTargets.{leads_on, leads_away, leads_nowhere}
use Rattle.code_reader.proofs.targets.keys_lead_to_starts.Goals as goal

pub returns-then-not-is_start : goal.returns-then-not-is_start
returns-then-not-is_start c =
    let m = is_marked c.args.starts.now in
    let f : FitsSigned w32 c.number_at.result = search rules in
    let e : false ≡ m c.number_at.result = simp to_z-of_z at c.if-not-is_start.ensures in
    let away : m (get_or c.loop-rest.rest.now 1 (pos 0)) ≡ false = ap m (sym c.number_at.ensures) ∙ sym e in
    sym (leads_away m c.loop-rest.rest.now c.loop-rest-test.true away) ∙ c.loop-rest.invariant

pub loop-rest-preserved : goal.loop-rest-preserved
loop-rest-preserved c =
    let m = is_marked c.args.starts.now in
    let f : FitsSigned w32 c.number_at.result = search rules in
    let e : true ≡ m c.number_at.result = simp to_z-of_z at c.if-not-is_start.ensures in
    let on : m (get_or c.loop-rest.rest.now 1 (pos 0)) ≡ true = ap m (sym c.number_at.ensures) ∙ sym e in
    leads_on m c.loop-rest.rest.now _ _ refl c.loop-rest-test.true on c.loop-rest.invariant

pub returns : goal.returns
returns c = sym (leads_nowhere (is_marked c.args.starts.now) c.loop-rest.rest.now c.loop-rest-test.false) ∙ c.loop-rest.invariant
