use Rattle.std.proofs.Common.{◌≡◌, ◌∙◌, refl, sym, ap, subst, ◌+◌, List, [], ◌∷◌, drop, reverse, None, Some, length, arith}
use Rattle.std.specs.Prelude.{if◌then◌else◌}
use Rattle.std.proofs.lemmas.List.{take_all, drop_all, length-reverse}
use Rattle.asm_lines.specs.declared.line.Line.{Line}
use Rattle.asm_lines.specs.declared.line.AsmKind.TheVariants as kind
use Rattle.asm_bodies.specs.Needs.{pool_of}
use Rattle.asm_checks.specs.Faults.{first_fault, fault_or}
use Rattle.asm_checks.specs.Following.{Follows}
use Rattle.asm_checks.proofs.Walk.{past_at, front, back, behind, past_length, pool_grows, passed, stopped, ends_so}
use Rattle.asm_checks.proofs.survey.check.Goals as goal

pub loop-i-init : goal.loop-i-init
unfolding pool_of
loop-i-init c = (c.new-survey.ensures c.args.lines.now, c.new-pool.ensures, refl)

pub loop-i-preserved : goal.loop-i-preserved
loop-i-preserved c =
    let lines = c.args.lines.now in
    let i = c.loop-i.i in
    let l = c.index-lines-i.result in
    let past = past_at lines i in
    let after = drop (i + 1) lines in
    let ahead = front lines i l c.loop-i-test.true c.index-lines-i.is in
    let f : Follows c.loop-i.survey past (l ∷ after) = subst (λ (ls : List Line). Follows c.loop-i.survey past ls) ahead c.loop-i.invariant.0 in
    let pool = pool_grows past l _ _ c.loop-i.invariant.1 c.in_ok-add_needed.ensures in
    let cut = behind lines i in
    let g : Follows c.in_ok-survey-in-None.survey (l ∷ past) after =
    subst (λ (ls : List Line). Follows c.in_ok-survey-in-None.survey (l ∷ past) ls) cut
    (c.in_ok-survey-in-None.ensures past (subst (λ (ls : List Line). Follows c.loop-i.survey past (l ∷ ls)) (sym cut) f)) in
    subst (λ (p : List Line). Follows c.in_ok-survey-in-None.survey p after × (c.add_needed.new.pool ≡ pool_of p) × (first_fault [] lines ≡ first_fault p after))
    (sym (back lines i l c.loop-i-test.true c.index-lines-i.is))
    (g, pool, c.loop-i.invariant.2 ∙ (ap (first_fault past) ahead ∙ passed past l after _ (c.in_ok-kind.ensures past after f pool) c.in-None.is))

pub returns-in-Some : goal.returns-in-Some
returns-in-Some c =
    let lines = c.args.lines.now in
    let i = c.loop-i.i in
    let l = c.index-lines-i.result in
    let past = past_at lines i in
    let after = drop (i + 1) lines in
    let ahead = front lines i l c.loop-i-test.true c.index-lines-i.is in
    let f : Follows c.loop-i.survey past (l ∷ after) = subst (λ (ls : List Line). Follows c.loop-i.survey past ls) ahead c.loop-i.invariant.0 in
    let pool = pool_grows past l _ _ c.loop-i.invariant.1 c.in_ok-add_needed.ensures in
    c.loop-i.invariant.2
    ∙ (ap (first_fault past) ahead
    ∙ stopped past l after _ c.in-Some.kind i (c.in_ok-kind.ensures past after f pool) c.in-Some.is (past_length lines i (omega (arith, c.loop-i-test.true))))

pub returns-then-is_complete : goal.returns-then-is_complete
unfolding fault_or
returns-then-is_complete c =
    let lines = c.args.lines.now in
    let past = past_at lines c.loop-i.i in
    let all : past ≡ reverse lines = ap reverse (take_all c.loop-i.i lines c.loop-i-test.false) in (
      c.loop-i.invariant.2
          ∙ (ap (first_fault past) (drop_all c.loop-i.i lines c.loop-i-test.false)
          ∙ (ends_so past _ c.is_complete.result c.loop-i.invariant.0.last c.is_complete.ensures ∙ rw c.if-is_complete.true refl)),
      c.loop-i.invariant.1 ∙ ap pool_of all,
    )

pub returns-else-is_complete : goal.returns-else-is_complete
unfolding fault_or
returns-else-is_complete c =
    let lines = c.args.lines.now in
    let past = past_at lines c.loop-i.i in
    let all : past ≡ reverse lines = ap reverse (take_all c.loop-i.i lines c.loop-i-test.false) in
    c.loop-i.invariant.2
    ∙ (ap (first_fault past) (drop_all c.loop-i.i lines c.loop-i-test.false)
    ∙ (ends_so past _ c.is_complete.result c.loop-i.invariant.0.last c.is_complete.ensures
    ∙ (ap (λ b. fault_or (length past) (if b then None else Some kind.Place) None) c.if-is_complete.false
    ∙ ap (λ n. Some (n, kind.Place)) (ap length all ∙ length-reverse lines))))
