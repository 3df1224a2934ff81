use Rattle.std.proofs.Common.{true, get_or, ℕ, ◌≡◌, ◌∙◌, ◌+◌, ◌≤◌, sym, ap, arith, length, drop, drop_of_length-le, pos}
use Rattle.std.specs.Prelude.{nat_le}
use Rattle.std.proofs.lemmas.Bool.Decides.{nat_tests}
use Rattle.jx_base.specs.declared.value.Value.TheVariants as value
use Rattle.machine_model.specs.NumericRows.{Locals, set_local, slots_of}
use Rattle.machine_model.specs.State.{locals_with}
use Rattle.interp_obj.proofs.Places.{no_place, one_placed, all_placed, length_set_local}
use Rattle.interp_obj.proofs.entering.put_arguments.Goals as goal

-- what a test says
reached : (n k l : ℕ) → nat_le (n + k) l ≡ true → n + k ≤ l
reached n k l h = grind (arith, nat_tests, h)

pub returns-then-not-has_place : goal.returns-then-not-has_place
returns-then-not-has_place c =
    c.loop-argument.invariant.0
    ∙ no_place c.loop-argument.locals c.loop-argument.place c.args.arguments.now c.loop-argument.argument-index (value.Int (pos 0)) c.loop-argument-test.true
    (sym c.has_place.ensures ∙ c.if-not-has_place.true)

pub loop-argument-preserved : goal.loop-argument-preserved
loop-argument-preserved c =
    let args = c.args.arguments.now in let i = c.loop-argument.argument-index in let locals = c.loop-argument.locals in
    let n = c.loop-argument.place in
    let has = sym c.has_place.ensures ∙ c.if-not-has_place.false in
    let new = c.set_local.ensures in
    let slots = c.slots_of-place.ensures in
    let count = ap length new ∙ length_set_local locals n (get_or args i (value.Int (pos 0))) in (
      c.loop-argument.invariant.0
          ∙ one_placed locals n args i (value.Int (pos 0)) c.loop-argument-test.true has
          ∙ ap (λ (k : ℕ). locals_with (set_local locals n (get_or args i (value.Int (pos 0)))) (n + k) (drop (i + 1) args)) (sym slots)
          ∙ ap (λ (ls : Locals). locals_with ls (n + c.slots_of-place.result) (drop (i + 1) args)) (sym new),
      (count ∙ c.loop-argument.invariant.1.0, omega (arith, count, slots, reached n (slots_of (get_or args i (value.Int (pos 0)))) (length locals) has)),
    )

pub returns : goal.returns
returns c =
    c.loop-argument.invariant.0
    ∙ all_placed c.loop-argument.locals c.loop-argument.place (drop c.loop-argument.argument-index c.args.arguments.now)
    (drop_of_length-le c.args.arguments.now c.loop-argument-test.false)
