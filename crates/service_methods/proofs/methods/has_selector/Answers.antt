use Rattle.std.proofs.Common.{◌≡◌, ◌∙◌, ◌+◌, ◌-◌, sym, ap, ℕ, suc, arith, Bool, ◌||◌, length}
use Rattle.std.specs.List.{list_any, range_with_len}
use Rattle.service_methods.specs.Methods.{offers}
use Rattle.service_methods.proofs.methods.has_selector.Goals as goal

pub loop-class-preserved : goal.loop-class-preserved
loop-class-preserved c =
    let p = offers c.args.system.now c.args.interface c.args.selector.now in
    let k = c.loop-class.class in
    let end = length c.as_slice-classes.result.now in
    let more : end - k ≡ suc (end - (k + 1)) = omega (arith, c.loop-class-test.true) in (
      omega (arith, c.loop-class-test.true),
      c.loop-class.invariant.1
          ∙ ap (λ (n : ℕ). list_any p (range_with_len k n)) more
          ∙ ap (λ (b : Bool). b || list_any p (range_with_len (k + 1) (end - (k + 1)))) (sym c.is_offered.ensures ∙ c.if-is_offered.false),
    )
