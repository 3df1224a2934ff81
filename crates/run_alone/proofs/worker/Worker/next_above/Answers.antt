use Rattle.std.proofs.Common.{◌≡◌, ◌∙◌, ◌+◌, ◌-◌, ◌≤◌, sym, ap, ℕ, suc, arith, Bool, true, false, ◌&&◌}
use Rattle.std.specs.Prelude.{find, nat_lt}
use Rattle.std.specs.List.{range_with_len}
use Rattle.std.proofs.lemmas.Bool.Decides.{nat_tests}
use Rattle.jx_base.specs.Basics.{up_to}
use Rattle.jx_model.specs.Domains.{domains_made}
use Rattle.jx_model.specs.Permits.{can_act}
use Rattle.jx_model.specs.SingleWorker.{next_above}
use Rattle.jx_model.proofs.SmallNumbers.{domains_few}
use Rattle.run_alone.proofs.LastEntries.{fails}
use Rattle.run_alone.specs.Workers.{past_in}
use Rattle.run_alone.proofs.worker.Worker.next_above.Goals.{else-number-above-via-then-number-above+else-can_act, else-number-above-via-else-number-above}
use Rattle.run_alone.proofs.worker.Worker.next_above.Goals as goal

pub overflow_add-number-end : goal.overflow_add-number-end
overflow_add-number-end c =
    let s = c.args.system.now in
    record { fits = omega (arith, domains_few s (past_in c.args.self.now) c.requires.stands.admitted, c.domains-number-end.ensures s c.requires) }

pub loop-number-init : goal.loop-number-init
unfolding next_above up_to
loop-number-init c =
    let past = past_in c.args.self.now in
    let count : domains_made past ≡ c.domains-number-end.result + 1 - 1 = omega (arith, c.domains-number-end.ensures c.args.system.now c.requires) in
    (omega arith, ap (λ (n : ℕ). find (λ (k : ℕ). nat_lt c.args.above k && can_act past k) (range_with_len 1 n)) count)

fails_low : (a k : ℕ) (b : Bool) → k ≤ a → (nat_lt a k && b) ≡ false
fails_low a k b h = grind (arith, nat_tests)

fails_able : (b c : Bool) → c ≡ false → (b && c) ≡ false
fails_able true c h = h
fails_able false c h = cc

pub loop-number-preserved : goal.loop-number-preserved
loop-number-preserved c =
    let past = past_in c.args.self.now in
    let a = c.args.above in
    let k = c.loop-number.number in
    let end = c.domains-number-end.result + 1 in
    let p : ℕ → Bool = λ k. nat_lt a k && can_act past k in
    let more : end - k ≡ suc (end - (k + 1)) = omega (arith, c.loop-number-test.true) in
    let no : p k ≡ false = elim c.else-number-above.branch [
      | else-number-above-via-then-number-above+else-can_act w ↦ fails_able (nat_lt a k) (can_act past k) (sym w.can_act.ensures ∙ w.if-can_act.false)
      | else-number-above-via-else-number-above w ↦ fails_low a k (can_act past k) (omega (arith, w.if-number-above.false))
    ] in
    (omega (arith, c.loop-number-test.true), c.loop-number.invariant.1 ∙ fails p k (end - (k + 1)) (end - k) more no)
