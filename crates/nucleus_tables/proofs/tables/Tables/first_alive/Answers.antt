use Rattle.std.proofs.Common.{◌≡◌, ◌∙◌, ◌+◌, ◌-◌, sym, ap, ℕ, suc, arith, Some, cond, Bool}
use Rattle.std.specs.Prelude.{find}
use Rattle.std.specs.List.{range_with_len}
use Rattle.jx_base.specs.Basics.{up_to}
use Rattle.jx_model.specs.Domains.{domains_made}
use Rattle.jx_model.specs.Permits.{can_act, first_alive}
use Rattle.nucleus_tables.proofs.DomainReads.{made_count}
use Rattle.nucleus_tables.specs.Inner.{past_in}
use Rattle.nucleus_tables.proofs.tables.Tables.first_alive.Goals as goal

pub loop-number-init : goal.loop-number-init
unfolding first_alive up_to
loop-number-init c =
    let count : domains_made (past_in c.args.self.now) ≡ c.made-number-end.result + 1 - 1 = omega (arith, c.made-number-end.ensures.number, made_count c.args.system.now c.args.self.now c.requires) in
    (omega arith, ap (λ (n : ℕ). find (can_act (past_in c.args.self.now)) (range_with_len 1 n)) count)

pub loop-number-preserved : goal.loop-number-preserved
loop-number-preserved c =
    let past = past_in c.args.self.now in
    let k = c.loop-number.number in
    let end = c.made-number-end.result + 1 in
    let more : end - k ≡ suc (end - (k + 1)) = omega (arith, c.loop-number-test.true) in (
      omega (arith, c.loop-number-test.true),
      c.loop-number.invariant.1
          ∙ ap (λ (n : ℕ). find (can_act past) (range_with_len k n)) more
          ∙ ap (λ (b : Bool). cond b (Some k) (find (can_act past) (range_with_len (k + 1) (end - (k + 1))))) (sym c.can_act.ensures ∙ c.if-can_act.false),
    )
