use Rattle.std.proofs.Common.{rules, of_calls, ◌≡◌, ℕ, ◌≤◌, ◌<◌, true, false, arith}
use Rattle.std.specs.Prelude.{nat_lt}
use Rattle.std.proofs.lemmas.Fn.{always_returns_same}
use Rattle.std.proofs.lemmas.Bool.Decides.{nat_tests}
use Rattle.extent_pool.proofs.hole.holes_before.Goals as goal

rises : (a b at : ℕ) → a ≤ b → nat_lt b at ≡ true → nat_lt a at ≡ true
rises a b at l e = grind (arith, nat_tests)

less : (a at : ℕ) → nat_lt a at ≡ true → a < at
less a at e = grind (arith, nat_tests)

not_less : (a at : ℕ) → nat_lt a at ≡ false → at ≤ a
not_less a at e = grind (arith, nat_tests)

pub returns-clause-before : goal.returns-clause-before
returns-clause-before c = λ k d u v.
    let point = c.partition_point.ensures.partitioned (λ h. nat_lt h.at c.args.at) (always_returns_same _ _ _ (λ a r f k. search (rules, of_calls)))
    (λ i j d l m up. rises _ _ _ (c.requires i j d l m) up) in
    less _ _ (point.0 k d u v)

pub returns-clause-behind : goal.returns-clause-behind
returns-clause-behind c = λ k d u v.
    let point = c.partition_point.ensures.partitioned (λ h. nat_lt h.at c.args.at) (always_returns_same _ _ _ (λ a r f k. search (rules, of_calls)))
    (λ i j d l m up. rises _ _ _ (c.requires i j d l m) up) in
    not_less _ _ (point.1 k d u v)
