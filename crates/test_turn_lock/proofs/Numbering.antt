-- A plain list stays numbered, and what a turn that added to it leaves of the pass.
use Rattle.std.proofs.Common.{◌≡◌, ◌≢◌, ℕ, ◌+◌, ◌<◌, List, [], ◌∷◌, ◌++◌, length, Some, None, false, ap, sym, ◌∙◌, subst, arith, length-append}
use Rattle.std.specs.List.{All, Contains}
use Rattle.std.proofs.lemmas.List.Elements.{All-push, All-contains, All-weaker}
use Rattle.jx_base.specs.declared.act.Entry.{Entry}
use Rattle.jx_base.specs.Births.{answered_domain, answered_domains}
use Rattle.turn_lock.specs.Entries.{last_born}
use Rattle.turn_lock.specs.Standing.{Standing, IsGiven}
use Rattle.turn_lock.proofs.Births.{answered_domains-push_none, answered_domains-push_some, IsNumbered-push_none, IsNumbered-push_some}
use Rattle.turn_lock.proofs.Standings.{born_now, given_made}
use Rattle.test_turn_lock.specs.ListState.{ListState, HasNumbers, IsAdded}

pub numbers_without : (es : List Entry) (e : Entry) (n : ℕ) → HasNumbers es n → answered_domain e ≡ None → length es < 1000 → HasNumbers (es ++ e ∷ []) n
numbers_without es e n h none lt =
    let longer = length-append es (e ∷ []) in
    record {
      numbered = IsNumbered-push_none es e h.numbered none;
      below = subst (All (λ domain. domain < n)) (sym (answered_domains-push_none es e none)) h.below;
      positive = h.positive;
      small = omega (arith, h.small, longer);
      room = omega (arith, lt, longer);
    }

pub numbers_with : (es : List Entry) (e : Entry) (n : ℕ) → HasNumbers es n → answered_domain e ≡ Some n → length es < 1000 → HasNumbers (es ++ e ∷ []) (n + 1)
numbers_with es e n h some lt =
    let longer = length-append es (e ∷ []) in
    let positive = h.positive in
    let new : (m : ℕ) → Contains (answered_domains es) m → m ≢ n = λ m c is. let lt : m < n = All-contains (λ domain. domain < n) (answered_domains es) m h.below c in omega arith in
    record {
      numbered = IsNumbered-push_some es e n h.numbered some (λ is. omega arith) new;
      below = subst (All (λ domain. domain < n + 1)) (sym (answered_domains-push_some es e n some))
          (All-push (λ domain. domain < n + 1) (answered_domains es) n (All-weaker (λ domain. domain < n) (λ domain. domain < n + 1) (λ domain lt. omega arith) (answered_domains es) h.below) (omega arith));
      positive = omega arith;
      small = omega (arith, h.small, longer);
      room = omega (arith, lt, longer);
    }

-- what a pass made in the turn in which this was added
pub added_born : (before after : Standing) (list list' : ListState) (d born : ℕ) → list.entries ≡ before.seen → IsAdded list list' d (Some born) → IsGiven before after list'.entries
    → (last_born after.made ≡ Some born) × (after.parted ≡ false)
added_born before after list list' d born seen added given = born_now before after list'.entries added.entry born (added.entries ∙ ap (λ (es : List Entry). es ++ added.entry ∷ []) seen) added.makes given

pub added_made : (before after : Standing) (list list' : ListState) (d born : ℕ) → list.entries ≡ before.seen → IsAdded list list' d (Some born) → IsGiven before after list'.entries
    → length after.made ≡ length before.made + 1
added_made before after list list' d born seen added given =
    let is = given_made before after list'.entries added.entry (added.entries ∙ ap (λ (es : List Entry). es ++ added.entry ∷ []) seen) given in
    omega (arith, ap length is, length-append before.made (added.entry ∷ []))
