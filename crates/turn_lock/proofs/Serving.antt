-- What the calls on the lock make of their steps.
use Rattle.std.proofs.Common.{◌≡◌, ℕ, ◌+◌, ◌%◌, sym, subst, refl, ap, ◌∙◌, List, [], ◌∷◌, Some, None}
use mathlib.Core.Option.{none}
use Rattle.atomic_table.specs.Table.{step, rest, Allows}
use Rattle.jx_base.specs.declared.act.Entry.{Entry}
use Rattle.jx_base.specs.declared.program.System.{System}
use Rattle.jx_base.specs.Births.{IsNumbered}
use Rattle.turn_lock.specs.declared.view.Stage.TheVariants.{Waiting, Served}
use Rattle.turn_lock.specs.Entries.{Extends}
use Rattle.turn_lock.specs.Views.{at_stage}
use Rattle.turn_lock.specs.Steps.{word_modulus, Place, IsServed, Looks, PassesOn}
use Rattle.turn_lock.specs.Rule.{IsRuled}
use Rattle.turn_lock.proofs.Steps.{allows_pass_on}

-- a seat whose list has one slot
pub has_slot : {S : Type 0} (c : List (ℕ × S)) (x : S) → c ≡ (0, x) ∷ [] → c ≡ (0, x) ∷ rest c
has_slot {S} c x e = subst (λ (c : List (ℕ × S)). c ≡ (0, x) ∷ rest c) (sym e) refl

module _ {T : Type 0} (system : T → System) (entries : T → List Entry) where
  pub serves : (start me after : Place T) (n found ticket : ℕ) → me ≡ (at_stage start.0 (Waiting n), start.1) → found ≡ ticket → n % word_modulus ≡ ticket → Looks system entries (step 0 1 0 0 none) me found after
      → (n : ℕ) × (x : T) × IsServed system entries start after n x
  serves start me after n found ticket is hit now tells =
      let seen = subst (λ (m : Place T). Looks system entries (step 0 1 0 0 none) m found after) is tells in
      let r = (seen n refl).0 (hit ∙ sym now) in
      (n, r.0, record { seat = r.1.seat; about = r.1.about; later = r.1.later; own = r.1.own; made = r.1.made })

  -- the seat has taken the slot again, and put x into it
  pub passes_after : (key : System) (slots id n : ℕ) (start between me : Place T) (x : T) → between ≡ (at_stage start.0 (Served n), (0, None) ∷ []) → me ≡ (between.0, (0, Some x) ∷ rest between.1)
      → system x ≡ start.0.page.system → Extends start.0.page.seen (entries x) start.0.page.domain → IsNumbered (entries x)
      → Allows (IsRuled system entries key) slots id me 1 (λ k. (k + 1) % word_modulus) (PassesOn entries (step slots 1 1 0 none) me)
  passes_after key slots id n start between me x first second sys more num =
      let whole : me ≡ (at_stage start.0 (Served n), (0, Some x) ∷ []) = second ∙ ap (λ (b : Place T). (b.0, (0, Some x) ∷ rest b.1)) first in
      subst (λ (m : Place T). Allows (IsRuled system entries key) slots id m 1 (λ k. (k + 1) % word_modulus) (PassesOn entries (step slots 1 1 0 none) m)) (sym whole)
      (allows_pass_on system entries key slots id n (at_stage start.0 (Served n), (0, Some x) ∷ []) x refl refl sys more num)
