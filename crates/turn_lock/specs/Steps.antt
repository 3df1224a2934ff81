-- What each step on the table tells of the seat that makes it: of the word that it found, and of the
-- seat before and after. Word 0 is how many tickets were drawn, word 1 how many were served.
use Rattle.std.specs.Prelude.{◌≡◌, ◌≢◌, ℕ, ◌%◌, ◌^◌, List, [], ◌∷◌, Option, Some, None}
use mathlib.Core.List.{IsPrefix}
use Rattle.atomic_table.specs.Table.{Me, Step}
use Rattle.jx_base.specs.declared.act.Entry.{Entry}
use Rattle.jx_base.specs.declared.program.System.{System}
use Rattle.turn_lock.specs.declared.view.Page.{Page}
use Rattle.turn_lock.specs.declared.view.View.{View}
use Rattle.turn_lock.specs.declared.view.Stage.{Stage}
use Rattle.turn_lock.specs.declared.view.Stage.TheVariants.{Waiting, Served, Holding}
use Rattle.jx_base.specs.Histories.{own_entries}
use Rattle.turn_lock.specs.Entries.{IsMade}
use Rattle.turn_lock.specs.Views.{at_stage, served_view, passed_view}

-- words count modulo this
abbrev pub word_modulus : ℕ
word_modulus = 2 ^ 64

-- a seat, with the view of a pass, and the slots that it has taken
abbrev pub Place : Type 0 → Type 0
Place T = Me (Option T) View

-- what a join has shown: both lists begin the one seen now, in which the other's entries are what it made
pub record ShowsJoin (page : Page) : Type 0 where
  pub before : IsPrefix page.seen_before page.seen
  pub other : IsPrefix page.other_seen page.seen
  pub other_own : own_entries page.seen page.other_domain ≡ page.other_made

-- the seat is served, has the slot, and x is in it
pub record IsServed {T : Type 0} (system : T → System) (entries : T → List Entry) (before after : Place T) (ticket : ℕ) (x : T) : Type 0 where
  pub seat : after ≡ (served_view before.0 ticket (entries x), (0, Some x) ∷ [])
  pub about : system x ≡ before.0.page.system
  pub later : IsPrefix before.0.page.seen (entries x)
  pub own : own_entries (entries x) before.0.page.domain ≡ before.0.page.made
  pub made : IsMade (entries x) before.0.page.domain

module _ {T : Type 0} where
  -- the ticket is the number that was found
  abbrev pub Draws : Step (Option T) → Place T → ℕ → Place T → Type 0
  Draws step before found after =
      (ticket : ℕ) × (ticket % word_modulus ≡ found) × (after ≡ (at_stage before.0 (Waiting ticket), before.1))

  -- the seat is served where the number found is its ticket, and else nothing changes
  abbrev pub Looks : (T → System) → (T → List Entry) → Step (Option T) → Place T → ℕ → Place T → Type 0
  Looks system entries step before found after = (ticket : ℕ) → before.0.stage ≡ Waiting ticket
      → (found ≡ ticket % word_modulus → (x : T) × IsServed system entries before after ticket x)
      × (found ≢ ticket % word_modulus → after ≡ before)

  -- the seat goes from one stage to another with its ticket, and then has these slots
  abbrev pub MovesOn : (ℕ → Stage) → (ℕ → Stage) → List (ℕ × Option T) → Place T → Place T → Type 0
  MovesOn from to slots before after =
      (ticket : ℕ) → before.0.stage ≡ from ticket → after ≡ (at_stage before.0 (to ticket), slots)

  -- the slot goes back without the value
  abbrev pub Puts : Step (Option T) → Place T → ℕ → Place T → Type 0
  Puts step before found after = MovesOn Served Holding [] before after

  -- the empty slot is taken again
  abbrev pub Fetches : Step (Option T) → Place T → ℕ → Place T → Type 0
  Fetches step before found after = MovesOn Holding Served ((0, None) ∷ []) before after

  -- the slot goes back with x, and the turn is over
  abbrev pub PassesOn : (T → List Entry) → Step (Option T) → Place T → ℕ → Place T → Type 0
  PassesOn entries step before found after =
      (x : T) → before.1 ≡ (0, Some x) ∷ [] → after ≡ (passed_view before.0 (entries x), [])

  -- nothing changes, and the seat learns what the rule knows of its page
  abbrev pub Learns : Step (Option T) → Place T → ℕ → Place T → Type 0
  Learns step before found after =
      (after ≡ before) × ShowsJoin before.0.page
      × (own_entries before.0.page.seen before.0.page.domain ≡ before.0.page.made)
