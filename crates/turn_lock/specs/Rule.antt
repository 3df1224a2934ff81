-- The rule of the lock, which holds between any two steps. The history is the list of the value as it
-- was last passed on.
use Rattle.std.specs.Prelude.{◌≡◌, ℕ, ◌%◌, ◌<◌, ◌≤◌, ◌^◌, false, List, [], ◌∷◌, take, slice_get, Some, None}
use Rattle.std.specs.Prelude as std
use mathlib.Core.Option.{Option, none, some}
use mathlib.Core.List.{IsPrefix}
use lib.ListN.{get_elem?}
use Rattle.atomic_table.specs.Table.{State}
use Rattle.jx_base.specs.declared.act.Entry.{Entry}
use Rattle.jx_base.specs.declared.program.System.{System}
use Rattle.jx_base.specs.Births.{IsNumbered}
use Rattle.turn_lock.specs.declared.view.Page.{Page}
use Rattle.turn_lock.specs.declared.view.View.{View}
use Rattle.turn_lock.specs.declared.view.Stage.{Stage}
use Rattle.turn_lock.specs.declared.view.Stage.TheVariants.{Idle, Waiting, Served, Holding}
use Rattle.jx_base.specs.Histories.{own_entries}
use Rattle.turn_lock.specs.Entries.{last_born, IsMade}
use Rattle.turn_lock.specs.Steps.{word_modulus, ShowsJoin}

-- where the value is: in the slot; out, with the slot at a seat; out, with the slot back
pub data Phase : Type 0 where
  home : Phase
  away : Phase
  bare : Phase

module _ (key : System) (history : List Entry) (seat_of : ℕ → ℕ) where
  -- what the page of the seat says is so. `seat_of` gives each domain its one seat
  pub record PageFits (seat : ℕ) (page : Page) : Type 0 where
    pub about : page.system ≡ key
    pub seen : IsPrefix page.seen history
    pub made : own_entries history page.domain ≡ page.made
    pub own : own_entries page.seen page.domain ≡ page.made
    pub alone : seat_of page.domain ≡ seat
    pub small : page.domain < 2 ^ 32
    pub born : IsMade history page.domain
    pub join : ShowsJoin page

  -- the pages of all passes that are not spent. Where the last entry of a pass made a domain, and no pass
  -- was split from it since, no entry and no pass has that domain
  pub record PagesFit (views : List View) : Type 0 where
    pub fits : (seat : ℕ) (view : View) → get_elem? views seat ≡ some view
        → view.page.spent ≡ false → PageFits seat view.page
    pub fresh : (seat : ℕ) (view : View) (domain : ℕ) → get_elem? views seat ≡ some view
        → view.page.spent ≡ false → view.page.parted ≡ false → last_born view.page.made ≡ Some domain
        → own_entries history domain ≡ []
    pub apart : (seat another : ℕ) (view other : View) → get_elem? views seat ≡ some view
        → get_elem? views another ≡ some other → view.page.spent ≡ false → other.page.spent ≡ false
        → view.page.parted ≡ false
        → last_born view.page.made ≡ Some other.page.domain → ⊥
    pub numbered : IsNumbered history
    pub rooted : (place : ℕ) (entry : Entry) → slice_get history place ≡ Some entry
        → IsMade (take place history) entry.domain.0

-- a pass at this stage has the ticket
abbrev pub HasTicket : ℕ → Stage → Type 0
HasTicket ticket Idle = ⊥
HasTicket ticket (Waiting n) = n ≡ ticket
HasTicket ticket (Served n) = n ≡ ticket
HasTicket ticket (Holding n) = n ≡ ticket

module _ (drawn served : ℕ) (owner : ℕ → ℕ) (phase : Phase) (history : List Entry) where
  -- the ticket of the stage is out, and its one owner is the seat. The one that is served has seen the history
  abbrev pub StageFits : ℕ → Page → Stage → Type 0
  StageFits seat page Idle = Unit {0}
  StageFits seat page (Waiting n) =
      (owner n ≡ seat) × (page.spent ≡ false) × (served ≤ n) × (n < drawn) × (n ≡ served → phase ≡ home)
  StageFits seat page (Served n) =
      (owner n ≡ seat) × (page.spent ≡ false) × (n ≡ served) × (served < drawn) × (phase ≡ away)
      × (page.seen ≡ history)
  StageFits seat page (Holding n) =
      (owner n ≡ seat) × (page.spent ≡ false) × (n ≡ served) × (served < drawn) × (phase ≡ bare)
      × (page.seen ≡ history)

  -- the tickets out are the numbers from `served` up to the one before `drawn`, each with one pass. Where
  -- none is out, the value is in the slot
  pub record TicketsFit (views : List View) : Type 0 where
    pub order : served ≤ drawn
    pub quiet : drawn ≡ served → phase ≡ home
    pub stages : (seat : ℕ) (view : View) → get_elem? views seat ≡ some view
        → StageFits seat view.page view.stage
    pub held : (ticket : ℕ) → served ≤ ticket → ticket < drawn
        → (view : View) × (get_elem? views (owner ticket) ≡ some view) × HasTicket ticket view.stage

module _ {T : Type 0} (system : T → System) (entries : T → List Entry) (key : System) where
  -- at home the slot has a value with the lock's system, whose list is the history
  abbrev pub SlotFits : List (Option (std.Option T)) → List Entry → Phase → Type 0
  SlotFits homes history home =
      (x : T) × (homes ≡ some (Some x) ∷ []) × (system x ≡ key) × (entries x ≡ history)
  SlotFits homes history away = homes ≡ none ∷ []
  SlotFits homes history bare = homes ≡ some None ∷ []

  -- the rule of a lock for the system `key`. Both words count modulo 2^64
  pub record IsRuled (state : State (std.Option T) View) : Type 0 where
    pub drawn : ℕ
    pub served : ℕ
    pub owner : ℕ → ℕ
    pub phase : Phase
    pub history : List Entry
    pub seat_of : ℕ → ℕ
    pub words : state.words ≡ drawn % word_modulus ∷ served % word_modulus ∷ []
    pub slot : SlotFits state.homes history phase
    pub tickets : TicketsFit drawn served owner phase history state.views
    pub pages : PagesFit key history seat_of state.views
