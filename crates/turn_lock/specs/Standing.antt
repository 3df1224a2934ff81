-- What contracts see of a lock and of a pass.
use Rattle.std.specs.Prelude.{◌≡◌, ℕ, ◌+◌, Bool, true, false, List, [], ◌∷◌, ◌++◌, length, drop}
use mathlib.Core.List.{IsPrefix}
use Rattle.atomic_table.specs.Seated.{TableId}
use Rattle.jx_base.specs.declared.act.Entry.{Entry}
use Rattle.jx_base.specs.declared.program.System.{System}
use Rattle.turn_lock.specs.declared.view.View.{View}
use Rattle.turn_lock.specs.declared.view.Stage.{Stage}
use Rattle.turn_lock.specs.declared.view.Stage.TheVariants.{Idle, Waiting, Served, Holding}
use Rattle.jx_base.specs.Histories.{own_entries}
use Rattle.turn_lock.specs.Views.{no_system, stays_parted, longer}

-- which lock it is, and for which system
pub record Lock : Type 0 where
  pub id : TableId
  pub system : System

-- a pass: its lock, its domain, what it has seen and made, whether a pass was split from it since its
-- last entry, how often it was served, and whether it holds the turn
pub record Standing : Type 0 where
  pub lock : Lock
  pub domain : ℕ
  pub seen : List Entry
  pub made : List Entry
  pub parted : Bool
  pub turns : ℕ
  pub holds : Bool

-- the pass's calls stand in what it has seen just as it made them, each once
abbrev pub SeesOwn : Standing → Type 0
SeesOwn pass = own_entries pass.seen pass.domain ≡ pass.made

-- the stage of a pass that has the value
abbrev pub is_holding : Stage → Bool
is_holding Idle = false
is_holding (Waiting n) = false
is_holding (Served n) = false
is_holding (Holding n) = true

-- the pass with this view
abbrev pub standing_of : TableId → View → Standing
standing_of id view = record {
  lock = record { id = id; system = view.page.system };
  domain = view.page.domain;
  seen = view.page.seen;
  made = view.page.made;
  parted = view.page.parted;
  turns = view.turns;
  holds = is_holding view.stage;
}

-- the pass of a badge, which has one view
abbrev pub standing : TableId → List View → Standing
standing id [] = record {
  lock = record { id = id; system = no_system };
  domain = 0;
  seen = [];
  made = [];
  parted = false;
  turns = 0;
  holds = false;
}
standing id (view ∷ views) = standing_of id view

-- the pass waits for no turn: it has one, or wants none
abbrev pub IsRested : Stage → Type 0
IsRested Idle = Unit {0}
IsRested (Waiting n) = ⊥
IsRested (Served n) = ⊥
IsRested (Holding n) = Unit {0}

-- the fields of a pass: its domain, and how many entries it has made and seen
pub record IsKept (view : View) (domain made seen : ℕ) : Type 0 where
  pub live : view.page.spent ≡ false
  pub rested : IsRested view.stage
  pub domain_is : view.page.domain ≡ domain
  pub made_is : length view.page.made ≡ made
  pub seen_is : length view.page.seen ≡ seen
  pub own : own_entries view.page.seen view.page.domain ≡ view.page.made

-- the pass of a new lock, which is Domain Zero's
abbrev pub first_standing : Lock → Standing
first_standing lock = record {
  lock = lock;
  domain = 0;
  seen = [];
  made = [];
  parted = false;
  turns = 0;
  holds = false;
}

-- a pass after another was split from it
abbrev pub parted_from : Standing → Standing
parted_from pass = record {
  lock = pass.lock;
  domain = pass.domain;
  seen = pass.seen;
  made = pass.made;
  parted = true;
  turns = pass.turns;
  holds = pass.holds;
}

-- the pass that was split off: it has seen the same and made nothing
abbrev pub part_of : Standing → ℕ → Standing
part_of pass domain = record {
  lock = pass.lock;
  domain = domain;
  seen = pass.seen;
  made = [];
  parted = false;
  turns = 0;
  holds = false;
}

-- a turn begins: the pass then holds it, and has seen what the value lists
pub record IsTaken (before after : Standing) : Type 0 where
  pub lock : after.lock ≡ before.lock
  pub domain : after.domain ≡ before.domain
  pub made : after.made ≡ before.made
  pub parted : after.parted ≡ before.parted
  pub turns : after.turns ≡ before.turns + 1
  pub holds : after.holds ≡ true
  pub later : IsPrefix before.seen after.seen
  pub own : SeesOwn after

-- a turn ends, in which the list became this one: what was added to it is added to what the pass made
pub record IsGiven (before after : Standing) (entries : List Entry) : Type 0 where
  pub lock : after.lock ≡ before.lock
  pub domain : after.domain ≡ before.domain
  pub turns : after.turns ≡ before.turns
  pub holds : after.holds ≡ false
  pub seen : after.seen ≡ entries
  pub made : after.made ≡ before.made ++ drop (length before.seen) entries
  pub parted : after.parted ≡ stays_parted before.parted before.seen entries
  pub own : SeesOwn after

-- another pass was joined into this one, which then has seen the longer of the two lists
pub record IsJoined (before other after : Standing) : Type 0 where
  pub lock : after.lock ≡ before.lock
  pub domain : after.domain ≡ before.domain
  pub made : after.made ≡ before.made
  pub parted : after.parted ≡ before.parted
  pub turns : after.turns ≡ before.turns
  pub holds : after.holds ≡ false
  pub seen : after.seen ≡ longer before.seen other.seen
  pub later : IsPrefix before.seen after.seen
  pub later_than_other : IsPrefix other.seen after.seen
  pub own : SeesOwn after
  pub other_own : own_entries after.seen other.domain ≡ other.made
