-- The views of passes, before and after each step.
use Rattle.std.specs.Prelude.{ℕ, ◌+◌, ◌==◌, Bool, true, false, ◌&&◌, List, [], length, nat_le, if◌then◌else◌, unwrap_or}
use Rattle.jx_base.specs.declared.act.Entry.{Entry}
use Rattle.jx_base.specs.declared.program.System.{System}
use Rattle.turn_lock.specs.declared.view.Page.{Page}
use Rattle.turn_lock.specs.declared.view.View.{View}
use Rattle.turn_lock.specs.declared.view.Stage.{Stage}
use Rattle.turn_lock.specs.declared.view.Stage.TheVariants.{Idle, Served}
use Rattle.jx_base.specs.Histories.{own_entries}
use Rattle.turn_lock.specs.Entries.{last_born}

-- the system of a page that nobody has
unfoldable pub no_system : System
no_system = record {
  plan = record { granules = 0; journal = 0; templates = []; classes = [] };
  program = record { classes = []; methods = []; selectors = [] };
}

-- a page that has no join to tell of
abbrev pub page_of : System → ℕ → List Entry → List Entry → Bool → Page
page_of system domain seen made parted = record {
  system = system;
  domain = domain;
  seen = seen;
  made = made;
  parted = parted;
  spent = false;
  seen_before = seen;
  other_seen = seen;
  other_domain = domain;
  other_made = made;
}

-- Domain Zero's view, when the lock is opened
abbrev pub first_view : System → View
first_view system = record { page = page_of system 0 [] [] false; turns = 0; stage = Idle }

-- the view at another stage
abbrev pub at_stage : View → Stage → View
at_stage view stage = record { page = view.page; turns = view.turns; stage = stage }

-- the view that is served: it has then seen these entries
abbrev pub served_view : View → ℕ → List Entry → View
served_view view ticket seen = record {
  page = page_of view.page.system view.page.domain seen view.page.made view.page.parted;
  turns = view.turns + 1;
  stage = Served ticket;
}

-- whether a pass stays parted when its list becomes this one: it does where nothing is added
abbrev pub stays_parted : Bool → List Entry → List Entry → Bool
stays_parted parted before after = (length after == length before) && parted

-- the view after its turn, in which its list became this one
abbrev pub passed_view : View → List Entry → View
passed_view view seen = record {
  page = page_of view.page.system view.page.domain seen (own_entries seen view.page.domain)
      (stays_parted view.page.parted view.page.seen seen);
  turns = view.turns;
  stage = Idle;
}

-- a view after a pass was split from it
abbrev pub left_view : View → View
left_view view = record {
  page = page_of view.page.system view.page.domain view.page.seen view.page.made true;
  turns = view.turns;
  stage = view.stage;
}

-- the view of a new pass, for a domain of which there is no entry
abbrev pub new_view : Page → ℕ → View
new_view page domain = record {
  page = page_of page.system domain page.seen [] false;
  turns = 0;
  stage = Idle;
}

-- the view that is split off, for the domain that the last entry made
abbrev pub right_view : View → View
right_view view = new_view view.page (unwrap_or (last_born view.page.made) 0)

-- the longer list
abbrev pub longer : List Entry → List Entry → List Entry
longer xs ys = if nat_le (length xs) (length ys) then ys else xs

-- a view after the other was joined into it
abbrev pub joined_view : View → View → View
joined_view view other = record {
  page = record {
    system = view.page.system;
    domain = view.page.domain;
    seen = longer view.page.seen other.page.seen;
    made = view.page.made;
    parted = view.page.parted;
    spent = false;
    seen_before = view.page.seen;
    other_seen = other.page.seen;
    other_domain = other.page.domain;
    other_made = other.page.made;
  };
  turns = view.turns;
  stage = view.stage;
}

-- the view of a pass that was joined into another
abbrev pub spent_view : View
spent_view = record {
  page = record {
    system = no_system;
    domain = 0;
    seen = [];
    made = [];
    parted = false;
    spent = true;
    seen_before = [];
    other_seen = [];
    other_domain = 0;
    other_made = [];
  };
  turns = 0;
  stage = Idle;
}
