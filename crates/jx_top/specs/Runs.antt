-- What a run of the system that the files give comes to: its end, or an act that has no code by now.
use Rattle.std.specs.Prelude.{◌≡◌, ◌-◌, ℕ, List, length, Option, Some, slice_get}
use Rattle.std.specs.Option.{option_and_then}
use Rattle.jx_base.specs.Files.{Files}
use Rattle.jx_base.specs.declared.act.Act.{Act}
use Rattle.jx_base.specs.declared.act.Entry.{Entry}
use Rattle.jx_base.specs.declared.act.History.{History}
use Rattle.jx_base.specs.declared.program.System.{System}
use Rattle.jx_model.specs.SingleWorker.{IsSingleWorkerHistory}
use Rattle.program_model.specs.Lookup.{template_at}
use Rattle.supported_acts.specs.SupportedActs.{HasSupportedActs, LacksCode}
use Rattle.jx_top.specs.Systems.{IsSystemOf}

-- the last entry is of that act
pub record EndsBy (history : History) (a : Act) : Type 0 where
  pub last : Entry
  pub is_last : slice_get history.entries (length history.entries - 1) ≡ Some last
  pub act : last.act ≡ a

-- the history of one worker of the system has only acts with code, and that act ends it
pub record RunsTo (s : System) (ending : Act) : Type 0 where
  pub history : History
  pub complete : IsSingleWorkerHistory s history
  pub supported : HasSupportedActs history
  pub ends : EndsBy history ending

-- the main class of the domains of that template
unfoldable pub main_class : System → ℕ → Option (List ℕ)
main_class s t = option_and_then (λ x. slice_get s.plan.classes x.main) (template_at s t)

-- one worker comes to an act without code, of a domain whose main class has that name
pub record LacksAct (s : System) (name : List ℕ) : Type 0 where
  pub template : ℕ
  pub lacks : LacksCode s template
  pub main : main_class s template ≡ Some name

-- the file gives a system of which that holds
pub record GivesOne (files : Files) (file : List ℕ) (P : System → Type 0) : Type 0 where
  pub system : System
  pub of_file : IsSystemOf files file system
  pub holds : P system
