-- What a nucleus is seen as, and when it is that of a system.
use Rattle.std.specs.Prelude.{◌≡◌, ◌≤◌, ◌/◌, ℕ, Bool, List, [], is_some, length, map}
use Rattle.jx_base.specs.declared.program.System.{System}
use Rattle.jx_base.specs.Basics.{up_to}
use Rattle.jx_base.specs.Histories.{Past}
use Rattle.program_model.specs.Limits.{domain_limit, journal_limit}
use Rattle.program_model.specs.Plans.{IsPlanInRange}
use Rattle.jx_model.specs.Domains.{end_reason}
use Rattle.jx_model.specs.Permits.{boot_templates}
use Rattle.jx_model.specs.Tables.{Kept, StandsFor}
use Rattle.call_table.specs.CallLists.{CallsState}
use Rattle.portal_table.specs.NameLists.{name_words}
use Rattle.nucleus_tables.specs.CallTables.{AreCallsOf}
use Rattle.nucleus_tables.specs.PlaceLists.{PlacesState}

-- for each number of a domain, whether it has ended
abbrev pub ended_flags : System → Past → List Bool
ended_flags s past = map (λ d. is_some (end_reason past d)) (up_to (domain_limit s))

-- how many calls there may be: each costs 8 words at least
abbrev pub call_limit : System → ℕ
call_limit s = journal_limit s / 8

-- the past with the tables that are kept beside it, the words that the journal may have, how many domains there may be, the templates that are created at the start, which domains have ended, how many services were given threads, the words that names may cost, and the calls with the places of their parcels
pub record NucleusState : Type 0 where
  pub kept : Kept
  pub journal : ℕ
  pub domains : ℕ
  pub boots : List ℕ
  pub ended : List Bool
  pub serving : ℕ
  pub names : ℕ
  pub calls : CallsState
  pub places : PlacesState

-- the nucleus is one of the system, whose plan lies in its ranges: its past is admitted there, its tables are what the past says, its limits are the system's, its names cost no more than its entries, and there are no memory objects and no extents by now
pub record IsNucleusOf (s : System) (x : NucleusState) : Type 0 where
  pub plan : IsPlanInRange s.plan
  pub stands : StandsFor s x.kept
  pub journal : x.journal ≡ journal_limit s
  pub domains : x.domains ≡ domain_limit s
  pub boots : x.boots ≡ boot_templates s
  pub ended : x.ended ≡ ended_flags s x.kept.past
  pub serving : x.serving ≡ length x.kept.services
  pub names : x.names ≡ journal_limit s
  pub cost : name_words x.kept.names ≤ x.kept.words
  pub calls : AreCallsOf x.kept.calls x.calls.calls x.places.places
  pub call_room : x.calls.limit ≡ call_limit s
  pub place_room : x.places.limit ≡ call_limit s
  pub no_objects : x.kept.objects ≡ []
  pub no_extents : x.kept.extents ≡ []
