-- What a step of the nucleus does, by its answer.
use Rattle.std.specs.Prelude.{◌≡◌, ◌⊎◌, ◌∷◌, ℕ, true, false, Some}
use Rattle.jx_base.specs.declared.act.Act.{Act}
use Rattle.jx_base.specs.declared.act.Act.TheVariants as act
use Rattle.jx_base.specs.declared.act.Entry.{Entry}
use Rattle.jx_base.specs.declared.act.Reply.{Reply}
use Rattle.jx_base.specs.declared.act.Reply.TheVariants as reply
use Rattle.jx_base.specs.declared.ids.DomainId.{DomainId}
use Rattle.jx_base.specs.declared.program.System.{System}
use Rattle.jx_base.specs.declared.states.Why.{Why}
use Rattle.jx_base.specs.Histories.{Past}
use Rattle.jx_model.specs.Domains.{end_reason, is_birth, is_live, is_made}
use Rattle.jx_model.specs.Journal.{is_full, words_of}
use Rattle.jx_model.specs.Legal.{IsNext}
use Rattle.jx_model.specs.Permits.{is_halt, is_over}
use Rattle.jx_model.specs.WellMade.{IsWellMade}
use Rattle.jx_model.specs.WhyNot.{CanBeAsked, why_not}
use Rattle.table_threads.specs.CallChanges.{entry}
use Rattle.nucleus_tables.specs.NucleusStates.{NucleusState, IsNucleusOf}
use Rattle.nucleus_tables.specs.declared.step.Ending.{Ending}
use Rattle.nucleus_tables.specs.declared.step.Ending.TheVariants as ending
use Rattle.nucleus_tables.specs.declared.step.Step.{Step}
use Rattle.nucleus_tables.specs.declared.step.Step.TheVariants as step

-- the nucleus enters the act: any but those on memory objects, a spawn and a kill
abbrev pub HasEntry : Act → Type 0
HasEntry (act.Alloc n) = ⊥
HasEntry (act.Size m) = ⊥
HasEntry (act.Get m at width) = ⊥
HasEntry (act.Set m at width v) = ⊥
HasEntry (act.Fill m at count b) = ⊥
HasEntry (act.Copy m at k k_at count) = ⊥
HasEntry (act.Sub m at count) = ⊥
HasEntry (act.Split m at) = ⊥
HasEntry (act.Revoke m) = ⊥
HasEntry (act.Release m) = ⊥
HasEntry (act.Spawn name) = ⊥
HasEntry (act.Kill k) = ⊥
HasEntry _ = Unit {0}

-- the reply to the act may be a copy of a parcel, which takes memory
abbrev pub TakesMemory : Act → Type 0
TakesMemory (act.Take c) = Unit {0}
TakesMemory (act.Resume c) = Unit {0}
TakesMemory _ = ⊥

-- the act may be asked for: of Domain Zero or of a domain that was made, well made, and one that the nucleus enters
pub record MayCome (s : System) (past : Past) (d : ℕ) (a : Act) : Type 0 where
  pub domain : (d ≡ 0) ⊎ (is_made past d ≡ true)
  pub well_made : IsWellMade s past a
  pub has_entry : HasEntry a

-- ---- an entry was made

-- the entry stands behind the others, and the nucleus is still the system's
pub record IsEntered (s : System) (old new : NucleusState) (e : Entry) : Type 0 where
  pub next : IsNext s old.kept.past e
  pub past : new.kept.past ≡ e ∷ old.kept.past
  pub nucleus : IsNucleusOf s new

-- the reply is that domain
abbrev pub IsDomain : Reply → DomainId → Type 0
IsDomain (reply.Domain d g) j = d ≡ j
IsDomain _ j = ⊥

-- ---- none was, and nothing has changed

-- what has ended is that
abbrev pub IsOver : Past → ℕ → Ending → Type 0
IsOver past d ending.Run = is_over past ≡ true
IsOver past d (ending.Domain why) = (is_over past ≡ false) × (end_reason past d ≡ Some why)

-- the journal is full, with so many words, and the act is no halt; nothing has ended
pub record IsFull (s : System) (past : Past) (d : ℕ) (a : Act) (words : ℕ) : Type 0 where
  pub going : is_over past ≡ false
  pub actor : (d ≡ 0) ⊎ (is_live past d ≡ true)
  pub full : is_full s past ≡ true
  pub no_halt : is_halt a ≡ false
  pub words_are : words ≡ words_of past

-- the act may not come now, for that reason; nothing has ended, and the journal has room or the act is a halt
pub record IsRefused (s : System) (past : Past) (d : ℕ) (a : Act) (why : Why) : Type 0 where
  pub asked : CanBeAsked s past d a
  pub reason : why_not s past d a ≡ Some why

-- ---- each answer

-- why no entry was made
abbrev pub IsRefusal : System → Past → ℕ → Act → Step → Type 0
IsRefusal s past d a (step.Over x) = IsOver past d x
IsRefusal s past d a (step.Full words) = IsFull s past d a words
IsRefusal s past d a (step.NotNow why) = IsRefused s past d a why
IsRefusal s past d a step.OutOfMemory = TakesMemory a
IsRefusal s past d a _ = ⊥

-- the entry of the act was made, with that reply, or nothing has changed, and why
abbrev pub IsStepped : System → NucleusState → NucleusState → ℕ → Act → Step → Type 0
IsStepped s old new d a (step.Replied t r) =
    IsEntered s old new (entry d t.0 a r) × (is_birth (entry d t.0 a r) ≡ false)
IsStepped s old new d a (step.Born t r j) = IsEntered s old new (entry d t.0 a r) × IsDomain r j × (is_birth (entry d t.0 a r) ≡ true)
IsStepped s old new d a answer = (new ≡ old) × IsRefusal s old.kept.past d a answer
