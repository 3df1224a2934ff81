-- What a call that is taken, an answer, and the end of a thread's code ask.
use Rattle.std.specs.Prelude.{◌≡◌, true, false, List, [], Option, Some, None}
use Rattle.std.specs.List.{AllByRecursion}
use Rattle.jx_base.specs.declared.act.Act.{Act}
use Rattle.jx_base.specs.declared.ids.CallId.{CallId}
use Rattle.jx_base.specs.declared.ids.MethodId.{MethodId}
use Rattle.jx_base.specs.declared.program.System.{System}
use Rattle.jx_base.specs.declared.value.Parcel.{Parcel}
use Rattle.jx_base.specs.declared.value.Value.{Value}
use Rattle.jx_base.specs.Histories.{Past}
use Rattle.machine_laws.specs.Handed.{IsHanded}
use Rattle.machine_laws.specs.Values.{IsStageIn, IsStoreIn, IsValueIn}
use Rattle.machine_model.specs.AfterEntry.{parameters_of, root_values, with_nodes}
use Rattle.machine_model.specs.ObjectRows.{all_fit}
use Rattle.machine_model.specs.Running.{answer_act}
use Rattle.machine_model.specs.State.{Core, Stage, State, Store}
use Rattle.machine_replies.specs.Leaving.{IsCoreIn}

-- the core is one of a domain, which can be handed the parcel
abbrev pub IsHandedTo : System → Core → Parcel → Type 0
IsHandedTo s core p = (past : Past) × (IsCoreIn s past core × IsHanded s past p)

-- the store is one of a domain, in which a thread can have come to the stage
abbrev pub CanEndIn : Store → Stage → Type 0
CanEndIn store g = (s : System) × ((past : Past) × (IsStoreIn s past store × IsStageIn past store g))

-- the nodes have no room, and the store is as it was; or they are new objects, and the roots are values
abbrev pub IsUnpackedAs : Store → Parcel → Option (List Value) → Store → Type 0
IsUnpackedAs old p None new = (with_nodes old p ≡ None) × (new ≡ old)
IsUnpackedAs old p (Some roots) new = (with_nodes old p ≡ Some new) × (roots ≡ root_values old p)

-- the core is one of a domain, without frames, and has the roots, which fit the parameters
pub record HaveFitting (s : System) (core : Core) (method : MethodId) (roots : List Value) : Type 0 where
  pub past : Past
  pub core_in : IsCoreIn s past core
  pub frames : core.frames ≡ []
  pub values : AllByRecursion (IsValueIn past core.store) roots
  pub fit : all_fit s false core.store roots (parameters_of s method) ≡ true

-- the act packs the values, in each state with that store
abbrev pub AnswersWith : Store → CallId → (Parcel → Act) → List Value → Act → Type 0
AnswersWith store call make values a = (st : State) → st.store ≡ store → a ≡ answer_act st call make values
