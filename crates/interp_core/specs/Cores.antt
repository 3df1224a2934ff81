-- What a core is seen as, and what the steps of a domain ask of it.
use Rattle.std.specs.Prelude.{◌≤◌, ◌<◌, ◌^◌, [], length, reverse, All, slice_get}
use Rattle.std.specs.Option.{option_map, unwrap_or}
use Rattle.class_grammar.specs.ClassGrammar.{IsShortCode}
use Rattle.jx_base.specs.declared.program.System.{System}
use Rattle.interp_core.specs.declared.cores.Core.{Core as OneCore}
use Rattle.machine_laws.specs.Values.{cell_limit}
use Rattle.machine_model.specs.Conditions.{IsCoreOf}
use Rattle.machine_model.specs.NumericRows.{Stack}
use Rattle.machine_model.specs.State.{Store, Core}
use Rattle.program_model.specs.Lookup.{class_count}

-- the store of a core
abbrev pub store_of : OneCore → Store
store_of core =
    record {
      objects = core.heap.objects;
      left = core.heap.left;
      statics = core.statics.items;
      literals = core.literals.items;
      exports = core.exports.items;
    }

-- a core as the rows know it, with the running frame first
abbrev pub core_state : OneCore → Core
core_state core = record { frames = reverse core.frames.items; store = store_of core }

-- the values on the running frame's stack
unfoldable pub running_stack : Core → Stack
running_stack core = unwrap_or (option_map (λ f. f.stack.values) (slice_get core.frames 0)) []

-- no method of the system has code of 2^16 bytes or more
abbrev pub HasShortCodes : System → Type 0
HasShortCodes s = All (λ m. IsShortCode m.code) s.program.methods

-- the core is one that a domain of the system can have, no object has more cells than a heap, code is as short as class files let it be, and classes have numbers of 32 bits
pub record IsRunnable (s : System) (state : Core) : Type 0 where
  pub core : IsCoreOf s state
  pub small : All (λ o. length o.cells ≤ cell_limit) state.store.objects
  pub codes : HasShortCodes s
  pub numbers : class_count s < 2 ^ 32
