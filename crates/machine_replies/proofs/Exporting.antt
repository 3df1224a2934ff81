-- The object that a running frame exports.
use Rattle.std.proofs.Common.{◌≡◌, ◌∙◌, refl, ap, List, [], ◌∷◌, Option}
use Rattle.std.specs.Prelude.{slice_get}
use Rattle.std.specs.Option.{option_map, unwrap_or}
use Rattle.jx_base.specs.declared.frame.Frame.{Frame}
use Rattle.jx_base.specs.declared.value.Value.{Value}
use Rattle.interp_core.specs.Cores.{running_stack}
use Rattle.machine_model.specs.AfterEntry.{object_of_value}
use Rattle.machine_model.specs.State.{Core}
use Rattle.machine_replies.specs.Leaving.{exported_by}

-- it is the one of the value below two on its stack
pub exported_at : (core : Core) (o : Option Value) → slice_get (running_stack core) 2 ≡ o → exported_by core.frames ≡ unwrap_or (option_map object_of_value o) 0
unfolding running_stack
exported_at core o e = by core.frames ∙ ap (λ (o : Option Value). unwrap_or (option_map object_of_value o) 0) e
  where
    by : (frames : List Frame) → exported_by frames ≡ unwrap_or (option_map object_of_value (slice_get (unwrap_or (option_map (λ f. f.stack.values) (slice_get frames 0)) []) 2)) 0
    by [] = refl
    by (f ∷ frames) = refl
