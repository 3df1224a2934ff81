-- The call that the running frame is at.
use Rattle.std.specs.Prelude.{ℕ, List, [], ◌∷◌, Option, None}
use Rattle.std.specs.Option.{option_map}
use Rattle.jx_base.specs.declared.frame.Frame.{Frame}
use Rattle.jx_base.specs.declared.program.System.{System}
use Rattle.machine_model.specs.AfterEntry.{result_types, site_of, taken_at}

-- how many values it takes, none where the thread has no frames
abbrev pub taken_first : System → List Frame → ℕ
taken_first s [] = 0
taken_first s (f ∷ frames) = taken_at s f

-- the type of what it leaves, if it is a call
abbrev pub result_first : System → List Frame → Option (List ℕ)
result_first s [] = None
result_first s (f ∷ frames) = option_map (λ x. x.result) (site_of s f)

-- the types that its result fits, none of void
abbrev pub expected_first : System → List Frame → List (List ℕ)
expected_first s [] = []
expected_first s (f ∷ frames) = result_types s f
