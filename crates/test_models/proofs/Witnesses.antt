-- Admitted histories that the laws speak of.
use Rattle.std.proofs.Common.{◌≡◌, refl, ℕ, pos, Bool, true, false, ◌&&◌, List, [], ◌∷◌, ◌++◌, Option, Some, None, is_some}
use Rattle.jx_base.specs.declared.act.Act.{Act}
use Rattle.jx_base.specs.declared.act.Act.TheVariants as act
use Rattle.jx_base.specs.declared.program.System.{System}
use Rattle.opened_models.specs.Opened.{opened_model}
use Rattle.jx_base.specs.Histories.{Past}
use Rattle.jx_model.specs.Holding.{is_extent_in_use}
use Rattle.jx_model.specs.Permits.{acting_thread}
use Rattle.jx_model.specs.WellMade.{is_well_made}
use Rattle.jx_model.specs.SingleWorker.{entry_for}
use Rattle.jx_model.specs.Legal.{IsNext, IsAdmittedPast}
use Rattle.jx_base.proofs.BasicLaws.{both}
use Rattle.jx_model.proofs.WellMadeTest.{well_made_test}
use Rattle.test_models.proofs.Steps.{Step, past_after_steps, boots, object, one, two, four, part_of_part, dead_caller, three_callers}
use Rattle.std.specs.Option.{unwrap_or}

-- ---- scripts of steps

-- whether each step is permitted and well made
abbrev pub goes : System → Past → List Step → Bool
goes s past [] = true
goes s past (x ∷ steps) = (is_some (acting_thread s past x.0 x.1) && is_well_made s past x.1) && goes s (entry_for s past x.0 x.1 ∷ past) steps

-- a thread that is there
some_thread : (o : Option ℕ) → is_some o ≡ true → o ≡ Some (unwrap_or o 0)
some_thread None h = cc
some_thread (Some t) h = refl

-- a step that is permitted and well made may come next
step_next : (s : System) (past : Past) (d : ℕ) (a : Act) → is_some (acting_thread s past d a) ≡ true → is_well_made s past a ≡ true → IsNext s past (entry_for s past d a)
unfolding entry_for
step_next s past d a h w = record { thread = some_thread (acting_thread s past d a) h; well_made = (well_made_test s past a).0 w; reply = refl }

-- steps that are permitted and well made give an admitted past
pub admitted_after : (s : System) (past : Past) (steps : List Step) → goes s past steps ≡ true → IsAdmittedPast s past → IsAdmittedPast s (past_after_steps s past steps)
admitted_after s past [] h a = a
admitted_after s past (x ∷ steps) h a =
    let y = both (is_some (acting_thread s past x.0 x.1) && is_well_made s past x.1) (goes s (entry_for s past x.0 x.1 ∷ past) steps) h in
    let z = both (is_some (acting_thread s past x.0 x.1)) (is_well_made s past x.1) y.0 in
    admitted_after s (entry_for s past x.0 x.1 ∷ past) steps y.1 (step_next s past x.0 x.1 z.0 z.1, a)

-- ---- admitted histories

-- a revoke of a part of a part, and uses of what it ended
part_of_part_goes : goes (one 64) [] part_of_part ≡ true
unfolding opened_model
part_of_part_goes = refl

-- the script with a revoke is admitted
pub revoked_is_admitted : IsAdmittedPast (one 64) (past_after_steps (one 64) [] part_of_part)
revoked_is_admitted = admitted_after (one 64) [] part_of_part part_of_part_goes tt

-- a call that is taken and returned from after its caller's end
dead_caller_goes : goes (two 64) [] dead_caller ≡ true
unfolding opened_model
dead_caller_goes = refl

-- the script with a discarded answer is admitted
pub discarded_is_admitted : IsAdmittedPast (two 64) (past_after_steps (two 64) [] dead_caller)
discarded_is_admitted = admitted_after (two 64) [] dead_caller dead_caller_goes tt

-- calls that are resumed after their server's end
three_callers_goes : goes four [] three_callers ≡ true
unfolding opened_model
three_callers_goes = refl

-- the script with calls that their server's end answers is admitted
pub ended_is_admitted : IsAdmittedPast four (past_after_steps four [] three_callers)
ended_is_admitted = admitted_after four [] three_callers three_callers_goes tt

-- an extent that goes out of use, and one more in its place
abbrev pub dropped : List Step
dropped = boots 0 1 ++ (1, act.Alloc (pos 64)) ∷ (1, act.Release (object 1)) ∷ []

-- the same, and one extent more
abbrev pub reused : List Step
reused = dropped ++ (1, act.Alloc (pos 64)) ∷ []

-- each of its steps is permitted and well made
reused_goes : goes (one 64) [] reused ≡ true
unfolding opened_model
reused_goes = refl

-- the script with a freed extent is admitted
pub reused_is_admitted : IsAdmittedPast (one 64) (past_after_steps (one 64) [] reused)
reused_is_admitted = admitted_after (one 64) [] reused reused_goes tt

-- the dropped extent is out of use
pub dropped_is_out : is_extent_in_use (past_after_steps (one 64) [] dropped) 1 ≡ false
unfolding opened_model
dropped_is_out = refl

-- it is still out of use when its granules are given again
pub reused_stays_out : is_extent_in_use (past_after_steps (one 64) [] reused) 1 ≡ false
unfolding opened_model
reused_stays_out = refl
