use Rattle.std.proofs.Common.{◌≡◌, ap, subst, drop, length, reverse}
use Rattle.std.specs.Prelude.{Vec}
use Rattle.std.specs.declared.alloc.Global.{Global}
use Rattle.jx_base.specs.declared.frame.Frame.{Frame}
use Rattle.interp_built_in.specs.Answers.{AnswersAs}
use Rattle.interp_built_in.specs.declared.answer.BuiltInAnswer.{BuiltInAnswer}
use Rattle.interp_built_in.specs.declared.answer.BuiltInAnswer.TheVariants as answer
use Rattle.interp_core.specs.Cores.{core_state, running_stack, store_of}
use Rattle.machine_model.specs.BuiltInMethods.{built_in_outcome}
use Rattle.interp_obj.proofs.Entries.{result_left, act_asked, class_raised, no_room, unfit_is_bad}
use Rattle.interp_obj.proofs.running.call_class_method.Goals.{in-Gives, in-Performs, in-Raises, in-HasNoRoom, in-Unfit}
use Rattle.interp_obj.proofs.running.call_class_method.Goals as goal

pub returns : goal.returns
returns c =
    let s = c.args.system.now in
    let old = core_state c.args.core.now in
    let mid = core_state c.run_built_in.new.core in
    let n = length c.args.arguments.now in
    let o = built_in_outcome s (store_of c.args.core.now) c.args.method.now c.args.arguments.now in
    let same : mid.frames ≡ old.frames = ap (λ (fs : Vec Frame Global). reverse fs.items) c.in_ok-value.ensures.frames in
    let told : (a : BuiltInAnswer) → c.in_ok-value.field-0 ≡ a → AnswersAs a (store_of c.args.core.now) (store_of c.run_built_in.new.core) o =
    λ a e. subst (λ (a : BuiltInAnswer). AnswersAs a (store_of c.args.core.now) (store_of c.run_built_in.new.core) o) e c.in_ok-value.ensures.outcome in
    elim c.match-branch-2.branch [
      | in-Gives w ↦ rw (w.result-is, w.core-is) (result_left s old mid n o same w.leave.result (core_state w.leave.new.core) w.in-Gives.value (told (answer.Gives w.in-Gives.value) w.in-Gives.is) w.leave.ensures.row)
      | in-Performs w ↦ let t = told (answer.Performs w.in-Performs.act) w.in-Performs.is in rw (w.result-is, w.core-is) (act_asked s old mid n o same w.in-Performs.act t.0 t.1)
      | in-Raises w ↦ let t = told (answer.Raises w.in-Raises.class) w.in-Raises.is in rw (w.result-is, w.core-is) (class_raised s old mid n o same w.in-Raises.class t.0 t.1)
      | in-HasNoRoom w ↦ let t = told answer.HasNoRoom w.in-HasNoRoom.is in rw (w.result-is, w.core-is) (no_room s old mid n o same t.0 t.1)
      | in-Unfit w ↦ let t = told answer.Unfit w.in-Unfit.is in rw w.result-is (unfit_is_bad s old (drop n (running_stack old)) o t.0)
    ]
