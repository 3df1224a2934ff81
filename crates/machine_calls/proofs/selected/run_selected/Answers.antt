use Rattle.std.proofs.Common.{◌≡◌, ap, subst, reverse, inl, inr}
use Rattle.std.specs.Prelude.{Vec}
use Rattle.std.specs.declared.alloc.Global.{Global}
use Rattle.jx_base.specs.declared.frame.Frame.{Frame}
use Rattle.interp_built_in.specs.Answers.{AnswersAs}
use Rattle.interp_built_in.specs.declared.answer.BuiltInAnswer.{BuiltInAnswer}
use Rattle.interp_built_in.specs.declared.answer.BuiltInAnswer.TheVariants as answer
use Rattle.interp_core.specs.Cores.{core_state, store_of}
use Rattle.machine_model.specs.BuiltInMethods.{built_in_outcome}
use Rattle.machine_replies.proofs.Cores.{runnable}
use Rattle.machine_calls.proofs.Handed.{same_in}
use Rattle.machine_calls.proofs.Selection.{act_comes, exception_comes, no_room_comes, result_comes, unfit_comes}
use Rattle.machine_calls.proofs.selected.run_selected.Goals.{in-Gives, in-Raises, in-HasNoRoom, in-Performs}
use Rattle.machine_calls.proofs.selected.run_selected.Goals as goal

pub run_built_in-requires-clause-core : goal.run_built_in-requires-clause-core
run_built_in-requires-clause-core c = runnable c.args.system.now c.requires.core.0 (core_state c.args.core.now) c.requires.system c.requires.core.1

pub raise-requires : goal.raise-requires
raise-requires c =
    let s = c.args.system.now in let h = c.requires.core in let old = store_of c.args.core.now in let mid = core_state c.run_built_in.new.core in
    let o = built_in_outcome s old c.args.method.now c.args.arguments.now in
    let told : AnswersAs (answer.Raises c.in-Raises.class) old mid.store o = subst (λ (a : BuiltInAnswer). AnswersAs a old mid.store o) c.in-Raises.is c.in_ok-value.ensures.outcome in
    (h.0, same_in s h.0 (core_state c.args.core.now) h.1 mid told.1 (ap (λ (fs : Vec Frame Global). reverse fs.items) c.in_ok-value.ensures.frames))

pub returns : goal.returns
returns c =
    let s = c.args.system.now in let old = core_state c.args.core.now in let mid = core_state c.run_built_in.new.core in
    let o = built_in_outcome s old.store c.args.method.now c.args.arguments.now in
    let same : mid.frames ≡ old.frames = ap (λ (fs : Vec Frame Global). reverse fs.items) c.in_ok-value.ensures.frames in
    let told : (a : BuiltInAnswer) → c.in_ok-value.field-0 ≡ a → AnswersAs a old.store mid.store o = λ a e. subst (λ (a : BuiltInAnswer). AnswersAs a old.store mid.store o) e c.in_ok-value.ensures.outcome in
    elim c.match-branch-2.branch [
      | in-Gives w ↦ rw (w.result-is, w.core-is) (result_comes s old mid o c.requires.frames same w.in-Gives.value (told (answer.Gives w.in-Gives.value) w.in-Gives.is))
      | in-Raises w ↦
          let e = told (answer.Raises w.in-Raises.class) w.in-Raises.is in
          rw (w.result-is, w.core-is) (exception_comes s old mid o c.requires.frames same (core_state w.raise.new.core) w.in-Raises.class.0 w.raise.result e.0 e.1 w.raise.ensures)
      | in-HasNoRoom w ↦ let e = told answer.HasNoRoom w.in-HasNoRoom.is in rw (w.result-is, w.core-is) (no_room_comes s old mid o c.requires.frames same e.0 e.1)
      | in-Performs w ↦ rw w.result-is (elim w.in-Performs.is [
        | inl h ↦ act_comes s old mid o c.requires.frames same h.0 (told (answer.Performs h.0) h.1).0
        | inr e ↦ unfit_comes s old mid o c.requires.frames same (told answer.Unfit e).0
      ])
    ]
