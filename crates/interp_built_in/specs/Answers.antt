-- What the answer to a built-in method says of its outcome.
use Rattle.std.specs.Prelude.{◌≡◌, List}
use Rattle.jx_base.specs.declared.program.System.{System}
use Rattle.jx_base.specs.declared.value.Value.{Value}
use Rattle.interp_built_in.specs.declared.answer.BuiltInAnswer.{BuiltInAnswer}
use Rattle.interp_built_in.specs.declared.answer.BuiltInAnswer.TheVariants as answer
use Rattle.machine_model.specs.BuiltInMethods.{BuiltInOutcome, Effect}
use Rattle.machine_model.specs.BuiltInMethods as outcome
use Rattle.machine_model.specs.State.{Store}

-- the answer and the store that is left are the outcome: only a result changes the store
abbrev pub AnswersAs : BuiltInAnswer → Store → Store → BuiltInOutcome → Type 0
AnswersAs (answer.Gives v) old new o = o ≡ outcome.Gives new v
AnswersAs (answer.Performs a) old new o = (o ≡ outcome.Performs a) × (new ≡ old)
AnswersAs (answer.Raises c) old new o = (o ≡ outcome.Raises c.0) × (new ≡ old)
AnswersAs answer.HasNoRoom old new o = (o ≡ outcome.HasNoRoom) × (new ≡ old)
AnswersAs answer.Unfit old new o = (o ≡ outcome.Unfit) × (new ≡ old)

-- the answer is what the method does with the arguments, in any system
abbrev pub Does : Effect → List Value → Store → Store → BuiltInAnswer → Type 0
Does effect args old new answer = (s : System) → AnswersAs answer old new (effect s old args)

-- the answer is what the method does with the arguments, in any system, and the store stays
abbrev pub Answers : Effect → List Value → Store → BuiltInAnswer → Type 0
Answers effect args store answer = Does effect args store store answer
