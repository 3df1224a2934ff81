use Rattle.std.proofs.Common.{◌∙◌, subst, refl}
use Rattle.jx_base.specs.declared.act.Act.{Act}
use Rattle.jx_base.specs.declared.act.Act.TheVariants as act
use Rattle.jx_model.specs.Permits.{is_ending, is_zero_act}
use Rattle.nucleus.proofs.EnteredActs.{ends_as, goes_alike, plain_left, yields_as, zero_permitted, zero_stepped}
use Rattle.nucleus_tables.proofs.ThreadsMoved.{mover_there}
use Rattle.nucleus_tables.specs.Inner.{IsPermittedIn, state_of}
use Rattle.nucleus.proofs.stepping.enter.Goals as goal

pub enter_create-requires : goal.enter_create-requires
unfolding is_zero_act
enter_create-requires c =
    record {
      permitted = (zero_permitted c.args.system.now c.args.tables.now c.args.domain.0 c.args.thread.0 c.args.act (act.Create c.in-Create.template) c.in-Create.is refl c.requires).2;
    }

pub enter_ending-requires-clause-permitted : goal.enter_ending-requires-clause-permitted
unfolding is_zero_act
enter_ending-requires-clause-permitted c =
    (zero_permitted c.args.system.now c.args.tables.now c.args.domain.0 c.args.thread.0 c.args.act act.Quiet c.in-Quiet.is refl c.requires).2

pub enter_ending-requires-clause-ending : goal.enter_ending-requires-clause-ending
unfolding is_ending
enter_ending-requires-clause-ending c = refl

pub enter_ending-requires-in-Halt-clause-permitted : goal.enter_ending-requires-in-Halt-clause-permitted
unfolding is_zero_act
enter_ending-requires-in-Halt-clause-permitted c =
    (zero_permitted c.args.system.now c.args.tables.now c.args.domain.0 c.args.thread.0 c.args.act act.Halt c.in-Halt.is refl c.requires).2

pub enter_ending-requires-in-Halt-clause-ending : goal.enter_ending-requires-in-Halt-clause-ending
unfolding is_ending
enter_ending-requires-in-Halt-clause-ending c = refl

pub resumed-state-requires : goal.resumed-state-requires
resumed-state-requires c =
    mover_there c.args.system.now c.args.tables.now c.args.domain.0 c.args.thread.0 (act.Go c.in-Go.number)
    (subst (λ (a : Act). IsPermittedIn c.args.system.now c.args.tables.now c.args.domain.0 c.args.thread.0 a) c.in-Go.is c.requires) tt

pub enter_thread-requires-clause-state : goal.enter_thread-requires-clause-state
enter_thread-requires-clause-state c = c.resumed-state.ensures ∙ goes_alike c.args.tables.now c.args.domain.0 c.args.thread.0 c.args.thread c.in-Go.number

pub enter_thread-requires-in-Yield-clause-state : goal.enter_thread-requires-in-Yield-clause-state
enter_thread-requires-in-Yield-clause-state c =
    yields_as c.args.tables.now c.args.domain.0 c.args.thread.0
    (mover_there c.args.system.now c.args.tables.now c.args.domain.0 c.args.thread.0 act.Yield
    (subst (λ (a : Act). IsPermittedIn c.args.system.now c.args.tables.now c.args.domain.0 c.args.thread.0 a) c.in-Yield.is c.requires) tt)

pub enter_thread-requires-in-EndThread-clause-state : goal.enter_thread-requires-in-EndThread-clause-state
enter_thread-requires-in-EndThread-clause-state c = ends_as c.args.tables.now c.args.domain.0 c.args.thread.0 c.in-EndThread.class

pub enter_plain-requires : goal.enter_plain-requires
enter_plain-requires c =
    record {
      permitted = c.requires;
      plain = plain_left c.args.act c.requires.may_come.has_entry c.in_default.not-Export c.in_default.not-Bind c.in_default.not-Lookup c.in_default.not-Call c.in_default.not-Take c.in_default.not-Return c.in_default.not-Throw c.in_default.not-Resume c.in_default.not-Create c.in_default.not-Quiet c.in_default.not-Halt c.in_default.not-Exit c.in_default.not-End c.in_default.not-Go c.in_default.not-Yield c.in_default.not-EndThread;
    }

pub returns-in-Create : goal.returns-in-Create
unfolding is_zero_act
returns-in-Create c =
    zero_stepped c.args.system.now (state_of c.args.tables.now) _ c.args.domain.0 c.args.act (act.Create c.in-Create.template) _
    (zero_permitted c.args.system.now c.args.tables.now c.args.domain.0 c.args.thread.0 c.args.act (act.Create c.in-Create.template) c.in-Create.is refl c.requires).0
    c.in-Create.is c.enter_create.ensures

pub returns-in-Quiet : goal.returns-in-Quiet
unfolding is_zero_act
returns-in-Quiet c =
    zero_stepped c.args.system.now (state_of c.args.tables.now) _ c.args.domain.0 c.args.act act.Quiet _
    (zero_permitted c.args.system.now c.args.tables.now c.args.domain.0 c.args.thread.0 c.args.act act.Quiet c.in-Quiet.is refl c.requires).0
    c.in-Quiet.is c.enter_ending.ensures

pub returns-in-Halt : goal.returns-in-Halt
unfolding is_zero_act
returns-in-Halt c =
    zero_stepped c.args.system.now (state_of c.args.tables.now) _ c.args.domain.0 c.args.act act.Halt _
    (zero_permitted c.args.system.now c.args.tables.now c.args.domain.0 c.args.thread.0 c.args.act act.Halt c.in-Halt.is refl c.requires).0
    c.in-Halt.is c.enter_ending-in-Halt.ensures
