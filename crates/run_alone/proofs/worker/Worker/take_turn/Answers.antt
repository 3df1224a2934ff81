use Rattle.std.proofs.Common.{◌≡◌, ◌∙◌, ap, sym, arith, true}
use Rattle.jx_model.specs.Permits.{can_act}
use Rattle.nucleus_tables.specs.NucleusStates.{NucleusState}
use Rattle.run_alone.proofs.Picking.{turn_acts}
use Rattle.run_alone.proofs.TurnActs.{from_one, lacks, place}
use Rattle.run_alone.specs.Workers.{past_in}
use Rattle.run_alone.proofs.worker.Worker.take_turn.Goals as goal

pub act_of_turn-requires-clause-live : goal.act_of_turn-requires-clause-live
act_of_turn-requires-clause-live c = turn_acts (past_in c.args.self.now) c.args.domain.0 c.requires.turn.turn

pub act_of_turn-requires-clause-room : goal.act_of_turn-requires-clause-room
act_of_turn-requires-clause-room c = c.requires.turn.free.room

pub overflow_sub-domain : goal.overflow_sub-domain
overflow_sub-domain c = from_one c.args.system.now c.args.self.now c.requires.worker c.args.domain.0 (turn_acts (past_in c.args.self.now) c.args.domain.0 c.requires.turn.turn)

pub index-requires : goal.index-requires
index-requires c =
    let s = c.args.system.now in let d = c.args.domain.0 in let v = c.act_of_turn.new.self in let f = c.in_ok-act.ensures in
    let able : can_act (past_in v) d ≡ true = ap (λ (n : NucleusState). can_act n.kept.past d) f.same ∙ turn_acts (past_in c.args.self.now) d c.requires.turn.turn in
    let below = place s v f.going d able in omega (arith, below, v.actors.ok.0)

pub returns-then-not-is_supported-clause-stop : goal.returns-then-not-is_supported-clause-stop
returns-then-not-is_supported-clause-stop c =
    let s = c.args.system.now in let w = c.args.self.now in let d = c.args.domain.0 in
    lacks s w c.requires.worker d (turn_acts (past_in w) d c.requires.turn.turn) c.act_of_turn.new.self c.in_ok-act.act c.index.result.now c.in_ok-act.ensures c.requires.turn
    (sym c.if-not-is_supported.ensures) c.index.ensures
