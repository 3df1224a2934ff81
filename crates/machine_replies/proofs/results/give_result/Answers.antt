use Rattle.interp_core.specs.Cores.{core_state}
use Rattle.machine_replies.proofs.Cores.{frames_past, instructions_in}
use Rattle.machine_replies.proofs.results.give_result.Goals as goal

pub taken_first-taken-requires : goal.taken_first-taken-requires
taken_first-taken-requires c =
    let s = c.args.system.now in let core = core_state c.args.core.now in let h = c.requires.core in
    record { frames = frames_past s core h; listed = c.requires.system.listed; instructions = instructions_in s h.0 core c.requires.system h.1 }

pub come_back-requires : goal.come_back-requires
come_back-requires c = record { codes = c.requires.system.codes; frames = frames_past c.args.system.now (core_state c.args.core.now) c.requires.core; taken = c.taken_first-taken.ensures }
