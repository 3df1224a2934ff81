use Rattle.std.proofs.Common.{Some, ◌≡◌, ◌∙◌, Global, Vec, List, [], ◌∷◌, ap, reverse}
use Rattle.jx_base.specs.declared.frame.Frame.{Frame}
use Rattle.jx_base.specs.declared.value.Value.{Value}
use Rattle.jx_base.specs.declared.value.Value.TheVariants as value
use Rattle.interp_core.specs.Cores.{core_state}
use Rattle.machine_model.specs.State.{Store}
use Rattle.machine_replies.proofs.Cores.{instructions_in}
use Rattle.machine_replies.proofs.Replied.{split_made, split_thrown}
use Rattle.machine_replies.proofs.replies.give_halves.Goals as goal

pub taken_first-taken-requires-clause-instructions : goal.taken_first-taken-requires-clause-instructions
taken_first-taken-requires-clause-instructions c = instructions_in c.args.system.now c.requires.core.0 (core_state c.args.core.now) c.requires.system c.requires.core.1

pub returns-in-Some : goal.returns-in-Some
returns-in-Some c =
    let halves : List Value = value.Mem c.args.low ∷ value.Mem c.args.high ∷ [] in
    split_made c.args.system.now halves (core_state c.args.core.now) (core_state c.make_object.new.core) (core_state c.come_back.new.core) c.in_ok-class.class.0 c.in_ok-class.ensures c.come_back.result
    c.in-Some.array c.in-Some.ensures.made (ap (λ (fs : Vec Frame Global). reverse fs.items) c.in-Some.ensures.frames) c.come_back.ensures.left

pub returns-in-None : goal.returns-in-None
returns-in-None c =
    let halves : List Value = value.Mem c.args.low ∷ value.Mem c.args.high ∷ [] in
    let old = core_state c.args.core.now in let mid = core_state c.make_object.new.core in
    let frames : mid.frames ≡ old.frames = ap (λ (fs : Vec Frame Global). reverse fs.items) c.in-None.ensures.frames in
    let same : mid ≡ old = ap (λ (fs : List Frame). record mid { frames = fs }) frames ∙ ap (λ (k : Store). record old { store = k }) c.in-None.ensures.made.1 in
    split_thrown c.args.system.now halves old mid (core_state c.throw_at.new.core) c.in_ok-class.class.0 c.in_ok-class.ensures (Some c.throw_at.result)
    c.in-None.ensures.made.0 same c.throw_at.ensures
