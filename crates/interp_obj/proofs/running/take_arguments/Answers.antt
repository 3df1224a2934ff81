use Rattle.std.proofs.Common.{◌≡◌, ◌∙◌, ◌-◌, ◌++◌, ap, take, drop, reverse, List, [], refl}
use Rattle.jx_base.specs.Stacks.{StackState}
use Rattle.jx_base.specs.declared.frame.Frame.{Frame}
use Rattle.interp_core.specs.Cores.{core_state, running_stack}
use Rattle.interp_obj.proofs.Entries.{none_taken, taken_frames}
use Rattle.interp_obj.proofs.running.take_arguments.Goals as goal

pub returns-in-Some : goal.returns-in-Some
returns-in-Some c =
    let f = c.in-Some.frame in
    taken_frames (core_state c.args.core.now) c.args.core.now.frames.items c.pop.new.self.items c.push_reserved.new.self.items f (record f { stack = c.take.new.stack }) c.args.count
    refl c.in-Some.ensures.items c.push_reserved.ensures.items (ap (λ (k : StackState). record f { stack = k }) c.take.ensures)

pub returns-in_default : goal.returns-in_default
returns-in_default c =
    let core = core_state c.args.core.now in
    let none : c.pop.new.self.items ≡ [] = c.in_default.ensures.rest ∙ ap (λ n. take (n - 1) c.args.core.now.frames.items) c.in_default.ensures.cases.0 in
    let was : c.args.core.now.frames.items ≡ [] = c.in_default.ensures.items ∙ ap (λ (fs : List Frame). fs ++ []) none in
    none_taken core c.pop.new.self.items (drop c.args.count (running_stack core)) (ap reverse was) none
