use Rattle.std.proofs.Common.{◌≡◌, ◌∙◌, ◌-◌, ◌++◌, List, [], take, reverse, sym, ap}
use Rattle.std.proofs.lemmas.List.Elements.{All-rest}
use Rattle.jx_base.specs.declared.frame.Frame.{Frame}
use Rattle.machine_model.specs.Conditions.{IsFrameOf}
use Rattle.machine_model.specs.State.{is_overfull}
use Rattle.interp_core.specs.Cores.{core_state}
use Rattle.interp_core.proofs.Leavings.{last_first}
use Rattle.interp_frames.proofs.Catching.{at_first, caught_here, is_full, none_left, passed}
use Rattle.interp_frames.proofs.throwing.unwind.Goals as goal

pub loop-frame-preserved : goal.loop-frame-preserved
loop-frame-preserved c =
    let s = c.args.system.now in let f = c.in-Some.frame in
    let old = (core_state c.loop-frame.core).frames in let callers = reverse c.pop.new.self.items in
    let frames = last_first c.loop-frame.core.frames.items c.pop.new.self.items f c.in-Some.ensures.items in
    record {
      store = c.loop-frame.invariant.store;
      frames = All-rest (IsFrameOf s) f callers old frames c.loop-frame.invariant.frames;
      handler =
          sym (passed s c.args.thrown c.args.object old callers f frames (sym c.handler_in.ensures ∙ c.in_default-handler_in.is))
          ∙ c.loop-frame.invariant.handler;
    }

pub returns-then-not-has_room-clause-frames : goal.returns-then-not-has_room-clause-frames
returns-then-not-has_room-clause-frames c =
    let s = c.args.system.now in let f = c.in-Some.frame in
    let callers = reverse c.pop.new.self.items in
    let pc = c.in-Some-handler_in.handler in
    let frames = last_first c.loop-frame.core.frames.items c.pop.new.self.items f c.in-Some.ensures.items in
    let after = sym c.loop-frame.invariant.handler ∙ at_first s c.args.thrown c.args.object (core_state c.loop-frame.core).frames callers f pc frames (sym c.handler_in.ensures ∙ c.in-Some-handler_in.is) in
    ap (is_overfull s) after ∙ is_full s c.args.object pc f callers (sym c.has_room.ensures ∙ c.if-not-has_room.true)

pub returns-in-Some-clause-frames : goal.returns-in-Some-clause-frames
returns-in-Some-clause-frames c =
    let s = c.args.system.now in let f = c.in-Some.frame in
    let callers = reverse c.pop.new.self.items in
    let pc = c.in-Some-handler_in.handler in
    let g = c.go_to_handler.new.frame in
    let frames = last_first c.loop-frame.core.frames.items c.pop.new.self.items f c.in-Some.ensures.items in
    let after = sym c.loop-frame.invariant.handler ∙ at_first s c.args.thrown c.args.object (core_state c.loop-frame.core).frames callers f pc frames (sym c.handler_in.ensures ∙ c.in-Some-handler_in.is) in
    caught_here s c.args.object pc f callers _ (reverse c.push_reserved.new.self.items) g after c.go_to_handler.ensures (last_first c.push_reserved.new.self.items c.pop.new.self.items g c.push_reserved.ensures.items) (sym c.has_room.ensures ∙ c.if-not-has_room.false)

pub returns-clause-frames : goal.returns-clause-frames
returns-clause-frames c =
    let s = c.args.system.now in
    let none : c.pop.new.self.items ≡ [] = c.in_default.ensures.rest ∙ ap (λ n. take (n - 1) c.loop-frame.core.frames.items) c.in_default.ensures.cases.0 in
    let was : c.loop-frame.core.frames.items ≡ [] = c.in_default.ensures.items ∙ ap (λ (fs : List Frame). fs ++ []) none in
    (sym c.loop-frame.invariant.handler ∙ none_left s c.args.thrown c.args.object (core_state c.loop-frame.core).frames (ap reverse was), ap reverse none)
