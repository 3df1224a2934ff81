use Rattle.std.proofs.Common.{◌∙◌, List, ◌∷◌, refl, sym, ap}
use Rattle.jx_base.specs.declared.frame.Frame.{Frame}
use Rattle.interp_core.proofs.Leavings.{last_first}
use Rattle.interp_frames.proofs.FirstFrames.{first_fits}
use Rattle.interp_frames.proofs.beginning.begin.Goals as goal

pub returns : goal.returns
returns c =
    let f = c.in-Some.frame in
    let first = sym c.in_ok-frame.ensures ∙ c.in-Some.is in
    let frames = last_first c.push.new.self.items c.args.core.now.frames.items f c.in_ok-push.ensures.items ∙ ap (λ (fs : List Frame). f ∷ fs) c.requires.empty in
    record {
      within = sym c.is_overflow.ensures ∙ c.if-is_overflow.false;
      frame = f;
      first = first;
      frames = frames;
      fits = first_fits c.args.system.now c.args.method c.args.arguments.now f first _ frames;
      store = refl;
    }
