use Rattle.std.proofs.Common.{◌∙◌, List, ap, sym, subst}
use Rattle.std.specs.List.{All}
use Rattle.std.proofs.lemmas.List.Elements.{All-nil}
use Rattle.jx_base.specs.declared.frame.Frame.{Frame}
use Rattle.interp_core.specs.Cores.{core_state}
use Rattle.interp_frames.specs.Beginnings.{Begins}
use Rattle.interp_frames.specs.declared.beginning.Begun.{Begun}
use Rattle.machine_model.specs.Conditions.{IsFrameOf}
use Rattle.machine_model.specs.State.{Core}
use Rattle.program_model.specs.BuiltIn.{stack_overflow_error}
use Rattle.machine_replies.proofs.Beginnings.{going_out, no_place_out, overflow_raises}
use Rattle.machine_replies.proofs.beginning.begin_method.Goals as goal

pub returns-in-Going : goal.returns-in-Going
returns-in-Going c =
    let s = c.args.system.now in let old = core_state c.args.core.now in let mid = core_state c.begin.new.core in
    going_out s c.args.method c.args.arguments.now old mid (subst (λ (b : Begun). Begins s c.args.method c.args.arguments.now b old mid) c.in-Going.is c.in_ok-begin.ensures)

pub returns-in-NoPlace : goal.returns-in-NoPlace
returns-in-NoPlace c =
    let s = c.args.system.now in let old = core_state c.args.core.now in let mid = core_state c.begin.new.core in
    no_place_out s c.args.method c.args.arguments.now old mid (subst (λ (b : Begun). Begins s c.args.method c.args.arguments.now b old mid) c.in-NoPlace.is c.in_ok-begin.ensures)

pub raise_at-requires : goal.raise_at-requires
raise_at-requires c =
    let s = c.args.system.now in let old = core_state c.args.core.now in let mid = core_state c.begin.new.core in
    let over = subst (λ (b : Begun). Begins s c.args.method c.args.arguments.now b old mid) c.in-Overflow.is c.in_ok-begin.ensures in
    subst (λ (fs : List Frame). All (IsFrameOf s) fs) (sym (ap (λ (k : Core). k.frames) over.1 ∙ c.requires)) (All-nil (IsFrameOf s))

pub returns-in-Overflow : goal.returns-in-Overflow
unfolding stack_overflow_error
returns-in-Overflow c =
    let s = c.args.system.now in let old = core_state c.args.core.now in let mid = core_state c.begin.new.core in
    let over = subst (λ (b : Begun). Begins s c.args.method c.args.arguments.now b old mid) c.in-Overflow.is c.in_ok-begin.ensures in
    overflow_raises s c.args.method c.args.arguments.now old mid (core_state c.raise_at.new.core) c.raise_at.result c.requires over c.raise_at.ensures
