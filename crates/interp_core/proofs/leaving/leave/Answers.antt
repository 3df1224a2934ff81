use Rattle.std.proofs.Common.{◌≡◌, ◌-◌, ◌∙◌, ◌++◌, List, [], sym, ap, drop, take, reverse}
use Rattle.jx_base.specs.declared.frame.Frame.{Frame}
use Rattle.machine_model.specs.NumericRows.{Stack}
use Rattle.machine_model.specs.ObjectRows.{leaves, with_result, Next}
use Rattle.interp_core.specs.Cores.{core_state, running_stack}
use Rattle.interp_core.proofs.Leavings.{leaves_none, leaves_next, leaves_bad, last_first, running_is}
use Rattle.interp_core.proofs.leaving.leave.Goals as goal

pub returns-in_default : goal.returns-in_default
returns-in_default c =
    let s = c.args.system.now in let core = core_state c.args.core.now in
    let none : c.pop.new.self.items ≡ [] = c.in_default.ensures.rest ∙ ap (λ n. take (n - 1) c.args.core.now.frames.items) c.in_default.ensures.cases.0 in
    let was : c.args.core.now.frames.items ≡ [] = c.in_default.ensures.items ∙ ap (λ (fs : List Frame). fs ++ []) none in
    record {
      row =
          leaves_none s core (with_result c.args.pushed (drop c.args.taken (running_stack core))) (ap reverse was)
          ∙ ap (λ (fs : List Frame). Next (record { frames = reverse fs; store = core.store })) (was ∙ sym none);
    }

pub returns-then-fits : goal.returns-then-fits
returns-then-fits c =
    let s = c.args.system.now in let core = core_state c.args.core.now in let f = c.in-Some.frame in let g = c.go_on-fits.new.frame in
    let callers = reverse c.pop.new.self.items in
    let frames = last_first c.args.core.now.frames.items c.pop.new.self.items f c.in-Some.ensures.items in
    let new = last_first c.push_reserved.new.self.items c.pop.new.self.items g c.push_reserved.ensures.items in
    let stack = λ (k : Stack). with_result c.args.pushed (drop c.args.taken k) in
    let same = running_is core callers f frames in
    record {
      row =
          ap (λ (k : Stack). leaves s core core.store (stack k)) same
          ∙ leaves_next s core f g callers (reverse c.push_reserved.new.self.items) (stack f.stack.values) frames c.if-fits.ensures.fits (c.go_on-fits.ensures.frame c.if-fits.true) new;
    }

pub returns-else-fits : goal.returns-else-fits
returns-else-fits c =
    let s = c.args.system.now in let core = core_state c.args.core.now in let f = c.in-Some.frame in
    let callers = reverse c.pop.new.self.items in
    let frames = last_first c.args.core.now.frames.items c.pop.new.self.items f c.in-Some.ensures.items in
    let stack = λ (k : Stack). with_result c.args.pushed (drop c.args.taken k) in
    let same = running_is core callers f frames in
    record { row = ap (λ (k : Stack). leaves s core core.store (stack k)) same ∙ leaves_bad s core f callers (stack f.stack.values) frames c.if-fits.ensures.fits }
