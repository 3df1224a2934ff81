use Rattle.std.proofs.Common.{◌∙◌, ap, Option}
use Rattle.std.specs.Option.{option_and_then}
use Rattle.jx_base.specs.declared.program.Method.{Method}
use Rattle.jx_base.specs.declared.program.Selector.{Selector}
use Rattle.jx_base.specs.Basics.{passes}
use Rattle.machine_model.specs.MachineThreads.{is_initializer_selector}
use Rattle.program_model.specs.Lookup.{same_selector, selector_at, selector_of_method}
use Rattle.machine_start.proofs.arguments.is_initializer.Goals as goal

pub returns-in_default : goal.returns-in_default
unfolding selector_of_method passes
returns-in_default c =
    let s = c.args.system.now in
    ap (λ (o : Option Method). passes is_initializer_selector (option_and_then (λ (x : Method). selector_at s x.selector.0) o)) c.in_default.ensures

pub returns-in-Some-selector_at : goal.returns-in-Some-selector_at
unfolding selector_of_method passes same_selector is_initializer_selector
returns-in-Some-selector_at c =
    let s = c.args.system.now in
    c.same_selector.ensures
    ∙ ap (λ (y : Selector). same_selector c.in-Some-selector_at.selector.now y) c.in_ok-initializer.ensures
    ∙ ap (passes is_initializer_selector) c.in-Some-selector_at.ensures
    ∙ ap (λ (o : Option Method). passes is_initializer_selector (option_and_then (λ (x : Method). selector_at s x.selector.0) o)) c.in-Some.ensures

pub returns : goal.returns
unfolding selector_of_method passes
returns c =
    let s = c.args.system.now in
    ap (passes is_initializer_selector) c.in-None.ensures
    ∙ ap (λ (o : Option Method). passes is_initializer_selector (option_and_then (λ (x : Method). selector_at s x.selector.0) o)) c.in-Some.ensures
