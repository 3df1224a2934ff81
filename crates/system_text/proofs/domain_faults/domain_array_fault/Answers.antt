use Rattle.std.proofs.Common.{◌∙◌, ap, Some}
use Rattle.toml.specs.View.{view}
use Rattle.system_text.specs.declared.fault.PlanFault.TheVariants as fault
use Rattle.system_text.proofs.Chains.{array_with_items, no_array}
use Rattle.system_text.proofs.domain_faults.domain_array_fault.Goals as goal

pub returns-in-Some : goal.returns-in-Some
returns-in-Some c =
    rw (← array_with_items (view c.args.value.now) _ c.in-Some.ensures) c.domain_items_fault.ensures

pub returns-in_ok-text_of-in-None : goal.returns-in_ok-text_of-in-None
returns-in_ok-text_of-in-None c =
    ap (λ key. Some (fault.Kind key)) c.in_ok-text_of-in-None.ensures ∙ no_array (view c.args.value.now) c.in-None.ensures
