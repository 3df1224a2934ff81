use Rattle.std.proofs.Common.{◌∙◌, ap}
use Rattle.jx_base.specs.Basics.{contains_number}
use Rattle.link_model.specs.LinkFaults.{is_above_itself}
use Rattle.linker_faults.proofs.Growing.{has_turned}
use Rattle.linker_faults.proofs.hierarchy.Hierarchy.is_above_itself.Goals as goal

pub returns : goal.returns
unfolding is_above_itself contains_number
returns c =
    c.contains-2.ensures ∙ has_turned c.in_ok-all_above.field-0.keys c.args.place ∙ ap (λ xs. contains_number xs c.args.place) c.in_ok-all_above.ensures
