use Rattle.std.proofs.Common.{◌∙◌, sym, ap, slice_get}
use Rattle.std.specs.Option.{option_map}
use Rattle.linker_faults.specs.Listing.{shown}
use Rattle.linker_faults.proofs.Walking.{listed_file}
use Rattle.linker_faults.proofs.walks.fault_at.Goals as goal

pub class_fault-requires-clause-there : goal.class_fault-requires-clause-there
class_fault-requires-clause-there c =
    let x = c.in-Some.class in
    ap (λ fs. slice_get fs x.place) (c.requires ∙ sym c.files.ensures)
    ∙ listed_file c.plan-plan.result.now c.files.result.now c.args.place (shown x) (ap (option_map shown) (sym c.in-Some.is) ∙ c.in_ok-class.ensures)
