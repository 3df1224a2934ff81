use Rattle.interp_core.specs.Cores.{core_state, running_stack}
use Rattle.interp_access.proofs.RowForms.{class_array}
use Rattle.interp_access.proofs.Tops.{same_step}
use Rattle.interp_access.proofs.classes.class_row.Goals as goal

pub returns-in-Some : goal.returns-in-Some
returns-in-Some c =
    let s = c.args.system.now in let core = core_state c.args.core.now in
    same_step c.new_reference_array_row.result core (core_state c.new_reference_array_row.new.core) _ _
    (class_array s core c.args.row c.args.instr.now c.args.class (running_stack core) c.in-Some.name.now c.in-NewReferenceArray.is c.in-Some.ensures) c.new_reference_array_row.ensures
