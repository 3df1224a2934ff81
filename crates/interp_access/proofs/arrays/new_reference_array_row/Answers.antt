use Rattle.std.proofs.Common.{sym}
use Rattle.program_model.specs.Lookup.{type_of_name}
use Rattle.interp_access.proofs.RowForms.{null_at_first}
use Rattle.interp_access.proofs.arrays.new_reference_array_row.Goals as goal

pub returns : goal.returns
returns c = c.new_array.ensures (type_of_name c.args.name.now) c.reference_array_class-class.ensures (sym (null_at_first c.args.name.now))
