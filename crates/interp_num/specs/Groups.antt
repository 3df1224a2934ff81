-- The values that a form of the stack moves together (JVMS 6.5, dup2).
use Rattle.std.specs.Prelude.{[], ◌∷◌}
use Rattle.machine_model.specs.NumericRows.{Stack}
use Rattle.interp_num.specs.declared.group.Group.{Group}
use Rattle.interp_num.specs.declared.group.Group.TheVariants as group

-- the values of a group, the top first
abbrev pub values_of : Group → Stack
values_of group.Empty = []
values_of (group.Single v) = v ∷ []
values_of (group.Double v below) = v ∷ below ∷ []
