use Rattle.std.proofs.Common.{◌+◌, ◌*◌}
use Rattle.linker_outline.proofs.fields.+layouts.Given as goal

abbrev pub decreases-file_layout : goal.decreases-file_layout
decreases-file_layout l = 3 * l.steps + 2

abbrev pub decreases-inherited : goal.decreases-inherited
decreases-inherited l = 3 * l.steps + 1

abbrev pub decreases-layout_within : goal.decreases-layout_within
decreases-layout_within l = 3 * l.steps
