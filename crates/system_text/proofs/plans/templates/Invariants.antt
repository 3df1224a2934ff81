use Rattle.std.proofs.Common.{◌≡◌, map, take}
use Rattle.system_text.specs.Scan.{capped_template, tables_at, texts_at}
use Rattle.system_text.proofs.plans.templates.Given as goal

abbrev pub invariant-loop-table : goal.invariant-loop-table
invariant-loop-table l = l.templates.items ≡ map (capped_template (texts_at l.classes.keys)) (tables_at (take l.table-index l.domains))
