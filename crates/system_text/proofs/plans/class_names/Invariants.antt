use Rattle.std.proofs.Common.{◌≡◌, drop}
use Rattle.std.specs.Prelude.{flat_map}
use Rattle.system_text.specs.Description.{classes_in}
use Rattle.system_text.specs.Scan.{names_of_all, tables_at, texts_at, with_all_new}
use Rattle.system_text.proofs.plans.class_names.Given as goal

abbrev pub invariant-loop-table : goal.invariant-loop-table
invariant-loop-table l = with_all_new (texts_at l.names.keys) (flat_map classes_in (tables_at (drop l.table-index l.domains))) ≡ names_of_all (tables_at l.domains)
