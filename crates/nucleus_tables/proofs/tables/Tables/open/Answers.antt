use Rattle.std.proofs.Common.{refl, false}
use Rattle.nucleus_tables.proofs.OpenTables.{open_is_of}
use Rattle.nucleus_tables.specs.declared.tables.Tables.{Tables}
use Rattle.nucleus_tables.proofs.tables.Tables.open.Goals as goal

pub returns-clause-tables : goal.returns-clause-tables
returns-clause-tables c =
    let x : Tables = record {
      journal = c.in_ok-open.field-0;
      over = false;
      creates = 0;
      boots = c.in_ok-boots.field-0;
      domains = c.in_ok-open-2.field-0;
      services = c.in_ok-open-3.field-0;
      space = c.in_ok-open-4.field-0;
      calls = c.in_ok-open-5.field-0;
      places = c.in_ok-open-6.field-0;
    } in
    open_is_of c.args.system.now x refl refl c.in_ok-open.ensures c.in_ok-open-2.ensures c.in_ok-open-3.ensures c.in_ok-open-4.ensures c.in_ok-open-5.ensures c.in_ok-open-6.ensures c.requires c.in_ok-boots.ensures
