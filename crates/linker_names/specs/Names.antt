-- Names that are found in class files.
use Rattle.std.specs.Prelude.{◌==◌, Option, Some, None, if◌then◌else◌}
use Rattle.jx_base.specs.declared.class_file.Range.{Range}
use Rattle.jx_base.specs.declared.program.Selector.{Selector}
use Rattle.link_model.specs.declared.uses.Use.TheVariants.{AsClass}
use Rattle.link_model.specs.declared.uses.Used.{Used}
use Rattle.linker_names.specs.declared.names.NameAndType.{NameAndType}

-- a name and a descriptor as one value
abbrev pub selector_of : NameAndType → Selector
selector_of x = record { name = x.name.now; descriptor = x.descriptor.now }

-- the use of a constant as the type that a range catches
abbrev pub catch_use : Range → Option Used
catch_use r = if r.catch_type == 0 then None else Some (record { use_of = AsClass; index = r.catch_type })
