-- What exception tables catch.
use Rattle.std.specs.Prelude.{ℕ, List, [], ◌==◌, if◌then◌else◌}
use Rattle.jx_base.specs.declared.class_file.ClassFile.{ClassFile}
use Rattle.jx_base.specs.declared.class_file.Range.{Range}
use Rattle.link_model.specs.ClassFiles.{arrays_of_name, class_at_index}

-- the array classes of the class that a range catches, where it doesn't catch all
abbrev pub arrays_of_catch : ClassFile → Range → List (List ℕ)
arrays_of_catch f r = if r.catch_type == 0 then [] else arrays_of_name (class_at_index f r.catch_type)
