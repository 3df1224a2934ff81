-- The classes of a template.
use Rattle.std.specs.Prelude.{Bool, List, length, map}
use Rattle.std.specs.List.{filter_map, range_with_len}
use Rattle.jx_base.specs.Basics.{contains_number}
use Rattle.jx_base.specs.declared.class_file.ClassFile.{ClassFile}
use Rattle.jx_base.specs.declared.program.Plan.{Plan}
use Rattle.jx_base.specs.declared.program.Template.{Template}
use Rattle.link_model.specs.LinkFaults.{Listing, listing_at}

-- a template with its plan
pub record OfPlan : Type 0 where
  pub plan : Plan
  pub template : Template

-- the classes of a template, each with its file, in the order of its list
abbrev pub listings : Plan → List ClassFile → Template → List Listing
listings plan files t = filter_map (listing_at plan files) t.classes

-- of each place of the plan whether the template lists it
abbrev pub are_listed : Plan → Template → List Bool
are_listed plan t = map (contains_number t.classes) (range_with_len 0 (length plan.classes))
