use Rattle.std.proofs.Common.{◌∙◌, ap, sym, map, Some, option_map}
use Rattle.toml.specs.View.{view}
use Rattle.system_text.specs.Keys.{items_in}
use Rattle.system_text.proofs.Items.{items_in-items_of}
use Rattle.system_text.proofs.class_faults.array_of.Goals as goal

pub returns-in-Some : goal.returns-in-Some
returns-in-Some c =
    rw c.as_slice.ensures.value
    (ap Some (sym (items_in-items_of (map view c.in-Some.array.now.items))) ∙ ap (option_map items_in) c.in-Some.ensures)
