use Rattle.std.proofs.Common.{map}
use Rattle.toml.specs.View.{view}
use Rattle.system_text.proofs.Items.{array_items_seen}
use Rattle.system_text.proofs.values.items_in.Goals as goal

pub returns-in-Some-as_array : goal.returns-in-Some-as_array
returns-in-Some-as_array c =
    rw c.as_slice.ensures.value
    (array_items_seen _ _ (map view c.in-Some-as_array.array.now.items) c.in-Some.ensures c.in-Some-as_array.ensures)
