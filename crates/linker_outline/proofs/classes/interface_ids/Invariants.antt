use Rattle.std.proofs.Common.{◌≡◌, map, take}
use Rattle.std.specs.List.{filter_map}
use Rattle.link_model.specs.ClassFiles.{class_name_in}
use Rattle.link_model.specs.Linking.{class_id}
use Rattle.linker_outline.proofs.classes.interface_ids.Given as goal

abbrev pub invariant-loop-index : goal.invariant-loop-index
invariant-loop-index l =
    l.ids.items ≡ filter_map (class_id l.parts.plan.now) (map (class_name_in l.file) (take l.index-index l.file.interfaces))
