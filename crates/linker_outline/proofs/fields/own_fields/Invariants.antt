use Rattle.std.proofs.Common.{◌≡◌, map, take}
use Rattle.std.specs.List.{filter}
use Rattle.link_model.specs.Linking.{field_of}
use Rattle.linker_outline.specs.Fields.{is_of_kind}
use Rattle.linker_outline.proofs.fields.own_fields.Given as goal

abbrev pub invariant-loop-member : goal.invariant-loop-member
invariant-loop-member l = l.fields.items ≡ map (field_of l.owner) (filter (is_of_kind l.statics) (take l.member-index l.file.fields))
