use Rattle.std.proofs.Common.{◌≡◌, take}
use Rattle.program_model.specs.BuiltIn.{built_in_count}
use Rattle.link_model.specs.Linking.{classes_from}
use Rattle.linker_outline.proofs.all_classes.file_classes.Given as goal

abbrev pub invariant-loop-place : goal.invariant-loop-place
invariant-loop-place l =
    l.classes.items ≡ classes_from l.parts.plan.now l.parts.files.now built_in_count (take l.place l.parts.files.now)
