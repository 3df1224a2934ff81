use Rattle.std.proofs.Common.{◌≡◌, ◌≤◌, map, length, take}
use Rattle.link_model.specs.Linking.{meanings_of, with_meanings}
use Rattle.linker_uses.proofs.systems.linked_system.Given as goal

abbrev pub invariant-loop-constants : goal.invariant-loop-constants
invariant-loop-constants l = record {
  few : length l.meanings.items ≤ length l.files;
  are : l.meanings.items ≡ map (meanings_of l.fn.outline) (take (length l.meanings.items) l.files);
  given : with_meanings l.fn.outline (take (length l.meanings.items) l.files) 0 l.classes.items ≡ with_meanings l.fn.outline l.files 0 l.fn.outline.program.classes;
}

abbrev pub decreases-loop-constants : goal.decreases-loop-constants
decreases-loop-constants l = length l.meanings.items
