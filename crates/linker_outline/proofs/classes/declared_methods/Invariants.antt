use Rattle.std.proofs.Common.{◌≡◌, map, take}
use Rattle.link_model.specs.Linking.{declared_of}
use Rattle.linker_outline.proofs.classes.declared_methods.Given as goal

abbrev pub invariant-loop-member : goal.invariant-loop-member
invariant-loop-member l = l.methods.items ≡ map declared_of (take l.member-index l.members)
