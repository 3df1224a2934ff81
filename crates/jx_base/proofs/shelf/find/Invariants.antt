use Rattle.std.proofs.Common.{◌≡◌, drop}
use Rattle.jx_base.specs.InMemory.{file_of, file_entries}
use Rattle.jx_base.proofs.shelf.find.Given as goal

abbrev pub invariant-loop-file : goal.invariant-loop-file
invariant-loop-file l = file_of (file_entries (drop l.file-index l.files)) l.name ≡ file_of (file_entries l.files) l.name
