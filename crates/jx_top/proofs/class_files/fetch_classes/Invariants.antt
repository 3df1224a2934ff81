use Rattle.std.proofs.Common.{◌≡◌, ◌≤◌, length, take, Some}
use Rattle.std.specs.List.{AllByRecursion}
use Rattle.class_grammar.specs.ReadFiles.{IsReadFile}
use Rattle.jx_base.specs.Files.{Files}
use Rattle.jx_top.specs.Systems.{HaveClasses}
use Rattle.jx_top.proofs.class_files.fetch_classes.Given as goal

abbrev pub invariant-loop-name : goal.invariant-loop-name
invariant-loop-name g l = record {
  have : (files : Files) → (g.L.Shelf.state l.fn.shelf).told ≡ Some files → HaveClasses files (take l.name-index l.names) l.classes.items;
  read : AllByRecursion IsReadFile l.classes.items;
  count : length l.classes.items ≡ l.name-index;
  same : (g.L.Shelf.state l.shelf).told ≡ (g.L.Shelf.state l.fn.shelf).told;
  later : (g.L.Shelf.state l.fn.shelf).faults ≤ (g.L.Shelf.state l.shelf).faults;
}
