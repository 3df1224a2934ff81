use Rattle.std.proofs.Common.{◌≡◌, length, ◌-◌, ◌≤◌}
use Rattle.std.specs.List.{list_any, range_with_len}
use Rattle.service_methods.specs.Methods.{offers}
use Rattle.service_methods.proofs.methods.has_selector.Given as goal

-- a class offers the method exactly where one from here on does
abbrev pub invariant-loop-class : goal.invariant-loop-class
invariant-loop-class l =
    (l.class ≤ l.classes)
    × (list_any (offers l.system l.interface l.selector) (range_with_len 0 (length l.system.program.classes))
    ≡ list_any (offers l.system l.interface l.selector) (range_with_len l.class (l.classes - l.class)))
