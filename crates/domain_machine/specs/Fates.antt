-- How far a machine is on its way.
use Rattle.std.specs.Prelude.{Bool, true, false}
use Rattle.domain_machine.specs.declared.fate.Fate.{Fate}
use Rattle.domain_machine.specs.declared.fate.Fate.TheVariants as fate

-- how far it is after an entry, where its thread met bad code or not
abbrev pub fate_after : Bool → Fate
fate_after true = fate.MetBadCode
fate_after false = fate.OnTheWay

-- what is next is known
abbrev pub IsSettled : Fate → Type 0
IsSettled fate.OnTheWay = ⊥
IsSettled _ = Unit {0}
