use Rattle.std.proofs.Common.{◌≡◌, ◌-◌, None}
use Rattle.interp_core.specs.Behind.{behind_keys}
use Rattle.interp_core.proofs.switches.behind_keys.Given as goal

abbrev pub invariant-loop : goal.invariant-loop
invariant-loop l = behind_keys l.last (l.count - l.counter) l.rest ≡ behind_keys None l.count l.bytes
