use Rattle.std.proofs.Common.{◌≡◌, drop}
use Rattle.system_text.specs.Description.{unknown_in_domains}
use Rattle.system_text.specs.Scan.{tables_at}
use Rattle.system_text.proofs.unknown_keys.unknown_in_domains.Given as goal

abbrev pub invariant-loop-number : goal.invariant-loop-number
invariant-loop-number l = unknown_in_domains l.number (tables_at (drop l.number l.domains)) ≡ unknown_in_domains 0 (tables_at l.domains)
