use Rattle.std.proofs.Common.{◌≡◌, [], drop}
use Rattle.system_text.specs.Scan.{next_domains_fault, tables_at, texts_at}
use Rattle.system_text.proofs.domain_faults.domains_fault.Given as goal

abbrev pub invariant-loop-number : goal.invariant-loop-number
invariant-loop-number l =
    next_domains_fault l.number (texts_at l.names.keys) (texts_at l.known.keys) (tables_at (drop l.number l.domains)) ≡ next_domains_fault 0 [] [] (tables_at l.domains)
