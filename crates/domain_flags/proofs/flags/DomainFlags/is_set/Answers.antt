use Rattle.std.proofs.Common.{◌∙◌, arith, sym}
use Rattle.domain_flags.proofs.FlagLaws.{flag_there, no_flag, set_within}
use Rattle.domain_flags.proofs.flags.DomainFlags.is_set.Goals as goal

pub returns-in-Some-clause-flag : goal.returns-in-Some-clause-flag
returns-in-Some-clause-flag c = c.is_set_at.ensures ∙ flag_there c.args.self.now.flags c.args.domain c.in-Some.place c.in-Some.ensures.0 c.in-Some.ensures.1

pub returns-in-Some-clause-domain : goal.returns-in-Some-clause-domain
returns-in-Some-clause-domain c = λ h.
    let within = set_within c.args.self.now.flags c.in-Some.place (sym c.is_set_at.ensures ∙ h) in
    (c.in-Some.ensures.0, omega (arith, within, c.in-Some.ensures.0, c.in-Some.ensures.1))

pub returns-in-None-clause-flag : goal.returns-in-None-clause-flag
returns-in-None-clause-flag c = no_flag c.args.self.now.flags c.args.domain c.in-None.ensures
