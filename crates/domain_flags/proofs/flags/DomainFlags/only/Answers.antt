use Rattle.std.proofs.Common.{◌≡◌, ◌∙◌, ◌-◌, ◌+◌, ap, arith}
use Rattle.jx_base.specs.Basics.{up_to}
use Rattle.domain_flags.specs.FlagLists.{only_flag}
use Rattle.domain_flags.proofs.FlagLaws.{one_from}
use Rattle.domain_flags.proofs.flags.DomainFlags.only.Goals as goal

pub returns : goal.returns
unfolding up_to
returns c =
    let d = c.args.domain in
    let e : 1 + (d - 1) ≡ d = omega (arith, c.requires.0) in
    one_from 1 64 (d - 1) ∙ ap only_flag e
