use Rattle.std.proofs.Common.{◌-◌}
use Rattle.domain_flags.proofs.FlagLaws.{set_is}
use Rattle.domain_flags.proofs.flags.DomainFlags.with.Goals as goal

pub returns : goal.returns
returns c = set_is c.args.self.flags (c.args.domain - 1) c.args.flag
