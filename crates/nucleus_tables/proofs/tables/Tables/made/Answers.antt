use Rattle.std.proofs.Common.{◌∙◌}
use Rattle.nucleus_tables.proofs.DomainReads.{made_count}
use Rattle.nucleus_tables.proofs.tables.Tables.made.Goals as goal

pub returns : goal.returns
returns c = λ s h. c.made.ensures.number ∙ made_count s c.args.self.now h
