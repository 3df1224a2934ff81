use Rattle.std.proofs.Common.{◌∙◌, ◌+◌, ℕ}
use Rattle.std.specs.Prelude.{nat_lt}
use Rattle.jx_base.proofs.BasicLaws.{ap2}
use Rattle.jx_model.specs.Journal.{is_full}
use Rattle.program_model.specs.Limits.{entry_limit, journal_limit}
use Rattle.nucleus_tables.proofs.tables.Tables.is_full.Goals as goal

pub returns : goal.returns
unfolding is_full entry_limit journal_limit
returns c = ap2 (λ (l w : ℕ). nat_lt l (w + 4104)) c.from-2.ensures (c.from.ensures ∙ c.words.ensures)
