use Rattle.std.proofs.Common.{◌∙◌, ap, reverse}
use Rattle.jx_base.specs.Histories.{past_of}
use Rattle.jx_base.specs.declared.act.History.{History}
use Rattle.nucleus_tables.specs.NucleusStates.{NucleusState}
use Rattle.nucleus.proofs.nucleus.Nucleus.close.Goals as goal

pub returns : goal.returns
unfolding past_of
returns c = ap (λ (h : History). reverse h.entries) c.close.ensures ∙ ap (λ (x : NucleusState). x.kept.past) c.self.view_is
