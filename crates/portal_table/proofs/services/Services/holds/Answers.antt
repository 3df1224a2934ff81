use Rattle.std.proofs.Common.{◌∙◌, ap, sym}
use Rattle.std.specs.Option.{option_map}
use Rattle.jx_base.specs.Basics.{passes}
use Rattle.jx_model.specs.Tables.{ServiceRecord}
use Rattle.table_reads.specs.TableReads.{flag_at}
use Rattle.portal_table.specs.ServicesInside.{record_of}
use Rattle.portal_table.proofs.services.Services.holds.Goals as goal

pub returns-in-Some : goal.returns-in-Some
unfolding passes
returns-in-Some c =
    c.is_set.ensures.flag ∙ ap (passes (λ (s : ServiceRecord). flag_at s.holders c.args.domain.0)) (ap (option_map record_of) (sym c.in-Some.is) ∙ c.get.ensures)

pub returns-in-None : goal.returns-in-None
unfolding passes
returns-in-None c = ap (passes (λ (s : ServiceRecord). flag_at s.holders c.args.domain.0)) (ap (option_map record_of) (sym c.in-None.is) ∙ c.get.ensures)
