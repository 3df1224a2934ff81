use Rattle.std.proofs.Common.{◌∙◌, sym, ap}
use Rattle.std.specs.Option.{option_map}
use Rattle.jx_base.specs.declared.act.Act.TheVariants as act
use Rattle.jx_base.specs.declared.ids.ThreadId.{ThreadId}
use Rattle.nucleus_tables.proofs.CallReads.{go_is}
use Rattle.nucleus_tables.proofs.tables.Tables.first_go.Goals as goal

pub returns-in_err-yielded : goal.returns-in_err-yielded
returns-in_err-yielded c =
    c.from_residual.ensures
    ∙ ap (option_map (λ t. act.Go (record { 0 = t }))) (ap (option_map (λ (t : ThreadId). t.0)) (sym c.in_err-yielded.was) ∙ c.yielded.ensures)
    ∙ go_is c.args.system.now c.args.self.now c.requires.tables c.args.domain.0 c.requires.live

pub returns : goal.returns
returns c =
    ap (option_map (λ t. act.Go (record { 0 = t }))) (ap (option_map (λ (t : ThreadId). t.0)) (sym c.in_ok-yielded.was) ∙ c.yielded.ensures)
    ∙ go_is c.args.system.now c.args.self.now c.requires.tables c.args.domain.0 c.requires.live
