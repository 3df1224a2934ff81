use Rattle.std.proofs.Common.{◌∙◌, sym, ap, is_some, Option, None, if◌then◌else◌}
use Rattle.std.specs.Option.{option_map}
use Rattle.jx_base.specs.declared.act.Act.{Act}
use Rattle.jx_base.specs.declared.act.Act.TheVariants as act
use Rattle.jx_base.specs.declared.ids.CallId.{CallId}
use Rattle.jx_base.specs.declared.ids.ThreadId.{ThreadId}
use Rattle.jx_base.proofs.BasicLaws.{ap2}
use Rattle.nucleus_tables.proofs.CallReads.{no_take, take_is}
use Rattle.nucleus_tables.proofs.tables.Tables.take_of.Goals as goal

-- the take, where there are a thread and a call
abbrev taken : Option ThreadId → Option CallId → Option Act
taken t o = if is_some t then option_map (λ c. act.Take c) o else None

pub returns-in_err-first-in-Some : goal.returns-in_err-first-in-Some
returns-in_err-first-in-Some c =
    c.from_residual.ensures
    ∙ ap2 taken (sym c.in-Some.is) (sym c.in_err-first-in-Some.was)
    ∙ take_is c.args.system.now c.args.self.now c.requires.tables c.idle.result c.first.result c.args.domain.0 c.args.service.0 c.requires.live c.idle.ensures c.first.ensures

pub returns-in_ok-first-in-Some : goal.returns-in_ok-first-in-Some
returns-in_ok-first-in-Some c =
    ap2 taken (sym c.in-Some.is) (sym c.in_ok-first-in-Some.was)
    ∙ take_is c.args.system.now c.args.self.now c.requires.tables c.idle.result c.first.result c.args.domain.0 c.args.service.0 c.requires.live c.idle.ensures c.first.ensures

pub returns-in-None : goal.returns-in-None
returns-in-None c = no_take c.args.system.now c.args.self.now c.requires.tables c.idle.result c.args.domain.0 c.args.service.0 c.requires.live c.idle.ensures (ap is_some c.in-None.is)
