use Rattle.std.proofs.Common.{◌∙◌, ◌&&◌, sym, ap, refl, Bool}
use Rattle.jx_base.proofs.BasicLaws.{and_false}
use Rattle.nucleus_tables.proofs.PermittedCalls.{no_taker, refused_take, taken_by}
use Rattle.table_steps.specs.Steps.{owns}
use Rattle.nucleus_tables.proofs.tables.Tables.permit_take_of.Goals as goal

pub returns-then-not-is_first-clause-why : goal.returns-then-not-is_first-clause-why
returns-then-not-is_first-clause-why c =
    let own : Bool = owns c.args.self.now.services.services c.args.domain.0 c.args.service.0 in
    refused_take c.args.system.now c.args.self.now c.requires.tables c.args.domain.0 c.args.call c.args.service c.first-head.result c.requires.service c.first-head.ensures
    own c.is_first.result refl c.is_first.ensures (ap (λ (b : Bool). own && b) c.if-not-is_first.true ∙ and_false own)

pub returns-then-not-owns-clause-why : goal.returns-then-not-owns-clause-why
returns-then-not-owns-clause-why c =
    refused_take c.args.system.now c.args.self.now c.requires.tables c.args.domain.0 c.args.call c.args.service c.first-head.result c.requires.service c.first-head.ensures
    c.owns.result c.is_first.result c.owns.ensures c.is_first.ensures (ap (λ (b : Bool). b && c.is_first.result) c.if-not-owns.true)

pub returns-in-Some-clause-may : goal.returns-in-Some-clause-may
returns-in-Some-clause-may c =
    taken_by c.args.system.now c.args.self.now c.requires.tables c.args.domain.0 c.args.call c.args.service c.first-head.result c.requires.service c.first-head.ensures
    c.requires.live (sym c.if-not-owns.false ∙ c.owns.ensures) (sym c.if-not-is_first.false ∙ c.is_first.ensures) c.in-Some.thread c.idle.result c.idle.ensures c.in-Some.is

pub returns-in-None-clause-why : goal.returns-in-None-clause-why
returns-in-None-clause-why c =
    no_taker c.args.system.now c.args.self.now c.requires.tables c.args.domain.0 c.args.call c.args.service c.first-head.result c.requires.service c.first-head.ensures
    c.requires.live (sym c.if-not-owns.false ∙ c.owns.ensures) (sym c.if-not-is_first.false ∙ c.is_first.ensures) c.idle.result c.idle.ensures c.in-None.is
