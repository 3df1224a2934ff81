use Rattle.std.proofs.Common.{◌∙◌, sym, ap, ℕ, Option}
use Rattle.std.specs.Option.{option_or}
use Rattle.jx_base.proofs.BasicLaws.{ap2}
use Rattle.jx_base.specs.declared.act.Act.{Act}
use Rattle.jx_base.specs.declared.ids.ServiceId.{ServiceId}
use Rattle.jx_base.specs.Basics.{first_some}
use Rattle.jx_base.specs.Histories.{Past}
use Rattle.jx_model.specs.Permits.{first_of_choices, go_at, take_at}
use Rattle.jx_model.specs.Threads.{service_threads, threads_of}
use Rattle.nucleus_tables.specs.Inner.{past_in}
use Rattle.nucleus_tables.proofs.tables.Tables.first_of_choices.Goals as goal

abbrev takes : Past → ℕ → Option Act
takes past d = first_some (λ (k : ServiceId). take_at past d k.0) (service_threads past d)

abbrev goes : Past → ℕ → Option Act
goes past d = first_some (go_at past d) (threads_of past d)

pub returns-in-Some : goal.returns-in-Some
unfolding first_of_choices
returns-in-Some c =
    let past = past_in c.args.self.now in
    let d = c.args.domain.0 in
    ap (λ (a : Option Act). option_or a (option_or (takes past d) (goes past d))) (sym c.in-Some.is ∙ c.first_resume.ensures)

pub returns-in-Some-first_take : goal.returns-in-Some-first_take
unfolding first_of_choices
returns-in-Some-first_take c =
    let past = past_in c.args.self.now in
    let d = c.args.domain.0 in
    ap2 (λ (a b : Option Act). option_or a (option_or b (goes past d))) (sym c.in_default.is ∙ c.first_resume.ensures) (sym c.in-Some-first_take.is ∙ c.first_take.ensures)

pub returns-in-None : goal.returns-in-None
unfolding first_of_choices
returns-in-None c =
    let past = past_in c.args.self.now in
    let d = c.args.domain.0 in
    c.first_go.ensures
    ∙ ap2 (λ (a b : Option Act). option_or a (option_or b (goes past d))) (sym c.in_default.is ∙ c.first_resume.ensures) (sym c.in-None.is ∙ c.first_take.ensures)
