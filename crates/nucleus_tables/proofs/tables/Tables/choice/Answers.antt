use Rattle.std.proofs.Common.{◌∙◌, sym, ap, Option, ℕ, None, is_none, Bool, ◌&&◌, if◌then◌else◌}
use Rattle.std.specs.Option.{option_map}
use Rattle.jx_base.specs.declared.ids.ThreadId.{ThreadId}
use Rattle.jx_base.proofs.BasicLaws.{ap2}
use Rattle.jx_model.specs.Permits.{first_choice, first_of_choices}
use Rattle.nucleus_tables.specs.Inner.{past_in}
use Rattle.nucleus_tables.proofs.CallReads.{lives_is}
use Rattle.nucleus_tables.proofs.DomainReads.{no_choice, running_is}
use Rattle.nucleus_tables.proofs.tables.Tables.choice.Goals as goal

pub first_of_choices-requires-clause-live : goal.first_of_choices-requires-clause-live
first_of_choices-requires-clause-live c =
    sym (lives_is c.args.system.now c.args.self.now c.requires c.args.domain.0) ∙ sym c.lives.ensures ∙ c.if-lives.true

pub returns-in-Some : goal.returns-in-Some
returns-in-Some c =
    sym (no_choice c.args.system.now c.args.self.now c.requires c.args.domain.0 c.in-Some.field-0.0
    (sym c.running.ensures ∙ ap (option_map (λ (t : ThreadId). t.0)) c.in-Some.is))

pub returns-then-lives : goal.returns-then-lives
unfolding first_choice
returns-then-lives c =
    let past = past_in c.args.self.now in
    let d = c.args.domain.0 in
    c.first_of_choices.ensures
    ∙ ap2 (λ (b : Bool) (o : Option ℕ). if b && is_none o then first_of_choices past d else None)
    (sym c.if-lives.true ∙ c.lives.ensures ∙ lives_is c.args.system.now c.args.self.now c.requires d)
    (ap (option_map (λ (t : ThreadId). t.0)) (sym c.in-None.is) ∙ c.running.ensures ∙ running_is c.args.system.now c.args.self.now c.requires d)

pub returns-else-lives : goal.returns-else-lives
unfolding first_choice
returns-else-lives c =
    let past = past_in c.args.self.now in
    let d = c.args.domain.0 in
    ap2 (λ (b : Bool) (o : Option ℕ). if b && is_none o then first_of_choices past d else None)
    (sym c.if-lives.false ∙ c.lives.ensures ∙ lives_is c.args.system.now c.args.self.now c.requires d)
    (ap (option_map (λ (t : ThreadId). t.0)) (sym c.in-None.is) ∙ c.running.ensures ∙ running_is c.args.system.now c.args.self.now c.requires d)
