use Rattle.std.proofs.Common.{◌∙◌, ap, sym, arith}
use Rattle.link_model.specs.LinkFaults.{listed_place}
use Rattle.linker_lists.proofs.Places.{in_table, left_out, none_listed, some_listed}
use Rattle.linker_lists.proofs.template_classes.TemplateClasses.place.Goals as goal

pub returns-in_err-place : goal.returns-in_err-place
returns-in_err-place c =
    let own = c.self.inside in
    c.from_residual.ensures
    ∙ none_listed own.plan.now own.template.now own.names.now own.listed.items c.args.name.now c.self.invariant.0 c.self.invariant.1 c.self.invariant.2
    (sym c.in_err-place.was ∙ c.find.ensures)
    ∙ ap (λ v. listed_place v.plan v.template c.args.name.now) c.self.view_is

pub index-requires : goal.index-requires
index-requires c =
    let own = c.self.inside in
    omega (
      arith,
      own.listed.ok.0,
      in_table own.plan.now own.template.now own.names.now own.listed.items c.args.name.now c.self.invariant.0 c.self.invariant.1 c.self.invariant.2 c.in_ok-place.place
          (sym c.in_ok-place.was ∙ c.find.ensures),
    )

pub returns-then-index : goal.returns-then-index
returns-then-index c =
    let own = c.self.inside in
    some_listed own.plan.now own.template.now own.names.now own.listed.items c.args.name.now c.self.invariant.0 c.self.invariant.1 c.self.invariant.2 c.in_ok-place.place
    (sym c.in_ok-place.was ∙ c.find.ensures) c.index.result.now c.index.ensures c.if-index.true
    ∙ ap (λ v. listed_place v.plan v.template c.args.name.now) c.self.view_is

pub returns-else-index : goal.returns-else-index
returns-else-index c =
    let own = c.self.inside in
    left_out own.plan.now own.template.now own.names.now own.listed.items c.args.name.now c.self.invariant.0 c.self.invariant.1 c.self.invariant.2 c.in_ok-place.place
    (sym c.in_ok-place.was ∙ c.find.ensures) c.index.result.now c.index.ensures c.if-index.false
    ∙ ap (λ v. listed_place v.plan v.template c.args.name.now) c.self.view_is
