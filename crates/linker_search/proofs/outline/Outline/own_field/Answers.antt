use Rattle.std.proofs.Common.{◌≡◌, ◌∙◌, sym, ap, Some, None}
use Rattle.link_model.specs.Linking.{own_field}
use Rattle.linker_names.specs.Names.{selector_of}
use Rattle.jx_base.proofs.BasicLaws.{ap2}
use Rattle.linker_search.specs.OwnFields.{instance_place, of_class, static_place}
use Rattle.linker_search.proofs.Finding.{field_at, own_field_at}
use Rattle.linker_search.proofs.outline.Outline.own_field.Goals as goal

pub returns-in-Some : goal.returns-in-Some
returns-in-Some c =
    let s = c.self.inside.system in
    let x = selector_of c.args.member in
    let class = c.args.class in
    let instance : of_class (instance_place x) s.program.classes class ≡ Some c.in-Some.place.now = sym (c.self.invariant.instances class x) ∙ sym c.in-Some.ensures.value in
    sym (own_field_at s x class ∙ ap (λ o. field_at class o (of_class (static_place s.program.classes x) s.program.classes class)) instance)
    ∙ ap (λ s. own_field s x class) c.self.view_is

pub returns-in-Some-get : goal.returns-in-Some-get
returns-in-Some-get c =
    let s = c.self.inside.system in
    let x = selector_of c.args.member in
    let class = c.args.class in
    let instance : of_class (instance_place x) s.program.classes class ≡ None = sym (c.self.invariant.instances class x) ∙ sym c.in_default.ensures.value in
    let static : of_class (static_place s.program.classes x) s.program.classes class ≡ Some c.in-Some-get.place.now = sym (c.self.invariant.statics class x) ∙ sym c.in-Some-get.ensures.value in
    sym (own_field_at s x class ∙ ap2 (field_at class) instance static) ∙ ap (λ s. own_field s x class) c.self.view_is

pub returns-in-None : goal.returns-in-None
returns-in-None c =
    let s = c.self.inside.system in
    let x = selector_of c.args.member in
    let class = c.args.class in
    let instance : of_class (instance_place x) s.program.classes class ≡ None = sym (c.self.invariant.instances class x) ∙ sym c.in_default.ensures.value in
    let static : of_class (static_place s.program.classes x) s.program.classes class ≡ None = sym (c.self.invariant.statics class x) ∙ sym c.in-None.ensures.value in
    sym (own_field_at s x class ∙ ap2 (field_at class) instance static) ∙ ap (λ s. own_field s x class) c.self.view_is
