use Rattle.std.proofs.Common.{sym, ◌∙◌, ap, subst, List, [], Option, refl}
use Rattle.std.specs.Option.{option_map}
use Rattle.std.proofs.lemmas.List.{take_all}
use Rattle.jx_base.specs.declared.ids.ObjectId.{ObjectId}
use Rattle.jx_base.specs.declared.value.Word.{Word}
use Rattle.memory_objects.specs.ObjectLists.{with_record}
use Rattle.memory_space.specs.SpaceLists.{SpaceState, objects_in, with_objects}
use Rattle.parcel_carriage.specs.Changes.{Allows, changed_by, is_new, with_those}
use Rattle.parcel_carriage.proofs.ObjectSteps.{allows_made, those_none, word_allows, word_changed, word_left, word_may}
use Rattle.parcel_carriage.proofs.changes.change_words.Goals as goal
use Rattle.parcel_carriage.proofs.changes.change_words.Goals.{in-Some, in_default}

pub loop-place-init : goal.loop-place-init
loop-place-init c = ap (with_objects c.args.space.now) (those_none c.args.change (objects_in c.args.space.now) (is_new c.args.roots.now c.args.nodes.now []) (λ j. refl))

pub apply-requires : goal.apply-requires
apply-requires c =
    let found = sym (ap (λ (o : Option ObjectId). option_map (λ o. o.0) o) c.in-Some.is) ∙ c.new_object.ensures in
    subst (λ (z : SpaceState). Allows c.args.change (objects_in z) c.in-Some.object.0) (sym c.loop-place.invariant)
    (word_may c.args.change (objects_in c.args.space.now) c.args.roots.now c.args.nodes.now c.args.words.now c.loop-place.place _ c.loop-place-test.true c.in-Some.object.0 found c.requires)

pub loop-place-preserved : goal.loop-place-preserved
loop-place-preserved c =
    elim c.match-new_object.branch [
      | in-Some w ↦
          let found = sym (ap (λ (o : Option ObjectId). option_map (λ o. o.0) o) w.in-Some.is) ∙ c.new_object.ensures in
          let may = word_allows c.args.change (objects_in c.args.space.now) c.args.roots.now c.args.nodes.now c.args.words.now c.loop-place.place _ c.loop-place-test.true w.in-Some.object.0 found c.requires in
          w.space-is ∙ w.apply.ensures
          ∙ ap (λ (z : SpaceState). with_objects z (with_record (objects_in z) w.in-Some.object.0 (changed_by c.args.change))) c.loop-place.invariant
          ∙ ap (with_objects c.args.space.now) (word_changed c.args.change (objects_in c.args.space.now) c.args.roots.now c.args.nodes.now c.args.words.now c.loop-place.place _ c.loop-place-test.true w.in-Some.object.0 found (allows_made c.args.change (objects_in c.args.space.now) w.in-Some.object.0 may))
      | in_default w ↦
          let none = sym (ap (λ (o : Option ObjectId). option_map (λ o. o.0) o) w.in_default.is) ∙ c.new_object.ensures in
          w.space-is ∙ c.loop-place.invariant
          ∙ ap (with_objects c.args.space.now) (word_left c.args.change (objects_in c.args.space.now) c.args.roots.now c.args.nodes.now c.args.words.now c.loop-place.place _ c.loop-place-test.true none)
    ]

pub returns : goal.returns
returns c =
    c.loop-place.invariant
    ∙ ap (λ (words : List Word). with_objects c.args.space.now (with_those c.args.change (is_new c.args.roots.now c.args.nodes.now words) (objects_in c.args.space.now))) (take_all c.loop-place.place c.args.words.now c.loop-place-test.false)
