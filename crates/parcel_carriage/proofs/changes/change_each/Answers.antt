use Rattle.std.proofs.Common.{◌≡◌, sym, ◌∙◌, ap, subst, ℕ, true, List, take}
use Rattle.std.proofs.lemmas.List.{take_all}
use Rattle.jx_base.proofs.BasicLaws.{ap2}
use Rattle.jx_base.specs.declared.value.Node.{Node}
use Rattle.jx_base.specs.declared.value.Word.{Word}
use Rattle.memory_space.specs.SpaceLists.{SpaceState, objects_in, with_objects}
use Rattle.parcel_carriage.specs.Changes.{Allows, is_new, stands_in, with_those}
use Rattle.parcel_carriage.proofs.ObjectSteps.{node_changed, node_may}
use Rattle.parcel_carriage.proofs.changes.change_each.Goals as goal

pub change_words-requires-in-loop-place : goal.change_words-requires-in-loop-place
change_words-requires-in-loop-place c m q g =
    let roots = c.as_slice-roots.result.now in let nodes = c.as_slice-nodes.result.now in
    let all : (m : ℕ) → stands_in roots nodes m ≡ true → Allows c.args.change (objects_in c.args.space.now) m =
    λ m h. c.requires m (ap2 (λ (ws : List Word) (ns : List Node). stands_in ws ns m) (sym c.as_slice-roots.ensures) (sym c.as_slice-nodes.ensures) ∙ h) in
    subst (λ (z : SpaceState). Allows c.args.change (objects_in z) m) (sym c.loop-place.invariant)
    (node_may c.args.change (objects_in c.args.space.now) roots nodes c.loop-place.place c.index-nodes-place.result c.as_slice.result.now c.loop-place-test.true c.index-nodes-place.is c.as_slice.ensures all m q g)

pub loop-place-preserved : goal.loop-place-preserved
loop-place-preserved c =
    let roots = c.as_slice-roots.result.now in let nodes = c.as_slice-nodes.result.now in
    c.change_words-in-loop-place.ensures
    ∙ ap (λ (z : SpaceState). with_objects z (with_those c.args.change (is_new roots (take c.loop-place.place nodes) c.as_slice.result.now) (objects_in z))) c.loop-place.invariant
    ∙ ap (with_objects c.args.space.now) (node_changed c.args.change (objects_in c.args.space.now) roots nodes c.loop-place.place c.index-nodes-place.result c.as_slice.result.now c.loop-place-test.true c.index-nodes-place.is c.as_slice.ensures)

pub returns : goal.returns
returns c =
    c.loop-place.invariant
    ∙ ap2 (λ (ws : List Word) (ns : List Node). with_objects c.args.space.now (with_those c.args.change (stands_in ws ns) (objects_in c.args.space.now))) c.as_slice-roots.ensures
    (take_all c.loop-place.place c.as_slice-nodes.result.now c.loop-place-test.false ∙ c.as_slice-nodes.ensures)
