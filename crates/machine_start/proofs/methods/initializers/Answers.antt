use Rattle.std.proofs.Common.{◌≡◌, ◌∙◌, refl, sym, ap, map, length, get_or, slice_get, option_map, Some, List, ℕ, arith}
use Rattle.std.specs.Prelude.{filter, flat_map}
use Rattle.std.proofs.lemmas.List.{length-map, take_all}
use Rattle.std.proofs.lemmas.Option.{slice_get-map, slice_get_read, slice_get_within}
use Rattle.machine_model.specs.MachineThreads.{is_initializer_selector}
use Rattle.machine_model.specs.Start.{initializers, started_classes, static_methods}
use Rattle.machine_start.specs.Found.{is_declared_at}
use Rattle.machine_start.proofs.Placed.{started_at}
use Rattle.machine_start.proofs.Started.{initializers_of, more_of_class}
use Rattle.machine_start.proofs.methods.initializers.Goals as goal

some_same : {xs ys : List ℕ} → Some xs ≡ Some ys → xs ≡ ys
some_same e = cc

pub index-requires : goal.index-requires
index-requires c =
    let s = c.args.system.now in
    let x = get_or c.as_slice-class-items.result.now c.loop-class.class-index 0 in
    let groups = c.in_ok-groups.groups.items in
    let l = started_at s c.as_slice-2.result.now c.as_slice-class-items.result.now c.loop-class.class-index (c.as_slice-class-items.ensures.keys ∙ c.in_ok-classes.ensures) c.loop-class-test.true in
    let within = slice_get_within (map (λ g. g.items) groups) x (filter (is_declared_at s x) c.as_slice.result.now) (c.in_ok-groups.ensures x l) in
    omega (arith, within, length-map groups (λ g. g.items))

pub loop-class-preserved : goal.loop-class-preserved
loop-class-preserved c =
    let s = c.args.system.now in
    let i = c.loop-class.class-index in
    let items = c.as_slice-class-items.result.now in
    let x = get_or items i 0 in
    let groups = c.in_ok-groups.groups.items in
    let group = c.index.result.now in
    let found = c.as_slice.result.now in
    let l = started_at s c.as_slice-2.result.now items i (c.as_slice-class-items.ensures.keys ∙ c.in_ok-classes.ensures) c.loop-class-test.true in
    let within = slice_get_within (map (λ g. g.items) groups) x (filter (is_declared_at s x) found) (c.in_ok-groups.ensures x l) in
    let there : slice_get groups x ≡ Some group =
    slice_get_read groups (length groups) x group refl (omega (arith, within, length-map groups (λ g. g.items))) c.index.ensures in
    let same : group.items ≡ filter (is_declared_at s x) found =
    some_same (sym (slice_get-map (λ g. g.items) groups x ∙ ap (option_map (λ g. g.items)) there) ∙ c.in_ok-groups.ensures x l) in
    more_of_class (static_methods s is_initializer_selector) items i c.loop-class.methods.items c.extend_from_slice.new.self.items c.as_slice-in-loop-class.result.now
    c.loop-class-test.true c.in_ok-extend_from_slice.ensures.items c.loop-class.invariant
    (c.as_slice-in-loop-class.ensures.value ∙ same
    ∙ ap (filter (is_declared_at s x)) (c.as_slice.ensures.value ∙ c.in_ok-found.ensures)
    ∙ initializers_of s c.in_ok-initializer_selector.field-0 x c.in_ok-initializer_selector.ensures)

pub returns : goal.returns
unfolding initializers
returns c =
    c.loop-class.invariant
    ∙ ap (flat_map (static_methods c.args.system.now is_initializer_selector))
    (take_all c.loop-class.class-index c.as_slice-class-items.result.now (omega (arith, c.loop-class-test.false))
    ∙ c.as_slice-class-items.ensures.keys ∙ c.in_ok-classes.ensures ∙ ap (λ ps. started_classes c.args.system.now ps) c.as_slice-2.ensures)
