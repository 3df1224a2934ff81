use Rattle.std.proofs.Common.{◌∙◌, sym, ap, map, length, get_or, slice_get, arith}
use Rattle.std.proofs.lemmas.List.{get_or_default}
use Rattle.program_model.specs.Lookup.{class_count}
use Rattle.machine_start.proofs.Members.{empty_group, grouped_more, grouped_same}
use Rattle.machine_start.proofs.groups.methods_by_class.Goals as goal
use Rattle.machine_start.proofs.groups.methods_by_class.Goals.{in-Some+in_ok-add_member, in_default}

pub loop-method-init : goal.loop-method-init
unfolding class_count
loop-method-init c = λ d l.
    ap (λ gs. slice_get gs d) c.in_ok-groups.ensures ∙ empty_group (length c.as_slice.result.now) d (omega (arith, l, ap length c.as_slice.ensures))

pub loop-method-preserved : goal.loop-method-preserved
loop-method-preserved c = λ d l.
    let s = c.args.system.now in
    let methods = c.args.methods.now in
    let i = c.loop-method.method-index in
    let m = get_or methods i 0 in
    let same = get_or_default methods i 0 m c.loop-method-test.true in
    let groups = map (λ g. g.items) c.loop-method.groups.items in
    elim c.match-class_of_method.branch [
      | in-Some+in_ok-add_member w ↦
          ap (λ v. slice_get (map (λ g. g.items) v.items) d) w.groups-is ∙ ap (λ gs. slice_get gs d) w.in_ok-add_member.ensures
          ∙ grouped_more s groups methods i m d c.loop-method-test.true same w.in-Some.class (sym w.in-Some.ensures) (c.loop-method.invariant d l)
      | in_default w ↦
          ap (λ v. slice_get (map (λ g. g.items) v.items) d) w.groups-is
          ∙ grouped_same s groups methods i m d c.loop-method-test.true same (sym w.in_default.ensures) (c.loop-method.invariant d l)
    ]
