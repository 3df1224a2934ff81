use Rattle.std.proofs.Common.{◌≡◌, ◌∙◌, refl, ap, map, length, slice_get, option_map, Some, arith}
use Rattle.std.specs.Prelude.{slice_set}
use Rattle.std.proofs.lemmas.List.{map-set}
use Rattle.std.proofs.lemmas.Option.{slice_get-map, slice_get_past, slice_get_read}
use Rattle.machine_start.proofs.Members.{with_member_none, with_member_there}
use Rattle.machine_start.proofs.groups.add_member.Goals as goal

pub returns-in_ok-push : goal.returns-in_ok-push
returns-in_ok-push c =
    let groups = c.args.groups.now.items in
    let place = c.args.place in
    let old = c.index_mut.result.now in
    let there : slice_get groups place ≡ Some old = slice_get_read groups (length groups) place old refl (omega (arith, c.if-place-len.true, c.len.ensures)) c.index_mut.ensures.value in
    map-set (λ g. g.items) groups place c.push.new.self
    ∙ ap (slice_set (map (λ g. g.items) groups) place) c.in_ok-push.ensures.items
    ∙ with_member_there (map (λ g. g.items) groups) place c.args.method old.items (slice_get-map (λ g. g.items) groups place ∙ ap (option_map (λ g. g.items)) there)

pub returns-else-place-len : goal.returns-else-place-len
returns-else-place-len c =
    let groups = c.args.groups.now.items in
    let place = c.args.place in
    with_member_none (map (λ g. g.items) groups) place c.args.method
    (slice_get-map (λ g. g.items) groups place ∙ ap (option_map (λ g. g.items)) (slice_get_past groups place (omega (arith, c.if-place-len.false, c.len.ensures))))
