use Rattle.std.proofs.Common.{◌≡◌, ◌+◌, ◌≤◌, ap, sym, ◌∙◌, arith, length, List}
use Rattle.turn_lock.specs.declared.view.View.{View}
use Rattle.turn_lock.specs.Entries.{Extends}
use Rattle.turn_lock.specs.Standing.{Standing, standing}
use Rattle.turn_lock.proofs.Entries.{own_room}
use Rattle.turn_lock.proofs.turn.Turn.give.Goals as goal

pub overflow_add-pass : goal.overflow_add-pass
overflow_add-pass g c =
    let v : View = c.pass.invariant.0 in let k = c.pass.invariant.2 in
    let is : standing c.pass.inside.badge.table_id c.pass.inside.badge.views ≡ c.args.pass.now = c.pass.view_is in
    let seen : c.args.pass.now.seen ≡ v.page.seen = ap (λ (p : Standing). p.seen) (sym is) ∙ ap (λ (l : List View). (standing c.pass.inside.badge.table_id l).seen) c.pass.invariant.1 in
    let domain : c.args.pass.now.domain ≡ v.page.domain = ap (λ (p : Standing). p.domain) (sym is) ∙ ap (λ (l : List View). (standing c.pass.inside.badge.table_id l).domain) c.pass.invariant.1 in
    let es = g.T.Chronicle.entries c.args.value in
    let more : Extends v.page.seen es v.page.domain = rw (← seen, ← domain) c.requires.entries in
    let room = own_room v.page.domain v.page.seen es more (λ e. c.if-count-pass.true (c.count-count.ensures.count ∙ (e ∙ k.seen_is))) in
    let le : c.pass.inside.made + 1 ≤ c.count-count.result = omega (arith, room, k.made_is, ap length k.own, c.count-count.ensures.count) in
    omega (arith, le, c.count-count.type_inv)
