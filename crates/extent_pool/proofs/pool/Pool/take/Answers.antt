use Rattle.std.proofs.Common.{◌≡◌, ◌∙◌, ◌+◌, ◌≤◌, sym, ap, subst, arith, List, Some, None, IfSome, Option, slice_get, sum_by}
use Rattle.extent_pool.specs.declared.hole.Hole.{Hole}
use Rattle.extent_pool.specs.Holes.{AreApart}
use Rattle.extent_pool.proofs.Apart.{have_ends}
use Rattle.extent_pool.proofs.Cuts.{cut_apart, cut_sum}
use Rattle.extent_pool.proofs.Pools.{hole_at, found_at, found_large, found_place, found_none, taken_view, taken_given, found_in, if_some}
use Rattle.extent_pool.proofs.pool.Pool.take.Goals as goal

pub returns-in_err-place-clause-place : goal.returns-in_err-place-clause-place
returns-in_err-place-clause-place c =
    let p = c.self.inside in
    let none = found_in c.args.n c.as_slice.result.now p.holes.items c.first_large.result None c.as_slice.ensures.value c.first_large.ensures c.in_err-place.was in
    c.from_residual.ensures ∙ found_none p.granules c.args.n p.holes.items c.args.self.now c.self.view_is c.requires c.self.invariant.apart none

pub cut-at-requires-clause-large : goal.cut-at-requires-clause-large
cut-at-requires-clause-large c =
    let p = c.self.inside in
    let some = found_in c.args.n c.as_slice.result.now p.holes.items c.first_large.result (Some c.in_ok-place.place) c.as_slice.ensures.value c.first_large.ensures c.in_ok-place.was in
    subst (λ (o : Option Hole). IfSome o (λ h. c.args.n ≤ h.count)) (sym (found_at c.args.n c.in_ok-place.place p.holes.items some))
    (found_large c.args.n c.in_ok-place.place p.holes.items some)

pub cut-at-requires-clause-ends : goal.cut-at-requires-clause-ends
cut-at-requires-clause-ends c = have_ends c.self.inside.granules c.self.inside.holes.items 0 c.self.invariant.small c.self.invariant.apart

pub overflow_sub-self : goal.overflow_sub-self
overflow_sub-self c =
    let p = c.self.inside in let i = c.in_ok-place.place in let n = c.args.n in let holes = p.holes.items in
    let some = found_in n c.as_slice.result.now holes c.first_large.result (Some i) c.as_slice.ensures.value c.first_large.ensures c.in_ok-place.was in
    omega (arith, cut_sum n i (hole_at holes i) holes (found_at n i holes some) (found_large n i holes some), c.self.invariant.counted)

pub invariant_of-self : goal.invariant_of-self
invariant_of-self c =
    let p = c.self.inside in let i = c.in_ok-place.place in let n = c.args.n in let holes = p.holes.items in
    let some = found_in n c.as_slice.result.now holes c.first_large.result (Some i) c.as_slice.ensures.value c.first_large.ensures c.in_ok-place.was in
    let at = found_at n i holes some in let fits = found_large n i holes some in
    record {
      apart = subst (λ (hs : List Hole). AreApart 0 (p.granules + 1) hs) (sym c.cut-at.ensures.items) (cut_apart n 0 (p.granules + 1) i (hole_at holes i) holes at fits c.self.invariant.apart);
      counted = omega (arith, ap (λ (hs : List Hole). sum_by (λ (h : Hole). h.count) hs) c.cut-at.ensures.items, cut_sum n i (hole_at holes i) holes at fits, c.self.invariant.counted);
      room = omega (arith, c.cut-at.ensures.capacity, c.self.invariant.room);
      small = c.self.invariant.small;
    }

pub returns-clause-place : goal.returns-clause-place
returns-clause-place c =
    let p = c.self.inside in let i = c.in_ok-place.place in let n = c.args.n in let holes = p.holes.items in
    let some = found_in n c.as_slice.result.now holes c.first_large.result (Some i) c.as_slice.ensures.value c.first_large.ensures c.in_ok-place.was in
    found_place p.granules n i c.cut-at.result holes c.args.self.now c.self.view_is c.requires c.self.invariant.apart some
    (if_some (λ (h : Hole). c.cut-at.result ≡ h.at) (slice_get holes i) (hole_at holes i) (found_at n i holes some) c.cut-at.ensures.at)

pub returns-clause-taken : goal.returns-clause-taken
returns-clause-taken c =
    let p = c.self.inside in let i = c.in_ok-place.place in let n = c.args.n in let holes = p.holes.items in
    let some = found_in n c.as_slice.result.now holes c.first_large.result (Some i) c.as_slice.ensures.value c.first_large.ensures c.in_ok-place.was in
    taken_view p.granules n i c.cut-at.result (hole_at holes i) holes c.cut-at.new.holes.items c.args.self.now c.self.view_is c.self.invariant.apart
    (found_at n i holes some) (found_large n i holes some) c.cut-at.ensures.items
    (if_some (λ (h : Hole). c.cut-at.result ≡ h.at) (slice_get holes i) (hole_at holes i) (found_at n i holes some) c.cut-at.ensures.at)

pub returns-clause-given : goal.returns-clause-given
returns-clause-given c =
    let p = c.self.inside in let i = c.in_ok-place.place in let n = c.args.n in let holes = p.holes.items in
    let some = found_in n c.as_slice.result.now holes c.first_large.result (Some i) c.as_slice.ensures.value c.first_large.ensures c.in_ok-place.was in
    taken_given p.granules n i c.cut-at.result (hole_at holes i) holes c.cut-at.new.holes.items c.args.self.now c.self.view_is c.self.invariant.apart
    (found_at n i holes some) (found_large n i holes some) c.cut-at.ensures.items
    (if_some (λ (h : Hole). c.cut-at.result ≡ h.at) (slice_get holes i) (hole_at holes i) (found_at n i holes some) c.cut-at.ensures.at)
