use Rattle.std.proofs.Common.{◌≡◌, ◌∙◌, ◌+◌, ◌<◌, ◌≤◌, sym, ap, subst, arith, List, ℕ, length, take, drop, sum_by}
use Rattle.std.specs.List.{AllWithin}
use Rattle.extent_pool.specs.declared.hole.Hole.{Hole}
use Rattle.extent_pool.specs.Holes.{AreApart}
use Rattle.extent_pool.specs.Joins.{AreInOrder, joined}
use Rattle.extent_pool.proofs.Apart.{have_ends, length_bound, sum_within}
use Rattle.extent_pool.proofs.Places.{in_order}
use Rattle.extent_pool.proofs.Pools.{given_apart, given_sum, given_view, given_end, given_none, IsSplit}
use Rattle.extent_pool.proofs.pool.Pool.give.Goals as goal

pub returns-then-n-eq0 : goal.returns-then-n-eq0
returns-then-n-eq0 c = given_none c.args.self.now c.args.at c.args.n c.if-n-eq0.true

pub holes_before-before-requires : goal.holes_before-before-requires
holes_before-before-requires c =
    let p = c.self.inside in
    subst (λ (hs : List Hole). AreInOrder hs) (sym c.as_slice.ensures.value) (in_order 0 (p.granules + 1) p.holes.items c.self.invariant.apart)

pub release-requires-clause-room : goal.release-requires-clause-room
release-requires-clause-room c =
    let p = c.self.inside in
    omega (arith, length_bound 0 (p.granules + 1) p.holes.items c.self.invariant.apart (omega arith), c.self.invariant.room, p.holes.ok.0)

pub release-requires-clause-ends : goal.release-requires-clause-ends
release-requires-clause-ends c = have_ends c.self.inside.granules c.self.inside.holes.items 0 c.self.invariant.small c.self.invariant.apart

split_of : (slice holes : List Hole) (at b : ℕ) → slice ≡ holes → b ≤ length slice → AllWithin (λ h. h.at < at) slice 0 b → AllWithin (λ h. at ≤ h.at) slice b (length slice) →
    IsSplit holes at b
split_of slice holes at b e l f g = subst (λ (xs : List Hole). IsSplit xs at b) e (l, f, g)

pub release-requires-clause-end : goal.release-requires-clause-end
release-requires-clause-end c =
    let p = c.self.inside in let b = c.holes_before-before.result in let is = c.holes_before-before.ensures in
    let split = split_of c.as_slice.result.now p.holes.items c.args.at b c.as_slice.ensures.value is.bound is.before is.behind in
    omega (
      arith,
      c.self.invariant.small,
      given_end p.granules c.args.at c.args.n b p.holes.items c.args.self.now c.self.view_is c.self.invariant.apart c.requires (omega (arith, c.if-n-eq0.false)) split,
    )

pub overflow_add-self : goal.overflow_add-self
overflow_add-self c =
    let p = c.self.inside in let b = c.holes_before-before.result in let is = c.holes_before-before.ensures in
    let at = c.args.at in let n = c.args.n in let holes = p.holes.items in
    let split = split_of c.as_slice.result.now holes at b c.as_slice.ensures.value is.bound is.before is.behind in
    let some : 0 < n = omega (arith, c.if-n-eq0.false) in
    let apart = given_apart p.granules at n b holes c.args.self.now c.self.view_is c.self.invariant.apart c.requires some split in
    let sum = given_sum p.granules at n b holes c.args.self.now c.self.view_is c.self.invariant.apart c.requires some split in
    omega (arith, sum, sum_within p.granules (joined (take b holes) (record { at = at; count = n }) (drop b holes)) apart, c.self.invariant.counted, c.self.invariant.small)

pub invariant_of-self : goal.invariant_of-self
invariant_of-self c =
    let p = c.self.inside in let b = c.holes_before-before.result in let is = c.holes_before-before.ensures in
    let at = c.args.at in let n = c.args.n in let holes = p.holes.items in
    let split = split_of c.as_slice.result.now holes at b c.as_slice.ensures.value is.bound is.before is.behind in
    let some : 0 < n = omega (arith, c.if-n-eq0.false) in
    let apart = given_apart p.granules at n b holes c.args.self.now c.self.view_is c.self.invariant.apart c.requires some split in
    let sum = given_sum p.granules at n b holes c.args.self.now c.self.view_is c.self.invariant.apart c.requires some split in
    record {
      apart = subst (λ (hs : List Hole). AreApart 0 (p.granules + 1) hs) (sym c.release.ensures.items) apart;
      counted = ap (λ (hs : List Hole). sum_by (λ (h : Hole). h.count) hs) c.release.ensures.items ∙ sum ∙ ap (λ (x : ℕ). x + n) c.self.invariant.counted;
      room = omega (arith, c.release.ensures.capacity, c.self.invariant.room);
      small = c.self.invariant.small;
    }

pub returns : goal.returns
returns c =
    let p = c.self.inside in let b = c.holes_before-before.result in let is = c.holes_before-before.ensures in
    let at = c.args.at in let n = c.args.n in let holes = p.holes.items in
    let split = split_of c.as_slice.result.now holes at b c.as_slice.ensures.value is.bound is.before is.behind in
    given_view p.granules at n b holes c.args.self.now c.self.view_is c.self.invariant.apart c.requires (omega (arith, c.if-n-eq0.false)) split
    c.release.new.holes.items c.release.ensures.items
