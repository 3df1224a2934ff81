use Rattle.std.proofs.Common.{◌≡◌, ◌∙◌, sym, ap, ◌+◌, ℕ, suc, List, ◌++◌, slice_get, set, take, drop, arith}
use Rattle.extent_pool.specs.declared.hole.Hole.{Hole}
use Rattle.extent_pool.specs.Joins.{hole_from}
use Rattle.extent_pool.proofs.Places.{longer_joined, longer_plain}
use Rattle.extent_pool.proofs.hole.lengthen.Goals as goal

pub returns-in-Some-clause-items : goal.returns-in-Some-clause-items
returns-in-Some-clause-items c =
    let xs = c.args.holes.now.items in let h = c.args.hole in let n = c.args.n in let i = c.args.place in let r = c.in-Some.right in
    let one : i + 1 ≡ suc i = omega arith in
    let both : Hole = record { at = h.at; count = h.count + n + r.count } in
    ap (λ (ys : List Hole). set ys i both) c.remove.ensures.items
    ∙ ap (λ (k : ℕ). set (take k xs ++ drop (suc k) xs) i both) one
    ∙ longer_joined i n h r xs c.requires.hole
    (ap (λ (k : ℕ). hole_from (slice_get xs k) (h.at + (h.count + n))) (sym one)
    ∙ ap (λ (ys : List Hole). hole_from (slice_get ys (i + 1)) (h.at + (h.count + n))) (sym c.as_slice.ensures.value) ∙ sym c.hole_from.ensures ∙ c.in-Some.is)

pub returns-in-None-clause-items : goal.returns-in-None-clause-items
returns-in-None-clause-items c =
    let xs = c.args.holes.now.items in let h = c.args.hole in let n = c.args.n in let i = c.args.place in
    let one : i + 1 ≡ suc i = omega arith in
    longer_plain i n h xs c.requires.hole
    (ap (λ (k : ℕ). hole_from (slice_get xs k) (h.at + (h.count + n))) (sym one)
    ∙ ap (λ (ys : List Hole). hole_from (slice_get ys (i + 1)) (h.at + (h.count + n))) (sym c.as_slice.ensures.value) ∙ sym c.hole_from.ensures ∙ c.in-None.is)
