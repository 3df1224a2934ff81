use Rattle.std.proofs.Common.{◌≡◌, ◌∙◌, sym, ap, List, not, true, slice_get}
use Rattle.std.specs.Result.{is_ok}
use Rattle.extent_pool.specs.declared.hole.Hole.{Hole}
use Rattle.extent_pool.specs.Joins.{hole_from, hole_end}
use Rattle.extent_pool.proofs.Places.{insert_joined, insert_plain}
use Rattle.extent_pool.proofs.hole.insert.Goals as goal

pub returns-in-Some-clause-items : goal.returns-in-Some-clause-items
returns-in-Some-clause-items c =
    let xs = c.args.holes.now.items in
    insert_joined c.args.place c.args.freed c.in-Some.right xs
    (ap (λ (ys : List Hole). hole_from (slice_get ys c.args.place) (hole_end c.args.freed)) (sym c.as_slice.ensures.value) ∙ sym c.hole_from.ensures ∙ c.in-Some.is)

pub returns-else-is_err-clause-items : goal.returns-else-is_err-clause-items
returns-else-is_err-clause-items c =
    let xs = c.args.holes.now.items in
    let inserted : is_ok c.insert.result ≡ true = c.is_err.ensures.negation ∙ ap not c.if-is_err.false in
    (rw inserted at c.insert.ensures.items)
    ∙ insert_plain c.args.place c.args.freed xs
    (ap (λ (ys : List Hole). hole_from (slice_get ys c.args.place) (hole_end c.args.freed)) (sym c.as_slice.ensures.value) ∙ sym c.hole_from.ensures ∙ c.in-None.is)
