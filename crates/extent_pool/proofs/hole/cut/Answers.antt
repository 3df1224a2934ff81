use Rattle.std.proofs.Common.{◌≡◌, ◌∙◌, sym, subst, refl, arith, length, IfSome, Option}
use Rattle.std.proofs.lemmas.Option.{slice_get_read}
use Rattle.extent_pool.specs.declared.hole.Hole.{Hole}
use Rattle.extent_pool.proofs.Cuts.{cut_removed, cut_set}
use Rattle.extent_pool.proofs.Places.{unequal}
use Rattle.extent_pool.proofs.hole.cut.Goals as goal

pub returns-then-hole-n-clause-items : goal.returns-then-hole-n-clause-items
returns-then-hole-n-clause-items c =
    let xs = c.args.holes.now.items in let h = c.index-hole.result.now in
    let read = slice_get_read xs (length xs) c.args.place h refl (omega (arith, c.requires.hole, c.args.holes.now.ok.0)) c.index-hole.ensures in
    c.remove.ensures.items ∙ cut_removed c.args.n c.args.place h xs read c.if-hole-n.true

pub returns-else-hole-n-clause-at : goal.returns-else-hole-n-clause-at
returns-else-hole-n-clause-at c =
    let xs = c.args.holes.now.items in let h = c.index-hole.result.now in
    let read = slice_get_read xs (length xs) c.args.place h refl (omega (arith, c.requires.hole, c.args.holes.now.ok.0)) c.index-hole.ensures in
    subst (λ (o : Option Hole). IfSome o (λ hole. h.at ≡ hole.at)) (sym read) refl

pub returns-else-hole-n-clause-items : goal.returns-else-hole-n-clause-items
returns-else-hole-n-clause-items c =
    let xs = c.args.holes.now.items in let h = c.index-hole.result.now in
    let read = slice_get_read xs (length xs) c.args.place h refl (omega (arith, c.requires.hole, c.args.holes.now.ok.0)) c.index-hole.ensures in
    cut_set c.args.n c.args.place h xs read (unequal h.count c.args.n c.if-hole-n.false)
