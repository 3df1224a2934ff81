use Rattle.std.proofs.Common.{◌≡◌, ◌∙◌, sym, ap, refl, ◌-◌, ◌==◌, ℕ, suc, ◌++◌, length, take, drop, true, arith}
use Rattle.std.proofs.lemmas.Option.{slice_get_read}
use Rattle.jx_base.proofs.BasicLaws.{same_number}
use Rattle.extent_pool.specs.Joins.{joined, hole_end, before_holes}
use Rattle.extent_pool.proofs.Places.{release_left, release_plain, release_first, unequal}
use Rattle.extent_pool.proofs.hole.release.Goals as goal
use Rattle.extent_pool.proofs.hole.release.Goals.{then-before-gt0+else-left-freed, else-before-gt0}

pub returns-then-left-freed-clause-items : goal.returns-then-left-freed-clause-items
returns-then-left-freed-clause-items c =
    let xs = c.args.holes.now.items in let left = c.index-left.result.now in let f = c.args.freed in let i = c.args.before - 1 in
    let read = slice_get_read xs (length xs) i left refl (omega (arith, c.requires.before, c.if-before-gt0.true, c.args.holes.now.ok.0)) c.index-left.ensures in
    let touch : (hole_end left == f.at) ≡ true = ap (λ (x : ℕ). x == f.at) c.if-left-freed.true ∙ same_number f.at in
    let whole : suc i ≡ c.args.before = omega (arith, c.if-before-gt0.true) in
    c.lengthen.ensures.items ∙ release_left i left f xs read touch
    ∙ ap (λ (k : ℕ). joined (take k xs) f (drop k xs)) whole

pub returns-clause-items : goal.returns-clause-items
returns-clause-items c =
    let xs = c.args.holes.now.items in let f = c.args.freed in let i = c.args.before - 1 in
    elim c.if-before-gt0.branch [
      | then-before-gt0+else-left-freed w ↦
          let left = w.index-left.result.now in
          let read = slice_get_read xs (length xs) i left refl (omega (arith, c.requires.before, w.if-before-gt0.true, c.args.holes.now.ok.0)) w.index-left.ensures in
          let whole : c.args.before ≡ suc i = omega (arith, w.if-before-gt0.true) in
          c.insert.ensures.items
          ∙ ap (λ (k : ℕ). take k xs ++ before_holes f (drop k xs)) whole
          ∙ release_plain i left f xs read (unequal (hole_end left) f.at w.if-left-freed.false)
          ∙ ap (λ (k : ℕ). joined (take k xs) f (drop k xs)) (sym whole)
      | else-before-gt0 w ↦ c.insert.ensures.items ∙ release_first c.args.before f xs (omega (arith, w.if-before-gt0.false))
    ]
