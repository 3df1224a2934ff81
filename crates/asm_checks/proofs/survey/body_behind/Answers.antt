use Rattle.std.proofs.Common.{◌∙◌, refl, sym, ◌++◌, ◌∷◌, []}
use Rattle.asm_bodies.specs.Bodies.{open_body}
use Rattle.asm_checks.proofs.Following.{open_of, none_of, stays_closed}
use Rattle.asm_checks.proofs.survey.body_behind.Goals as goal

pub returns-then-is_method : goal.returns-then-is_method
unfolding open_body
returns-then-is_method c past f = ([], rw (sym c.is_method.ensures ∙ c.if-is_method.true) refl, c.in_ok-open.ensures)

pub returns-in_ok-with_line-in-Some : goal.returns-in_ok-with_line-in-Some
unfolding open_body
returns-in_ok-with_line-in-Some c past f =
    let l = c.args.line.now in
    let o = open_of c.args.body c.in-Some.body past _ c.in-Some.is f in
    let on = sym c.goes_on.ensures ∙ c.if-goes_on.true in
    (o.0 ++ l ∷ [], rw (sym c.is_method.ensures ∙ c.if-is_method.false, on, o.1) refl, c.in_ok-with_line-in-Some.ensures o.0 c.args.after.now o.2 on)

pub returns-else-goes_on : goal.returns-else-goes_on
unfolding open_body
returns-else-goes_on c past f = rw (sym c.is_method.ensures ∙ c.if-is_method.false, sym c.goes_on.ensures ∙ c.if-goes_on.false) refl

pub returns-in-None : goal.returns-in-None
returns-in-None c past f = stays_closed past c.args.line.now (none_of c.args.body past _ c.in-None.is f) (sym c.is_method.ensures ∙ c.if-is_method.false)
