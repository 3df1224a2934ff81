use Rattle.std.proofs.Common.{◌∙◌, sym, ap}
use Rattle.asm_bodies.specs.Bodies.{has_label}
use Rattle.asm_checks.specs.Faults.{is_twice}
use Rattle.asm_checks.proofs.Following.{open_of, none_of, lines_of, no_lines, no_label}
use Rattle.asm_checks.proofs.survey.Survey.is_twice.Goals as goal

pub returns-in-Some : goal.returns-in-Some
unfolding is_twice
returns-in-Some c past after f =
    let o = open_of c.args.self.now.body c.in-Some.body past _ c.in-Some.is f.body in
    rw c.in-Label.is (c.contains.ensures ∙ (o.2.seen c.in-Label.name ∙ sym (ap (has_label c.in-Label.name) (lines_of past o.0 o.1))))

pub returns-in-None : goal.returns-in-None
unfolding is_twice has_label
returns-in-None c past after f =
    rw c.in-Label.is (sym (ap (has_label c.in-Label.name) (no_lines past (none_of c.args.self.now.body past _ c.in-None.is f.body))))

pub returns-in_default : goal.returns-in_default
returns-in_default c past after f = sym (no_label past c.args.line.now c.in_default.not-Label)
