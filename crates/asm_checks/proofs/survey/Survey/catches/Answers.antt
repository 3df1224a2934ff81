use Rattle.std.proofs.Common.{◌∙◌, sym, ap}
use Rattle.asm_bodies.specs.Lines.{count_of, is_catch}
use Rattle.asm_checks.proofs.Following.{open_of, none_of, lines_of, no_lines}
use Rattle.asm_checks.proofs.survey.Survey.catches.Goals as goal

pub returns-in-Some : goal.returns-in-Some
returns-in-Some c past after f =
    let o = open_of c.args.self.now.body c.in-Some.body past after c.in-Some.is f.body in
    o.2.catches ∙ sym (ap (count_of is_catch) (lines_of past o.0 o.1))

pub returns-in-None : goal.returns-in-None
unfolding count_of
returns-in-None c past after f = sym (ap (count_of is_catch) (no_lines past (none_of c.args.self.now.body past after c.in-None.is f.body)))
