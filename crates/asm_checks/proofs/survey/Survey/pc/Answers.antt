use Rattle.std.proofs.Common.{◌∙◌, sym, ap}
use Rattle.asm_bodies.specs.Bodies.{pc_behind}
use Rattle.asm_checks.proofs.Following.{open_of, none_of, lines_of, no_lines}
use Rattle.asm_checks.proofs.survey.Survey.pc.Goals as goal

pub returns-in-Some : goal.returns-in-Some
returns-in-Some c past after f =
    let o = open_of c.args.self.now.body c.in-Some.body past after c.in-Some.is f.body in
    o.2.pc ∙ sym (ap (pc_behind 0) (lines_of past o.0 o.1))

pub returns-in-None : goal.returns-in-None
unfolding pc_behind
returns-in-None c past after f = sym (ap (pc_behind 0) (no_lines past (none_of c.args.self.now.body past after c.in-None.is f.body)))
