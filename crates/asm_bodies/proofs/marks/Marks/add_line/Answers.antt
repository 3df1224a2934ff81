use Rattle.std.proofs.Common.{◌∙◌, sym, ap, ◌++◌, List, append-nil}
use Rattle.std.proofs.lemmas.Result.{on_ok_weaker}
use Rattle.asm_bodies.specs.Bodies.{Mark, line_marks, mark_of}
use Rattle.asm_bodies.proofs.MarkLaws.{no_mark}
use Rattle.asm_bodies.proofs.marks.Marks.add_line.Goals as goal

pub returns-in-Label : goal.returns-in-Label
unfolding line_marks
returns-in-Label c =
    on_ok_weaker c.add.result (λ added other. added other ∙ ap (λ (more : List Mark). mark_of (c.args.self.now ++ more) other) (sym (ap (line_marks c.args.pc) c.in-Label.is))) c.add.ensures

pub returns-in_default : goal.returns-in_default
returns-in_default c other =
    let marks = c.args.self.now in
    ap (λ (marks : List Mark). mark_of marks other) (sym (append-nil marks) ∙ ap (λ (more : List Mark). marks ++ more) (no_mark c.args.pc c.args.line.now c.in_default.not-Label))
