use Rattle.std.proofs.Common.{◌∙◌, ap}
use Rattle.asm_bodies.specs.Bodies.{mark_of}
use Rattle.asm_bodies.proofs.MarkLaws.{mark_found}
use Rattle.asm_bodies.proofs.marks.Marks.pc_of.Goals as goal

pub returns : goal.returns
returns c =
    c.copied.ensures ∙ (c.get.ensures.value
    ∙ (mark_found c.self.inside.pcs.entries c.args.name.now ∙ ap (λ marks. mark_of marks c.args.name.now) c.self.view_is))
