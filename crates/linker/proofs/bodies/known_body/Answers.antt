use Rattle.std.proofs.Common.{◌∙◌}
use Rattle.link_laws.proofs.Whole.{instrs_are}
use Rattle.linker.proofs.bodies.known_body.Goals as goal

pub returns-in-Ok : goal.returns-in-Ok
returns-in-Ok c =
    let found = rw (c.as_slice.ensures, c.as_slice-2.ensures) at c.in-Ok.ensures.found in
    c.from_vec.ensures ∙ instrs_are c.args.code.now c.in-Ok.instrs.items found
