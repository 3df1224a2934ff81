use Rattle.std.proofs.Common.{◌∙◌, sym}
use Rattle.link_laws.proofs.Whole.{instrs_are}
use Rattle.linker.proofs.bodies.read_body.Goals as goal

pub returns-in-Ok-clause-found : goal.returns-in-Ok-clause-found
returns-in-Ok-clause-found c =
    let found = rw (c.as_slice.ensures, c.as_slice-2.ensures) at c.in-Ok.ensures.found in
    record {
      read = (c.from_vec.result, rw (sym c.from_vec.ensures) at found);
      instructions = c.from_vec.ensures ∙ instrs_are c.args.code.now c.in-Ok.instrs.items found;
    }
