use Rattle.class_grammar.proofs.CodeLengths.{has_short_codes}
use Rattle.jx_top.proofs.read_classes.read_whole.Goals as goal

pub read_methods-requires : goal.read_methods-requires
read_methods-requires c = rw c.as_slice.ensures (has_short_codes c.args.bytes.now c.in-Ok.file c.in-Ok.ensures.found)
