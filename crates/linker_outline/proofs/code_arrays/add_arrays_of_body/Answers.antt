use Rattle.std.proofs.Common.{◌∙◌, [], refl, sym, ap, arith}
use Rattle.std.specs.Str.{bytes_eq}
use Rattle.jx_base.specs.Basics.{all_added}
use Rattle.link_model.specs.ClassFiles.{arrays_of_instr}
use Rattle.linker_outline.proofs.SelectorLists.{added_flat}
use Rattle.linker_outline.proofs.code_arrays.add_arrays_of_body.Goals as goal

pub loop-instr-init : goal.loop-instr-init
unfolding all_added
loop-instr-init c = refl

pub loop-instr-preserved : goal.loop-instr-preserved
loop-instr-preserved c =
    c.in_ok-add_arrays_of_instr.ensures
    ∙ ap (λ xs. all_added bytes_eq xs (arrays_of_instr c.args.file.now c.instr-item.result)) c.loop-instr.invariant
    ∙ sym (added_flat bytes_eq (arrays_of_instr c.args.file.now) c.args.names.now.keys [] c.args.body.now c.loop-instr.instr-index c.instr-item.result (omega arith) c.instr-item.is)
