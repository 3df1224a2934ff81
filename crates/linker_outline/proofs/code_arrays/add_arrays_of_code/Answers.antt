use Rattle.std.proofs.Common.{◌≡◌, ◌∙◌, sym, ap, subst, ◌++◌, OnOk}
use Rattle.link_model.specs.ClassFiles.{arrays_of_instr}
use Rattle.linker_outline.specs.Catches.{arrays_of_catch}
use Rattle.std.specs.Prelude.{flat_map}
use Rattle.std.specs.Str.{bytes_eq}
use Rattle.jx_base.specs.Basics.{all_added}
use Rattle.linker_outline.proofs.CatchArrays.{code_arrays}
use Rattle.linker_outline.proofs.SelectorLists.{added_lists}
use Rattle.linker_outline.proofs.code_arrays.add_arrays_of_code.Goals as goal

pub returns : goal.returns
returns c =
    let file = c.args.file.now in
    let old = c.args.names.now.keys in
    subst (λ keys. OnOk c.add_arrays_of_catches.result (c.add_arrays_of_catches.new.names.keys ≡ keys))
    (ap (all_added bytes_eq c.add_arrays_of_body.new.names.keys) (ap (flat_map (arrays_of_catch file)) c.as_slice.ensures)
    ∙ ap (λ keys. all_added bytes_eq keys (flat_map (arrays_of_catch file) c.args.code.now.table)) c.in_ok-add_arrays_of_body.ensures
    ∙ sym (added_lists bytes_eq old (flat_map (arrays_of_instr file) c.args.body.now) (flat_map (arrays_of_catch file) c.args.code.now.table))
    ∙ ap (all_added bytes_eq old) (ap (λ body. flat_map (arrays_of_instr file) body ++ flat_map (arrays_of_catch file) c.args.code.now.table) c.requires ∙ code_arrays file c.args.code.now))
    c.add_arrays_of_catches.ensures
