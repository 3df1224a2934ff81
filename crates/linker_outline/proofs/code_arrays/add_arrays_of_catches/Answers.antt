use Rattle.std.proofs.Common.{◌∙◌, [], refl, sym, ap, get_or, arith}
use Rattle.std.proofs.lemmas.List.{get_or_default}
use Rattle.jx_base.specs.declared.class_file.Range.{Range}
use Rattle.std.specs.Str.{bytes_eq}
use Rattle.jx_base.specs.Basics.{all_added}
use Rattle.linker_outline.specs.Catches.{arrays_of_catch}
use Rattle.linker_outline.proofs.SelectorLists.{added_at}
use Rattle.linker_outline.proofs.code_arrays.add_arrays_of_catches.Goals as goal

pub loop-range-init : goal.loop-range-init
unfolding all_added
loop-range-init c = refl

-- a range
some_range : Range
some_range = record { start = 0; end = 0; handler = 0; catch_type = 0 }

pub loop-range-preserved : goal.loop-range-preserved
loop-range-preserved c =
    let item = get_or c.args.table.now c.loop-range.range-index some_range in
    c.in_ok-add_arrays_of_catch.ensures
    ∙ ap (all_added bytes_eq c.loop-range.names.keys)
    (ap (arrays_of_catch c.args.file.now) (get_or_default c.args.table.now c.loop-range.range-index _ some_range (omega arith)))
    ∙ ap (λ xs. all_added bytes_eq xs (arrays_of_catch c.args.file.now item)) c.loop-range.invariant
    ∙ sym (added_at bytes_eq (arrays_of_catch c.args.file.now) c.args.names.now.keys [] c.args.table.now c.loop-range.range-index some_range (omega arith))
