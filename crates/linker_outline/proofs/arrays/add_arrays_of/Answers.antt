use Rattle.std.proofs.Common.{◌≡◌, ◌∙◌, ◌+◌, ◌-◌, [], sym, ap, length, drop, arith}
use Rattle.std.proofs.lemmas.List.{length-drop, take_all}
use Rattle.std.specs.Str.{bytes_eq}
use Rattle.jx_base.specs.Basics.{added, all_added}
use Rattle.link_model.specs.ClassFiles.{arrays_of_name}
use Rattle.linker_outline.proofs.ArrayNames.{arrays_more, fewer, inserted, no_arrays}
use Rattle.linker_outline.proofs.arrays.add_arrays_of.Goals as goal

pub loop-left-init : goal.loop-left-init
unfolding all_added
loop-left-init c =
    let class = c.args.class.now in
    let count = c.dimensions-left.ensures.count in
    let none : arrays_of_name (drop c.dimensions-left.result class) ≡ [] =
    no_arrays (drop c.dimensions-left.result class) (omega (arith, count, fewer class c.dimensions-left.result (omega (arith, count)))) in
    (omega (arith, count), ap (all_added bytes_eq c.args.names.now.keys) (sym none))

pub loop-left-preserved : goal.loop-left-preserved
loop-left-preserved c =
    let class = c.args.class.now in
    let left : c.loop-left.left - 1 + 1 ≡ c.loop-left.left = omega (arith, c.loop-left-test.true) in (
      omega (arith, c.loop-left.invariant.0),
      c.in_ok-insert.ensures.keys ∙ inserted c.loop-left.names.keys c.in_ok-from_slice.field-0
          ∙ ap (added bytes_eq c.loop-left.names.keys)
          (c.in_ok-from_slice.ensures ∙ take_all (length class - (c.loop-left.left - 1)) (drop (c.loop-left.left - 1) class) (omega (arith, length-drop (c.loop-left.left - 1) class)))
          ∙ arrays_more c.args.names.now.keys c.loop-left.names.keys class (c.loop-left.left - 1) (omega (arith, c.loop-left.invariant.0, c.loop-left-test.true))
          (c.loop-left.invariant.1 ∙ ap (λ n. all_added bytes_eq c.args.names.now.keys (arrays_of_name (drop n class))) (sym left)),
    )
