use Rattle.std.proofs.Common.{◌∙◌, ◌++◌, [], sym, ap, take, arith}
use Rattle.std.proofs.lemmas.List.{append-nil, take_all}
use Rattle.std.specs.List.{cons_option, filter_map}
use Rattle.linker_names.specs.Names.{catch_use}
use Rattle.linker_uses.proofs.UseLists.{chosen_at, some_range}
use Rattle.linker_uses.proofs.file_uses.push_uses_of_catches.Goals as goal

pub loop-range-init : goal.loop-range-init
loop-range-init c = sym (append-nil c.args.uses.now.items)

pub loop-range-preserved : goal.loop-range-preserved
loop-range-preserved c =
    c.in_ok-push_use.ensures
    ∙ ap (λ xs. xs ++ cons_option c.catch_use.result []) c.loop-range.invariant
    ∙ ap (λ o. (c.args.uses.now.items ++ filter_map catch_use (take c.loop-range.range-index c.args.table.now)) ++ cons_option o []) c.catch_use.ensures
    ∙ sym (chosen_at catch_use c.args.uses.now.items c.args.table.now c.loop-range.range-index some_range (omega arith))

pub returns : goal.returns
returns c = c.loop-range.invariant ∙ ap (λ xs. c.args.uses.now.items ++ filter_map catch_use xs) (take_all c.loop-range.range-index c.args.table.now (omega arith))
