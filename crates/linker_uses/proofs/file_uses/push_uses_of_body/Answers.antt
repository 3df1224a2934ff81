use Rattle.std.proofs.Common.{◌∙◌, ◌++◌, [], sym, ap, take, arith}
use Rattle.std.proofs.lemmas.List.{append-nil, take_all}
use Rattle.std.specs.List.{cons_option, filter_map}
use Rattle.link_model.specs.ClassFiles.{used_by}
use Rattle.linker_uses.proofs.UseLists.{chosen_more}
use Rattle.linker_uses.proofs.file_uses.push_uses_of_body.Goals as goal

pub loop-instr-init : goal.loop-instr-init
loop-instr-init c = sym (append-nil c.args.uses.now.items)

pub loop-instr-preserved : goal.loop-instr-preserved
loop-instr-preserved c =
    c.in_ok-push_use.ensures
    ∙ ap (λ xs. xs ++ cons_option c.used_by.result []) c.loop-instr.invariant
    ∙ ap (λ o. (c.args.uses.now.items ++ filter_map used_by (take c.loop-instr.instr-index c.args.body.now)) ++ cons_option o []) c.used_by.ensures
    ∙ sym (chosen_more used_by c.args.uses.now.items c.args.body.now c.loop-instr.instr-index c.instr-item.result (omega arith) c.instr-item.is)

pub returns : goal.returns
returns c = c.loop-instr.invariant ∙ ap (λ xs. c.args.uses.now.items ++ filter_map used_by xs) (take_all c.loop-instr.instr-index c.args.body.now (omega arith))
