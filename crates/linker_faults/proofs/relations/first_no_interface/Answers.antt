use Rattle.std.proofs.Common.{◌≡◌, ◌∙◌, ◌+◌, cond, get_or, length, drop, map, sym, ap, Some, arith}
use Rattle.std.specs.Prelude.{not}
use Rattle.std.specs.List.{find}
use Rattle.std.proofs.lemmas.List.{at_drop_all, at_drop_more}
use Rattle.link_model.specs.ClassFiles.{class_name_in, interface_names}
use Rattle.link_model.specs.LinkFaults.{may_implement}
use Rattle.linker_faults.proofs.relations.first_no_interface.Goals as goal

pub returns-then-not-may_implement : goal.returns-then-not-may_implement
unfolding interface_names
returns-then-not-may_implement c =
    let h = c.args.hierarchy.now in
    let f = c.args.file.now in
    let i = c.loop-index.index-index in
    let items = ap length c.as_slice-index-items.ensures in
    let name = class_name_in f (get_or f.interfaces i 0) in
    let is : c.class_name_in-name.result.now ≡ name = c.class_name_in-name.ensures ∙ ap (λ is. class_name_in f (get_or is i 0)) c.as_slice-index-items.ensures in
    let rest = find (λ n. not (may_implement h.plan h.files h.template n)) (map (class_name_in f) (drop (i + 1) f.interfaces)) in
    let no = ap not (sym (c.may_implement.ensures ∙ ap (may_implement h.plan h.files h.template) is) ∙ c.if-not-may_implement.true) in
    ap Some is ∙ sym (ap (λ b. cond b (Some name) rest) no)
    ∙ sym (at_drop_more (λ is. find (λ n. not (may_implement h.plan h.files h.template n)) (map (class_name_in f) is)) f.interfaces i 0 (omega (arith, items)))
    ∙ c.loop-index.invariant

pub returns : goal.returns
unfolding interface_names
returns c =
    let h = c.args.hierarchy.now in
    let f = c.args.file.now in
    let items = ap length c.as_slice-index-items.ensures in
    sym (at_drop_all (λ is. find (λ n. not (may_implement h.plan h.files h.template n)) (map (class_name_in f) is)) f.interfaces c.loop-index.index-index (omega (arith, items)))
    ∙ c.loop-index.invariant
