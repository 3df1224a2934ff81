use Rattle.std.proofs.Common.{◌∙◌, [], ◌∷◌, get_or, length, map, sym, ap, take, arith}
use Rattle.std.proofs.lemmas.List.{map_more, take_all}
use Rattle.link_model.specs.ClassFiles.{class_name_in, interface_names, super_name}
use Rattle.linker_faults.specs.Hierarchies.{joined, listed_places}
use Rattle.linker_faults.proofs.Climbing.{names_next}
use Rattle.linker_faults.proofs.Growing.{firsts_joined}
use Rattle.linker_faults.proofs.hierarchy.right_above.Goals as goal

pub loop-index-init : goal.loop-index-init
loop-index-init c =
    let f = c.args.file.now in
    let listed = listed_places c.args.classes.now.plan c.args.classes.now.template in
    c.in_ok-add_place.ensures ∙ ap (λ xs. joined xs (listed (c.super_name.result.now ∷ []))) c.new-places.ensures.empty
    ∙ ap (λ name. joined [] (listed (name ∷ []))) c.super_name.ensures

pub loop-index-preserved : goal.loop-index-preserved
loop-index-preserved c =
    let f = c.args.file.now in
    let plan = c.args.classes.now.plan in
    let t = c.args.classes.now.template in
    let i = c.loop-index.index-index in
    let name = class_name_in f (get_or f.interfaces i 0) in
    let names = super_name f ∷ map (class_name_in f) (take i f.interfaces) in
    c.in_ok-add_place-2.ensures ∙ ap (λ xs. joined xs (listed_places plan t (c.class_name_in.result.now ∷ []))) c.loop-index.invariant
    ∙ ap (λ n. joined (joined [] (listed_places plan t names)) (listed_places plan t (n ∷ []))) (c.class_name_in.ensures ∙ ap (λ is. class_name_in f (get_or is i 0)) c.as_slice-index-items.ensures) ∙ names_next plan t names name []
    ∙ ap (λ ns. joined [] (listed_places plan t (super_name f ∷ ns))) (sym (map_more (class_name_in f) f.interfaces i 0 (omega (arith, ap length c.as_slice-index-items.ensures))))

pub returns : goal.returns
unfolding interface_names
returns c =
    let f = c.args.file.now in
    let listed = listed_places c.args.classes.now.plan c.args.classes.now.template in
    c.loop-index.invariant ∙ ap (λ is. joined [] (listed (super_name f ∷ map (class_name_in f) is))) (take_all c.loop-index.index-index f.interfaces (omega (arith, ap length c.as_slice-index-items.ensures)))
    ∙ sym (firsts_joined (listed (super_name f ∷ map (class_name_in f) f.interfaces)))
