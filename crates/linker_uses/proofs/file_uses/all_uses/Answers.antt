use Rattle.std.proofs.Common.{◌≡◌, ◌∙◌, ◌<◌, ◌++◌, [], refl, sym, ap, length, slice_get, get_or, None, Some, arith}
use Rattle.std.specs.Prelude.{flat_map}
use Rattle.std.proofs.lemmas.List.{take_all}
use Rattle.std.proofs.lemmas.Option.{slice_get_read}
use Rattle.link_model.specs.ClassFiles.{uses_of, uses_of_member}
use Rattle.linker_names.specs.Bodies.{instructions_of_member}
use Rattle.linker_uses.proofs.UseLists.{listed_more}
use Rattle.linker_uses.proofs.file_uses.all_uses.Goals as goal

pub push_uses_of_member-requires : goal.push_uses_of_member-requires
push_uses_of_member-requires c =
    let members = c.as_slice-members.ensures ∙ ap (λ f. f.methods) c.file.ensures in
    let read = slice_get_read c.as_slice-members.result.now (length c.as_slice-members.result.now) c.loop-place.place c.index-members-place.result refl c.loop-place-test.true c.index-members-place.is in
    let there : slice_get c.args.class.now.methods c.loop-place.place ≡ Some c.index-members-place.result = ap (λ xs. slice_get xs c.loop-place.place) (sym members) ∙ read in
    c.instructions.ensures ∙ ap (λ o. elim o [ None ↦ [] | Some m ↦ instructions_of_member m ]) there

pub loop-place-preserved : goal.loop-place-preserved
loop-place-preserved c =
    let members = c.as_slice-members.ensures ∙ ap (λ f. f.methods) c.file.ensures in
    let item = c.index-members-place.result in
    let class = c.args.class.now in
    let less : c.loop-place.place < length class.methods = omega (arith, ap length members, c.loop-place-test.true) in
    c.in_ok-push_uses_of_member.ensures
    ∙ ap (λ us. us ++ uses_of_member item) c.loop-place.invariant
    ∙ sym (listed_more uses_of_member class.methods c.loop-place.place item less
    (c.index-members-place.is ∙ ap (λ xs. get_or xs c.loop-place.place item) members))

pub returns : goal.returns
unfolding uses_of
returns c =
    let members = c.as_slice-members.ensures ∙ ap (λ f. f.methods) c.file.ensures in
    c.loop-place.invariant
    ∙ ap (flat_map uses_of_member) (take_all c.loop-place.place c.args.class.now.methods (omega (arith, ap length members, c.loop-place-test.false)))
