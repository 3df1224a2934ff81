use Rattle.std.proofs.Common.{◌≡◌, ◌∙◌, ◌<◌, [], refl, sym, ap, length, slice_get, get_or, None, Some, arith}
use Rattle.std.specs.Prelude.{flat_map}
use Rattle.std.specs.Str.{bytes_eq}
use Rattle.std.proofs.lemmas.List.{take_all}
use Rattle.std.proofs.lemmas.Option.{slice_get_read}
use Rattle.jx_base.specs.Basics.{all_added}
use Rattle.link_model.specs.ClassFiles.{arrays_of, arrays_of_member}
use Rattle.linker_names.specs.Bodies.{instructions_of_member}
use Rattle.linker_outline.proofs.SelectorLists.{added_flat}
use Rattle.linker_outline.proofs.file_arrays.add_arrays_of_file.Goals as goal

pub loop-place-init : goal.loop-place-init
unfolding all_added
loop-place-init c = refl

pub add_arrays_of_member-requires : goal.add_arrays_of_member-requires
add_arrays_of_member-requires c =
    let members = c.as_slice-members.ensures ∙ ap (λ f. f.methods) c.file-file.ensures in
    let read = slice_get_read c.as_slice-members.result.now (length c.as_slice-members.result.now) c.loop-place.place c.index-members-place.result refl c.loop-place-test.true c.index-members-place.is in
    let there : slice_get c.args.class.now.methods c.loop-place.place ≡ Some c.index-members-place.result = ap (λ xs. slice_get xs c.loop-place.place) (sym members) ∙ read in
    c.instructions-body.ensures ∙ ap (λ o. elim o [ None ↦ [] | Some m ↦ instructions_of_member m ]) there

pub loop-place-preserved : goal.loop-place-preserved
loop-place-preserved c =
    let members = c.as_slice-members.ensures ∙ ap (λ f. f.methods) c.file-file.ensures in
    let item = c.index-members-place.result in
    let class = c.args.class.now in
    let old = c.args.names.now.keys in
    let less : c.loop-place.place < length class.methods = omega (arith, ap length members, c.loop-place-test.true) in
    c.in_ok-add_arrays_of_member.ensures
    ∙ ap (λ f. all_added bytes_eq c.loop-place.names.keys (arrays_of_member f item)) c.file-file.ensures
    ∙ ap (λ xs. all_added bytes_eq xs (arrays_of_member class item)) c.loop-place.invariant
    ∙ sym (added_flat bytes_eq (arrays_of_member class) old [] class.methods c.loop-place.place item less
    (c.index-members-place.is ∙ ap (λ xs. get_or xs c.loop-place.place item) members))

pub returns : goal.returns
unfolding arrays_of
returns c =
    let members = c.as_slice-members.ensures ∙ ap (λ f. f.methods) c.file-file.ensures in
    c.loop-place.invariant
    ∙ ap (λ ms. all_added bytes_eq c.args.names.now.keys (flat_map (arrays_of_member c.args.class.now) ms))
    (take_all c.loop-place.place c.args.class.now.methods (omega (arith, ap length members, c.loop-place-test.false)))
