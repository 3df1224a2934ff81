use Rattle.std.proofs.Common.{◌∙◌, sym, ap, reverse, slice_get, List}
use Rattle.std.specs.Prelude.{Vec, false}
use Rattle.std.specs.declared.alloc.Global.{Global}
use Rattle.jx_base.specs.declared.frame.Frame.{Frame}
use Rattle.jx_base.specs.declared.value.Value.{Value}
use Rattle.interp_core.specs.Cores.{core_state}
use Rattle.machine_model.specs.ObjectRows.{all_fit}
use Rattle.program_model.specs.BuiltIn.{copy_exception}
use Rattle.machine_replies.proofs.Cores.{frames_past, instructions_in}
use Rattle.machine_replies.specs.Sites.{expected_first}
use Rattle.machine_calls.proofs.Handed.{same_in, unpacked_core, words_placed}
use Rattle.machine_calls.proofs.Resumed.{value_given, value_raised, value_unroomed}
use Rattle.machine_calls.proofs.resuming.resume_value.Goals as goal

pub unpack_roots-requires : goal.unpack_roots-requires
unpack_roots-requires c = words_placed c.args.system.now c.requires.parcel.0 c.args.parcel.now c.requires.parcel.1.1

pub throw_object-requires : goal.throw_object-requires
throw_object-requires c =
    let h = c.requires.parcel in
    let told = rw c.in_default.is at c.in_ok-roots.ensures.roots in
    (h.0, same_in c.args.system.now h.0 (core_state c.args.core.now) h.1.0 (core_state c.unpack_roots.new.core) told.1 (ap (λ (fs : Vec Frame Global). reverse fs.items) c.in_ok-roots.ensures.frames))

pub returns-in_default : goal.returns-in_default
returns-in_default c =
    let told = rw c.in_default.is at c.in_ok-roots.ensures.roots in
    value_unroomed c.args.system.now (core_state c.args.core.now) (core_state c.unpack_roots.new.core) (core_state c.throw_object.new.core) c.args.parcel.now
    (ap (λ (fs : Vec Frame Global). reverse fs.items) c.in_ok-roots.ensures.frames) c.throw_object.result told.0 told.1 c.throw_object.ensures

pub fits_result-requires : goal.fits_result-requires
fits_result-requires c =
    let h = c.requires.parcel in
    let s = c.args.system.now in
    let mid = core_state c.unpack_roots.new.core in
    let told = rw c.in-Some.is at c.in_ok-roots.ensures.roots in
    let k = unpacked_core s h.0 (core_state c.args.core.now) h.1.0 mid c.args.parcel.now c.requires.system h.1.1 told.0 (ap (λ (fs : Vec Frame Global). reverse fs.items) c.in_ok-roots.ensures.frames) in
    record { frames = frames_past s mid (h.0, k); listed = c.requires.system.listed; instructions = instructions_in s h.0 mid c.requires.system k }

pub give_result-requires-clause-core : goal.give_result-requires-clause-core
give_result-requires-clause-core c =
    let h = c.requires.parcel in
    let told = rw c.in-Some.is at c.in_ok-roots.ensures.roots in
    (h.0, unpacked_core c.args.system.now h.0 (core_state c.args.core.now) h.1.0 (core_state c.unpack_roots.new.core) c.args.parcel.now c.requires.system h.1.1 told.0 (ap (λ (fs : Vec Frame Global). reverse fs.items) c.in_ok-roots.ensures.frames))

pub returns-then-fits_result : goal.returns-then-fits_result
returns-then-fits_result c =
    let s = c.args.system.now in let mid = core_state c.unpack_roots.new.core in
    let told = rw c.in-Some.is at c.in_ok-roots.ensures.roots in
    value_given c.args.system.now (core_state c.args.core.now) (core_state c.unpack_roots.new.core) (core_state c.give_result.new.core) c.args.parcel.now
    (ap (λ (fs : Vec Frame Global). reverse fs.items) c.in_ok-roots.ensures.frames) told.0 c.in-Some.roots.items told.1 c.copied.result c.give_result.result (c.copied.ensures ∙ c.first.ensures.value ∙ ap (λ (vs : List Value). slice_get vs 0) c.as_slice-then-fits_result.ensures.value) (ap (λ (vs : List Value). all_fit s false mid.store vs (expected_first s mid.frames)) (sym c.as_slice.ensures.value) ∙ sym c.fits_result.ensures ∙ c.if-fits_result.true) c.give_result.ensures

pub raise-requires : goal.raise-requires
raise-requires c =
    let h = c.requires.parcel in
    let told = rw c.in-Some.is at c.in_ok-roots.ensures.roots in
    (h.0, unpacked_core c.args.system.now h.0 (core_state c.args.core.now) h.1.0 (core_state c.unpack_roots.new.core) c.args.parcel.now c.requires.system h.1.1 told.0 (ap (λ (fs : Vec Frame Global). reverse fs.items) c.in_ok-roots.ensures.frames))

pub returns : goal.returns
unfolding copy_exception
returns c =
    let s = c.args.system.now in let mid = core_state c.unpack_roots.new.core in
    let told = rw c.in-Some.is at c.in_ok-roots.ensures.roots in
    value_raised c.args.system.now (core_state c.args.core.now) (core_state c.unpack_roots.new.core) (core_state c.raise.new.core) c.args.parcel.now
    (ap (λ (fs : Vec Frame Global). reverse fs.items) c.in_ok-roots.ensures.frames) told.0 c.in-Some.roots.items told.1 c.raise.result (ap (λ (vs : List Value). all_fit s false mid.store vs (expected_first s mid.frames)) (sym c.as_slice.ensures.value) ∙ sym c.fits_result.ensures ∙ c.if-fits_result.false) c.raise.ensures
