use Rattle.std.proofs.Common.{◌∙◌, sym, ap, reverse}
use Rattle.std.specs.Prelude.{Vec}
use Rattle.std.specs.declared.alloc.Global.{Global}
use Rattle.jx_base.specs.declared.frame.Frame.{Frame}
use Rattle.interp_core.specs.Cores.{core_state}
use Rattle.machine_model.specs.AfterEntry.{thrown_root}
use Rattle.program_model.specs.BuiltIn.{copy_exception}
use Rattle.machine_calls.proofs.Handed.{same_in, unpacked_core, words_placed}
use Rattle.machine_calls.proofs.Resumed.{root_raised, root_thrown, thrown_unroomed}
use Rattle.machine_calls.proofs.resuming.resume_thrown.Goals.{in-Some-thrown_root, in-None}
use Rattle.machine_calls.proofs.resuming.resume_thrown.Goals as goal

pub unpack_roots-requires : goal.unpack_roots-requires
unpack_roots-requires c = words_placed c.args.system.now c.requires.parcel.0 c.args.parcel.now c.requires.parcel.1.1

pub throw_object-requires : goal.throw_object-requires
throw_object-requires c =
    let h = c.requires.parcel in
    let told = rw c.in_default.is at c.in_ok-roots.ensures.roots in
    (h.0, same_in c.args.system.now h.0 (core_state c.args.core.now) h.1.0 (core_state c.unpack_roots.new.core) told.1 (ap (λ (fs : Vec Frame Global). reverse fs.items) c.in_ok-roots.ensures.frames))

pub returns-in_default : goal.returns-in_default
returns-in_default c =
    let told = rw c.in_default.is at c.in_ok-roots.ensures.roots in
    thrown_unroomed c.args.system.now (core_state c.args.core.now) (core_state c.unpack_roots.new.core) (core_state c.throw_object.new.core) c.args.parcel.now
    (ap (λ (fs : Vec Frame Global). reverse fs.items) c.in_ok-roots.ensures.frames) c.throw_object.result told.0 told.1 c.throw_object.ensures

pub throw_object-requires-in-Some-thrown_root : goal.throw_object-requires-in-Some-thrown_root
throw_object-requires-in-Some-thrown_root c =
    let h = c.requires.parcel in
    let told = rw c.in-Some.is at c.in_ok-roots.ensures.roots in
    (h.0, unpacked_core c.args.system.now h.0 (core_state c.args.core.now) h.1.0 (core_state c.unpack_roots.new.core) c.args.parcel.now c.requires.system h.1.1 told.0 (ap (λ (fs : Vec Frame Global). reverse fs.items) c.in_ok-roots.ensures.frames))

pub raise-requires : goal.raise-requires
raise-requires c =
    let h = c.requires.parcel in
    let told = rw c.in-Some.is at c.in_ok-roots.ensures.roots in
    (h.0, unpacked_core c.args.system.now h.0 (core_state c.args.core.now) h.1.0 (core_state c.unpack_roots.new.core) c.args.parcel.now c.requires.system h.1.1 told.0 (ap (λ (fs : Vec Frame Global). reverse fs.items) c.in_ok-roots.ensures.frames))

pub returns : goal.returns
unfolding copy_exception
returns c =
    let s = c.args.system.now in let old = core_state c.args.core.now in let mid = core_state c.unpack_roots.new.core in
    let told = rw c.in-Some.is at c.in_ok-roots.ensures.roots in
    let same = ap (λ (fs : Vec Frame Global). reverse fs.items) c.in_ok-roots.ensures.frames in
    let root = ap (thrown_root s mid.store) (sym c.as_slice.ensures.value) ∙ sym c.thrown_root.ensures in
    elim c.match-thrown_root.branch [
      | in-Some-thrown_root w ↦ rw (w.result-is, w.core-is) (root_thrown s old mid (core_state w.throw_object-in-Some-thrown_root.new.core) c.args.parcel.now same told.0 c.in-Some.roots.items told.1
          w.in-Some-thrown_root.object w.throw_object-in-Some-thrown_root.result (root ∙ w.in-Some-thrown_root.is) w.throw_object-in-Some-thrown_root.ensures)
      | in-None w ↦ rw (w.result-is, w.core-is) (root_raised s old mid (core_state w.raise.new.core) c.args.parcel.now same told.0 c.in-Some.roots.items told.1 w.raise.result (root ∙ w.in-None.is) w.raise.ensures)
    ]
