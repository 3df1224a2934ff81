use Rattle.std.proofs.Common.{◌∙◌, List, sym, ap, subst, reverse}
use Rattle.std.specs.Prelude.{Vec, false}
use Rattle.std.specs.List.{AllByRecursion}
use Rattle.std.specs.declared.alloc.Global.{Global}
use Rattle.std.proofs.lemmas.Result.{IfOk-weaker}
use Rattle.jx_base.specs.declared.frame.Frame.{Frame}
use Rattle.jx_base.specs.declared.value.Value.{Value}
use Rattle.interp_core.specs.Cores.{core_state}
use Rattle.machine_laws.proofs.Unpacking.{unpacked_in}
use Rattle.machine_laws.specs.Values.{IsValueIn}
use Rattle.machine_model.specs.AfterEntry.{parameters_of}
use Rattle.machine_model.specs.ObjectRows.{all_fit}
use Rattle.program_model.specs.BuiltIn.{copy_exception}
use Rattle.machine_calls.proofs.Handed.{bare, bare_in, unpacked_core, words_placed}
use Rattle.machine_calls.proofs.Taken.{take_begun, take_raised, take_unroomed}
use Rattle.machine_calls.proofs.taking.take_call.Goals as goal

pub unpack_roots-requires : goal.unpack_roots-requires
unpack_roots-requires c = words_placed c.args.system.now c.requires.parcel.0 c.args.parcel.now c.requires.parcel.1.1

pub returns-in_default : goal.returns-in_default
returns-in_default c =
    let told = rw c.in_default.is at c.in_ok-roots.ensures.roots in
    let empty = ap (λ (fs : Vec Frame Global). reverse fs.items) c.in_ok-roots.ensures.frames ∙ ap reverse c.clear.ensures.items in
    take_unroomed c.args.system.now c.args.service c.args.method (core_state c.args.core.now) c.args.parcel.now (core_state c.unpack_roots.new.core) told.0 told.1 empty

pub raise-requires : goal.raise-requires
raise-requires c =
    let h = c.requires.parcel in let s = c.args.system.now in let old = core_state c.args.core.now in
    let told = rw c.in-Some.is at c.in_ok-roots.ensures.roots in
    let empty = ap (λ (fs : Vec Frame Global). reverse fs.items) c.in_ok-roots.ensures.frames ∙ ap reverse c.clear.ensures.items in
    (h.0, unpacked_core s h.0 (bare old) (bare_in s h.0 old h.1.0) (core_state c.unpack_roots.new.core) c.args.parcel.now c.requires.system h.1.1 told.0 empty)

pub returns-then-not-all_fit : goal.returns-then-not-all_fit
unfolding copy_exception
returns-then-not-all_fit c =
    let s = c.args.system.now in let mid = core_state c.unpack_roots.new.core in
    let told = rw c.in-Some.is at c.in_ok-roots.ensures.roots in
    let empty = ap (λ (fs : Vec Frame Global). reverse fs.items) c.in_ok-roots.ensures.frames ∙ ap reverse c.clear.ensures.items in
    let fit = ap (λ (vs : List Value). all_fit s false mid.store vs (parameters_of s c.args.method)) (sym c.as_slice.ensures.value)
    ∙ ap (all_fit s false mid.store c.as_slice.result.now) (sym c.descriptor_of.ensures) ∙ sym c.all_fit.ensures ∙ c.if-not-all_fit.true in
    take_raised s c.args.service c.args.method (core_state c.args.core.now) c.args.parcel.now mid (core_state c.raise.new.core) empty told.0 c.in-Some.roots.items told.1 c.raise.result fit c.raise.ensures

pub begin_call-requires-clause-roots : goal.begin_call-requires-clause-roots
begin_call-requires-clause-roots c =
    let h = c.requires.parcel in let s = c.args.system.now in let old = core_state c.args.core.now in let mid = core_state c.unpack_roots.new.core in
    let told = rw c.in-Some.is at c.in_ok-roots.ensures.roots in
    let empty = ap (λ (fs : Vec Frame Global). reverse fs.items) c.in_ok-roots.ensures.frames ∙ ap reverse c.clear.ensures.items in
    let u = unpacked_in s h.0 old.store c.args.parcel.now h.1.0.store h.1.1 mid.store told.0 in
    record {
      past = h.0;
      core_in = unpacked_core s h.0 (bare old) (bare_in s h.0 old h.1.0) mid c.args.parcel.now c.requires.system h.1.1 told.0 empty;
      frames = empty;
      values = subst (AllByRecursion (IsValueIn h.0 mid.store)) (sym (c.as_slice-2.ensures.value ∙ told.1)) u.roots;
      fit = ap (λ (vs : List Value). all_fit s false mid.store vs (parameters_of s c.args.method)) (c.as_slice-2.ensures.value ∙ sym c.as_slice.ensures.value)
          ∙ ap (all_fit s false mid.store c.as_slice.result.now) (sym c.descriptor_of.ensures) ∙ sym c.all_fit.ensures ∙ c.if-not-all_fit.false;
    }

pub returns : goal.returns
returns c =
    let s = c.args.system.now in let mid = core_state c.unpack_roots.new.core in
    let told = rw c.in-Some.is at c.in_ok-roots.ensures.roots in
    let empty = ap (λ (fs : Vec Frame Global). reverse fs.items) c.in_ok-roots.ensures.frames ∙ ap reverse c.clear.ensures.items in
    let fit = ap (λ (vs : List Value). all_fit s false mid.store vs (parameters_of s c.args.method)) (c.as_slice-2.ensures.value ∙ sym c.as_slice.ensures.value)
    ∙ ap (all_fit s false mid.store c.as_slice.result.now) (sym c.descriptor_of.ensures) ∙ sym c.all_fit.ensures ∙ c.if-not-all_fit.false in
    IfOk-weaker c.begin_call.result _ _ (λ g h.
    take_begun s c.args.service c.args.method (core_state c.args.core.now) c.args.parcel.now mid (core_state c.begin_call.new.core) empty told.0 c.as_slice-2.result.now (c.as_slice-2.ensures.value ∙ told.1) g fit h)
    c.begin_call.ensures
