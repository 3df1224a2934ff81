use Rattle.std.proofs.Common.{◌≡◌, ◌∙◌, ap, sym, subst, length, List}
use Rattle.std.specs.List.{All}
use Rattle.interp_core.specs.Cores.{store_of}
use Rattle.jx_base.specs.declared.act.Act.TheVariants as act
use Rattle.jx_base.specs.declared.value.Parcel.{Parcel}
use Rattle.jx_base.specs.declared.value.Value.{Value}
use Rattle.machine_model.specs.Running.{result_roots}
use Rattle.param_copy.specs.Copies.{IsPlaced}
use Rattle.program_model.specs.Parcels.{packed}
use Rattle.machine_calls.proofs.Packing.{empty_answers, packed_answers, result_placed, store_closed}
use Rattle.machine_calls.proofs.ending.return_act.Goals.{in-Some, in-None}
use Rattle.machine_calls.proofs.ending.return_act.Goals as goal

pub packed-requires-clause-roots : goal.packed-requires-clause-roots
packed-requires-clause-roots c =
    let store = store_of c.args.core.now in
    subst (All (IsPlaced (length store.objects))) (sym (c.as_slice.ensures.value ∙ c.in_ok-roots.ensures)) (result_placed c.requires.1.0 store c.args.value c.requires.1.1.1)

pub packed-requires-clause-objects : goal.packed-requires-clause-objects
packed-requires-clause-objects c = store_closed c.requires.0 c.requires.1.0 (store_of c.args.core.now) c.requires.1.1.0

pub returns : goal.returns
returns c =
    let store = store_of c.args.core.now in
    let make = λ (p : Parcel). act.Return c.args.call p in
    let roots : result_roots c.args.value ≡ c.as_slice.result.now = sym (c.as_slice.ensures.value ∙ c.in_ok-roots.ensures) in
    let told = ap (λ (vs : List Value). packed store.objects store.exports vs) roots ∙ c.in_ok-parcel.ensures in
    elim c.match-branch-3.branch [
      | in-Some w ↦ rw w.result-is (packed_answers store c.args.call make (result_roots c.args.value) w.in-Some.parcel (told ∙ w.in-Some.is))
      | in-None w ↦ rw (w.result-is, w.throw_nothing.ensures) (empty_answers store c.args.call make (result_roots c.args.value) (told ∙ w.in-None.is))
    ]
