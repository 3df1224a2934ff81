use Rattle.std.proofs.Common.{◌∙◌, ◌∷◌, []}
use Rattle.interp_core.specs.Cores.{store_of}
use Rattle.jx_base.specs.declared.act.Act.TheVariants as act
use Rattle.jx_base.specs.declared.value.Parcel.{Parcel}
use Rattle.jx_base.specs.declared.value.Value.TheVariants as value
use Rattle.machine_calls.proofs.Packing.{empty_answers, packed_answers, store_closed, thrown_placed}
use Rattle.machine_calls.proofs.ending.throw_act.Goals.{in-Some, in-None}
use Rattle.machine_calls.proofs.ending.throw_act.Goals as goal

pub packed-requires-clause-roots : goal.packed-requires-clause-roots
packed-requires-clause-roots c = thrown_placed (store_of c.args.core.now) c.args.object c.requires.1.1.1

pub packed-requires-clause-objects : goal.packed-requires-clause-objects
packed-requires-clause-objects c = store_closed c.requires.0 c.requires.1.0 (store_of c.args.core.now) c.requires.1.1.0

pub returns : goal.returns
returns c =
    let store = store_of c.args.core.now in
    let make = λ (p : Parcel). act.Throw c.args.call p in
    elim c.match-branch-2.branch [
      | in-Some w ↦ rw w.result-is (packed_answers store c.args.call make (value.Ref c.args.object ∷ []) w.in-Some.parcel (c.in_ok-parcel.ensures ∙ w.in-Some.is))
      | in-None w ↦ rw (w.result-is, w.throw_nothing.ensures) (empty_answers store c.args.call make (value.Ref c.args.object ∷ []) (c.in_ok-parcel.ensures ∙ w.in-None.is))
    ]
