use Rattle.std.proofs.Common.{rules, sym, ap, ◌∙◌, w32, w64}
use Rattle.std.proofs.lemmas.Int.{to_z-of_z}
use mir.Val.{SFits}
use Rattle.jx_base.specs.declared.value.Value.TheVariants as value
use Rattle.program_model.specs.Parcels.{value_of}
use Rattle.param_copy.proofs.unpacking.value_of.Goals as goal

pub returns-in-Int : goal.returns-in-Int
unfolding value_of
returns-in-Int c =
    let fits : SFits w32 c.in-Int.number = search rules in
    ap value.Int (to_z-of_z w32 c.in-Int.number fits) ∙ sym (ap (value_of c.args.first) c.in-Int.is)

pub returns-in-Long : goal.returns-in-Long
unfolding value_of
returns-in-Long c =
    let fits : SFits w64 c.in-Long.number = search rules in
    ap value.Long (to_z-of_z w64 c.in-Long.number fits) ∙ sym (ap (value_of c.args.first) c.in-Long.is)

pub returns-in-Null : goal.returns-in-Null
unfolding value_of
returns-in-Null c = sym (ap (value_of c.args.first) c.in-Null.is)

pub returns-in-Portal : goal.returns-in-Portal
unfolding value_of
returns-in-Portal c = sym (ap (value_of c.args.first) c.in-Portal.is)

pub returns-in-Mem : goal.returns-in-Mem
unfolding value_of
returns-in-Mem c = sym (ap (value_of c.args.first) c.in-Mem.is)

pub returns-in-Node : goal.returns-in-Node
unfolding value_of
returns-in-Node c = sym (ap (value_of c.args.first) c.in-Node.is)
