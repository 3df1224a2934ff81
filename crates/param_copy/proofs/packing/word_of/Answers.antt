use Rattle.std.proofs.Common.{rules, sym, ap, ◌∙◌, w32, w64}
use Rattle.std.proofs.lemmas.Int.{to_z-of_z}
use mir.Val.{SFits}
use Rattle.jx_base.specs.declared.value.Word.TheVariants as word
use Rattle.program_model.specs.Parcels.{word_of}
use Rattle.param_copy.proofs.WordSteps.{word_exported, word_kept}
use Rattle.param_copy.proofs.packing.word_of.Goals as goal

pub returns-in-Int : goal.returns-in-Int
unfolding word_of
returns-in-Int c =
    let fits : SFits w32 c.in-Int.number = search rules in
    ap word.Int (to_z-of_z w32 c.in-Int.number fits) ∙ sym (ap (word_of c.args.exports.now c.args.walk.now.keys) c.in-Int.is)

pub returns-in-Long : goal.returns-in-Long
unfolding word_of
returns-in-Long c =
    let fits : SFits w64 c.in-Long.number = search rules in
    ap word.Long (to_z-of_z w64 c.in-Long.number fits) ∙ sym (ap (word_of c.args.exports.now c.args.walk.now.keys) c.in-Long.is)

pub returns-in-Null : goal.returns-in-Null
unfolding word_of
returns-in-Null c = sym (ap (word_of c.args.exports.now c.args.walk.now.keys) c.in-Null.is)

pub returns-in-Portal : goal.returns-in-Portal
unfolding word_of
returns-in-Portal c = sym (ap (word_of c.args.exports.now c.args.walk.now.keys) c.in-Portal.is)

pub returns-in-Mem : goal.returns-in-Mem
unfolding word_of
returns-in-Mem c = sym (ap (word_of c.args.exports.now c.args.walk.now.keys) c.in-Mem.is)

pub returns-in-Some : goal.returns-in-Some
returns-in-Some c =
    sym (ap (word_of c.args.exports.now c.args.walk.now.keys) c.in-Ref.is
    ∙ word_exported c.args.exports.now c.args.walk.now.keys c.in-Ref.object c.in-Some.export (sym c.export_of.ensures ∙ c.in-Some.is))

pub returns-in-None : goal.returns-in-None
returns-in-None c =
    ap word.Node c.place_of.ensures
    ∙ sym (ap (word_of c.args.exports.now c.args.walk.now.keys) c.in-Ref.is
    ∙ word_kept c.args.exports.now c.args.walk.now.keys c.in-Ref.object (sym c.export_of.ensures ∙ c.in-None.is))
