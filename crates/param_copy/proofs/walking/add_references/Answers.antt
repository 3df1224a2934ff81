use Rattle.std.proofs.Common.{sym, ap, ◌∙◌, append-nil, get_or, refl, pos}
use Rattle.std.proofs.lemmas.List.{get_or_default}
use Rattle.jx_base.specs.declared.value.Value.TheVariants as value
use Rattle.jx_base.specs.declared.value.Value.{Value}
use Rattle.jx_base.specs.Basics.{firsts}
use Rattle.program_model.specs.Parcels.{references_of}
use Rattle.param_copy.proofs.Visits.{met_more, met_same}
use Rattle.param_copy.proofs.walking.add_references.Goals as goal
use Rattle.param_copy.proofs.walking.add_references.Goals.{in-Some+in_ok-insert, in_default}

abbrev null : Value
null = value.Int (pos 0)

pub loop-value-init : goal.loop-value-init
unfolding references_of
loop-value-init c = λ mentioned e. e ∙ ap firsts (sym (append-nil mentioned))

pub loop-value-preserved : goal.loop-value-preserved
loop-value-preserved c = λ mentioned e.
    elim c.match-reference_of.branch [
      | in-Some+in_ok-insert w ↦
          let more = met_more c.loop-value.walk.keys mentioned c.args.exports.now c.args.values.now c.loop-value.value-index (get_or c.args.values.now c.loop-value.value-index null) w.in-Some.object
          c.loop-value-test.true (get_or_default c.args.values.now c.loop-value.value-index null _ c.loop-value-test.true) (c.loop-value.invariant mentioned e) (w.in-Some.ensures ∙ refl) in
          ap (λ s. s.keys) w.walk-is ∙ w.in_ok-insert.ensures.keys ∙ more
      | in_default w ↦
          let same = met_same c.loop-value.walk.keys mentioned c.args.exports.now c.args.values.now c.loop-value.value-index (get_or c.args.values.now c.loop-value.value-index null)
          c.loop-value-test.true (get_or_default c.args.values.now c.loop-value.value-index null _ c.loop-value-test.true) (c.loop-value.invariant mentioned e) (w.in_default.ensures ∙ refl) in
          ap (λ s. s.keys) w.walk-is ∙ same
    ]
