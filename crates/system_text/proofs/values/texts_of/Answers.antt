use Rattle.std.proofs.Common.{◌∙◌, ap, arith, ◌∷◌, []}
use Rattle.std.proofs.lemmas.List.{map-append}
use Rattle.toml.specs.Data.{as_str}
use Rattle.system_text.specs.Scan.{texts_at}
use Rattle.system_text.proofs.Items.{value_found, value_passed}
use Rattle.system_text.proofs.values.texts_of.Goals as goal
use Rattle.system_text.proofs.values.texts_of.Goals.{in-Some+in_ok-push, in_default}

pub loop-value-preserved : goal.loop-value-preserved
loop-value-preserved c =
    elim c.match-as_str.branch [
      | in-Some+in_ok-push w ↦
          ap (λ v. texts_at v.items) w.texts-is
          ∙ (ap texts_at w.in_ok-push.ensures.items
          ∙ (map-append _ c.loop-value.texts.items (w.in-Some.text ∷ [])
          ∙ value_found as_str c.args.values.now c.loop-value.value-index c.value-item.result _ _ (omega arith) c.value-item.is c.loop-value.invariant w.in-Some.ensures))
      | in_default w ↦
          ap (λ v. texts_at v.items) w.texts-is
          ∙ value_passed as_str c.args.values.now c.loop-value.value-index c.value-item.result _ (omega arith) c.value-item.is c.loop-value.invariant w.in_default.ensures
    ]
