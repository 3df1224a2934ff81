use Rattle.std.proofs.Common.{◌≡◌, ◌∙◌, ◌+◌, ◌<◌, ℕ, sym, arith, take, get_or, ap, map, List, length, Option, None}
use Rattle.std.proofs.lemmas.Grind.{common_steps}
use Rattle.std.proofs.lemmas.List.Elements.{filter_map-append}
use Rattle.std.specs.List.{filter_map}
use Rattle.link_model.specs.ClassFiles.{class_name_in}
use Rattle.link_model.specs.Linking.{class_id}
use Rattle.linker_outline.proofs.classes.interface_ids.Goals as goal
use Rattle.linker_outline.proofs.classes.interface_ids.Goals.{in-Some+in_ok-push, in_default}

skipped : {X Y : Type 0} (h : X → Option Y) (g : ℕ → X) (xs : List ℕ) (i d : ℕ) → i < length xs → h (g (get_or xs i d)) ≡ None
    → filter_map h (map g (take (i + 1) xs)) ≡ filter_map h (map g (take i xs))
skipped h g xs i d within none = grind (arith, common_steps, filter_map-append, none)

pub loop-index-preserved : goal.loop-index-preserved
loop-index-preserved c = elim c.match-class_id.branch [
  | in-Some+in_ok-push w ↦ grind (arith, common_steps, filter_map-append)
  | in_default w ↦
      let named = rw (c.class_name_in.ensures, c.as_slice-index-items.ensures) at c.class_id.ensures in
      let within : c.loop-index.index-index < length c.args.file.now.interfaces = omega (arith, ap length c.as_slice-index-items.ensures) in
      ap (λ ids. ids.items) w.ids-is ∙ c.loop-index.invariant
      ∙ sym (skipped (class_id c.args.parts.now.plan.now) (class_name_in c.args.file.now) c.args.file.now.interfaces c.loop-index.index-index 0 within (sym named ∙ w.in_default.is))
]
