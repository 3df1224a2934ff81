use Rattle.std.proofs.Common.{◌≡◌, ◌∙◌, ◌++◌, ◌∷◌, [], ap, sym, refl, arith, filter, length, get_or, slice_get, Some, List, ℕ}
use Rattle.std.specs.List.{range_with_len}
use Rattle.std.proofs.lemmas.Option.{slice_get_read}
use Rattle.jx_base.specs.declared.program.Template.{Template}
use Rattle.jx_model.specs.Permits.{boot_templates, is_boot_template}
use Rattle.nucleus_tables.proofs.OpenTables.{boots_with, boots_without}
use Rattle.nucleus_tables.proofs.opening.boots.Goals as goal
use Rattle.nucleus_tables.proofs.opening.boots.Goals.{then-templates-place+in_ok-push, else-templates-place}

pub loop-place-preserved : goal.loop-place-preserved
loop-place-preserved c =
    let s = c.args.system.now in
    let i = c.loop-place.place in
    let t = c.index-templates-place.result in
    let templates = c.as_slice-templates.result.now in
    let there : slice_get s.plan.templates i ≡ Some t =
    ap (λ (items : List Template). slice_get items i) (sym c.as_slice-templates.ensures)
    ∙ slice_get_read templates (length templates) i t refl c.loop-place-test.true c.index-templates-place.is in
    let boot : t.boot ≡ (get_or templates i t).boot = ap (λ (x : Template). x.boot) c.index-templates-place.is in
    elim c.if-templates-place.branch [
      | then-templates-place+in_ok-push w ↦
          ap (λ b. b.items) w.boots-is
          ∙ w.in_ok-push.ensures.items
          ∙ ap (λ (items : List ℕ). items ++ i ∷ []) c.loop-place.invariant
          ∙ sym (boots_with s i t there (boot ∙ w.if-templates-place.true))
      | else-templates-place w ↦
          ap (λ b. b.items) w.boots-is
          ∙ c.loop-place.invariant
          ∙ sym (boots_without s i t there (boot ∙ w.if-templates-place.false))
    ]

pub returns : goal.returns
unfolding boot_templates
returns c =
    let end : c.loop-place.place ≡ length c.args.system.now.plan.templates =
    omega (arith, c.loop-place-test.false, c.loop-place.auto.place-end, ap length c.as_slice-templates.ensures) in
    c.loop-place.invariant ∙ ap (λ (n : ℕ). filter (is_boot_template c.args.system.now) (range_with_len 0 n)) end
