-- Domains of a linked system can be run.
use Rattle.std.proofs.Common.{◌≡◌, ℕ, ◌<◌, ◌≤◌, List, Some, slice_get, sym, ap, ◌∙◌, subst, arith}
use Rattle.std.specs.Prelude.{◌^◌}
use Rattle.std.proofs.lemmas.Option.{get_or_from_slice_get}
use Rattle.jx_base.specs.declared.class_file.ClassFile.{ClassFile}
use Rattle.jx_base.specs.declared.program.Plan.{Plan}
use Rattle.jx_base.specs.declared.program.System.{System}
use Rattle.jx_base.specs.declared.program.Template.{Template}
use Rattle.program_model.specs.Lookup.{class_count, template_at}
use Rattle.link_model.specs.LinkFaults.{IsLinked}
use Rattle.link_laws.proofs.Lists.{below_length}
use Rattle.link_laws.proofs.Names.{same_plan}
use Rattle.machine_replies.specs.Leaving.{CanRun}
use Rattle.sound_laws.proofs.Sound.{is_sound}
use Rattle.linked_runs.proofs.Listed.{linked_listed}
use Rattle.linked_runs.proofs.ShortCodes.{linked_short}

-- heaps have room for the first objects
pub linked_room : (plan : Plan) (files : List ClassFile) (s : System) → IsLinked plan files s → (t : ℕ) (x : Template) → template_at s t ≡ Some x → 5 ≤ x.heap
unfolding template_at
linked_room plan files s from t x e =
    let there : slice_get plan.templates t ≡ Some x = ap (λ (p : Plan). slice_get p.templates t) (sym (same_plan plan files s from)) ∙ e in
    let range = from.has_files.range.templates t x (below_length plan.templates t x there) in
    let low : 16 ≤ x.heap = subst (λ (y : Template). 16 ≤ y.heap) (get_or_from_slice_get plan.templates t x x there) range.heap.0 in
    omega arith

-- a linked system with so few classes can be run
pub linked_runs : (plan : Plan) (files : List ClassFile) (s : System) → IsLinked plan files s → class_count s < 2 ^ 32 → CanRun s
linked_runs plan files s from few = record {
  sound = is_sound plan files s from;
  listed = linked_listed plan files s from;
  codes = linked_short plan files s from;
  numbers = few;
  heaps = linked_room plan files s from;
}
