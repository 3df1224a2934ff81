-- The granules of the heap of a template, by what the plan has at its place.
use Rattle.std.proofs.Common.{◌≡◌, refl, ℕ, ◌<◌, ◌≤◌, length, get_or}
use Rattle.std.proofs.lemmas.Option.{slice_get_past, slice_get_read}
use Rattle.jx_base.specs.declared.program.System.{System}
use Rattle.jx_base.specs.declared.program.Template.{Template}
use Rattle.jx_base.specs.Basics.{parts_of}
use Rattle.jx_model.specs.Granules.{heap_granules, heap_of_template}
use Rattle.program_model.specs.Limits.{granule_cells}

-- those of the template that is there
pub granules_found : (s : System) (t : ℕ) (x : Template) → t < length s.plan.templates → x ≡ get_or s.plan.templates t x → heap_granules s t ≡ parts_of granule_cells x.heap
unfolding heap_granules heap_of_template
granules_found s t x lt is = rw (slice_get_read s.plan.templates (length s.plan.templates) t x refl lt is) refl

-- none where there is no template
pub granules_none : (s : System) (t : ℕ) → length s.plan.templates ≤ t → heap_granules s t ≡ 0
unfolding heap_granules heap_of_template parts_of granule_cells
granules_none s t le = rw (slice_get_past s.plan.templates t le) refl
