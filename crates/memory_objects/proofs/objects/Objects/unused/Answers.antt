use Rattle.std.proofs.Common.{◌∙◌, ◌==◌, ap, not, filter, rules, ℕ, List}
use Rattle.std.proofs.lemmas.Fn.{filter_same}
use Rattle.memory_objects.specs.ObjectLists.{ObjectsState}
use Rattle.memory_objects.specs.Rows.{parts_of, records_of}
use Rattle.memory_objects.proofs.objects.Objects.unused.Goals as goal

pub returns-clause-after : goal.returns-clause-after
returns-clause-after c =
    let x = c.self.inside in
    let e = c.in_ok-extent.extent in
    ap (λ (xs : List ℕ). let z : ObjectsState = record { parts = parts_of x.parts.items; records = records_of x.records.items; extents = xs } in z)
    (filter_same _ (λ y. not (e == y)) _ (λ y b f' k. search rules) _ _ c.retain.ensures.filtered)
    ∙ ap (λ (z : ObjectsState). let w : ObjectsState = record z { extents = filter (λ y. not (e == y)) z.extents } in w) c.self.view_is
