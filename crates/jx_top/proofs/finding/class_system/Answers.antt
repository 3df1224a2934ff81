use Rattle.std.specs.Prelude.{ℕ, List, Err, [], ◌∷◌}
use Rattle.std.proofs.Common.{subst}
use Rattle.std.proofs.lemmas.Result.{err_from_is_err_and}
use Rattle.system_text.specs.Description.{one_class_plan}
use Rattle.jx_top.specs.Finding.{HoldsClass}
use Rattle.jx_top.specs.Systems.{HasClass, IsClassRefused, IsStopped, IsSystemOf}
use Rattle.jx_top.proofs.OneStop.{stopped_by}
use Rattle.jx_top.proofs.SearchSteps.{fetch_stops, stops_so, class_held}
use Rattle.jx_top.proofs.SystemSteps.{links, class_parts, file_stops, class_gets, was_linked}
use Rattle.jx_top.proofs.finding.class_system.Goals as goal

pub returns-in_err-bytes-clause-system : goal.returns-in_err-bytes-clause-system
returns-in_err-bytes-clause-system g c =
    let p = err_from_is_err_and c.from_residual.result c.from_residual.ensures.1 in
    let file = c.args.file.now in
    let name = c.args.name.now in
    rw (p.1, p.2)
    (fetch_stops (g.L.Shelf.state c.args.shelf.now).told (λ files system. IsSystemOf files file system) (λ files o. IsStopped files file o) file _
    (λ files o h. file_stops files file name o c.requires h) c.in_err-bytes.ensures.bytes c.in_err-bytes.ensures.ends)

pub returns-in_err-class-clause-system : goal.returns-in_err-class-clause-system
returns-in_err-class-clause-system g c =
    let r = c.from_residual-in_err-class in
    let p = err_from_is_err_and r.result r.ensures.1 in
    let told = (g.L.Shelf.state c.args.shelf.now).told in
    let file = c.args.file.now in
    let name = c.args.name.now in
    let held = subst (λ (b : List ℕ). HoldsClass name b (Err c.in_err-class.field-0.0)) c.deref.ensures.value c.in_err-class.ensures.class in
    rw (p.1, p.2)
    (stops_so told (λ files class. HasClass files name class) (λ files system. IsSystemOf files file system)
    (λ files o. IsClassRefused files name o) (λ files o. IsStopped files file o) _
    (λ files o t h. stopped_by files file name o c.requires h)
    (class_held told name _ (Err c.in_err-class.field-0.0) (class_gets told file name _ c.requires c.in_ok-bytes.ensures.bytes) held))

pub returns-clause-system : goal.returns-clause-system
returns-clause-system g c =
    let told = (g.L.Shelf.state c.args.shelf.now).told in
    let file = c.args.file.now in
    let name = c.args.name.now in
    let read = rw c.deref.ensures.value at c.in_ok-class.ensures.class in
    links told file (one_class_plan name) (_ ∷ []) _ (class_parts told file name _ _ c.requires c.in_ok-bytes.ensures.bytes read) c.one_class_system.ensures

pub returns-clause-linked : goal.returns-clause-linked
returns-clause-linked g c = was_linked (one_class_plan c.args.name.now) (_ ∷ []) _ c.one_class_system.ensures
