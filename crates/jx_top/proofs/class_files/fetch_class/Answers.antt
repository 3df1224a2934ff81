use Rattle.std.proofs.lemmas.Result.{err_from_is_err_and}
use Rattle.jx_top.specs.Systems.{HasClass, IsClassRefused, file_of_class}
use Rattle.jx_top.proofs.SearchSteps.{fetch_stops, class_refused, class_held}
use Rattle.jx_top.proofs.class_files.fetch_class.Goals as goal

pub returns-in_err-bytes-clause-class : goal.returns-in_err-bytes-clause-class
returns-in_err-bytes-clause-class g c =
    let r = c.from_residual-in_err-bytes in
    let p = err_from_is_err_and r.result r.ensures.1 in
    let name = c.args.name.now in
    let failed = rw (c.as_str.ensures.value, c.in_ok-file.ensures) at c.in_err-bytes.ensures.bytes in
    rw (p.1, p.2)
    (fetch_stops (g.L.Shelf.state c.args.shelf.now).told (λ files class. HasClass files name class) (λ files o. IsClassRefused files name o)
    (file_of_class name) _ (λ files o h. class_refused files name o h) failed c.in_err-bytes.ensures.ends)

pub returns-clause-class : goal.returns-clause-class
returns-clause-class g c =
    let got = rw (c.as_str.ensures.value, c.in_ok-file.ensures) at c.in_ok-bytes.ensures.bytes in
    let holds = rw c.deref.ensures.value at c.class_of_bytes.ensures.class in
    class_held (g.L.Shelf.state c.args.shelf.now).told c.args.name.now _ _ got holds
