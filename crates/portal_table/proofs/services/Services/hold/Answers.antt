use Rattle.std.proofs.Common.{true, ◌≡◌, ◌∙◌, ◌-◌, ◌<◌, ap, refl, sym, length, List, Some, slice_get, arith}
use Rattle.std.proofs.lemmas.List.{length-map}
use Rattle.std.proofs.lemmas.Option.{slice_get_read}
use Rattle.jx_model.specs.Tables.{ServiceRecord}
use Rattle.portal_table.specs.ServiceLists.{ServicesState, with_holder}
use Rattle.portal_table.specs.ServicesInside.{record_of, services_state}
use Rattle.portal_table.specs.declared.services.Service.{Service}
use Rattle.portal_table.proofs.ServiceReads.{held_row}
use Rattle.portal_table.proofs.services.Services.hold.Goals as goal

pub returns : goal.returns
returns c =
    let rows : List Service = c.self.inside.services.items in
    let count : length c.args.self.now.services ≡ length rows = ap (λ (x : ServicesState). length x.services) (sym c.self.view_is) ∙ length-map rows record_of in
    let within : c.args.service.0 - 1 < length rows = omega (arith, c.requires.service.0, c.requires.service.1, count) in
    let read : slice_get rows (c.args.service.0 - 1) ≡ Some c.index.result.now = slice_get_read rows (length rows) (c.args.service.0 - 1) c.index.result.now refl within c.index.ensures in
    let kept : slice_get rows (c.args.service.0 - 1) ≡ Some c.index_mut.result.now = slice_get_read rows (length rows) (c.args.service.0 - 1) c.index_mut.result.now refl within c.index_mut.ensures.value in
    ap (λ (services : List ServiceRecord). record (services_state c.self.inside) { services = services })
    (held_row rows (c.args.service.0 - 1) c.args.domain.0 true c.index.result.now c.index_mut.result.now c.with.result read kept c.with.ensures)
    ∙ ap (λ (x : ServicesState). with_holder x c.args.domain.0 c.args.service.0) c.self.view_is
