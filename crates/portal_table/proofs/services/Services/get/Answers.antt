use Rattle.std.proofs.Common.{◌∙◌, ap, map, sym, List, slice_get, arith}
use Rattle.std.specs.Option.{option_map}
use Rattle.jx_base.specs.Basics.{numbered}
use Rattle.portal_table.specs.ServiceLists.{ServicesState}
use Rattle.portal_table.specs.ServicesInside.{record_of}
use Rattle.portal_table.specs.declared.services.Service.{Service}
use Rattle.table_threads.proofs.Numbered.{numbered_at, numbered_zero}
use Rattle.portal_table.proofs.ServiceReads.{copied_place}
use Rattle.portal_table.proofs.services.Services.get.Goals as goal

pub returns-in_err-place : goal.returns-in_err-place
returns-in_err-place c = ap (option_map record_of) c.from_residual.ensures ∙ sym (numbered_zero c.args.self.now.services c.args.service.0 (omega (arith, c.in_err-place.ensures)))

pub returns : goal.returns
returns c =
    ap (option_map record_of) c.copied.ensures
    ∙ copied_place record_of c.deref.result.now c.in_ok-place.place c.get.result c.get.ensures.lookup.0 c.get.ensures.lookup.1
    ∙ ap (λ (rows : List Service). slice_get (map record_of rows) c.in_ok-place.place) c.deref.ensures.value
    ∙ sym (numbered_at (map record_of c.self.inside.services.items) c.args.service.0 c.in_ok-place.place c.in_ok-place.ensures.0 c.in_ok-place.ensures.1)
    ∙ ap (λ (x : ServicesState). numbered x.services c.args.service.0) c.self.view_is
