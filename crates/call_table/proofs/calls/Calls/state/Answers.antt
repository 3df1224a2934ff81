use Rattle.std.proofs.Common.{◌≡◌, ◌∙◌, ◌-◌, refl, sym, ap, subst, List, length, Some, slice_get, arith}
use Rattle.std.specs.Prelude.{IsSome}
use Rattle.std.specs.Option.{option_map}
use Rattle.std.proofs.lemmas.Option.{slice_get_read}
use Rattle.jx_base.specs.Basics.{numbered}
use Rattle.call_table.specs.declared.calls.Call.{Call}
use Rattle.call_table.specs.CallLists.{CallsState}
use Rattle.call_table.proofs.CallPlaces.{has_place_some}
use Rattle.table_threads.proofs.Numbered.{numbered_place}
use Rattle.call_table.proofs.calls.Calls.state.Goals as goal

pub overflow_sub-call : goal.overflow_sub-call
overflow_sub-call c = (has_place_some c.args.self.now.calls c.args.call.0 c.requires).from_one

pub index-requires : goal.index-requires
index-requires c =
    let place = has_place_some c.args.self.now.calls c.args.call.0 c.requires in
    omega (arith, place.within, ap (λ (y : CallsState). length y.calls) c.self.view_is, c.self.inside.calls.ok.0)

pub returns : goal.returns
returns c =
    let calls : List Call = c.self.inside.calls.items in
    let n = c.args.call.0 in
    let call : Call = c.index.result.now in
    let requires = subst (λ (y : CallsState). IsSome (numbered y.calls n)) (sym c.self.view_is) c.requires in
    let place = has_place_some calls n requires in
    let at : slice_get calls (n - 1) ≡ Some call = slice_get_read calls (length calls) (n - 1) call refl place.within c.index.ensures in
    ap (option_map (λ (x : Call). x.state)) (sym (numbered_place calls n place.from_one ∙ at))
    ∙ ap (λ (y : CallsState). option_map (λ (x : Call). x.state) (numbered y.calls n)) c.self.view_is
