use Rattle.std.proofs.Common.{◌≡◌, ◌∙◌, ◌-◌, refl, sym, ap, subst, List, length, Some, slice_get, arith}
use Rattle.std.specs.Prelude.{IsSome}
use Rattle.std.proofs.lemmas.Option.{slice_get_read}
use Rattle.jx_base.specs.Basics.{numbered}
use Rattle.nucleus_tables.specs.PlaceLists.{PlacesState}
use Rattle.nucleus_tables.specs.declared.places.CallPlaces.{CallPlaces}
use Rattle.nucleus_tables.proofs.NumberedPlaces.{numbered_stands}
use Rattle.table_threads.proofs.Numbered.{numbered_place}
use Rattle.nucleus_tables.proofs.places.Places.of.Goals as goal

pub overflow_sub-call : goal.overflow_sub-call
overflow_sub-call c = (numbered_stands c.args.self.now.places c.args.call.0 c.requires).0

pub index-requires : goal.index-requires
index-requires c =
    let stands = numbered_stands c.args.self.now.places c.args.call.0 c.requires in
    omega (arith, stands.1, ap (λ (y : PlacesState). length y.places) c.self.view_is, c.self.inside.places.ok.0)

pub returns : goal.returns
returns c =
    let places : List CallPlaces = c.self.inside.places.items in
    let n = c.args.call.0 in
    let found : CallPlaces = c.index.result.now in
    let stands = numbered_stands places n (subst (λ (y : PlacesState). IsSome (numbered y.places n)) (sym c.self.view_is) c.requires) in
    let at : slice_get places (n - 1) ≡ Some found = slice_get_read places (length places) (n - 1) found refl stands.1 c.index.ensures in
    sym (numbered_place places n stands.0 ∙ at) ∙ ap (λ (y : PlacesState). numbered y.places n) c.self.view_is
