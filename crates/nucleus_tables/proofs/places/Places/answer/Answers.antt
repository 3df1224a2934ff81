use Rattle.std.proofs.Common.{◌≡◌, ◌∙◌, ◌-◌, refl, sym, ap, subst, List, length, Some, slice_get, arith}
use Rattle.std.specs.Prelude.{IsSome}
use Rattle.std.proofs.lemmas.Option.{slice_get_read}
use Rattle.jx_base.specs.Basics.{numbered}
use Rattle.nucleus_tables.specs.PlaceLists.{PlacesState, with_answer}
use Rattle.nucleus_tables.specs.declared.places.CallPlaces.{CallPlaces}
use Rattle.nucleus_tables.proofs.NumberedPlaces.{numbered_stands}
use Rattle.table_threads.specs.Changes.{changed_at}
use Rattle.table_threads.proofs.Records.{set_changed}
use Rattle.nucleus_tables.proofs.places.Places.answer.Goals as goal

pub overflow_sub-call : goal.overflow_sub-call
overflow_sub-call c = (numbered_stands c.args.self.now.places c.args.call.0 c.requires).0

pub index_mut-requires : goal.index_mut-requires
index_mut-requires c =
    let stands = numbered_stands c.args.self.now.places c.args.call.0 c.requires in
    omega (arith, stands.1, ap (λ (y : PlacesState). length y.places) c.self.view_is, c.self.inside.places.ok.0)

pub returns : goal.returns
returns c =
    let x = c.self.inside in
    let places : List CallPlaces = x.places.items in
    let n = c.args.call.0 in
    let old : CallPlaces = c.index_mut.result.now in
    let stands = numbered_stands places n (subst (λ (y : PlacesState). IsSome (numbered y.places n)) (sym c.self.view_is) c.requires) in
    let at : slice_get places (n - 1) ≡ Some old = slice_get_read places (length places) (n - 1) old refl stands.1 c.index_mut.ensures.value in
    ap (λ (ps : List CallPlaces). record { places = ps; limit = x.limit }) (set_changed (n - 1) (with_answer c.args.place) places old at)
    ∙ ap (λ (y : PlacesState). record y { places = changed_at (n - 1) (with_answer c.args.place) y.places }) c.self.view_is
