use Rattle.std.proofs.Common.{◌≡◌, ◌∙◌, ◌<◌, ap, subst, sym, refl, ℕ, List, length, arith, Some, slice_get}
use Rattle.std.specs.Str.{bytes_eq}
use Rattle.std.specs.Prelude.{slice_range}
use Rattle.std.proofs.lemmas.List.{length-map}
use Rattle.std.proofs.lemmas.Option.{slice_get_read}
use Rattle.jx_model.specs.Tables.{named_service}
use Rattle.portal_table.specs.NameLists.{NamesState}
use Rattle.portal_table.specs.NamesInside.{IsWithin, bind_of, binds_of, newest_before}
use Rattle.portal_table.specs.declared.names.Bind.{Bind}
use Rattle.portal_table.proofs.NameChains.{found_here, found_none, no_place, goes_down, looks_on, named_all, named_before, place_within}
use Rattle.portal_table.proofs.names.Names.find.Goals as goal

pub loop-place-init : goal.loop-place-init
loop-place-init c =
    let all : List (List ℕ × ℕ) = binds_of c.self.inside.units.items c.self.inside.binds.items in
    let name : List ℕ = c.args.name.now in
    record {
      count = length c.self.inside.binds.items;
      few = omega arith;
      place_is = c.copied-place.ensures ∙ c.get.ensures.value ∙ c.self.invariant.newest c.digest.result ∙ ap (λ (d : ℕ). newest_before all d (length c.self.inside.binds.items)) c.digest.ensures;
      found_is =
          ap (λ (x : NamesState). named_service x.binds name) (sym c.self.view_is)
          ∙ named_all all name
          ∙ ap (λ (n : ℕ). named_before all n name) (length-map c.self.inside.binds.items (bind_of c.self.inside.units.items));
    }

pub index-bind-requires : goal.index-bind-requires
index-bind-requires c =
    omega (arith, c.self.inside.binds.ok.0, place_within c.self.inside.units.items c.self.inside.binds.items c.args.name.now _ c.loop-place.place c.loop-place.invariant c.in-Some.at c.in-Some.is)

pub units_of-requires : goal.units_of-requires
units_of-requires c =
    let binds : List Bind = c.self.inside.binds.items in
    let l : c.in-Some.at < length binds = place_within c.self.inside.units.items binds c.args.name.now _ c.loop-place.place c.loop-place.invariant c.in-Some.at c.in-Some.is in
    let there : slice_get binds c.in-Some.at ≡ Some c.index-bind.result.now = slice_get_read binds (length binds) c.in-Some.at c.index-bind.result.now refl l c.index-bind.ensures in
    subst (λ (xs : List ℕ). IsWithin (length xs) c.index-bind.result.now) (sym c.deref.ensures.value) (c.self.invariant.within c.in-Some.at c.index-bind.result.now there)

pub returns-then-eq : goal.returns-then-eq
returns-then-eq c =
    let binds : List Bind = c.self.inside.binds.items in
    let l : c.in-Some.at < length binds = place_within c.self.inside.units.items binds c.args.name.now _ c.loop-place.place c.loop-place.invariant c.in-Some.at c.in-Some.is in
    let there : slice_get binds c.in-Some.at ≡ Some c.index-bind.result.now = slice_get_read binds (length binds) c.in-Some.at c.index-bind.result.now refl l c.index-bind.ensures in
    let units : c.units_of.result.now ≡ (bind_of c.self.inside.units.items c.index-bind.result.now).0 = c.units_of.ensures ∙ ap (λ (xs : List ℕ). slice_range xs c.index-bind.result.now.start c.index-bind.result.now.end) c.deref.ensures.value in
    found_here c.self.inside.units.items binds c.args.name.now _ c.loop-place.place c.loop-place.invariant c.in-Some.at c.index-bind.result.now c.in-Some.is there (c.self.invariant.older c.in-Some.at c.index-bind.result.now there)
    (ap (λ (xs : List ℕ). bytes_eq xs c.args.name.now) (sym units) ∙ sym c.eq.ensures ∙ c.if-eq.true)

pub loop-place-smaller : goal.loop-place-smaller
loop-place-smaller c =
    let binds : List Bind = c.self.inside.binds.items in
    let l : c.in-Some.at < length binds = place_within c.self.inside.units.items binds c.args.name.now _ c.loop-place.place c.loop-place.invariant c.in-Some.at c.in-Some.is in
    let there : slice_get binds c.in-Some.at ≡ Some c.index-bind.result.now = slice_get_read binds (length binds) c.in-Some.at c.index-bind.result.now refl l c.index-bind.ensures in
    goes_down c.self.inside.units.items binds c.args.name.now _ c.loop-place.place c.loop-place.invariant c.in-Some.at c.index-bind.result.now c.in-Some.is there (c.self.invariant.older c.in-Some.at c.index-bind.result.now there)

pub loop-place-preserved : goal.loop-place-preserved
loop-place-preserved c =
    let binds : List Bind = c.self.inside.binds.items in
    let l : c.in-Some.at < length binds = place_within c.self.inside.units.items binds c.args.name.now _ c.loop-place.place c.loop-place.invariant c.in-Some.at c.in-Some.is in
    let there : slice_get binds c.in-Some.at ≡ Some c.index-bind.result.now = slice_get_read binds (length binds) c.in-Some.at c.index-bind.result.now refl l c.index-bind.ensures in
    let units : c.units_of.result.now ≡ (bind_of c.self.inside.units.items c.index-bind.result.now).0 = c.units_of.ensures ∙ ap (λ (xs : List ℕ). slice_range xs c.index-bind.result.now.start c.index-bind.result.now.end) c.deref.ensures.value in
    looks_on c.self.inside.units.items binds c.args.name.now _ c.loop-place.place c.loop-place.invariant c.in-Some.at c.index-bind.result.now c.in-Some.is there (c.self.invariant.older c.in-Some.at c.index-bind.result.now there)
    (ap (λ (xs : List ℕ). bytes_eq xs c.args.name.now) (sym units) ∙ sym c.eq.ensures ∙ c.if-eq.false)

pub returns : goal.returns
returns c = found_none c.self.inside.units.items c.self.inside.binds.items c.args.name.now _ c.loop-place.place c.loop-place.invariant (no_place c.loop-place.place c.in_default.not-Some)
