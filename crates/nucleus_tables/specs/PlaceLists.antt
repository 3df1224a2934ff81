-- What the places of parcels are seen as: a plain list, those of call n at place n - 1.
use Rattle.std.specs.Prelude.{◌≤◌, ℕ, List, length, Option, None, vec_capacity}
use Rattle.nucleus_tables.specs.declared.places.CallPlaces.{CallPlaces}
use Rattle.nucleus_tables.specs.declared.places.Places.TheInside.{Inside}

-- the places, and of how many calls there may be some
pub record PlacesState : Type 0 where
  pub places : List CallPlaces
  pub limit : ℕ

-- those of a call that was queued there
abbrev pub new_places : ℕ → CallPlaces
new_places at = record { queued = at; answered = None }

-- those of a call that is answered there, or whose answer is no longer awaited
abbrev pub with_answer : Option ℕ → CallPlaces → CallPlaces
with_answer at p = record p { answered = at }

-- what they are seen as
abbrev pub places_state : Inside → PlacesState
places_state x = record { places = x.places.items; limit = x.limit }

-- room is reserved
pub record ArePlaces (x : Inside) : Type 0 where
  pub few : length x.places.items ≤ x.limit
  pub room : x.limit ≤ vec_capacity x.places
