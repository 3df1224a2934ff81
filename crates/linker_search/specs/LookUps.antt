-- What finds the classes and members of a system.
use Rattle.std.specs.Prelude.{◌≡◌, ℕ, List, map}
use Rattle.indexmap.specs.IndexMap.{IndexMap}
use Rattle.jx_base.specs.declared.program.Selector.{Selector}
use Rattle.jx_base.specs.declared.program.System.{System}
use Rattle.link_model.specs.Linking.{own_method}
use Rattle.linker_search.specs.OwnFields.{instance_place, of_class, static_place}
use Rattle.linker_search.specs.Places.{place_in}
use Rattle.linker_search.specs.Walked.{distinct_supers, list_at}
use Rattle.linker_search.specs.declared.places.Key.{Key}

-- names of classes, lists of supers, and maps of members
pub record LookUps (S : Type 0) : Type 0 where
  pub names : List (List ℕ)
  pub supers : List (List ℕ)
  pub methods : IndexMap Key ℕ S
  pub instances : IndexMap Key ℕ S
  pub statics : IndexMap Key ℕ S

-- they are those of the system
pub record AreLookUps {S : Type 0} (s : System) (look_ups : LookUps S) : Type 0 where
  pub names : look_ups.names ≡ map (λ k. k.name) s.program.classes
  pub supers : (c : ℕ) → list_at look_ups.supers c ≡ distinct_supers s c
  pub methods : (c : ℕ) (x : Selector) → place_in look_ups.methods c x ≡ own_method s x c
  pub instances : (c : ℕ) (x : Selector) → place_in look_ups.instances c x ≡ of_class (instance_place x) s.program.classes c
  pub statics : (c : ℕ) (x : Selector) → place_in look_ups.statics c x ≡ of_class (static_place s.program.classes x) s.program.classes c
