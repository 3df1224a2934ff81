-- What stands right above the classes of a template.
use Rattle.std.specs.Prelude.{ℕ, List, [], ◌∷◌, ◌==◌, map, unwrap_or, slice_get}
use Rattle.std.specs.List.{filter_map}
use Rattle.jx_base.specs.Basics.{all_added, firsts}
use Rattle.jx_base.specs.declared.class_file.ClassFile.{ClassFile}
use Rattle.jx_base.specs.declared.program.Plan.{Plan}
use Rattle.jx_base.specs.declared.program.Template.{Template}
use Rattle.link_model.specs.ClassFiles.{super_name, interface_names}
use Rattle.link_model.specs.LinkFaults.{listed_place}

-- a template of a plan, with the files of the plan's classes
pub record OfFiles : Type 0 where
  pub plan : Plan
  pub template : Template
  pub files : List ClassFile

-- the numbers with those others behind them that are new
abbrev pub joined : List ℕ → List ℕ → List ℕ
joined xs ys = all_added (λ x y. y == x) xs ys

-- the places of the template's classes of those names
abbrev pub listed_places : Plan → Template → List (List ℕ) → List ℕ
listed_places plan t names = filter_map (listed_place plan t) names

-- the template's classes that a file extends or implements itself, each once
abbrev pub right_above : Plan → Template → ClassFile → List ℕ
right_above plan t f = firsts (listed_places plan t (super_name f ∷ interface_names f))

-- the same of each class of the plan
abbrev pub all_right_above : Plan → Template → List ClassFile → List (List ℕ)
all_right_above plan t files = map (right_above plan t) files

-- what stands at a place of such a list, nothing where there is no such place
abbrev pub above_at : List (List ℕ) → ℕ → List ℕ
above_at lists p = unwrap_or (slice_get lists p) []
