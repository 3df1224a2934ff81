-- The place of a class in a template's list.
use Rattle.std.proofs.Common.{◌≡◌, ◌∙◌, refl, sym, ap, subst, ℕ, ◌<◌, ◌||◌, Bool, true, false, cond, List, [], ◌∷◌, length, Option, Some, None, is_some, slice_get, get_or, arith}
use Rattle.std.proofs.lemmas.List.FromFn.{get_or-map-range_with_len, length-map-range_with_len}
use Rattle.std.specs.List.{list_any, find, filter_map, cons_option, position}
use Rattle.std.specs.Str.{bytes_eq}
use Rattle.jx_base.specs.Basics.{contains_number, passes, has_text}
use Rattle.jx_base.specs.declared.program.Plan.{Plan}
use Rattle.jx_base.specs.declared.program.Template.{Template}
use Rattle.link_laws.proofs.Above.{number_there, find_some, find_there}
use Rattle.link_laws.proofs.Lists.{Among, IsOnce, text_itself, at_among, below_length, number_among, one_place, position_at, position_none, same_text, texts_once}
use Rattle.link_model.specs.LinkFaults.{listed_name, listed_names, listed_place}
use Rattle.linker_lists.specs.Listings.{are_listed}
use Rattle.program_model.specs.Plans.{IsPlanInRange}

module _ (plan : Plan) (t : Template) (name : List ℕ) where
  -- whether the class at a place of the plan has that name
  abbrev is_named : ℕ → Bool
  is_named p = passes (bytes_eq name) (listed_name plan p)

  -- then the name stands there
  named_at : (p : ℕ) → is_named p ≡ true → slice_get plan.classes p ≡ Some name
  unfolding passes listed_name
  named_at p h = by (slice_get plan.classes p) refl h
    where
      by : (o : Option (List ℕ)) → slice_get plan.classes p ≡ o → passes (bytes_eq name) o ≡ true → slice_get plan.classes p ≡ Some name
      by None r k = absurd cc
      by (Some x) r k = r ∙ ap Some (sym (same_text name x k))

  -- where the first place of the name is, the class has it
  has_name : (q : ℕ) → position (bytes_eq name) plan.classes ≡ Some q → is_named q ≡ true
  unfolding passes listed_name
  has_name q e = let r = position_at (bytes_eq name) plan.classes q e in ap (passes (bytes_eq name)) r.1 ∙ r.2

  -- a name that isn't one of the plan's is not listed
  not_there : position (bytes_eq name) plan.classes ≡ None → None ≡ listed_place plan t name
  unfolding listed_place
  not_there e = by (find is_named t.classes) refl
    where
      by : (o : Option ℕ) → find is_named t.classes ≡ o → None ≡ o
      by None h = refl
      by (Some p) h =
          let s = named_at p (find_some is_named t.classes p h).1 in
          absurd (position_none (bytes_eq name) plan.classes e name (at_among plan.classes p name s) (text_itself name))

  module _ (once : IsOnce plan.classes) (q : ℕ) (e : position (bytes_eq name) plan.classes ≡ Some q) where
    -- a place where the class has the name is the first one
    only_place : (p : ℕ) → is_named p ≡ true → p ≡ q
    only_place p h = one_place plan.classes once p q name (named_at p h) (named_at q (has_name q e))

    -- so the listed one is that, where it is listed
    listed_there : contains_number t.classes q ≡ true → Some q ≡ listed_place plan t name
    unfolding listed_place
    listed_there h =
        let r = find_there is_named t.classes q (number_among t.classes q h) (has_name q e) in
        ap Some (sym (only_place r.0 (find_some is_named t.classes r.0 r.1).1)) ∙ sym r.1

    -- and there is none, where it isn't
    not_listed : contains_number t.classes q ≡ false → None ≡ listed_place plan t name
    unfolding listed_place
    not_listed h = by (find is_named t.classes) refl
      where
        by : (o : Option ℕ) → find is_named t.classes ≡ o → None ≡ o
        by None k = refl
        by (Some p) k =
            let r = find_some is_named t.classes p k in
            let there = number_there t.classes q (subst (Among t.classes) (only_place p r.1) r.0) in
            absurd cc

-- what the table says of a place of the plan
table_at : (plan : Plan) (t : Template) (q : ℕ) (d : Bool) → q < length plan.classes → get_or (are_listed plan t) q d ≡ contains_number t.classes q
table_at plan t q d h = get_or-map-range_with_len (contains_number t.classes) 0 (length plan.classes) q q d h (omega arith)

-- the first place of a name is one of the plan
place_within : (plan : Plan) (name : List ℕ) (q : ℕ) → position (bytes_eq name) plan.classes ≡ Some q → q < length plan.classes
place_within plan name q e = let r = position_at (bytes_eq name) plan.classes q e in below_length plan.classes q r.0 r.1

-- the classes of a plan in range differ
classes_once : (plan : Plan) → IsPlanInRange plan → IsOnce plan.classes
classes_once plan range = texts_once plan.classes range.class_once

-- a template lists a name where it has a place in the list
pub has_listed : (plan : Plan) (t : Template) (name : List ℕ) → is_some (listed_place plan t name) ≡ has_text (listed_names plan t) name
unfolding listed_place listed_names has_text passes
has_listed plan t name = by t.classes
  where
    step : (o : Option (List ℕ)) (p : ℕ) (ps : List ℕ) → is_some (find (λ x. passes (bytes_eq name) (listed_name plan x)) ps) ≡ list_any (bytes_eq name) (filter_map (listed_name plan) ps)
        → is_some (cond (passes (bytes_eq name) o) (Some p) (find (λ x. passes (bytes_eq name) (listed_name plan x)) ps)) ≡ list_any (bytes_eq name) (cons_option o (filter_map (listed_name plan) ps))
    step None p ps h = h
    step (Some x) p ps h = with_test (bytes_eq name x)
      where
        with_test : (b : Bool) → is_some (cond b (Some p) (find (λ x. passes (bytes_eq name) (listed_name plan x)) ps)) ≡ b || list_any (bytes_eq name) (filter_map (listed_name plan) ps)
        with_test true = refl
        with_test false = h

    by : (ps : List ℕ) → is_some (find (λ x. passes (bytes_eq name) (listed_name plan x)) ps) ≡ list_any (bytes_eq name) (filter_map (listed_name plan) ps)
    by [] = refl
    by (p ∷ ps) = step (listed_name plan p) p ps (by ps)

-- a look-up by the first place of a name, in a plan whose classes are these, of a template for which the table says what it lists
module _ (plan : Plan) (t : Template) (names : List (List ℕ)) (listed : List Bool) (name : List ℕ) (range : IsPlanInRange plan) (same : names ≡ plan.classes) (table : listed ≡ are_listed plan t) where
  -- a name without a place isn't listed
  pub none_listed : None ≡ position (bytes_eq name) names → None ≡ listed_place plan t name
  none_listed h = not_there plan t name (ap (position (bytes_eq name)) (sym same) ∙ sym h)

  module _ (q : ℕ) (h : Some q ≡ position (bytes_eq name) names) where
    -- the first place in the plan's own list
    found : position (bytes_eq name) plan.classes ≡ Some q
    found = ap (position (bytes_eq name)) (sym same) ∙ sym h

    -- the place is one of the table
    pub in_table : q < length listed
    in_table = omega (arith, place_within plan name q found, ap length table, length-map-range_with_len (contains_number t.classes) 0 (length plan.classes))

    -- what the table says of the place
    said : (b : Bool) → b ≡ get_or listed q b → contains_number t.classes q ≡ b
    said b e = sym (e ∙ ap (λ xs. get_or xs q b) table ∙ table_at plan t q b (place_within plan name q found))

    -- where it says so, the class is listed
    pub some_listed : (b : Bool) → b ≡ get_or listed q b → b ≡ true → Some q ≡ listed_place plan t name
    some_listed b e k = listed_there plan t name (classes_once plan range) q found (said b e ∙ k)

    -- and else it isn't
    pub left_out : (b : Bool) → b ≡ get_or listed q b → b ≡ false → None ≡ listed_place plan t name
    left_out b e k = not_listed plan t name (classes_once plan range) q found (said b e ∙ k)
