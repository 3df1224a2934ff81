-- From each class of the plan the supers lead up to a built-in one.
use Rattle.std.proofs.Common.{◌≡◌, ℕ, zero, suc, ◌+◌, ◌<◌, ◌≤◌, inl, inr, true, false, List, [], ◌∷◌, ◌++◌, length, map, codes, Option, Some, None, slice_get, refl, sym, ap, ◌∙◌, subst, append_assoc, arith}
use Rattle.std.specs.List.{filter_map, list_any, list_all}
use Rattle.std.specs.Str.{bytes_eq}
use Rattle.std.proofs.lemmas.List.{length-map}
use Rattle.jx_base.specs.declared.class_file.ClassFile.{ClassFile}
use Rattle.jx_base.specs.declared.program.Plan.{Plan}
use Rattle.jx_base.specs.declared.program.System.{System}
use Rattle.jx_base.specs.declared.program.Template.{Template}
use Rattle.program_model.specs.BuiltIn.{built_in_table, built_in_count, throwable_classes, opened_built_in}
use Rattle.link_model.specs.ClassFiles.{super_name, interface_names}
use Rattle.link_model.specs.LinkFaults.{IsLinked, listed_name, listed_names, listed_place, has_text, is_object_name, may_extend, next_above, all_above, is_above_itself}
use Rattle.link_model.specs.Linking.{class_number, array_names}
use Rattle.jx_base.specs.Basics.{passes}
use Rattle.jx_base.proofs.BasicLaws.{passed, both}
use Rattle.link_laws.proofs.Above.{no_longer, find_some, find_there, position_once, above_next, above_more, comes_back}
use Rattle.link_laws.proofs.Classes.{name_of, all_names, names_once, built_in_length}
use Rattle.link_laws.proofs.Lists.{Among, IsOnce, among_front, among_given, from_given, among_at, any_among, each_among, at_front, at_behind, at_below, below_length, same_text, same_there}
use Rattle.link_laws.proofs.Templates.{IsListed, listed_sound, file_listed}
use Rattle.link_laws.proofs.Uses.{either_true}

-- the front of a list without repeats
once_front : {A : Type 0} (xs ys : List A) → IsOnce (xs ++ ys) → IsOnce xs
once_front [] ys h = tt
once_front (x ∷ xs) ys h = ((λ a. h.0 (among_front xs ys x a)), once_front xs ys h.1)

-- the classes that can be thrown are built in
throwables_built_in : list_all (λ n. has_text (map name_of built_in_table) n) (map name_of throwable_classes) ≡ true
unfolding has_text opened_built_in
throwables_built_in = refl

-- the first built-in class is java/lang/Object
object_first : slice_get (map name_of built_in_table) 0 ≡ Some (codes "java/lang/Object")
unfolding opened_built_in
object_first = refl

-- there are built-in classes
pub some_built_in : 0 < built_in_count
unfolding built_in_count
some_built_in = omega arith

module _ (plan : Plan) (files : List ClassFile) (s : System) (linked : IsLinked plan files s) where
  -- ---- numbers

  -- the number of the class of a name that stands at a place
  number_at : (i : ℕ) (name : List ℕ) → slice_get (map name_of built_in_table ++ plan.classes) i ≡ Some name → class_number plan name ≡ Some i
  unfolding class_number all_names
  number_at i name e = position_once (map name_of built_in_table ++ plan.classes) i name
      (once_front (map name_of built_in_table ++ plan.classes) (array_names plan files) (subst IsOnce (sym (append_assoc (map name_of built_in_table) plan.classes (array_names plan files))) (names_once plan files s linked))) e

  -- there are as many built-in names as built-in classes
  names_length : length (map name_of built_in_table) ≡ built_in_count
  names_length = length-map built_in_table name_of ∙ built_in_length

  -- the number of a built-in class
  pub built_in_number : (i : ℕ) (name : List ℕ) → slice_get (map name_of built_in_table) i ≡ Some name → class_number plan name ≡ Some i
  built_in_number i name e = number_at i name (at_front (map name_of built_in_table) plan.classes i (below_length (map name_of built_in_table) i name e) ∙ e)

  -- the number of a class of the plan
  pub plan_number : (p : ℕ) (name : List ℕ) → slice_get plan.classes p ≡ Some name → class_number plan name ≡ Some (built_in_count + p)
  plan_number p name e = number_at (built_in_count + p) name
      (ap (λ n. slice_get (map name_of built_in_table ++ plan.classes) (n + p)) (sym names_length) ∙ at_behind (map name_of built_in_table) plan.classes p ∙ e)

  -- ---- the super of a class

  -- a class of the template's list, by its name
  pub listed_by : (t : Template) (name : List ℕ) → has_text (listed_names plan t) name ≡ true → (r : ℕ) × (listed_place plan t name ≡ Some r)
  unfolding has_text listed_names listed_place listed_name passes
  listed_by t name h =
      let r = any_among (bytes_eq name) (filter_map (slice_get plan.classes) t.classes) h in
      let p = from_given (slice_get plan.classes) t.classes r.0 r.1 in
      find_there (λ p. passes (bytes_eq name) (slice_get plan.classes p)) t.classes p.0 p.1 (ap (passes (bytes_eq name)) p.2 ∙ r.2)

  -- the place that is listed for a name has that name
  pub place_named : (t : Template) (name : List ℕ) (r : ℕ) → listed_place plan t name ≡ Some r → Among t.classes r × (slice_get plan.classes r ≡ Some name)
  unfolding listed_place listed_name
  place_named t name r h =
      let k = find_some (λ p. passes (bytes_eq name) (slice_get plan.classes p)) t.classes r h in
      let n = passed (bytes_eq name) (slice_get plan.classes r) k.1 in
      (k.0, n.1 ∙ ap Some (sym (same_text name n.0 n.2)))

  -- a class that is built in, or that stands in the list right above place p
  pub data IsAbove (t : Template) (p q : ℕ) : Type 0 where
    AboveBuiltIn : q < built_in_count → IsAbove t p q
    AboveListed : (r : ℕ) (g : ClassFile) → q ≡ built_in_count + r → Among t.classes r → slice_get files r ≡ Some g → Among (next_above plan files t p) r → IsAbove t p q

  -- the class of a listed name stands right above a class that names it
  pub named_above : (t : Template) (p : ℕ) (f : ClassFile) (name : List ℕ) (r : ℕ) → slice_get files p ≡ Some f → Among (super_name f ∷ interface_names f) name → listed_place plan t name ≡ Some r →
      (class_number plan name ≡ Some (built_in_count + r)) × IsAbove t p (built_in_count + r)
  unfolding next_above
  named_above t p f name r e n h =
      let k = place_named t name r h in
      let g = at_below files r (omega (arith, below_length plan.classes r name k.1, linked.has_files.count)) in
      (plan_number r name k.1, AboveListed r g.0 refl k.0 g.1 (by (slice_get files p) e))
    where
      by : (o : Option ClassFile) → o ≡ Some f → Among (elim o as (λ _. List ℕ) [ None ↦ [] | Some f ↦ filter_map (listed_place plan t) (super_name f ∷ interface_names f) ]) r
      by None q = absurd cc
      by (Some g) q = subst (λ (x : ClassFile). Among (filter_map (listed_place plan t) (super_name x ∷ interface_names x)) r) (sym (same_there g f q)) (among_given (listed_place plan t) (super_name f ∷ interface_names f) name r n h)

  -- the super of a listed class has a number
  pub super_number : (t : Template) (p : ℕ) (name : List ℕ) (f : ClassFile) → IsListed plan files t p name f → (q : ℕ) × (class_number plan (super_name f) ≡ Some q) × IsAbove t p q
  unfolding may_extend is_object_name has_text
  super_number t p name f h = elim (either_true _ _ (listed_sound plan files s linked t p name f h).extends) [
    | inl q ↦
        let object = same_text (super_name f) (codes "java/lang/Object") q in
        (0, built_in_number 0 (super_name f) (object_first ∙ ap Some (sym object)), AboveBuiltIn some_built_in)
    | inr q ↦ elim (either_true _ _ (both _ _ q).1) [
      | inl w ↦ let r = listed_by t (super_name f) w in let k = named_above t p f (super_name f) r.0 h.file (inl refl) r.1 in (built_in_count + r.0, k.0, k.1)
      | inr w ↦
          let n = any_among (bytes_eq (super_name f)) (map name_of throwable_classes) w in
          let b = any_among (bytes_eq n.0) (map name_of built_in_table) (each_among (λ n. list_any (bytes_eq n) (map name_of built_in_table)) (map name_of throwable_classes) n.0 throwables_built_in n.1) in
          let i = among_at (map name_of built_in_table) b.0 b.1 in (
            i.0,
            built_in_number i.0 (super_name f) (i.1 ∙ ap Some (sym (same_text n.0 b.0 b.2) ∙ sym (same_text (super_name f) n.0 n.2))),
            AboveBuiltIn (omega (arith, below_length (map name_of built_in_table) i.0 b.0 i.1, names_length)),
          )
    ]
  ]

  -- ---- climbing

  -- so many classes of the plan lead from a class to a built-in one
  abbrev pub Climbs : ℕ → ℕ → Type 0
  Climbs zero c = c < built_in_count
  Climbs (suc n) c = (p : ℕ) × (f : ClassFile) × (q : ℕ) × (c ≡ built_in_count + p) × (slice_get files p ≡ Some f) × (class_number plan (super_name f) ≡ Some q) × Climbs n q

  -- how to climb on from a listed class
  abbrev ClimbsOn : Template → ℕ → List ℕ → ℕ → Type 0
  ClimbsOn t m seen r = (g : ClassFile) → Among t.classes r → slice_get files r ≡ Some g → IsOnce (r ∷ seen) → ((x : ℕ) → Among seen x → Among t.classes x)
      → ((x : ℕ) → Among seen x → Among (all_above plan files t x (length seen)) r) → length t.classes ≤ m + length seen → (k : ℕ) × Climbs k (built_in_count + r)

  -- one step up from a listed class, behind those that were seen
  step : (t : Template) → Among plan.templates t → (n : ℕ) (seen : List ℕ) (p : ℕ) → ((m r : ℕ) → n ≡ suc m → ClimbsOn t m (p ∷ seen) r) → ClimbsOn t n seen p
  step t h n seen p again f listed file once all ways room =
      let named = at_below plan.classes p (omega (arith, below_length files p f file, linked.has_files.count)) in
      let above = super_number t p named.0 f (record { template = h; listed = listed; named = named.1; file = file }) in
      by n above.0 above.1 above.2 room again
    where
      few : suc (length seen) ≤ length t.classes
      few = no_longer (p ∷ seen) t.classes once (λ x a. elim a [ inl q ↦ subst (Among t.classes) q listed | inr q ↦ all x q ])

      -- what stands right above leads to no class that was seen
      new : (r : ℕ) (g : ClassFile) → Among t.classes r → slice_get files r ≡ Some g → Among (next_above plan files t p) r → Among (p ∷ seen) r → ⊥
      new r g a b c d =
          let name = at_below plan.classes r (omega (arith, below_length files r g b, linked.has_files.count)) in
          clash (comes_back plan files t r (suc (length seen)) few (back d)) (listed_sound plan files s linked t r name.0 g (record { template = h; listed = a; named = name.1; file = b })).no_loop
        where
          clash : is_above_itself plan files t r ≡ true → is_above_itself plan files t r ≡ false → ⊥
          clash x y = cc

          back : Among (p ∷ seen) r → Among (all_above plan files t r (suc (length seen))) r
          back (inl q) = subst (λ x. Among (all_above plan files t x (suc (length seen))) r) q (above_next plan files t p (length seen) r c)
          back (inr q) = above_more plan files t r (length seen) p r (ways r q) c

      by : (n q : ℕ) → class_number plan (super_name f) ≡ Some q → IsAbove t p q → length t.classes ≤ n + length seen
          → ((m r : ℕ) → n ≡ suc m → ClimbsOn t m (p ∷ seen) r) → (k : ℕ) × Climbs k (built_in_count + p)
      by n q e (AboveBuiltIn small) room again = (1, (p, f, q, refl, file, e, small))
      by zero q e (AboveListed r g i a b c) room again = absurd (omega (arith, few, room))
      by (suc n) q e (AboveListed r g i a b c) room again =
          let k = again n r refl g a b ((λ d. new r g a b c d), once) (λ x d. elim d [ inl w ↦ subst (Among t.classes) w listed | inr w ↦ all x w ])
          (λ x d. elim d [
            | inl w ↦ subst (λ y. Among (all_above plan files t y (suc (length seen))) r) w (above_next plan files t p (length seen) r c)
            | inr w ↦ above_more plan files t x (length seen) p r (ways x w) c
          ]) (omega (arith, room)) in
          (suc k.0, (p, f, q, refl, file, e, subst (Climbs k.0) (sym i) k.1))

  -- from a listed class
  climb : (t : Template) → Among plan.templates t → (n : ℕ) (seen : List ℕ) (p : ℕ) → ClimbsOn t n seen p
  climb t h zero seen p = step t h zero seen p (λ m r e. absurd (omega (arith, e)))
  climb t h (suc n) seen p = step t h (suc n) seen p (λ m r e g a b c d w room. climb t h n (p ∷ seen) r g a b c d w (omega (arith, e, room)))

  -- from each class of the plan
  pub climbs : (p : ℕ) (f : ClassFile) → slice_get files p ≡ Some f → (k : ℕ) × Climbs k (built_in_count + p)
  climbs p f e =
      let l = file_listed plan files s linked p f e in
      climb l.0 l.2.template (length l.0.classes) [] p f l.2.listed e ((λ a. a), tt) (λ x a. absurd a) (λ x a. absurd a) (omega arith)
