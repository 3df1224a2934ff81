-- Nothing extends String or StringBuilder, and what they are below.
use Rattle.std.proofs.Common.{◌≡◌, ℕ, zero, suc, ◌+◌, ◌⊎◌, inl, inr, Bool, true, false, not, ◌&&◌, ◌||◌, List, [], ◌∷◌, ◌++◌, map, codes, Option, Some, None, slice_get, refl, sym, ap, ◌∙◌, subst, arith}
use Rattle.std.specs.Prelude.{◌==◌, flat_map}
use Rattle.std.specs.List.{list_all, filter_map}
use Rattle.std.specs.Str.{bytes_eq}
use Rattle.jx_base.specs.declared.class_file.ClassFile.{ClassFile}
use Rattle.jx_base.specs.declared.ids.ClassId.{ClassId}
use Rattle.jx_base.specs.declared.program.Class.{Class}
use Rattle.jx_base.specs.declared.program.Plan.{Plan}
use Rattle.jx_base.specs.declared.program.System.{System}
use Rattle.jx_base.specs.declared.program.Template.{Template}
use Rattle.program_model.specs.BuiltIn.{built_in_count, built_in_table, string_class, builder_class, portal_class, throwable_classes, opened_built_in}
use Rattle.link_model.specs.ClassFiles.{super_name, interface_names}
use Rattle.link_model.specs.LinkFaults.{listed_name, listed_names, has_text, is_object_name, may_extend}
use Rattle.link_model.specs.Linking.{outline, class_number, class_id, class_of_file, array_class_named}
use Rattle.program_model.specs.Lookup.{class_at, class_count, is_below, parent_list, supers_of, supers_within}
use Rattle.jx_base.proofs.BasicLaws.{both, eq_of}
use Rattle.link_model.specs.LinkFaults.{IsLinked}
use Rattle.link_laws.specs.Supers.{right_above}
use Rattle.link_laws.proofs.Classes.{name_of, own_not_others, plan_others, is_own, built_in_own}
use Rattle.link_laws.proofs.Climbs.{super_number}
use Rattle.link_laws.proofs.Hierarchy.{interface_named, OfPortals, OfListed, IsNamedInterface, array_plain}
use Rattle.link_laws.proofs.Lists.{Among, among_either, any_among, at_among, each_among, from_flat, from_given, from_map, number_among, position_at, same_text, same_there}
use Rattle.link_laws.proofs.Origins.{IsOutlined, IsBuiltIn, IsOfFile, IsOfArray, is_outlined, class_outlined, meant_of, meant_alike}
use Rattle.link_laws.proofs.Rises.{array_parent}
use Rattle.link_laws.proofs.Templates.{file_listed, listed_sound}
use Rattle.link_laws.proofs.Uses.{either_true}
use Rattle.sound_laws.proofs.Tables.{clash}
use Rattle.std.specs.Option.{option_map}

-- ---- what the table says

-- the two classes that nothing extends
unfoldable pub is_final : ℕ → Bool
is_final c = (c == 1) || (c == 2)

-- no built-in class is right below one of them
built_in_free : list_all (λ (k : Class). list_all (λ x. not (is_final x)) (right_above k)) built_in_table ≡ true
unfolding is_final opened_built_in parent_list
built_in_free = refl

-- the classes that can be thrown are others, and so is java/lang/Object
others_free : list_all (λ n. not (bytes_eq n (codes "java/lang/String")) && not (bytes_eq n (codes "java/lang/StringBuilder"))) (codes "java/lang/Object" ∷ map (λ (k : Class). k.name) throwable_classes) ≡ true
unfolding opened_built_in
others_free = refl

-- their names
unfoldable final_name : ℕ → List ℕ
final_name c = elim (c == 1) [ true ↦ codes "java/lang/String" | false ↦ codes "java/lang/StringBuilder" ]

-- the numbers of the final ones
final_number : (c : ℕ) → is_final c ≡ true → (c ≡ 1) ⊎ (c ≡ 2)
unfolding is_final
final_number c h = elim (either_true (c == 1) (c == 2) h) [ inl q ↦ inl (eq_of c 1 q) | inr q ↦ inr (eq_of c 2 q) ]

-- String and StringBuilder in the table
string_there : slice_get (map name_of built_in_table) 1 ≡ Some (codes "java/lang/String")
unfolding opened_built_in
string_there = refl

builder_there : slice_get (map name_of built_in_table) 2 ≡ Some (codes "java/lang/StringBuilder")
unfolding opened_built_in
builder_there = refl

-- and among all names
string_at : (xs : List (List ℕ)) → slice_get (map name_of built_in_table ++ xs) 1 ≡ Some (codes "java/lang/String")
unfolding opened_built_in
string_at xs = refl

builder_at : (xs : List (List ℕ)) → slice_get (map name_of built_in_table ++ xs) 2 ≡ Some (codes "java/lang/StringBuilder")
unfolding opened_built_in
builder_at xs = refl

-- a test turned about
unturn : (b : Bool) → not b ≡ true → b ≡ true → ⊥
unturn true x y = cc
unturn false x y = cc

-- no final class has the number of a class of the plan or of portals
not_listed : (r : ℕ) → is_final (built_in_count + r) ≡ true → ⊥
unfolding built_in_count
not_listed r h = elim (final_number (27 + r) h) [ inl e ↦ omega (arith, e) | inr e ↦ omega (arith, e) ]

not_portal : is_final portal_class ≡ false
unfolding portal_class is_final
not_portal = refl

-- java/lang/Object is none of them
not_object : is_final 0 ≡ false
unfolding is_final
not_object = refl

-- above an array class stands java/lang/Object alone
array_free : (name : List ℕ) (x : ℕ) → Among (right_above (array_class_named name)) x → is_final x ≡ true → ⊥
unfolding parent_list
array_free name x d f = elim (among_either (map (λ (i : ClassId). i.0) (array_class_named name).interfaces) (parent_list (array_class_named name).parent) x d) [
  | inl v ↦ absurd (subst (λ (is : List ClassId). Among (map (λ (i : ClassId). i.0) is) x) (array_plain name) v)
  | inr v ↦ elim (subst (λ (o : Option ClassId). Among (parent_list o) x) (array_parent name) v) [ inl z ↦ clash (is_final 0) (ap is_final z ∙ f) not_object | inr z ↦ absurd z ]
]

module _ (plan : Plan) (files : List ClassFile) (s : System) (from : IsLinked plan files s) where
  -- the name of a final class
  final_named : (name : List ℕ) (c : ℕ) → is_final c ≡ true → class_number plan name ≡ Some c → (name ≡ codes "java/lang/String") ⊎ (name ≡ codes "java/lang/StringBuilder")
  unfolding class_number
  final_named name c h e =
      let r = position_at (bytes_eq name) (map name_of built_in_table ++ plan.classes) c e in
      let same = same_text name r.0 r.2 in
      elim (final_number c h) [
        | inl q ↦ inl (same ∙ same_there r.0 (codes "java/lang/String") (sym r.1 ∙ ap (slice_get (map name_of built_in_table ++ plan.classes)) q ∙ string_at plan.classes))
        | inr q ↦ inr (same ∙ same_there r.0 (codes "java/lang/StringBuilder") (sym r.1 ∙ ap (slice_get (map name_of built_in_table ++ plan.classes)) q ∙ builder_at plan.classes))
      ]

  -- no class may extend one of them
  may_not : (t : Template) (f : ClassFile) (name : List ℕ) → may_extend plan t f name ≡ true → (name ≡ codes "java/lang/String") ⊎ (name ≡ codes "java/lang/StringBuilder") → ⊥
  unfolding may_extend is_object_name has_text listed_names listed_name
  may_not t f name h n = elim (either_true _ _ h) [
    | inl q ↦ free name (inl (sym (same_text name (codes "java/lang/Object") q))) n
    | inr q ↦ elim (either_true _ _ (both _ _ q).1) [
      | inl w ↦
          let r = any_among (bytes_eq name) (filter_map (slice_get plan.classes) t.classes) w in
          let p = from_given (slice_get plan.classes) t.classes r.0 r.1 in
          listed name (subst (Among plan.classes) (sym (same_text name r.0 r.2)) (at_among plan.classes p.0 r.0 p.2)) n
      | inr w ↦
          let r = any_among (bytes_eq name) (map (λ (k : Class). k.name) throwable_classes) w in
          free name (inr (subst (Among (map (λ (k : Class). k.name) throwable_classes)) (sym (same_text name r.0 r.2)) r.1)) n
    ]
  ]
    where
      free : (name : List ℕ) → Among (codes "java/lang/Object" ∷ map (λ (k : Class). k.name) throwable_classes) name → (name ≡ codes "java/lang/String") ⊎ (name ≡ codes "java/lang/StringBuilder") → ⊥
      free name a n =
          let k = both _ _ (each_among (λ n. not (bytes_eq n (codes "java/lang/String")) && not (bytes_eq n (codes "java/lang/StringBuilder"))) (codes "java/lang/Object" ∷ map (λ (k : Class). k.name) throwable_classes) name others_free a) in
          elim n [
            | inl e ↦ unturn (bytes_eq name (codes "java/lang/String")) k.0 (ap (λ x. bytes_eq x (codes "java/lang/String")) e)
            | inr e ↦ unturn (bytes_eq name (codes "java/lang/StringBuilder")) k.1 (ap (λ x. bytes_eq x (codes "java/lang/StringBuilder")) e)
          ]

      listed : (name : List ℕ) → Among plan.classes name → (name ≡ codes "java/lang/String") ⊎ (name ≡ codes "java/lang/StringBuilder") → ⊥
      listed name a n =
          let other = plan_others plan files s from name a in
          elim n [
            | inl e ↦ own_not_others name (each_among is_own (map name_of built_in_table) name built_in_own (subst (Among (map name_of built_in_table)) (sym e) (at_among (map name_of built_in_table) 1 _ string_there))) other
            | inr e ↦ own_not_others name (each_among is_own (map name_of built_in_table) name built_in_own (subst (Among (map name_of built_in_table)) (sym e) (at_among (map name_of built_in_table) 2 _ builder_there))) other
          ]

  -- what stands right above the class of a file is none of them
  file_free : (p : ℕ) (f : ClassFile) → slice_get files p ≡ Some f → (x : ℕ) → Among (right_above (class_of_file plan files (built_in_count + p) f)) x → is_final x ≡ true → ⊥
  unfolding class_of_file class_id parent_list
  file_free p f e x a h =
      let l = file_listed plan files s from p f e in
      let q = super_number plan files s from l.0 p l.1 f l.2 in
      elim (among_either (map (λ (i : ClassId). i.0) (filter_map (class_id plan) (interface_names f))) (parent_list (class_id plan (super_name f))) x a) [
        | inl b ↦ let r = from_map (λ (i : ClassId). i.0) (filter_map (class_id plan) (interface_names f)) x b in interface r.0 r.2 (interface_named plan files s from l.0 p l.1 f l.2 r.0 r.1)
        | inr b ↦ elim (subst (λ (o : Option ClassId). Among (parent_list o) x) (ap (option_map (λ (c : ℕ). record { 0 = c })) q.1) b) [
          | inl w ↦ may_not l.0 f (super_name f) (listed_sound plan files s from l.0 p l.1 f l.2).extends (final_named (super_name f) x h (q.1 ∙ ap Some w))
          | inr w ↦ absurd w
        ]
      ]
    where
      interface : {t : Template} (i : ClassId) → i.0 ≡ x → IsNamedInterface plan files s from t i.0 → ⊥
      interface i g (OfPortals z) = clash (is_final portal_class) (ap is_final (sym z ∙ g) ∙ h) not_portal
      interface i g (OfListed r k z b d v) = not_listed r (ap is_final (sym z ∙ g) ∙ h)

  -- alike classes have the same above them
  above_alike : (k h : Class) → k.interfaces ≡ h.interfaces → k.parent ≡ h.parent → right_above k ≡ right_above h
  above_alike k h a b = ap (λ is. map (λ (i : ClassId). i.0) is ++ parent_list k.parent) a ∙ ap (λ o. map (λ (i : ClassId). i.0) h.interfaces ++ parent_list o) b

  -- nothing stands right below a final class
  none_below : (c : ℕ) (k : Class) → class_at s c ≡ Some k → (x : ℕ) → Among (right_above k) x → is_final x ≡ true → ⊥
  unfolding class_at outline parent_list
  none_below c k e x a f = let r = class_outlined plan files s from c k e in by r.0 r.2 (is_outlined plan files c r.0 r.1)
    where
      of : (h : Class) → IsOutlined plan files c h → Among (right_above h) x → ⊥
      of h (IsBuiltIn small w) b = unturn (is_final x) (each_among (λ x. not (is_final x)) (right_above h) x (each_among (λ (k : Class). list_all (λ x. not (is_final x)) (right_above k)) built_in_table h built_in_free (at_among built_in_table c h w)) b) f
      of h (IsOfFile p g i w m) b = file_free p g w x (subst (λ (y : Class). Among (right_above y) x) (m ∙ ap (λ n. class_of_file plan files n g) i) b) f
      of h (IsOfArray j name i w m) b = array_free name x (subst (λ (y : Class). Among (right_above y) x) m b) f

      by : (h : Class) → k ≡ meant_of (outline plan files) files c h → IsOutlined plan files c h → ⊥
      by h q o =
          let alike = meant_alike (outline plan files) files c h in
          of h o (subst (λ xs. Among xs x) (above_alike k h (ap (λ (y : Class). y.interfaces) q ∙ alike.interfaces) (ap (λ (y : Class). y.parent) q ∙ alike.parent)) a)

  -- so only the class itself is below it
  within : (n c x : ℕ) → is_final x ≡ true → Among (supers_within s n c) x → c ≡ x
  unfolding supers_within
  within zero c x f a = absurd a
  within (suc n) c x f a = by (class_at s c) refl a (λ y b. within n y x f b)
    where
      by : (o : Option Class) → class_at s c ≡ o → Among (elim o as (λ _. List ℕ) [ None ↦ [] | Some k ↦ c ∷ flat_map (supers_within s n) (right_above k) ]) x → ((y : ℕ) → Among (supers_within s n y) x → y ≡ x) → c ≡ x
      by None e b again = absurd b
      by (Some k) e (inl b) again = b
      by (Some k) e (inr b) again =
          let r = from_flat (supers_within s n) (right_above k) x b in
          absurd (none_below c k e x (subst (Among (right_above k)) (again r.0 r.2) r.1) f)

  -- nothing extends String
  pub strings : (c : ℕ) → is_below s c string_class ≡ true → c ≡ string_class
  unfolding is_below supers_of string_class is_final
  strings c h = within (class_count s) c 1 refl (number_among (supers_within s (class_count s) c) 1 h)

  -- nor StringBuilder
  pub builders : (c : ℕ) → is_below s c builder_class ≡ true → c ≡ builder_class
  unfolding is_below supers_of builder_class is_final
  builders c h = within (class_count s) c 2 refl (number_among (supers_within s (class_count s) c) 2 h)
