-- The supers, interfaces and layouts of a linked system's classes.
use Rattle.std.proofs.Common.{◌≡◌, ℕ, zero, suc, ◌+◌, ◌<◌, ◌⊎◌, inl, inr, Bool, true, false, not, List, [], ◌∷◌, ◌++◌, length, map, codes, Option, Some, None, slice_get, get_or, refl, sym, ap, ◌∙◌, subst, arith}
use Rattle.std.specs.Prelude.{IfSome, Contains, All}
use Rattle.std.specs.List.{list_all, filter_map, AllByRecursion}
use Rattle.std.proofs.lemmas.Option.{get_or_from_slice_get}
use Rattle.class_grammar.specs.Flags.{is_interface_flag, opened_flags}
use Rattle.jx_base.specs.declared.class_file.ClassFile.{ClassFile}
use Rattle.jx_base.specs.declared.ids.ClassId.{ClassId}
use Rattle.jx_base.specs.declared.program.Class.{Class}
use Rattle.jx_base.specs.declared.program.Plan.{Plan}
use Rattle.jx_base.specs.declared.program.System.{System}
use Rattle.jx_base.specs.declared.program.Template.{Template}
use Rattle.program_model.specs.BuiltIn.{built_in_table, built_in_count, object_class, portal_class, array_class, class_below, built_in_class, object_methods, plain_classes, opened_built_in}
use Rattle.link_model.specs.ClassFiles.{super_name, interface_names}
use Rattle.link_model.specs.LinkFaults.{IsLinked, may_implement, listed_place}
use Rattle.link_model.specs.Linking.{outline, linked_system, class_number, class_id, class_of_file, array_class_named, own_fields}
use Rattle.program_model.specs.Lookup.{class_at, class_count, is_interface}
use Rattle.jx_base.specs.Basics.{passes}
use Rattle.jx_base.proofs.BasicLaws.{passed}
use Rattle.link_laws.specs.Supers.{BeginsWithLayout, HasSupers, SupersHold, IsKnownTo, HasKnownSupers, ListsHold}
use Rattle.link_laws.proofs.Above.{find_none}
use Rattle.link_laws.proofs.Classes.{name_of, built_in_length}
use Rattle.link_laws.proofs.Climbs.{Climbs, climbs, some_built_in, built_in_number, plan_number, place_named, super_number, IsAbove, AboveBuiltIn, AboveListed}
use Rattle.link_laws.proofs.Fitting.{contained}
use Rattle.link_laws.proofs.Layouts.{built_in_begun, file_begun, fields_are}
use Rattle.link_laws.proofs.Lists.{Among, among_at, at_among, at_below, below_length, each_among, from_given, of_all, same_there, same_text}
use Rattle.link_laws.proofs.Origins.{IsOutlined, IsBuiltIn, IsOfFile, IsOfArray, is_outlined, class_linked, class_outlined, meant_of, meant_alike, file_linked}
use Rattle.link_laws.proofs.Rises.{Rises, rises, built_in_parent, built_in_outlined, array_parent, file_parent, rising_class, chain_grows, chain_ends, chain_once}
use Rattle.link_laws.proofs.Templates.{IsListed, file_listed, listed_sound, unturned}
use Rattle.link_laws.proofs.Uses.{either_true, and_then_some, mapped_some, of_some}
use Rattle.std.specs.Option.{option_and_then, option_map}

-- ---- small facts

-- what is so of the value, where there is one
pub if_there : {A : Type 0} (P : A → Type 0) (o : Option A) → ((x : A) → o ≡ Some x → P x) → IfSome o P
if_there P None h = tt
if_there P (Some x) h = h x refl

-- what stands in a list is contained in it
pub contains_among : {A : Type 0} (xs : List A) (x : A) → Among xs x → Contains xs x
contains_among xs x h = let r = among_at xs x h in (r.0, below_length xs r.0 x r.1, get_or_from_slice_get xs r.0 x x r.1)

-- a test that passes for a value that is there
passing : {A : Type 0} (p : A → Bool) (o : Option A) (x : A) → o ≡ Some x → p x ≡ true → passes p o ≡ true
unfolding passes
passing p None x e h = absurd cc
passing p (Some y) x e h = ap p (same_there y x e) ∙ h

-- ---- built-in and array classes

-- whether there are none
unfoldable pub is_empty : List ClassId → Bool
is_empty [] = true
is_empty (x ∷ xs) = false

-- no built-in class has interfaces
pub built_in_plain : list_all (λ (k : Class). is_empty k.interfaces) built_in_table ≡ true
unfolding is_empty opened_built_in
built_in_plain = refl

-- a list that passes is empty
pub empty_is : (xs : List ClassId) → is_empty xs ≡ true → xs ≡ []
unfolding is_empty
empty_is [] h = refl
empty_is (x ∷ xs) h = absurd cc

-- an array class has neither interfaces nor fields
pub array_plain : (name : List ℕ) → (array_class_named name).interfaces ≡ []
unfolding array_class_named array_class class_below built_in_class
array_plain [] = refl
array_plain (u ∷ units) = refl

-- nor has it fields
array_fieldless : (name : List ℕ) → (array_class_named name).fields ≡ []
unfolding array_class_named array_class class_below built_in_class
array_fieldless [] = refl
array_fieldless (u ∷ units) = refl

-- java/lang/Object stands first, and has no fields
object_there : slice_get built_in_table 0 ≡ Some (built_in_class (codes "java/lang/Object") None [] object_methods)
unfolding built_in_table plain_classes
object_there = refl

-- java/lang/Object has no fields
object_fieldless : (built_in_class (codes "java/lang/Object") None [] object_methods).fields ≡ []
unfolding built_in_class
object_fieldless = refl

-- the class of portals is an interface
pub portal_named : slice_get (map name_of built_in_table) portal_class ≡ Some (codes "jx/Portal")
unfolding opened_built_in
portal_named = refl

-- it has the flag of interfaces
portal_interface : passes (λ (k : Class). is_interface_flag k.flags) (slice_get built_in_table portal_class) ≡ true
unfolding opened_built_in opened_flags passes
portal_interface = refl

-- it is built in
pub portal_small : portal_class < built_in_count
unfolding portal_class built_in_count
portal_small = omega arith

module _ (plan : Plan) (files : List ClassFile) (s : System) (linked : IsLinked plan files s) where
  -- a built-in class in the system
  pub built_in_there : (c : ℕ) (b : Class) → c < built_in_count → slice_get built_in_table c ≡ Some b → class_at s c ≡ Some (meant_of (outline plan files) files c b)
  built_in_there c b h e = class_linked plan files s linked c b (built_in_outlined plan files s linked c h ∙ e)

  -- ---- interfaces

  -- the class that an interface's name has: portals', or one of the template's list
  pub data IsNamedInterface (t : Template) (i : ℕ) : Type 0 where
    OfPortals : i ≡ portal_class → IsNamedInterface t i
    OfListed : (r : ℕ) (g : ClassFile) → i ≡ built_in_count + r → Among t.classes r → slice_get files r ≡ Some g → is_interface_flag g.flags ≡ true → IsNamedInterface t i

  -- each interface of a listed class is such
  pub interface_named : (t : Template) (p : ℕ) (n : List ℕ) (f : ClassFile) → IsListed plan files t p n f → (i : ClassId) → Among (filter_map (class_id plan) (interface_names f)) i → IsNamedInterface t i.0
  unfolding class_id may_implement
  interface_named t p n f l i h =
      let r = from_given (class_id plan) (interface_names f) i h in
      let number = mapped_some (λ (c : ℕ). record { 0 = c }) (class_number plan r.0) i r.2 in
      let may = unturned (may_implement plan files t r.0) (find_none (λ n. not (may_implement plan files t n)) (interface_names f) r.0 (listed_sound plan files s linked t p n f l).implements r.1) in
      let here : i.0 ≡ number.0 = ap (λ (c : ClassId). c.0) (sym number.2) in
      elim (either_true _ _ may) [
        | inl q ↦ OfPortals (here ∙ same_there number.0 portal_class (sym number.1 ∙ built_in_number plan files s linked portal_class r.0 (portal_named ∙ ap Some (sym (same_text r.0 (codes "jx/Portal") q)))))
        | inr q ↦
            let g = passed (λ (f : ClassFile). is_interface_flag f.flags) (option_and_then (slice_get files) (listed_place plan t r.0)) q in
            let place = and_then_some (listed_place plan t r.0) (slice_get files) g.0 g.1 in
            let k = place_named plan files s linked t r.0 place.0 place.1 in
            OfListed place.0 g.0 (here ∙ same_there number.0 (built_in_count + place.0) (sym number.1 ∙ plan_number plan files s linked place.0 r.0 k.1)) k.0 place.2 g.2
      ]

  -- and an interface of the system
  named_is_interface : (t : Template) (i : ℕ) → IsNamedInterface t i → is_interface s i ≡ true
  unfolding is_interface class_of_file
  named_is_interface t i (OfPortals e) =
      let b = passed (λ (k : Class). is_interface_flag k.flags) (slice_get built_in_table portal_class) portal_interface in
      ap (λ n. passes (λ (k : Class). is_interface_flag k.flags) (class_at s n)) e
      ∙ passing (λ (k : Class). is_interface_flag k.flags) (class_at s portal_class) _ (built_in_there portal_class b.0 portal_small b.1)
      (ap is_interface_flag (meant_alike (outline plan files) files portal_class b.0).flags ∙ b.2)
  named_is_interface t i (OfListed r g e a w h) =
      ap (λ n. passes (λ (k : Class). is_interface_flag k.flags) (class_at s n)) e
      ∙ passing (λ (k : Class). is_interface_flag k.flags) (class_at s (built_in_count + r)) _ (file_linked plan files s linked r g w) h

  -- ---- each class

  module _ (c : ℕ) (k : Class) (e : class_at s c ≡ Some k) where
    -- its parent is there
    parent_there : (n : ℕ) → Rises plan files s linked n c → IfSome k.parent (λ p. p.0 < class_count s)
    parent_there zero r = if_there (λ (p : ClassId). p.0 < class_count s) k.parent (λ p q. absurd (clash p (ap (λ (x : Class). x.parent) (same_there r.0 k (sym r.1 ∙ e))) r.2 q))
      where
        clash : (p : ClassId) → r.0.parent ≡ k.parent → r.0.parent ≡ None → k.parent ≡ Some p → ⊥
        clash p a b d = cc
    parent_there (suc n) r = if_there (λ (p : ClassId). p.0 < class_count s) k.parent (λ p q.
        subst (λ (x : ClassId). x.0 < class_count s) (same_there r.1 p (sym r.3 ∙ ap (λ (x : Class). x.parent) (same_there r.0 k (sym r.2 ∙ e)) ∙ q)) (rising_class plan files s linked n r.1.0 r.4))

    -- only java/lang/Object has none
    only_object : (n : ℕ) → Rises plan files s linked n c → k.parent ≡ None → c ≡ object_class
    unfolding object_class
    only_object zero r q = r.3
    only_object (suc n) r q = absurd (clash (ap (λ (x : Class). x.parent) (same_there r.0 k (sym r.2 ∙ e))) r.3)
      where
        clash : r.0.parent ≡ k.parent → r.0.parent ≡ Some r.1 → ⊥
        clash a b = cc

    -- and java/lang/Object has none
    object_alone : c ≡ object_class → k.parent ≡ None
    unfolding object_class
    object_alone q =
        let b = at_below built_in_table 0 (omega (arith, built_in_length, some_built_in)) in
        let there = built_in_there 0 b.0 some_built_in b.1 in
        ap (λ (x : Class). x.parent) (same_there k _ (sym e ∙ ap (class_at s) q ∙ there)) ∙ (meant_alike (outline plan files) files 0 b.0).parent ∙ first (built_in_parent 0 b.0 b.1)
      where
        first : {o : Option ClassId} → ((o ≡ None) × (zero ≡ zero)) ⊎ ((p : ClassId) × (o ≡ Some p) × (p.0 < 0)) → o ≡ None
        first (inl h) = h.0
        first (inr h) = absurd (omega (arith, h.2))

    -- its interfaces are interfaces
    interfaces_there : AllByRecursion (λ (i : ClassId). is_interface s i.0 ≡ true) k.interfaces
    unfolding class_at outline class_of_file
    interfaces_there = let r = class_outlined plan files s linked c k e in by r.0 r.2 (is_outlined plan files c r.0 r.1)
      where
        none : (xs : List ClassId) → xs ≡ [] → AllByRecursion (λ (i : ClassId). is_interface s i.0 ≡ true) xs
        none xs q = subst (AllByRecursion (λ (i : ClassId). is_interface s i.0 ≡ true)) (sym q) tt

        by : (h : Class) → k ≡ meant_of (outline plan files) files c h → IsOutlined plan files c h → AllByRecursion (λ (i : ClassId). is_interface s i.0 ≡ true) k.interfaces
        by h q (IsBuiltIn small w) =
            none k.interfaces (ap (λ (x : Class). x.interfaces) q ∙ (meant_alike (outline plan files) files c h).interfaces
            ∙ empty_is h.interfaces (each_among (λ (k : Class). is_empty k.interfaces) built_in_table h built_in_plain (at_among built_in_table c h w)))
        by h q (IsOfFile p f i w g) =
            let l = file_listed plan files s linked p f w in
            of_all (λ (i : ClassId). is_interface s i.0 ≡ true) k.interfaces (λ x a. named_is_interface l.0 x.0 (interface_named l.0 p l.1 f l.2 x
            (subst (λ (xs : List ClassId). Among xs x) (ap (λ (x : Class). x.interfaces) q ∙ (meant_alike (outline plan files) files c h).interfaces ∙ ap (λ (x : Class). x.interfaces) g) a)))
        by h q (IsOfArray j name i w g) =
            none k.interfaces (ap (λ (x : Class). x.interfaces) q ∙ (meant_alike (outline plan files) files c h).interfaces ∙ ap (λ (x : Class). x.interfaces) g ∙ array_plain name)

    -- its layout begins with its parent's
    layout_there : (p : ClassId) (q : Class) → k.parent ≡ Some p → class_at s p.0 ≡ Some q → BeginsWithLayout k q
    unfolding class_at outline class_of_file
    layout_there p q a b = let r = class_outlined plan files s linked c k e in by r.0 r.2 (is_outlined plan files c r.0 r.1)
      where
        by : (h : Class) → k ≡ meant_of (outline plan files) files c h → IsOutlined plan files c h → BeginsWithLayout k q
        by h w (IsBuiltIn small i) =
            let alike = meant_alike (outline plan files) files c h in
            let parent : h.parent ≡ Some p = sym alike.parent ∙ ap (λ (x : Class). x.parent) (sym w) ∙ a in
            let below = before (built_in_parent c h i) parent in
            let x = at_below built_in_table p.0 (omega (arith, built_in_length, below, small)) in
            let same = same_there q _ (sym b ∙ built_in_there p.0 x.0 (omega (arith, below, small)) x.1) in
            let r = built_in_begun c h p x.0 i parent x.1 in
            (r.0, ap (λ (y : Class). y.fields) w ∙ alike.fields ∙ r.1 ∙ ap (λ fs. fs ++ r.0) (sym (ap (λ (y : Class). y.fields) same ∙ (meant_alike (outline plan files) files p.0 x.0).fields)))
          where
            before : {o : Option ClassId} → ((o ≡ None) × (c ≡ 0)) ⊎ ((z : ClassId) × (o ≡ Some z) × (z.0 < c)) → o ≡ Some p → p.0 < c
            before (inl y) z = absurd (clash y.0 z)
              where
                clash : {o : Option ClassId} → o ≡ None → o ≡ Some p → ⊥
                clash u v = cc
            before (inr y) z = subst (λ (x : ClassId). x.0 < c) (same_there y.0 p (sym y.1 ∙ z)) y.2
        by h w (IsOfFile place f i g m) = let r = climbs plan files s linked place f g in climbing r.0 (subst (Climbs plan files s linked r.0) (sym i) r.1)
          where
            climbing : (n : ℕ) → Climbs plan files s linked n c → BeginsWithLayout k q
            climbing zero h = absurd (omega (arith, h, i))
            climbing (suc n) h =
                let x = file_parent plan files s linked h.0 h.2 h.1 h.4 h.5 in
                let same : p ≡ record { 0 = h.2 } = same_there p _ (sym a ∙ ap (λ (y : Class). y.parent) (same_there k x.0 (sym e ∙ ap (class_at s) h.3 ∙ x.1)) ∙ x.2) in
                let fields = fields_are plan files s linked n h.2 h.6 q (ap (λ (y : ClassId). class_at s y.0) (sym same) ∙ b) in
                (own_fields false c h.1, fields_are plan files s linked (suc n) c h k e ∙ file_begun plan files s linked n c h ∙ ap (λ fs. fs ++ own_fields false c h.1) (sym fields))
        by h w (IsOfArray j name i g m) =
            let alike = meant_alike (outline plan files) files c h in
            let parent = ap (λ (x : Class). x.parent) w ∙ alike.parent ∙ ap (λ (x : Class). x.parent) m ∙ array_parent name in
            let zeroth : p ≡ record { 0 = 0 } = same_there p _ (sym a ∙ parent) in
            let there = built_in_there 0 (built_in_class (codes "java/lang/Object") None [] object_methods) some_built_in object_there in
            let same = same_there q _ (sym b ∙ ap (λ (x : ClassId). class_at s x.0) zeroth ∙ there) in
            let none = ap (λ (x : Class). x.fields) same ∙ (meant_alike (outline plan files) files 0 (built_in_class (codes "java/lang/Object") None [] object_methods)).fields ∙ object_fieldless in
            ([], ap (λ (x : Class). x.fields) w ∙ alike.fields ∙ ap (λ (x : Class). x.fields) m ∙ array_fieldless name ∙ ap (λ fs. fs ++ []) (sym none))

    -- so it has its supers
    has_supers : HasSupers s c k
    has_supers =
        let r = rises plan files s linked c k e in
        record {
          parent = parent_there r.0 r.1;
          no_parent = only_object r.0 r.1;
          object = object_alone;
          interfaces = interfaces_there;
          chain = chain_grows plan files s linked r.0 c r.1 k e;
          end = chain_ends plan files s linked r.0 c r.1;
          once = chain_once plan files s linked r.0 c r.1;
          layout = if_there (λ (p : ClassId). IfSome (class_at s p.0) (BeginsWithLayout k)) k.parent (λ p a. if_there (BeginsWithLayout k) (class_at s p.0) (λ q b. layout_there p q a b));
        }

  -- each class has its supers
  pub supers_hold : SupersHold s
  supers_hold c k e = has_supers c k e

  -- ---- templates

  -- a class right above a listed one is known
  above_known : (t : Template) (p q : ℕ) → IsAbove plan files s linked t p q → IsKnownTo t q
  above_known t p q (AboveBuiltIn h) = inl h
  above_known t p q (AboveListed r g e a b d) = inr (r, e, contains_among t.classes r a)

  -- an interface of a listed class is known
  interface_known : (t : Template) (i : ℕ) → IsNamedInterface t i → IsKnownTo t i
  interface_known t i (OfPortals e) = inl (subst (λ n. n < built_in_count) (sym e) portal_small)
  interface_known t i (OfListed r g e a b d) = inr (r, e, contains_among t.classes r a)

  -- the places of a template's list are places of the plan
  pub place_small : (t : Template) (p : ℕ) → Among plan.templates t → Among t.classes p → p < length plan.classes
  place_small t p there listed =
      let place = among_at plan.templates t there in
      let range = linked.has_files.range.templates place.0 t (below_length plan.templates place.0 t place.1) in
      let q = among_at t.classes p listed in
      below _ (get_or_from_slice_get plan.templates place.0 t t place.1) range.class_places q.0 (below_length t.classes q.0 p q.1) (get_or_from_slice_get t.classes q.0 p p q.1)
    where
      below : (u : Template) → u ≡ t → All (λ c. c < length plan.classes) u.classes → (i : ℕ) → i < length t.classes → get_or t.classes i p ≡ p → p < length plan.classes
      below u e h i l g = let k = subst (λ (x : Template). All (λ c. c < length plan.classes) x.classes) e h in subst (λ c. c < length plan.classes) g (k i p l)

  -- and so is the main one
  pub main_listed : (t : Template) → Among plan.templates t → Among t.classes t.main
  main_listed t there =
      let place = among_at plan.templates t there in
      let range = linked.has_files.range.templates place.0 t (below_length plan.templates place.0 t place.1) in
      subst (λ (x : Template). Among x.classes x.main) (get_or_from_slice_get plan.templates place.0 t t place.1) (contained _ _ range.main)

  -- the lists of templates hold what their classes need
  pub lists_hold : ListsHold s
  unfolding linked_system outline class_of_file class_id
  lists_hold t p h l =
      let there : Among plan.templates t = subst (λ (x : Plan). Among x.templates t) (ap (λ (x : System). x.plan) linked.system) (contained s.plan.templates t h) in
      let listed = contained t.classes p l in
      let small = place_small t p there listed in
      let name = at_below plan.classes p small in
      let f = at_below files p (omega (arith, small, linked.has_files.count)) in
      let is : IsListed plan files t p name.0 f.0 = record { template = there; listed = listed; named = name.1; file = f.1 } in
      let above = super_number plan files s linked t p name.0 f.0 is in
      of_some (HasKnownSupers t) (class_at s (built_in_count + p)) _ (file_linked plan files s linked p f.0 f.1) (record {
        parent = if_there (λ (p : ClassId). IsKnownTo t p.0) (class_id plan (super_name f.0)) (λ x e.
            subst (λ (y : ClassId). IsKnownTo t y.0) (same_there _ x (sym (ap (option_map (λ (c : ℕ). record { 0 = c })) above.1) ∙ e)) (above_known t p above.0 above.2));
        interfaces = of_all (λ (i : ClassId). IsKnownTo t i.0) (filter_map (class_id plan) (interface_names f.0)) (λ i a. interface_known t i.0 (interface_named t p name.0 f.0 is i a));
      })
