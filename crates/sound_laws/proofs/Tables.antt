-- The built-in classes of a linked system, its selectors and its heaps.
use Rattle.std.proofs.Common.{◌≡◌, ℕ, ◌-◌, ◌<◌, ◌≤◌, inl, inr, Bool, true, false, not, ◌||◌, List, [], ◌∷◌, ◌++◌, reverse, drop, Some, slice_get, refl, sym, ap, ◌∙◌, subst, arith}
use Rattle.std.specs.Prelude.{IsSome, ◌==◌, if◌then◌else◌, nat_lt, unwrap_or}
use Rattle.std.specs.List.{list_all, range_with_len}
use Rattle.std.specs.Str.{bytes_eq}
use Rattle.std.proofs.lemmas.Bool.Decides.{Decides-ltb}
use Rattle.std.proofs.lemmas.List.{reverse-append, reverse-reverse}
use Rattle.std.proofs.lemmas.Option.{get_or_from_slice_get}
use Rattle.class_grammar.specs.Flags.{is_interface_flag, opened_flags}
use Rattle.jx_base.specs.declared.class_file.ClassFile.{ClassFile}
use Rattle.jx_base.specs.declared.program.Class.{Class}
use Rattle.jx_base.specs.declared.program.Method.{Method}
use Rattle.jx_base.specs.declared.program.Plan.{Plan}
use Rattle.jx_base.specs.declared.program.System.{System}
use Rattle.jx_base.specs.declared.program.Template.{Template}
use Rattle.program_model.specs.BuiltIn.{built_in_count, built_in_table, portal_class, opened_built_in}
use Rattle.link_model.specs.Linking.{outline, meanings_of}
use Rattle.program_model.specs.Lookup.{class_at, class_named, method_at, selector_at, template_at, is_built_in, is_below, is_interface, class_of_type, class_name_of_type, type_of_name, type_of_class, fits_type, object_fits, shape_fits, shape_fits_class, ObjectShape, opened_lookup}
use Rattle.program_model.specs.Types.{is_reference_type}
use Rattle.jx_base.specs.Basics.{passes, opened_basics}
use Rattle.jx_base.proofs.BasicLaws.{passed, eq_of}
use Rattle.link_model.specs.LinkFaults.{IsLinked}
use Rattle.link_laws.proofs.Classes.{built_in_length}
use Rattle.link_laws.proofs.Hierarchy.{built_in_there}
use Rattle.link_laws.proofs.Lists.{at_among, at_below, below_length, each_among, in_range, position_at, position_there, same_text, text_itself}
use Rattle.link_laws.proofs.Names.{distinct_names, same_plan}
use Rattle.link_laws.proofs.Origins.{meant_of}
use Rattle.link_laws.proofs.Uses.{either_true}
use Rattle.link_laws.proofs.Whole.{methods_hold}
use Rattle.machine_laws.specs.Values.{cell_limit}
use Rattle.std.specs.Option.{option_map}

-- ---- the table

-- the one interface among the built-in classes is jx/Portal
one_interface : list_all (λ c. not (passes (λ (k : Class). is_interface_flag k.flags) (slice_get built_in_table c)) || (c == portal_class)) (range_with_len 0 27) ≡ true
unfolding opened_built_in opened_flags opened_basics
one_interface = refl

-- whether a name is not that of an array
unfoldable is_class_type : List ℕ → Bool
is_class_type name = bytes_eq (type_of_name name) (76 ∷ name ++ 59 ∷ [])

-- no built-in class is one of arrays
built_in_types : list_all (λ (k : Class). is_class_type k.name) built_in_table ≡ true
unfolding is_class_type opened_built_in opened_lookup
built_in_types = refl

-- there are 27 of them
count_is : built_in_count ≡ 27
unfolding built_in_count
count_is = refl

-- a class without meanings stays
meant_itself : (s : System) (files : List ClassFile) (c : ℕ) (k : Class) → c < built_in_count → meant_of s files c k ≡ k
unfolding meant_of is_built_in
meant_itself s files c k h = by (nat_lt c built_in_count) ((Decides-ltb c built_in_count).1 h)
  where
    other : Class
    other = unwrap_or (option_map (λ (f : ClassFile). record k { constants = meanings_of s f }) (slice_get files (c - built_in_count))) k

    by : (b : Bool) → b ≡ true → (if b then k else other) ≡ k
    by true e = refl
    by false e = absurd cc

-- the name in a class's type
pub name_in_type : (name : List ℕ) → class_name_of_type (76 ∷ name ++ 59 ∷ []) ≡ name
unfolding class_name_of_type
name_in_type name = ap (λ xs. reverse (drop 1 xs)) (reverse-append name (59 ∷ [])) ∙ reverse-reverse name

-- the class of a class's type
pub type_class : (s : System) (name : List ℕ) → class_of_type s (76 ∷ name ++ 59 ∷ []) ≡ class_named s name
unfolding class_of_type is_reference_type
type_class s [] = ap (class_named s) (name_in_type [])
type_class s (u ∷ units) = ap (class_named s) (name_in_type (u ∷ units))

-- what fits a class's type is below the class
pub fits_named : (s : System) (a : ℕ) (name : List ℕ) → fits_type s a (76 ∷ name ++ 59 ∷ []) ≡ passes (is_below s a) (class_named s name)
unfolding fits_type
fits_named s a name = ap (passes (is_below s a)) (type_class s name)

-- a test that passes and fails
pub clash : (b : Bool) → b ≡ true → b ≡ false → ⊥
clash b x y = cc

module _ (plan : Plan) (files : List ClassFile) (s : System) (from : IsLinked plan files s) where
  -- the built-in classes stand first
  pub built_in : (c : ℕ) → c < built_in_count → class_at s c ≡ slice_get built_in_table c
  built_in c h =
      let k = at_below built_in_table c (omega (arith, built_in_length, h)) in
      built_in_there plan files s from c k.0 h k.1 ∙ ap Some (meant_itself (outline plan files) files c k.0 h) ∙ sym k.1

  -- a class is found by its name
  pub named : (c : ℕ) (k : Class) → class_at s c ≡ Some k → class_named s k.name ≡ Some c
  unfolding class_at class_named
  named c k e =
      let r = position_there (λ (x : Class). bytes_eq x.name k.name) s.program.classes k (at_among s.program.classes c k e) (text_itself k.name) in
      let q = position_at (λ (x : Class). bytes_eq x.name k.name) s.program.classes r.0 r.1 in
      r.1 ∙ ap Some ((distinct_names plan files s from).classes r.0 c q.0 k q.1 e (same_text q.0.name k.name q.2))

  -- so are the built-in ones
  pub names : (c : ℕ) (k : Class) → c < built_in_count → slice_get built_in_table c ≡ Some k → class_named s k.name ≡ Some c
  names c k h e = named c k (built_in c h ∙ e)

  -- the one interface among them is jx/Portal
  pub interfaces : (c : ℕ) → c < built_in_count → is_interface s c ≡ true → c ≡ portal_class
  unfolding is_interface
  interfaces c h e =
      let all = each_among (λ c. not (passes (λ (k : Class). is_interface_flag k.flags) (slice_get built_in_table c)) || (c == portal_class)) (range_with_len 0 27) c one_interface (in_range 0 27 c (omega arith) (omega (arith, h, count_is))) in
      by (passes (λ (k : Class). is_interface_flag k.flags) (slice_get built_in_table c)) (ap (passes (λ (k : Class). is_interface_flag k.flags)) (sym (built_in c h)) ∙ e) all
    where
      by : (b : Bool) → b ≡ true → (not b || (c == portal_class)) ≡ true → c ≡ portal_class
      by true q w = eq_of c portal_class w
      by false q w = absurd cc

  -- the type of a built-in class
  pub built_in_type : (c : ℕ) (k : Class) → c < built_in_count → class_at s c ≡ Some k → type_of_class k ≡ 76 ∷ k.name ++ 59 ∷ []
  unfolding is_class_type type_of_class
  built_in_type c k h e = same_text _ _ (each_among (λ (k : Class). is_class_type k.name) built_in_table k built_in_types (at_among built_in_table c k (sym (built_in c h) ∙ e)))

  -- what fits a built-in class that is no interface is below it
  pub receivers : (a c : ℕ) → c < built_in_count → is_interface s c ≡ false → shape_fits_class s true (ObjectShape a) c ≡ true → is_below s a c ≡ true
  unfolding shape_fits_class shape_fits object_fits passes
  receivers a c h plain fits =
      let k = passed (λ (k : Class). shape_fits s true (ObjectShape a) (type_of_class k)) (class_at s c) fits in
      let typed = built_in_type c k.0 h k.1 in
      let found = named c k.0 k.1 in
      let loose : shape_fits s true (ObjectShape a) (76 ∷ k.0.name ++ 59 ∷ []) ≡ true = ap (shape_fits s true (ObjectShape a)) (sym typed) ∙ k.2 in
      elim (either_true (fits_type s a (76 ∷ k.0.name ++ 59 ∷ [])) (passes (is_interface s) (class_of_type s (76 ∷ k.0.name ++ 59 ∷ []))) loose) [
        | inl q ↦ sym (fits_named s a k.0.name ∙ ap (passes (is_below s a)) found) ∙ q
        | inr q ↦ absurd (clash (is_interface s c) (sym (ap (passes (is_interface s)) (type_class s k.0.name ∙ found)) ∙ q) plain)
      ]

  -- the selectors of methods are there
  pub selectors : (m : ℕ) (x : Method) → method_at s m ≡ Some x → IsSome (selector_at s x.selector.0)
  selectors m x e = ((methods_hold plan files s from).whole m x e).selector

  -- heaps are within their limit
  pub heaps : (t : ℕ) (x : Template) → template_at s t ≡ Some x → x.heap ≤ cell_limit
  unfolding template_at
  heaps t x e =
      let there : slice_get plan.templates t ≡ Some x = ap (λ (p : Plan). slice_get p.templates t) (sym (same_plan plan files s from)) ∙ e in
      let range = from.has_files.range.templates t x (below_length plan.templates t x there) in
      subst (λ (y : Template). y.heap ≤ 131072) (get_or_from_slice_get plan.templates t x x there) range.heap.1
