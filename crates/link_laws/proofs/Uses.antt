-- The uses of constants that have no fault: what they mean fits.
use Rattle.std.proofs.Common.{◌≡◌, ℕ, ◌+◌, ◌<◌, ◌≤◌, ◌⊎◌, inl, inr, Bool, true, false, not, ◌&&◌, ◌||◌, List, [], ◌∷◌, ◌++◌, length, map, Option, Some, None, is_some, slice_get, refl, sym, ap, ◌∙◌, subst, arith, length-append}
use Rattle.std.specs.Prelude.{IsSomeAnd, if◌then◌else◌, nat_lt, ◌==◌}
use Rattle.std.specs.List.{AllByRecursion, filter_map, sum_by}
use Rattle.std.specs.Str.{bytes_eq}
use Rattle.std.specs.Fmt.{decimal}
use Rattle.std.proofs.lemmas.Bool.Decides.{nat_tests}
use Rattle.std.proofs.lemmas.List.Sums.{sum_by_more_le, sum_by-cons}
use Rattle.std.proofs.lemmas.List.{length-map}
use Rattle.std.proofs.lemmas.Option.{get_or_from_slice_get}
use Rattle.class_grammar.specs.Flags.{is_static, is_abstract, is_interface_flag}
use Rattle.jx_base.specs.declared.class_file.ClassFile.{ClassFile}
use Rattle.jx_base.specs.declared.class_file.Constant.{Constant}
use Rattle.jx_base.specs.declared.class_file.Constant.TheVariants as constant
use Rattle.jx_base.specs.declared.program.Class.{Class}
use Rattle.jx_base.specs.declared.program.Field.{Field}
use Rattle.jx_base.specs.declared.program.Method.{Method}
use Rattle.jx_base.specs.declared.program.Plan.{Plan}
use Rattle.jx_base.specs.declared.program.Resolved.{Resolved}
use Rattle.jx_base.specs.declared.program.Resolved.TheVariants as resolved
use Rattle.jx_base.specs.declared.program.Selector.{Selector}
use Rattle.jx_base.specs.declared.program.System.{System}
use Rattle.jx_base.specs.declared.program.Template.{Template}
use Rattle.jx_base.specs.declared.row.Invocation.{Invocation}
use Rattle.jx_base.specs.declared.row.Invocation.TheVariants as invocation
use Rattle.program_model.specs.BuiltIn.{built_in_table, string_class, zero_class, memory_class}
use Rattle.link_model.specs.declared.uses.Use.{Use}
use Rattle.link_model.specs.declared.uses.Use.TheVariants.{AsWord, AsLong, AsField, AsMethod, AsNew, AsClass, AsArray}
use Rattle.link_model.specs.declared.uses.Used.{Used}
use Rattle.link_model.specs.ClassFiles.{constant_in, class_of_constant, member_of_constant, text_in, class_name_in, selector_in}
use Rattle.link_model.specs.declared.fault.LinkKind.TheVariants.{NoClass, Abstract, BadConstant}
use Rattle.link_model.specs.LinkFaults.{IsLinked, missing_kind, abstract_name, has_tag_for, has_shape_for, dimensions_of, is_known, is_known_plain, has_text, listed_names, listed_name, has_member, needs_abstract, is_field_for, is_method_for, calls_static, is_not_made, is_abstract_method, member_fault, use_fault, fault_if, is_known_type}
use Rattle.link_model.specs.Linking.{Source, outline, in_class, found_field, found_method, own_field, own_instance_field, own_static_field, statics_before, meaning_of, linked_method, linked_system, declared_of, with_meanings}
use Rattle.program_model.specs.Lookup.{class_at, class_named, class_count, method_at, supers_of, is_interface}
use Rattle.machine_model.specs.State.{static_types, static_types_of}
use Rattle.program_model.specs.Types.{innermost_type}
use Rattle.jx_base.specs.Basics.{passes, first_some, contains_number}
use Rattle.jx_base.proofs.BasicLaws.{both, passed, eq_of, same_number}
use Rattle.link_laws.specs.Meanings.{CanRun, runs_as_found, FitsCall, CanBeMade, HasPlace, FitsUse}
use Rattle.jx_base.specs.declared.program.Declared.{Declared}
use Rattle.std.proofs.Common.{get_or}
use Rattle.link_laws.proofs.Classes.{built_in_length, name_of, all_names, outline_names}
use Rattle.link_laws.proofs.Files.{IsFile, IsMethod}
use Rattle.link_laws.proofs.Lists.{Among, among_front, among_behind, any_among, from_given, from_map, at_among, below_length, of_each, position_at, position_there, same_text, same_there, text_same}
use Rattle.link_laws.proofs.Origins.{class_linked, meant_of, meant_alike, same_methods, method_source}
use Rattle.link_laws.proofs.Sources.{selectors_of, IsSource, OfBuiltIn, OfFile, is_source}
use Rattle.link_laws.proofs.Templates.{no_fault_of, test_fails, unturned}
use Rattle.std.specs.Option.{option_and_then, option_map}

-- ---- small facts

-- one of two tests passes
pub either_true : (a b : Bool) → (a || b) ≡ true → (a ≡ true) ⊎ (b ≡ true)
either_true true b h = inl refl
either_true false b h = inr h

-- two tests that fail
pub both_false : (a b : Bool) → (a || b) ≡ false → (a ≡ false) × (b ≡ false)
both_false true b h = absurd cc
both_false false b h = (refl, h)

-- the first value of a list is one that an item gives
pub some_given : {A B : Type 0} (f : A → Option B) (xs : List A) (y : B) → first_some f xs ≡ Some y → (x : A) × Among xs x × (f x ≡ Some y)
unfolding first_some
some_given f [] y h = absurd cc
some_given {A} {B} f (x ∷ xs) y h = by (f x) refl h (some_given f xs y)
  where
    by : (o : Option B) → f x ≡ o → (elim o as (λ _. Option B) [ Some z ↦ Some z | None ↦ first_some f xs ]) ≡ Some y
        → (first_some f xs ≡ Some y → (z : A) × Among xs z × (f z ≡ Some y)) → (z : A) × Among (x ∷ xs) z × (f z ≡ Some y)
    by (Some z) e q again = (x, inl refl, e ∙ q)
    by None e q again = let r = again q in (r.0, inr r.1, r.2)

-- what a value gives came from one that is there
pub and_then_some : {A B : Type 0} (o : Option A) (f : A → Option B) (y : B) → option_and_then f o ≡ Some y → (x : A) × (o ≡ Some x) × (f x ≡ Some y)
and_then_some None f y h = absurd cc
and_then_some (Some x) f y h = (x, refl, h)

-- what f makes of a value came from one that is there
pub mapped_some : {A B : Type 0} (f : A → B) (o : Option A) (y : B) → option_map f o ≡ Some y → (x : A) × (o ≡ Some x) × (f x ≡ y)
mapped_some f None y h = absurd cc
mapped_some f (Some x) y h = (x, refl, same_there (f x) y h)

-- a test that fails for a value that is there
pub failed : {A : Type 0} (p : A → Bool) (o : Option A) (x : A) → o ≡ Some x → passes p o ≡ false → p x ≡ false
unfolding passes
failed p None x e h = absurd cc
failed p (Some y) x e h = ap p (sym (same_there y x e)) ∙ h

-- what is so of a value that is there
pub of_some : {A : Type 0} (P : A → Type 0) (o : Option A) (x : A) → o ≡ Some x → P x → IsSomeAnd o P
of_some P None x e h = absurd cc
of_some P (Some y) x e h = subst P (sym (same_there y x e)) h

-- ---- a use without a fault

-- whether a constant is a method's
unfoldable is_method : Constant → Bool
is_method (constant.Method c x) = true
is_method (constant.InterfaceMethod c x) = true
is_method _ = false

-- only a method's constant is called
tag_method : (kind : Invocation) (k : Constant) → has_tag_for (AsMethod kind) k ≡ true → is_method k ≡ true
unfolding has_tag_for is_method
tag_method invocation.Virtual (constant.Method c x) h = refl
tag_method invocation.Virtual k h = absurd cc
tag_method invocation.Special (constant.Method c x) h = refl
tag_method invocation.Special k h = absurd cc
tag_method invocation.Static (constant.Method c x) h = refl
tag_method invocation.Static k h = absurd cc
tag_method invocation.Interface (constant.InterfaceMethod c x) h = refl
tag_method invocation.Interface k h = absurd cc

-- what the walk finds of the class that a use names
pub record IsNamed (o : System) (plan : Plan) (t : Template) (v : Use) (name : List ℕ) (x : Selector) : Type 0 where
  pub shape : has_shape_for v name ≡ true
  pub known : is_known plan t name ≡ true
  pub member : has_member o v name x ≡ true
  pub whole : needs_abstract o v name x ≡ false

-- what the walk finds of a use of a constant
pub record IsUsable (o : System) (plan : Plan) (t : Template) (f : ClassFile) (v : Use) (k : Constant) : Type 0 where
  pub tag : has_tag_for v k ≡ true
  pub named : (name : List ℕ) → class_of_constant f k ≡ Some name → IsNamed o plan t v name (member_of_constant f k)

-- a use without a fault is usable
pub usable : (o : System) (plan : Plan) (t : Template) (class : List ℕ) (f : ClassFile) (u : Used) → use_fault o plan t class f u ≡ None → IsUsable o plan t f u.use_of (constant_in f u.index)
unfolding use_fault member_fault
usable o plan t class f u h = by (class_of_constant f k) refl (no_fault_of _ _ h (inl refl)) (no_fault_of _ _ h (inr (inl refl)))
  where
    k : Constant
    k = constant_in f u.index

    shape : Option (List ℕ) → Bool
    shape None = true
    shape (Some name) = has_shape_for u.use_of name

    named : (name : List ℕ) → member_fault o plan t class u.use_of name (member_of_constant f k) ≡ None → has_shape_for u.use_of name ≡ true → IsNamed o plan t u.use_of name (member_of_constant f k)
    named name e g = record {
      shape = g;
      known = unturned _ (test_fails _ class NoClass name (no_fault_of _ _ e (inl refl)));
      member = unturned _ (test_fails _ class (missing_kind u.use_of) (member_of_constant f k).name (no_fault_of _ _ e (inr (inl refl))));
      whole = test_fails _ class Abstract (abstract_name u.use_of name (member_of_constant f k)) (no_fault_of _ _ e (inr (inr (inl refl))));
    }

    by : (c : Option (List ℕ)) → class_of_constant f k ≡ c → fault_if (not (has_tag_for u.use_of k && shape c)) class BadConstant (decimal u.index) ≡ None
        → option_and_then (λ name. member_fault o plan t class u.use_of name (member_of_constant f k)) c ≡ None → IsUsable o plan t f u.use_of k
    by c e q r = record {
      tag = (both (has_tag_for u.use_of k) (shape c) (unturned (has_tag_for u.use_of k && shape c) (test_fails (not (has_tag_for u.use_of k && shape c)) class BadConstant (decimal u.index) q))).0;
      named = λ name g. of name c (sym e ∙ g) r (both (has_tag_for u.use_of k) (shape c) (unturned (has_tag_for u.use_of k && shape c) (test_fails (not (has_tag_for u.use_of k && shape c)) class BadConstant (decimal u.index) q))).1;
    }
      where
        of : (name : List ℕ) (c : Option (List ℕ)) → c ≡ Some name → option_and_then (λ name. member_fault o plan t class u.use_of name (member_of_constant f k)) c ≡ None
            → shape c ≡ true → IsNamed o plan t u.use_of name (member_of_constant f k)
        of name None w q g = absurd cc
        of name (Some n) w q g = subst (λ m. IsNamed o plan t u.use_of m (member_of_constant f k)) (same_there n name w) (named n q g)

-- ---- the class that a name names

module _ (plan : Plan) (files : List ClassFile) (s : System) (linked : IsLinked plan files s) where
  -- the outline of the system
  abbrev o : System
  o = outline plan files

  -- the class of a name that the system has
  pub known_class : (name : List ℕ) → Among (all_names plan files) name → (c : ℕ) × (k : Class) × (class_named o name ≡ Some c) × (class_at o c ≡ Some k) × (k.name ≡ name)
  unfolding class_named class_at
  known_class name h =
      let r = from_map name_of o.program.classes name (subst (λ xs. Among xs name) (sym (outline_names plan files s linked)) h) in
      let c = position_there (λ (k : Class). bytes_eq k.name name) o.program.classes r.0 r.1 (text_same r.0.name name r.2) in
      let k = position_at (λ (k : Class). bytes_eq k.name name) o.program.classes c.0 c.1 in
      (c.0, k.0, c.1, k.1, same_text k.0.name name k.2)

  -- a known class that is no array is one of the system
  pub plain_there : (t : Template) (name : List ℕ) → is_known_plain plan t name ≡ true → Among (all_names plan files) name
  unfolding is_known_plain has_text listed_names listed_name all_names
  plain_there t name h = elim (either_true _ _ h) [
    | inl q ↦
        let r = any_among (bytes_eq name) (filter_map (slice_get plan.classes) t.classes) q in
        let p = from_given (slice_get plan.classes) t.classes r.0 r.1 in
        among_behind (map name_of built_in_table) _ name (among_front plan.classes _ name (subst (Among plan.classes) (sym (same_text name r.0 r.2)) (at_among plan.classes p.0 r.0 p.2)))
    | inr q ↦
        let r = any_among (bytes_eq name) (map name_of built_in_table) q in
        among_front (map name_of built_in_table) _ name (subst (Among (map name_of built_in_table)) (sym (same_text name r.0 r.2)) r.1)
  ]

  -- a known class is one of the system, where it is one if it is an array
  pub known_there : (t : Template) (name : List ℕ) → is_known plan t name ≡ true → ((dimensions_of name == 0) ≡ false → Among (all_names plan files) name) → Among (all_names plan files) name
  unfolding is_known
  known_there t name h array = by (dimensions_of name == 0) refl h
    where
      by : (b : Bool) → (dimensions_of name == 0) ≡ b → (if b then is_known_plain plan t name else is_known_type plan t (innermost_type name)) ≡ true → Among (all_names plan files) name
      by true e q = plain_there t name q
      by false e q = array e

  -- ---- fields

  -- a field that a class declares itself, at its place
  pub data IsOwn (r : Resolved) : Type 0 where
    InObject : (c : ℕ) (k : Class) (i : ℕ) → class_at o c ≡ Some k → r ≡ resolved.Instance (record { 0 = c }) i → i < length k.fields → IsOwn r
    InClass : (c : ℕ) (k : Class) (i : ℕ) → class_at o c ≡ Some k → r ≡ resolved.Static (record { 0 = c }) (statics_before o c + i) → i < length k.statics → IsOwn r

  -- a field that a class declares is its own
  own : (x : Selector) (c : ℕ) (r : Resolved) → own_field o x c ≡ Some r → IsOwn r
  unfolding own_field own_instance_field own_static_field
  own x c r h = let k = and_then_some (class_at o c) _ r h in by k.0 k.1 (own_instance_field x c k.0) refl k.2
    where
      by : (k : Class) → class_at o c ≡ Some k → (p : Option Resolved) → own_instance_field x c k ≡ p
          → (elim p as (λ _. Option Resolved) [ Some q ↦ Some q | None ↦ own_static_field o x c k ]) ≡ Some r → IsOwn r
      by k e (Some q) g w =
          let i = mapped_some (λ i. resolved.Instance (record { 0 = c }) i) _ q g in
          let a = position_at _ k.fields i.0 i.1 in
          InObject c k i.0 e (sym (same_there q r w) ∙ sym i.2) (below_length k.fields i.0 a.0 a.1)
      by k e None g w =
          let i = mapped_some (λ i. resolved.Static (record { 0 = c }) (statics_before o c + i)) _ r w in
          let a = position_at _ k.statics i.0 i.1 in
          InClass c k i.0 e (sym i.2) (below_length k.statics i.0 a.0 a.1)

  -- so is one that is found
  found_own : (name : List ℕ) (x : Selector) (r : Resolved) → in_class o name (found_field o x) ≡ Some r → IsOwn r
  unfolding in_class found_field
  found_own name x r h =
      let c = and_then_some (class_named o name) _ r h in
      let d = some_given (own_field o x) (supers_of o c.0) r c.2 in own x d.0 r d.2

  -- ---- how many static fields there are

  -- the types of the static fields of classes are as many as these fields
  static_count : (ks : List Class) → length (static_types_of ks) ≡ sum_by (λ k. length k.statics) ks
  unfolding static_types_of
  static_count [] = refl
  static_count (k ∷ ks) =
      length-append (map (λ f. f.descriptor) k.statics) (static_types_of ks)
      ∙ plus (length-map k.statics (λ (f : Field). f.descriptor)) (static_count ks) ∙ sym (sum_by-cons (λ (k : Class). length k.statics) k ks)
    where
      plus : {a b c d : ℕ} → a ≡ b → c ≡ d → a + c ≡ b + d
      plus e f = cc

  -- what constants mean leaves the static fields
  statics_meant : (x : System) (c : ℕ) (ks : List Class) → static_types_of (with_meanings x files c ks) ≡ static_types_of ks
  unfolding static_types_of with_meanings meant_of
  statics_meant x c [] = refl
  statics_meant x c (k ∷ ks) = joined (ap (map (λ (f : Field). f.descriptor)) (meant_alike x files c k).statics) (statics_meant x (c + 1) ks)
    where
      joined : {a b : List (List ℕ)} {d e : List (List ℕ)} → a ≡ b → d ≡ e → a ++ d ≡ b ++ e
      joined p q = cc

  -- a static field's place is below the number of all
  static_below : (c : ℕ) (k : Class) (i : ℕ) → class_at o c ≡ Some k → i < length k.statics → statics_before o c + i < length (static_types s)
  unfolding static_types statics_before class_at linked_system
  static_below c k i e h =
      let all : static_types_of s.program.classes ≡ static_types_of o.program.classes =
      ap (λ (x : System). static_types_of x.program.classes) linked.system ∙ statics_meant o 0 o.program.classes in
      let more = sum_by_more_le (λ (k : Class). length k.statics) o.program.classes c k (below_length o.program.classes c k e) in
      let here : length (get_or o.program.classes c k).statics ≡ length k.statics = ap (λ (x : Class). length x.statics) (get_or_from_slice_get o.program.classes c k k e) in
      omega (arith, ap length all, static_count o.program.classes, more, here, h)

  -- a class of the outline is below the number of classes
  class_below_count : (c : ℕ) (k : Class) → class_at o c ≡ Some k → c < class_count s
  unfolding class_count class_at
  class_below_count c k e = below_length s.program.classes c _ (class_linked plan files s linked c k e)

  -- ---- what fits

  -- what constants mean, where it fits
  abbrev Means : ClassFile → Use → Constant → Type 0
  Means f v k = (r : Resolved) × (meaning_of o f k ≡ Some r) × FitsUse s v r

  -- a found field fits
  field_fits : (static : Bool) (r : Resolved) → IsOwn r → is_field_for o static r ≡ true → FitsUse s (AsField static) r
  unfolding is_field_for is_interface
  field_fits true r (InClass c k i e q h) w = subst (FitsUse s (AsField true)) (sym q) (class_below_count c k e, static_below c k i e h)
  field_fits false r (InObject c k i e q h) w = subst (FitsUse s (AsField false)) (sym q)
      (of_some (HasPlace i) (class_at s c) _ (class_linked plan files s linked c k e) (record {
        place = omega (arith, ap length (meant_alike o files c k).fields, h);
        no_interface = ap is_interface_flag (meant_alike o files c k).flags ∙ failed (λ (k : Class). is_interface_flag k.flags) (class_at o c) k e (no (passes (λ (k : Class). is_interface_flag k.flags) (class_at o c)) (ap (is_field_for o false) (sym q) ∙ w));
      }))
    where
      no : (b : Bool) → not b ≡ true → b ≡ false
      no true e = absurd cc
      no false e = refl
  field_fits true r (InObject c k i e q h) w = absurd (no (ap (is_field_for o true) (sym q) ∙ w))
    where
      no : false ≡ true → ⊥
      no e = cc
  field_fits false r (InClass c k i e q h) w = absurd (no (ap (is_field_for o false) (sym q) ∙ w))
    where
      no : false ≡ true → ⊥
      no e = cc

  module _ (read : AllByRecursion IsFile files) where
    -- a method that is not abstract can run
    pub can_run : (m : ℕ) (x : Method) → method_at s m ≡ Some x → is_abstract x.flags ≡ false → CanRun x
    unfolding linked_method declared_of
    can_run m x e h =
        let y = method_source plan files s linked m x e in
        subst CanRun (sym y.2) (by y.0 (ap (λ (z : Method). is_abstract z.flags) (sym y.2) ∙ h) (is_source files y.0 y.1))
      where
        by : (y : Source) → is_abstract y.declared.flags ≡ false → IsSource files y → CanRun (linked_method (selectors_of files) y)
        by y g (OfBuiltIn k q n c) = inr (omega (arith, below_length built_in_table y.class k q, built_in_length))
        by y g (OfFile p f m c q n d z) = inl (ap is_some z
            ∙ (of_each IsMethod f.methods m (of_each IsFile files f read (at_among files p f q)).methods n).code (ap (λ (d : Declared). is_abstract d.flags) (sym d) ∙ g))

    -- a found method fits
    method_fits : (kind : Invocation) (m : ℕ) → is_method_for o kind m ≡ true → (runs_as_found kind ≡ true → is_abstract_method o m ≡ false) → FitsUse s (AsMethod kind) (resolved.Method m)
    unfolding is_method_for is_abstract_method method_at
    method_fits kind m h whole =
        let x = passed _ (slice_get o.program.methods m) h in
        let here : slice_get s.program.methods m ≡ Some x.0 = ap (λ xs. slice_get xs m) (same_methods plan files s linked) ∙ x.1 in
        of_some (FitsCall kind) (slice_get s.program.methods m) x.0 here (record {
          static = same (calls_static kind) (is_static x.0.flags) x.2;
          runs = λ e. can_run m x.0 here (failed (λ (y : Method). is_abstract y.flags) (slice_get o.program.methods m) x.0 x.1 (whole e));
        })
      where
        same : (a b : Bool) → (if a then b else not b) ≡ true → b ≡ a
        same true b e = e
        same false true e = absurd cc
        same false false e = refl

  -- a made class fits
  made_fits : (c : ℕ) (k : Class) → class_at o c ≡ Some k → is_not_made o c ≡ false → dimensions_of k.name ≡ 0 → FitsUse s AsNew (resolved.Class (record { 0 = c }))
  unfolding is_not_made contains_number
  made_fits c k e h d =
      let n = both_false _ _ h in
      let w = both_false _ _ (failed _ (class_at o c) k e n.0) in
      let alike = meant_alike o files c k in
      let others = both_false _ _ n.1 in
      of_some (CanBeMade c) (class_at s c) _ (class_linked plan files s linked c k e) (record {
        whole = ap is_abstract alike.flags ∙ w.0;
        no_interface = ap is_interface_flag alike.flags ∙ w.1;
        no_text = λ q. differ string_class (sym q) others.0;
        no_zero = λ q. differ zero_class (sym q) (both_false _ _ others.1).0;
        no_memory = λ q. differ memory_class (sym q) (both_false _ _ (both_false _ _ others.1).1).0;
        no_array = ap dimensions_of alike.name ∙ d;
      })
    where
      differ : (n : ℕ) → n ≡ c → (n == c) ≡ false → ⊥
      differ n q r = clash (n == c) (subst (λ x. (n == x) ≡ true) q (same_number n)) r
        where
          clash : (b : Bool) → b ≡ true → b ≡ false → ⊥
          clash b u v = cc

  -- an array class of enough dimensions fits
  array_fits : (n c : ℕ) (k : Class) → class_at o c ≡ Some k → n ≤ dimensions_of k.name → FitsUse s (AsArray n) (resolved.Class (record { 0 = c }))
  array_fits n c k e h = of_some (λ (k : Class). n ≤ dimensions_of k.name) (class_at s c) _ (class_linked plan files s linked c k e) (omega (arith, ap dimensions_of (meant_alike o files c k).name, h))

  -- ---- each use

  module _ (read : AllByRecursion IsFile files) (t : Template) (f : ClassFile) where
    -- the class of a constant is of the system
    abbrev IsThere : Constant → Type 0
    IsThere k = (name : List ℕ) → class_of_constant f k ≡ Some name → (dimensions_of name == 0) ≡ false → Among (all_names plan files) name

    -- a word
    word_fits : (k : Constant) → has_tag_for AsWord k ≡ true → Means f AsWord k
    unfolding has_tag_for meaning_of
    word_fits (constant.Integer n) h = (resolved.Int n, refl, tt)
    word_fits (constant.Str n) h = (resolved.Str (text_in f n), refl, tt)
    word_fits k h = absurd cc

    -- a long
    long_fits : (k : Constant) → has_tag_for AsLong k ≡ true → Means f AsLong k
    unfolding has_tag_for meaning_of
    long_fits (constant.Long n) h = (resolved.Long n, refl, tt)
    long_fits k h = absurd cc

    -- a field
    field_means : (static : Bool) (k : Constant) → IsUsable o plan t f (AsField static) k → Means f (AsField static) k
    unfolding has_tag_for meaning_of has_member class_of_constant member_of_constant
    field_means static (constant.Field c x) u =
        let r = passed (is_field_for o static) (in_class o (class_name_in f c) (found_field o (selector_in f x))) (u.named (class_name_in f c) refl).member in
        (r.0, r.1, field_fits static r.0 (found_own (class_name_in f c) (selector_in f x) r.0 r.1) r.2)
    field_means static k u = let h = u.tag in absurd cc

    -- a method that was found in the class of that name
    called_means : (kind : Invocation) (name : List ℕ) (x : Selector) → IsNamed o plan t (AsMethod kind) name x →
        (r : Resolved) × (option_map (λ m. resolved.Method m) (in_class o name (found_method o x)) ≡ Some r) × FitsUse s (AsMethod kind) r
    unfolding has_member needs_abstract
    called_means kind name x u =
        let r = passed (is_method_for o kind) (in_class o name (found_method o x)) u.member in
        (resolved.Method r.0, ap (option_map (λ m. resolved.Method m)) r.1, method_fits read kind r.0 r.2 (λ e. failed (is_abstract_method o) (in_class o name (found_method o x)) r.0 r.1 (by kind e u.whole)))
      where
        by : (kind : Invocation) → runs_as_found kind ≡ true → needs_abstract o (AsMethod kind) name x ≡ false → passes (is_abstract_method o) (in_class o name (found_method o x)) ≡ false
        by invocation.Special e w = w
        by invocation.Static e w = w
        by invocation.Virtual e w = absurd cc
        by invocation.Interface e w = absurd cc

    -- a method
    method_means : (kind : Invocation) (k : Constant) → IsUsable o plan t f (AsMethod kind) k → Means f (AsMethod kind) k
    unfolding meaning_of class_of_constant member_of_constant is_method
    method_means kind (constant.Method c x) u = called_means kind (class_name_in f c) (selector_in f x) (u.named (class_name_in f c) refl)
    method_means kind (constant.InterfaceMethod c x) u = called_means kind (class_name_in f c) (selector_in f x) (u.named (class_name_in f c) refl)
    method_means kind k u = let h = tag_method kind k u.tag in absurd cc

    -- the class that a Class constant names
    class_there : (n : ℕ) → is_known plan t (text_in f n) ≡ true → IsThere (constant.Class n) →
        (c : ℕ) × (k : Class) × (meaning_of o f (constant.Class n) ≡ Some (resolved.Class (record { 0 = c }))) × (class_named o (text_in f n) ≡ Some c) × (class_at o c ≡ Some k) × (k.name ≡ text_in f n)
    unfolding meaning_of class_of_constant
    class_there n h there =
        let c = known_class (text_in f n) (known_there t (text_in f n) h (there (text_in f n) refl)) in
        (c.0, c.1, ap (option_map (λ c. resolved.Class (record { 0 = c }))) c.2, c.2, c.3, c.4)

    -- a class that is made
    new_means : (k : Constant) → IsUsable o plan t f AsNew k → IsThere k → Means f AsNew k
    unfolding has_tag_for class_of_constant needs_abstract has_shape_for
    new_means (constant.Class n) u there =
        let named = u.named (text_in f n) refl in
        let c = class_there n named.known there in
        (resolved.Class (record { 0 = c.0 }), c.2, made_fits c.0 c.1 c.4 (failed (is_not_made o) (class_named o (text_in f n)) c.0 c.3 named.whole) (ap dimensions_of c.5 ∙ eq_of (dimensions_of (text_in f n)) 0 named.shape))
    new_means k u there = let h = u.tag in absurd cc

    -- a class
    class_means : (k : Constant) → IsUsable o plan t f AsClass k → IsThere k → Means f AsClass k
    unfolding has_tag_for class_of_constant
    class_means (constant.Class n) u there =
        let c = class_there n (u.named (text_in f n) refl).known there in
        (resolved.Class (record { 0 = c.0 }), c.2, class_below_count c.0 c.1 c.4)
    class_means k u there = let h = u.tag in absurd cc

    -- an array class
    array_means : (n : ℕ) (k : Constant) → IsUsable o plan t f (AsArray n) k → IsThere k → Means f (AsArray n) k
    unfolding has_tag_for class_of_constant has_shape_for
    array_means n (constant.Class i) u there =
        let named = u.named (text_in f i) refl in
        let c = class_there i named.known there in
        (resolved.Class (record { 0 = c.0 }), c.2, array_fits n c.0 c.1 c.4 (subst (λ x. n ≤ dimensions_of x) (sym c.5) (enough (dimensions_of (text_in f i)) n named.shape)))
      where
        enough : (d n : ℕ) → not (nat_lt d n) ≡ true → n ≤ d
        enough d n e = grind (arith, nat_tests)
    array_means n k u there = let h = u.tag in absurd cc

    -- each use that has no fault means what fits
    pub use_means : (v : Use) (k : Constant) → IsUsable o plan t f v k → IsThere k → Means f v k
    use_means AsWord k u there = word_fits k u.tag
    use_means AsLong k u there = long_fits k u.tag
    use_means (AsField static) k u there = field_means static k u
    use_means (AsMethod kind) k u there = method_means kind k u
    use_means AsNew k u there = new_means k u there
    use_means AsClass k u there = class_means k u there
    use_means (AsArray n) k u there = array_means n k u there
