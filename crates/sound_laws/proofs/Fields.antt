-- What String and StringBuilder are below, and the fields that they have.
use Rattle.std.proofs.Common.{◌≡◌, ℕ, zero, suc, ◌<◌, ◌⊎◌, inl, inr, Bool, true, false, ◌||◌, List, [], ◌∷◌, ◌++◌, codes, Option, Some, None, slice_get, refl, sym, ap, ◌∙◌, subst, arith}
use Rattle.std.specs.Prelude.{◌==◌, flat_map, if◌then◌else◌}
use Rattle.std.specs.Str.{bytes_eq}
use Rattle.jx_base.specs.declared.class_file.ClassFile.{ClassFile}
use Rattle.jx_base.specs.declared.program.Class.{Class}
use Rattle.jx_base.specs.declared.program.Plan.{Plan}
use Rattle.jx_base.specs.declared.program.System.{System}
use Rattle.program_model.specs.BuiltIn.{built_in_count, built_in_table, object_class, string_class, builder_class, opened_built_in}
use Rattle.program_model.specs.Lookup.{class_at, class_count, class_fits, class_named, class_of_type, fits_type, is_below, object_fits, parent_list, shape_fits, shape_fits_class, supers_of, supers_within, type_of_name, type_of_class, ObjectShape}
use Rattle.machine_model.specs.ObjectRows.{field_type}
use Rattle.jx_base.specs.Basics.{passes}
use Rattle.jx_base.proofs.BasicLaws.{passed, eq_of}
use Rattle.link_model.specs.LinkFaults.{IsLinked}
use Rattle.link_laws.specs.Supers.{right_above}
use Rattle.link_laws.proofs.Lists.{Among, from_flat, number_among, same_there}
use Rattle.sound_laws.proofs.Tables.{built_in, named, fits_named, clash}
use Rattle.std.specs.Option.{option_and_then, option_map}

-- ---- what the table says

-- what stands right above a class, where there is one
unfoldable above_of : Option Class → List ℕ
above_of None = []
above_of (Some k) = right_above k

-- above java/lang/Object stands nothing
above_object : above_of (slice_get built_in_table 0) ≡ []
unfolding above_of opened_built_in parent_list
above_object = refl

-- above String and StringBuilder stands java/lang/Object
above_string : above_of (slice_get built_in_table 1) ≡ 0 ∷ []
unfolding above_of opened_built_in parent_list
above_string = refl

above_builder : above_of (slice_get built_in_table 2) ≡ 0 ∷ []
unfolding above_of opened_built_in parent_list
above_builder = refl

-- the type of a field, where there is a class
unfoldable type_in : Option Class → ℕ → Option (List ℕ)
type_in o i = option_and_then (λ k. option_map (λ f. f.descriptor) (slice_get k.fields i)) o

-- java/lang/Object and String have no fields
object_types : (i : ℕ) → type_in (slice_get built_in_table 0) i ≡ None
unfolding type_in opened_built_in
object_types i = refl

string_types : (i : ℕ) → type_in (slice_get built_in_table 1) i ≡ None
unfolding type_in opened_built_in
string_types i = refl

-- StringBuilder has one
builder_types : (i : ℕ) (type : List ℕ) → type_in (slice_get built_in_table 2) i ≡ Some type → type ≡ codes "Ljava/lang/String;"
unfolding type_in opened_built_in
builder_types zero type e = sym (same_there (codes "Ljava/lang/String;") type e)
builder_types (suc i) type e = absurd cc

-- they are no arrays
string_plain : option_and_then (λ (k : Class). k.component) (slice_get built_in_table 1) ≡ None
unfolding opened_built_in
string_plain = refl

builder_plain : option_and_then (λ (k : Class). k.component) (slice_get built_in_table 2) ≡ None
unfolding opened_built_in
builder_plain = refl

-- they are built in
small_0 : 0 < built_in_count
unfolding built_in_count
small_0 = omega arith

small_1 : 1 < built_in_count
unfolding built_in_count
small_1 = omega arith

small_2 : 2 < built_in_count
unfolding built_in_count
small_2 = omega arith

-- nothing but an array fits an array's type
no_array_fits : (s : System) (a u : ℕ) (units : List ℕ) → (u == 91) ≡ true → option_and_then (λ (x : Class). x.component) (class_at s a) ≡ None → fits_type s a (u ∷ units) ≡ false
unfolding fits_type
no_array_fits s a u units e p =
    ap (λ n. fits_type s a (n ∷ units)) (eq_of u 91 e)
    ∙ ap (λ (o : Option (List ℕ)). elim o as (λ _. Bool) [ None ↦ false | Some from ↦ bytes_eq from units || passes (λ c. fits_type s c units) (class_of_type s from) ]) p

-- nothing fits no type
no_type : (s : System) (a : ℕ) → fits_type s a [] ≡ false
unfolding fits_type
no_type s a = refl

-- what is no array and fits the type of a class fits the class of that name
named_fits : (s : System) (a : ℕ) (name : List ℕ) → option_and_then (λ (x : Class). x.component) (class_at s a) ≡ None → fits_type s a (type_of_name name) ≡ true → passes (is_below s a) (class_named s name) ≡ true
unfolding type_of_name
named_fits s a [] p h = absurd (clash (fits_type s a []) h (no_type s a))
named_fits s a (u ∷ units) p h = by (u == 91) refl h
  where
    by : (b : Bool) → (u == 91) ≡ b → fits_type s a (if b then u ∷ units else (76 ∷ u ∷ units ++ 59 ∷ [])) ≡ true → passes (is_below s a) (class_named s (u ∷ units)) ≡ true
    by true e q = absurd (clash (fits_type s a (u ∷ units)) q (no_array_fits s a u units e p))
    by false e q = sym (fits_named s a (u ∷ units)) ∙ q

module _ (plan : Plan) (files : List ClassFile) (s : System) (from : IsLinked plan files s) where
  -- what stands above a class of the table: itself, and what is above what is right above it
  step : (n c x : ℕ) → c < built_in_count → Among (supers_within s (suc n) c) x → (c ≡ x) ⊎ ((y : ℕ) × Among (above_of (slice_get built_in_table c)) y × Among (supers_within s n y) x)
  unfolding supers_within above_of
  step n c x small a = by (class_at s c) (built_in plan files s from c small) a
    where
      by : (o : Option Class) → o ≡ slice_get built_in_table c → Among (elim o as (λ _. List ℕ) [ None ↦ [] | Some k ↦ c ∷ flat_map (supers_within s n) (right_above k) ]) x
          → (c ≡ x) ⊎ ((y : ℕ) × Among (above_of (slice_get built_in_table c)) y × Among (supers_within s n y) x)
      by None e b = absurd b
      by (Some k) e (inl b) = inl b
      by (Some k) e (inr b) =
          let r = from_flat (supers_within s n) (right_above k) x b in
          inr (r.0, subst (λ (o : Option Class). Among (above_of o) r.0) e r.1, r.2)

  -- only java/lang/Object is above itself
  above_none : (n x : ℕ) → Among (supers_within s n 0) x → 0 ≡ x
  unfolding supers_within
  above_none zero x a = absurd a
  above_none (suc n) x a = elim (step n 0 x small_0 a) [ inl e ↦ e | inr r ↦ absurd (subst (λ ys. Among ys r.0) above_object r.1) ]

  -- what is right below it is below it and itself alone
  above_one : (n c x : ℕ) → c < built_in_count → above_of (slice_get built_in_table c) ≡ 0 ∷ [] → Among (supers_within s n c) x → (c ≡ x) ⊎ (0 ≡ x)
  unfolding supers_within
  above_one zero c x small e a = absurd a
  above_one (suc n) c x small e a = elim (step n c x small a) [
    | inl q ↦ inl q
    | inr r ↦ elim (subst (λ ys. Among ys r.0) e r.1) [ inl q ↦ inr (above_none n x (subst (λ y. Among (supers_within s n y) x) (sym q) r.2)) | inr q ↦ absurd q ]
  ]

  -- String is below java/lang/Object alone
  pub string_supers : (c : ℕ) → is_below s string_class c ≡ true → (c ≡ string_class) ⊎ (c ≡ object_class)
  unfolding is_below supers_of string_class object_class
  string_supers c h = elim (above_one (class_count s) 1 c small_1 above_string (number_among (supers_within s (class_count s) 1) c h)) [ inl e ↦ inl (sym e) | inr e ↦ inr (sym e) ]

  -- and so is StringBuilder
  pub builder_supers : (c : ℕ) → is_below s builder_class c ≡ true → (c ≡ builder_class) ⊎ (c ≡ object_class)
  unfolding is_below supers_of builder_class object_class
  builder_supers c h = elim (above_one (class_count s) 2 c small_2 above_builder (number_among (supers_within s (class_count s) 2) c h)) [ inl e ↦ inl (sym e) | inr e ↦ inr (sym e) ]

  -- what is no array and fits a class is below it
  fits_below : (a c : ℕ) → option_and_then (λ (x : Class). x.component) (class_at s a) ≡ None → class_fits s a c ≡ true → is_below s a c ≡ true
  unfolding class_fits shape_fits_class shape_fits object_fits passes type_of_class
  fits_below a c p h =
      let k = passed (λ (k : Class). shape_fits s false (ObjectShape a) (type_of_class k)) (class_at s c) h in
      sym (ap (passes (is_below s a)) (named plan files s from c k.0 k.1)) ∙ named_fits s a k.0.name p (first _ k.2)
    where
      first : (b : Bool) → (b || false) ≡ true → b ≡ true
      first true e = refl
      first false e = absurd cc

  -- the types of a class's fields
  types : (c i : ℕ) (type : List ℕ) → c < built_in_count → field_type s c i ≡ Some type → type_in (slice_get built_in_table c) i ≡ Some type
  unfolding field_type type_in
  types c i type small e = ap (λ (o : Option Class). option_and_then (λ k. option_map (λ f. f.descriptor) (slice_get k.fields i)) o) (sym (built_in plan files s from c small)) ∙ e

  -- what is there is not missing
  missing : (o : Option (List ℕ)) (type : List ℕ) → o ≡ Some type → o ≡ None → ⊥
  missing o type a b = cc

  -- the classes that String fits have no fields
  pub string_fields : (c i : ℕ) (type : List ℕ) → class_fits s string_class c ≡ true → field_type s c i ≡ Some type → ⊥
  unfolding string_class object_class
  string_fields c i type h e =
      elim (string_supers c (fits_below 1 c (ap (λ (o : Option Class). option_and_then (λ (x : Class). x.component) o) (built_in plan files s from 1 small_1) ∙ string_plain) h)) [
        | inl q ↦ missing _ type (types 1 i type small_1 (ap (λ n. field_type s n i) (sym q) ∙ e)) (string_types i)
        | inr q ↦ missing _ type (types 0 i type small_0 (ap (λ n. field_type s n i) (sym q) ∙ e)) (object_types i)
      ]

  -- those that StringBuilder fits have a text
  pub builder_fields : (c i : ℕ) (type : List ℕ) → class_fits s builder_class c ≡ true → field_type s c i ≡ Some type → type ≡ codes "Ljava/lang/String;"
  unfolding builder_class object_class
  builder_fields c i type h e =
      elim (builder_supers c (fits_below 2 c (ap (λ (o : Option Class). option_and_then (λ (x : Class). x.component) o) (built_in plan files s from 2 small_2) ∙ builder_plain) h)) [
        | inl q ↦ builder_types i type (types 2 i type small_2 (ap (λ n. field_type s n i) (sym q) ∙ e))
        | inr q ↦ absurd (missing _ type (types 0 i type small_0 (ap (λ n. field_type s n i) (sym q) ∙ e)) (object_types i))
      ]
