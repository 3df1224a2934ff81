-- The elements of arrays, and the array classes that code makes.
use Rattle.std.proofs.Common.{◌≡◌, ℕ, suc, ◌⊎◌, inl, inr, Bool, true, false, ◌&&◌, ◌||◌, List, [], ◌∷◌, ◌++◌, map, reverse, drop, codes, Option, Some, None, is_some, slice_get, refl, sym, ap, ◌∙◌, subst, arith}
use Rattle.std.specs.Prelude.{◌==◌, if◌then◌else◌, IsSome, flat_map}
use Rattle.std.specs.List.{filter_map, list_all}
use Rattle.std.specs.Str.{bytes_eq}
use Rattle.std.proofs.lemmas.List.{reverse-append, reverse-reverse}
use Rattle.std.proofs.lemmas.Option.{get_or_from_slice_get}
use Rattle.jx_base.specs.ClassNames.{is_class_name, has_filled_parts, is_reserved}
use Rattle.class_grammar.specs.Opcodes.{row_at}
use Rattle.jx_base.specs.declared.class_file.ClassFile.{ClassFile}
use Rattle.jx_base.specs.declared.class_file.Constant.{Constant}
use Rattle.jx_base.specs.declared.class_file.Constant.TheVariants as constant
use Rattle.jx_base.specs.declared.class_file.Instr.{Instr}
use Rattle.jx_base.specs.declared.program.Class.{Class}
use Rattle.jx_base.specs.declared.program.Plan.{Plan}
use Rattle.jx_base.specs.declared.program.System.{System}
use Rattle.jx_base.specs.declared.program.Template.{Template}
use Rattle.jx_base.specs.declared.row.Row.{Row}
use Rattle.jx_base.specs.declared.row.Row.TheVariants as row
use Rattle.program_model.specs.BuiltIn.{built_in_table, opened_built_in}
use Rattle.link_model.specs.declared.uses.Use.{Use}
use Rattle.link_model.specs.declared.uses.Use.TheVariants.{AsClass}
use Rattle.link_model.specs.declared.uses.Used.{Used}
use Rattle.link_model.specs.ClassFiles.{use_by, used_by, catch_uses, uses_of_code, uses_of, arrays_of_name, class_at_index, class_mentioned, class_of_constant, constant_in, text_in, arrays_of_code, arrays_of_instr}
use Rattle.program_model.specs.Instructions.{index_operand, instructions_of}
use Rattle.link_model.specs.LinkFaults.{IsLinked, has_tag_for, dimensions_of, is_known, is_known_plain, is_known_type}
use Rattle.link_model.specs.Linking.{array_names, named_arrays}
use Rattle.program_model.specs.Lookup.{class_named, class_of_type, class_name_of_type, type_of_name}
use Rattle.program_model.specs.Types.{innermost_type, is_number_type, is_reference_type, element_type}
use Rattle.jx_base.specs.Basics.{contains_number}
use Rattle.jx_base.proofs.BasicLaws.{both, eq_of}
use Rattle.link_laws.specs.Arrays.{IsTypeIn}
use Rattle.link_laws.proofs.Arrays.{named_by, IsMentioned, ByInstr, ByCatch, array_of_name, of_element}
use Rattle.link_laws.proofs.Classes.{name_of, all_names, system_names, array_begins}
use Rattle.link_laws.proofs.Fitting.{array_itself, file_usable, file_uses, file_arrays, code_arrays}
use Rattle.link_laws.proofs.Lists.{Among, among_at, among_either, below_length, each_among, among_front, among_behind, among_flat, at_among, text_there, among_given, from_map, position_there, same_text, text_same}
use Rattle.link_laws.proofs.Templates.{IsListed, file_listed}
use Rattle.link_laws.proofs.Uses.{either_true, plain_there}
use Rattle.std.specs.Option.{option_map}

-- ---- types

-- the name in a class's type
name_in_type : (name : List ℕ) → class_name_of_type (76 ∷ name ++ 59 ∷ []) ≡ name
unfolding class_name_of_type
name_in_type name = ap (λ xs. reverse (drop 1 xs)) (reverse-append name (59 ∷ [])) ∙ reverse-reverse name

-- an innermost type stands behind the brackets
innermost_behind : (u : ℕ) (units : List ℕ) → u ≡ 91 → innermost_type (u ∷ units) ≡ innermost_type units
unfolding innermost_type
innermost_behind u units e = by (u == 91) (ap (λ n. n == 91) e)
  where
    by : (b : Bool) → b ≡ true → (elim b as (λ _. List ℕ) [ true ↦ innermost_type units | false ↦ u ∷ units ]) ≡ innermost_type units
    by true q = refl
    by false q = absurd cc

-- it is all of a type without dimensions
innermost_itself : (units : List ℕ) → (dimensions_of units == 0) ≡ true → innermost_type units ≡ units
unfolding innermost_type dimensions_of
innermost_itself [] h = refl
innermost_itself (u ∷ units) h = by (u == 91) h
  where
    by : (b : Bool) → ((elim b as (λ _. ℕ) [ true ↦ suc (dimensions_of units) | false ↦ 0 ]) == 0) ≡ true → (elim b as (λ _. List ℕ) [ true ↦ innermost_type units | false ↦ u ∷ units ]) ≡ u ∷ units
    by true q = absurd (some (eq_of (suc (dimensions_of units)) 0 q))
      where
        some : suc (dimensions_of units) ≡ 0 → ⊥
        some e = omega (arith, e)
    by false q = refl

-- the arrays behind the first bracket are arrays of the name
arrays_behind : (u : ℕ) (units x : List ℕ) → u ≡ 91 → Among (arrays_of_name units) x → Among (arrays_of_name (u ∷ units)) x
unfolding arrays_of_name
arrays_behind u units x e h = by (u == 91) (ap (λ n. n == 91) e)
  where
    by : (b : Bool) → b ≡ true → Among (elim b as (λ _. List (List ℕ)) [ true ↦ arrays_of_name units ++ (u ∷ units) ∷ [] | false ↦ [] ]) x
    by true q = among_front (arrays_of_name units) _ x h
    by false q = absurd cc

-- a name with dimensions begins with a bracket
dimension_begins : (units : List ℕ) → (dimensions_of units == 0) ≡ false → (rest : List ℕ) × (units ≡ 91 ∷ rest)
unfolding dimensions_of
dimension_begins [] h = absurd (no h)
  where
    no : true ≡ false → ⊥
    no e = cc
dimension_begins (u ∷ units) h = by (u == 91) refl h
  where
    by : (b : Bool) → (u == 91) ≡ b → ((elim b as (λ _. ℕ) [ true ↦ suc (dimensions_of units) | false ↦ 0 ]) == 0) ≡ false → (rest : List ℕ) × (u ∷ units ≡ 91 ∷ rest)
    by true e q = (units, ap (λ x. x ∷ units) (eq_of u 91 e))
    by false e q = absurd (no q)
      where
        no : true ≡ false → ⊥
        no e = cc

-- the types that newarray names are known
elements_known : (plan : Plan) (t : Template) (code : ℕ) → is_known_type plan t (innermost_type (91 ∷ element_type code)) ≡ true
unfolding is_known_type innermost_type is_number_type contains_number
elements_known plan t code = of_element (λ type. is_known_type plan t (innermost_type (91 ∷ type)) ≡ true) refl refl refl refl refl refl code

-- the classes of strings and of memory objects
string_there : slice_get (map name_of built_in_table) 1 ≡ Some (codes "java/lang/String")
unfolding opened_built_in
string_there = refl

-- the class of memory objects
memory_there : slice_get (map name_of built_in_table) 20 ≡ Some (codes "jx/Memory")
unfolding opened_built_in
memory_there = refl

-- a built-in name is one of all
built_in_among : (plan : Plan) (files : List ClassFile) (i : ℕ) (name : List ℕ) → slice_get (map name_of built_in_table) i ≡ Some name → Among (all_names plan files) name
unfolding all_names
built_in_among plan files i name e = among_front (map name_of built_in_table) _ name (at_among (map name_of built_in_table) i name e)

-- a constant that is used as a class names one
class_tag : (f : ClassFile) (k : Constant) → has_tag_for AsClass k ≡ true → (name : List ℕ) × (class_of_constant f k ≡ Some name)
unfolding has_tag_for class_of_constant
class_tag f (constant.Class n) h = (text_in f n, refl)
class_tag f k h = absurd cc

-- a text that is not empty
unfoldable is_filled : List ℕ → Bool
is_filled [] = false
is_filled (u ∷ units) = true

-- the empty text is none
empty_fails : is_filled [] ≡ false
unfolding is_filled
empty_fails = refl

-- the built-in names are not empty
built_in_filled : list_all is_filled (map name_of built_in_table) ≡ true
unfolding is_filled opened_built_in
built_in_filled = refl

-- the empty text is no name of a class
no_class_name : is_class_name [] ≡ false
unfolding is_class_name has_filled_parts is_reserved
no_class_name = refl

module _ (plan : Plan) (files : List ClassFile) (s : System) (linked : IsLinked plan files s) where
  -- a name that the system has is that of a class
  pub named_there : (name : List ℕ) → Among (all_names plan files) name → IsSome (class_named s name)
  unfolding class_named
  named_there name h =
      let r = from_map name_of s.program.classes name (subst (λ xs. Among xs name) (sym (system_names plan files s linked)) h) in
      let c = position_there (λ (k : Class). bytes_eq k.name name) s.program.classes r.0 r.1 (text_same r.0.name name r.2) in
      ap is_some c.1

  -- a known type is one of the system
  type_known : (t : Template) (type : List ℕ) → is_known_type plan t type ≡ true → IsTypeIn s type
  unfolding is_known_type class_of_type is_reference_type
  type_known t type h = elim (either_true _ _ h) [
    | inl q ↦ inl q
    | inr q ↦
        let k = both (bytes_eq type (76 ∷ class_name_of_type type ++ 59 ∷ [])) (is_known_plain plan t (class_name_of_type type)) q in
        inr (by type (class_name_of_type type) (same_text type (76 ∷ class_name_of_type type ++ 59 ∷ []) k.0) (named_there (class_name_of_type type) (plain_there plan files s linked t (class_name_of_type type) k.1)))
  ]
    where
      by : (type name : List ℕ) → type ≡ 76 ∷ name ++ 59 ∷ [] → IsSome (class_named s (class_name_of_type type)) → IsSome (if is_reference_type type then class_named s (class_name_of_type type) else None)
      by [] name e k = absurd cc
      by (u ∷ []) [] e k = absurd cc
      by (u ∷ []) (v ∷ name) e k = absurd cc
      by (u ∷ v ∷ type) name e k = k

  -- the arrays of a name over a known type have elements of the system, which has them all
  pub array_elements : (t : Template) (name : List ℕ) → is_known_type plan t (innermost_type name) ≡ true → ((x : List ℕ) → Among (arrays_of_name name) x → Among (all_names plan files) x)
      → (type : List ℕ) → Among (arrays_of_name name) (91 ∷ type) → IsTypeIn s type
  unfolding arrays_of_name innermost_type is_known_type class_of_type class_name_of_type is_reference_type is_number_type
  array_elements t [] k all type h = absurd h
  array_elements t (u ∷ units) k all type h =
      let r = array_of_name u units (91 ∷ type) h in
      let known = sym (ap (is_known_type plan t) (innermost_behind u units r.0)) ∙ k in
      let behind : (x : List ℕ) → Among (arrays_of_name units) x → Among (all_names plan files) x = λ x a. all x (arrays_behind u units x r.0 a) in
      elim r.1 [
        | inl q ↦ array_elements t units known behind type q
        | inr q ↦ subst (IsTypeIn s) (tails q) (itself (dimensions_of units == 0) refl known behind)
      ]
    where
      tails : (u ∷ units) ≡ 91 ∷ type → units ≡ type
      tails e = cc

      itself : (b : Bool) → (dimensions_of units == 0) ≡ b → is_known_type plan t (innermost_type units) ≡ true → ((x : List ℕ) → Among (arrays_of_name units) x → Among (all_names plan files) x) → IsTypeIn s units
      itself true e known behind = type_known t units (ap (is_known_type plan t) (sym (innermost_itself units e)) ∙ known)
      itself false e known behind =
          let b = dimension_begins units e in
          inr (reference units b.0 b.1 known (named_there units (behind units (array_itself units e))))
        where
          none : is_known_type plan t [] ≡ false
          none = refl

          reference : (units rest : List ℕ) → units ≡ 91 ∷ rest → is_known_type plan t (innermost_type units) ≡ true → IsSome (class_named s units) → IsSome (class_of_type s units)
          reference [] rest q known there = absurd cc
          reference (v ∷ []) [] q known there = absurd (clash (sym (ap (λ xs. is_known_type plan t (innermost_type xs)) q) ∙ known) none)
            where
              clash : is_known_type plan t [] ≡ true → is_known_type plan t [] ≡ false → ⊥
              clash a b = cc
          reference (v ∷ []) (w ∷ rest) q known there = absurd cc
          reference (v ∷ w ∷ more) rest q known there = by (v == 76) refl
            where
              first : v ≡ 91
              first = cc

              by : (b : Bool) → (v == 76) ≡ b → IsSome (class_named s (if b then reverse (drop 1 (reverse (w ∷ more))) else (v ∷ w ∷ more)))
              by true g = absurd (omega (arith, eq_of v 76 g, first))
              by false g = there

  -- ---- known names

  -- no class has an empty name
  no_empty : Among (all_names plan files) [] → ⊥
  unfolding all_names
  no_empty h = elim (among_either (map name_of built_in_table) (plan.classes ++ array_names plan files) [] h) [
    | inl q ↦ clash (each_among is_filled (map name_of built_in_table) [] built_in_filled q) empty_fails
    | inr q ↦ elim (among_either plan.classes (array_names plan files) [] q) [
      | inl w ↦ let i = among_at plan.classes [] w in clash (at i.0 i.1) no_class_name
      | inr w ↦ let r = array_begins plan files [] w in clash_names r.0 r.1
    ]
  ]
    where
      clash : {b : Bool} → b ≡ true → b ≡ false → ⊥
      clash x y = cc

      clash_names : (r : List ℕ) → [] ≡ 91 ∷ r → ⊥
      clash_names r e = cc

      at : (i : ℕ) → slice_get plan.classes i ≡ Some [] → is_class_name [] ≡ true
      at i e = subst (λ n. is_class_name n ≡ true) (get_or_from_slice_get plan.classes i [] [] e) (linked.has_files.range.class_names i [] (below_length plan.classes i [] e))

  -- a used name is known, or there is none
  abbrev IsKnownName : Template → List ℕ → Type 0
  IsKnownName t name = (name ≡ []) ⊎ (is_known plan t name ≡ true)

  -- the innermost type of a known array is known
  array_known : (t : Template) (name x : List ℕ) → IsKnownName t name → Among (arrays_of_name name) x → is_known_type plan t (innermost_type name) ≡ true
  unfolding arrays_of_name is_known dimensions_of
  array_known t name x (inl e) h = absurd (subst (λ n. Among (arrays_of_name n) x) e h)
  array_known t name x (inr e) h = by (dimensions_of name == 0) refl e
    where
      none : (name : List ℕ) → (dimensions_of name == 0) ≡ true → Among (arrays_of_name name) x → ⊥
      none [] q a = a
      none (u ∷ units) q a = let r = array_of_name u units x a in some (dimensions_of units) (sym (ap (λ (n : ℕ). dimensions_of (n ∷ units) == 0) r.0) ∙ q)
        where
          some : (n : ℕ) → (suc n == 0) ≡ true → ⊥
          some n g = omega (arith, eq_of (suc n) 0 g)

      by : (b : Bool) → (dimensions_of name == 0) ≡ b → (if b then is_known_plain plan t name else is_known_type plan t (innermost_type name)) ≡ true → is_known_type plan t (innermost_type name) ≡ true
      by true q g = absurd (none name q h)
      by false q g = g

  -- the type of a class of the plan or built in is known
  plain_type : (t : Template) (name : List ℕ) → is_known_plain plan t name ≡ true → is_known_type plan t (76 ∷ name ++ 59 ∷ []) ≡ true
  unfolding is_known_type
  plain_type t name h =
      second (is_number_type (76 ∷ name ++ 59 ∷ [])) _ (and_both (bytes_eq (76 ∷ name ++ 59 ∷ []) (76 ∷ class_name_of_type (76 ∷ name ++ 59 ∷ []) ++ 59 ∷ [])) _
      (text_same _ _ (ap (λ n. 76 ∷ n ++ 59 ∷ []) (sym (name_in_type name)))) (ap (is_known_plain plan t) (name_in_type name) ∙ h))
    where
      second : (a b : Bool) → b ≡ true → (a || b) ≡ true
      second true b e = refl
      second false b e = e

      and_both : (a b : Bool) → a ≡ true → b ≡ true → (a && b) ≡ true
      and_both true b e g = g
      and_both false b e g = absurd cc

  -- the type of a known class is known, under one bracket more
  reference_known : (t : Template) (name : List ℕ) → is_known plan t name ≡ true → is_known_type plan t (innermost_type (91 ∷ type_of_name name)) ≡ true
  unfolding is_known type_of_name innermost_type dimensions_of
  reference_known t [] h = absurd (no_empty (plain_there plan files s linked t [] h))
  reference_known t (u ∷ units) h = by (u == 91) refl h
    where
      by : (b : Bool) → (u == 91) ≡ b
          → (if (elim b as (λ _. ℕ) [ true ↦ suc (dimensions_of units) | false ↦ 0 ]) == 0 then is_known_plain plan t (u ∷ units)
          else is_known_type plan t (elim b as (λ _. List ℕ) [ true ↦ innermost_type units | false ↦ u ∷ units ])) ≡ true
          → is_known_type plan t (innermost_type (if b then u ∷ units else (76 ∷ u ∷ units ++ 59 ∷ []))) ≡ true
      by true e k = ap (is_known_type plan t) (innermost_behind u units (eq_of u 91 e)) ∙ later (dimensions_of units) k
        where
          later : (n : ℕ) → (if suc n == 0 then is_known_plain plan t (u ∷ units) else is_known_type plan t (innermost_type units)) ≡ true → is_known_type plan t (innermost_type units) ≡ true
          later n k = of (suc n == 0) refl k
            where
              of : (b : Bool) → (suc n == 0) ≡ b → (if b then is_known_plain plan t (u ∷ units) else is_known_type plan t (innermost_type units)) ≡ true → is_known_type plan t (innermost_type units) ≡ true
              of true g k = absurd (omega (arith, eq_of (suc n) 0 g))
              of false g k = k
      by false e k = plain_type t (u ∷ units) k

module _ (plan : Plan) (files : List ClassFile) (s : System) (from : IsLinked plan files s) where
  -- that the system is linked
  abbrev linked : IsLinked plan files s
  linked = from

  module _ (t : Template) (p : ℕ) (n : List ℕ) (f : ClassFile) (listed : IsListed plan files t p n f) where
    -- the class at an index that code uses is known
    index_known : (u : Used) → Among (uses_of f) u → IsKnownName plan files s linked t (class_at_index f u.index)
    unfolding class_at_index
    index_known u h = by (class_of_constant f (constant_in f u.index)) refl
      where
        by : (o : Option (List ℕ)) → class_of_constant f (constant_in f u.index) ≡ o → IsKnownName plan files s linked t (elim o as (λ _. List ℕ) [ None ↦ [] | Some name ↦ name ])
        by None e = inl refl
        by (Some name) e = inr ((file_usable plan files s from t p n f u listed h).named name e).known

    -- and there is one where the use is of a class
    class_known : (u : Used) → Among (uses_of f) u → u.use_of ≡ AsClass → is_known plan t (class_at_index f u.index) ≡ true
    unfolding class_at_index class_of_constant has_tag_for
    class_known u h e =
        let usable = file_usable plan files s from t p n f u listed h in
        let k = class_tag f (constant_in f u.index) (subst (λ v. has_tag_for v (constant_in f u.index) ≡ true) e usable.tag) in
        ap (λ (o : Option (List ℕ)). is_known plan t (elim o as (λ _. List ℕ) [ None ↦ [] | Some name ↦ name ])) k.1 ∙ (usable.named k.0 k.1).known

    -- the array classes that an instruction names or makes are over known types
    mentioned_known : (r : Row) (i : Instr) → ((v : Use) → use_by r i ≡ Some v → IsKnownName plan files s linked t (class_at_index f (index_operand i 0)))
        → (use_by r i ≡ Some AsClass → is_known plan t (class_at_index f (index_operand i 0)) ≡ true)
        → (x : List ℕ) → Among (arrays_of_name (class_mentioned f r i)) x → is_known_type plan t (innermost_type (class_mentioned f r i)) ≡ true
    unfolding class_mentioned use_by arrays_of_name
    mentioned_known row.NewArray i known class x h = elements_known plan t (index_operand i 0)
    mentioned_known row.NewReferenceArray i known class x h = reference_known plan files s linked t (class_at_index f (index_operand i 0)) (class refl)
    mentioned_known r i known class x h = by (use_by r i) refl h
      where
        by : (o : Option Use) → use_by r i ≡ o → Among (arrays_of_name (elim o as (λ _. List ℕ) [ None ↦ [] | Some u ↦ class_at_index f (index_operand i 0) ])) x
            → is_known_type plan t (innermost_type (elim o as (λ _. List ℕ) [ None ↦ [] | Some u ↦ class_at_index f (index_operand i 0) ])) ≡ true
        by None e a = absurd a
        by (Some v) e a = array_known plan files s linked t (class_at_index f (index_operand i 0)) x (known v e) a

  -- ---- the array classes of the system

  -- an array class that a file mentions has elements of the system
  mentioned_elements : (f : ClassFile) (type : List ℕ) → Among files f → IsMentioned f (91 ∷ type) → IsTypeIn s type
  unfolding arrays_of_code arrays_of_instr uses_of_code used_by
  mentioned_elements f type h (ByInstr m c i a e b q) =
      let p = among_at files f h in
      let l = file_listed plan files s linked p.0 f p.1 in
      let used : (v : Use) → use_by (row_at i.opcode) i ≡ Some v → Among (uses_of f) (record { use_of = v; index = index_operand i 0 }) =
      λ v g. file_uses f m c _ a e (among_front (filter_map used_by (instructions_of c.code)) (catch_uses c) _ (among_given used_by (instructions_of c.code) i _ b (ap (option_map (λ (w : Use). record { use_of = w; index = index_operand i 0 })) g))) in
      let mentioned = class_mentioned f (row_at i.opcode) i in
      array_elements plan files s linked l.0 mentioned
      (mentioned_known l.0 p.0 l.1 f l.2 (row_at i.opcode) i (λ v g. index_known l.0 p.0 l.1 f l.2 (record { use_of = v; index = index_operand i 0 }) (used v g))
      (λ g. class_known l.0 p.0 l.1 f l.2 (record { use_of = AsClass; index = index_operand i 0 }) (used AsClass g) refl) (91 ∷ type) q)
      (λ x w. file_arrays plan files l.0 p.0 l.1 f x l.2 (code_arrays f m c x a e (among_front (flat_map (arrays_of_instr f) (instructions_of c.code)) _ x (among_flat (arrays_of_instr f) (instructions_of c.code) i x b w))))
      type q
  mentioned_elements f type h (ByCatch m c u a e b q) =
      let p = among_at files f h in
      let l = file_listed plan files s linked p.0 f p.1 in
      let used : Among (uses_of f) u = file_uses f m c u a e (among_behind (filter_map used_by (instructions_of c.code)) (catch_uses c) u b) in
      array_elements plan files s linked l.0 (class_at_index f u.index)
      (array_known plan files s linked l.0 (class_at_index f u.index) (91 ∷ type) (index_known l.0 p.0 l.1 f l.2 u used) q)
      (λ x w. file_arrays plan files l.0 p.0 l.1 f x l.2 (code_arrays f m c x a e
      (among_behind (flat_map (arrays_of_instr f) (instructions_of c.code)) _ x (among_flat (λ (u : Used). arrays_of_name (class_at_index f u.index)) (catch_uses c) u x b w))))
      type q

  -- so has each array class
  pub array_elements_in : (type : List ℕ) → Among (array_names plan files) (91 ∷ type) → IsTypeIn s type
  unfolding array_names class_of_type is_reference_type class_name_of_type
  array_elements_in type h = elim (text_there (codes "[Ljava/lang/String;" ∷ codes "[Ljx/Memory;" ∷ named_arrays plan files) (91 ∷ type) h) [
    | inl e ↦ subst (IsTypeIn s) (tails e) (inr (named_there plan files s linked (codes "java/lang/String") (built_in_name 1 (codes "java/lang/String") string_there)))
    | inr (inl e) ↦ subst (IsTypeIn s) (tails e) (inr (named_there plan files s linked (codes "jx/Memory") (built_in_name 20 (codes "jx/Memory") memory_there)))
    | inr (inr k) ↦ let r = named_by plan files (91 ∷ type) k in mentioned_elements r.0 type r.1 r.2
  ]
    where
      tails : {xs : List ℕ} → 91 ∷ xs ≡ 91 ∷ type → xs ≡ type
      tails e = cc

      built_in_name : (i : ℕ) (name : List ℕ) → slice_get (map name_of built_in_table) i ≡ Some name → Among (all_names plan files) name
      built_in_name i name e = built_in_among plan files i name e
