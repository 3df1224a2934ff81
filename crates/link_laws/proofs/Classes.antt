-- The classes of a linked system: their names and their files.
use Rattle.std.proofs.Common.{◌≡◌, ℕ, suc, ◌+◌, ◌-◌, inl, inr, Bool, true, false, not, ◌&&◌, List, [], ◌∷◌, ◌++◌, length, map, codes, Option, Some, None, slice_get, refl, sym, ap, ◌∙◌, subst, append_assoc, arith}
use Rattle.std.specs.Prelude.{All, if◌then◌else◌, unwrap_or, nat_lt, nat_le, ◌==◌}
use Rattle.std.specs.List.{AllByRecursion, list_all}
use Rattle.std.proofs.lemmas.Bool.Decides.{nat_tests}
use Rattle.jx_base.specs.ClassNames.{is_class_name, is_name_byte, is_reserved, has_filled_parts}
use Rattle.jx_base.specs.declared.class_file.ClassFile.{ClassFile}
use Rattle.jx_base.specs.declared.program.Class.{Class}
use Rattle.jx_base.specs.declared.program.Plan.{Plan}
use Rattle.jx_base.specs.declared.program.System.{System}
use Rattle.program_model.specs.BuiltIn.{built_in_table, built_in_count, array_class, class_below, built_in_class, opened_built_in}
use Rattle.link_model.specs.ClassFiles.{this_name}
use Rattle.link_model.specs.Linking.{outline, linked_classes, classes_from, class_of_file, array_class_named, array_names, named_arrays, with_meanings, meanings_of, linked_system}
use Rattle.link_model.specs.LinkFaults.{IsLinked, dimensions_of}
use Rattle.program_model.specs.Lookup.{is_built_in}
use Rattle.program_model.specs.Plans.{first_texts, opened_plans}
use Rattle.program_model.specs.DistinctNames.{AreUnits}
use Rattle.link_laws.proofs.Arrays.{IsArrayName, named_begins, named_by, named_units}
use Rattle.link_laws.proofs.Files.{IsFile}
use Rattle.link_laws.proofs.Lists.{Among, IsOnce, texts_once, text_there, first_once, each_among, among_at, once_joined, map_joined, of_each, below_length, among_either}
use Rattle.jx_base.proofs.BasicLaws.{both, ap2, eq_of}
use Rattle.std.proofs.Common.{ltb-true}
use Rattle.std.proofs.lemmas.Option.{get_or_from_slice_get}
use Rattle.link_laws.proofs.Templates.{file_names}
use Rattle.std.specs.Option.{option_map}

-- the name of a class
abbrev pub name_of : Class → List ℕ
name_of k = k.name

-- ---- the built-in classes

-- of units, and not an array's
unfoldable pub is_plain : List ℕ → Bool
is_plain name = list_all (λ u. nat_lt u 65536) name && (dimensions_of name == 0)

-- a reserved name that is plain
unfoldable pub is_own : List ℕ → Bool
is_own name = is_reserved name && is_plain name

-- the names of the built-in classes are such
pub built_in_own : list_all is_own (map name_of built_in_table) ≡ true
unfolding is_own is_plain is_reserved dimensions_of opened_built_in
built_in_own = refl

-- and no two are the same
built_in_firsts : first_texts (map name_of built_in_table) ≡ map name_of built_in_table
unfolding opened_built_in opened_plans
built_in_firsts = refl

-- so no name stands twice among them
built_in_once : IsOnce (map name_of built_in_table)
built_in_once = texts_once (map name_of built_in_table) built_in_firsts

-- they are as many as their number says
pub built_in_length : length built_in_table ≡ built_in_count
unfolding opened_built_in
built_in_length = refl

-- ---- names

-- the names of all classes
unfoldable pub all_names : Plan → List ClassFile → List (List ℕ)
all_names plan files = map name_of built_in_table ++ (plan.classes ++ array_names plan files)

-- a file's class has its name
names_from : (plan : Plan) (files : List ClassFile) (c : ℕ) (fs : List ClassFile) → map name_of (classes_from plan files c fs) ≡ map this_name fs
unfolding classes_from class_of_file
names_from plan files c [] = refl
names_from plan files c (f ∷ fs) = ap (λ xs. this_name f ∷ xs) (names_from plan files (c + 1) fs)

-- what constants mean leaves the names
pub names_meant : (s : System) (files : List ClassFile) (c : ℕ) (ks : List Class) → map name_of (with_meanings s files c ks) ≡ map name_of ks
unfolding with_meanings
names_meant s files c [] = refl
names_meant s files c (k ∷ ks) = by (is_built_in c) (slice_get files (c - built_in_count)) (names_meant s files (c + 1) ks)
  where
    of_file : ClassFile → Class
    of_file f = record k { constants = meanings_of s f }

    by : (b : Bool) (o : Option ClassFile) → map name_of (with_meanings s files (c + 1) ks) ≡ map name_of ks
        → name_of (if b then k else unwrap_or (option_map of_file o) k) ∷ map name_of (with_meanings s files (c + 1) ks) ≡ name_of k ∷ map name_of ks
    by true o e = ap (λ xs. k.name ∷ xs) e
    by false None e = ap (λ xs. k.name ∷ xs) e
    by false (Some f) e = ap (λ xs. k.name ∷ xs) e

-- an array class has its name
array_named : (t : List ℕ) → IsArrayName t → name_of (array_class_named t) ≡ t
unfolding array_class_named array_class class_below built_in_class
array_named t k = by t k.0 k.1
  where
    by : (t c : List ℕ) → t ≡ 91 ∷ c → name_of (array_class_named t) ≡ t
    by [] c e = absurd cc
    by (u ∷ units) c e = let h : u ≡ 91 = cc in ap (λ x. x ∷ units) (sym h)

-- array classes have their names
names_of_arrays : (names : List (List ℕ)) → ((t : List ℕ) → Among names t → IsArrayName t) → map name_of (map array_class_named names) ≡ names
names_of_arrays [] h = refl
names_of_arrays (t ∷ ts) h = ap2 (λ (x : List ℕ) (xs : List (List ℕ)). x ∷ xs) (array_named t (h t (inl refl))) (names_of_arrays ts (λ x k. h x (inr k)))

-- each array class of the system is named as one
pub array_begins : (plan : Plan) (files : List ClassFile) (t : List ℕ) → Among (array_names plan files) t → IsArrayName t
unfolding array_names
array_begins plan files t h = elim (text_there (codes "[Ljava/lang/String;" ∷ codes "[Ljx/Memory;" ∷ named_arrays plan files) t h) [
  | inl e ↦ (_, sym e)
  | inr (inl e) ↦ (_, sym e)
  | inr (inr k) ↦ named_begins plan files t k
]

-- a plain name that is not reserved
unfoldable pub is_others : List ℕ → Bool
is_others name = not (is_reserved name) && is_plain name

-- two tests that pass
and_both : (x y : Bool) → x ≡ true → y ≡ true → (x && y) ≡ true
and_both true y h k = k
and_both false y h k = h

-- the second and the last of four tests that pass
second_and_last : (a b c d : Bool) → (a && b && c && d) ≡ true → (b ≡ true) × (d ≡ true)
second_and_last true true true true h = (refl, refl)
second_and_last true true true false h = absurd cc
second_and_last true true false d h = absurd cc
second_and_last true false c d h = absurd cc
second_and_last false b c d h = absurd cc

-- a byte of a name is small
byte_small : (b : ℕ) → is_name_byte b ≡ true → nat_lt b 65536 ≡ true
unfolding is_name_byte
byte_small b h = grind (arith, nat_tests)

-- so is each of a name
bytes_small : (name : List ℕ) → list_all is_name_byte name ≡ true → list_all (λ u. nat_lt u 65536) name ≡ true
bytes_small [] h = refl
bytes_small (b ∷ name) h = let k = both (is_name_byte b) (list_all is_name_byte name) h in and_both _ _ (byte_small b k.0) (bytes_small name k.1)

-- and no bracket
no_dimension : (name : List ℕ) → list_all is_name_byte name ≡ true → (dimensions_of name == 0) ≡ true
unfolding dimensions_of is_name_byte
no_dimension [] h = refl
no_dimension (b ∷ name) h = by (b == 91) refl
  where
    no_bracket : b ≡ 91 → is_name_byte 91 ≡ true
    no_bracket e = ap is_name_byte (sym e) ∙ (both (is_name_byte b) (list_all is_name_byte name) h).0

    bracket : is_name_byte 91 ≡ false
    bracket = refl

    by : (t : Bool) → (b == 91) ≡ t → ((elim t as (λ _. ℕ) [ true ↦ suc (dimensions_of name) | false ↦ 0 ]) == 0) ≡ true
    by true e = absurd cc (no_bracket (eq_of b 91 e), bracket)
    by false e = refl

-- the names that a plan may list are such
name_others : (name : List ℕ) → is_class_name name ≡ true → is_others name ≡ true
unfolding is_class_name is_others is_plain
name_others name h =
    let k = second_and_last (nat_le (length name) 255) (not (is_reserved name)) (has_filled_parts name) (list_all is_name_byte name) h in
    and_both _ _ k.0 (and_both _ _ (bytes_small name k.1) (no_dimension name k.1))

-- no plain name is an array's
plain_no_array : (name : List ℕ) → is_plain name ≡ true → IsArrayName name → ⊥
unfolding is_plain dimensions_of
plain_no_array name h k = some (dimensions_of k.0) (ap (λ (n : List ℕ). dimensions_of n == 0) (sym k.1) ∙ (both (list_all (λ u. nat_lt u 65536) name) (dimensions_of name == 0) h).1)
  where
    some : (n : ℕ) → (suc n == 0) ≡ true → ⊥
    some n e = omega (arith, eq_of (suc n) 0 e)

-- a text whose units pass the test is of units
pub small_units : (units : List ℕ) → list_all (λ u. nat_lt u 65536) units ≡ true → AreUnits units
small_units [] e = tt
small_units (u ∷ units) e = let k = both (nat_lt u 65536) (list_all (λ u. nat_lt u 65536) units) e in (ltb-true u 65536 k.0, small_units units k.1)

-- a plain name is of units
pub plain_units : (name : List ℕ) → is_plain name ≡ true → AreUnits name
unfolding is_plain
plain_units name h = small_units name (both (list_all (λ u. nat_lt u 65536) name) (dimensions_of name == 0) h).0

-- own names are plain, and so are others; no name is both
pub own_plain : (name : List ℕ) → is_own name ≡ true → is_plain name ≡ true
unfolding is_own
own_plain name h = (both (is_reserved name) (is_plain name) h).1

-- other names are plain
pub others_plain : (name : List ℕ) → is_others name ≡ true → is_plain name ≡ true
unfolding is_others
others_plain name h = (both (not (is_reserved name)) (is_plain name) h).1

-- no name is both
pub own_not_others : (name : List ℕ) → is_own name ≡ true → is_others name ≡ true → ⊥
unfolding is_own is_others
own_not_others name h k = clash (is_reserved name) (both (is_reserved name) (is_plain name) h).0 (both (not (is_reserved name)) (is_plain name) k).0
  where
    clash : (b : Bool) → b ≡ true → not b ≡ true → ⊥
    clash true e f = cc
    clash false e f = cc

-- the array classes are named once
arrays_once : (plan : Plan) (files : List ClassFile) → IsOnce (array_names plan files)
unfolding array_names
arrays_once plan files = first_once (codes "[Ljava/lang/String;" ∷ codes "[Ljx/Memory;" ∷ named_arrays plan files)

module _ (plan : Plan) (files : List ClassFile) (s : System) (linked : IsLinked plan files s) where
  -- the names of the outline's classes
  pub outline_names : map name_of (outline plan files).program.classes ≡ all_names plan files
  unfolding outline linked_classes all_names
  outline_names =
      let named : map name_of (classes_from plan files built_in_count files) ≡ plan.classes = names_from plan files built_in_count files ∙ file_names plan files s linked in
      let arrays : map name_of (map array_class_named (array_names plan files)) ≡ array_names plan files = names_of_arrays (array_names plan files) (array_begins plan files) in
      map_joined name_of (built_in_table ++ classes_from plan files built_in_count files) (map array_class_named (array_names plan files))
      ∙ ap2 (λ (xs ys : List (List ℕ)). xs ++ ys) (map_joined name_of built_in_table (classes_from plan files built_in_count files) ∙ ap (λ xs. map name_of built_in_table ++ xs) named) arrays
      ∙ append_assoc (map name_of built_in_table) plan.classes (array_names plan files)

  -- the names of the system's classes
  pub system_names : map name_of s.program.classes ≡ all_names plan files
  unfolding linked_system
  system_names = ap (λ (x : System). map name_of x.program.classes) linked.system ∙ names_meant (outline plan files) files 0 (outline plan files).program.classes ∙ outline_names

  -- a name of the plan is another one
  pub plan_others : (name : List ℕ) → Among plan.classes name → is_others name ≡ true
  plan_others name h = let r = among_at plan.classes name h in name_others name (of_all_at (λ n. is_class_name n ≡ true) plan.classes linked.has_files.range.class_names r.0 name r.1)
    where
      of_all_at : {A : Type 0} (P : A → Type 0) (xs : List A) → All P xs → (i : ℕ) (x : A) → slice_get xs i ≡ Some x → P x
      of_all_at P xs h i x e = subst P (get_or_from_slice_get xs i x x e) (h i x (below_length xs i x e))

  -- no two classes have the same name
  pub names_once : IsOnce (all_names plan files)
  unfolding all_names
  names_once = once_joined (map name_of built_in_table) (plan.classes ++ array_names plan files) built_in_once
      (once_joined plan.classes (array_names plan files) (texts_once plan.classes linked.has_files.range.class_once) (arrays_once plan files)
      (λ name h k. plain_no_array name (others_plain name (plan_others name h)) (array_begins plan files name k)))
      (λ name h k. elim (among_either plan.classes (array_names plan files) name k) [
        | inl q ↦ own_not_others name (each_among is_own (map name_of built_in_table) name built_in_own h) (plan_others name q)
        | inr q ↦ plain_no_array name (own_plain name (each_among is_own (map name_of built_in_table) name built_in_own h)) (array_begins plan files name q)
      ])

  -- the names of the classes are of units
  pub names_units : AllByRecursion IsFile files → (name : List ℕ) → Among (all_names plan files) name → AreUnits name
  unfolding all_names array_names
  names_units read name h = elim (among_either (map name_of built_in_table) (plan.classes ++ array_names plan files) name h) [
    | inl k ↦ plain_units name (own_plain name (each_among is_own (map name_of built_in_table) name built_in_own k))
    | inr k ↦ elim (among_either plan.classes (array_names plan files) name k) [
      | inl q ↦ plain_units name (others_plain name (plan_others name q))
      | inr q ↦ elim (text_there (codes "[Ljava/lang/String;" ∷ codes "[Ljx/Memory;" ∷ named_arrays plan files) name q) [
        | inl e ↦ subst AreUnits e (small_units (codes "[Ljava/lang/String;") refl)
        | inr (inl e) ↦ subst AreUnits e (small_units (codes "[Ljx/Memory;") refl)
        | inr (inr w) ↦ let r = named_by plan files name w in named_units r.0 name (of_each IsFile files r.0 read r.1).texts r.2
      ]
    ]
  ]
