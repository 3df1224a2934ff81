-- The classes and methods of a linked system by their places.
use Rattle.std.proofs.Common.{◌≡◌, ℕ, zero, suc, ◌+◌, ◌-◌, ◌<◌, inl, inr, Bool, true, false, List, [], ◌∷◌, ◌++◌, length, map, Option, Some, None, slice_get, refl, sym, ap, ◌∙◌, arith, length-append}
use Rattle.std.specs.Prelude.{unwrap_or, if◌then◌else◌, nat_lt}
use Rattle.std.proofs.lemmas.Bool.Decides.{Decides-ltb}
use Rattle.jx_base.specs.declared.class_file.ClassFile.{ClassFile}
use Rattle.jx_base.specs.declared.class_file.Constant.{Constant}
use Rattle.jx_base.specs.declared.program.Class.{Class}
use Rattle.jx_base.specs.declared.program.Method.{Method}
use Rattle.jx_base.specs.declared.program.Plan.{Plan}
use Rattle.jx_base.specs.declared.program.Resolved.{Resolved}
use Rattle.jx_base.specs.declared.program.Resolved.TheVariants as resolved
use Rattle.jx_base.specs.declared.program.System.{System}
use Rattle.program_model.specs.BuiltIn.{built_in_table, built_in_count}
use Rattle.link_model.specs.LinkFaults.{IsLinked}
use Rattle.link_model.specs.Linking.{Source, outline, linked_classes, classes_from, class_of_file, array_class_named, array_names, with_meanings, meanings_of, meanings_from, meaning_of, linked_system, linked_method, sources}
use Rattle.program_model.specs.Lookup.{class_at, method_at, is_built_in}
use Rattle.jx_base.specs.Basics.{contains_number}
use Rattle.link_laws.proofs.Classes.{built_in_length}
use Rattle.link_laws.proofs.Lists.{Among, at_among, at_below, at_either, at_front, at_behind, below_length, from_map_at, same_there}
use Rattle.link_laws.proofs.Sources.{selectors_of}
use Rattle.std.specs.Option.{option_map}

-- ---- the outline

-- the class of a file
at_files : (plan : Plan) (files : List ClassFile) (c : ℕ) (fs : List ClassFile) (p : ℕ) (f : ClassFile) → slice_get fs p ≡ Some f →
    slice_get (classes_from plan files c fs) p ≡ Some (class_of_file plan files (c + p) f)
unfolding classes_from
at_files plan files c [] p f e = absurd cc
at_files plan files c (g ∷ fs) zero f e =
    let same : g ≡ f = same_there g f e in
    let n : c ≡ c + 0 = omega arith in cc
at_files plan files c (g ∷ fs) (suc p) f e = at_files plan files (c + 1) fs p f e ∙ ap (λ n. Some (class_of_file plan files n f)) (omega arith)

-- how many classes the files make
length_from : (plan : Plan) (files : List ClassFile) (c : ℕ) (fs : List ClassFile) → length (classes_from plan files c fs) ≡ length fs
unfolding classes_from
length_from plan files c [] = refl
length_from plan files c (f ∷ fs) = ap suc (length_from plan files (c + 1) fs)

-- a class of the outline is built in, of a file of the plan, or of arrays
pub data IsOutlined (plan : Plan) (files : List ClassFile) (i : ℕ) (k : Class) : Type 0 where
  IsBuiltIn : i < built_in_count → slice_get built_in_table i ≡ Some k → IsOutlined plan files i k
  IsOfFile : (p : ℕ) (f : ClassFile) → i ≡ built_in_count + p → slice_get files p ≡ Some f → k ≡ class_of_file plan files i f → IsOutlined plan files i k
  IsOfArray : (j : ℕ) (name : List ℕ) → i ≡ built_in_count + length files + j → slice_get (array_names plan files) j ≡ Some name → k ≡ array_class_named name
      → IsOutlined plan files i k

-- each class of the outline is so
pub is_outlined : (plan : Plan) (files : List ClassFile) (i : ℕ) (k : Class) → slice_get (linked_classes plan files) i ≡ Some k → IsOutlined plan files i k
unfolding linked_classes
is_outlined plan files i k e =
    elim (at_either (built_in_table ++ classes_from plan files built_in_count files) (map array_class_named (array_names plan files)) i k e) [
      | inl q ↦ elim (at_either built_in_table (classes_from plan files built_in_count files) i k q.1) [
        | inl r ↦ IsBuiltIn (omega (arith, r.0, built_in_length)) r.1
        | inr r ↦ of_file r.0 r.1 r.2
      ]
      | inr q ↦
          let r = from_map_at array_class_named (array_names plan files) q.0 k q.2 in
          IsOfArray q.0 r.0 (omega (arith, q.1, front)) r.1 (sym r.2)
    ]
  where
    front : length (built_in_table ++ classes_from plan files built_in_count files) ≡ built_in_count + length files
    front = omega (arith, length-append built_in_table (classes_from plan files built_in_count files), built_in_length, length_from plan files built_in_count files)

    of_file : (p : ℕ) → i ≡ length built_in_table + p → slice_get (classes_from plan files built_in_count files) p ≡ Some k → IsOutlined plan files i k
    of_file p e q =
        let small : p < length files = omega (arith, below_length _ p k q, length_from plan files built_in_count files) in
        let f = at_below files p small in
        let here : i ≡ built_in_count + p = omega (arith, e, built_in_length) in
        let class = same_there _ _ (sym (at_files plan files built_in_count files p f.0 f.1) ∙ q) in
        IsOfFile p f.0 here f.1 (sym class ∙ ap (λ n. class_of_file plan files n f.0) (sym here))

-- the class of a file stands behind the built-in ones
pub file_outlined : (plan : Plan) (files : List ClassFile) (p : ℕ) (f : ClassFile) → slice_get files p ≡ Some f →
    slice_get (linked_classes plan files) (built_in_count + p) ≡ Some (class_of_file plan files (built_in_count + p) f)
unfolding linked_classes
file_outlined plan files p f e =
    let small : built_in_count + p < length (built_in_table ++ classes_from plan files built_in_count files) =
    omega (arith, length-append built_in_table (classes_from plan files built_in_count files), built_in_length, length_from plan files built_in_count files, below_length files p f e) in
    at_front (built_in_table ++ classes_from plan files built_in_count files) (map array_class_named (array_names plan files)) (built_in_count + p) small
    ∙ ap (λ n. slice_get (built_in_table ++ classes_from plan files built_in_count files) (n + p)) (sym built_in_length)
    ∙ at_behind built_in_table (classes_from plan files built_in_count files) p ∙ at_files plan files built_in_count files p f e

-- ---- what constants mean

-- a class with what its constants mean
unfoldable pub meant_of : System → List ClassFile → ℕ → Class → Class
meant_of s files c k = if is_built_in c then k else unwrap_or (option_map (λ (f : ClassFile). record k { constants = meanings_of s f }) (slice_get files (c - built_in_count))) k

-- the class at a place with what its constants mean
at_meant : (s : System) (files : List ClassFile) (c : ℕ) (ks : List Class) (i : ℕ) (k : Class) → slice_get ks i ≡ Some k →
    slice_get (with_meanings s files c ks) i ≡ Some (meant_of s files (c + i) k)
unfolding with_meanings meant_of
at_meant s files c [] i k e = absurd cc
at_meant s files c (h ∷ ks) zero k e =
    ap (λ x. Some (meant_of s files c x)) (same_there h k e) ∙ ap (λ n. Some (meant_of s files n k)) (omega arith)
at_meant s files c (h ∷ ks) (suc i) k e = at_meant s files (c + 1) ks i k e ∙ ap (λ n. Some (meant_of s files n k)) (omega arith)

-- where a class with what constants mean stands, one stood before
from_meant : (s : System) (files : List ClassFile) (c : ℕ) (ks : List Class) (i : ℕ) (k : Class) → slice_get (with_meanings s files c ks) i ≡ Some k →
    (h : Class) × (slice_get ks i ≡ Some h) × (k ≡ meant_of s files (c + i) h)
unfolding with_meanings
from_meant s files c [] i k e = absurd cc
from_meant s files c (h ∷ ks) zero k e = (h, refl, same_there k _ (sym e ∙ at_meant s files c (h ∷ ks) zero h refl))
from_meant s files c (h ∷ ks) (suc i) k e = let r = from_meant s files (c + 1) ks i k e in (r.0, r.1, r.2 ∙ ap (λ n. meant_of s files n r.0) (omega arith))

-- the classes are alike but for what their constants mean
pub record IsAlike (k h : Class) : Type 0 where
  pub name : k.name ≡ h.name
  pub parent : k.parent ≡ h.parent
  pub interfaces : k.interfaces ≡ h.interfaces
  pub component : k.component ≡ h.component
  pub fields : k.fields ≡ h.fields
  pub statics : k.statics ≡ h.statics
  pub methods : k.methods ≡ h.methods
  pub flags : k.flags ≡ h.flags

-- each class is alike itself
alike_itself : (k : Class) → IsAlike k k
alike_itself k = record { name = refl; parent = refl; interfaces = refl; component = refl; fields = refl; statics = refl; methods = refl; flags = refl }

-- what constants mean changes nothing else
pub meant_alike : (s : System) (files : List ClassFile) (c : ℕ) (k : Class) → IsAlike (meant_of s files c k) k
unfolding meant_of
meant_alike s files c k = by (is_built_in c) (slice_get files (c - built_in_count))
  where
    by : (b : Bool) (o : Option ClassFile) → IsAlike (if b then k else unwrap_or (option_map (λ (f : ClassFile). record k { constants = meanings_of s f }) o) k) k
    by true o = alike_itself k
    by false None = alike_itself k
    by false (Some f) = record { name = refl; parent = refl; interfaces = refl; component = refl; fields = refl; statics = refl; methods = refl; flags = refl }

-- what a used constant means
pub at_meaning : (s : System) (f : ClassFile) (used : List ℕ) (i : ℕ) (ks : List Constant) (j : ℕ) (k : Constant) (r : Resolved) →
    slice_get ks j ≡ Some k → contains_number used (i + j) ≡ true → meaning_of s f k ≡ Some r → slice_get (meanings_from s f used i ks) j ≡ Some r
unfolding meanings_from
at_meaning s f used i [] j k r e u m = absurd cc
at_meaning s f used i (h ∷ ks) zero k r e u m =
    by (contains_number used i) (ap (contains_number used) (omega arith) ∙ u)
  where
    meant : meaning_of s f h ≡ Some r
    meant = ap (meaning_of s f) (same_there h k e) ∙ m

    by : (b : Bool) → b ≡ true → Some (if b then unwrap_or (meaning_of s f h) resolved.Unused else resolved.Unused) ≡ Some r
    by true q = ap (λ o. Some (unwrap_or o resolved.Unused)) meant
    by false q = absurd cc
at_meaning s f used i (h ∷ ks) (suc j) k r e u m = at_meaning s f used (i + 1) ks j k r e (ap (contains_number used) (omega arith) ∙ u) m

-- ---- the linked system

module _ (plan : Plan) (files : List ClassFile) (s : System) (linked : IsLinked plan files s) where
  -- a class of the outline is alike in the system
  pub class_linked : (c : ℕ) (k : Class) → class_at (outline plan files) c ≡ Some k → class_at s c ≡ Some (meant_of (outline plan files) files c k)
  unfolding class_at linked_system
  class_linked c k e =
      ap (λ (x : System). slice_get x.program.classes c) linked.system ∙ at_meant (outline plan files) files 0 (outline plan files).program.classes c k e
      ∙ ap (λ n. Some (meant_of (outline plan files) files n k)) (omega arith)

  -- a class of the system is one of the outline
  pub class_outlined : (c : ℕ) (k : Class) → class_at s c ≡ Some k → (h : Class) × (class_at (outline plan files) c ≡ Some h) × (k ≡ meant_of (outline plan files) files c h)
  unfolding class_at linked_system
  class_outlined c k e =
      let r = from_meant (outline plan files) files 0 (outline plan files).program.classes c k (ap (λ (x : System). slice_get x.program.classes c) (sym linked.system) ∙ e) in
      (r.0, r.1, r.2 ∙ ap (λ n. meant_of (outline plan files) files n r.0) (omega arith))

  -- what the class of a file means
  pub file_linked : (p : ℕ) (f : ClassFile) → slice_get files p ≡ Some f →
      class_at s (built_in_count + p) ≡ Some (record (class_of_file plan files (built_in_count + p) f) { constants = meanings_of (outline plan files) f })
  unfolding class_at outline meant_of is_built_in
  file_linked p f e = class_linked (built_in_count + p) (class_of_file plan files (built_in_count + p) f) (file_outlined plan files p f e)
      ∙ by (nat_lt (built_in_count + p) built_in_count) (slice_get files (built_in_count + p - built_in_count)) (λ h. no (Decides-ltb (built_in_count + p) built_in_count).0 h)
      (ap (slice_get files) (omega arith) ∙ e)
    where
      h : Class
      h = class_of_file plan files (built_in_count + p) f

      no : (nat_lt (built_in_count + p) built_in_count ≡ true → built_in_count + p < built_in_count) → nat_lt (built_in_count + p) built_in_count ≡ true → ⊥
      no g h = let k = g h in omega (arith, k)

      by : (b : Bool) (o : Option ClassFile) → (b ≡ true → ⊥) → o ≡ Some f →
          Some (if b then h else unwrap_or (option_map (λ (g : ClassFile). record h { constants = meanings_of (outline plan files) g }) o) h)
          ≡ Some (record h { constants = meanings_of (outline plan files) f })
      by true o n q = absurd (n refl)
      by false None n q = absurd cc
      by false (Some g) n q = ap (λ (x : ClassFile). Some (record h { constants = meanings_of (outline plan files) x })) (same_there g f q)

  -- the methods are those of the outline
  pub same_methods : s.program.methods ≡ (outline plan files).program.methods
  unfolding linked_system
  same_methods = ap (λ (x : System). x.program.methods) linked.system

  -- a method comes from a source
  pub method_source : (m : ℕ) (x : Method) → method_at s m ≡ Some x → (y : Source) × Among (sources files) y × (x ≡ linked_method (selectors_of files) y)
  unfolding method_at outline
  method_source m x e =
      let r = from_map_at (linked_method (selectors_of files)) (sources files) m x (ap (λ xs. slice_get xs m) (sym same_methods) ∙ e) in
      (r.0, at_among (sources files) m r.0 r.1, sym r.2)
