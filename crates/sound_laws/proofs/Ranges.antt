-- What the constants of a linked system mean lies in its range.
use Rattle.std.proofs.Common.{◌≡◌, ℕ, zero, suc, ◌+◌, ◌-◌, ◌<◌, ◌⊎◌, inl, inr, Bool, true, false, List, [], ◌∷◌, length, Option, Some, None, is_some, slice_get, refl, sym, ap, ◌∙◌, subst}
use Rattle.std.specs.Prelude.{⊤, FitsSigned, MatchBool, IsSome, unwrap_or, if◌then◌else◌}
use Rattle.std.specs.List.{AllByRecursion, list_all}
use Rattle.std.specs.Int.{w32, w64}
use Rattle.std.specs.Str.{bytes_eq}
use borrow.Author.Gap.{read_sfits}
use Rattle.class_grammar.specs.ClassGrammar.{IsClassFile, class_file_part, pool_part}
use Rattle.class_grammar.specs.Constants.{constant_body, constant_part, constants_part, utf8_body, skipped_body, index_pair, is_double_width}
use Rattle.jx_base.specs.declared.class_file.ClassFile.{ClassFile}
use Rattle.jx_base.specs.declared.class_file.Constant.{Constant}
use Rattle.jx_base.specs.declared.class_file.Constant.TheVariants as constant
use Rattle.jx_base.specs.declared.constant_tag.ConstantTag.{ConstantTag}
use Rattle.jx_base.specs.declared.constant_tag.ConstantTag.TheVariants as tag
use Rattle.jx_base.specs.declared.program.Class.{Class}
use Rattle.jx_base.specs.declared.program.Plan.{Plan}
use Rattle.jx_base.specs.declared.program.Resolved.{Resolved}
use Rattle.jx_base.specs.declared.program.Resolved.TheVariants as resolved
use Rattle.jx_base.specs.declared.program.Selector.{Selector}
use Rattle.jx_base.specs.declared.program.System.{System}
use Rattle.program_model.specs.BuiltIn.{built_in_count, built_in_table, array_class, class_below, built_in_class, opened_built_in}
use Rattle.link_model.specs.ClassFiles.{constant_in, text_of_constant, text_in, class_name_in, selector_in}
use Rattle.link_model.specs.Linking.{outline, class_of_file, array_class_named, meaning_of, meanings_from, meanings_of, in_class, found_field, own_field, own_instance_field, own_static_field, statics_before}
use Rattle.program_model.specs.Lookup.{class_at, class_named, constant_at, is_built_in, supers_of}
use Rattle.jx_base.specs.Basics.{contains_number}
use Rattle.link_model.specs.LinkFaults.{IsLinked}
use Rattle.class_grammar.specs.ReadFiles.{IsReadFile}
use Rattle.link_laws.proofs.Files.{HasUnits, IsFile}
use Rattle.link_laws.proofs.Lists.{Among, below_length, of_each, at_among, each_among, position_at, same_there}
use Rattle.link_laws.proofs.Names.{are_files}
use Rattle.link_laws.proofs.Origins.{IsOutlined, IsBuiltIn, IsOfFile, IsOfArray, is_outlined, class_linked, class_outlined, meant_of}
use Rattle.link_laws.proofs.Uses.{and_then_some, mapped_some, some_given}
use Rattle.machine_laws.specs.Sound.{IsResolvedIn}
use Rattle.machine_model.specs.State.{static_types}
use Rattle.sound_laws.proofs.Statics.{static_below}
use Rattle.std.specs.Option.{option_map}

-- ---- the constants of a file

-- the number of a constant is of its width
abbrev pub IsRanged : Constant → Type 0
IsRanged (constant.Integer n) = FitsSigned w32 n
IsRanged (constant.Long n) = FitsSigned w64 n
IsRanged _ = ⊤

-- so is what stands behind a tag
body_ranged : (size at : ℕ) (t : ConstantTag) (bytes : List ℕ) (c : Constant) (rest : List ℕ) → (constant_body size at t).spells bytes c rest → IsRanged c
unfolding constant_body utf8_body skipped_body index_pair
body_ranged size at tag.Utf8 bytes c rest h = subst IsRanged (sym h.3.3.3.0) tt
body_ranged size at tag.Integer bytes c rest h = subst IsRanged (sym h.3.0) (read_sfits w32 h.0)
body_ranged size at tag.Float bytes c rest h = subst IsRanged (sym h.3.0) tt
body_ranged size at tag.Long bytes c rest h = subst IsRanged (sym h.3.0) (read_sfits w64 h.0)
body_ranged size at tag.Double bytes c rest h = subst IsRanged (sym h.3.0) tt
body_ranged size at tag.Class bytes c rest h = subst IsRanged (sym h.3.0) tt
body_ranged size at tag.Str bytes c rest h = subst IsRanged (sym h.3.0) tt
body_ranged size at tag.Field bytes c rest h = subst IsRanged (sym h.3.0) tt
body_ranged size at tag.Method bytes c rest h = subst IsRanged (sym h.3.0) tt
body_ranged size at tag.InterfaceMethod bytes c rest h = subst IsRanged (sym h.3.0) tt
body_ranged size at tag.NameAndType bytes c rest h = subst IsRanged (sym h.3.0) tt
body_ranged size at tag.MethodHandle bytes c rest h = subst IsRanged (sym h.3.0) tt
body_ranged size at tag.MethodType bytes c rest h = subst IsRanged (sym h.3.0) tt
body_ranged size at tag.InvokeDynamic bytes c rest h = subst IsRanged (sym h.3.0) tt

-- so is a constant
constant_ranged : (size : ℕ) (bytes : List ℕ) (c : Constant) (rest : List ℕ) → (constant_part size).spells bytes c rest → IsRanged c
unfolding constant_part
constant_ranged size bytes c rest h = body_ranged size h.0 h.3.3.0 h.3.3.1 c rest h.3.3.3

-- and each of a list of constants
constants_ranged : (size n : ℕ) (bytes : List ℕ) (cs : List Constant) (rest : List ℕ) → (constants_part size n).spells bytes cs rest → AllByRecursion IsRanged cs
unfolding constants_part
constants_ranged size zero bytes cs rest h = subst (AllByRecursion IsRanged) (sym h.0) tt
constants_ranged size (suc zero) bytes cs rest h =
    subst (AllByRecursion IsRanged) (sym h.3.3.3.0) (constant_ranged size _ h.3.0 _ h.3.2, tt)
constants_ranged size (suc (suc n)) bytes cs rest h = by (is_double_width h.0) (constant_ranged size bytes h.0 h.1 h.2) h.3
    (λ ms rs. constants_ranged size n h.1 ms rs) (λ ms rs. constants_ranged size (suc n) h.1 ms rs)
  where
    by : (b : Bool) → IsRanged h.0
        → MatchBool b
        ((x : List Constant) × (middle : List ℕ) × (constants_part size n).spells h.1 x middle × ((cs ≡ h.0 ∷ constant.Unusable ∷ x) × (rest ≡ middle)))
        ((x : List Constant) × (middle : List ℕ) × (constants_part size (suc n)).spells h.1 x middle × ((cs ≡ h.0 ∷ x) × (rest ≡ middle)))
        → ((x : List Constant) (r : List ℕ) → (constants_part size n).spells h.1 x r → AllByRecursion IsRanged x)
        → ((x : List Constant) (r : List ℕ) → (constants_part size (suc n)).spells h.1 x r → AllByRecursion IsRanged x)
        → AllByRecursion IsRanged cs
    by true u k one two = subst (AllByRecursion IsRanged) (sym k.3.0) (u, (tt, one k.0 k.1 k.2))
    by false u k one two = subst (AllByRecursion IsRanged) (sym k.3.0) (u, two k.0 k.1 k.2)

-- and each of a file's constants
pool_ranged : (size : ℕ) (bytes : List ℕ) (cs : List Constant) (rest : List ℕ) → (pool_part size).spells bytes cs rest → AllByRecursion IsRanged cs
unfolding pool_part
pool_ranged size bytes cs rest h =
    subst (AllByRecursion IsRanged) (sym h.3.3.3.3.0) (tt, constants_ranged size _ _ h.3.3.0 _ h.3.3.2)

-- so are those of each class file
pub file_ranged : (bytes : List ℕ) (f : ClassFile) → IsClassFile bytes f → AllByRecursion IsRanged f.constants
unfolding class_file_part
file_ranged bytes f h =
    let pool = h.3 in
    let methods = pool.3.3.3 in
    subst (λ (x : ClassFile). AllByRecursion IsRanged x.constants) (sym methods.3.3.3.3.0) (pool_ranged (length bytes) _ pool.0 _ pool.2)

-- the text at an index is of units
text_ranged : (f : ClassFile) (n : ℕ) → AllByRecursion HasUnits f.constants → AllByRecursion (λ u. u < 65536) (text_in f n)
unfolding text_in constant_in text_of_constant
text_ranged f n units = by (slice_get f.constants n) refl
  where
    of : (c : Constant) → HasUnits c → AllByRecursion (λ u. u < 65536) (text_of_constant c)
    of (constant.Utf8 t) h = h
    of c h = tt

    by : (o : Option Constant) → slice_get f.constants n ≡ o → AllByRecursion (λ u. u < 65536) (text_of_constant (elim o as (λ _. Constant) [ None ↦ constant.Unusable | Some c ↦ c ]))
    by None e = tt
    by (Some c) e = of c (of_each HasUnits f.constants c units (at_among f.constants n c e))

-- ---- meanings

-- what stands among meanings is unused or the meaning of a constant
from_meanings : (s : System) (f : ClassFile) (used : List ℕ) (i : ℕ) (ks : List Constant) (j : ℕ) (x : Resolved) → slice_get (meanings_from s f used i ks) j ≡ Some x
    → (x ≡ resolved.Unused) ⊎ ((k : Constant) × Among ks k × (meaning_of s f k ≡ Some x))
unfolding meanings_from
from_meanings s f used i [] j x e = absurd cc
from_meanings s f used i (h ∷ ks) zero x e = by (contains_number used i) (meaning_of s f h) refl (same_there _ x e)
  where
    by : (b : Bool) (o : Option Resolved) → meaning_of s f h ≡ o → (if b then unwrap_or o resolved.Unused else resolved.Unused) ≡ x → (x ≡ resolved.Unused) ⊎ ((k : Constant) × Among (h ∷ ks) k × (meaning_of s f k ≡ Some x))
    by false o g q = inl (sym q)
    by true None g q = inl (sym q)
    by true (Some y) g q = inr (h, inl refl, g ∙ ap Some q)
from_meanings s f used i (h ∷ ks) (suc j) x e = elim (from_meanings s f used (i + 1) ks j x e) [ inl q ↦ inl q | inr q ↦ inr (q.0, inr q.1, q.2) ]

-- the constants of a class are those of the outline, or what a file's mean
meant_constants : (s : System) (files : List ClassFile) (c : ℕ) (h : Class) →
    ((meant_of s files c h).constants ≡ h.constants) ⊎ ((f : ClassFile) × Among files f × ((meant_of s files c h).constants ≡ meanings_of s f))
unfolding meant_of
meant_constants s files c h = by (is_built_in c) (slice_get files (c - built_in_count)) refl
  where
    by : (b : Bool) (o : Option ClassFile) → slice_get files (c - built_in_count) ≡ o
        → ((if b then h else unwrap_or (option_map (λ (f : ClassFile). record h { constants = meanings_of s f }) o) h).constants ≡ h.constants)
        ⊎ ((f : ClassFile) × Among files f × ((if b then h else unwrap_or (option_map (λ (f : ClassFile). record h { constants = meanings_of s f }) o) h).constants ≡ meanings_of s f))
    by true o e = inl refl
    by false None e = inl refl
    by false (Some f) e = inr (f, at_among files (c - built_in_count) f e, refl)

-- whether there are none
unfoldable has_none : List Resolved → Bool
has_none [] = true
has_none (x ∷ xs) = false

-- the built-in classes have no constants
built_in_bare : list_all (λ (k : Class). has_none k.constants) built_in_table ≡ true
unfolding has_none opened_built_in
built_in_bare = refl

none_is : (xs : List Resolved) → has_none xs ≡ true → xs ≡ []
unfolding has_none
none_is [] h = refl
none_is (x ∷ xs) h = absurd cc

-- nor has an array class
array_bare : (name : List ℕ) → (array_class_named name).constants ≡ []
unfolding array_class_named array_class class_below built_in_class
array_bare [] = refl
array_bare (u ∷ units) = refl

-- the outline has none
outlined_bare : (plan : Plan) (files : List ClassFile) (c : ℕ) (h : Class) → IsOutlined plan files c h → h.constants ≡ []
unfolding class_of_file
outlined_bare plan files c h (IsBuiltIn small w) = none_is h.constants (each_among (λ (k : Class). has_none k.constants) built_in_table h built_in_bare (at_among built_in_table c h w))
outlined_bare plan files c h (IsOfFile p f i w g) = ap (λ (x : Class). x.constants) g
outlined_bare plan files c h (IsOfArray j name i w g) = ap (λ (x : Class). x.constants) g ∙ array_bare name

-- an empty list has nothing
of_empty : (xs : List Resolved) (i : ℕ) (x : Resolved) → xs ≡ [] → slice_get xs i ≡ Some x → ⊥
of_empty [] i x e h = cc
of_empty (y ∷ xs) i x e h = cc

-- a field's meaning is in its range
field_ranged : (s o : System) (y : Selector) (c : ℕ) (x : Resolved) → ((k : Class) (i : ℕ) → class_at o c ≡ Some k → i < length k.statics → statics_before o c + i < length (static_types s))
    → own_field o y c ≡ Some x → IsResolvedIn s x
unfolding own_field own_instance_field own_static_field
field_ranged s o y c x below e =
    let k = and_then_some (class_at o c) (λ k. elim (own_instance_field y c k) as (λ _. Option Resolved) [ Some r ↦ Some r | None ↦ own_static_field o y c k ]) x e in
    by k.0 k.1 (own_instance_field y c k.0) refl k.2
  where
    by : (k : Class) → class_at o c ≡ Some k → (p : Option Resolved) → own_instance_field y c k ≡ p → (elim p as (λ _. Option Resolved) [ Some r ↦ Some r | None ↦ own_static_field o y c k ]) ≡ Some x → IsResolvedIn s x
    by k w (Some r) g q = let i = mapped_some (λ (i : ℕ). resolved.Instance (record { 0 = c }) i) _ r g in subst (IsResolvedIn s) (i.2 ∙ same_there r x q) tt
    by k w None g q =
        let i = mapped_some (λ (i : ℕ). resolved.Static (record { 0 = c }) (statics_before o c + i)) _ x q in
        let there = position_at _ k.statics i.0 i.1 in
        subst (IsResolvedIn s) i.2 (below k i.0 w (below_length k.statics i.0 there.0 there.1))

module _ (plan : Plan) (files : List ClassFile) (s : System) (from : IsLinked plan files s) where
  -- the class of a name is one of the system
  class_ranged : (name : List ℕ) (c : ℕ) → class_named (outline plan files) name ≡ Some c → IsSome (class_at s c)
  unfolding class_named class_at
  class_ranged name c e =
      let r = position_at (λ (k : Class). bytes_eq k.name name) (outline plan files).program.classes c e in
      ap is_some (class_linked plan files s from c r.0 r.1)

  -- the meaning of a constant is in its range
  meaning_ranged : (f : ClassFile) (k : Constant) (x : Resolved) → AllByRecursion HasUnits f.constants → IsRanged k → meaning_of (outline plan files) f k ≡ Some x → IsResolvedIn s x
  unfolding meaning_of in_class found_field
  meaning_ranged f (constant.Integer n) x units k e = subst (IsResolvedIn s) (same_there (resolved.Int n) x e) k
  meaning_ranged f (constant.Long n) x units k e = subst (IsResolvedIn s) (same_there (resolved.Long n) x e) k
  meaning_ranged f (constant.Str n) x units k e = subst (IsResolvedIn s) (same_there (resolved.Str (text_in f n)) x e) (text_ranged f n units)
  meaning_ranged f (constant.Class n) x units k e =
      let r = mapped_some (λ (c : ℕ). resolved.Class (record { 0 = c })) (class_named (outline plan files) (text_in f n)) x e in
      subst (IsResolvedIn s) r.2 (class_ranged (text_in f n) r.0 r.1)
  meaning_ranged f (constant.Field c d) x units k e =
      let r = and_then_some (class_named (outline plan files) (class_name_in f c)) (found_field (outline plan files) (selector_in f d)) x e in
      let g = some_given (own_field (outline plan files) (selector_in f d)) (supers_of (outline plan files) r.0) x r.2 in
      field_ranged s (outline plan files) (selector_in f d) g.0 x (λ k i. static_below plan files s from g.0 k i) g.2
  meaning_ranged f (constant.Method c d) x units k e = let r = mapped_some (λ (m : ℕ). resolved.Method m) _ x e in subst (IsResolvedIn s) r.2 tt
  meaning_ranged f (constant.InterfaceMethod c d) x units k e = let r = mapped_some (λ (m : ℕ). resolved.Method m) _ x e in subst (IsResolvedIn s) r.2 tt
  meaning_ranged f k x units h e = absurd cc

  -- what a constant means is in its range
  pub constants : (c i : ℕ) (x : Resolved) → constant_at s c i ≡ Some x → IsResolvedIn s x
  unfolding constant_at class_at outline meanings_of
  constants c i x e =
      let k = and_then_some (class_at s c) (λ (y : Class). slice_get y.constants i) x e in
      let r = class_outlined plan files s from c k.0 k.1 in
      by k.0 r.0 r.2 (is_outlined plan files c r.0 r.1) k.2
    where
      by : (k h : Class) → k ≡ meant_of (outline plan files) files c h → IsOutlined plan files c h → slice_get k.constants i ≡ Some x → IsResolvedIn s x
      by k h q o g = elim (meant_constants (outline plan files) files c h) [
        | inl w ↦ absurd (of_empty k.constants i x (ap (λ (y : Class). y.constants) q ∙ w ∙ outlined_bare plan files c h o) g)
        | inr w ↦
            let read = of_each IsReadFile files w.0 from.has_files.read w.1 in
            elim (from_meanings (outline plan files) w.0 _ 0 w.0.constants i x (ap (λ xs. slice_get xs i) (sym (ap (λ (y : Class). y.constants) q ∙ w.2)) ∙ g)) [
              | inl z ↦ subst (IsResolvedIn s) (sym z) tt
              | inr z ↦ meaning_ranged w.0 z.0 x (of_each IsFile files w.0 (are_files files from.has_files.read) w.1).texts (of_each IsRanged w.0.constants z.0 (file_ranged read.bytes w.0 read.file) z.1) z.2
            ]
      ]
