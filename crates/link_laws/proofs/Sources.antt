-- The methods of a linked system and their selectors.
use Rattle.std.proofs.Common.{◌≡◌, ℕ, suc, ◌+◌, ◌⊎◌, inl, inr, Bool, true, false, ◌&&◌, List, [], ◌∷◌, map, Some, None, slice_get, refl, sym, ap, ◌∙◌, subst, arith}
use Rattle.std.specs.Prelude.{nat_lt}
use Rattle.std.specs.List.{AllByRecursion, list_all, list_any}
use Rattle.std.specs.Str.{bytes_eq}
use Rattle.jx_base.specs.declared.class_file.ClassFile.{ClassFile}
use Rattle.jx_base.specs.declared.class_file.Member.{Member}
use Rattle.jx_base.specs.declared.program.Class.{Class}
use Rattle.jx_base.specs.declared.program.Declared.{Declared}
use Rattle.jx_base.specs.declared.program.Selector.{Selector}
use Rattle.program_model.specs.BuiltIn.{built_in_table, built_in_count, opened_built_in}
use Rattle.link_model.specs.ClassFiles.{member_selector}
use Rattle.program_model.specs.DistinctNames.{AreUnits}
use Rattle.link_model.specs.Linking.{Source, declared_of, file_sources, file_sources_from, built_in_sources_from, sources, first_selectors_after, linked_selectors}
use Rattle.program_model.specs.Lookup.{same_selector}
use Rattle.jx_base.proofs.BasicLaws.{both}
use Rattle.link_laws.proofs.Classes.{small_units}
use Rattle.link_laws.proofs.Files.{IsFile, IsMethod}
use Rattle.link_laws.proofs.Lists.{Among, IsOnce, among_either, among_map, from_map, of_each, each_among, any_among, among_any, at_among, same_text, text_same}

-- ---- where methods come from

-- a method of a built-in class, or of a file of the plan
pub data IsSource (files : List ClassFile) (x : Source) : Type 0 where
  OfBuiltIn : (k : Class) → slice_get built_in_table x.class ≡ Some k → Among k.methods x.declared → x.code ≡ None → IsSource files x
  OfFile : (p : ℕ) (f : ClassFile) (m : Member) → x.class ≡ built_in_count + p → slice_get files p ≡ Some f → Among f.methods m
      → x.declared ≡ declared_of m → x.code ≡ m.code → IsSource files x

-- the methods of classes, the first of which has number c
from_built_in : (c : ℕ) (ks : List Class) (x : Source) → Among (built_in_sources_from c ks) x
    → (p : ℕ) × (k : Class) × (x.class ≡ c + p) × (slice_get ks p ≡ Some k) × Among k.methods x.declared × (x.code ≡ None)
unfolding built_in_sources_from
from_built_in c [] x h = absurd h
from_built_in c (k ∷ ks) x h = elim (among_either _ (built_in_sources_from (c + 1) ks) x h) [
  | inl q ↦ let r = from_map _ k.methods x q in (0, k, (ap (λ (y : Source). y.class) (sym r.2) ∙ omega arith), refl, subst (λ (y : Source). Among k.methods y.declared) r.2 r.1, ap (λ (y : Source). y.code) (sym r.2))
  | inr q ↦ let r = from_built_in (c + 1) ks x q in (suc r.0, r.1, omega (arith, r.2), r.3, r.4, r.5)
]

-- the methods of files, the first of which has number c
from_files : (c : ℕ) (fs : List ClassFile) (x : Source) → Among (file_sources_from c fs) x
    → (p : ℕ) × (f : ClassFile) × (m : Member) × (x.class ≡ c + p) × (slice_get fs p ≡ Some f) × Among f.methods m × (x.declared ≡ declared_of m) × (x.code ≡ m.code)
unfolding file_sources_from file_sources
from_files c [] x h = absurd h
from_files c (f ∷ fs) x h = elim (among_either _ (file_sources_from (c + 1) fs) x h) [
  | inl q ↦
      let r = from_map _ f.methods x q in
      (0, f, r.0, (ap (λ (y : Source). y.class) (sym r.2) ∙ omega arith), refl, r.1, ap (λ (y : Source). y.declared) (sym r.2), ap (λ (y : Source). y.code) (sym r.2))
  | inr q ↦ let r = from_files (c + 1) fs x q in (suc r.0, r.1, r.2, omega (arith, r.3), r.4, r.5, r.6, r.7)
]

-- each method comes from a class
pub is_source : (files : List ClassFile) (x : Source) → Among (sources files) x → IsSource files x
unfolding sources
is_source files x h = elim (among_either (built_in_sources_from 0 built_in_table) (file_sources_from built_in_count files) x h) [
  | inl q ↦ let r = from_built_in 0 built_in_table x q in OfBuiltIn r.1 (ap (slice_get built_in_table) (r.2 ∙ omega arith) ∙ r.3) r.4 r.5
  | inr q ↦ let r = from_files built_in_count files x q in OfFile r.0 r.1 r.2 r.3 r.4 r.5 r.6 r.7
]

-- ---- selectors

-- selectors that pass the test are the same
pub same_selectors : (x y : Selector) → same_selector x y ≡ true → x ≡ y
unfolding same_selector
same_selectors x y h =
    let k = both (bytes_eq x.name y.name) (bytes_eq x.descriptor y.descriptor) h in
    let n = same_text x.name y.name k.0 in
    let d = same_text x.descriptor y.descriptor k.1 in
    (λ t. record { name = n t; descriptor = d t })

-- a selector passes for itself
pub selector_itself : (x : Selector) → same_selector x x ≡ true
unfolding same_selector
selector_itself x = and_both _ _ (text_same x.name x.name refl) (text_same x.descriptor x.descriptor refl)
  where
    and_both : (a b : Bool) → a ≡ true → b ≡ true → (a && b) ≡ true
    and_both true b h k = k
    and_both false b h k = h

-- the selectors stand once, in the list, and none was seen
pub record AreFirst (seen ts firsts : List Selector) : Type 0 where
  pub once : IsOnce firsts
  pub there : (t : Selector) → Among firsts t → Among ts t
  pub unseen : (t : Selector) → Among firsts t → Among seen t → ⊥
  pub all : (t : Selector) → Among ts t → Among firsts t ⊎ Among seen t

-- so are the first selectors of a list
pub first_selectors_are : (seen ts : List Selector) → AreFirst seen ts (first_selectors_after seen ts)
unfolding first_selectors_after
first_selectors_are seen [] = record { once = tt; there = λ t h. h; unseen = λ t h k. h; all = λ t h. absurd h }
first_selectors_are seen (x ∷ ts) = by (list_any (same_selector x) seen) refl (first_selectors_are seen ts) (first_selectors_are (x ∷ seen) ts)
  where
    by : (b : Bool) → list_any (same_selector x) seen ≡ b → AreFirst seen ts (first_selectors_after seen ts) → AreFirst (x ∷ seen) ts (first_selectors_after (x ∷ seen) ts)
        → AreFirst seen (x ∷ ts) (elim b as (λ _. List Selector) [ true ↦ first_selectors_after seen ts | false ↦ x ∷ first_selectors_after (x ∷ seen) ts ])
    by true e r s =
        let k = any_among (same_selector x) seen e in
        let old : Among seen x = subst (Among seen) (sym (same_selectors x k.0 k.2)) k.1 in
        record {
          once = r.once;
          there = λ t h. inr (r.there t h);
          unseen = r.unseen;
          all = λ t h. elim h [ inl q ↦ inr (subst (Among seen) q old) | inr q ↦ r.all t q ];
        }
    by false e r s = record {
      once = ((λ h. s.unseen x h (inl refl)), s.once);
      there = λ t h. elim h [ inl q ↦ inl q | inr q ↦ inr (s.there t q) ];
      unseen = λ t h k. elim h [ inl q ↦ new (subst (Among seen) (sym q) k) | inr q ↦ s.unseen t q (inr k) ];
      all = λ t h. elim h [ inl q ↦ inl (inl q) | inr q ↦ elim (s.all t q) [ inl p ↦ inl (inr p) | inr p ↦ elim p [ inl w ↦ inl (inl w) | inr w ↦ inr w ] ] ];
    }
      where
        new : Among seen x → ⊥
        new h = let k = among_any (same_selector x) seen x h (selector_itself x) in absurd cc

-- the selectors of all methods
abbrev pub selectors_of : List ClassFile → List Selector
selectors_of files = linked_selectors (sources files)

-- each stands once
pub selectors_once : (files : List ClassFile) → IsOnce (selectors_of files)
unfolding linked_selectors
selectors_once files = (first_selectors_are [] (map (λ x. x.declared.selector) (sources files))).once

-- each is a method's
pub selector_source : (files : List ClassFile) (y : Selector) → Among (selectors_of files) y → (x : Source) × Among (sources files) x × (x.declared.selector ≡ y)
unfolding linked_selectors
selector_source files y h = from_map (λ x. x.declared.selector) (sources files) y ((first_selectors_are [] (map (λ x. x.declared.selector) (sources files))).there y h)

-- a method's selector is one of them
pub selector_there : (files : List ClassFile) (x : Source) → Among (sources files) x → Among (selectors_of files) x.declared.selector
unfolding linked_selectors
selector_there files x h =
    elim ((first_selectors_are [] (map (λ x. x.declared.selector) (sources files))).all x.declared.selector (among_map (λ x. x.declared.selector) (sources files) x h)) [ inl k ↦ k | inr k ↦ absurd k ]

-- ---- units

-- a selector of units
abbrev pub HasSelectorUnits : Selector → Type 0
HasSelectorUnits y = AreUnits y.name × AreUnits y.descriptor

-- a method of a built-in class has a selector of units
is_small : Declared → Bool
is_small d = list_all (λ u. nat_lt u 65536) d.selector.name && list_all (λ u. nat_lt u 65536) d.selector.descriptor

-- so has each method of a built-in class
built_in_small : list_all (λ (k : Class). list_all is_small k.methods) built_in_table ≡ true
unfolding is_small opened_built_in
built_in_small = refl

-- a selector that passes is of units
small_selector : (d : Declared) → is_small d ≡ true → HasSelectorUnits d.selector
unfolding is_small
small_selector d h =
    let k = both (list_all (λ u. nat_lt u 65536) d.selector.name) (list_all (λ u. nat_lt u 65536) d.selector.descriptor) h in
    (small_units d.selector.name k.0, small_units d.selector.descriptor k.1)

-- the selectors of the methods are of units
pub selector_units : (files : List ClassFile) → AllByRecursion IsFile files → (y : Selector) → Among (selectors_of files) y → HasSelectorUnits y
unfolding declared_of member_selector
selector_units files read y h =
    let r = selector_source files y h in subst HasSelectorUnits r.2 (by r.0 (is_source files r.0 r.1))
  where
    by : (x : Source) → IsSource files x → HasSelectorUnits x.declared.selector
    by x (OfBuiltIn k e m n) =
        small_selector x.declared (each_among is_small k.methods x.declared (each_among (λ (k : Class). list_all is_small k.methods) built_in_table k built_in_small (at_among built_in_table x.class k e)) m)
    by x (OfFile p f m c e a d n) =
        let q = of_each IsMethod f.methods m (of_each IsFile files f read (at_among files p f e)).methods a in
        subst (λ (z : Declared). HasSelectorUnits z.selector) (sym d) (told m q)
      where
        told : (m : Member) → IsMethod m → HasSelectorUnits (declared_of m).selector
        told m q = (q.name, q.descriptor)
