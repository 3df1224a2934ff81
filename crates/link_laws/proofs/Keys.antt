-- No class has two methods of one selector.
use Rattle.std.proofs.Common.{◌≡◌, ℕ, ◌+◌, ◌<◌, ◌≤◌, inl, inr, Bool, true, false, List, [], ◌∷◌, length, map, Option, Some, None, slice_get, refl, sym, ap, ◌∙◌, subst, arith}
use Rattle.std.specs.List.{list_all, list_any, position}
use Rattle.jx_base.specs.declared.class_file.ClassFile.{ClassFile}
use Rattle.jx_base.specs.declared.class_file.Member.{Member}
use Rattle.jx_base.specs.declared.program.Class.{Class}
use Rattle.jx_base.specs.declared.program.Declared.{Declared}
use Rattle.jx_base.specs.declared.program.Selector.{Selector}
use Rattle.program_model.specs.BuiltIn.{built_in_table, built_in_count, opened_built_in}
use Rattle.link_model.specs.ClassFiles.{member_selector}
use Rattle.link_model.specs.LinkFaults.{repeated_after, repeated_name}
use Rattle.link_model.specs.Linking.{Source, declared_of, file_sources, file_sources_from, built_in_sources_from, sources}
use Rattle.program_model.specs.Lookup.{same_selector, opened_lookup}
use Rattle.link_laws.proofs.Classes.{built_in_length}
use Rattle.link_laws.proofs.Lists.{Among, IsOnce, among_either, among_any, from_map, among_map, map_joined, once_joined, position_at, position_there, each_among}
use Rattle.link_laws.proofs.Sources.{selectors_of, selector_there, same_selectors, selector_itself}
use Rattle.std.specs.Option.{option_map, unwrap_or}

-- ---- selectors of one class

-- selectors of which none stood before stand once, and none was seen
no_repeat : (seen xs : List Selector) → repeated_after seen xs ≡ None → IsOnce xs × ((x : Selector) → Among xs x → Among seen x → ⊥)
unfolding repeated_after
no_repeat seen [] h = (tt, λ x a. absurd a)
no_repeat seen (x ∷ xs) h = by (list_any (same_selector x) seen) refl h (no_repeat (x ∷ seen) xs)
  where
    by : (b : Bool) → list_any (same_selector x) seen ≡ b → (elim b as (λ _. Option Selector) [ true ↦ Some x | false ↦ repeated_after (x ∷ seen) xs ]) ≡ None
        → (repeated_after (x ∷ seen) xs ≡ None → IsOnce xs × ((y : Selector) → Among xs y → Among (x ∷ seen) y → ⊥))
        → IsOnce (x ∷ xs) × ((y : Selector) → Among (x ∷ xs) y → Among seen y → ⊥)
    by true e q again = absurd cc
    by false e q again =
        let r = again q in
        (((λ a. r.1 x a (inl refl)), r.0), λ y a s. elim a [ inl w ↦ new (subst (Among seen) (sym w) s) | inr w ↦ r.1 y w (inr s) ])
      where
        new : Among seen x → ⊥
        new s = let k = among_any (same_selector x) seen x s (selector_itself x) in absurd cc

-- members of which none stood before
pub members_once : (ms : List Member) → repeated_name ms ≡ None → IsOnce (map member_selector ms)
unfolding repeated_name
members_once ms h = (no_repeat [] (map member_selector ms) (by (repeated_after [] (map member_selector ms)) h)).0
  where
    by : (o : Option Selector) → option_map (λ x. x.name) o ≡ None → o ≡ None
    by None q = refl
    by (Some x) q = absurd cc

-- the selectors of each built-in class stand once
unfoldable has_once : Class → Bool
has_once k = elim (repeated_after [] (map (λ d. d.selector) k.methods)) [ None ↦ true | Some x ↦ false ]

-- no built-in class has a selector twice
built_in_methods : list_all has_once built_in_table ≡ true
unfolding has_once repeated_after opened_built_in opened_lookup
built_in_methods = refl

-- so the selectors of each stand once
class_once : (k : Class) → has_once k ≡ true → IsOnce (map (λ (d : Declared). d.selector) k.methods)
unfolding has_once
class_once k h = (no_repeat [] (map (λ (d : Declared). d.selector) k.methods) (by (repeated_after [] (map (λ (d : Declared). d.selector) k.methods)) h)).0
  where
    by : (o : Option Selector) → (elim o as (λ _. Bool) [ None ↦ true | Some x ↦ false ]) ≡ true → o ≡ None
    by None q = refl
    by (Some x) q = absurd cc

-- ---- classes and selectors

-- the class of a method with its selector
abbrev pub key_of : Source → ℕ × Selector
key_of x = (x.class, x.declared.selector)

-- items with one class are told by their selectors
keys_once : {A : Type 0} (c : ℕ) (of : A → Source) (selector : A → Selector) → ((a : A) → key_of (of a) ≡ (c, selector a)) → (xs : List A) → IsOnce (map selector xs) → IsOnce (map key_of (map of xs))
keys_once c of selector same [] h = tt
keys_once {A} c of selector same (x ∷ xs) h = ((λ a. h.0 (found a)), keys_once c of selector same xs h.1)
  where
    found : Among (map key_of (map of xs)) (key_of (of x)) → Among (map selector xs) (selector x)
    found a =
        let r = from_map key_of (map of xs) (key_of (of x)) a in
        let q = from_map of xs r.0 r.1 in
        let e : selector q.0 ≡ selector x = ap (λ (k : ℕ × Selector). k.1) (sym (same q.0) ∙ ap key_of q.2 ∙ r.2 ∙ same x) in
        subst (Among (map selector xs)) e (among_map selector xs q.0 q.1)

-- the keys of later built-in classes
built_in_later : (c : ℕ) (ks : List Class) (k : ℕ × Selector) → Among (map key_of (built_in_sources_from c ks)) k → (c ≤ k.0) × (k.0 < c + length ks)
unfolding built_in_sources_from
built_in_later c [] k h = absurd h
built_in_later c (x ∷ ks) k h =
    let r = from_map key_of (built_in_sources_from c (x ∷ ks)) k h in
    elim (among_either _ (built_in_sources_from (c + 1) ks) r.0 r.1) [
      | inl q ↦ let m = from_map _ x.methods r.0 q in let e : c ≡ k.0 = ap (λ (y : Source). y.class) m.2 ∙ ap (λ (z : ℕ × Selector). z.0) r.2 in (omega (arith, e), omega (arith, e))
      | inr q ↦ let m = built_in_later (c + 1) ks k (subst (Among (map key_of (built_in_sources_from (c + 1) ks))) r.2 (among_map key_of (built_in_sources_from (c + 1) ks) r.0 q)) in
          (omega (arith, m.0), omega (arith, m.1))
    ]

-- the keys of the built-in methods stand once
built_in_keys : (c : ℕ) (ks : List Class) → ((k : Class) → Among ks k → has_once k ≡ true) → IsOnce (map key_of (built_in_sources_from c ks))
unfolding built_in_sources_from
built_in_keys c [] h = tt
built_in_keys c (k ∷ ks) h =
    subst IsOnce (sym (map_joined key_of (map (λ (d : Declared). record { class = c; declared = d; code = None }) k.methods) (built_in_sources_from (c + 1) ks)))
    (once_joined _ (map key_of (built_in_sources_from (c + 1) ks))
    (keys_once c (λ (d : Declared). record { class = c; declared = d; code = None }) (λ (d : Declared). d.selector) (λ d. refl) k.methods (class_once k (h k (inl refl))))
    (built_in_keys (c + 1) ks (λ x a. h x (inr a)))
    (λ z a b. apart z (front z a) (built_in_later (c + 1) ks z b)))
  where
    front : (z : ℕ × Selector) → Among (map key_of (map (λ (d : Declared). record { class = c; declared = d; code = None }) k.methods)) z → z.0 ≡ c
    front z a =
        let r = from_map key_of (map (λ (d : Declared). record { class = c; declared = d; code = None }) k.methods) z a in
        let m = from_map (λ (d : Declared). record { class = c; declared = d; code = None }) k.methods r.0 r.1 in
        ap (λ (y : ℕ × Selector). y.0) (sym r.2) ∙ ap (λ (y : Source). y.class) (sym m.2)

    apart : (z : ℕ × Selector) → z.0 ≡ c → (c + 1 ≤ z.0) × (z.0 < c + 1 + length ks) → ⊥
    apart z e h = omega (arith, e, h.0)

-- the keys of later files
files_later : (c : ℕ) (fs : List ClassFile) (k : ℕ × Selector) → Among (map key_of (file_sources_from c fs)) k → c ≤ k.0
unfolding file_sources_from file_sources
files_later c [] k h = absurd h
files_later c (f ∷ fs) k h =
    let r = from_map key_of (file_sources_from c (f ∷ fs)) k h in
    elim (among_either _ (file_sources_from (c + 1) fs) r.0 r.1) [
      | inl q ↦ let m = from_map _ f.methods r.0 q in let e : c ≡ k.0 = ap (λ (y : Source). y.class) m.2 ∙ ap (λ (z : ℕ × Selector). z.0) r.2 in omega (arith, e)
      | inr q ↦ let m = files_later (c + 1) fs k (subst (Among (map key_of (file_sources_from (c + 1) fs))) r.2 (among_map key_of (file_sources_from (c + 1) fs) r.0 q)) in omega (arith, m)
    ]

-- the keys of the methods of files stand once
files_keys : (c : ℕ) (fs : List ClassFile) → ((f : ClassFile) → Among fs f → IsOnce (map member_selector f.methods)) → IsOnce (map key_of (file_sources_from c fs))
unfolding file_sources_from file_sources declared_of
files_keys c [] h = tt
files_keys c (f ∷ fs) h =
    subst IsOnce (sym (map_joined key_of (map of f.methods) (file_sources_from (c + 1) fs)))
    (once_joined _ (map key_of (file_sources_from (c + 1) fs))
    (keys_once c of member_selector (λ d. refl) f.methods (h f (inl refl)))
    (files_keys (c + 1) fs (λ x a. h x (inr a)))
    (λ z a b. apart z (front z a) (files_later (c + 1) fs z b)))
  where
    of : Member → Source
    of m = record { class = c; declared = record { flags = m.flags; selector = member_selector m }; code = m.code }

    front : (z : ℕ × Selector) → Among (map key_of (map of f.methods)) z → z.0 ≡ c
    front z a =
        let r = from_map key_of (map of f.methods) z a in
        let m = from_map of f.methods r.0 r.1 in
        ap (λ (y : ℕ × Selector). y.0) (sym r.2) ∙ ap (λ (y : Source). y.class) (sym m.2)

    apart : (z : ℕ × Selector) → z.0 ≡ c → c + 1 ≤ z.0 → ⊥
    apart z e h = omega (arith, e, h)

-- the keys of all methods stand once
pub all_keys : (files : List ClassFile) → ((f : ClassFile) → Among files f → IsOnce (map member_selector f.methods)) → IsOnce (map key_of (sources files))
unfolding sources
all_keys files h =
    subst IsOnce (sym (map_joined key_of (built_in_sources_from 0 built_in_table) (file_sources_from built_in_count files)))
    (once_joined (map key_of (built_in_sources_from 0 built_in_table)) (map key_of (file_sources_from built_in_count files))
    (built_in_keys 0 built_in_table (λ k a. each_among has_once built_in_table k built_in_methods a))
    (files_keys built_in_count files h)
    (λ z a b. let m = built_in_later 0 built_in_table z a in let n = files_later built_in_count files z b in omega (arith, m.1, n, built_in_length)))

-- ---- selectors by number

-- the number of a method's selector is that of the selector
pub selector_told : (files : List ClassFile) (y : Source) → Among (sources files) y →
    slice_get (selectors_of files) (unwrap_or (position (same_selector y.declared.selector) (selectors_of files)) 0) ≡ Some y.declared.selector
selector_told files y h =
    let r = position_there (same_selector y.declared.selector) (selectors_of files) y.declared.selector (selector_there files y h) (selector_itself y.declared.selector) in
    let k = position_at (same_selector y.declared.selector) (selectors_of files) r.0 r.1 in
    ap (λ o. slice_get (selectors_of files) (unwrap_or o 0)) r.1 ∙ k.1 ∙ ap Some (sym (same_selectors y.declared.selector k.0 k.2))
