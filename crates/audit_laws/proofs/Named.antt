-- Where the name of a class, of a template or of a method ends.
use Rattle.std.proofs.Common.{◌≡◌, ℕ, zero, suc, List, [], ◌∷◌, ◌++◌, Option, Some, None, IsSome, refl, subst, slice_get}
use Rattle.std.specs.List.{AllByRecursion}
use Rattle.jx_base.specs.Texts.{quoted}
use Rattle.jx_base.specs.declared.program.System.{System}
use Rattle.jx_base.specs.declared.program.Class.{Class}
use Rattle.jx_base.specs.declared.program.Selector.{Selector}
use Rattle.jx_base.specs.declared.program.Template.{Template}
use Rattle.program_model.specs.Lookup.{class_at, selector_at, template_at}
use Rattle.audit_model.specs.Audit.{Bytes, class_text, template_text, method_text}
use Rattle.program_model.specs.DistinctNames.{AreUnits, HasDistinctNames}
use Rattle.audit_laws.proofs.Cuts.{parts_of_cons}
use Rattle.audit_laws.proofs.Quotes.{quoted_takes}
use Rattle.audit_laws.proofs.Numbers.{Ends}
use Rattle.audit_laws.proofs.Lines.{words_before}

-- equal values that are there
some_same : {A : Type 0} (x y : A) → Some x ≡ Some y → x ≡ y
some_same x y e = cc

-- what is true of all items is true of the one there
at_place : {A : Type 0} (P : A → Type 0) (xs : List A) (i : ℕ) (x : A) → AllByRecursion P xs → slice_get xs i ≡ Some x → P x
at_place P [] i x h e = cc
at_place P (y ∷ xs) zero x h e = subst P (some_same y x e) h.0
at_place P (y ∷ xs) (suc i) x h e = at_place P xs i x h.1 e

-- ---- one name

-- the quoted name of an item, where it is there
abbrev name_of : {A : Type 0} → (A → List ℕ) → Option A → Bytes
name_of name o = elim o [ None ↦ quoted [] | Some x ↦ quoted (name x) ]

-- no two items have the same name
abbrev AreApart : {A : Type 0} → (A → List ℕ) → List A → Type 0
AreApart {A} name xs = (i j : ℕ) (x y : A) → slice_get xs i ≡ Some x → slice_get xs j ≡ Some y → name x ≡ name y → i ≡ j

-- quoted names of items before rests tell the items' places
named_takes : {A : Type 0} (name : A → List ℕ) (xs : List A) → AllByRecursion (λ x. AreUnits (name x)) xs → AreApart name xs → (i j : ℕ) (r q : Bytes) →
    IsSome (slice_get xs i) → IsSome (slice_get xs j) → name_of name (slice_get xs i) ++ r ≡ name_of name (slice_get xs j) ++ q → (i ≡ j) × (r ≡ q)
named_takes {A} name xs units apart i j r q h k e = by (slice_get xs i) (slice_get xs j) refl refl h k e
  where
    by : (a b : Option A) → slice_get xs i ≡ a → slice_get xs j ≡ b → IsSome a → IsSome b → name_of name a ++ r ≡ name_of name b ++ q → (i ≡ j) × (r ≡ q)
    by None b f g h k e = cc
    by (Some x) None f g h k e = cc
    by (Some x) (Some y) f g h k e =
        let m = quoted_takes (name x) (name y) r q (at_place (λ z. AreUnits (name z)) xs i x units f) (at_place (λ z. AreUnits (name z)) xs j y units g) e in
        (apart i j x y f g m.0, m.1)

-- names of classes before rests are taken off
pub class_takes : (s : System) → HasDistinctNames s → (c d : ℕ) (r q : Bytes) → IsSome (class_at s c) → IsSome (class_at s d) →
    class_text s c ++ r ≡ class_text s d ++ q → (c ≡ d) × (r ≡ q)
unfolding class_text class_at
class_takes s names c d r q h k e = named_takes (λ (x : Class). x.name) s.program.classes names.class_units names.classes c d r q h k e

-- names of templates before rests are taken off
pub template_takes : (s : System) → HasDistinctNames s → (c d : ℕ) (r q : Bytes) → IsSome (template_at s c) → IsSome (template_at s d) →
    template_text s c ++ r ≡ template_text s d ++ q → (c ≡ d) × (r ≡ q)
unfolding template_text template_at
template_takes s names c d r q h k e = named_takes (λ (x : Template). x.name) s.plan.templates names.template_units names.templates c d r q h k e

-- the name of a class begins with a quote
pub class_begins : (s : System) (c : ℕ) (u : ℕ) (r q : Bytes) → (34 ≡ u → ⊥) → class_text s c ++ r ≡ u ∷ q → ⊥
unfolding class_text quoted
class_begins s c u r q h e = by (class_at s c) e
  where
    by : (a : Option Class) → name_of (λ x. x.name) a ++ r ≡ u ∷ q → ⊥
    by None e = h (parts_of_cons e).0
    by (Some x) e = h (parts_of_cons e).0

-- ---- a name and a descriptor

-- the quoted name and descriptor of a selector, where it is there
abbrev words_of_selector : Option Selector → List Bytes
words_of_selector o = elim o [ None ↦ quoted [] ∷ quoted [] ∷ [] | Some y ↦ quoted y.name ∷ quoted y.descriptor ∷ [] ]

-- a selector's texts are of units
abbrev HasUnits : Selector → Type 0
HasUnits y = AreUnits y.name × AreUnits y.descriptor

-- names of methods, each with its descriptor, before rests are taken off
pub method_takes : (s : System) → HasDistinctNames s → (c d : ℕ) (r q : Bytes) → IsSome (selector_at s c) → IsSome (selector_at s d) →
    words_before (method_text s c) r ≡ words_before (method_text s d) q → (c ≡ d) × (r ≡ q)
unfolding method_text selector_at
method_takes s names c d r q h k e = by (selector_at s c) (selector_at s d) refl refl h k e
  where
    by : (a b : Option Selector) → selector_at s c ≡ a → selector_at s d ≡ b → IsSome a → IsSome b →
        words_before (words_of_selector a) r ≡ words_before (words_of_selector b) q → (c ≡ d) × (r ≡ q)
    by None b f g h k e = cc
    by (Some x) None f g h k e = cc
    by (Some x) (Some y) f g h k e =
        let u = at_place HasUnits s.program.selectors c x names.selector_units f in
        let v = at_place HasUnits s.program.selectors d y names.selector_units g in
        let m = quoted_takes x.name y.name _ _ u.0 v.0 (parts_of_cons e).1 in
        let n = quoted_takes x.descriptor y.descriptor _ _ u.1 v.1 (parts_of_cons m.1).1 in
        (names.selectors c d x y f g (λ t. record { name = m.0 t; descriptor = n.0 t }), n.1)

-- the name of a method stands behind a blank
pub method_ends : (s : System) (m : ℕ) (r : Bytes) → Ends (words_before (method_text s m) r)
unfolding method_text
method_ends s m r = by (selector_at s m)
  where
    by : (o : Option Selector) → Ends (words_before (words_of_selector o) r)
    by None = refl
    by (Some y) = refl
