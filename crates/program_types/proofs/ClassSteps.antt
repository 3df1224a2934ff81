-- Classes that are found step by step.
use Rattle.std.proofs.Common.{◌≡◌, ◌≢◌, refl, sym, ◌∙◌, ap, ℕ, zero, suc, ◌+◌, ◌-◌, ◌<◌, ◌≤◌, Bool, true, false, ◌||◌, List, [], ◌∷◌, ◌++◌, length, take, drop, get_or, Option, Some, None, arith, map, slice_get, ◌==◌, append-nil}
use Rattle.std.specs.List.{flat_map}
use Rattle.std.proofs.lemmas.List.{map_more}
use Rattle.std.proofs.lemmas.Grind.{flat_map-append}
use Rattle.jx_base.specs.declared.ids.ClassId.{ClassId}
use Rattle.jx_base.specs.declared.program.System.{System}
use Rattle.jx_base.specs.declared.program.Class.{Class}
use Rattle.jx_base.specs.Basics.{contains_number, passes}
use Rattle.std.specs.Option.{option_and_then}
use Rattle.std.specs.Str.{bytes_eq}
use Rattle.std.proofs.lemmas.Bool.Decides.{nat_tests}
use Rattle.program_model.specs.Lookup.{supers_within, class_at, parent_list, class_of_type, is_below, fits_type}

-- ---- supers

pub contains_append : (a b : List ℕ) (n : ℕ) → contains_number (a ++ b) n ≡ (contains_number a n || contains_number b n)
unfolding contains_number
contains_append [] b n = refl
contains_append (x ∷ a) b n = ap (λ (t : Bool). (x == n) || t) (contains_append a b n) ∙ assoc (x == n) (contains_number a n) (contains_number b n)
  where
    assoc : (p q r : Bool) → (p || (q || r)) ≡ ((p || q) || r)
    assoc true q r = refl
    assoc false q r = refl

-- whether the supers of one of these have it
abbrev pub one_reaches : System → ℕ → List ℕ → ℕ → Bool
one_reaches s k cs above = contains_number (flat_map (supers_within s k) cs) above

pub reaches_none : (s : System) (n c above : ℕ) → n ≡ 0 → contains_number (supers_within s n c) above ≡ false
unfolding contains_number supers_within
reaches_none s n c above e = ap (λ (k : ℕ). contains_number (supers_within s k c) above) e

pub reaches_nowhere : (s : System) (n c above : ℕ) → slice_get s.program.classes c ≡ None → contains_number (supers_within s n c) above ≡ false
unfolding contains_number supers_within class_at
reaches_nowhere s zero c above e = refl
reaches_nowhere s (suc k) c above e =
    ap (λ (o : Option Class). contains_number (elim o as (λ _. List ℕ) [
      | None ↦ []
      | Some x ↦ c ∷ flat_map (supers_within s k) (map (λ i. i.0) x.interfaces ++ parent_list x.parent)
    ]) above) e

pub reaches_by : (s : System) (n c above : ℕ) (x : Class) → 0 < n → slice_get s.program.classes c ≡ Some x →
    contains_number (supers_within s n c) above
    ≡ ((c == above) || (one_reaches s (n - 1) (map (λ i. i.0) x.interfaces) above || one_reaches s (n - 1) (parent_list x.parent) above))
unfolding contains_number supers_within class_at
reaches_by s zero c above x l e = absurd (omega (arith, l))
reaches_by s (suc k) c above x l e =
    let interfaces = map (λ (i : ClassId). i.0) x.interfaces in
    let n : suc k - 1 ≡ k = omega arith in
    ap (λ (o : Option Class). contains_number (elim o as (λ _. List ℕ) [
      | None ↦ []
      | Some x ↦ c ∷ flat_map (supers_within s k) (map (λ i. i.0) x.interfaces ++ parent_list x.parent)
    ]) above) e
    ∙ ap (λ (xs : List ℕ). (c == above) || contains_number xs above) (flat_map-append (supers_within s k) interfaces (parent_list x.parent))
    ∙ ap (λ (b : Bool). (c == above) || b) (contains_append (flat_map (supers_within s k) interfaces) (flat_map (supers_within s k) (parent_list x.parent)) above)
    ∙ ap (λ (m : ℕ). (c == above) || (one_reaches s m interfaces above || one_reaches s m (parent_list x.parent) above)) (sym n)

pub reaches_one : (s : System) (k c above : ℕ) → one_reaches s k (c ∷ []) above ≡ contains_number (supers_within s k c) above
reaches_one s k c above = ap (λ (xs : List ℕ). contains_number xs above) (append-nil (supers_within s k c))

pub reaches_more : (s : System) (k above : ℕ) (ids : List ClassId) (i : ℕ) (d : ClassId) → i < length ids →
    one_reaches s k (map (λ i. i.0) (take (i + 1) ids)) above
    ≡ (one_reaches s k (map (λ i. i.0) (take i ids)) above || contains_number (supers_within s k (get_or ids i d).0) above)
reaches_more s k above ids i d l =
    let front = map (λ (i : ClassId). i.0) (take i ids) in
    ap (λ (cs : List ℕ). one_reaches s k cs above) (map_more (λ (i : ClassId). i.0) ids i d l)
    ∙ ap (λ (xs : List ℕ). contains_number xs above) (flat_map-append (supers_within s k) front ((get_or ids i d).0 ∷ []))
    ∙ contains_append (flat_map (supers_within s k) front) (flat_map (supers_within s k) ((get_or ids i d).0 ∷ [])) above
    ∙ ap (λ (b : Bool). one_reaches s k front above || b) (reaches_one s k (get_or ids i d).0 above)

-- where one reaches, all do
pub reaches_all : (s : System) (k above : ℕ) (ids : List ClassId) (i : ℕ) (d : ClassId) → i < length ids →
    contains_number (supers_within s k (get_or ids i d).0) above ≡ true → one_reaches s k (map (λ i. i.0) ids) above ≡ true
reaches_all s k above [] i d l h = absurd (omega (arith, l))
reaches_all s k above (x ∷ ids) zero d l h =
    contains_append (supers_within s k x.0) (flat_map (supers_within s k) (map (λ (i : ClassId). i.0) ids)) above
    ∙ ap (λ (b : Bool). b || one_reaches s k (map (λ (i : ClassId). i.0) ids) above) h
reaches_all s k above (x ∷ ids) (suc i) d l h =
    contains_append (supers_within s k x.0) (flat_map (supers_within s k) (map (λ (i : ClassId). i.0) ids)) above
    ∙ ap (λ (b : Bool). contains_number (supers_within s k x.0) above || b) (reaches_all s k above ids i d (omega (arith, l)) h)
    ∙ or_true (contains_number (supers_within s k x.0) above)
  where
    or_true : (b : Bool) → (b || true) ≡ true
    or_true true = refl
    or_true false = refl

-- ---- what reaches

or_true : (b : Bool) → (b || true) ≡ true
or_true true = refl
or_true false = refl

pub reaches_itself : (s : System) (n c above : ℕ) (x : Class) → 0 < n → slice_get s.program.classes c ≡ Some x → c ≡ above → contains_number (supers_within s n c) above ≡ true
reaches_itself s n c above x l e h =
    let t : (c == above) ≡ true = grind (arith, nat_tests) in
    reaches_by s n c above x l e
    ∙ ap (λ (b : Bool). b || (one_reaches s (n - 1) (map (λ (i : ClassId). i.0) x.interfaces) above || one_reaches s (n - 1) (parent_list x.parent) above)) t

pub reaches_interface : (s : System) (n c above : ℕ) (x : Class) → 0 < n → slice_get s.program.classes c ≡ Some x →
    one_reaches s (n - 1) (map (λ i. i.0) x.interfaces) above ≡ true → contains_number (supers_within s n c) above ≡ true
reaches_interface s n c above x l e h =
    reaches_by s n c above x l e
    ∙ ap (λ (b : Bool). (c == above) || (b || one_reaches s (n - 1) (parent_list x.parent) above)) h
    ∙ or_true (c == above)

pub reaches_parent : (s : System) (n c above : ℕ) (x : Class) → 0 < n → slice_get s.program.classes c ≡ Some x → c ≢ above →
    one_reaches s (n - 1) (map (λ i. i.0) x.interfaces) above ≡ false → contains_number (supers_within s n c) above ≡ one_reaches s (n - 1) (parent_list x.parent) above
reaches_parent s n c above x l e h i =
    let t : (c == above) ≡ false = grind (arith, nat_tests) in
    let parents = one_reaches s (n - 1) (parent_list x.parent) above in
    reaches_by s n c above x l e
    ∙ ap (λ (b : Bool). b || (one_reaches s (n - 1) (map (λ (i : ClassId). i.0) x.interfaces) above || parents)) t
    ∙ ap (λ (b : Bool). b || parents) i

pub parent_reaches : (s : System) (k above : ℕ) (parent : Option ClassId) (p : ClassId) → parent ≡ Some p →
    one_reaches s k (parent_list parent) above ≡ contains_number (supers_within s k p.0) above
unfolding parent_list
parent_reaches s k above parent p e = ap (λ (o : Option ClassId). one_reaches s k (parent_list o) above) e ∙ reaches_one s k p.0 above

pub no_parent_reaches : (s : System) (k above : ℕ) (parent : Option ClassId) → parent ≡ None → one_reaches s k (parent_list parent) above ≡ false
unfolding parent_list contains_number
no_parent_reaches s k above parent e = ap (λ (o : Option ClassId). one_reaches s k (parent_list o) above) e

-- ---- types

-- whether an array of this component fits an array of that one
abbrev pub component_fits : System → Option (List ℕ) → List ℕ → Bool
component_fits s None rest = false
component_fits s (Some from) rest = bytes_eq from rest || passes (λ c. fits_type s c rest) (class_of_type s from)

pub fits_empty : (s : System) (a : ℕ) (kind : List ℕ) → length kind < 1 → fits_type s a kind ≡ false
unfolding fits_type
fits_empty s a [] l = refl
fits_empty s a (u ∷ kind) l = absurd (omega (arith, l))

pub fits_class : (s : System) (a : ℕ) (kind : List ℕ) → 1 ≤ length kind → get_or kind 0 0 ≢ 91 → fits_type s a kind ≡ passes (is_below s a) (class_of_type s kind)
unfolding fits_type
fits_class s a [] l h = absurd (omega (arith, l))
fits_class s a (u ∷ kind) l h =
    let t : (u == 91) ≡ false = grind (arith, nat_tests) in
    ap (λ (b : Bool). elim b as (λ _. Bool) [
      | true ↦ elim (option_and_then (λ x. x.component) (class_at s a)) as (λ _. Bool) [
        | None ↦ false
        | Some from ↦ bytes_eq from kind || passes (λ c. fits_type s c kind) (class_of_type s from)
      ]
      | false ↦ passes (is_below s a) (class_of_type s (u ∷ kind))
    ]) t

pub fits_array : (s : System) (a : ℕ) (kind : List ℕ) → 1 ≤ length kind → get_or kind 0 0 ≡ 91 →
    fits_type s a kind ≡ component_fits s (option_and_then (λ x. x.component) (class_at s a)) (drop 1 kind)
unfolding fits_type
fits_array s a [] l h = absurd (omega (arith, l))
fits_array s a (u ∷ kind) l h =
    let t : (u == 91) ≡ true = grind (arith, nat_tests) in
    ap (λ (b : Bool). elim b as (λ _. Bool) [
      | true ↦ elim (option_and_then (λ x. x.component) (class_at s a)) as (λ _. Bool) [
        | None ↦ false
        | Some from ↦ bytes_eq from kind || passes (λ c. fits_type s c kind) (class_of_type s from)
      ]
      | false ↦ passes (is_below s a) (class_of_type s (u ∷ kind))
    ]) t
    ∙ by (option_and_then (λ (x : Class). x.component) (class_at s a))
  where
    by : (o : Option (List ℕ)) →
        (elim o as (λ _. Bool) [ None ↦ false | Some from ↦ bytes_eq from kind || passes (λ c. fits_type s c kind) (class_of_type s from) ]) ≡ component_fits s o kind
    by None = refl
    by (Some from) = refl

pub component_of : (s : System) (a : ℕ) (x : Class) → slice_get s.program.classes a ≡ Some x → option_and_then (λ x. x.component) (class_at s a) ≡ x.component
unfolding class_at
component_of s a x e = ap (λ (o : Option Class). option_and_then (λ x. x.component) o) e

pub no_component_of : (s : System) (a : ℕ) → slice_get s.program.classes a ≡ None → option_and_then (λ x. x.component) (class_at s a) ≡ None
unfolding class_at
no_component_of s a e = ap (λ (o : Option Class). option_and_then (λ x. x.component) o) e

pub passes_some : (p : ℕ → Bool) (o : Option ℕ) (x : ℕ) → o ≡ Some x → passes p o ≡ p x
unfolding passes
passes_some p o x e = ap (passes p) e

pub passes_none : (p : ℕ → Bool) (o : Option ℕ) → o ≡ None → passes p o ≡ false
unfolding passes
passes_none p o e = ap (passes p) e
