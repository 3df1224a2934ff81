-- What is found first: in a list from some place on, and by the look-ups of a system.
use Rattle.std.proofs.Common.{◌≡◌, ◌∙◌, refl, sym, ap, ℕ, zero, suc, ◌+◌, ◌<◌, ◌≤◌, Bool, true, false, cond, not, List, [], ◌∷◌, map, length, drop, get_or, slice_get, position, nat_lt, Option, Some, None, IfSome, arith}
use Rattle.std.specs.List.{position_or_len}
use Rattle.std.specs.Option.{option_and_then, option_map, option_or}
use Rattle.std.specs.Str.{bytes_eq}
use Rattle.std.specs.Cmp.Lexicographic.{nat_list_eq_equiv}
use Rattle.std.proofs.lemmas.Bool.{ltb-true}
use Rattle.std.proofs.lemmas.List.{length-map}
use Rattle.jx_base.specs.Basics.{first_some}
use Rattle.jx_base.specs.declared.program.Class.{Class}
use Rattle.jx_base.specs.declared.program.Resolved.{Resolved}
use Rattle.jx_base.specs.declared.program.Resolved.TheVariants as resolved
use Rattle.jx_base.specs.declared.program.Selector.{Selector}
use Rattle.jx_base.specs.declared.program.System.{System}
use Rattle.jx_base.proofs.BasicLaws.{ap2}
use Rattle.link_model.specs.Linking.{found_field, found_method, is_field, own_field, own_instance_field, own_method, own_static_field, statics_before}
use Rattle.program_model.specs.Lookup.{chain_of, class_at, class_named, supers_of}
use Rattle.linker_search.specs.OwnFields.{before, instance_place, of_class, static_place}
use Rattle.linker_search.specs.Walked.{distinct_supers}
use Rattle.linker_search.proofs.Added.{first_append, first_of_all}

-- ---- from a place on

module _ {B : Type 0} (f : ℕ → Option B) where
  -- the first item that gives something
  pub found_at : (xs : List ℕ) (i d : ℕ) (y : B) → i < length xs → f (get_or xs i d) ≡ Some y → first_some f (drop i xs) ≡ Some y
  unfolding first_some
  found_at [] i d y le e = absurd (omega (arith, le))
  found_at (x ∷ xs) zero d y le e = by (f x) e
    where
      by : (o : Option B) → o ≡ Some y → elim o [ Some z ↦ Some z | None ↦ first_some f xs ] ≡ Some y
      by (Some z) e = e
      by None e = cc
  found_at (x ∷ xs) (suc i) d y le e = found_at xs i d y (omega (arith, le)) e

  -- behind an item that gives nothing
  past : (xs : List ℕ) (i d : ℕ) → i < length xs → f (get_or xs i d) ≡ None → first_some f (drop i xs) ≡ first_some f (drop (suc i) xs)
  unfolding first_some
  past [] i d le e = absurd (omega (arith, le))
  past (x ∷ xs) zero d le e = by (f x) e
    where
      by : (o : Option B) → o ≡ None → elim o [ Some z ↦ Some z | None ↦ first_some f xs ] ≡ first_some f xs
      by (Some z) e = cc
      by None e = refl
  past (x ∷ xs) (suc i) d le e = past xs i d (omega (arith, le)) e

  -- the same, by counting on
  pub found_later : (xs : List ℕ) (i d : ℕ) → i < length xs → f (get_or xs i d) ≡ None → first_some f (drop i xs) ≡ first_some f (drop (i + 1) xs)
  found_later xs i d le e = past xs i d le e ∙ ap (λ n. first_some f (drop n xs)) (next i)
    where
      next : (i : ℕ) → suc i ≡ i + 1
      next i = omega arith

  -- behind all of them
  pub found_nowhere : (xs : List ℕ) (i : ℕ) → length xs ≤ i → first_some f (drop i xs) ≡ None
  unfolding first_some
  found_nowhere [] zero le = refl
  found_nowhere [] (suc i) le = refl
  found_nowhere (x ∷ xs) zero le = absurd (omega (arith, le))
  found_nowhere (x ∷ xs) (suc i) le = found_nowhere xs i (omega (arith, le))

  -- what all give that give something is what is found
  pub all_found : (P : B → Type 0) → ((x : ℕ) (y : B) → f x ≡ Some y → P y) → (xs : List ℕ) (y : B) → first_some f xs ≡ Some y → P y
  unfolding first_some
  all_found P all [] y e = cc
  all_found P all (x ∷ xs) y e = by (f x) refl (all_found P all xs y) e
    where
      by : (o : Option B) → f x ≡ o → (first_some f xs ≡ Some y → P y) → elim o [ Some z ↦ Some z | None ↦ first_some f xs ] ≡ Some y → P y
      by (Some z) q again e = all x y (q ∙ e)
      by None q again e = again e

-- ---- names

module _ (name : List ℕ) where
  -- the first class of the name
  first_named : (ks : List Class) → position_or_len (bytes_eq name) (map (λ k. k.name) ks) ≡ position_or_len (λ k. bytes_eq k.name name) ks
  first_named [] = refl
  first_named (k ∷ ks) = ap2 (λ a n. cond (not a) (1 + n) 0) (nat_list_eq_equiv.symm name k.name) (first_named ks)

  -- the number of the class of the name
  pub place_of_name : (s : System) → position (bytes_eq name) (map (λ k. k.name) s.program.classes) ≡ class_named s name
  unfolding class_named
  place_of_name s =
      ap2 (λ k n. cond (nat_lt k n) (Some k) None) (first_named s.program.classes) (length-map s.program.classes (λ k. k.name))

-- ---- members

-- the field that has a place in the layout, or else among all static fields
abbrev pub field_at : ℕ → Option ℕ → Option ℕ → Option Resolved
field_at c (Some i) o = Some (resolved.Instance (record { 0 = c }) i)
field_at c None o = option_map (λ i. resolved.Static (record { 0 = c }) i) o

-- the field that the class itself declares
pub own_field_at : (s : System) (x : Selector) (c : ℕ)
    → own_field s x c ≡ field_at c (of_class (instance_place x) s.program.classes c) (of_class (static_place s.program.classes x) s.program.classes c)
unfolding own_field own_instance_field own_static_field statics_before class_at
own_field_at s x c = by (slice_get s.program.classes c)
  where
    first : ℕ
    first = before s.program.classes c

    one : (i j : Option ℕ)
        → elim (option_map (λ n. resolved.Instance (record { 0 = c }) n) i) [ Some r ↦ Some r | None ↦ option_map (λ n. resolved.Static (record { 0 = c }) (first + n)) j ]
        ≡ field_at c i (option_map (λ n. first + n) j)
    one (Some i) j = refl
    one None (Some j) = refl
    one None None = refl

    by : (o : Option Class)
        → option_and_then (λ k. elim (own_instance_field x c k) [ Some r ↦ Some r | None ↦ own_static_field s x c k ]) o
        ≡ field_at c (option_and_then (instance_place x c) o) (option_and_then (static_place s.program.classes x c) o)
    by None = refl
    by (Some k) = one (instance_place x c k) (position (is_field x) k.statics)

-- a place is in the list
within_list : {A : Type 0} (p : A → Bool) (xs : List A) (i : ℕ) → position p xs ≡ Some i → i < length xs
within_list p xs i e = by (nat_lt (position_or_len p xs) (length xs)) refl e
  where
    by : (b : Bool) → nat_lt (position_or_len p xs) (length xs) ≡ b → cond b (Some (position_or_len p xs)) None ≡ Some i → i < length xs
    by true q e = let same : position_or_len p xs ≡ i = grind (arith, e) in omega (arith, same, ltb-true (position_or_len p xs) (length xs) q)
    by false q e = cc

-- the methods that are found are in the list of all
pub methods_within : (s : System) (x : Selector) (cs : List ℕ) (m : ℕ) → first_some (own_method s x) cs ≡ Some m → m < length s.program.methods
unfolding own_method
methods_within s x cs m e = all_found (own_method s x) (λ n. n < length s.program.methods) (λ c n h. within_list _ s.program.methods n h) cs m e

-- ---- the search in all supers

-- repeats don't change what is found
pub found_in_supers : {B : Type 0} (f : ℕ → Option B) (s : System) (c : ℕ) → first_some f (distinct_supers s c) ≡ first_some f (supers_of s c)
found_in_supers f s c = first_of_all f [] (supers_of s c)

-- the field that is found
pub field_in_supers : (s : System) (x : Selector) (c : ℕ) → first_some (own_field s x) (distinct_supers s c) ≡ found_field s x c
unfolding found_field
field_in_supers s x c = found_in_supers (own_field s x) s c

-- the method that is found
pub method_in_both : (s : System) (x : Selector) (c : ℕ) → option_or (first_some (own_method s x) (chain_of s c)) (first_some (own_method s x) (supers_of s c)) ≡ found_method s x c
unfolding found_method
method_in_both s x c = sym (first_append (own_method s x) (chain_of s c) (supers_of s c))

-- what is so for all that may be found is so for what is found
pub if_found : {A : Type 0} (P : A → Type 0) (o : Option A) → ((x : A) → o ≡ Some x → P x) → IfSome o P
if_found P None all = tt
if_found P (Some x) all = all x refl
