-- The methods that the start of a domain runs.
use Rattle.std.proofs.Common.{◌≡◌, ℕ, zero, suc, ◌+◌, ◌≤◌, inl, inr, Bool, true, false, not, cond, ◌&&◌, List, [], ◌∷◌, ◌++◌, length, map, codes, Option, Some, None, is_some, slice_get, refl, sym, ap, ◌∙◌, subst, arith}
use Rattle.std.specs.Prelude.{◌==◌, IsSome, All, filter}
use Rattle.std.specs.List.{range_with_len}
use Rattle.std.specs.Str.{bytes_eq}
use Rattle.std.proofs.lemmas.List.Elements.{All-from_recursion}
use Rattle.class_grammar.specs.Flags.{is_static}
use Rattle.jx_base.specs.declared.class_file.ClassFile.{ClassFile}
use Rattle.jx_base.specs.declared.class_file.Member.{Member}
use Rattle.jx_base.specs.declared.program.Method.{Method}
use Rattle.jx_base.specs.declared.program.Plan.{Plan}
use Rattle.jx_base.specs.declared.program.Selector.{Selector}
use Rattle.jx_base.specs.declared.program.System.{System}
use Rattle.jx_base.specs.declared.program.Template.{Template}
use Rattle.program_model.specs.BuiltIn.{built_in_count}
use Rattle.link_model.specs.ClassFiles.{member_selector}
use Rattle.link_model.specs.declared.fault.LinkKind.TheVariants.{NoMain}
use Rattle.link_model.specs.LinkFaults.{Listing, is_main, main_fault, listing_at, listed_name}
use Rattle.link_model.specs.Linking.{Source, sources, declared_of, file_sources, file_sources_from, linked_method, linked_system, outline}
use Rattle.program_model.specs.Lookup.{method_at, selector_at, selector_of_method}
use Rattle.machine_model.specs.Start.{method_places, is_static_method_of, static_methods, started_classes, initializers, is_main_selector, mains}
use Rattle.machine_model.specs.State.{code_of}
use Rattle.jx_base.specs.Basics.{passes}
use Rattle.machine_model.specs.MachineThreads.{is_initializer_selector}
use Rattle.jx_base.proofs.BasicLaws.{both, passed, eq_of, same_number}
use Rattle.link_model.specs.LinkFaults.{IsLinked}
use Rattle.link_laws.specs.Methods.{StartsHold}
use Rattle.link_laws.proofs.Fitting.{contained}
use Rattle.link_laws.proofs.Hierarchy.{place_small, main_listed}
use Rattle.std.specs.List.{list_any}
use Rattle.link_laws.proofs.Lists.{Among, IsOnce, among_at, at_among, at_below, among_either, among_front, among_behind, among_map, any_among, below_length, from_flat, in_range, of_all, same_text, same_there}
use Rattle.link_laws.proofs.Sources.{selectors_of}
use Rattle.link_laws.proofs.Templates.{listed_main, test_fails, unturned}
use Rattle.link_laws.proofs.Uses.{and_then_some}
use Rattle.link_laws.proofs.Whole.{source_at, method_there, selector_of_source, one_source}
use Rattle.std.specs.Option.{option_and_then, option_map}

-- ---- filters and ranges

-- what a filter keeps passes, and was there
pub kept : {A : Type 0} (p : A → Bool) (xs : List A) (x : A) → Among (filter p xs) x → (p x ≡ true) × Among xs x
kept p [] x h = absurd h
kept {A} p (y ∷ xs) x h = by (p y) refl h (kept p xs x)
  where
    by : (b : Bool) → p y ≡ b → Among (cond b (y ∷ filter p xs) (filter p xs)) x → (Among (filter p xs) x → (p x ≡ true) × Among xs x) → (p x ≡ true) × Among (y ∷ xs) x
    by true e (inl q) again = (ap p (sym q) ∙ e, inl q)
    by true e (inr q) again = let r = again q in (r.0, inr r.1)
    by false e q again = let r = again q in (r.0, inr r.1)

-- a filter that none passes keeps nothing
none_kept : {A : Type 0} (p : A → Bool) (xs : List A) → ((x : A) → Among xs x → p x ≡ true → ⊥) → filter p xs ≡ []
none_kept p [] h = refl
none_kept {A} p (y ∷ xs) h = by (p y) refl (none_kept p xs (λ x a. h x (inr a)))
  where
    by : (b : Bool) → p y ≡ b → filter p xs ≡ [] → cond b (y ∷ filter p xs) (filter p xs) ≡ []
    by true e q = absurd (h y (inl refl) e)
    by false e q = q

-- a filter of a list without repeats that one item alone passes keeps that one
one_kept : {A : Type 0} (p : A → Bool) (xs : List A) (x : A) → IsOnce xs → Among xs x → p x ≡ true → ((y : A) → p y ≡ true → y ≡ x) → filter p xs ≡ x ∷ []
one_kept p [] x once h e alone = absurd h
one_kept {A} p (z ∷ xs) x once h e alone = by (p z) refl h (one_kept p xs x once.1)
  where
    by : (b : Bool) → p z ≡ b → Among (z ∷ xs) x → (Among xs x → p x ≡ true → ((y : A) → p y ≡ true → y ≡ x) → filter p xs ≡ x ∷ []) → cond b (z ∷ filter p xs) (filter p xs) ≡ x ∷ []
    by true q a again =
        let same = alone z q in
        let none = none_kept p xs (λ y b w. once.0 (subst (Among xs) (alone y w ∙ sym same) b)) in
        (λ t. same t ∷ none t)
    by false q (inl a) again = absurd (clash (ap p a ∙ e) q)
      where
        clash : p z ≡ true → p z ≡ false → ⊥
        clash u v = cc
    by false q (inr a) again = again a e alone

-- a range has no number twice
range_from : (a n x : ℕ) → Among (range_with_len a n) x → a ≤ x
range_from a zero x h = absurd h
range_from a (suc n) x (inl q) = omega (arith, q)
range_from a (suc n) x (inr q) = let r = range_from (a + 1) n x q in omega (arith, r)

-- so no number comes twice
range_once : (a n : ℕ) → IsOnce (range_with_len a n)
range_once a zero = tt
range_once a (suc n) = ((λ h. let r = range_from (a + 1) n a h in omega (arith, r)), range_once (a + 1) n)

-- ---- sources of files

-- the source of a file's method
abbrev source_of : ℕ → Member → Source
source_of c m = record { class = c; declared = declared_of m; code = m.code }

-- it is among those of the files
file_source : (c : ℕ) (fs : List ClassFile) (p : ℕ) (f : ClassFile) (m : Member) → slice_get fs p ≡ Some f → Among f.methods m → Among (file_sources_from c fs) (source_of (c + p) m)
unfolding file_sources_from file_sources
file_source c [] p f m e h = absurd cc
file_source c (g ∷ fs) zero f m e h =
    among_front _ (file_sources_from (c + 1) fs) (source_of (c + 0) m)
    (subst (λ n. Among (map (source_of c) g.methods) (source_of n m)) (plus c) (among_map (source_of c) g.methods m (subst (λ (x : ClassFile). Among x.methods m) (sym (same_there g f e)) h)))
  where
    plus : (c : ℕ) → c ≡ c + 0
    plus c = omega arith
file_source c (g ∷ fs) (suc p) f m e h =
    among_behind _ (file_sources_from (c + 1) fs) (source_of (c + suc p) m)
    (subst (λ n. Among (file_sources_from (c + 1) fs) (source_of n m)) (shift c p) (file_source (c + 1) fs p f m e h))
  where
    shift : (c p : ℕ) → c + 1 + p ≡ c + suc p
    shift c p = omega arith

-- it is among all sources
pub source_there : (files : List ClassFile) (p : ℕ) (f : ClassFile) (m : Member) → slice_get files p ≡ Some f → Among f.methods m → Among (sources files) (source_of (built_in_count + p) m)
unfolding sources
source_there files p f m e h = among_behind _ (file_sources_from built_in_count files) _ (file_source built_in_count files p f m e h)

-- ---- starts

-- a selector that is main's
main_told : (y : Selector) → is_main_selector y ≡ true → y ≡ record { name = codes "main"; descriptor = codes "([Ljava/lang/String;)V" }
unfolding is_main_selector
main_told y h =
    let k = both (bytes_eq y.name (codes "main")) (bytes_eq y.descriptor (codes "([Ljava/lang/String;)V")) h in
    let n = same_text y.name (codes "main") k.0 in
    let d = same_text y.descriptor (codes "([Ljava/lang/String;)V") k.1 in
    (λ t. record { name = n t; descriptor = d t })

-- what makes a method main
record IsMain (m : Member) : Type 0 where
  pub selector : is_main_selector (member_selector m) ≡ true
  pub static : is_static m.flags ≡ true
  pub code : is_some m.code ≡ true

-- a member that passes is main
main_is : (m : Member) → is_main m ≡ true → IsMain m
unfolding is_main is_main_selector member_selector
main_is m h =
    let a = both (bytes_eq m.name (codes "main") && bytes_eq m.descriptor (codes "([Ljava/lang/String;)V") && is_static m.flags) (is_some m.code) h in
    let b = both (bytes_eq m.name (codes "main") && bytes_eq m.descriptor (codes "([Ljava/lang/String;)V")) (is_static m.flags) a.0 in
    record { selector = b.0; static = b.1; code = a.1 }

-- a test that passes for a value that is there
passing : {A : Type 0} (p : A → Bool) (o : Option A) (x : A) → o ≡ Some x → p x ≡ true → passes p o ≡ true
unfolding passes
passing p None x e h = absurd cc
passing p (Some y) x e h = ap p (same_there y x e) ∙ h

-- two tests that pass
and_both : (a b : Bool) → a ≡ true → b ≡ true → (a && b) ≡ true
and_both true b x y = y
and_both false b x y = absurd cc

-- three tests that pass
all_three : (a b c : Bool) → a ≡ true → b ≡ true → c ≡ true → (a && b && c) ≡ true
all_three true true c x y z = z
all_three true false c x y z = absurd cc
all_three false b c x y z = absurd cc

module _ (plan : Plan) (files : List ClassFile) (s : System) (from : IsLinked plan files s) where
  -- a static method that a start runs has code
  static_code : (test : Selector → Bool) (c m : ℕ) → Among (static_methods s test c) m → IsSome (code_of s m)
  unfolding static_methods is_static_method_of code_of
  static_code test c m h =
      let k = kept _ (method_places s) m h in
      let x = passed (is_static_method_of c) (method_at s m) (both (passes (is_static_method_of c) (method_at s m)) (passes test (selector_of_method s m)) k.0).0 in
      ap (λ o. is_some (option_and_then (λ (x : Method). x.code) o)) x.1 ∙ (both ((x.0.class.0 == c) && is_static x.0.flags) (is_some x.0.code) x.2).1

  -- all that a start runs has code
  start_code : (t : Template) → All (λ m. IsSome (code_of s m)) (initializers s t ++ mains s t)
  unfolding initializers mains
  start_code t = All-from_recursion (λ m. IsSome (code_of s m)) (initializers s t ++ mains s t) (of_all (λ m. IsSome (code_of s m)) (initializers s t ++ mains s t) (λ m h.
      elim (among_either (initializers s t) (mains s t) m h) [
        | inl q ↦ let r = from_flat (static_methods s is_initializer_selector) (started_classes s t.classes) m q in static_code is_initializer_selector r.0 m r.2
        | inr q ↦ static_code is_main_selector (built_in_count + t.main) m q
      ]))

  -- a template's main method
  main_there : (t : Template) → Among plan.templates t → (f : ClassFile) × (m : Member) × (slice_get files t.main ≡ Some f) × Among f.methods m × IsMain m
  unfolding main_fault listing_at listed_name
  main_there t h =
      let small = place_small plan files s from t t.main h (main_listed plan files s from t h) in
      let name = at_below plan.classes t.main small in
      let f = at_below files t.main (omega (arith, small, from.has_files.count)) in
      let m = any_among is_main f.0.methods (by (slice_get plan.classes t.main) (slice_get files t.main) name.0 f.0 name.1 f.1 (listed_main plan files s from t h)) in
      (f.0, m.0, f.1, m.1, main_is m.0 m.2)
    where
      by : (a : Option (List ℕ)) (b : Option ClassFile) (n : List ℕ) (f : ClassFile) → a ≡ Some n → b ≡ Some f
          → option_and_then (λ (x : Listing). main_fault x.name x.file) (option_and_then (λ name. option_map (λ (f : ClassFile). record { place = t.main; name = name; file = f }) b) a) ≡ None → list_any is_main f.methods ≡ true
      by None b n f e g w = absurd cc
      by (Some a) None n f e g w = absurd cc
      by (Some a) (Some b) n f e g w =
          let none = unturned (list_any is_main b.methods) (test_fails (not (list_any is_main b.methods)) a NoMain (codes "main") w) in
          subst (λ (x : ClassFile). list_any is_main x.methods ≡ true) (same_there b f g) none

  -- the main method stands alone
  main_alone : (t : Template) → Among plan.templates t → (m : ℕ) × (mains s t ≡ m ∷ [])
  unfolding mains static_methods method_places selector_of_method is_static_method_of method_at linked_method declared_of
  main_alone t h =
      let a = main_there t h in
      let place = among_at (sources files) (source_of (built_in_count + t.main) a.1) (source_there files t.main a.0 a.1 a.2 a.3) in
      let y = source_of (built_in_count + t.main) a.1 in
      let here = method_there plan files s from place.0 y place.1 in (
        place.0,
        one_kept _ (range_with_len 0 (length s.program.methods)) place.0 (range_once 0 (length s.program.methods)) (there place.0 here) (passes_it a.1 place.0 a.4 place.1 here)
            (λ n e. only a.1 place.0 a.4 place.1 n e),
      )
    where
      there : {x : Method} (m : ℕ) → method_at s m ≡ Some x → Among (range_with_len 0 (length s.program.methods)) m
      there {x} m e = in_range 0 (length s.program.methods) m (omega arith) (omega (arith, below_length s.program.methods m x e))

      passes_it : (a : Member) (m : ℕ) → IsMain a → slice_get (sources files) m ≡ Some (source_of (built_in_count + t.main) a) → method_at s m ≡ Some (linked_method (selectors_of files) (source_of (built_in_count + t.main) a))
          → (passes (is_static_method_of (built_in_count + t.main)) (method_at s m) && passes is_main_selector (option_and_then (λ x. selector_at s x.selector.0) (method_at s m))) ≡ true
      passes_it a m is e there =
          let x : Method = linked_method (selectors_of files) (source_of (built_in_count + t.main) a) in
          let y : Source = source_of (built_in_count + t.main) a in
          let selector = selector_of_source plan files s from y (at_among (sources files) m y e) in
          and_both _ _ (passing _ (method_at s m) x there (all_three _ _ _ (same_number (built_in_count + t.main)) is.static is.code))
          (passing is_main_selector (option_and_then (λ (x : Method). selector_at s x.selector.0) (method_at s m)) (member_selector a)
          (ap (λ o. option_and_then (λ (x : Method). selector_at s x.selector.0) o) there ∙ selector) is.selector)

      only : (a : Member) (m : ℕ) → IsMain a → slice_get (sources files) m ≡ Some (source_of (built_in_count + t.main) a) → (n : ℕ)
          → (passes (is_static_method_of (built_in_count + t.main)) (method_at s n) && passes is_main_selector (option_and_then (λ x. selector_at s x.selector.0) (method_at s n))) ≡ true → n ≡ m
      only a m is e n w =
          let k = both (passes (is_static_method_of (built_in_count + t.main)) (method_at s n)) (passes is_main_selector (option_and_then (λ (x : Method). selector_at s x.selector.0) (method_at s n))) w in
          let x = passed (is_static_method_of (built_in_count + t.main)) (method_at s n) k.0 in
          let y = passed is_main_selector (option_and_then (λ (x : Method). selector_at s x.selector.0) (method_at s n)) k.1 in
          let v = and_then_some (method_at s n) (λ (x : Method). selector_at s x.selector.0) y.0 y.1 in
          let z = source_at plan files s from n v.0 v.1 in
          let there = at_among (sources files) n z.0 z.1 in
          let selector = same_there z.0.declared.selector y.0 (sym (selector_of_source plan files s from z.0 there) ∙ ap (λ (x : Method). selector_at s x.selector.0) (sym z.2) ∙ v.2) in
          let named = eq_of x.0.class.0 (built_in_count + t.main) (both (x.0.class.0 == (built_in_count + t.main)) (is_static x.0.flags) (both ((x.0.class.0 == (built_in_count + t.main)) && is_static x.0.flags) (is_some x.0.code) x.2).0).0 in
          let class : z.0.class ≡ built_in_count + t.main = ap (λ (x : Method). x.class.0) (sym (same_there x.0 v.0 (sym x.1 ∙ v.1) ∙ z.2)) ∙ named in
          one_source plan files s from n m z.0 (source_of (built_in_count + t.main) a) z.1 e class
          (selector ∙ main_told y.0 y.2 ∙ sym (main_told (member_selector a) is.selector))

  -- each template's domains start so
  pub starts_hold : StartsHold s
  unfolding linked_system outline
  starts_hold t h =
      let there : Among plan.templates t = subst (λ (x : Plan). Among x.templates t) (ap (λ (x : System). x.plan) from.system) (contained s.plan.templates t h) in
      record { main = main_alone t there; code = start_code t }
