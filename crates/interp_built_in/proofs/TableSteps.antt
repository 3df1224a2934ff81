-- The table of built-in methods, and the method that a search in it finds.
use Rattle.std.proofs.Common.{◌≡◌, refl, sym, ◌∙◌, ap, subst, ℕ, Bool, true, false, List, [], ◌∷◌, map, Option, Some, None, IfSome, IsSomeAnd, ◌==◌}
use Rattle.std.specs.Prelude.{find, if◌then◌else◌}
use Rattle.std.specs.List.{AllByRecursion}
use Rattle.std.specs.Option.{option_map, option_and_then}
use Rattle.std.specs.Str.{bytes_eq}
use Rattle.std.proofs.lemmas.Slice.Eq.{bytes_eq-Decides}
use Rattle.jx_base.specs.declared.program.Method.{Method}
use Rattle.jx_base.specs.declared.program.Selector.{Selector}
use Rattle.jx_base.specs.declared.program.System.{System}
use Rattle.jx_base.proofs.BasicLaws.{both}
use Rattle.machine_laws.proofs.Lists.{all_found}
use Rattle.machine_model.specs.BuiltInMethods.{effects_of, constructor_effects, is_of}
use Rattle.program_model.specs.BuiltIn.{object_class, string_class, builder_class, throwable_class, portal_class, zero_class, memory_class}
use Rattle.program_model.specs.Lookup.{selector_at}
use Rattle.program_model.specs.Types.{parameter_types}
use Rattle.interp_built_in.specs.BuiltIns.{effect_of, HasParameters}
use Rattle.interp_built_in.specs.Table.{built_in_at, is_record_of, method_of, HasItsParameters}
use Rattle.interp_built_in.specs.declared.built_in.BuiltIn.{BuiltIn}
use Rattle.interp_built_in.specs.declared.table.MethodRecord.{MethodRecord}

-- a class that none of the names is can be thrown
pub other_effects : (c : ℕ) → (c == object_class) ≡ false → (c == string_class) ≡ false → (c == builder_class) ≡ false → (c == throwable_class) ≡ false → (c == portal_class) ≡ false → (c == zero_class) ≡ false → (c == memory_class) ≡ false →
    constructor_effects c ≡ effects_of c
unfolding effects_of
other_effects c h0 h1 h2 h3 h4 h5 h6 = rw h0 (rw h1 (rw h2 (rw h3 (rw h4 (rw h5 (rw h6 refl))))))

find_map : {A B : Type 0} (f : A → B) (p : B → Bool) (xs : List A) → find p (map f xs) ≡ option_map f (find (λ x. p (f x)) xs)
find_map f p [] = refl
find_map f p (x ∷ xs) = by (p (f x)) (find_map f p xs)
  where
    by : (b : Bool) → find p (map f xs) ≡ option_map f (find (λ x. p (f x)) xs) →
        (if b then Some (f x) else find p (map f xs)) ≡ option_map f (if b then Some x else find (λ x. p (f x)) xs)
    by true h = refl
    by false h = h

found_passes : {A : Type 0} (p : A → Bool) (xs : List A) (x : A) → find p xs ≡ Some x → p x ≡ true
found_passes p [] x h = cc
found_passes p (y ∷ xs) x h = by (p y) refl h (found_passes p xs x)
  where
    by : (b : Bool) → p y ≡ b → (if b then Some y else find p xs) ≡ Some x → (find p xs ≡ Some x → p x ≡ true) → p x ≡ true
    by true e h again = let q : y ≡ x = cc in subst (λ z. p z ≡ true) q e
    by false e h again = again h

same_text : (xs ys : List ℕ) → bytes_eq xs ys ≡ true → xs ≡ ys
same_text xs ys h = (bytes_eq-Decides xs ys).0 h

-- what the record that is found does is what the built-in method does
pub found_effect : (s : System) (m : Method) (x : Selector) (rs : List MethodRecord) (o : Option BuiltIn) → o ≡ option_map (λ r. r.2) (find (is_record_of x) rs) →
    map (method_of m.class.0) rs ≡ effects_of m.class.0 → selector_at s m.selector.0 ≡ Some x → option_map effect_of o ≡ option_map (λ m. m.effect) (built_in_at s m)
unfolding is_of
found_effect s m x rs o h t e =
    ap (option_map effect_of) h
    ∙ by (find (is_record_of x) rs)
    ∙ ap (option_map (λ m. m.effect)) (
    sym (find_map (method_of m.class.0) (is_of x) rs)
    ∙ ap (find (is_of x)) t
    ∙ sym (ap (option_and_then (λ x. find (is_of x) (effects_of m.class.0))) e)
    )
  where
    by : (q : Option MethodRecord) → option_map effect_of (option_map (λ r. r.2) q) ≡ option_map (λ m. m.effect) (option_map (method_of m.class.0) q)
    by None = refl
    by (Some r) = refl

-- without a selector there is no method
pub no_effect : (s : System) (m : Method) → selector_at s m.selector.0 ≡ None → None ≡ option_map (λ m. m.effect) (built_in_at s m)
no_effect s m e = ap (λ o. option_map (λ m. m.effect) (option_and_then (λ x. find (is_of x) (effects_of m.class.0)) o)) (sym e)

-- the parameters of the record that is found are those of the selector
pub found_parameters : (s : System) (m : Method) (x : Selector) (rs : List MethodRecord) (o : Option BuiltIn) → o ≡ option_map (λ r. r.2) (find (is_record_of x) rs) →
    AllByRecursion HasItsParameters rs → selector_at s m.selector.0 ≡ Some x → IfSome o (λ b. IsSomeAnd (selector_at s m.selector.0) (λ x. HasParameters b (parameter_types x.descriptor)))
found_parameters s m x rs o h t e = subst (λ q. IfSome q (λ b. IsSomeAnd (selector_at s m.selector.0) (λ x. HasParameters b (parameter_types x.descriptor)))) (sym h) (by (find (is_record_of x) rs) refl)
  where
    by : (q : Option MethodRecord) → find (is_record_of x) rs ≡ q → IfSome (option_map (λ r. r.2) q) (λ b. IsSomeAnd (selector_at s m.selector.0) (λ x. HasParameters b (parameter_types x.descriptor)))
    by None k = tt
    by (Some r) k =
        let p = (both (bytes_eq r.0.now x.name) (bytes_eq r.1.now x.descriptor) (found_passes (is_record_of x) rs r k)).1 in
        let d = same_text r.1.now x.descriptor p in
        subst (λ (y : Option Selector). IsSomeAnd y (λ x. HasParameters r.2 (parameter_types x.descriptor))) (sym e)
        (subst (λ (d : List ℕ). HasParameters r.2 (parameter_types d)) d (all_found HasItsParameters (is_record_of x) rs r k t))
