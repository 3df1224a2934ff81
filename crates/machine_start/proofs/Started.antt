-- The methods that the start runs, found among all methods.
use Rattle.std.proofs.Common.{◌≡◌, ◌<◌, ◌∙◌, refl, sym, ap, ℕ, Bool, true, false, cond, ◌&&◌, List, [], ◌∷◌, ◌++◌, length, slice_get, Option, Some, None, ◌+◌, arith, take, get_or, append-nil}
use Rattle.std.specs.Prelude.{codes, filter, flat_map, ◌==◌, is_some}
use Rattle.std.specs.List.{range_with_len}
use Rattle.std.proofs.lemmas.Grind.{flat_map-append}
use Rattle.std.proofs.lemmas.List.{take_more}
use Rattle.std.proofs.lemmas.List.Elements.{filter-append}
use Rattle.class_grammar.specs.Flags.{is_static}
use Rattle.jx_base.proofs.BasicLaws.{range_append}
use Rattle.jx_base.specs.Basics.{passes}
use Rattle.jx_base.specs.declared.program.Method.{Method}
use Rattle.jx_base.specs.declared.program.Selector.{Selector}
use Rattle.jx_base.specs.declared.program.System.{System}
use Rattle.machine_model.specs.MachineThreads.{is_initializer_selector}
use Rattle.machine_model.specs.Start.{is_main_selector, is_static_method_of, method_places, static_methods}
use Rattle.machine_start.specs.Found.{is_declared_at, is_static_at, is_static_with}
use Rattle.program_model.specs.Lookup.{method_at, same_selector, selector_at, selector_of_method}
use Rattle.std.specs.Option.{option_and_then}

-- one place more
pub place_more : (p : ℕ → Bool) (n : ℕ) → filter p (range_with_len 0 (n + 1)) ≡ filter p (range_with_len 0 n) ++ cond (p n) (n ∷ []) []
place_more p n =
    let z : 0 + n ≡ n = omega arith in
    ap (filter p) (range_append 0 n 1 ∙ ap (λ k. range_with_len 0 n ++ range_with_len k 1) z) ∙ filter-append p (range_with_len 0 n) (n ∷ [])

-- a test after another
filter_twice : (p q : ℕ → Bool) (xs : List ℕ) → filter (λ x. p x && q x) xs ≡ filter p (filter q xs)
filter_twice p q [] = refl
filter_twice p q (x ∷ xs) = by (p x) refl (q x) (filter_twice p q xs)
  where
    by : (a : Bool) → p x ≡ a → (b : Bool) → filter (λ x. p x && q x) xs ≡ filter p (filter q xs)
        → cond (a && b) (x ∷ filter (λ x. p x && q x) xs) (filter (λ x. p x && q x) xs) ≡ filter p (cond b (x ∷ filter q xs) (filter q xs))
    by true e true h = ap (λ ys. x ∷ ys) h ∙ ap (λ b. cond b (x ∷ filter p (filter q xs)) (filter p (filter q xs))) (sym e)
    by true e false h = h
    by false e true h = h ∙ ap (λ b. cond b (x ∷ filter p (filter q xs)) (filter p (filter q xs))) (sym e)
    by false e false h = h

same_test : (s : System) (y : Selector) (c m : ℕ)
    → (passes (is_static_method_of c) (method_at s m) && passes (λ x. same_selector x y) (selector_of_method s m)) ≡ (is_declared_at s c m && is_static_at s y m)
unfolding is_declared_at is_static_at is_static_with is_static_method_of selector_of_method passes
same_test s y c m = by (method_at s m)
  where
    shuffle : (a b d e : Bool) → (((a && b) && d) && e) ≡ (a && ((b && d) && e))
    shuffle true b d e = refl
    shuffle false b d e = refl

    by : (o : Option Method)
        → (passes (is_static_method_of c) o && passes (λ x. same_selector x y) (option_and_then (λ x. selector_at s x.selector.0) o))
        ≡ (passes (λ x. x.class.0 == c) o && passes (is_static_with s y) o)
    by None = refl
    by (Some x) = shuffle (x.class.0 == c) (is_static x.flags) (is_some x.code) (passes (λ z. same_selector z y) (selector_at s x.selector.0))

-- the static methods of a class are those that it declares among all static ones of the selector
pub static_of_class : (s : System) (y : Selector) (c : ℕ)
    → filter (is_declared_at s c) (filter (is_static_at s y) (method_places s)) ≡ static_methods s (λ x. same_selector x y) c
unfolding static_methods
static_of_class s y c =
    sym (filter_twice (is_declared_at s c) (is_static_at s y) (method_places s))
    ∙ (λ j. filter (λ m. sym (same_test s y c m) j) (method_places s))

-- the method of a place
pub static_there : (s : System) (y : Selector) (m : ℕ) (x : Method) → slice_get s.program.methods m ≡ Some x → is_static_with s y x ≡ is_static_at s y m
unfolding is_static_at method_at passes
static_there s y m x e = ap (passes (is_static_with s y)) (sym e)

-- the static initialisers of a class
pub initializers_of : (s : System) (y : Selector) (c : ℕ) → y ≡ record { name = codes "<clinit>"; descriptor = codes "()V" }
    → filter (is_declared_at s c) (filter (is_static_at s y) (method_places s)) ≡ static_methods s is_initializer_selector c
unfolding is_initializer_selector same_selector
initializers_of s y c e = static_of_class s y c ∙ ap (λ z. static_methods s (λ x. same_selector x z) c) e

-- the main method of a class
pub mains_of : (s : System) (y : Selector) (c : ℕ) → y ≡ record { name = codes "main"; descriptor = codes "([Ljava/lang/String;)V" }
    → filter (is_declared_at s c) (filter (is_static_at s y) (method_places s)) ≡ static_methods s is_main_selector c
unfolding is_main_selector same_selector
mains_of s y c e = static_of_class s y c ∙ ap (λ z. static_methods s (λ x. same_selector x z) c) e

-- the methods of one class more
pub more_of_class : (f : ℕ → List ℕ) (classes : List ℕ) (i : ℕ) (before after xs : List ℕ) → i < length classes
    → after ≡ before ++ xs → before ≡ flat_map f (take i classes) → xs ≡ f (get_or classes i 0) → after ≡ flat_map f (take (i + 1) classes)
more_of_class f classes i before after xs l e h q =
    e ∙ ap (λ ys. ys ++ xs) h ∙ ap (λ ys. flat_map f (take i classes) ++ ys) (q ∙ sym (append-nil (f (get_or classes i 0))))
    ∙ sym (flat_map-append f (take i classes) (get_or classes i 0 ∷ []))
    ∙ ap (flat_map f) (sym (take_more classes i 0 l))
