-- The types of static fields, class by class.
use Rattle.std.proofs.Common.{◌≡◌, ℕ, suc, ◌+◌, ◌-◌, ◌<◌, ◌≤◌, List, ◌∷◌, ◌++◌, length, drop, get_or, Some, None, refl, sym, ap, ◌∙◌, map, slice_get, arith, drop-cons}
use Rattle.std.specs.Option.{option_map}
use Rattle.std.proofs.lemmas.List.{drop_all, length-map}
use Rattle.std.proofs.lemmas.Option.{slice_get-map}
use Rattle.jx_base.proofs.BasicLaws.{get_left, get_right}
use Rattle.jx_base.specs.declared.program.Class.{Class}
use Rattle.jx_base.specs.declared.program.Field.{Field}
use Rattle.jx_base.specs.declared.program.System.{System}
use Rattle.machine_model.specs.State.{static_types, static_types_of}

abbrev types : Class → List (List ℕ)
types k = map (λ f. f.descriptor) k.statics

-- the types of the classes from place i on
abbrev pub from : List Class → ℕ → List (List ℕ)
from classes i = static_types_of (drop i classes)

one_more : (classes : List Class) (i : ℕ) (k : Class) → i < length classes → k ≡ get_or classes i k → from classes i ≡ types k ++ from classes (i + 1)
unfolding static_types_of
one_more classes i k h e =
    let next : suc i ≡ i + 1 = omega arith in
    let split : drop i classes ≡ k ∷ drop (i + 1) classes = drop-cons classes i k h ∙ ap (λ (n : ℕ). get_or classes i k ∷ drop n classes) next ∙ ap (λ (x : Class). x ∷ drop (i + 1) classes) (sym e) in
    ap static_types_of split

pub here : (classes : List Class) (i left : ℕ) (k : Class) (f : Field) → i < length classes → k ≡ get_or classes i k → left < length k.statics → slice_get k.statics left ≡ Some f → Some f.descriptor ≡ slice_get (from classes i) left
here classes i left k f h e l g =
    let n = length-map k.statics (λ (x : Field). x.descriptor) in
    sym (ap (λ (ts : List (List ℕ)). slice_get ts left) (one_more classes i k h e) ∙ get_left (types k) (from classes (i + 1)) left (omega (arith, n, l))
    ∙ slice_get-map (λ (x : Field). x.descriptor) k.statics left ∙ ap (option_map (λ (x : Field). x.descriptor)) g)

pub later : (classes : List Class) (i left : ℕ) (k : Class) → i < length classes → k ≡ get_or classes i k → length k.statics ≤ left → slice_get (from classes i) left ≡ slice_get (from classes (i + 1)) (left - length k.statics)
later classes i left k h e l =
    let n = length-map k.statics (λ (x : Field). x.descriptor) in
    ap (λ (ts : List (List ℕ)). slice_get ts left) (one_more classes i k h e) ∙ get_right (types k) (from classes (i + 1)) (left - length k.statics) left (omega (arith, n, l))

pub none : (classes : List Class) (i left : ℕ) → length classes ≤ i → slice_get (from classes i) left ≡ None
unfolding static_types_of
none classes i left h = ap (λ (cs : List Class). slice_get (static_types_of cs) left) (drop_all i classes h)

pub whole : (s : System) (left : ℕ) → slice_get (from s.program.classes 0) left ≡ slice_get (static_types s) left
unfolding static_types
whole s left = refl
