-- The types of static fields, class by class.
use Rattle.std.proofs.Common.{◌≡◌, ◌<◌, ◌∙◌, refl, sym, ap, ℕ, List, [], ◌∷◌, ◌++◌, append_assoc, append-nil, map, take, get_or, length, ◌+◌}
use Rattle.std.proofs.lemmas.List.{map-append, take_more}
use Rattle.jx_base.specs.declared.program.Class.{Class}
use Rattle.jx_base.specs.declared.program.Field.{Field}
use Rattle.machine_model.specs.State.{default_of, static_types_of}

types_append : (xs ys : List Class) → static_types_of (xs ++ ys) ≡ static_types_of xs ++ static_types_of ys
unfolding static_types_of
types_append [] ys = refl
types_append (k ∷ xs) ys =
    ap (λ ts. map (λ (f : Field). f.descriptor) k.statics ++ ts) (types_append xs ys)
    ∙ sym (append_assoc (map (λ (f : Field). f.descriptor) k.statics) (static_types_of xs) (static_types_of ys))

-- the defaults with one class more
pub defaults_more : (classes : List Class) (i : ℕ) (k : Class) → i < length classes → k ≡ get_or classes i k
    → map default_of (static_types_of (take (i + 1) classes)) ≡ map default_of (static_types_of (take i classes)) ++ map (λ (f : Field). default_of f.descriptor) k.statics
unfolding static_types_of
defaults_more classes i k l e =
    ap (λ ks. map default_of (static_types_of ks)) (take_more classes i k l ∙ ap (λ x. take i classes ++ x ∷ []) (sym e))
    ∙ ap (map default_of) (types_append (take i classes) (k ∷ []) ∙ ap (λ ts. static_types_of (take i classes) ++ ts) (append-nil (map (λ (f : Field). f.descriptor) k.statics)))
    ∙ map-append default_of (static_types_of (take i classes)) (map (λ (f : Field). f.descriptor) k.statics)
    ∙ ap (λ vs. map default_of (static_types_of (take i classes)) ++ vs) (map_twice k.statics)
  where
    map_twice : (fs : List Field) → map default_of (map (λ (f : Field). f.descriptor) fs) ≡ map (λ (f : Field). default_of f.descriptor) fs
    map_twice [] = refl
    map_twice (f ∷ fs) = ap (λ vs. default_of f.descriptor ∷ vs) (map_twice fs)
