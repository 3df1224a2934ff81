-- The static fields of a linked system, and the classes of its arrays.
use Rattle.std.proofs.Common.{◌≡◌, ℕ, ◌+◌, ◌<◌, ◌≤◌, List, [], ◌∷◌, ◌++◌, length, map, Some, refl, sym, ap, ◌∙◌, arith}
use Rattle.std.specs.Prelude.{IsSome, codes, get_or, sum_by}
use Rattle.std.proofs.lemmas.List.{length-append, length-map}
use Rattle.std.proofs.lemmas.List.Sums.{sum_by-cons, sum_by_more_le}
use Rattle.std.proofs.lemmas.Option.{get_or_from_slice_get}
use Rattle.jx_base.specs.declared.class_file.ClassFile.{ClassFile}
use Rattle.jx_base.specs.declared.program.Class.{Class}
use Rattle.jx_base.specs.declared.program.Field.{Field}
use Rattle.jx_base.specs.declared.program.Plan.{Plan}
use Rattle.jx_base.specs.declared.program.System.{System}
use Rattle.link_model.specs.LinkFaults.{IsLinked, dimensions_of}
use Rattle.link_model.specs.Linking.{outline, statics_before, linked_system, with_meanings}
use Rattle.link_laws.proofs.ArrayLaws as p_arrays
use Rattle.link_laws.proofs.Lists.{below_length}
use Rattle.link_laws.proofs.Origins.{meant_of, meant_alike}
use Rattle.machine_model.specs.State.{static_types, static_types_of}
use Rattle.program_model.specs.Lookup.{class_at, class_named}

-- the types of the static fields of classes are as many as these fields
static_count : (ks : List Class) → length (static_types_of ks) ≡ sum_by (λ k. length k.statics) ks
unfolding static_types_of
static_count [] = refl
static_count (k ∷ ks) =
    length-append (map (λ f. f.descriptor) k.statics) (static_types_of ks)
    ∙ plus (length-map k.statics (λ (f : Field). f.descriptor)) (static_count ks) ∙ sym (sum_by-cons (λ (k : Class). length k.statics) k ks)
  where
    plus : {a b c d : ℕ} → a ≡ b → c ≡ d → a + c ≡ b + d
    plus e f = cc

-- what constants mean leaves the static fields
statics_meant : (files : List ClassFile) (x : System) (c : ℕ) (ks : List Class) → static_types_of (with_meanings x files c ks) ≡ static_types_of ks
unfolding static_types_of with_meanings meant_of
statics_meant files x c [] = refl
statics_meant files x c (k ∷ ks) = joined (ap (map (λ (f : Field). f.descriptor)) (meant_alike x files c k).statics) (statics_meant files x (c + 1) ks)
  where
    joined : {a b : List (List ℕ)} {d e : List (List ℕ)} → a ≡ b → d ≡ e → a ++ d ≡ b ++ e
    joined p q = cc

module _ (plan : Plan) (files : List ClassFile) (s : System) (from : IsLinked plan files s) where
  -- a static field's place is below the number of all
  pub static_below : (c : ℕ) (k : Class) (i : ℕ) → class_at (outline plan files) c ≡ Some k → i < length k.statics → statics_before (outline plan files) c + i < length (static_types s)
  unfolding static_types statics_before class_at linked_system
  static_below c k i e h =
      let o = outline plan files in
      let all : static_types_of s.program.classes ≡ static_types_of o.program.classes =
      ap (λ (x : System). static_types_of x.program.classes) from.system ∙ statics_meant files o 0 o.program.classes in
      let more = sum_by_more_le (λ (k : Class). length k.statics) o.program.classes c k (below_length o.program.classes c k e) in
      let here : length (get_or o.program.classes c k).statics ≡ length k.statics = ap (λ (x : Class). length x.statics) (get_or_from_slice_get o.program.classes c k k e) in
      omega (arith, ap length all, static_count o.program.classes, more, here, h)

  -- a class with dimensions is one of arrays
  pub arrays : (c : ℕ) (k : Class) → class_at s c ≡ Some k → 1 ≤ dimensions_of k.name → IsSome k.component
  arrays = (p_arrays.arrays_hold plan files s from).arrays

  -- the class of arrays of memory objects is there
  pub memories : IsSome (class_named s (codes "[Ljx/Memory;"))
  memories = (p_arrays.arrays_hold plan files s from).memories
