-- The texts among the arguments of a call.
use Rattle.std.proofs.Common.{◌≡◌, refl, ap, subst, ℕ, suc, true, List, [], ◌∷◌, length, Option, Some, None, arith, inl, inr}
use Rattle.std.specs.Prelude.{IsSomeAnd, codes}
use Rattle.jx_base.specs.declared.program.Method.{Method}
use Rattle.jx_base.specs.declared.program.Selector.{Selector}
use Rattle.jx_base.specs.declared.program.System.{System}
use Rattle.jx_base.specs.declared.value.Value.{Value}
use Rattle.jx_base.proofs.BasicLaws.{both}
use Rattle.machine_laws.proofs.Natives.{string_fits}
use Rattle.machine_laws.specs.Called.{FitsCall, IsCallOf}
use Rattle.machine_laws.specs.Sound.{IsSound}
use Rattle.machine_model.specs.ObjectRows.{all_fit}
use Rattle.machine_model.specs.State.{Store, shape_of}
use Rattle.program_model.specs.Lookup.{selector_at, shape_fits}
use Rattle.program_model.specs.Types.{parameter_types}
use Rattle.interp_built_in.specs.BuiltIns.{HasParameters, HasTexts, text_type}
use Rattle.interp_built_in.specs.declared.built_in.BuiltIn.{BuiltIn}
use Rattle.interp_built_in.specs.declared.built_in.BuiltIn.TheVariants as built_in

-- as many values as types fit
same_length : (s : System) (store : Store) (vs : List Value) (ts : List (List ℕ)) → all_fit s true store vs ts ≡ true → length vs ≡ length ts
unfolding all_fit
same_length s store [] [] h = refl
same_length s store [] (t ∷ ts) h = cc
same_length s store (v ∷ vs) [] h = cc
same_length s store (v ∷ vs) (t ∷ ts) h = ap suc (same_length s store vs ts (both (shape_fits s true (shape_of store v) t) (all_fit s true store vs ts) h).1)

-- as many arguments as parameters fit them, without an object in front
pub all_of_call : (s : System) (store : Store) (c : ℕ) (ts : List (List ℕ)) (args : List Value) → FitsCall s store c ts args → length args ≡ length ts → all_fit s true store args ts ≡ true
all_of_call s store c ts args (inl h) l = h
all_of_call s store c ts args (inr x) l =
    let n = same_length s store x.others ts x.fit in
    let m : length args ≡ suc (length x.others) = ap length x.is in
    absurd (omega (arith, l, n, m))

first_fits : (s : System) (store : Store) (v : Value) (vs : List Value) (t : List ℕ) (ts : List (List ℕ)) → all_fit s true store (v ∷ vs) (t ∷ ts) ≡ true → shape_fits s true (shape_of store v) t ≡ true
unfolding all_fit
first_fits s store v vs t ts h = (both (shape_fits s true (shape_of store v) t) (all_fit s true store vs ts) h).0

second_fits : (s : System) (store : Store) (v w : Value) (vs : List Value) (t u : List ℕ) (ts : List (List ℕ)) → all_fit s true store (v ∷ w ∷ vs) (t ∷ u ∷ ts) ≡ true → shape_fits s true (shape_of store w) u ≡ true
unfolding all_fit
second_fits s store v w vs t u ts h = first_fits s store w vs u ts (both (shape_fits s true (shape_of store v) t) (all_fit s true store (w ∷ vs) (u ∷ ts)) h).1

module _ (s : System) (store : Store) (c : ℕ) (z : IsSound s) where
  texts_by : (b : BuiltIn) (ts : List (List ℕ)) (args : List Value) → HasParameters b ts → FitsCall s store c ts args → HasTexts b store args
  texts_by (built_in.OfText a) ts (v ∷ []) p f = let q = subst (λ ts. FitsCall s store c ts (v ∷ [])) p f in
      string_fits s store v z (first_fits s store v [] text_type [] (all_of_call s store c (text_type ∷ []) (v ∷ []) q refl))
  texts_by built_in.Lookup ts (v ∷ []) p f = let q = subst (λ ts. FitsCall s store c ts (v ∷ [])) p f in
      string_fits s store v z (first_fits s store v [] text_type [] (all_of_call s store c (text_type ∷ []) (v ∷ []) q refl))
  texts_by built_in.Bind ts (v ∷ w ∷ []) p f =
      let us = text_type ∷ codes "Ljx/Portal;" ∷ [] in
      let q = subst (λ ts. FitsCall s store c ts (v ∷ w ∷ [])) p f in
      string_fits s store v z (first_fits s store v (w ∷ []) text_type (codes "Ljx/Portal;" ∷ []) (all_of_call s store c us (v ∷ w ∷ []) q refl))
  texts_by built_in.Export ts (o ∷ v ∷ n ∷ []) p f =
      let us = codes "Ljava/lang/Object;" ∷ text_type ∷ codes "I" ∷ [] in
      let q = subst (λ ts. FitsCall s store c ts (o ∷ v ∷ n ∷ [])) p f in
      string_fits s store v z (second_fits s store o v (n ∷ []) (codes "Ljava/lang/Object;") text_type (codes "I" ∷ []) (all_of_call s store c us (o ∷ v ∷ n ∷ []) q refl))
  texts_by _ ts args p f = tt

-- the texts that an act takes of a call's arguments are Strings
pub texts_of_call : (s : System) (store : Store) (m : Method) (args : List Value) (b : BuiltIn) → IsSound s → IsCallOf s store m args →
    IsSomeAnd (selector_at s m.selector.0) (λ x. HasParameters b (parameter_types x.descriptor)) → HasTexts b store args
texts_of_call s store m args b z call h = by (selector_at s m.selector.0) refl h
  where
    by : (o : Option Selector) → selector_at s m.selector.0 ≡ o → IsSomeAnd o (λ x. HasParameters b (parameter_types x.descriptor)) → HasTexts b store args
    by None e h = absurd h
    by (Some x) e h = texts_by s store m.class.0 z b (parameter_types x.descriptor) args h (call x e)
