-- Groups of methods with one member more.
use Rattle.std.proofs.Common.{◌≡◌, ◌<◌, ◌∙◌, refl, sym, ap, ℕ, zero, suc, Bool, true, false, cond, List, [], ◌∷◌, ◌++◌, append-nil, length, replicate, take, get_or, slice_get, Option, Some, None, option_map, ◌+◌, arith}
use Rattle.std.specs.Prelude.{filter, slice_set, ◌==◌, if◌then◌else◌}
use Rattle.std.proofs.lemmas.Bool.Decides.{nat_tests}
use Rattle.std.proofs.lemmas.List.{take_more}
use Rattle.std.proofs.lemmas.List.Elements.{filter-append}
use Rattle.jx_base.specs.Basics.{passes}
use Rattle.jx_base.specs.declared.program.Method.{Method}
use Rattle.jx_base.specs.declared.program.System.{System}
use Rattle.machine_start.specs.Found.{is_declared_at, with_member}
use Rattle.program_model.specs.Lookup.{method_at}

zero_suc : (d : ℕ) → (zero == suc d) ≡ false
zero_suc d = grind (arith, nat_tests)

suc_zero : (c : ℕ) → (suc c == zero) ≡ false
suc_zero c = grind (arith, nat_tests)

suc_suc : (c d : ℕ) → (c == d) ≡ (suc c == suc d)
suc_suc c d = grind (arith, nat_tests)

-- the group that is there has the member, behind its others
pub with_member_there : (groups : List (List ℕ)) (c m : ℕ) (xs : List ℕ) → slice_get groups c ≡ Some xs → slice_set groups c (xs ++ m ∷ []) ≡ with_member groups c m
unfolding with_member
with_member_there groups c m xs e =
    ap (λ o. elim o as (λ _. List (List ℕ)) [ None ↦ groups | Some members ↦ slice_set groups c (members ++ m ∷ []) ]) (sym e)

-- and where there is none, nothing changes
pub with_member_none : (groups : List (List ℕ)) (c m : ℕ) → slice_get groups c ≡ None → groups ≡ with_member groups c m
unfolding with_member
with_member_none groups c m e =
    ap (λ o. elim o as (λ _. List (List ℕ)) [ None ↦ groups | Some members ↦ slice_set groups c (members ++ m ∷ []) ]) (sym e)

-- what one group has of a list in which another has one member more
set_more : (groups : List (List ℕ)) (c m d : ℕ) (ys xs : List ℕ) → slice_get groups c ≡ Some ys → slice_get groups d ≡ Some xs
    → slice_get (slice_set groups c (ys ++ m ∷ [])) d ≡ Some (xs ++ (if c == d then m ∷ [] else []))
set_more [] c m d ys xs f e = cc
set_more (g ∷ groups) zero m zero ys xs f e = let q : ys ≡ xs = cc in ap (λ zs. Some (zs ++ m ∷ [])) q
set_more (g ∷ groups) zero m (suc d) ys xs f e =
    e ∙ ap (λ zs. Some zs) (sym (append-nil xs)) ∙ ap (λ (b : Bool). Some (xs ++ (if b then m ∷ [] else []))) (sym (zero_suc d))
set_more (g ∷ groups) (suc c) m zero ys xs f e =
    e ∙ ap (λ zs. Some zs) (sym (append-nil xs)) ∙ ap (λ (b : Bool). Some (xs ++ (if b then m ∷ [] else []))) (sym (suc_zero c))
set_more (g ∷ groups) (suc c) m (suc d) ys xs f e =
    set_more groups c m d ys xs f e ∙ ap (λ (b : Bool). Some (xs ++ (if b then m ∷ [] else []))) (suc_suc c d)

-- a place without a group is no group's
other_place : (groups : List (List ℕ)) (c d : ℕ) (xs : List ℕ) → slice_get groups c ≡ None → slice_get groups d ≡ Some xs → (c == d) ≡ false
other_place groups c d xs f e = by (c == d) refl
  where
    by : (b : Bool) → (c == d) ≡ b → b ≡ false
    by true q = let s : c ≡ d = grind (arith, nat_tests) in absurd (no (sym f ∙ ap (slice_get groups) s ∙ e))
      where
        no : None ≡ Some xs → ⊥
        no h = cc
    by false q = refl

-- what one group has then
pub member_more : (groups : List (List ℕ)) (c m d : ℕ) (xs : List ℕ) → slice_get groups d ≡ Some xs
    → slice_get (with_member groups c m) d ≡ Some (xs ++ (if c == d then m ∷ [] else []))
member_more groups c m d xs e = by (slice_get groups c) refl
  where
    by : (o : Option (List ℕ)) → slice_get groups c ≡ o → slice_get (with_member groups c m) d ≡ Some (xs ++ (if c == d then m ∷ [] else []))
    by None f =
        ap (λ gs. slice_get gs d) (sym (with_member_none groups c m f)) ∙ e ∙ ap (λ zs. Some zs) (sym (append-nil xs))
        ∙ ap (λ (b : Bool). Some (xs ++ (if b then m ∷ [] else []))) (sym (other_place groups c d xs f e))
    by (Some ys) f = ap (λ gs. slice_get gs d) (sym (with_member_there groups c m ys f)) ∙ set_more groups c m d ys xs f e

-- so many empty groups
abbrev empties : ℕ → List (List ℕ)
empties n = replicate n []

pub empty_group : (n c : ℕ) → c < n → slice_get (empties n) c ≡ Some []
empty_group zero c l = absurd (omega arith)
empty_group (suc n) zero l = refl
empty_group (suc n) (suc c) l = empty_group n c (omega arith)

-- what passes among the first n + 1 of a list
pub filter_more : (p : ℕ → Bool) (xs : List ℕ) (i : ℕ) (x : ℕ) → i < length xs → x ≡ get_or xs i x
    → filter p (take (i + 1) xs) ≡ filter p (take i xs) ++ cond (p x) (x ∷ []) []
filter_more p xs i x l e =
    ap (filter p) (take_more xs i x l ∙ ap (λ y. take i xs ++ y ∷ []) (sym e)) ∙ filter-append p (take i xs) (x ∷ [])

-- whether a method is declared, by the class that declares it
pub declared_some : (s : System) (d m k : ℕ) → option_map (λ (x : Method). x.class.0) (method_at s m) ≡ Some k → (k == d) ≡ is_declared_at s d m
unfolding is_declared_at passes
declared_some s d m k = by (method_at s m)
  where
    by : (o : Option Method) → option_map (λ (x : Method). x.class.0) o ≡ Some k → (k == d) ≡ passes (λ (x : Method). x.class.0 == d) o
    by None f = cc
    by (Some x) f = let q : x.class.0 ≡ k = cc in ap (λ n. n == d) (sym q)

pub declared_none : (s : System) (d m : ℕ) → option_map (λ (x : Method). x.class.0) (method_at s m) ≡ None → false ≡ is_declared_at s d m
unfolding is_declared_at passes
declared_none s d m = by (method_at s m)
  where
    by : (o : Option Method) → option_map (λ (x : Method). x.class.0) o ≡ None → false ≡ passes (λ (x : Method). x.class.0 == d) o
    by None f = refl
    by (Some x) f = cc

module _ (s : System) (groups : List (List ℕ)) (xs : List ℕ) (i m d : ℕ) (l : i < length xs) (e : m ≡ get_or xs i m) where
  -- a method in the groups of the classes
  pub grouped_more : (k : ℕ) → option_map (λ (x : Method). x.class.0) (method_at s m) ≡ Some k
      → slice_get groups d ≡ Some (filter (is_declared_at s d) (take i xs))
      → slice_get (with_member groups k m) d ≡ Some (filter (is_declared_at s d) (take (i + 1) xs))
  grouped_more k has h =
      member_more groups k m d (filter (is_declared_at s d) (take i xs)) h
      ∙ ap (λ b. Some (filter (is_declared_at s d) (take i xs) ++ cond b (m ∷ []) [])) (declared_some s d m k has)
      ∙ ap (λ ys. Some ys) (sym (filter_more (is_declared_at s d) xs i m l e))

  -- a place without a method is in none
  pub grouped_same : option_map (λ (x : Method). x.class.0) (method_at s m) ≡ None
      → slice_get groups d ≡ Some (filter (is_declared_at s d) (take i xs))
      → slice_get groups d ≡ Some (filter (is_declared_at s d) (take (i + 1) xs))
  grouped_same none h =
      h ∙ ap (λ ys. Some ys) (sym (append-nil (filter (is_declared_at s d) (take i xs))))
      ∙ ap (λ b. Some (filter (is_declared_at s d) (take i xs) ++ cond b (m ∷ []) [])) (declared_none s d m none)
      ∙ ap (λ ys. Some ys) (sym (filter_more (is_declared_at s d) xs i m l e))
