-- Arguments that get their places among the locals one by one.
use Rattle.std.proofs.Common.{◌≡◌, refl, ◌∙◌, ap, arith, ℕ, suc, ◌+◌, ◌<◌, Bool, true, false, List, [], ◌∷◌, length, drop, get_or, Option, Some, None, drop-cons}
use Rattle.std.specs.Prelude.{nat_le, slice_set, if◌then◌else◌}
use Rattle.std.proofs.lemmas.List.{length-set}
use Rattle.jx_base.specs.declared.value.Value.{Value}
use Rattle.jx_base.specs.declared.value.Value.TheVariants as value
use Rattle.machine_model.specs.NumericRows.{Locals, set_local, slots_of, with_local}
use Rattle.machine_model.specs.State.{locals_with}

-- the locals are as many as before
pub length_set_local : (locals : Locals) (n : ℕ) (v : Value) → length (set_local locals n v) ≡ length locals
unfolding set_local
length_set_local locals n (value.Long k) = length-set (slice_set locals n (Some (value.Long k))) (n + 1) None ∙ length-set locals n (Some (value.Long k))
length_set_local locals n (value.Int k) = length-set locals n (Some (value.Int k))
length_set_local locals n value.Null = length-set locals n (Some value.Null)
length_set_local locals n (value.Ref r) = length-set locals n (Some (value.Ref r))
length_set_local locals n (value.Portal k c) = length-set locals n (Some (value.Portal k c))
length_set_local locals n (value.Mem m) = length-set locals n (Some (value.Mem m))

-- what the first argument makes of the locals
abbrev placed : List Value → ℕ → Value → Option Locals → Option Locals
placed vs n v None = None
placed vs n v (Some new) = locals_with new (n + slots_of v) vs

first_placed : (locals : Locals) (n : ℕ) (v : Value) (vs : List Value) → locals_with locals n (v ∷ vs) ≡ placed vs n v (with_local locals n v)
unfolding locals_with
first_placed locals n v vs = by (with_local locals n v)
  where
    by : (o : Option Locals) → elim o as (λ _. Option Locals) [ None ↦ None | Some new ↦ locals_with new (n + slots_of v) vs ] ≡ placed vs n v o
    by None = refl
    by (Some new) = refl

-- the next argument and those behind it
next_of : (args : List Value) (i : ℕ) (d : Value) → i < length args → drop i args ≡ get_or args i d ∷ drop (i + 1) args
next_of args i d l =
    let one : suc i ≡ i + 1 = omega arith in
    drop-cons args i d l ∙ ap (λ (k : ℕ). get_or args i d ∷ drop k args) one

-- the next argument has no place
pub no_place : (locals : Locals) (n : ℕ) (args : List Value) (i : ℕ) (d : Value) → i < length args → nat_le (n + slots_of (get_or args i d)) (length locals) ≡ false
    → locals_with locals n (drop i args) ≡ None
unfolding with_local
no_place locals n args i d l h =
    let v = get_or args i d in let rest = drop (i + 1) args in
    ap (locals_with locals n) (next_of args i d l) ∙ first_placed locals n v rest
    ∙ ap (λ (b : Bool). placed rest n v (if b then Some (set_local locals n v) else None)) h

-- it has one
pub one_placed : (locals : Locals) (n : ℕ) (args : List Value) (i : ℕ) (d : Value) → i < length args → nat_le (n + slots_of (get_or args i d)) (length locals) ≡ true
    → locals_with locals n (drop i args) ≡ locals_with (set_local locals n (get_or args i d)) (n + slots_of (get_or args i d)) (drop (i + 1) args)
unfolding with_local
one_placed locals n args i d l h =
    let v = get_or args i d in let rest = drop (i + 1) args in
    ap (locals_with locals n) (next_of args i d l) ∙ first_placed locals n v rest
    ∙ ap (λ (b : Bool). placed rest n v (if b then Some (set_local locals n v) else None)) h

-- no argument is left
pub all_placed : (locals : Locals) (n : ℕ) (args : List Value) → args ≡ [] → locals_with locals n args ≡ Some locals
unfolding locals_with
all_placed locals n args e = ap (locals_with locals n) e
