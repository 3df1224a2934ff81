-- Exports from the first one to the last.
use Rattle.std.proofs.Common.{◌≡◌, refl, sym, ◌∙◌, ap, cond, ℕ, ◌+◌, ◌<◌, Bool, true, false, List, [], ◌∷◌, ◌++◌, length, take, get_or, Option, Some, None, arith, if◌then◌else◌, ◌==◌, is_some, nat_eq, nat_le}
use Rattle.std.proofs.lemmas.List.{take_more}
use Rattle.std.proofs.lemmas.Bool.Decides.{nat_tests}
use Rattle.std.specs.Map.{lookup}
use Rattle.indexmap.specs.IndexMap.{IndexMap, IsEmpty, get, Updates}
use Rattle.jx_base.specs.declared.states.Exported.{Exported}
use Rattle.jx_base.specs.declared.value.Value.{Value}
use Rattle.jx_base.specs.declared.value.Value.TheVariants as value
use Rattle.program_model.specs.Parcels.{lesser_export, export_at, reference_of}
use Rattle.param_copy.specs.Exports.{LeadsToLeast, lesser_of}

-- ---- one export more

module _ (x y z : Exported) where
  -- the least of three, from the right and from the left
  least_of_three : lesser_export x (Some (lesser_export y (Some z))) ≡ lesser_export (lesser_export x (Some y)) (Some z)
  unfolding lesser_export
  least_of_three = by (nat_le x.service.0 y.service.0) (nat_le y.service.0 z.service.0) (nat_le x.service.0 z.service.0) refl refl refl
    where
      middle : (a b c : Bool) → nat_le x.service.0 y.service.0 ≡ a → nat_le y.service.0 z.service.0 ≡ b → nat_le x.service.0 z.service.0 ≡ c →
          lesser_export x (Some (if b then y else z)) ≡ lesser_export (if a then x else y) (Some z)
      middle true true true p q r = ap (λ (t : Bool). if t then x else y) p ∙ sym (ap (λ (t : Bool). if t then x else z) r)
      middle true true false p q r = absurd (grind (arith, nat_tests))
      middle true false c p q r = refl
      middle false true c p q r = ap (λ (t : Bool). if t then x else y) p ∙ sym (ap (λ (t : Bool). if t then y else z) q)
      middle false false true p q r = absurd (grind (arith, nat_tests))
      middle false false false p q r = ap (λ (t : Bool). if t then x else z) r ∙ sym (ap (λ (t : Bool). if t then y else z) q)

      by : (a b c : Bool) → nat_le x.service.0 y.service.0 ≡ a → nat_le y.service.0 z.service.0 ≡ b → nat_le x.service.0 z.service.0 ≡ c →
          lesser_export x (Some (lesser_export y (Some z))) ≡ lesser_export (lesser_export x (Some y)) (Some z)
      by a b c p q r =
          ap (λ (t : Bool). lesser_export x (Some (if t then y else z))) q ∙ middle a b c p q r
          ∙ sym (ap (λ (t : Bool). lesser_export (if t then x else y) (Some z)) p)

-- an object's export, where there is one export more behind the others that is its or isn't
abbrev with_one : Option Exported → Exported → Bool → Option Exported
with_one o x true = Some (lesser_of o x)
with_one o x false = o

export_behind : (exports : List Exported) (x : Exported) (r : ℕ) → export_at (exports ++ x ∷ []) r ≡ with_one (export_at exports r) x (x.object == r)
unfolding export_at lesser_export
export_behind [] x r = by (x.object == r)
  where
    by : (b : Bool) → (if b then Some x else None) ≡ with_one None x b
    by true = refl
    by false = refl
export_behind (y ∷ exports) x r =
    ap (λ (o : Option Exported). if y.object == r then Some (lesser_export y o) else o) (export_behind exports x r)
    ∙ by (y.object == r) (x.object == r) (export_at exports r)
  where
    by : (a b : Bool) (o : Option Exported) →
        (if a then Some (lesser_export y (with_one o x b)) else with_one o x b) ≡ with_one (if a then Some (lesser_export y o) else o) x b
    by true true None = refl
    by true true (Some z) = ap Some (least_of_three y z x)
    by true false o = refl
    by false b o = refl

-- some export
abbrev pub none : Exported
none = record { object = 0; service = record { 0 = 0 }; iface = record { 0 = 0 } }

-- an empty map leads nowhere
pub leads_nowhere : {S : Type 0} (map : IndexMap ℕ Exported S) → IsEmpty map → LeadsToLeast map []
unfolding export_at
leads_nowhere map empty r = ap (λ entries. lookup (nat_eq r) entries) empty

-- a map that leads to the least of the first exports does so with one more
pub leads_further : {S : Type 0} (old new : IndexMap ℕ Exported S) (exports : List Exported) (i : ℕ) (x : Exported) → i < length exports → x ≡ get_or exports i x →
    LeadsToLeast old (take i exports) → Updates nat_eq old new x.object (Some (lesser_of (get nat_eq old x.object) x)) → LeadsToLeast new (take (i + 1) exports)
leads_further old new exports i x lt at leads updates r =
    updates.0 r ∙ by (nat_eq x.object r) (x.object == r) (grind (arith, nat_tests)) refl
    ∙ sym (export_behind (take i exports) x r)
    ∙ ap (λ xs. export_at xs r) (sym (take_more exports i x lt ∙ ap (λ y. take i exports ++ y ∷ []) (sym at)))
  where
    by : (a b : Bool) → a ≡ b → (x.object == r) ≡ b →
        cond a (Some (lesser_of (get nat_eq old x.object) x)) (get nat_eq old r) ≡ with_one (export_at (take i exports) r) x (x.object == r)
    by a true e h =
        let same : x.object ≡ r = grind (arith, nat_tests) in
        ap (λ (t : Bool). cond t (Some (lesser_of (get nat_eq old x.object) x)) (get nat_eq old r)) e
        ∙ ap (λ o. Some (lesser_of o x)) (leads x.object ∙ ap (export_at (take i exports)) same)
        ∙ sym (ap (with_one (export_at (take i exports) r) x) h)
    by a false e h =
        ap (λ (t : Bool). cond t (Some (lesser_of (get nat_eq old x.object) x)) (get nat_eq old r)) e
        ∙ leads r
        ∙ sym (ap (with_one (export_at (take i exports) r) x) h)

-- ---- references

pub kept_reference : (exports : List Exported) (r : ℕ) → is_some (export_at exports r) ≡ false → reference_of exports (value.Ref r) ≡ r ∷ []
unfolding reference_of
kept_reference exports r e = ap (λ (b : Bool). if b then [] else r ∷ []) e

pub exported_reference : (exports : List Exported) (r : ℕ) → is_some (export_at exports r) ≡ true → reference_of exports (value.Ref r) ≡ []
unfolding reference_of
exported_reference exports r e = ap (λ (b : Bool). if b then [] else r ∷ []) e

pub no_reference : (exports : List Exported) (v : Value) → ((r : ℕ) → v ≡ value.Ref r → ⊥) → reference_of exports v ≡ []
unfolding reference_of
no_reference exports (value.Int n) h = refl
no_reference exports (value.Long n) h = refl
no_reference exports value.Null h = refl
no_reference exports (value.Portal s c) h = refl
no_reference exports (value.Mem m) h = refl
no_reference exports (value.Ref r) h = absurd (h r refl)
