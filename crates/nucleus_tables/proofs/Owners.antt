-- Which services a domain exported.
use Rattle.std.proofs.Common.{◌≡◌, sym, ◌∙◌, ap, ℕ, ◌-◌, ◌<◌, false, List, length, Option, Some, None, arith, ◌==◌, ◌⊎◌, inl, inr}
use Rattle.std.specs.Option.{option_and_then, option_map}
use Rattle.std.proofs.lemmas.Option.{slice_get_past}
use Rattle.table_threads.proofs.Numbered.{numbered_place, numbered_zero}
use Rattle.jx_base.specs.declared.ids.ClassId.{ClassId}
use Rattle.jx_base.specs.Basics.{is_number, numbered}
use Rattle.jx_model.specs.Tables.{ServiceRecord}
use Rattle.table_steps.specs.Steps.{owns}

-- an owner with an interface
abbrev pub Told : Type 0
Told = ℕ × ClassId

-- the owner that the table tells
pub told : (services : List ServiceRecord) (d k o : ℕ) (c : ClassId) (x : Option Told) → x ≡ Some (o, c) →
    x ≡ option_and_then (λ (s : ServiceRecord). option_map (λ c. (s.owner, c)) s.interface) (numbered services k) → (o == d) ≡ owns services d k
unfolding is_number
told services d k o c x p q = by (numbered services k) (sym p ∙ q)
  where
    by : (r : Option ServiceRecord) → (let x : Option Told = Some (o, c) in x) ≡ option_and_then (λ (s : ServiceRecord). option_map (λ c. (s.owner, c)) s.interface) r →
        (o == d) ≡ is_number (option_map (λ item. item.owner) r) d
    by None q = cc
    by (Some s) q = inside s.interface q
      where
        inside : (i : Option ClassId) → (let x : Option Told = Some (o, c) in x) ≡ option_map (λ c. (s.owner, c)) i → (o == d) ≡ (s.owner == d)
        inside None q = cc
        inside (Some e) q = ap (λ (x : Option Told). first x == d) q
          where
            first : Option Told → ℕ
            first None = 0
            first (Some x) = x.0

-- without a record nobody owns it
pub unowned : (services : List ServiceRecord) (d k : ℕ) → numbered services k ≡ None → false ≡ owns services d k
unfolding is_number
unowned services d k q = sym (ap (λ (r : Option ServiceRecord). is_number (option_map (λ item. item.owner) r) d) q)

-- nobody owns service 0, or one behind the last
pub owns_no : (services : List ServiceRecord) (d k : ℕ) → (k ≡ 0) ⊎ (length services < k) → owns services d k ≡ false
owns_no services d k h = sym (unowned services d k (absent h))
  where
    absent : (k ≡ 0) ⊎ (length services < k) → numbered services k ≡ None
    absent (inl e) = numbered_zero services k (omega (arith, e))
    absent (inr l) = numbered_place services k (omega (arith, l)) ∙ slice_get_past services (k - 1) (omega (arith, l))
