use Rattle.std.proofs.Common.{◌≡◌, refl, ℕ, true, false, Option, Some, None, is_some}
use Rattle.nucleus_calls.specs.CallActs.{ridden, with_carried}
use Rattle.nucleus_tables.specs.declared.tables.Tables.{Tables}
use Rattle.jx_base.specs.declared.value.Parcel.{Parcel}

-- where there is a place, what the parcel carries rides
carried_some : (x : Tables) (o : Option ℕ) (p : Parcel) → is_some o ≡ true → (let y : Tables = record x { space = ridden p x.space } in y) ≡ with_carried x o p
carried_some x None p q = cc
carried_some x (Some i) p q = refl

-- else nothing does
carried_none : (x : Tables) (o : Option ℕ) (p : Parcel) → is_some o ≡ false → x ≡ with_carried x o p
carried_none x None p q = refl
carried_none x (Some i) p q = cc
