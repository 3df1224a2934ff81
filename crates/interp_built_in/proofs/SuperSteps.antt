-- Whether a class was reached, by the answer of the search.
use Rattle.std.proofs.Common.{◌≡◌, refl, ℕ, Bool, true, false, Option, Some, None, is_some, if◌then◌else◌}
use Rattle.std.specs.Option.{option_map}
use Rattle.jx_base.specs.declared.ids.ClassId.{ClassId}

-- the number where the test holds
abbrev pub where_reached : ℕ → Bool → Option ℕ
where_reached above b = if b then Some above else None

pub is_reached : (above : ℕ) (b : Bool) (o : Option ClassId) → option_map (λ c. c.0) o ≡ where_reached above b → is_some o ≡ true → b ≡ true
is_reached above true o e h = refl
is_reached above false None e h = cc
is_reached above false (Some c) e h = cc

pub is_not_reached : (above : ℕ) (b : Bool) (o : Option ClassId) → option_map (λ c. c.0) o ≡ where_reached above b → is_some o ≡ false → b ≡ false
is_not_reached above false o e h = refl
is_not_reached above true None e h = cc
is_not_reached above true (Some c) e h = cc
