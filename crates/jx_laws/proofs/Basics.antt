-- Small facts on tests, options and moments.
use Rattle.std.proofs.Common.{◌≡◌, refl, sym, ◌∙◌, ap, ℕ, ◌+◌, ◌<◌, ◌≤◌, ◌⊎◌, Bool, true, false, not, ◌&&◌, ◌||◌, [], ◌∷◌, Option, Some, None, is_some, is_none, arith, ◌==◌}
use Rattle.std.specs.List.{list_any}
use Rattle.std.proofs.lemmas.Bool.Decides.{nat_tests}
use Rattle.jx_base.specs.declared.act.Entry.{Entry}
use Rattle.jx_base.specs.Histories.{Past, nth_entry, count_where}
use Rattle.jx_model.specs.Moments.{IsMoment, NonePasses}

-- a test that can't pass fails
pub fails : (b : Bool) → (b ≡ true → ⊥) → b ≡ false
fails false f = refl
fails true f = absurd (f refl)

-- a test that can't fail passes
pub holds : (b : Bool) → (b ≡ false → ⊥) → b ≡ true
holds true f = refl
holds false f = absurd (f refl)

-- no test both passes and fails
pub clash : {A : Type 0} (b : Bool) → b ≡ true → b ≡ false → A
clash b h i = cc

-- the negation of a test that fails passes
pub turned : (b : Bool) → not b ≡ true → b ≡ false
turned false h = refl
turned true h = cc

-- a test whose negation fails passes
pub unturned : (b : Bool) → not b ≡ false → b ≡ true
unturned true h = refl
unturned false h = cc

-- what stands where a test passes
pub value_of : {A : Type 0} (o : Option A) → is_some o ≡ true → (x : A) × (o ≡ Some x)
value_of None h = cc
value_of (Some x) h = (x, refl)

-- nothing stands where the test fails
pub none_of : {A : Type 0} (o : Option A) → is_none o ≡ true → o ≡ None
none_of None h = refl
none_of (Some x) h = cc

-- what passes nowhere in a list doesn't pass at its head or behind it
pub neither : (x y : Bool) → (x || y) ≡ false → (x ≡ false) × (y ≡ false)
neither true y h = cc
neither false y h = (refl, h)

-- one of two tests passes
pub or_first : (x y : Bool) → x ≡ true → (x || y) ≡ true
or_first true y h = refl
or_first false y h = cc

-- the second of two tests passes
pub or_second : (x y : Bool) → y ≡ true → (x || y) ≡ true
or_second true y h = refl
or_second false y h = h

-- a number lies within another or above it
pub within_or_above : (x y : ℕ) → (x ≤ y) ⊎ (y < x)
within_or_above x y = grind arith

-- none passes in a longer past, where the new entry doesn't pass and none did before
pub none_more : (p : Entry → Bool) (e : Entry) (past : Past) → p e ≡ false → NonePasses p past → NonePasses p (e ∷ past)
none_more p e past h i = ap (λ (b : Bool). b || list_any p past) h ∙ i

-- the moment of an entry of a past, after an entry more
pub moment_more : (e x : Entry) (past before : Past) → IsMoment past x before → IsMoment (e ∷ past) x before
moment_more e x past before m = (e ∷ m.0, ap (λ (p : Past). e ∷ p) m.1)

-- the n-th entry that passes stands in the past, with n - 1 that pass before it
pub record IsNth (p : Entry → Bool) (past : Past) (n : ℕ) (x : Entry) : Type 0 where
  pub before : Past
  pub moment : IsMoment past x before
  pub passes : p x ≡ true
  pub number : n ≡ count_where p before + 1

-- the n-th entry that passes has its moment
pub nth_moment : (p : Entry → Bool) (past : Past) (n : ℕ) (x : Entry) → nth_entry p past n ≡ Some x → IsNth p past n x
unfolding nth_entry
nth_moment p [] n x h = cc
nth_moment p (e ∷ past) n x h = by (p e) (n == count_where p past + 1) refl refl h (nth_moment p past n x)
  where
    same : (k l : ℕ) → (k == l) ≡ true → k ≡ l
    same k l q = grind (arith, nat_tests)

    later : IsNth p past n x → IsNth p (e ∷ past) n x
    later i = record { before = i.before; moment = moment_more e x past i.before i.moment; passes = i.passes; number = i.number }

    by : (a b : Bool) → p e ≡ a → (n == count_where p past + 1) ≡ b → (elim (a && b) as (λ _. Option Entry) [ true ↦ Some e | false ↦ nth_entry p past n ]) ≡ Some x →
        (nth_entry p past n ≡ Some x → IsNth p past n x) → IsNth p (e ∷ past) n x
    by true true q r h again =
        let z : e ≡ x = cc in
        record { before = past; moment = ([], ap (λ (y : Entry). y ∷ past) z); passes = ap p (sym z) ∙ q; number = same n (count_where p past + 1) r }
    by true false q r h again = later (again h)
    by false b q r h again = later (again h)
