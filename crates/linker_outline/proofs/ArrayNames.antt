-- The array classes of a class name, by its dimensions.
use Rattle.std.proofs.Common.{◌≡◌, ◌∙◌, refl, sym, ap, ℕ, zero, suc, ◌+◌, ◌≤◌, ◌<◌, ◌==◌, Bool, true, false, List, [], ◌∷◌, ◌++◌, length, drop, get_or, ◌-◌, if◌then◌else◌, arith}
use Rattle.std.proofs.lemmas.List.{drop_all, drop_more, drop-drop}
use Rattle.std.specs.List.{list_any}
use Rattle.std.specs.Str.{bytes_eq}
use Rattle.jx_base.specs.Basics.{added, all_added}
use Rattle.link_model.specs.ClassFiles.{arrays_of_name}
use Rattle.link_model.specs.LinkFaults.{dimensions_of}
use Rattle.jx_base.proofs.BasicLaws.{eq_of}
use Rattle.linker_outline.proofs.SelectorLists.{added_last}

-- a name without dimensions is no array
pub no_arrays : (xs : List ℕ) → dimensions_of xs ≡ 0 → arrays_of_name xs ≡ []
unfolding dimensions_of arrays_of_name
no_arrays [] e = refl
no_arrays (x ∷ xs) e = by (x == 91) e
  where
    by : (b : Bool) → (elim b as (λ _. ℕ) [ true ↦ suc (dimensions_of xs) | false ↦ 0 ]) ≡ 0 → (elim b as (λ _. List (List ℕ)) [ true ↦ arrays_of_name xs ++ (x ∷ xs) ∷ [] | false ↦ [] ]) ≡ []
    by true q = absurd (omega (arith, q))
    by false q = refl

-- a name with a dimension is one array more than the name behind it
pub one_array : (xs : List ℕ) (k : ℕ) → dimensions_of xs ≡ suc k → arrays_of_name xs ≡ arrays_of_name (drop 1 xs) ++ xs ∷ []
unfolding dimensions_of arrays_of_name
one_array [] k e = absurd (omega (arith, e))
one_array (x ∷ xs) k e = by (x == 91) e
  where
    by : (b : Bool) → (elim b as (λ _. ℕ) [ true ↦ suc (dimensions_of xs) | false ↦ 0 ]) ≡ suc k → (elim b as (λ _. List (List ℕ)) [ true ↦ arrays_of_name xs ++ (x ∷ xs) ∷ [] | false ↦ [] ]) ≡ arrays_of_name xs ++ (x ∷ xs) ∷ []
    by true q = refl
    by false q = absurd (omega (arith, q))

-- behind i units of a name with as many dimensions there are so many fewer
pub fewer : (xs : List ℕ) (i : ℕ) → i ≤ dimensions_of xs → dimensions_of (drop i xs) + i ≡ dimensions_of xs
unfolding dimensions_of
fewer xs zero le = omega arith
fewer [] (suc i) le = absurd (omega (arith, le))
fewer (x ∷ xs) (suc i) le = by (x == 91) le (fewer xs i)
  where
    by : (b : Bool) → suc i ≤ (elim b as (λ _. ℕ) [ true ↦ suc (dimensions_of xs) | false ↦ 0 ]) → (i ≤ dimensions_of xs → dimensions_of (drop i xs) + i ≡ dimensions_of xs)
        → dimensions_of (drop i xs) + suc i ≡ (elim b as (λ _. ℕ) [ true ↦ suc (dimensions_of xs) | false ↦ 0 ])
    by true q again = omega (arith, again (omega (arith, q)))
    by false q again = absurd (omega (arith, q))

-- ---- at a place of a name

-- the mark of an array there
pub dimension_more : (xs : List ℕ) (i x : ℕ) → i < length xs → x ≡ get_or xs i x → (x == 91) ≡ true → dimensions_of (drop i xs) ≡ suc (dimensions_of (drop (i + 1) xs))
unfolding dimensions_of
dimension_more xs i x le is mark = ap dimensions_of (drop_more xs i x le) ∙ ap (λ y. dimensions_of (y ∷ drop (i + 1) xs)) (sym is) ∙ ap (λ b. elim b as (λ _. ℕ) [ true ↦ suc (dimensions_of (drop (i + 1) xs)) | false ↦ 0 ]) mark

-- another unit there
pub dimension_other : (xs : List ℕ) (i x : ℕ) → i < length xs → x ≡ get_or xs i x → (x == 91) ≡ false → dimensions_of (drop i xs) ≡ 0
unfolding dimensions_of
dimension_other xs i x le is other = ap dimensions_of (drop_more xs i x le) ∙ ap (λ y. dimensions_of (y ∷ drop (i + 1) xs)) (sym is) ∙ ap (λ b. elim b as (λ _. ℕ) [ true ↦ suc (dimensions_of (drop (i + 1) xs)) | false ↦ 0 ]) other

-- the end there
pub dimension_end : (xs : List ℕ) (i : ℕ) → length xs ≤ i → dimensions_of (drop i xs) ≡ 0
unfolding dimensions_of
dimension_end xs i le = ap dimensions_of (drop_all i xs le)

-- an inserted text is one added
pub inserted : (texts : List (List ℕ)) (text : List ℕ) → (if list_any (bytes_eq text) texts then texts else texts ++ text ∷ []) ≡ added bytes_eq texts text
unfolding added
inserted texts text = refl

-- one array class more
pub arrays_more : (first texts : List (List ℕ)) (xs : List ℕ) (i : ℕ) → i < dimensions_of xs → texts ≡ all_added bytes_eq first (arrays_of_name (drop (i + 1) xs))
    → added bytes_eq texts (drop i xs) ≡ all_added bytes_eq first (arrays_of_name (drop i xs))
arrays_more first texts xs i le h =
    ap (λ ts. added bytes_eq ts (drop i xs)) h
    ∙ sym (added_last bytes_eq first (arrays_of_name (drop (i + 1) xs)) (drop i xs))
    ∙ ap (λ ns. all_added bytes_eq first (ns ++ drop i xs ∷ [])) (ap arrays_of_name (sym (drop-drop 1 i xs)))
    ∙ ap (all_added bytes_eq first) (sym (one_array (drop i xs) (dimensions_of (drop i xs) - 1) (omega (arith, fewer xs i (omega (arith, le)), le))))

-- a number that is no other fails the test
pub not_same : (x y : ℕ) → (x ≡ y → ⊥) → (x == y) ≡ false
not_same x y other = by (x == y) refl
  where
    by : (b : Bool) → (x == y) ≡ b → b ≡ false
    by true e = absurd (other (eq_of x y e))
    by false e = refl
