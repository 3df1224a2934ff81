-- Places of texts in lists.
use Rattle.std.proofs.Common.{◌≡◌, ◌∙◌, refl, sym, ap, cond, ℕ, ◌+◌, ◌≤◌, ◌<◌, ◌==◌, suc, Bool, true, false, not, nat_lt, List, [], ◌∷◌, ◌++◌, length, position, Option, Some, None, is_some, true≢false, take, get_or, arith}
use Rattle.std.proofs.Math.Seq.{take-suc}
use Rattle.std.proofs.lemmas.List.{length-take-le, length-append}
use Rattle.std.proofs.lemmas.List.Folds.{position_or_len_push}
use Rattle.std.specs.Cmp.Lexicographic.{bytes_decides, nat_list_eq_equiv}
use Rattle.std.specs.List.{position_or_len}
use Rattle.std.specs.Str.{bytes_eq}
use Rattle.indexmap.specs.IndexMap.{IndexMap, get_by, Updates}
use Rattle.linker_outline.specs.Indexed.{IsIndexed, place_or}

module _ {A : Type 0} (p : A → Bool) where
  -- the first place is in the list, or right behind it
  within : (xs : List A) → position_or_len p xs ≤ length xs
  within [] = omega arith
  within (x ∷ xs) = by (p x) (within xs)
    where
      by : (b : Bool) → position_or_len p xs ≤ length xs → cond (not b) (1 + position_or_len p xs) 0 ≤ suc (length xs)
      by true h = omega arith
      by false h = omega (arith, h)

  -- the first place, with one more item behind
  pub position_push : (xs : List A) (x : A) → position p (xs ++ x ∷ []) ≡ place_or (position p xs) (p x) (length xs)
  position_push xs x =
      at (position_or_len p xs) (length xs) (position_or_len p (xs ++ x ∷ [])) (length (xs ++ x ∷ [])) (p x) (within xs) (position_or_len_push p xs x) (omega (arith, length-append xs (x ∷ [])))
    where
      at : (k n j m : ℕ) (b : Bool) → k ≤ n → j ≡ cond (k == n) (n + cond b 0 1) k → m ≡ n + 1 → cond (nat_lt j m) (Some j) None ≡ place_or (cond (nat_lt k n) (Some k) None) b n
      at k n j m true le e l = by (nat_lt k n) refl
        where
          by : (c : Bool) → nat_lt k n ≡ c → cond (nat_lt j m) (Some j) None ≡ place_or (cond (nat_lt k n) (Some k) None) true n
          by c q = grind (arith, le, e, l)
      at k n j m false le e l = grind (arith, le, e, l)

-- equal texts are one
same_text : (a b : List ℕ) → bytes_eq a b ≡ true → a ≡ b
same_text a b h = (bytes_decides a b).0 h

module _ {S : Type 0} (old new : IndexMap (List ℕ) ℕ S) (name : List ℕ) (place : ℕ) where
  -- a name that has a place keeps it
  pub known_place : is_some (get_by (bytes_eq name) old) ≡ true → (text : List ℕ) → get_by (bytes_eq text) old ≡ place_or (get_by (bytes_eq text) old) (bytes_eq text name) place
  known_place h text = by (get_by (bytes_eq text) old) (bytes_eq text name) refl refl
    where
      by : (o : Option ℕ) (b : Bool) → get_by (bytes_eq text) old ≡ o → bytes_eq text name ≡ b → o ≡ place_or o b place
      by (Some i) b p q = refl
      by None false p q = refl
      by None true p q = absurd (true≢false (sym h ∙ ap (λ n. is_some (get_by (bytes_eq n) old)) (sym (same_text text name q)) ∙ ap is_some p))

  -- a new one gets that place
  pub new_place : is_some (get_by (bytes_eq name) old) ≡ false → Updates bytes_eq old new name (Some place)
      → (text : List ℕ) → get_by (bytes_eq text) new ≡ place_or (get_by (bytes_eq text) old) (bytes_eq text name) place
  new_place h u text = u.0 text ∙ by (get_by (bytes_eq text) old) (bytes_eq text name) refl refl ∙ ap (λ b. place_or (get_by (bytes_eq text) old) b place) refl
    where
      turned : bytes_eq name text ≡ bytes_eq text name
      turned = nat_list_eq_equiv.symm name text

      by : (o : Option ℕ) (b : Bool) → get_by (bytes_eq text) old ≡ o → bytes_eq text name ≡ b → cond (bytes_eq name text) (Some place) o ≡ place_or o b place
      by (Some i) true p q = absurd (true≢false (sym (ap is_some p) ∙ ap (λ n. is_some (get_by (bytes_eq n) old)) (same_text text name q) ∙ h))
      by (Some i) false p q = ap (λ b. cond b (Some place) (Some i)) (turned ∙ q)
      by None b p q = ap (λ b. cond b (Some place) None) (turned ∙ q)

-- one name more of the list is noted
pub noted : {S : Type 0} (names : List (List ℕ)) (i : ℕ) (name : List ℕ) (old new : IndexMap (List ℕ) ℕ S) → i < length names → name ≡ get_or names i name
    → ((text : List ℕ) → get_by (bytes_eq text) new ≡ place_or (get_by (bytes_eq text) old) (bytes_eq text name) i) → IsIndexed (take i names) old → IsIndexed (take (i + 1) names) new
noted names i name old new le is new_is h text =
    new_is text ∙ ap (λ o. place_or o (bytes_eq text name) i) (h text)
    ∙ ap (place_or (position (bytes_eq text) (take i names)) (bytes_eq text name)) (sym (length-take-le i names (omega (arith, le))))
    ∙ sym (position_push (bytes_eq text) (take i names) name)
    ∙ ap (position (bytes_eq text)) (ap (λ x. take i names ++ x ∷ []) is ∙ sym (take-suc names i name le) ∙ ap (λ n. take n names) (next i))
  where
    next : (i : ℕ) → suc i ≡ i + 1
    next i = omega arith
