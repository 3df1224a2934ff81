-- Where a list of printed items ends.
use Rattle.std.proofs.Common.{◌≡◌, ℕ, List, [], ◌∷◌, ◌++◌, map, refl, sym, ◌∙◌}
use Rattle.std.specs.List.{AllByRecursion}
use Rattle.jx_base.specs.Texts.{spaced}
use Rattle.audit_model.specs.Audit.{Bytes}
use Rattle.audit_laws.proofs.Cuts.{parts_of_cons}
use Rattle.audit_laws.proofs.Numbers.{Ends}
use Rattle.audit_laws.proofs.Lines.{words_before, spaced_words}

-- items that pass can be taken off rests, and none begins with the unit e
pub record TakesOff {A : Type 0} (f : A → Bytes) (P : A → Type 0) (e : ℕ) : Type 0 where
  pub ending : Ends (e ∷ [])
  pub no_blank : e ≡ 32 → ⊥
  pub takes : (x y : A) (r q : Bytes) → P x → P y → Ends r → Ends q → f x ++ r ≡ f y ++ q → (x ≡ y) × (r ≡ q)
  pub begins : (x : A) (r q : Bytes) → f x ++ r ≡ e ∷ q → ⊥

module _ {A : Type 0} (f : A → Bytes) (P : A → Type 0) (e : ℕ) (takes_off : TakesOff f P e) where
  -- what stands behind an item begins with a blank or with the unit e
  rest_ends : (xs : List A) (r : Bytes) → Ends (words_before (map f xs) (e ∷ r))
  rest_ends [] r = takes_off.ending
  rest_ends (x ∷ xs) r = refl

  -- items behind blanks, before the unit e and rests, are taken off
  later_items : (xs ys : List A) (r q : Bytes) → AllByRecursion P xs → AllByRecursion P ys →
      words_before (map f xs) (e ∷ r) ≡ words_before (map f ys) (e ∷ q) → (xs ≡ ys) × (r ≡ q)
  later_items [] [] r q h k g = (refl, (parts_of_cons g).1)
  later_items [] (y ∷ ys) r q h k g = absurd (takes_off.no_blank (parts_of_cons g).0)
  later_items (x ∷ xs) [] r q h k g = absurd (takes_off.no_blank (sym (parts_of_cons g).0))
  later_items (x ∷ xs) (y ∷ ys) r q h k g =
      let c = takes_off.takes x y _ _ h.0 k.0 (rest_ends xs r) (rest_ends ys q) (parts_of_cons g).1 in
      let m = later_items xs ys r q h.1 k.1 c.1 in ((λ t. c.0 t ∷ m.0 t), m.1)

  -- items with blanks between, before the unit e and rests, are taken off
  pub items_take : (xs ys : List A) (r q : Bytes) → AllByRecursion P xs → AllByRecursion P ys →
      spaced (map f xs) ++ e ∷ r ≡ spaced (map f ys) ++ e ∷ q → (xs ≡ ys) × (r ≡ q)
  unfolding spaced
  items_take [] [] r q h k g = (refl, (parts_of_cons g).1)
  items_take [] (y ∷ ys) r q h k g = absurd (takes_off.begins y _ r (sym (spaced_words (f y) (map f ys) (e ∷ q)) ∙ sym g))
  items_take (x ∷ xs) [] r q h k g = absurd (takes_off.begins x _ q (sym (spaced_words (f x) (map f xs) (e ∷ r)) ∙ g))
  items_take (x ∷ xs) (y ∷ ys) r q h k g =
      let c = takes_off.takes x y _ _ h.0 k.0 (rest_ends xs r) (rest_ends ys q) (sym (spaced_words (f x) (map f xs) (e ∷ r)) ∙ g ∙ spaced_words (f y) (map f ys) (e ∷ q)) in
      let m = later_items xs ys r q h.1 k.1 c.1 in ((λ t. c.0 t ∷ m.0 t), m.1)
