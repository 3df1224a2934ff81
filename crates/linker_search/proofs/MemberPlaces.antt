-- Maps of members with one more place.
use Rattle.std.proofs.Common.{◌≡◌, ◌∙◌, refl, sym, ap, cond, ℕ, ◌==◌, Bool, true, false, Option, Some, None, is_some, true≢false}
use Rattle.std.specs.Prelude.{◌&&◌}
use Rattle.std.specs.Cmp.Lexicographic.{nat_list_eq_equiv}
use Rattle.indexmap.specs.IndexMap.{IndexMap, Updates}
use Rattle.jx_base.specs.declared.program.Selector.{Selector}
use Rattle.jx_base.proofs.BasicLaws.{ap2}
use Rattle.linker_outline.specs.Indexed.{place_or}
use Rattle.linker_search.specs.KeysAlike.{class_alike, same_member, selector_alike}
use Rattle.linker_search.specs.Places.{is_at, place_in}
use Rattle.linker_search.specs.declared.places.Key.{Key}
use Rattle.program_model.specs.Lookup.{same_selector}

-- whether two keys are one
abbrev same_key : Key → Key → Bool
same_key k = is_at k.class k.selector

module _ {S : Type 0} (old new : IndexMap Key ℕ S) (key : Key) (place c : ℕ) (x : Selector) where
  -- whether the key is that of the member
  abbrev is_member : Bool
  is_member = (key.class == c) && same_selector x key.selector

  -- seen from the key
  turned : same_member key.class key.selector c x ≡ is_member
  unfolding same_selector
  turned = ap2 (λ a b. (key.class == c) && (a && b)) (nat_list_eq_equiv.symm key.selector.name x.name) (nat_list_eq_equiv.symm key.selector.descriptor x.descriptor)

  -- the key of the member leads to its place
  one_place : {T : Type 0} (m : IndexMap Key ℕ T) → is_member ≡ true → place_in m key.class key.selector ≡ place_in m c x
  one_place m h =
      ap2 (λ d y. place_in m d y) (class_alike key.class key.selector c x (turned ∙ h)) (selector_alike key.class key.selector c x (turned ∙ h))

  -- a member that has a place keeps it
  pub known_place : is_some (place_in old key.class key.selector) ≡ true → place_in old c x ≡ place_or (place_in old c x) is_member place
  known_place h = by (place_in old c x) is_member refl refl
    where
      by : (o : Option ℕ) (b : Bool) → place_in old c x ≡ o → is_member ≡ b → o ≡ place_or o b place
      by (Some i) b p q = refl
      by None false p q = refl
      by None true p q = absurd (true≢false (sym h ∙ ap is_some (one_place old q ∙ p)))

  -- a new one gets that place
  pub new_place : is_some (place_in old key.class key.selector) ≡ false → Updates same_key old new key (Some place) → place_in new c x ≡ place_or (place_in old c x) is_member place
  new_place h u = u.0 (record { class = c; selector = x }) ∙ ap (λ b. cond b (Some place) (place_in old c x)) turned ∙ by (place_in old c x) is_member refl refl
    where
      by : (o : Option ℕ) (b : Bool) → place_in old c x ≡ o → is_member ≡ b → cond b (Some place) o ≡ place_or o b place
      by (Some i) false p q = refl
      by (Some i) true p q = absurd (true≢false (sym (ap is_some (one_place old q ∙ p)) ∙ h))
      by None false p q = refl
      by None true p q = refl
