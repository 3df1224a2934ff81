-- Keys as the selectors that they are.
use Rattle.std.proofs.Common.{◌≡◌, ◌∙◌, refl, sym, ap, cond, ◌+◌, Bool, true, false, not, ◌||◌, List, [], ◌∷◌, ◌++◌, map, position, Some, None, nat_lt, if◌then◌else◌}
use Rattle.std.proofs.lemmas.List.{length-map, map-append}
use Rattle.std.specs.List.{list_any, position_or_len}
use Rattle.jx_base.specs.Basics.{added}
use Rattle.jx_base.specs.declared.program.Selector.{Selector}
use Rattle.jx_base.proofs.BasicLaws.{ap2}
use Rattle.program_model.specs.Lookup.{same_selector}
use Rattle.linker_outline.specs.declared.selectors.Key.{Key}
use Rattle.linker_outline.specs.Keys.{selector_of_key}
use Rattle.linker_outline.specs.KeysAlike.{same_texts}

-- whether the key is that selector
abbrev pub is_key_of : Selector → Key → Bool
is_key_of s k = same_texts s.name s.descriptor k.name k.descriptor

-- a key is the selector where its selector is
pub same_key : (s : Selector) (k : Key) → same_selector s (selector_of_key k) ≡ is_key_of s k
unfolding same_selector
same_key s k = refl

-- whether a key is the selector
pub any_key : (s : Selector) (ks : List Key) → list_any (same_selector s) (map selector_of_key ks) ≡ list_any (is_key_of s) ks
any_key s [] = refl
any_key s (k ∷ ks) = ap2 (λ a b. a || b) (same_key s k) (any_key s ks)

-- the place of the first such key
first_key : (s : Selector) (ks : List Key) → position_or_len (same_selector s) (map selector_of_key ks) ≡ position_or_len (is_key_of s) ks
first_key s [] = refl
first_key s (k ∷ ks) = ap2 (λ a n. cond (not a) (1 + n) 0) (same_key s k) (first_key s ks)

-- the place of the first such key
pub place_of_key : (s : Selector) (ks : List Key) → position (same_selector s) (map selector_of_key ks) ≡ position (is_key_of s) ks
place_of_key s ks = ap2 (λ k n. cond (nat_lt k n) (Some k) None) (first_key s ks) (length-map ks selector_of_key)

-- an added key is the selector added
pub key_added : (s : Selector) (k : Key) (ks : List Key) → selector_of_key k ≡ s → map selector_of_key (if list_any (is_key_of s) ks then ks else ks ++ k ∷ []) ≡ added same_selector (map selector_of_key ks) s
unfolding added
key_added s k ks e = by (list_any (is_key_of s) ks) ∙ ap (λ b. if b then map selector_of_key ks else map selector_of_key ks ++ s ∷ []) (sym (any_key s ks))
  where
    by : (b : Bool) → map selector_of_key (if b then ks else ks ++ k ∷ []) ≡ (if b then map selector_of_key ks else map selector_of_key ks ++ s ∷ [])
    by true = refl
    by false = map-append selector_of_key ks (k ∷ []) ∙ ap (λ x. map selector_of_key ks ++ x ∷ []) e
