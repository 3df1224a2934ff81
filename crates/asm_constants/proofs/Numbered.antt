-- Look-ups among the entries of a pool.
use Rattle.std.proofs.Common.{◌≡◌, ◌∙◌, ℕ, ◌+◌, refl, sym, ap, subst, cond, Bool, true, false, List, [], ◌∷◌, ◌++◌, Some, is_some, add_assoc, arith}
use Rattle.std.specs.Prelude.{◌&&◌, ◌||◌, if◌then◌else◌, sum_by, unwrap_or}
use Rattle.std.specs.List.{list_any, list_all}
use Rattle.std.specs.Map.{keys_of, lookup}
use Rattle.std.proofs.lemmas.List.{map-append}
use Rattle.std.proofs.lemmas.List.Folds.{list_all-append}
use Rattle.std.proofs.lemmas.List.Sums.{sum_by-cons, sum_by_push}
use Rattle.indexmap.specs.IndexMap.{insert_entry}
use Rattle.asm_constants.specs.declared.content.Content.{Content}
use Rattle.asm_constants.specs.Contents.{same_content}
use Rattle.asm_constants.specs.Pools.{places, is_short, index_from, has_content, with_new}
use Rattle.asm_constants.specs.Entries.{AreNumbered, IsPool}
use Rattle.asm_constants.proofs.Same.{equal, equal_is}
use Rattle.jx_base.specs.Basics.{added}
use Rattle.jx_base.proofs.BasicLaws.{and_true}

abbrev pub Entries : Type 0
Entries = List (Content × ℕ)

pub index_found : (i : ℕ) (es : Entries) (c : Content) → AreNumbered i es → unwrap_or (lookup (equal c) es) 0 ≡ index_from i (keys_of es) c
unfolding AreNumbered index_from
index_found i [] c h = refl
index_found i (e ∷ es) c h =
    rw (equal_is c e.0)
    (elim (same_content c e.0) as (λ b. unwrap_or (cond b (Some e.1) (lookup (equal c) es)) 0 ≡ (if b then i else index_from (i + places e.0) (keys_of es) c)) [
      | true ↦ h.0
      | false ↦ index_found (i + places e.0) es c h.1
    ])

pub is_found : (es : Entries) (c : Content) → is_some (lookup (equal c) es) ≡ has_content (keys_of es) c
unfolding has_content
is_found [] c = refl
is_found (e ∷ es) c =
    rw (equal_is c e.0)
    (elim (same_content c e.0) as (λ b. is_some (cond b (Some e.1) (lookup (equal c) es)) ≡ (b || list_any (same_content c) (keys_of es))) [
      | true ↦ refl
      | false ↦ is_found es c
    ])

pub numbered_push : (i : ℕ) (es : Entries) (c : Content) (n : ℕ) → AreNumbered i es → n ≡ i + sum_by places (keys_of es) → AreNumbered i (es ++ (c, n) ∷ [])
unfolding AreNumbered
numbered_push i [] c n h e = (e ∙ omega arith, tt)
numbered_push i (x ∷ es) c n h e =
    (h.0, numbered_push (i + places x.0) es c n h.1 (e ∙ (ap (λ s. i + s) (sum_by-cons places x.0 (keys_of es)) ∙ sym (add_assoc i (places x.0) (sum_by places (keys_of es))))))

-- a constant that isn't there goes last
pub new_goes_last : (es : Entries) (c : Content) (n : ℕ) → has_content (keys_of es) c ≡ false → insert_entry equal es c n ≡ es ++ (c, n) ∷ []
unfolding has_content
new_goes_last [] c n h = refl
new_goes_last (e ∷ es) c n h =
    rw (equal_is c e.0)
    (elim (same_content c e.0) as (λ b. (b || list_any (same_content c) (keys_of es)) ≡ false → (if b then (e.0, n) ∷ es else e ∷ insert_entry equal es c n) ≡ e ∷ es ++ (c, n) ∷ []) [
      | true ↦ λ t. cc
      | false ↦ λ f. ap (λ (rest : Entries). e ∷ rest) (new_goes_last es c n f)
    ] h)

keys_push : (es : Entries) (c : Content) (n : ℕ) → keys_of (es ++ (c, n) ∷ []) ≡ keys_of es ++ c ∷ []
keys_push es c n = map-append (λ e. e.0) es ((c, n) ∷ [])

-- the keys with a constant that isn't there
pub keys_with_new : (es : Entries) (c : Content) (n : ℕ) → has_content (keys_of es) c ≡ false → keys_of (insert_entry equal es c n) ≡ keys_of es ++ c ∷ []
keys_with_new es c n h = ap keys_of (new_goes_last es c n h) ∙ keys_push es c n

-- the entries are those of a pool still
pub pool_with_new : (es : Entries) (c : Content) (n : ℕ) (short : Bool) → IsPool es n short → has_content (keys_of es) c ≡ false
    → IsPool (insert_entry equal es c n) (n + places c) (short && is_short c)
pool_with_new es c n short pool new =
    subst (λ (entries : Entries). IsPool entries (n + places c) (short && is_short c)) (sym (new_goes_last es c n new)) (record {
      numbered = numbered_push 1 es c n pool.numbered (omega (arith, pool.counted));
      counted = omega (arith, pool.counted, ap (sum_by places) (keys_push es c n), sum_by_push places (keys_of es) c);
      short =
          ap (λ b. b && is_short c) pool.short
          ∙ sym (ap (list_all is_short) (keys_push es c n) ∙ (list_all-append is_short (keys_of es) (c ∷ []) ∙ ap (λ b. list_all is_short (keys_of es) && b) (and_true (is_short c))));
    })

pub known_stays : (pool : List Content) (c : Content) → has_content pool c ≡ true → with_new pool c ≡ pool
unfolding added has_content
known_stays pool c h = rw h refl

pub new_comes_last : (pool : List Content) (c : Content) → has_content pool c ≡ false → with_new pool c ≡ pool ++ c ∷ []
unfolding added has_content
new_comes_last pool c h = rw h refl
