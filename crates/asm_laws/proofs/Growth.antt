-- What a pool of constants keeps and has when constants are added.
use Rattle.std.proofs.Common.{◌≡◌, refl, ◌∙◌, List, [], ◌∷◌, ◌++◌, Bool, true, false, inl, inr}
use Rattle.std.specs.List.{list_any, list_all, AllByRecursion}
use Rattle.std.proofs.lemmas.Bool.{cases_Bool, and_parts, and_from, or_left, or_right}
use Rattle.std.proofs.lemmas.List.Folds.{list_any-append}
use Rattle.asm_constants.specs.declared.content.Content.{Content}
use Rattle.asm_constants.specs.declared.content.Content.TheVariants as content
use Rattle.asm_constants.specs.Contents.{same_content, needed}
use Rattle.asm_constants.specs.Pools.{has_content, with_new, with_all_new, with_needed}
use Rattle.asm_bodies.specs.Needs.{with_all_needed}
use Rattle.asm_laws.specs.Tables.{IsRangedContent, AreRangedContents, IsClosed}
use Rattle.asm_laws.proofs.Same.{same_itself}
use Rattle.jx_base.specs.Basics.{added, all_added}

-- ---- lists

pub all_joined : {A : Type 0} (P : A → Type 0) (xs ys : List A) → AllByRecursion P xs → AllByRecursion P ys → AllByRecursion P (xs ++ ys)
all_joined P [] ys p q = q
all_joined P (x ∷ xs) ys p q = (p.0, all_joined P xs ys p.1 q)

-- what follows from another fact of each element
pub all_since : {A : Type 0} (P Q : A → Type 0) → ((x : A) → P x → Q x) → (xs : List A) → AllByRecursion P xs → AllByRecursion Q xs
all_since P Q h [] p = tt
all_since P Q h (x ∷ xs) p = (h x p.0, all_since P Q h xs p.1)

-- what a test of each element says
pub all_tested : {A : Type 0} (p : A → Bool) (xs : List A) → list_all p xs ≡ true → AllByRecursion (λ x. p x ≡ true) xs
all_tested p [] h = tt
all_tested p (x ∷ xs) h = let parts = and_parts (p x) (list_all p xs) h in (parts.0, all_tested p xs parts.1)

pub tested_since : {A : Type 0} (p q : A → Bool) → ((x : A) → p x ≡ true → q x ≡ true) → (xs : List A) → list_all p xs ≡ true → list_all q xs ≡ true
tested_since p q h [] e = refl
tested_since p q h (x ∷ xs) e = let parts = and_parts (p x) (list_all p xs) e in and_from _ _ (h x parts.0) (tested_since p q h xs parts.1)

-- ---- what a pool has

-- all of one pool's constants are in another
abbrev pub IsIn : List Content → List Content → Type 0
IsIn pool more = (c : Content) → has_content pool c ≡ true → has_content more c ≡ true

in_with_new : (pool : List Content) (d : Content) → IsIn pool (with_new pool d)
unfolding has_content added
in_with_new pool d c h = elim (cases_Bool (has_content pool d)) [
  | inl known ↦ rw known h
  | inr new ↦ rw new (list_any-append (same_content c) pool (d ∷ []) ∙ or_left (list_any (same_content c) pool) (list_any (same_content c) (d ∷ [])) h)
]

new_is_there : (pool : List Content) (c : Content) → has_content (with_new pool c) c ≡ true
unfolding has_content added
new_is_there pool c = elim (cases_Bool (has_content pool c)) [
  | inl known ↦ rw known known
  | inr new ↦ rw new (list_any-append (same_content c) pool (c ∷ []) ∙ or_right (list_any (same_content c) pool) (list_any (same_content c) (c ∷ [])) (or_left (same_content c c) false (same_itself c)))
]

in_with_all_new : (pool contents : List Content) → IsIn pool (with_all_new pool contents)
unfolding all_added
in_with_all_new pool [] c h = h
in_with_all_new pool (d ∷ contents) c h = in_with_all_new (with_new pool d) contents c (in_with_new pool d c h)

all_new_are_there : (pool contents : List Content) → list_all (has_content (with_all_new pool contents)) contents ≡ true
unfolding all_added
all_new_are_there pool [] = refl
all_new_are_there pool (c ∷ contents) =
    and_from _ _ (in_with_all_new (with_new pool c) contents c (new_is_there pool c)) (all_new_are_there (with_new pool c) contents)

pub in_with_needed : (pool : List Content) (d : Content) → IsIn pool (with_needed pool d)
unfolding with_needed
in_with_needed pool d = in_with_all_new pool (needed d)

pub needed_are_there : (pool : List Content) (c : Content) → list_all (has_content (with_needed pool c)) (needed c) ≡ true
unfolding with_needed
needed_are_there pool c = all_new_are_there pool (needed c)

-- a constant is one of those that it needs
pub last_needed : (pool : List Content) (c : Content) → list_all (has_content pool) (needed c) ≡ true → has_content pool c ≡ true
unfolding needed
last_needed pool (content.Utf8 units) h = (all_tested (has_content pool) (needed (content.Utf8 units)) h).0
last_needed pool (content.Integer z) h = (all_tested (has_content pool) (needed (content.Integer z)) h).0
last_needed pool (content.Long z) h = (all_tested (has_content pool) (needed (content.Long z)) h).0
last_needed pool (content.Class name) h = (all_tested (has_content pool) (needed (content.Class name)) h).1.0
last_needed pool (content.Str units) h = (all_tested (has_content pool) (needed (content.Str units)) h).1.0
last_needed pool (content.NameAndType name descriptor) h = (all_tested (has_content pool) (needed (content.NameAndType name descriptor)) h).1.1.0
last_needed pool (content.Member kind class name descriptor) h = (all_tested (has_content pool) (needed (content.Member kind class name descriptor)) h).1.1.1.1.1.0

pub in_with_all_needed : (pool contents : List Content) → IsIn pool (with_all_needed pool contents)
unfolding with_all_needed
in_with_all_needed pool [] c h = h
in_with_all_needed pool (d ∷ contents) c h = in_with_all_needed (with_needed pool d) contents c (in_with_needed pool d c h)

pub all_needed_are_there : (pool contents : List Content) → list_all (has_content (with_all_needed pool contents)) contents ≡ true
unfolding with_all_needed
all_needed_are_there pool [] = refl
all_needed_are_there pool (c ∷ contents) =
    and_from _ _ (in_with_all_needed (with_needed pool c) contents c (last_needed (with_needed pool c) c (needed_are_there pool c))) (all_needed_are_there (with_needed pool c) contents)

-- ---- what holds of each constant

all_with_new : (P : Content → Type 0) (pool : List Content) (c : Content) → AllByRecursion P pool → P c → AllByRecursion P (with_new pool c)
unfolding added has_content
all_with_new P pool c all one = elim (cases_Bool (has_content pool c)) [
  | inl known ↦ rw known all
  | inr new ↦ rw new (all_joined P pool (c ∷ []) all (one, tt))
]

all_with_all_new : (P : Content → Type 0) (pool contents : List Content) → AllByRecursion P pool → AllByRecursion P contents → AllByRecursion P (with_all_new pool contents)
unfolding all_added
all_with_all_new P pool [] all more = all
all_with_all_new P pool (c ∷ contents) all more = all_with_all_new P (with_new pool c) contents (all_with_new P pool c all more.0) more.1

-- ---- what a constant needs

-- what is needed by those that a constant needs is needed by it
closed_needed : (pool : List Content) (c : Content) → list_all (has_content pool) (needed c) ≡ true → IsClosed pool (needed c)
unfolding needed
closed_needed pool (content.Utf8 units) h = (h, tt)
closed_needed pool (content.Integer z) h = (h, tt)
closed_needed pool (content.Long z) h = (h, tt)
closed_needed pool (content.Class name) h =
    let all = all_tested (has_content pool) (needed (content.Class name)) h in
    (and_from _ _ all.0 refl, (h, tt))
closed_needed pool (content.Str units) h =
    let all = all_tested (has_content pool) (needed (content.Str units)) h in
    (and_from _ _ all.0 refl, (h, tt))
closed_needed pool (content.NameAndType name descriptor) h =
    let all = all_tested (has_content pool) (needed (content.NameAndType name descriptor)) h in
    (and_from _ _ all.0 refl, (and_from _ _ all.1.0 refl, (h, tt)))
closed_needed pool (content.Member kind class name descriptor) h =
    let all = all_tested (has_content pool) (needed (content.Member kind class name descriptor)) h in (
      and_from _ _ all.0 refl,
      (
        and_from _ _ all.0 (and_from _ _ all.1.0 refl),
        (
          and_from _ _ all.1.1.0 refl,
          (
            and_from _ _ all.1.1.1.0 refl,
            (and_from _ _ all.1.1.0 (and_from _ _ all.1.1.1.0 (and_from _ _ all.1.1.1.1.0 refl)), (h, tt)),
          ),
        ),
      ),
    )

closed_in : (pool more contents : List Content) → IsIn pool more → IsClosed pool contents → IsClosed more contents
closed_in pool more contents h closed =
    all_since (λ c. list_all (has_content pool) (needed c) ≡ true) (λ c. list_all (has_content more) (needed c) ≡ true)
    (λ c e. tested_since (has_content pool) (has_content more) h (needed c) e) contents closed

closed_with_needed : (pool : List Content) (c : Content) → IsClosed pool pool → IsClosed (with_needed pool c) (with_needed pool c)
unfolding with_needed
closed_with_needed pool c closed =
    all_with_all_new (λ d. list_all (has_content (with_needed pool c)) (needed d) ≡ true) pool (needed c)
    (closed_in pool (with_needed pool c) pool (in_with_needed pool c) closed)
    (closed_needed (with_needed pool c) c (needed_are_there pool c))

pub closed_with_all_needed : (pool contents : List Content) → IsClosed pool pool → IsClosed (with_all_needed pool contents) (with_all_needed pool contents)
unfolding with_all_needed
closed_with_all_needed pool [] closed = closed
closed_with_all_needed pool (c ∷ contents) closed = closed_with_all_needed (with_needed pool c) contents (closed_with_needed pool c closed)

-- ---- ranges

ranged_needed : (c : Content) → IsRangedContent c → AreRangedContents (needed c)
unfolding needed
ranged_needed (content.Utf8 units) h = (h, tt)
ranged_needed (content.Integer z) h = (h, tt)
ranged_needed (content.Long z) h = (h, tt)
ranged_needed (content.Class name) h = (h, (h, tt))
ranged_needed (content.Str units) h = (h, (h, tt))
ranged_needed (content.NameAndType name descriptor) h = (h.0, (h.1, (h, tt)))
ranged_needed (content.Member kind class name descriptor) h = (h.0, (h.0, (h.1, (h.2, ((h.1, h.2), (h, tt))))))

pub ranged_with_all_needed : (pool contents : List Content) → AreRangedContents pool → AreRangedContents contents → AreRangedContents (with_all_needed pool contents)
unfolding with_all_needed with_needed
ranged_with_all_needed pool [] all more = all
ranged_with_all_needed pool (c ∷ contents) all more =
    ranged_with_all_needed (with_needed pool c) contents (all_with_all_new IsRangedContent pool (needed c) all (ranged_needed c more.0)) more.1
