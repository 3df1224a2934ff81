-- Lists that are split at their first member of which something doesn't hold.
use Rattle.std.specs.Prelude.{◌≡◌, List, [], ◌∷◌, ◌++◌, Option, Some, None}
use Rattle.std.proofs.Common.{sym, ap, subst}
use Rattle.std.specs.List.{AllByRecursion}

abbrev head_of : {A : Type 0} → List A → Option A
head_of [] = None
head_of (x ∷ xs) = Some x

abbrev tail_of : {A : Type 0} → List A → List A
tail_of [] = []
tail_of (x ∷ xs) = xs

same_head : {A : Type 0} (x y : A) (xs ys : List A) → x ∷ xs ≡ y ∷ ys → x ≡ y
same_head {A} x y xs ys e = let heads : Some x ≡ Some y = ap (head_of {A = A}) e in cc

-- what holds of each of a list holds of the one between two parts
pub holds_between : {A : Type 0} (P : A → Type 0) (before : List A) (x : A) (after : List A) → AllByRecursion P (before ++ x ∷ after) → P x
holds_between P [] x after h = h.0
holds_between P (y ∷ before) x after h = holds_between P before x after h.1

-- the first one of which it doesn't hold is one
pub one_first : {A : Type 0} (P : A → Type 0) (before other : List A) (x y : A) (after more : List A) → before ++ x ∷ after ≡ other ++ y ∷ more
    → AllByRecursion P before → AllByRecursion P other → (P x → ⊥) → (P y → ⊥) → x ≡ y
one_first P [] [] x y after more e p q no_x no_y = same_head x y after more e
one_first P [] (o ∷ other) x y after more e p q no_x no_y =
    absurd (no_x (subst P (sym (same_head x o after (other ++ y ∷ more) e)) q.0))
one_first P (b ∷ before) [] x y after more e p q no_x no_y =
    absurd (no_y (subst P (same_head b y (before ++ x ∷ after) more e) p.0))
one_first {A} P (b ∷ before) (o ∷ other) x y after more e p q no_x no_y =
    one_first P before other x y after more (ap (tail_of {A = A}) e) p.1 q.1 no_x no_y
