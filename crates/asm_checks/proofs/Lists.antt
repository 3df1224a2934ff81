-- Tests of all items of joined lists, and constants that are added in two goes.
use Rattle.std.proofs.Common.{◌≡◌, ◌∙◌, refl, ap, Bool, List, [], ◌∷◌, ◌++◌}
use Rattle.std.specs.Prelude.{◌&&◌, flat_map}
use Rattle.std.specs.List.{list_all}
use Rattle.std.proofs.lemmas.List.Folds.{list_all-append}
use Rattle.asm_constants.specs.declared.content.Content.{Content}
use Rattle.asm_constants.specs.Pools.{with_needed}
use Rattle.asm_bodies.specs.Needs.{with_all_needed}

pub all_joined : {X Y : Type 0} (p : Y → Bool) (f : X → List Y) (xs : List X) → list_all p (flat_map f xs) ≡ list_all (λ x. list_all p (f x)) xs
all_joined p f [] = refl
all_joined p f (x ∷ xs) = list_all-append p (f x) (flat_map f xs) ∙ ap (λ b. list_all p (f x) && b) (all_joined p f xs)

pub needed_by_both : (pool xs ys : List Content) → with_all_needed pool (xs ++ ys) ≡ with_all_needed (with_all_needed pool xs) ys
unfolding with_all_needed
needed_by_both pool [] ys = refl
needed_by_both pool (x ∷ xs) ys = needed_by_both (with_needed pool x) xs ys
