-- What the births of a past give, one by one.
use Rattle.std.proofs.Common.{◌≡◌, refl, ◌∙◌, ap, ℕ, zero, suc, ◌+◌, ◌<◌, ◌≤◌, true, false, List, [], ◌∷◌, ◌++◌, Option, Some, append-nil, arith}
use Rattle.std.specs.List.{flat_map, range_with_len}
use Rattle.std.proofs.lemmas.Grind.{flat_map-append}
use Rattle.jx_base.specs.declared.act.Entry.{Entry}
use Rattle.jx_base.specs.Basics.{up_to}
use Rattle.jx_base.specs.Histories.{Past}
use Rattle.jx_model.specs.Domains.{domains_made, birth_of, is_birth}
use Rattle.jx_base.proofs.BasicLaws.{up_to_append}
use Rattle.jx_base.proofs.NthEntries.{nth_new, nth_old, nth_same, count_new, count_same}

-- two functions that agree on a range
pub same_on_range : {X : Type 0} (f h : ℕ → List X) (a n : ℕ) → ((d : ℕ) → a ≤ d → d < a + n → f d ≡ h d) → flat_map f (range_with_len a n) ≡ flat_map h (range_with_len a n)
same_on_range f h a zero same = refl
same_on_range f h a (suc n) same =
    ap (λ xs. xs ++ flat_map f (range_with_len (a + 1) n)) (same a (omega arith) (omega arith))
    ∙ ap (λ xs. h a ++ xs) (same_on_range f h (a + 1) n (λ d l u. same d (omega arith) (omega arith)))

pub same_up_to : {X : Type 0} (f h : ℕ → List X) (n : ℕ) → ((d : ℕ) → 1 ≤ d → d ≤ n → f d ≡ h d) → flat_map f (up_to n) ≡ flat_map h (up_to n)
unfolding up_to
same_up_to f h n same = same_on_range f h 1 n (λ d l u. same d l (omega arith))

-- what f gives of each domain's number and birth
unfoldable pub each_birth : {X : Type 0} → (ℕ → Option Entry → List X) → Past → List X
each_birth f past = flat_map (λ d. f d (birth_of past d)) (up_to (domains_made past))

pub each_birth-none : {X : Type 0} (f : ℕ → Option Entry → List X) → each_birth f [] ≡ []
unfolding each_birth up_to Rattle.jx_base.specs.Histories.count_where
each_birth-none f = refl

-- one birth more
pub each_birth-new : {X : Type 0} (f : ℕ → Option Entry → List X) (e : Entry) (past : Past) → is_birth e ≡ true → each_birth f (e ∷ past) ≡ each_birth f past ++ f (domains_made past + 1) (Some e)
unfolding each_birth birth_of
each_birth-new f e past new =
    rw (count_new is_birth e past new, up_to_append (domains_made past) 1, flat_map-append)
    (old_and_new
    (same_up_to _ _ (domains_made past) (λ d l u. ap (f d) (nth_old is_birth e past d (λ q. omega (arith, q)))))
    (append-nil _ ∙ ap (f (domains_made past + 1)) (nth_new is_birth e past (domains_made past + 1) new refl)))
  where
    old_and_new : {X : Type 0} {a b c d : List X} → a ≡ b → c ≡ d → a ++ c ≡ b ++ d
    old_and_new p q = cc

-- an entry that is no birth
pub each_birth-same : {X : Type 0} (f : ℕ → Option Entry → List X) (e : Entry) (past : Past) → is_birth e ≡ false → each_birth f (e ∷ past) ≡ each_birth f past
unfolding each_birth birth_of
each_birth-same f e past old =
    rw (count_same is_birth e past old)
    (same_up_to _ _ (domains_made past) (λ d l u. ap (f d) (nth_same is_birth e past d old)))
