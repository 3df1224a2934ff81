-- How many domains the entries of an admitted history make.
use Rattle.std.proofs.Common.{◌≡◌, refl, ◌∙◌, ap, ℕ, ◌+◌, ◌≤◌, Bool, true, false, List, [], ◌∷◌, Option, Some, None, is_some, reverse, arith}
use Rattle.jx_base.specs.declared.act.Entry.{Entry}
use Rattle.jx_base.specs.declared.program.System.{System}
use Rattle.jx_base.specs.Histories.{Past}
use Rattle.jx_base.proofs.NthEntries.{count_new, count_same}
use Rattle.jx_model.specs.Domains.{domains_made, is_birth}
use Rattle.jx_model.specs.Legal.{IsAdmittedPast}
use Rattle.jx_model.proofs.SmallNumbers.{domains_few}
use Rattle.audit_text.proofs.Sums.{entry_sum, entry_sum-reverse}

-- 1 where there is a birth
unfoldable pub one_born : Bool → ℕ
one_born true = 1
one_born false = 0

-- how many domains the entry made
unfoldable pub birth_count : Entry → ℕ
birth_count e = one_born (is_birth e)

-- an entry makes a domain more, or none
births_step : (e : Entry) (past : Past) (b : Bool) → is_birth e ≡ b → domains_made (e ∷ past) ≡ one_born b + domains_made past
unfolding one_born
births_step e past false none = omega (arith, count_same is_birth e past none)
births_step e past true one = omega (arith, count_new is_birth e past one)

-- the domains that were made are those that the entries made
births-sum : (past : Past) → domains_made past ≡ entry_sum birth_count past
unfolding entry_sum birth_count Rattle.jx_base.specs.Histories.count_where
births-sum [] = refl
births-sum (e ∷ past) = births_step e past (is_birth e) refl ∙ ap (λ n. one_born (is_birth e) + n) (births-sum past)

-- of the entries of an admitted history, at most 64 make a domain
pub births_few : (s : System) (entries : List Entry) → IsAdmittedPast s (reverse entries) → entry_sum birth_count entries ≤ 64
births_few s entries admitted =
    omega (arith, domains_few s (reverse entries) admitted, births-sum (reverse entries), entry_sum-reverse birth_count entries)

-- an entry with a template made a domain, and one without made none
pub birth_count-Some : (e : Entry) (o : Option ℕ) (t : ℕ) → is_birth e ≡ is_some o → o ≡ Some t → birth_count e ≡ 1
unfolding birth_count one_born
birth_count-Some e o t birth is = let one : is_birth e ≡ true = birth ∙ ap is_some is in rw one refl

pub birth_count-None : (e : Entry) (o : Option ℕ) → is_birth e ≡ is_some o → o ≡ None → birth_count e ≡ 0
unfolding birth_count one_born
birth_count-None e o birth is = let none : is_birth e ≡ false = birth ∙ ap is_some is in rw none refl
