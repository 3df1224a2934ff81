-- Calls by their numbers, and by their places.
use Rattle.std.proofs.Common.{◌≡◌, refl, sym, ◌∙◌, ap, subst, ℕ, suc, zero, ◌+◌, ◌-◌, ◌<◌, ◌≤◌, List, length, get_or, Option, Some, None, is_some, slice_get, Bor, arith}
use Rattle.std.specs.Prelude.{IfSome, IsSome, IsSomeAnd, nat_lt}
use Rattle.std.specs.Option.{option_copied}
use Rattle.std.proofs.lemmas.Bool.Decides.{nat_tests}
use Rattle.std.proofs.lemmas.Option.{slice_get_past, slice_get_read, slice_get_within}
use Rattle.jx_base.specs.Basics.{numbered}
use Rattle.table_threads.proofs.Numbered.{numbered_place}
use Rattle.call_table.specs.declared.calls.Call.{Call}

-- ---- numbers

-- what has a number has one from 1, and stands at the place before it
pub record HasPlace (calls : List Call) (n : ℕ) : Type 0 where
  pub from_one : 1 ≤ n
  pub within : n - 1 < length calls

pub has_place : (calls : List Call) (n : ℕ) (P : Call → Type 0) → IsSomeAnd (numbered calls n) P → HasPlace calls n
unfolding numbered
has_place calls zero P h = absurd h
has_place calls (suc i) P h = record { from_one = omega arith; within = let l = within (slice_get calls i) refl h in omega (arith, l) }
  where
    within : (o : Option Call) → slice_get calls i ≡ o → IsSomeAnd o P → i < length calls
    within None e h = absurd h
    within (Some c) e h = slice_get_within calls i c e

pub has_place_some : (calls : List Call) (n : ℕ) → IsSome (numbered calls n) → HasPlace calls n
has_place_some calls n h = has_place calls n (λ _. Unit {0}) (by (numbered calls n) h)
  where
    by : (o : Option Call) → IsSome o → IsSomeAnd o (λ _. Unit {0})
    by None h = cc
    by (Some c) h = tt

pub numbered_next : (calls : List Call) (i : ℕ) → numbered calls (i + 1) ≡ slice_get calls i
numbered_next calls i = numbered_place calls (i + 1) (omega arith) ∙ ap (slice_get calls) (omega arith)

-- what is known of the call of a number holds of the one at its place
pub holds_there : (calls : List Call) (n : ℕ) (P : Call → Type 0) (c : Call) → IsSomeAnd (numbered calls n) P → 1 ≤ n → slice_get calls (n - 1) ≡ Some c → P c
holds_there calls n P c h one at = subst (λ (o : Option Call). IsSomeAnd o P) (numbered_place calls n one ∙ at) h
