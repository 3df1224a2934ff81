-- The keys of a lookupswitch, one after the other.
use Rattle.std.proofs.Common.{◌≡◌, ℕ, zero, suc, ◌+◌, ◌-◌, ◌<◌, ◌≤◌, List, Option, Some, None, ap, ◌∙◌, arith}
use Rattle.std.specs.Prelude.{ℤ}
use Rattle.std.specs.Option.{option_and_then}
use Rattle.interp_core.specs.Behind.{behind_keys, key_front}

one_more : (count k : ℕ) → k < count → count - k ≡ suc (count - (k + 1))
one_more count k h = omega arith

step : (last : Option ℤ) (n : ℕ) (bytes : List ℕ) (o : Option (ℤ × List ℕ)) → key_front last bytes ≡ o → behind_keys last (suc n) bytes ≡ option_and_then (λ x. behind_keys (Some x.0) n x.1) o
unfolding behind_keys
step last n bytes o e = ap (option_and_then (λ x. behind_keys (Some x.0) n x.1)) e

pub fails : (last : Option ℤ) (count k : ℕ) (bytes : List ℕ) → k < count → key_front last bytes ≡ None → behind_keys last (count - k) bytes ≡ None
fails last count k bytes h e = ap (λ n. behind_keys last n bytes) (one_more count k h) ∙ step last (count - (k + 1)) bytes None e

pub goes_on : (last : Option ℤ) (count k : ℕ) (bytes : List ℕ) (key : ℤ) (rest : List ℕ) → k < count → key_front last bytes ≡ Some (key, rest) → behind_keys last (count - k) bytes ≡ behind_keys (Some key) (count - (k + 1)) rest
goes_on last count k bytes key rest h e = ap (λ n. behind_keys last n bytes) (one_more count k h) ∙ step last (count - (k + 1)) bytes (Some (key, rest)) e

pub ends : (last : Option ℤ) (count k : ℕ) (bytes : List ℕ) → count ≤ k → behind_keys last (count - k) bytes ≡ Some bytes
unfolding behind_keys
ends last count k bytes h =
    let none : count - k ≡ zero = omega arith in
    ap (λ n. behind_keys last n bytes) none
