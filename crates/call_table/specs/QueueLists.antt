-- What queues of numbers are seen as: plain lists.
use Rattle.std.specs.Prelude.{◌≡◌, ℕ, ◌<◌, ◌==◌, Bool, true, false, not, List, [], ◌∷◌, ◌++◌, length, filter, get_or}
use Rattle.std.specs.List.{list_any}

-- the queues, and the bound of their numbers
pub record QueuesState : Type 0 where
  pub queues : List (List ℕ)
  pub room : ℕ

-- whether the list has the number
abbrev pub has : List ℕ → ℕ → Bool
has xs i = list_any (λ k. i == k) xs

-- the queue at a place, empty where there is none
abbrev pub queue_at : QueuesState → ℕ → List ℕ
queue_at x q = get_or x.queues q []

-- the number is in that queue
abbrev pub IsIn : QueuesState → ℕ → ℕ → Type 0
IsIn x q i = has (queue_at x q) i ≡ true

-- the number is in no queue
abbrev pub IsFree : QueuesState → ℕ → Type 0
IsFree x i = (q : ℕ) → q < length x.queues → has (queue_at x q) i ≡ false

-- a queue with one number more, at its end
abbrev pub with_last : ℕ → List ℕ → List ℕ
with_last i xs = xs ++ i ∷ []

-- a queue without that number
abbrev pub without : ℕ → List ℕ → List ℕ
without i xs = filter (λ k. not (i == k)) xs
