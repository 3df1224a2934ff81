-- How links keep queues.
use Rattle.std.specs.Prelude.{◌≡◌, ℕ, zero, suc, true, nat_eq, List, [], ◌∷◌, length, map, Option, Some, None, slice_get}
use Rattle.std.specs.List.{IsDistinct}
use Rattle.std.specs.Option.{option_and_then}
use Rattle.call_table.specs.declared.links.Ends.{Ends}
use Rattle.call_table.specs.declared.links.Link.{Link}
use Rattle.call_table.specs.declared.queues.Queues.TheInside.{Inside}
use Rattle.call_table.specs.QueueLists.{QueuesState, has}

-- the number that follows that one
abbrev pub next_of : List Link → ℕ → Option ℕ
next_of links i = option_and_then (λ l. l.next) (slice_get links i)

-- at most so many numbers that follow one another, from that one on
abbrev pub followed : ℕ → List Link → Option ℕ → List ℕ
followed zero links first = []
followed (suc n) links None = []
followed (suc n) links (Some i) = i ∷ followed n links (next_of links i)

-- the queues between their ends
abbrev pub lists_of : List Link → List Ends → List (List ℕ)
lists_of links ends = map (λ e. followed (length links) links e.first) ends

-- what queues are seen as
abbrev pub queues_state : Inside → QueuesState
queues_state x = record { queues = lists_of x.links.items x.ends.items; room = length x.links.items }

-- the first number of a list, or what comes after it
abbrev pub first_or : List ℕ → Option ℕ → Option ℕ
first_or [] after = after
first_or (x ∷ xs) after = Some x

-- the last number of a list, or what comes before it
abbrev pub last_or : Option ℕ → List ℕ → Option ℕ
last_or before [] = before
last_or before (x ∷ xs) = last_or (Some x) xs

-- the numbers are linked both ways, between what comes before them and what comes after
abbrev pub IsLinked : List Link → Option ℕ → List ℕ → Option ℕ → Type 0
IsLinked links before [] after = Unit {0}
IsLinked links before (x ∷ xs) after =
    (slice_get links x ≡ Some (record { prev = before; next = first_or xs after })) × IsLinked links (Some x) xs after

-- the ends and the links are those of the list, which has each number once
pub record IsQueue (links : List Link) (e : Ends) (xs : List ℕ) : Type 0 where
  pub first : e.first ≡ first_or xs None
  pub last : e.last ≡ last_or None xs
  pub linked : IsLinked links None xs None
  pub distinct : IsDistinct nat_eq xs

-- no number is in two of the lists
abbrev pub AreApart : List (List ℕ) → Type 0
AreApart qs = (q r i : ℕ) (xs ys : List ℕ) → slice_get qs q ≡ Some xs → slice_get qs r ≡ Some ys →
    has xs i ≡ true → has ys i ≡ true → q ≡ r

-- the ends and the links are those of the lists, in which each number is at most once
pub record AreQueues (links : List Link) (ends : List Ends) (qs : List (List ℕ)) : Type 0 where
  pub count : length ends ≡ length qs
  pub each : (q : ℕ) (e : Ends) (xs : List ℕ) → slice_get ends q ≡ Some e → slice_get qs q ≡ Some xs → IsQueue links e xs
  pub apart : AreApart qs

-- heads, tails and links agree with what is seen
abbrev pub IsQueues : Inside → Type 0
IsQueues x = AreQueues x.links.items x.ends.items (lists_of x.links.items x.ends.items)
