-- A table of queues that was opened.
use Rattle.std.proofs.Common.{◌≡◌, refl, sym, ◌∙◌, ap, subst, ℕ, ◌<◌, ◌≤◌, true, false, List, [], ◌∷◌, ◌++◌, length, get_or, Option, Some, None, slice_get, arith, ◌==◌}
use Rattle.std.specs.Prelude.{IfSome}
use Rattle.std.specs.Option.{unwrap_or}
use Rattle.std.proofs.lemmas.List.{length-map}
use Rattle.std.proofs.lemmas.Option.{get_or_from_slice_get, slice_get_past, unwrap_or-slice_get}
use Rattle.call_table.specs.declared.links.Ends.{Ends}
use Rattle.call_table.specs.declared.links.Link.{Link}
use Rattle.call_table.specs.declared.queues.Queues.TheInside.{Inside}
use Rattle.call_table.specs.Linked.{AreQueues, IsLinked, IsQueues, first_or, followed, last_or, lists_of, queues_state}
use Rattle.call_table.specs.QueueLists.{IsFree, IsIn, QueuesState, has}
use Rattle.call_table.proofs.Chains.{first_within, last_within, linked_within}
use Rattle.call_table.proofs.Lists.{get_there, or_first, or_second}
use Rattle.call_table.proofs.Members.{has_append}
use Rattle.call_table.proofs.ChangedQueues.{in_none, list_there}
use Rattle.call_table.proofs.OneQueue.{is_between}

-- ---- an opened table of queues

-- the place of a queue is one of its ends
pub within_ends : (x : Inside) (y : QueuesState) (q : ℕ) → queues_state x ≡ y → q < length y.queues → q < length x.ends.items
within_ends x y q e l =
    let count : length (lists_of x.links.items x.ends.items) ≡ length y.queues = ap (λ (z : QueuesState). length z.queues) e in
    omega (arith, l, count, length-map x.ends.items (λ (z : Ends). followed (length x.links.items) x.links.items z.first))

-- a number that is free is in no list
pub free_in : (x : Inside) (y : QueuesState) (n : ℕ) → queues_state x ≡ y → IsFree y n → (r : ℕ) (zs : List ℕ) → slice_get (lists_of x.links.items x.ends.items) r ≡ Some zs → has zs n ≡ false
free_in x y n e free = in_none (lists_of x.links.items x.ends.items) n (subst (λ (z : QueuesState). IsFree z n) (sym e) free)

-- a queue's last number has its link
pub last_linked : (links : List Link) (ends : List Ends) (q : ℕ) (e : Ends) → AreQueues links ends (lists_of links ends) → slice_get ends q ≡ Some e → IfSome e.last (λ n. n < length links)
last_linked links ends q e h at =
    let is = h.each q e (followed (length links) links e.first) at (list_there links ends q e at) in
    by (followed (length links) links e.first) e.last is.last is.linked
  where
    by : (xs : List ℕ) (o : Option ℕ) → o ≡ last_or None xs → IsLinked links None xs None → IfSome o (λ n. n < length links)
    by xs None e h = tt
    by xs (Some n) e h = linked_within links None xs None n h (last_within xs n (sym e))

-- a number of a queue has its link
pub number_linked : (links : List Link) (ends : List Ends) (q n : ℕ) (e : Ends) → AreQueues links ends (lists_of links ends) → slice_get ends q ≡ Some e →
    has (get_or (lists_of links ends) q []) n ≡ true → n < length links
number_linked links ends q n e h at m =
    let xs : List ℕ = followed (length links) links e.first in
    let there = list_there links ends q e at in
    let within : has xs n ≡ true = subst (λ (zs : List ℕ). has zs n ≡ true) (get_or_from_slice_get (lists_of links ends) q xs [] there) m in
    linked_within links None xs None n (h.each q e xs at there).linked within

-- those next to it have theirs
pub record AreNeighbours (links : List Link) (l : Link) : Type 0 where
  pub prev : IfSome l.prev (λ k. k < length links)
  pub next : IfSome l.next (λ k. k < length links)

pub neighbours_linked : (links : List Link) (ends : List Ends) (q n : ℕ) (e : Ends) (l : Link) → AreQueues links ends (lists_of links ends) → slice_get ends q ≡ Some e →
    has (get_or (lists_of links ends) q []) n ≡ true → slice_get links n ≡ Some l → AreNeighbours links l
neighbours_linked links ends q n e l h at m link =
    let xs : List ℕ = followed (length links) links e.first in
    let there = list_there links ends q e at in
    let within : has xs n ≡ true = subst (λ (zs : List ℕ). has zs n ≡ true) (get_or_from_slice_get (lists_of links ends) q xs [] there) m in
    let is = h.each q e xs at there in
    let place = is_between links e xs n l is within link in
    record {
      prev = prev place.parts.before l.prev place.prev (λ k m. linked_within links None xs None k is.linked (in_whole xs place.parts.before (n ∷ place.parts.after) k place.parts.whole m));
      next = next place.parts.after l.next place.next
          (λ k m. linked_within links None xs None k is.linked
          (in_whole_right xs place.parts.before (n ∷ place.parts.after) k place.parts.whole (or_second (k == n) (has place.parts.after k) m)));
    }
  where
    in_whole : (xs ys zs : List ℕ) (k : ℕ) → xs ≡ ys ++ zs → has ys k ≡ true → has xs k ≡ true
    in_whole xs ys zs k e m = ap (λ (ws : List ℕ). has ws k) e ∙ has_append ys zs k ∙ or_first (has ys k) (has zs k) m

    in_whole_right : (xs ys zs : List ℕ) (k : ℕ) → xs ≡ ys ++ zs → has zs k ≡ true → has xs k ≡ true
    in_whole_right xs ys zs k e m = ap (λ (ws : List ℕ). has ws k) e ∙ has_append ys zs k ∙ or_second (has ys k) (has zs k) m

    prev : (ys : List ℕ) (o : Option ℕ) → o ≡ last_or None ys → ((k : ℕ) → has ys k ≡ true → k < length links) → IfSome o (λ k. k < length links)
    prev ys None e h = tt
    prev ys (Some k) e h = h k (last_within ys k (sym e))

    next : (ys : List ℕ) (o : Option ℕ) → o ≡ first_or ys None → ((k : ℕ) → has ys k ≡ true → k < length links) → IfSome o (λ k. k < length links)
    next ys None e h = tt
    next ys (Some k) e h = h k (first_within ys k (sym e))

-- a number of a queue that was opened
pub record IsHeld (x : Inside) (q n : ℕ) : Type 0 where
  pub below : q < length x.ends.items
  pub there : has (get_or (lists_of x.links.items x.ends.items) q []) n ≡ true
  pub within : n < length x.links.items
  pub next_to : (l : Link) → slice_get x.links.items n ≡ Some l → AreNeighbours x.links.items l

pub is_held : (x : Inside) (y : QueuesState) (q n : ℕ) → queues_state x ≡ y → IsQueues x → q < length y.queues → IsIn y q n → IsHeld x q n
is_held x y q n same h l m =
    let below = within_ends x y q same l in
    let e = get_there x.ends.items q below in
    let there : has (get_or (lists_of x.links.items x.ends.items) q []) n ≡ true = subst (λ (z : QueuesState). IsIn z q n) (sym same) m in
    record {
      below = below;
      there = there;
      within = number_linked x.links.items x.ends.items q n e.0 h e.1 there;
      next_to = λ (k : Link) at. neighbours_linked x.links.items x.ends.items q n e.0 k h e.1 there at;
    }

-- ---- the first number

-- where the list of a queue begins
pub first_there : (x : Inside) (y : QueuesState) (q : ℕ) (e : Ends) → queues_state x ≡ y → IsQueues x → slice_get x.ends.items q ≡ Some e → e.first ≡ slice_get (get_or y.queues q []) 0
first_there x y q e same h at =
    let links = x.links.items in
    let xs : List ℕ = followed (length links) links e.first in
    let there = list_there links x.ends.items q e at in
    let list : xs ≡ get_or y.queues q [] = sym (get_or_from_slice_get (lists_of links x.ends.items) q xs [] there) ∙ ap (λ (z : QueuesState). get_or z.queues q []) same in
    (h.each q e xs at there).first ∙ by xs ∙ ap (λ (ys : List ℕ). slice_get ys 0) list
  where
    by : (ys : List ℕ) → first_or ys None ≡ slice_get ys 0
    by [] = refl
    by (y ∷ ys) = refl

-- where there is no queue
pub first_past : (x : Inside) (y : QueuesState) (q : ℕ) → queues_state x ≡ y → length x.ends.items ≤ q → None ≡ slice_get (get_or y.queues q []) 0
first_past x y q same l =
    let links = x.links.items in
    let count : length (lists_of links x.ends.items) ≡ length x.ends.items = length-map x.ends.items (λ (e : Ends). followed (length links) links e.first) in
    let none : get_or (lists_of links x.ends.items) q [] ≡ [] =
    sym (unwrap_or-slice_get (lists_of links x.ends.items) q []) ∙ ap (λ (o : Option (List ℕ)). unwrap_or o []) (slice_get_past (lists_of links x.ends.items) q (omega (arith, l, count)))
    in
    ap (λ (xs : List ℕ). slice_get xs 0) (sym none ∙ ap (λ (z : QueuesState). get_or z.queues q []) same)
