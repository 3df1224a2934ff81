-- All queues, after one has changed.
use Rattle.std.proofs.Common.{◌≡◌, ◌≢◌, refl, sym, ◌∙◌, ap, subst, ℕ, suc, zero, ◌<◌, ◌≤◌, true, false, List, [], ◌++◌, length, get_or, set, take, drop, replicate, append-nil, Option, Some, None, is_some, slice_get, ◌⊎◌, inl, inr}
use Rattle.std.specs.Prelude.{if◌then◌else◌}
use Rattle.std.specs.Option.{option_map, option_or}
use Rattle.std.proofs.lemmas.List.{length-replicate}
use Rattle.std.proofs.lemmas.Option.{get_or_from_slice_get, slice_get-map, slice_get_within}
use Rattle.std.proofs.lemmas.Map.Steps.{length-le_from_distinct_below}
use Rattle.std.proofs.Math.Seq.{drop-length, take-length}
use Rattle.table_threads.specs.Changes.{changed_at}
use Rattle.table_threads.proofs.Records.{same_or_not, set_changed}
use Rattle.call_table.specs.declared.links.Ends.{Ends}
use Rattle.call_table.specs.declared.links.Link.{Link}
use Rattle.call_table.specs.Linked.{AreQueues, IsQueue, followed, lists_of}
use Rattle.call_table.specs.Links.{with_next, with_prev}
use Rattle.call_table.specs.QueueLists.{has, with_last, without}
use Rattle.call_table.proofs.Chains.{followed_all, linked_same, linked_within}
use Rattle.call_table.proofs.Lists.{get_changed, get_other, length_changed, passes_or_fails, same_items}
use Rattle.call_table.proofs.Members.{distinct_none}
use Rattle.call_table.proofs.OneQueue.{Becomes, left_becomes, left_out, pushed, pushed_becomes}

-- ---- what is seen

-- the links show the lists whose they are
pub lists_shown : (links : List Link) (ends : List Ends) (qs : List (List ℕ)) → AreQueues links ends qs → lists_of links ends ≡ qs
lists_shown links ends qs h = same_items (λ e. followed (length links) links e.first) ends qs h.count each
  where
    each : (q : ℕ) (e : Ends) (xs : List ℕ) → slice_get ends q ≡ Some e → slice_get qs q ≡ Some xs → followed (length links) links e.first ≡ xs
    each q e xs a b =
        let is = h.each q e xs a b in
        let most : length xs ≤ length links = length-le_from_distinct_below xs (length links) is.distinct (λ i m. linked_within links None xs None i is.linked m) in
        ap (followed (length links) links) is.first ∙ followed_all (length links) links None xs most is.linked

-- ---- one queue that changes

pub changed_queues : (links new : List Link) (ends : List Ends) (qs : List (List ℕ)) (q : ℕ) (d e : Ends) (xs : List ℕ) (f : List ℕ → List ℕ) →
    AreQueues links ends qs → slice_get ends q ≡ Some d → slice_get qs q ≡ Some xs → Becomes links new qs e xs (f xs) →
    AreQueues new (set ends q e) (changed_at q f qs)
changed_queues links new ends qs q d e xs f h at there b =
    record {
      count = ap length ends_changed ∙ length_changed q (λ _. e) ends ∙ h.count ∙ sym (length_changed q f qs);
      each = λ r z ys a k. each r z ys a k (same_or_not q r);
      apart = λ r s i ys zs a k m n. apart r s i ys zs a k m n (same_or_not q r) (same_or_not q s);
    }
  where
    ends_changed : set ends q e ≡ changed_at q (λ _. e) ends
    ends_changed = set_changed q (λ _. e) ends d at

    -- a number of another queue is not in the changed one
    apart_before : (r i : ℕ) (ys : List ℕ) → q ≢ r → slice_get qs r ≡ Some ys → has ys i ≡ true → has xs i ≡ false
    apart_before r i ys n a m = by (passes_or_fails (has xs i))
      where
        by : (has xs i ≡ true) ⊎ (has xs i ≡ false) → has xs i ≡ false
        by (inl t) = absurd (n (h.apart q r i xs ys there a t m))
        by (inr t) = t

    apart_after : (r i : ℕ) (ys : List ℕ) → q ≢ r → slice_get qs r ≡ Some ys → has ys i ≡ true → has (f xs) i ≡ false
    apart_after r i ys n a m = by (passes_or_fails (has (f xs) i))
      where
        by : (has (f xs) i ≡ true) ⊎ (has (f xs) i ≡ false) → has (f xs) i ≡ false
        by (inl t) = let no = b.come r i ys t (apart_before r i ys n a m) a in cc
        by (inr t) = t

    other_list : (r : ℕ) (ys : List ℕ) → q ≢ r → slice_get (changed_at q f qs) r ≡ Some ys → slice_get qs r ≡ Some ys
    other_list r ys n a = sym (get_other q r f qs n) ∙ a

    this_list : (r : ℕ) (ys : List ℕ) → q ≡ r → slice_get (changed_at q f qs) r ≡ Some ys → f xs ≡ ys
    this_list r ys n a = let z : Some (f xs) ≡ Some ys = sym (get_changed q f qs xs there) ∙ ap (slice_get (changed_at q f qs)) n ∙ a in cc

    each : (r : ℕ) (z : Ends) (ys : List ℕ) → slice_get (set ends q e) r ≡ Some z → slice_get (changed_at q f qs) r ≡ Some ys → (q ≡ r) ⊎ (q ≢ r) → IsQueue new z ys
    each r z ys a k (inl n) =
        let same : Some e ≡ Some z = sym (get_changed q (λ _. e) ends d at) ∙ ap (slice_get (changed_at q (λ _. e) ends)) n ∙ ap (λ (es : List Ends). slice_get es r) (sym ends_changed) ∙ a in
        let ends_same : e ≡ z = cc in
        subst (λ (w : Ends). IsQueue new w ys) ends_same (subst (IsQueue new e) (this_list r ys n k) b.queue)
    each r z ys a k (inr n) =
        let old_end : slice_get ends r ≡ Some z = sym (get_other q r (λ _. e) ends n) ∙ ap (λ (es : List Ends). slice_get es r) (sym ends_changed) ∙ a in
        let old_list = other_list r ys n k in
        let is = h.each r z ys old_end old_list in
        record {
          first = is.first;
          last = is.last;
          linked = linked_same links new None ys None (λ i m. b.others i (apart_before r i ys n old_list m) (apart_after r i ys n old_list m)) is.linked;
          distinct = is.distinct;
        }

    apart : (r s i : ℕ) (ys zs : List ℕ) → slice_get (changed_at q f qs) r ≡ Some ys → slice_get (changed_at q f qs) s ≡ Some zs → has ys i ≡ true → has zs i ≡ true →
        (q ≡ r) ⊎ (q ≢ r) → (q ≡ s) ⊎ (q ≢ s) → r ≡ s
    apart r s i ys zs a k m n (inl x) (inl y) = sym x ∙ y
    apart r s i ys zs a k m n (inl x) (inr y) =
        let no = apart_after s i zs y (other_list s zs y k) n in
        let yes : has (f xs) i ≡ has ys i = ap (λ (l : List ℕ). has l i) (this_list r ys x a) in cc
    apart r s i ys zs a k m n (inr x) (inl y) =
        let no = apart_after r i ys x (other_list r ys x a) m in
        let yes : has (f xs) i ≡ has zs i = ap (λ (l : List ℕ). has l i) (this_list s zs y k) in cc
    apart r s i ys zs a k m n (inr x) (inr y) = h.apart r s i ys zs (other_list r ys x a) (other_list s zs y k) m n

-- ---- the whole

-- the links keep the lists, and they are what is seen
pub record Shows (links : List Link) (ends : List Ends) (qs : List (List ℕ)) : Type 0 where
  pub are : AreQueues links ends (lists_of links ends)
  pub shown : lists_of links ends ≡ qs

pub shows : (links : List Link) (ends : List Ends) (qs : List (List ℕ)) → AreQueues links ends qs → Shows links ends qs
shows links ends qs h = let shown = lists_shown links ends qs h in record { are = subst (AreQueues links ends) (sym shown) h; shown = shown }

-- the list of a queue
pub list_there : (links : List Link) (ends : List Ends) (q : ℕ) (e : Ends) → slice_get ends q ≡ Some e → slice_get (lists_of links ends) q ≡ Some (followed (length links) links e.first)
list_there links ends q e at = slice_get-map (λ (x : Ends). followed (length links) links x.first) ends q ∙ ap (option_map (λ (x : Ends). followed (length links) links x.first)) at

-- a number that is in none of the queues
pub in_none : (qs : List (List ℕ)) (n : ℕ) → ((q : ℕ) → q < length qs → has (get_or qs q []) n ≡ false) → (r : ℕ) (zs : List ℕ) → slice_get qs r ≡ Some zs → has zs n ≡ false
in_none qs n free r zs at =
    subst (λ (l : List ℕ). has l n ≡ false) (get_or_from_slice_get qs r zs [] at) (free r (slice_get_within qs r zs at))

pub pushed_shows : (links : List Link) (ends : List Ends) (q n : ℕ) (e : Ends) → AreQueues links ends (lists_of links ends) → slice_get ends q ≡ Some e → n < length links →
    ((r : ℕ) (zs : List ℕ) → slice_get (lists_of links ends) r ≡ Some zs → has zs n ≡ false) →
    Shows (pushed links e n) (set ends q (record { first = option_or e.first (Some n); last = Some n })) (changed_at q (with_last n) (lists_of links ends))
pushed_shows links ends q n e h at l free =
    let xs : List ℕ = followed (length links) links e.first in
    let there = list_there links ends q e at in
    shows (pushed links e n) (set ends q (record { first = option_or e.first (Some n); last = Some n })) (changed_at q (with_last n) (lists_of links ends))
    (changed_queues links (pushed links e n) ends (lists_of links ends) q e (record { first = option_or e.first (Some n); last = Some n }) xs (with_last n) h at there
    (pushed_becomes links (lists_of links ends) e xs n (h.each q e xs at there) l (free q xs there) free))

pub left_shows : (links : List Link) (ends : List Ends) (q n : ℕ) (e f : Ends) (l : Link) → AreQueues links ends (lists_of links ends) → slice_get ends q ≡ Some e → slice_get links n ≡ Some l →
    has (get_or (lists_of links ends) q []) n ≡ true →
    f.first ≡ (if is_some l.prev then e.first else l.next) → f.last ≡ (if is_some l.next then e.last else l.prev) →
    Shows (left_out links l) (set ends q f) (changed_at q (without n) (lists_of links ends))
left_shows links ends q n e f l h at link m first last =
    let xs : List ℕ = followed (length links) links e.first in
    let there = list_there links ends q e at in
    let within : has xs n ≡ true = subst (λ (zs : List ℕ). has zs n ≡ true) (get_or_from_slice_get (lists_of links ends) q xs [] there) m in
    shows (left_out links l) (set ends q f) (changed_at q (without n) (lists_of links ends))
    (changed_queues links (left_out links l) ends (lists_of links ends) q e f xs (without n) h at there
    (left_becomes links (lists_of links ends) e f xs n l (h.each q e xs at there) within link first last))

-- ---- how many

pub length_next : (o next : Option ℕ) (links : List Link) → length (with_next o next links) ≡ length links
length_next None next links = refl
length_next (Some i) next links = length_changed i (λ l. record l { next = next }) links

pub length_prev : (o prev : Option ℕ) (links : List Link) → length (with_prev o prev links) ≡ length links
length_prev None prev links = refl
length_prev (Some i) prev links = length_changed i (λ l. record l { prev = prev }) links

-- a slice of the whole list that was written
pub written : {A : Type 0} (n : ℕ) (new old : List A) → n ≡ length old → length new ≡ length old → take n (new ++ drop (length new) old) ≡ new
written n new old e l =
    ap (take n) (ap (λ (k : ℕ). new ++ drop k old) l ∙ ap (λ zs. new ++ zs) (drop-length old) ∙ append-nil new)
    ∙ ap (λ (k : ℕ). take k new) (e ∙ sym l) ∙ take-length new

-- ---- queues without numbers

pub empty_queues : (links : List Link) (n : ℕ) → AreQueues links (replicate n (record { first = None; last = None })) (replicate n [])
empty_queues links n =
    record {
      count = length-replicate n (record { first = None; last = None }) ∙ sym (length-replicate n []);
      each = λ q e xs a b. queue e xs (same n q e (record { first = None; last = None }) a) (same n q xs [] b);
      apart = λ q r i xs ys a b m k. let none : has xs i ≡ false = ap (λ (zs : List ℕ). has zs i) (same n q xs [] a) in absurd cc;
    }
  where
    same : {A : Type 0} (n q : ℕ) (x y : A) → slice_get (replicate n y) q ≡ Some x → x ≡ y
    same zero q x y a = cc
    same (suc n) zero x y a = cc
    same (suc n) (suc q) x y a = same n q x y a

    queue : (e : Ends) (xs : List ℕ) → e ≡ record { first = None; last = None } → xs ≡ [] → IsQueue links e xs
    queue e xs a b =
        subst (IsQueue links e) (sym b)
        (subst (λ (f : Ends). IsQueue links f []) (sym a) (record { first = refl; last = refl; linked = tt; distinct = distinct_none }))
