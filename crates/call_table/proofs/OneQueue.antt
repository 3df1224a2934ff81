-- One queue that changes.
use Rattle.std.proofs.Common.{◌≡◌, ◌≢◌, refl, sym, ◌∙◌, ap, subst, ℕ, ◌<◌, true, false, List, [], ◌∷◌, ◌++◌, length, set, Option, Some, None, is_some, slice_get, ◌==◌, ◌⊎◌, inl, inr}
use Rattle.std.specs.Prelude.{if◌then◌else◌}
use Rattle.std.specs.Option.{option_or}
use Rattle.jx_base.proofs.BasicLaws.{ap2}
use Rattle.table_threads.specs.Changes.{changed_at}
use Rattle.table_threads.proofs.Records.{is_that, not_that, same_or_not, set_changed}
use Rattle.call_table.specs.declared.links.Ends.{Ends}
use Rattle.call_table.specs.declared.links.Link.{Link}
use Rattle.call_table.specs.Linked.{IsLinked, IsQueue, first_or, last_or}
use Rattle.call_table.specs.Links.{with_next, with_prev}
use Rattle.call_table.specs.QueueLists.{has, with_last, without}
use Rattle.call_table.proofs.Chains.{IsNot, last_of_parts, linked_from, linked_joined, linked_left, linked_right, linked_same, linked_to, next_stays, not_first, not_last, prev_stays}
use Rattle.call_table.proofs.Lists.{get_changed, get_other, get_there, neither, passes_or_fails}
use Rattle.call_table.proofs.Members.{HasBetween, IsDistinctInParts, between, distinct_first, distinct_joined, distinct_last, distinct_parts, distinct_rest, has_append, without_between}

-- a queue with other ends and links becomes another list; the links of no other number change, and none comes from another queue
pub record Becomes (links new : List Link) (qs : List (List ℕ)) (e : Ends) (xs ys : List ℕ) : Type 0 where
  pub queue : IsQueue new e ys
  pub others : (i : ℕ) → has xs i ≡ false → has ys i ≡ false → slice_get new i ≡ slice_get links i
  pub come : (r i : ℕ) (zs : List ℕ) → has ys i ≡ true → has xs i ≡ false → slice_get qs r ≡ Some zs → has zs i ≡ false

-- ---- a number more

-- the links of a number that comes last
abbrev pub pushed : List Link → Ends → ℕ → List Link
pushed links e n = with_next e.last (Some n) (set links n (record { prev = e.last; next = None }))

pub pushed_becomes : (links : List Link) (qs : List (List ℕ)) (e : Ends) (xs : List ℕ) (n : ℕ) → IsQueue links e xs → n < length links → has xs n ≡ false →
    ((r : ℕ) (zs : List ℕ) → slice_get qs r ≡ Some zs → has zs n ≡ false) →
    Becomes links (pushed links e n) qs (record { first = option_or e.first (Some n); last = Some n }) xs (with_last n xs)
pushed_becomes links qs e xs n is l fresh free =
    record {
      queue = record {
        first = ap (λ (o : Option ℕ). option_or o (Some n)) is.first ∙ first_more xs;
        last = sym (last_of_parts None xs (n ∷ []));
        linked = linked_joined (pushed links e n) None xs (n ∷ []) None before (at, tt);
        distinct = distinct_last xs n is.distinct fresh;
      };
      others = λ i a b. others i a (same_or_not n i) b;
      come = λ r i zs a b k. come r i zs a b k (same_or_not n i);
    }
  where
    new : Link
    new = record { prev = e.last; next = None }

    placed : List Link
    placed = set links n new

    old : (x : Link) × (slice_get links n ≡ Some x)
    old = get_there links n l

    placed_changed : placed ≡ changed_at n (λ _. new) links
    placed_changed = set_changed n (λ _. new) links old.0 old.1

    placed_other : (i : ℕ) → n ≢ i → slice_get placed i ≡ slice_get links i
    placed_other i d = ap (λ (ls : List Link). slice_get ls i) placed_changed ∙ get_other n i (λ _. new) links d

    placed_at : slice_get placed n ≡ Some new
    placed_at = ap (λ (ls : List Link). slice_get ls n) placed_changed ∙ get_changed n (λ _. new) links old.0 old.1

    not_new : (i : ℕ) → has xs i ≡ true → n ≢ i
    not_new i m d = let same : has xs n ≡ has xs i = ap (has xs) d in cc

    in_order : IsLinked placed None xs None
    in_order = linked_same links placed None xs None (λ i m. placed_other i (not_new i m)) is.linked

    before : IsLinked (pushed links e n) None xs (Some n)
    before = subst (λ (o : Option ℕ). IsLinked (with_next o (Some n) placed) None xs (Some n)) (sym is.last) (linked_to placed None xs None (Some n) is.distinct in_order)

    last_stays : (i : ℕ) → has xs i ≡ false → slice_get (pushed links e n) i ≡ slice_get placed i
    last_stays i a = next_stays e.last (Some n) placed i (subst (λ (o : Option ℕ). IsNot o i) (sym is.last) (not_last xs i a))

    at : slice_get (pushed links e n) n ≡ Some (record { prev = last_or None xs; next = None })
    at = last_stays n fresh ∙ placed_at ∙ ap (λ (o : Option ℕ). Some (record { prev = o; next = None })) is.last

    first_more : (ys : List ℕ) → option_or (first_or ys None) (Some n) ≡ first_or (ys ++ n ∷ []) None
    first_more [] = refl
    first_more (y ∷ ys) = refl

    others : (i : ℕ) → has xs i ≡ false → (n ≡ i) ⊎ (n ≢ i) → has (with_last n xs) i ≡ false → slice_get (pushed links e n) i ≡ slice_get links i
    others i a (inl d) b = let whole = has_append xs (n ∷ []) i in let z = is_that i n (sym d) in absurd cc
    others i a (inr d) b = last_stays i a ∙ placed_other i d

    come : (r i : ℕ) (zs : List ℕ) → has (with_last n xs) i ≡ true → has xs i ≡ false → slice_get qs r ≡ Some zs → (n ≡ i) ⊎ (n ≢ i) → has zs i ≡ false
    come r i zs a b k (inl d) = subst (λ (m : ℕ). has zs m ≡ false) d (free r zs k)
    come r i zs a b k (inr d) = let whole = has_append xs (n ∷ []) i in let z = not_that i n d in absurd cc

-- ---- a number less

-- the links round a number that leaves
abbrev pub left_out : List Link → Link → List Link
left_out links l = with_prev l.next l.prev (with_next l.prev l.next links)

-- what is known of a number in a queue
pub record IsBetween (links : List Link) (xs : List ℕ) (l : Link) (n : ℕ) : Type 0 where
  pub parts : HasBetween xs n
  pub prev : l.prev ≡ last_or None parts.before
  pub next : l.next ≡ first_or parts.after None

pub is_between : (links : List Link) (e : Ends) (xs : List ℕ) (n : ℕ) (l : Link) → IsQueue links e xs → has xs n ≡ true → slice_get links n ≡ Some l → IsBetween links xs l n
is_between links e xs n l is m at =
    let parts = between xs n m in
    let whole : IsLinked links None (parts.before ++ n ∷ parts.after) None = subst (λ (ys : List ℕ). IsLinked links None ys None) parts.whole is.linked in
    let right : IsLinked links (last_or None parts.before) (n ∷ parts.after) None = linked_right links None parts.before (n ∷ parts.after) None whole in
    let same : Some l ≡ Some (record { prev = last_or None parts.before; next = first_or parts.after None }) = sym at ∙ right.0 in
    let link : l ≡ record { prev = last_or None parts.before; next = first_or parts.after None } = cc in
    record { parts = parts; prev = ap (λ (x : Link). x.prev) link; next = ap (λ (x : Link). x.next) link }

-- the parts before and after it join
pub left_between : (links : List Link) (qs : List (List ℕ)) (e f : Ends) (before after : List ℕ) (n : ℕ) (l : Link) → IsQueue links e (before ++ n ∷ after) →
    l.prev ≡ last_or None before → l.next ≡ first_or after None →
    f.first ≡ (if is_some l.prev then e.first else l.next) → f.last ≡ (if is_some l.next then e.last else l.prev) →
    Becomes links (left_out links l) qs f (before ++ n ∷ after) (before ++ after)
left_between links qs e f before after n l is prev next first last =
    record {
      queue = record {
        first = first ∙ ap (λ (o : Option ℕ). if is_some o then e.first else l.next) prev ∙ first_is before is.first;
        last = last ∙ ap (λ (o : Option ℕ). if is_some o then e.last else l.prev) next ∙ last_is after is.last;
        linked = linked_joined (left_out links l) None before after None left right;
        distinct = distinct_joined before after (record { left = parts.left; right = distinct_rest n after parts.right; disjoint = λ i m. (neither (i == n) (has after i) (parts.disjoint i m)).1 });
      };
      others = λ i a b. others i a;
      come = λ r i zs a b k. come zs i a b;
    }
  where
    parts : IsDistinctInParts before (n ∷ after)
    parts = distinct_parts before (n ∷ after) is.distinct

    middle : List Link
    middle = with_next (last_or None before) (first_or after None) links

    new : List Link
    new = with_prev (first_or after None) (last_or None before) middle

    links_are : left_out links l ≡ new
    links_are = ap2 (λ (o p : Option ℕ). with_prev p o (with_next o p links)) prev next

    not_before : (i : ℕ) → has after i ≡ true → has before i ≡ false
    not_before i m = by (passes_or_fails (has before i))
      where
        by : (has before i ≡ true) ⊎ (has before i ≡ false) → has before i ≡ false
        by (inl t) = let no = (neither (i == n) (has after i) (parts.disjoint i t)).1 in cc
        by (inr t) = t

    not_after : (i : ℕ) → has before i ≡ true → has after i ≡ false
    not_after i m = (neither (i == n) (has after i) (parts.disjoint i m)).1

    left_new : IsLinked new None before (first_or after None)
    left_new =
        linked_same middle new None before (first_or after None) (λ i m. prev_stays (first_or after None) (last_or None before) middle i (not_first after i (not_after i m)))
        (linked_to links None before (Some n) (first_or after None) parts.left (linked_left links None before (n ∷ after) None is.linked))

    right_new : IsLinked new (last_or None before) after None
    right_new =
        linked_from middle (Some n) after None (last_or None before) (distinct_rest n after parts.right)
        (linked_same links middle (Some n) after None (λ i m. next_stays (last_or None before) (first_or after None) links i (not_last before i (not_before i m)))
        (linked_right links None before (n ∷ after) None is.linked).1)

    left : IsLinked (left_out links l) None before (first_or after None)
    left = subst (λ (ls : List Link). IsLinked ls None before (first_or after None)) (sym links_are) left_new

    right : IsLinked (left_out links l) (last_or None before) after None
    right = subst (λ (ls : List Link). IsLinked ls (last_or None before) after None) (sym links_are) right_new

    first_is : (ys : List ℕ) → e.first ≡ first_or (ys ++ n ∷ after) None → (if is_some (last_or None ys) then e.first else l.next) ≡ first_or (ys ++ after) None
    first_is [] h = next
    first_is (y ∷ ys) h = by y ys ∙ h
      where
        by : (y : ℕ) (ys : List ℕ) → (if is_some (last_or (Some y) ys) then e.first else l.next) ≡ e.first
        by y [] = refl
        by y (z ∷ ys) = by z ys

    last_is : (ys : List ℕ) → e.last ≡ last_or None (before ++ n ∷ ys) → (if is_some (first_or ys None) then e.last else l.prev) ≡ last_or None (before ++ ys)
    last_is [] h = prev ∙ sym (last_of_parts None before [])
    last_is (y ∷ ys) h = h ∙ last_of_parts None before (n ∷ y ∷ ys) ∙ sym (last_of_parts None before (y ∷ ys))

    others : (i : ℕ) → has (before ++ n ∷ after) i ≡ false → slice_get (left_out links l) i ≡ slice_get links i
    others i a =
        let apart = neither (has before i) (has (n ∷ after) i) (sym (has_append before (n ∷ after) i) ∙ a) in
        let not_there = (neither (i == n) (has after i) apart.1).1 in
        ap (λ (ls : List Link). slice_get ls i) links_are
        ∙ prev_stays (first_or after None) (last_or None before) middle i (not_first after i not_there)
        ∙ next_stays (last_or None before) (first_or after None) links i (not_last before i apart.0)

    come : (zs : List ℕ) (i : ℕ) → has (before ++ after) i ≡ true → has (before ++ n ∷ after) i ≡ false → has zs i ≡ false
    come zs i a b =
        let apart = neither (has before i) (has (n ∷ after) i) (sym (has_append before (n ∷ after) i) ∙ b) in
        let not_there = (neither (i == n) (has after i) apart.1).1 in
        let joined : has (before ++ after) i ≡ false = has_append before after i ∙ rw apart.0 not_there in
        absurd cc

pub left_becomes : (links : List Link) (qs : List (List ℕ)) (e f : Ends) (xs : List ℕ) (n : ℕ) (l : Link) → IsQueue links e xs → has xs n ≡ true → slice_get links n ≡ Some l →
    f.first ≡ (if is_some l.prev then e.first else l.next) → f.last ≡ (if is_some l.next then e.last else l.prev) →
    Becomes links (left_out links l) qs f xs (without n xs)
left_becomes links qs e f xs n l is m at first last =
    let place = is_between links e xs n l is m at in
    let before = place.parts.before in
    let after = place.parts.after in
    let whole : xs ≡ before ++ n ∷ after = place.parts.whole in
    let is_whole : IsQueue links e (before ++ n ∷ after) = subst (IsQueue links e) whole is in
    let parts = distinct_parts before (n ∷ after) is_whole.distinct in
    let gone : without n xs ≡ before ++ after = ap (without n) whole ∙ without_between n before after (not_in before after n parts) (distinct_first n after parts.right) in
    subst (λ (zs : List ℕ). Becomes links (left_out links l) qs f zs (without n xs)) (sym whole)
    (subst (Becomes links (left_out links l) qs f (before ++ n ∷ after)) (sym gone)
    (left_between links qs e f before after n l is_whole place.prev place.next first last))
  where
    not_in : (before after : List ℕ) (n : ℕ) → IsDistinctInParts before (n ∷ after) → has before n ≡ false
    not_in before after n parts = by (passes_or_fails (has before n))
      where
        by : (has before n ≡ true) ⊎ (has before n ≡ false) → has before n ≡ false
        by (inl t) = let no = (neither (n == n) (has after n) (parts.disjoint n t)).0 in let yes = is_that n n refl in cc
        by (inr t) = t
