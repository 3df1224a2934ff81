-- What the lists of threads show, and what holds of each.
use Rattle.std.proofs.Common.{◌≡◌, refl, sym, ap, subst, ◌∙◌, ℕ, suc, zero, ◌+◌, ◌*◌, ◌-◌, ◌<◌, ◌≤◌, Bool, cond, not, List, [], ◌∷◌, ◌++◌, length, map, take, drop, set, replicate, Option, Some, None, slice_get, arith}
use Rattle.std.specs.Prelude.{IsSome, IsSomeAnd}
use Rattle.std.specs.List.{AllByRecursion, position, position_or_len}
use Rattle.std.specs.Option.{option_and_then}
use Rattle.std.proofs.lemmas.List.{length-map}
use Rattle.std.proofs.lemmas.List.Quantifiers.{position-Some}
use Rattle.std.proofs.lemmas.Option.{slice_get_within}
use Rattle.jx_base.specs.declared.act.Reason.{Reason}
use Rattle.jx_base.specs.declared.ids.ServiceId.{ServiceId}
use Rattle.jx_base.specs.declared.states.DomainState.{DomainState}
use Rattle.jx_base.specs.Basics.{numbered}
use Rattle.jx_model.specs.Tables.{ThreadRecord}
use Rattle.table_threads.proofs.Numbered.{numbered_from_one, numbered_place}
use Rattle.table_threads.specs.Changes.{changed_at}
use Rattle.table_threads.specs.ThreadChanges.{idle_record, own_added, own_changed}
use Rattle.domain_table.specs.declared.domains.Domains.TheInside.{Inside}
use Rattle.domain_table.specs.DomainLists.{DomainsState, ThreadsState, HasThread, IsLive, live_threads_in, of_live}
use Rattle.domain_table.specs.Inner.{HasRoom, IsDomains, domains_state}

-- ---- changes by numbers

-- a thread changed where it stands
pub changed_place : (d t : ℕ) (f : ThreadRecord → ThreadRecord) (table : List (List ThreadRecord)) → 1 ≤ d → own_changed d t f table ≡ changed_at (d - 1) (changed_at t f) table
changed_place zero t f table h = absurd (omega (arith, h))
changed_place (suc i) t f table h = ap (λ (k : ℕ). changed_at k (changed_at t f) table) (omega arith)

-- threads added where their domain stands
pub added_place : (d : ℕ) (new : List ServiceId) (table : List (List ThreadRecord)) → 1 ≤ d → own_added d new table ≡ changed_at (d - 1) (λ items. items ++ map idle_record new) table
added_place zero new table h = absurd (omega (arith, h))
added_place (suc i) new table h = ap (λ (k : ℕ). changed_at k (λ items. items ++ map idle_record new) table) (omega arith)

-- ---- what is shown

-- the threads of the first domains
abbrev pub shown : ℕ → List ThreadsState → List (List ThreadRecord)
shown n rooms = map (λ t. t.records) (take n rooms)

-- a list without threads
abbrev pub IsEmpty : ThreadsState → Type 0
IsEmpty t = t.records ≡ []

-- a list of a domain that was made is shown
pub shown_get : (n : ℕ) (rooms : List ThreadsState) (i : ℕ) (t : ThreadsState) → i < n → slice_get rooms i ≡ Some t → slice_get (shown n rooms) i ≡ Some t.records
shown_get zero rooms i t l e = absurd (omega (arith, l))
shown_get (suc n) [] i t l e = cc
shown_get (suc n) (r ∷ rooms) zero t l e = cc
shown_get (suc n) (r ∷ rooms) (suc i) t l e = shown_get n rooms i t (omega (arith, l)) e

-- what is shown is of a domain that was made
pub shown_below : (n : ℕ) (rooms : List ThreadsState) (i : ℕ) (records : List ThreadRecord) → slice_get (shown n rooms) i ≡ Some records → i < n
shown_below zero rooms i records e = cc
shown_below (suc n) [] i records e = cc
shown_below (suc n) (r ∷ rooms) zero records e = omega arith
shown_below (suc n) (r ∷ rooms) (suc i) records e = let l = shown_below n rooms i records e in omega (arith, l)

-- the threads that are shown are all that there are, since the other lists are empty
pub shown_thread : (n : ℕ) (rooms : List ThreadsState) (i t : ℕ) → AllByRecursion IsEmpty (drop n rooms) →
    option_and_then (λ records. slice_get records t) (slice_get (shown n rooms) i) ≡ option_and_then (λ room. slice_get room.records t) (slice_get rooms i)
shown_thread zero [] i t h = refl
shown_thread zero (r ∷ rooms) zero t h = ap (λ (records : List ThreadRecord). slice_get records t) (sym h.0)
shown_thread zero (r ∷ rooms) (suc i) t h = shown_thread zero rooms i t h.1
shown_thread (suc n) [] i t h = refl
shown_thread (suc n) (r ∷ rooms) zero t h = refl
shown_thread (suc n) (r ∷ rooms) (suc i) t h = shown_thread n rooms i t h

-- a list that is changed is shown changed
pub shown_set : (n : ℕ) (rooms : List ThreadsState) (i : ℕ) (old new : ThreadsState) (f : List ThreadRecord → List ThreadRecord) → i < n →
    slice_get rooms i ≡ Some old → new.records ≡ f old.records → shown n (set rooms i new) ≡ changed_at i f (shown n rooms)
shown_set zero rooms i old new f l e q = absurd (omega (arith, l))
shown_set (suc n) [] i old new f l e q = cc
shown_set (suc n) (r ∷ rooms) zero old new f l e q =
    let same : r ≡ old = cc in ap (λ (records : List ThreadRecord). records ∷ shown n rooms) (q ∙ ap (λ (t : ThreadsState). f t.records) (sym same))
shown_set (suc n) (r ∷ rooms) (suc i) old new f l e q = ap (λ (rest : List (List ThreadRecord)). r.records ∷ rest) (shown_set n rooms i old new f (omega (arith, l)) e q)

-- a thread of the domain of a number
pub thread_at : (n : ℕ) (rooms : List ThreadsState) (d place t : ℕ) → 1 ≤ d → place ≡ d - 1 → AllByRecursion IsEmpty (drop n rooms) →
    option_and_then (λ records. slice_get records t) (numbered (shown n rooms) d) ≡ option_and_then (λ room. slice_get room.records t) (slice_get rooms place)
thread_at n rooms d place t one e h =
    ap (option_and_then (λ (records : List ThreadRecord). slice_get records t)) (numbered_place (shown n rooms) d one)
    ∙ shown_thread n rooms (d - 1) t h
    ∙ ap (λ (i : ℕ). option_and_then (λ (room : ThreadsState). slice_get room.records t) (slice_get rooms i)) (sym e)

-- ---- what holds of each

-- of the item at a place
pub all_get : {X : Type 0} (P : X → Type 0) (xs : List X) (i : ℕ) (x : X) → slice_get xs i ≡ Some x → AllByRecursion P xs → P x
all_get P [] i x e h = cc
all_get P (y ∷ xs) zero x e h = let q : y ≡ x = cc in subst P q h.0
all_get P (y ∷ xs) (suc i) x e h = all_get P xs i x e h.1

-- also after one is set
pub all_set : {X : Type 0} (P : X → Type 0) (xs : List X) (i : ℕ) (v : X) → P v → AllByRecursion P xs → AllByRecursion P (set xs i v)
all_set P [] i v p h = tt
all_set P (y ∷ xs) zero v p h = (p, h.1)
all_set P (y ∷ xs) (suc i) v p h = (h.0, all_set P xs i v p h.1)

-- of each of the same items
pub all_replicate : {X : Type 0} (P : X → Type 0) (n : ℕ) (v : X) → P v → AllByRecursion P (replicate n v)
all_replicate P zero v p = tt
all_replicate P (suc n) v p = (p, all_replicate P n v p)

-- more services leave the room that there is
pub more_services : (n : ℕ) (rooms : List ThreadsState) → AllByRecursion (HasRoom n) rooms → AllByRecursion (HasRoom (n + 1)) rooms
more_services n [] h = tt
more_services n (r ∷ rooms) h = (record { room = h.0.room; count = let l : length r.records ≤ 1 + 8 * n = h.0.count in omega (arith, l) }, more_services n rooms h.1)

-- a change of one item leaves their number
pub length_changed : {A : Type 0} (i : ℕ) (f : A → A) (xs : List A) → length (changed_at i f xs) ≡ length xs
length_changed i f [] = refl
length_changed zero f (x ∷ xs) = refl
length_changed (suc i) f (x ∷ xs) = ap suc (length_changed i f xs)

-- ---- a domain of the table

-- a domain that was made has its list
pub record HasList (x : Inside) (d : ℕ) : Type 0 where
  pub from_one : 1 ≤ d
  pub made : d - 1 < length x.domains.items
  pub below : d - 1 < length x.threads.items

-- a live domain was made
pub live_list : (x : Inside) (y : DomainsState) (d : ℕ) → domains_state x ≡ y → IsDomains x → IsLive y d → HasList x d
live_list x y d e inv h = by (numbered y.domains d) refl h
  where
    by : (o : Option DomainState) → numbered y.domains d ≡ o → IsSomeAnd o (λ domain. domain.ended ≡ None) → HasList x d
    by None q h = absurd h
    by (Some domain) q h =
        let one : 1 ≤ d = numbered_from_one y.domains d domain q in
        let l : d - 1 < length y.domains = slice_get_within y.domains (d - 1) domain (sym (numbered_place y.domains d one) ∙ q) in
        let count : length x.domains.items ≡ length y.domains = ap (λ (z : DomainsState). length z.domains) e in
        let made : d - 1 < length x.domains.items = omega (arith, l, count) in
        record { from_one = one; made = made; below = omega (arith, made, inv.made, inv.lists) }

-- a thread of a domain has its list and its place there
pub record HasRecord (x : Inside) (d t : ℕ) : Type 0 where
  pub list : HasList x d
  pub below : (room : ThreadsState) → slice_get x.threads.items (d - 1) ≡ Some room → t < length room.records

-- a thread of the table has them
pub thread_list : (x : Inside) (y : DomainsState) (d t : ℕ) → domains_state x ≡ y → IsDomains x → HasThread y d t → HasRecord x d t
thread_list x y d t e inv h = by (numbered y.threads d) refl h
  where
    n : ℕ
    n = length x.domains.items

    inner : (records : List ThreadRecord) → numbered y.threads d ≡ Some records → (o : Option ThreadRecord) → slice_get records t ≡ o → IsSome o → HasRecord x d t
    inner records q None g h = absurd cc
    inner records q (Some r) g h =
        let one : 1 ≤ d = numbered_from_one y.threads d records q in
        let there : slice_get (shown n x.threads.items) (d - 1) ≡ Some records =
        ap (λ (z : DomainsState). slice_get z.threads (d - 1)) e ∙ sym (numbered_place y.threads d one) ∙ q
        in
        let made : d - 1 < n = shown_below n x.threads.items (d - 1) records there in
        record {
          list = record { from_one = one; made = made; below = omega (arith, made, inv.made, inv.lists) };
          below = λ (room : ThreadsState) (k : slice_get x.threads.items (d - 1) ≡ Some room).
              let same : Some room.records ≡ Some records = sym (shown_get n x.threads.items (d - 1) room made k) ∙ there in
              let l : t < length records = slice_get_within records t r g in
              let q : records ≡ room.records = cc in
              subst (λ (rs : List ThreadRecord). t < length rs) q l;
        }

    by : (o : Option (List ThreadRecord)) → numbered y.threads d ≡ o → IsSome (option_and_then (λ records. slice_get records t) o) → HasRecord x d t
    by None q h = absurd cc
    by (Some records) q h = inner records q (slice_get records t) refl h

-- ---- live domains

-- a domain that has not ended has its list
pub running_list : (x : Inside) (y : DomainsState) (d : ℕ) (domain : DomainState) → domains_state x ≡ y → IsDomains x → numbered y.domains d ≡ Some domain → domain.ended ≡ None → HasList x d
running_list x y d domain e inv q h = live_list x y d e inv (subst (λ (o : Option DomainState). IsSomeAnd o (λ z. z.ended ≡ None)) (sym q) h)

-- its threads are those of its list
pub live_records : (x : Inside) (y : DomainsState) (d : ℕ) (domain : DomainState) (room : ThreadsState) → domains_state x ≡ y → HasList x d → numbered y.domains d ≡ Some domain →
    domain.ended ≡ None → slice_get x.threads.items (d - 1) ≡ Some room → live_threads_in y d ≡ Some room.records
live_records x y d domain room e list q h there =
    let records : numbered y.threads d ≡ Some room.records =
    numbered_place y.threads d list.from_one
    ∙ sym (ap (λ (z : DomainsState). slice_get z.threads (d - 1)) e)
    ∙ shown_get (length x.domains.items) x.threads.items (d - 1) room list.made there
    in
    ap (option_and_then (λ (z : DomainState). of_live z.ended (numbered y.threads d))) q
    ∙ ap (λ (o : Option Reason). of_live o (numbered y.threads d)) h
    ∙ records

-- one that has ended has none
pub no_live_records : (y : DomainsState) (d : ℕ) (domain : DomainState) (why : Reason) → numbered y.domains d ≡ Some domain → domain.ended ≡ Some why → live_threads_in y d ≡ None
no_live_records y d domain why q h =
    ap (option_and_then (λ (z : DomainState). of_live z.ended (numbered y.threads d))) q ∙ ap (λ (o : Option Reason). of_live o (numbered y.threads d)) h

-- the first place of an item is that of what f gives of it
pub position_map : {A B : Type 0} (f : A → B) (p : B → Bool) (xs : List A) → position (λ x. p (f x)) xs ≡ position p (map f xs)
position_map {A} {B} f p xs = cc (places xs, length-map xs f)
  where
    places : (ys : List A) → position_or_len (λ x. p (f x)) ys ≡ position_or_len p (map f ys)
    places [] = refl
    places (y ∷ ys) = ap (λ n. cond (not (p (f y))) (1 + n) 0) (places ys)

-- what is found is in the list
pub found_within : {A : Type 0} (p : A → Bool) (xs : List A) (i : ℕ) → position p xs ≡ Some i → i < length xs
found_within p [] i h = cc
found_within p (x ∷ xs) i h = (position-Some p (x ∷ xs) i x h).0
