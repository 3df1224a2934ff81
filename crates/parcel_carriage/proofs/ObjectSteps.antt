-- The objects after a change of some of them, and of some more.
use Rattle.std.proofs.Common.{◌≡◌, refl, sym, ◌∙◌, ap, subst, ℕ, ◌+◌, ◌<◌, ◌≤◌, Bool, true, false, not, ◌||◌, ◌&&◌, List, length, take, get_or, Option, Some, None, ◌==◌, if◌then◌else◌}
use Rattle.std.specs.Prelude.{IsSomeAnd}
use Rattle.std.specs.List.{AllByRecursion, list_any}
use Rattle.std.specs.Option.{option_map}
use Rattle.std.proofs.lemmas.List.Folds.{list_any_at, list_any_more}
use Rattle.jx_base.specs.declared.value.Node.{Node}
use Rattle.jx_base.specs.declared.value.Parcel.{Parcel}
use Rattle.jx_base.specs.declared.value.Word.{Word}
use Rattle.jx_base.specs.Basics.{contains_number, numbered}
use Rattle.jx_base.proofs.BasicLaws.{eq_of, same_number}
use Rattle.jx_model.specs.Tables.{ObjectRecord}
use Rattle.memory_objects.specs.ObjectLists.{ObjectsState, is_kept, with_record}
use Rattle.memory_objects.proofs.Tree.{numbered_each}
use Rattle.parcel_carriage.specs.Changes.{Allows, changed_by, is_among, is_met, is_new, is_object, stands_in, unmet, with_those}
use Rattle.parcel_carriage.specs.declared.changes.Change.{Change}
use Rattle.parcel_carriage.specs.declared.changes.Change.TheVariants as change
use Rattle.parcel_carriage.proofs.Picked.{alike, none, one_more, picked, twice}
use Rattle.parcel_carriage.proofs.Standing.{all_at, objects_stand, unmet_none, unmet_some}
use Rattle.program_model.specs.ParcelParts.{parcel_objects}
use Rattle.table_threads.proofs.Numbered.{numbered_from_one}

-- ---- tests

known : (b : Bool) → b ≡ true → b ≡ false → {A : Type 0} → A
known true h g = cc
known false h g = cc

pub second : (a b : Bool) → b ≡ true → (a || b) ≡ true
second true b h = refl
second false b h = h

neither : (a b : Bool) → (a || b) ≡ false → (a ≡ false) × (b ≡ false)
neither true b h = cc
neither false b h = (refl, h)

-- ---- records

no_change : (p : ℕ → Bool) (f : ObjectRecord → ObjectRecord) (m : ℕ) (o : Option ObjectRecord) → p m ≡ false → option_map (picked p f m) o ≡ o
no_change p f m None h = refl
no_change p f m (Some r) h = ap (λ (b : Bool). Some (if b then f r else r)) h

module _ (c : Change) (x : ObjectsState) where
  -- the same ones make the same objects
  pub those_alike : (p q : ℕ → Bool) → ((j : ℕ) → p j ≡ q j) → with_those c p x ≡ with_those c q x
  those_alike p q h = ap (λ (rs : List ObjectRecord). record x { records = rs }) (alike p q (changed_by c) 1 x.records h)

  -- none leave the objects
  pub those_none : (p : ℕ → Bool) → ((j : ℕ) → p j ≡ false) → x ≡ with_those c p x
  those_none p h = ap (λ (rs : List ObjectRecord). record x { records = rs }) (none p (changed_by c) 1 x.records h)

  -- one more that wasn't among them
  pub those_one : (p : ℕ → Bool) (k : ℕ) → 1 ≤ k → p k ≡ false → with_record (with_those c p x) k (changed_by c) ≡ with_those c (λ j. p j || (k == j)) x
  those_one p k l h =
      ap (λ (rs : List ObjectRecord). record x { records = rs }) (one_more p k (changed_by c) x.records l (λ r g. known (p k) g h))

  -- some more that weren't among them
  pub those_twice : (p q : ℕ → Bool) → ((j : ℕ) → p j ≡ true → q j ≡ false) → with_those c q (with_those c p x) ≡ with_those c (λ j. p j || q j) x
  those_twice p q h =
      ap (λ (rs : List ObjectRecord). record x { records = rs }) (twice p q (changed_by c) 1 x.records (λ j r g e. known (q j) e (h j g)))

  still_there : (p : ℕ → Bool) (m : ℕ) (P : ObjectRecord → Type 0) → p m ≡ false → IsSomeAnd (numbered x.records m) P → IsSomeAnd (numbered (with_those c p x).records m) P
  still_there p m P h g =
      subst (λ (o : Option ObjectRecord). IsSomeAnd o P)
      (sym (numbered_each (picked p (changed_by c)) x.records m ∙ no_change p (changed_by c) m (numbered x.records m) h)) g

made_from_one : (records : List ObjectRecord) (m : ℕ) (P : ObjectRecord → Type 0) → IsSomeAnd (numbered records m) P → 1 ≤ m
made_from_one records m P g = by (numbered records m) refl g
  where
    by : (o : Option ObjectRecord) → numbered records m ≡ o → IsSomeAnd o P → 1 ≤ m
    by None e g = absurd g
    by (Some r) e g = numbered_from_one records m r e

-- what a change asks of an object it asks after the change of others
pub allows_still : (c : Change) (x : ObjectsState) (p : ℕ → Bool) (m : ℕ) → p m ≡ false → Allows c x m → Allows c (with_those c p x) m
allows_still (change.Give d) x p m h g = (g.0, still_there (change.Give d) x p m (λ r. is_kept r ≡ true) h g.1)
allows_still change.Ride x p m h g = (still_there change.Ride x p m (λ r. is_kept r ≡ true) h g.0, still_there change.Ride x p m (λ r. r.riding < 4294967295) h g.1)
allows_still change.Land x p m h g = still_there change.Land x p m (λ r. 1 ≤ r.riding) h g

-- it asks that the object was made
pub allows_made : (c : Change) (x : ObjectsState) (m : ℕ) → Allows c x m → 1 ≤ m
allows_made (change.Give d) x m g = made_from_one x.records m (λ r. is_kept r ≡ true) g.1
allows_made change.Ride x m g = made_from_one x.records m (λ r. is_kept r ≡ true) g.0
allows_made change.Land x m g = made_from_one x.records m (λ r. 1 ≤ r.riding) g

-- ---- words

-- a new one more
fresh : (a b e : Bool) → (e ≡ true → (b || a) ≡ false) → ((a && not b) || e) ≡ ((a || e) && not b)
fresh true true false h = refl
fresh true false false h = refl
fresh false true false h = refl
fresh false false false h = refl
fresh true true true h = let e : true ≡ false = h refl in cc
fresh true false true h = refl
fresh false true true h = let e : true ≡ false = h refl in cc
fresh false false true h = refl

-- an old one more
stale : (a b i : Bool) → (i ≡ true → (b || a) ≡ true) → (a && not b) ≡ ((a || i) && not b)
stale true b i h = refl
stale false true true h = refl
stale false true false h = refl
stale false false true h = let e : false ≡ true = h refl in cc
stale false false false h = refl

not_new : (a b : Bool) → (b || a) ≡ false → (a && not b) ≡ false
not_new a true h = cc
not_new true false h = cc
not_new false false h = refl

module _ (c : Change) (x : ObjectsState) (roots : List Word) (nodes : List Node) (words : List Word) (i : ℕ) (d : Word) (l : i < length words) where
  -- an object that wasn't met may change
  pub word_allows : (k : ℕ) → Some k ≡ unmet (is_met roots nodes (take i words)) (get_or words i d)
      → ((m : ℕ) → is_among words m ≡ true → stands_in roots nodes m ≡ false → Allows c x m) → Allows c x k
  word_allows k h all =
      let new = unmet_some (is_met roots nodes (take i words)) (get_or words i d) k h in
      let here : is_object k (get_or words i d) ≡ true = new.same k ∙ same_number k in
      all k (list_any_at (is_object k) words i d l here) (neither (stands_in roots nodes k) (is_among (take i words) k) new.first).0

  -- also after the change of those before
  pub word_may : (k : ℕ) → Some k ≡ unmet (is_met roots nodes (take i words)) (get_or words i d)
      → ((m : ℕ) → is_among words m ≡ true → stands_in roots nodes m ≡ false → Allows c x m)
      → Allows c (with_those c (is_new roots nodes (take i words)) x) k
  word_may k h all =
      let new = unmet_some (is_met roots nodes (take i words)) (get_or words i d) k h in
      allows_still c x (is_new roots nodes (take i words)) k (not_new (is_among (take i words) k) (stands_in roots nodes k) new.first) (word_allows k h all)

  -- its change is that of one word more
  pub word_changed : (k : ℕ) → Some k ≡ unmet (is_met roots nodes (take i words)) (get_or words i d) → 1 ≤ k
      → with_record (with_those c (is_new roots nodes (take i words)) x) k (changed_by c) ≡ with_those c (is_new roots nodes (take (i + 1) words)) x
  word_changed k h o =
      let new = unmet_some (is_met roots nodes (take i words)) (get_or words i d) k h in
      those_one c x (is_new roots nodes (take i words)) k o (not_new (is_among (take i words) k) (stands_in roots nodes k) new.first)
      ∙ those_alike c x (λ j. is_new roots nodes (take i words) j || (k == j)) (is_new roots nodes (take (i + 1) words))
      (λ j. fresh (is_among (take i words) j) (stands_in roots nodes j) (k == j) (λ e. ap (is_met roots nodes (take i words)) (sym (eq_of k j e)) ∙ new.first)
      ∙ ap (λ (b : Bool). (is_among (take i words) j || b) && not (stands_in roots nodes j)) (sym (new.same j))
      ∙ ap (λ (b : Bool). b && not (stands_in roots nodes j)) (sym (list_any_more (is_object j) words i d l)))

  -- where there is no new object, one word more changes nothing
  pub word_left : None ≡ unmet (is_met roots nodes (take i words)) (get_or words i d)
      → with_those c (is_new roots nodes (take i words)) x ≡ with_those c (is_new roots nodes (take (i + 1) words)) x
  word_left h =
      those_alike c x (is_new roots nodes (take i words)) (is_new roots nodes (take (i + 1) words))
      (λ j. stale (is_among (take i words) j) (stands_in roots nodes j) (is_object j (get_or words i d)) (unmet_none (is_met roots nodes (take i words)) (get_or words i d) h j)
      ∙ ap (λ (b : Bool). b && not (stands_in roots nodes j)) (sym (list_any_more (is_object j) words i d l)))

-- ---- nodes

later : (r n b : Bool) → ((r || n) || (b && not (r || n))) ≡ (r || (n || b))
later true n b = refl
later false true b = refl
later false false true = refl
later false false false = refl

after : (b s : Bool) → s ≡ true → (b && not s) ≡ false
after true true h = refl
after false true h = refl
after b false h = cc

module _ (c : Change) (x : ObjectsState) (roots : List Word) (nodes : List Node) (i : ℕ) (n : Node) (cells : List Word) (l : i < length nodes) (e : n ≡ get_or nodes i n) (f : cells ≡ n.cells) where
  there : (m : ℕ) → is_among (get_or nodes i n).cells m ≡ is_among cells m
  there m = ap (λ (y : Node). is_among y.cells m) (sym e) ∙ ap (λ (ws : List Word). is_among ws m) (sym f)

  -- the objects of a node's cells may change after those before
  pub node_may : ((m : ℕ) → stands_in roots nodes m ≡ true → Allows c x m) → (m : ℕ) → is_among cells m ≡ true → stands_in roots (take i nodes) m ≡ false
      → Allows c (with_those c (stands_in roots (take i nodes)) x) m
  node_may all m q g =
      allows_still c x (stands_in roots (take i nodes)) m g
      (all m (second (is_among roots m) (list_any (λ y. is_among y.cells m) nodes) (list_any_at (λ y. is_among y.cells m) nodes i n l (there m ∙ q))))

  -- their change is that of one node more
  pub node_changed : with_those c (is_new roots (take i nodes) cells) (with_those c (stands_in roots (take i nodes)) x) ≡ with_those c (stands_in roots (take (i + 1) nodes)) x
  node_changed =
      those_twice c x (stands_in roots (take i nodes)) (is_new roots (take i nodes) cells) (λ j g. after (is_among cells j) (stands_in roots (take i nodes) j) g)
      ∙ those_alike c x (λ j. stands_in roots (take i nodes) j || is_new roots (take i nodes) cells j) (stands_in roots (take (i + 1) nodes))
      (λ j. later (is_among roots j) (list_any (λ y. is_among y.cells j) (take i nodes)) (is_among cells j)
      ∙ ap (λ (b : Bool). is_among roots j || (list_any (λ y. is_among y.cells j) (take i nodes) || b)) (sym (there j))
      ∙ ap (λ (b : Bool). is_among roots j || b) (sym (list_any_more (λ y. is_among y.cells j) nodes i n l)))

-- ---- the parcel

-- the objects that stand in a parcel are those that it has
pub parcel_changed : (c : Change) (x : ObjectsState) (p : Parcel) → with_those c (stands_in p.roots p.nodes) x ≡ with_those c (contains_number (parcel_objects p)) x
parcel_changed c x p = those_alike c x (stands_in p.roots p.nodes) (contains_number (parcel_objects p)) (objects_stand p)

-- what holds of all objects of a parcel holds of one that stands in it
pub stands_all : (P : ℕ → Type 0) (p : Parcel) (m : ℕ) → AllByRecursion P (parcel_objects p) → stands_in p.roots p.nodes m ≡ true → P m
stands_all P p m h q = all_at P (parcel_objects p) m h (sym (objects_stand p m) ∙ q)
