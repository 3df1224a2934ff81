-- The services after a domain got portals to some of them, and to some more.
use Rattle.std.proofs.Common.{◌≡◌, refl, sym, ◌∙◌, ap, ℕ, zero, suc, ◌+◌, ◌-◌, ◌<◌, ◌≤◌, Bool, true, false, ◌||◌, List, [], ◌∷◌, length, take, get_or, ◌==◌, arith}
use Rattle.std.specs.List.{AllByRecursion, list_any}
use Rattle.std.proofs.lemmas.List.Folds.{list_any_at, list_any_more}
use Rattle.jx_base.specs.declared.ids.ClassId.{ClassId}
use Rattle.jx_base.specs.declared.ids.ServiceId.{ServiceId}
use Rattle.jx_base.specs.declared.value.Node.{Node}
use Rattle.jx_base.specs.declared.value.Parcel.{Parcel}
use Rattle.jx_base.specs.declared.value.Word.{Word}
use Rattle.jx_base.specs.declared.value.Word.TheVariants as word
use Rattle.jx_base.specs.Basics.{contains_number}
use Rattle.jx_base.proofs.BasicLaws.{same_number}
use Rattle.jx_model.specs.Tables.{ServiceRecord}
use Rattle.parcel_carriage.specs.Carriage.{held_by}
use Rattle.parcel_carriage.specs.Words.{has_portal, portal_in, with_held}
use Rattle.parcel_carriage.proofs.ObjectSteps.{second}
use Rattle.parcel_carriage.proofs.Picked.{alike, length_picked, none, one_more, twice}
use Rattle.parcel_carriage.proofs.Standing.{all_at, portals_stand}
use Rattle.portal_table.specs.ServiceLists.{IsService, ServicesState, with_holder}
use Rattle.program_model.specs.ParcelParts.{parcel_portals, word_portal}
use Rattle.table_threads.proofs.Records.{or_false}
use Rattle.table_threads.specs.Changes.{changed_at}

-- what is set again stays so
set_again : (i : ℕ) (b : Bool) (xs : List Bool) → changed_at i (λ _. b) (changed_at i (λ _. b) xs) ≡ changed_at i (λ _. b) xs
set_again i b [] = refl
set_again zero b (x ∷ xs) = refl
set_again (suc i) b (x ∷ xs) = ap (λ (ys : List Bool). x ∷ ys) (set_again i b xs)

-- a portal more that the domain had changes nothing
held_again : (d : ℕ) (s : ServiceRecord) → held_by d (held_by d s) ≡ held_by d s
held_again d s = ap (λ (flags : List Bool). record s { holders = flags }) (set_again (d - 1) true s.holders)

module _ (d : ℕ) (x : ServicesState) where
  pub held_alike : (p q : ℕ → Bool) → ((j : ℕ) → p j ≡ q j) → with_held d p x ≡ with_held d q x
  held_alike p q h = ap (λ (ss : List ServiceRecord). record x { services = ss }) (alike p q (held_by d) 1 x.services h)

  held_one : (p : ℕ → Bool) (k : ℕ) → 1 ≤ k → with_holder (with_held d p x) d k ≡ with_held d (λ j. p j || (k == j)) x
  held_one p k l =
      ap (λ (ss : List ServiceRecord). record x { services = ss }) (one_more p k (held_by d) x.services l (λ s g. held_again d s))

  held_twice : (p q : ℕ → Bool) → with_held d q (with_held d p x) ≡ with_held d (λ j. p j || q j) x
  held_twice p q =
      ap (λ (ss : List ServiceRecord). record x { services = ss }) (twice p q (held_by d) 1 x.services (λ j s g e. held_again d s))

  -- none leave the services
  pub held_none : (p : ℕ → Bool) → ((j : ℕ) → p j ≡ false) → x ≡ with_held d p x
  held_none p h = ap (λ (ss : List ServiceRecord). record x { services = ss }) (none p (held_by d) 1 x.services h)

-- a service stays one
pub service_still : (d : ℕ) (p : ℕ → Bool) (x : ServicesState) (k : ℕ) → IsService x k → IsService (with_held d p x) k
service_still d p x k h = let e = length_picked p (held_by d) 1 x.services in (h.0, omega (arith, e, h.1))

-- ---- words

portal_is : (s : ServiceId) (c : ClassId) (j : ℕ) → contains_number (word_portal (word.Portal s c)) j ≡ (s.0 == j)
unfolding contains_number word_portal
portal_is s c j = or_false (s.0 == j)

no_portal : (w : Word) → ((s : ServiceId) (c : ClassId) → w ≡ word.Portal s c → ⊥) → (j : ℕ) → contains_number (word_portal w) j ≡ false
unfolding contains_number word_portal
no_portal (word.Portal s c) h j = absurd (h s c refl)
no_portal (word.Int n) h j = refl
no_portal (word.Long n) h j = refl
no_portal word.Null h j = refl
no_portal (word.Node n) h j = refl
no_portal (word.Mem m) h j = refl

module _ (d : ℕ) (x : ServicesState) (words : List Word) (i : ℕ) (w : Word) (l : i < length words) where
  -- a portal is among the words
  pub portal_there : (s : ServiceId) (c : ClassId) → get_or words i w ≡ word.Portal s c → has_portal words s.0 ≡ true
  portal_there s c e =
      list_any_at (λ v. contains_number (word_portal v) s.0) words i w l (ap (λ (v : Word). contains_number (word_portal v) s.0) e ∙ portal_is s c s.0 ∙ same_number s.0)

  -- its service is one more
  pub portal_held : (s : ServiceId) (c : ClassId) → get_or words i w ≡ word.Portal s c → 1 ≤ s.0
      → with_holder (with_held d (has_portal (take i words)) x) d s.0 ≡ with_held d (has_portal (take (i + 1) words)) x
  portal_held s c e o =
      held_one d x (has_portal (take i words)) s.0 o
      ∙ held_alike d x (λ j. has_portal (take i words) j || (s.0 == j)) (has_portal (take (i + 1) words))
      (λ j. ap (λ (b : Bool). has_portal (take i words) j || b) (sym (ap (λ (v : Word). contains_number (word_portal v) j) e ∙ portal_is s c j))
      ∙ sym (list_any_more (λ v. contains_number (word_portal v) j) words i w l))

  -- another word changes nothing
  pub portal_left : ((s : ServiceId) (c : ClassId) → get_or words i w ≡ word.Portal s c → ⊥)
      → with_held d (has_portal (take i words)) x ≡ with_held d (has_portal (take (i + 1) words)) x
  portal_left h =
      held_alike d x (has_portal (take i words)) (has_portal (take (i + 1) words))
      (λ j. sym (or_false (has_portal (take i words) j))
      ∙ ap (λ (b : Bool). has_portal (take i words) j || b) (sym (no_portal (get_or words i w) h j))
      ∙ sym (list_any_more (λ v. contains_number (word_portal v) j) words i w l))

-- ---- nodes

turn : (a b c : Bool) → ((a || b) || c) ≡ (a || (b || c))
turn true b c = refl
turn false b c = refl

module _ (d : ℕ) (x : ServicesState) (roots : List Word) (nodes : List Node) (i : ℕ) (n : Node) (cells : List Word) (l : i < length nodes) (e : n ≡ get_or nodes i n) (f : cells ≡ n.cells) where
  there : (k : ℕ) → has_portal (get_or nodes i n).cells k ≡ has_portal cells k
  there k = ap (λ (y : Node). has_portal y.cells k) (sym e) ∙ ap (λ (ws : List Word). has_portal ws k) (sym f)

  -- the portals of a node's cells stand in the nodes
  pub node_portal : (k : ℕ) → has_portal cells k ≡ true → portal_in roots nodes k ≡ true
  node_portal k q =
      second (has_portal roots k) (list_any (λ y. has_portal y.cells k) nodes) (list_any_at (λ y. has_portal y.cells k) nodes i n l (there k ∙ q))

  -- they are those of one node more
  pub node_held : with_held d (has_portal cells) (with_held d (portal_in roots (take i nodes)) x) ≡ with_held d (portal_in roots (take (i + 1) nodes)) x
  node_held =
      held_twice d x (portal_in roots (take i nodes)) (has_portal cells)
      ∙ held_alike d x (λ j. portal_in roots (take i nodes) j || has_portal cells j) (portal_in roots (take (i + 1) nodes))
      (λ j. turn (has_portal roots j) (list_any (λ y. has_portal y.cells j) (take i nodes)) (has_portal cells j)
      ∙ ap (λ (b : Bool). has_portal roots j || (list_any (λ y. has_portal y.cells j) (take i nodes) || b)) (sym (there j))
      ∙ ap (λ (b : Bool). has_portal roots j || b) (sym (list_any_more (λ y. has_portal y.cells j) nodes i n l)))

-- the portals of the roots stand in the parcel
pub root_portal : (roots : List Word) (nodes : List Node) (k : ℕ) → has_portal roots k ≡ true → portal_in roots nodes k ≡ true
root_portal roots nodes k q = ap (λ (b : Bool). b || list_any (λ n. has_portal n.cells k) nodes) q

-- ---- the parcel

-- the portals that stand in a parcel are those that it has
pub parcel_held : (d : ℕ) (x : ServicesState) (p : Parcel) → with_held d (portal_in p.roots p.nodes) x ≡ with_held d (contains_number (parcel_portals p)) x
parcel_held d x p = held_alike d x (portal_in p.roots p.nodes) (contains_number (parcel_portals p)) (portals_stand p)

-- what holds of all portals of a parcel holds of one that stands in it
pub stands_all : (P : ℕ → Type 0) (p : Parcel) (k : ℕ) → AllByRecursion P (parcel_portals p) → portal_in p.roots p.nodes k ≡ true → P k
stands_all P p k h q = all_at P (parcel_portals p) k h (sym (portals_stand p k) ∙ q)
