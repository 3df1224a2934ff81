-- Where portals and memory objects stand in a parcel.
use Rattle.std.proofs.Common.{◌≡◌, refl, sym, ◌∙◌, ap, subst, ℕ, Bool, true, false, ◌||◌, ◌&&◌, List, [], ◌∷◌, flat_map, Some, None, ◌==◌, if◌then◌else◌}
use Rattle.std.specs.List.{AllByRecursion, list_all, list_any}
use Rattle.std.proofs.lemmas.List.Folds.{list_all-append, list_any-append}
use Rattle.jx_base.specs.declared.ids.ObjectId.{ObjectId}
use Rattle.jx_base.specs.declared.value.Node.{Node}
use Rattle.jx_base.specs.declared.value.Parcel.{Parcel}
use Rattle.jx_base.specs.declared.value.Word.{Word}
use Rattle.jx_base.specs.declared.value.Word.TheVariants as word
use Rattle.jx_base.specs.Basics.{contains_number}
use Rattle.jx_base.proofs.BasicLaws.{ap2, eq_of}
use Rattle.parcel_carriage.specs.Changes.{is_object, stands_in, unmet}
use Rattle.parcel_carriage.specs.Words.{has_portal}
use Rattle.program_model.specs.ParcelParts.{parcel_cells, parcel_objects, parcel_portals, word_object, word_portal}
use Rattle.table_threads.proofs.Records.{or_false}

-- ---- tests of lists that are put together

any_flat : {A B : Type 0} (p : B → Bool) (f : A → List B) (xs : List A) → list_any p (flat_map f xs) ≡ list_any (λ x. list_any p (f x)) xs
any_flat p f [] = refl
any_flat p f (x ∷ xs) = list_any-append p (f x) (flat_map f xs) ∙ ap (λ (b : Bool). list_any p (f x) || b) (any_flat p f xs)

all_flat : {A B : Type 0} (p : B → Bool) (f : A → List B) (xs : List A) → list_all p (flat_map f xs) ≡ list_all (λ x. list_all p (f x)) xs
all_flat p f [] = refl
all_flat p f (x ∷ xs) = list_all-append p (f x) (flat_map f xs) ∙ ap (λ (b : Bool). list_all p (f x) && b) (all_flat p f xs)

turn : (a b c d : Bool) → ((a && b) && (c && d)) ≡ ((a && c) && (b && d))
turn false b c d = refl
turn true true c d = refl
turn true false true d = refl
turn true false false d = refl

-- two tests of each item are a test of both
all_both : {A : Type 0} (p q : A → Bool) (xs : List A) → list_all (λ x. p x && q x) xs ≡ (list_all p xs && list_all q xs)
all_both p q [] = refl
all_both p q (x ∷ xs) =
    ap (λ (b : Bool). (p x && q x) && b) (all_both p q xs) ∙ turn (p x) (q x) (list_all p xs) (list_all q xs)

-- ---- cells

any_cells : (p : Word → Bool) (x : Parcel) → list_any p (parcel_cells x) ≡ (list_any p x.roots || list_any (λ n. list_any p n.cells) x.nodes)
unfolding parcel_cells
any_cells p x =
    list_any-append p x.roots (flat_map (λ n. n.cells) x.nodes) ∙ ap (λ (b : Bool). list_any p x.roots || b) (any_flat p (λ n. n.cells) x.nodes)

all_cells : (p : Word → Bool) (x : Parcel) → list_all p (parcel_cells x) ≡ (list_all p x.roots && list_all (λ n. list_all p n.cells) x.nodes)
unfolding parcel_cells
all_cells p x =
    list_all-append p x.roots (flat_map (λ n. n.cells) x.nodes) ∙ ap (λ (b : Bool). list_all p x.roots && b) (all_flat p (λ n. n.cells) x.nodes)

-- a parcel's memory objects stand in its roots and nodes
pub objects_stand : (x : Parcel) (m : ℕ) → stands_in x.roots x.nodes m ≡ contains_number (parcel_objects x) m
unfolding parcel_objects contains_number
objects_stand x m = sym (any_flat (λ k. k == m) word_object (parcel_cells x) ∙ any_cells (is_object m) x)

-- and so do its portals
pub portals_stand : (x : Parcel) (k : ℕ) → (has_portal x.roots k || list_any (λ n. has_portal n.cells k) x.nodes) ≡ contains_number (parcel_portals x) k
unfolding parcel_portals contains_number
portals_stand x k = sym (any_flat (λ s. s == k) word_portal (parcel_cells x) ∙ any_cells (λ w. list_any (λ s. s == k) (word_portal w)) x)

-- what holds of all portals and objects is asked of each word
pub all_words : (p q : ℕ → Bool) (x : Parcel) →
    (list_all (λ w. list_all p (word_portal w) && list_all q (word_object w)) x.roots && list_all (λ n. list_all (λ w. list_all p (word_portal w) && list_all q (word_object w)) n.cells) x.nodes)
    ≡ (list_all p (parcel_portals x) && list_all q (parcel_objects x))
unfolding parcel_portals parcel_objects
all_words p q x =
    sym (all_cells (λ w. list_all p (word_portal w) && list_all q (word_object w)) x)
    ∙ all_both (λ w. list_all p (word_portal w)) (λ w. list_all q (word_object w)) (parcel_cells x)
    ∙ ap2 (λ (a b : Bool). a && b) (sym (all_flat p word_portal (parcel_cells x))) (sym (all_flat q word_object (parcel_cells x)))

module _ (p q : ℕ → Bool) (x : Parcel) (roots : List Word) (nodes : List Node) (a b : Bool) (e : roots ≡ x.roots) (f : nodes ≡ x.nodes) where
  -- where it holds of the roots, the nodes decide
  pub nodes_decide : a ≡ list_all (λ w. list_all p (word_portal w) && list_all q (word_object w)) roots → a ≡ true
      → b ≡ list_all (λ n. list_all (λ w. list_all p (word_portal w) && list_all q (word_object w)) n.cells) nodes
      → b ≡ (list_all p (parcel_portals x) && list_all q (parcel_objects x))
  nodes_decide h t g =
      let of_roots : list_all (λ w. list_all p (word_portal w) && list_all q (word_object w)) x.roots ≡ true =
      ap (list_all (λ w. list_all p (word_portal w) && list_all q (word_object w))) (sym e) ∙ sym h ∙ t in
      g ∙ ap (list_all (λ (n : Node). list_all (λ w. list_all p (word_portal w) && list_all q (word_object w)) n.cells)) f
      ∙ ap (λ (c : Bool). c && list_all (λ n. list_all (λ w. list_all p (word_portal w) && list_all q (word_object w)) n.cells) x.nodes) (sym of_roots)
      ∙ all_words p q x

  -- where it doesn't, they do
  pub roots_decide : a ≡ list_all (λ w. list_all p (word_portal w) && list_all q (word_object w)) roots → a ≡ false
      → a ≡ (list_all p (parcel_portals x) && list_all q (parcel_objects x))
  roots_decide h t =
      let of_roots : list_all (λ w. list_all p (word_portal w) && list_all q (word_object w)) x.roots ≡ false =
      ap (list_all (λ w. list_all p (word_portal w) && list_all q (word_object w))) (sym e) ∙ sym h ∙ t in
      t ∙ ap (λ (c : Bool). c && list_all (λ n. list_all (λ w. list_all p (word_portal w) && list_all q (word_object w)) n.cells) x.nodes) (sym of_roots)
      ∙ all_words p q x

-- ---- numbers

any_at : (P : ℕ → Type 0) (xs : List ℕ) (m : ℕ) → AllByRecursion P xs → list_any (λ x. x == m) xs ≡ true → P m
any_at P [] m h q = cc
any_at P (x ∷ xs) m h q = by (x == m) refl (any_at P xs m h.1) q
  where
    by : (b : Bool) → (x == m) ≡ b → (list_any (λ x. x == m) xs ≡ true → P m) → (b || list_any (λ x. x == m) xs) ≡ true → P m
    by true e again q = subst P (eq_of x m e) h.0
    by false e again q = again q

-- what holds of all numbers of a list holds of each
pub all_at : (P : ℕ → Type 0) (xs : List ℕ) (m : ℕ) → AllByRecursion P xs → contains_number xs m ≡ true → P m
unfolding contains_number
all_at P xs m h q = any_at P xs m h q

-- ---- words

object_is : (m : ObjectId) (j : ℕ) → is_object j (word.Mem m) ≡ (m.0 == j)
unfolding contains_number word_object
object_is m j = or_false (m.0 == j)

-- the word is an object that wasn't met
pub record IsUnmet (met : ℕ → Bool) (w : Word) (k : ℕ) : Type 0 where
  pub first : met k ≡ false
  pub same : (j : ℕ) → is_object j w ≡ (k == j)

first_object : (met : ℕ → Bool) (m : ObjectId) (k : ℕ) (b : Bool) → met m.0 ≡ b → Some k ≡ (if b then None else Some m.0) → IsUnmet met (word.Mem m) k
first_object met m k true e h = cc
first_object met m k false e h =
    let q : m.0 ≡ k = cc in
    record { first = ap met (sym q) ∙ e; same = λ j. object_is m j ∙ ap (λ (i : ℕ). i == j) q }

pub unmet_some : (met : ℕ → Bool) (w : Word) (k : ℕ) → Some k ≡ unmet met w → IsUnmet met w k
unmet_some met (word.Mem m) k h = first_object met m k (met m.0) refl h
unmet_some met (word.Int n) k h = cc
unmet_some met (word.Long n) k h = cc
unmet_some met word.Null k h = cc
unmet_some met (word.Node n) k h = cc
unmet_some met (word.Portal s c) k h = cc

met_object : (met : ℕ → Bool) (m : ObjectId) (b : Bool) → met m.0 ≡ b → None ≡ (if b then None else Some m.0) → (j : ℕ) → (m.0 == j) ≡ true → met j ≡ true
met_object met m true e h j q = ap met (sym (eq_of m.0 j q)) ∙ e
met_object met m false e h j q = cc

-- the word is no object or was met
pub unmet_none : (met : ℕ → Bool) (w : Word) → None ≡ unmet met w → (j : ℕ) → is_object j w ≡ true → met j ≡ true
unfolding contains_number word_object
unmet_none met (word.Mem m) h j q = met_object met m (met m.0) refl h j (sym (object_is m j) ∙ q)
unmet_none met (word.Int n) h j q = cc
unmet_none met (word.Long n) h j q = cc
unmet_none met word.Null h j q = cc
unmet_none met (word.Node n) h j q = cc
unmet_none met (word.Portal s c) h j q = cc
