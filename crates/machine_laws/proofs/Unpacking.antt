-- What a parcel that is handed over makes of a store.
use Rattle.std.proofs.Common.{pos, negsuc, ◌≡◌, refl, sym, ◌∙◌, ap, subst, ℕ, zero, suc, ◌+◌, ◌-◌, ◌<◌, ◌≤◌, Bool, true, false, List, [], ◌∷◌, ◌++◌, length, map, Some, None, is_some, arith, slice_get}
use Rattle.std.specs.Prelude.{nat_le, if◌then◌else◌, flat_map}
use Rattle.std.specs.List.{AllByRecursion, fold}
use Rattle.std.proofs.lemmas.Bool.Decides.{nat_tests}
use Rattle.jx_base.specs.declared.program.System.{System}
use Rattle.jx_base.specs.declared.value.Node.{Node}
use Rattle.jx_base.specs.declared.value.Parcel.{Parcel}
use Rattle.jx_base.specs.declared.value.Word.{Word}
use Rattle.jx_base.specs.declared.value.Word.TheVariants as word
use Rattle.machine_model.specs.AfterEntry.{with_nodes, root_values}
use Rattle.jx_base.specs.Histories.{Past}
use Rattle.program_model.specs.ParcelParts.{node_cells, node_size, parcel_cells}
use Rattle.program_model.specs.Parcels.{HeapObject, value_of, unpacked_object, unpacked_objects}
use Rattle.machine_model.specs.State.{Store, class_of_object}
use Rattle.jx_model.specs.WellMade.{IsWordIn, IsClass}
use Rattle.machine_laws.specs.Handed.{IsUnitWord, IsTextWord, HasTexts, IsHanded}
use Rattle.machine_laws.specs.Values.{IsValueIn, IsUnitValue, HasCountOf, IsObjectIn, IsExportIn, IsStoreIn, HasObjectsOf, Grows, cell_limit}
use Rattle.machine_model.specs.Conditions.{IsTextIfObject}
use Rattle.machine_laws.proofs.Lists.{mapped_length, all_weaken, all_append, all_map, all_left, all_right}
use Rattle.machine_laws.proofs.Stores.{IsLater, begins_with, object_there, grows_to, object_grows, export_grows, values_grow, literals_grow}
use Rattle.std.specs.Option.{option_map}

-- ---- sums

folded_on : (xs : List Node) (a : ℕ) → a ≤ fold (λ a x. a + node_size x) a xs
folded_on [] a = omega arith
folded_on (x ∷ xs) a = omega (arith, folded_on xs (a + node_size x))

sizes_within : (xs : List Node) (a : ℕ) → AllByRecursion (λ n. node_size n ≤ fold (λ a x. a + node_size x) a xs) xs
sizes_within [] a = tt
sizes_within (x ∷ xs) a = (omega (arith, folded_on xs (a + node_size x)), sizes_within xs (a + node_size x))

get_right : (xs ys : List HeapObject) (k n : ℕ) → n ≡ length xs + k → slice_get (xs ++ ys) n ≡ slice_get ys k
get_right [] ys k n e = ap (slice_get ys) (omega (arith, e))
get_right (x ∷ xs) ys k zero e = absurd (omega (arith, e))
get_right (x ∷ xs) ys k (suc n) e = get_right xs ys k n (omega (arith, e))

-- the class of a node's object is the node's
class_of_node : (first : ℕ) (nodes : List Node) (k : ℕ) → option_map (λ (o : HeapObject). o.class.0) (slice_get (map (unpacked_object first) nodes) k) ≡ option_map (λ (n : Node). n.class.0) (slice_get nodes k)
unfolding unpacked_object
class_of_node first [] k = refl
class_of_node first (n ∷ nodes) zero = refl
class_of_node first (n ∷ nodes) (suc k) = class_of_node first nodes k

node_there : (nodes : List Node) (k : ℕ) → k < length nodes → is_some (option_map (λ (n : Node). n.class.0) (slice_get nodes k)) ≡ true
node_there [] k h = absurd (omega (arith, h))
node_there (n ∷ nodes) zero h = refl
node_there (n ∷ nodes) (suc k) h = node_there nodes k (omega (arith, h))

module _ (s : System) (past : Past) (store : Store) (p : Parcel) (h : IsStoreIn s past store) (i : IsHanded s past p) where
  -- the store with the nodes of the parcel
  abbrev after : Store
  after = record store { objects = store.objects ++ map (unpacked_object (length store.objects)) p.nodes; left = store.left - node_cells p }

  more : HasObjectsOf store after
  more = begins_with store after (map (unpacked_object (length store.objects)) p.nodes) refl

  g : Grows past store past after
  g = grows_to past store after more

  node_class : (k : ℕ) → class_of_object after (length store.objects + k) ≡ option_map (λ (n : Node). n.class.0) (slice_get p.nodes k)
  unfolding class_of_object
  node_class k =
      ap (option_map (λ (o : HeapObject). o.class.0)) (get_right store.objects (map (unpacked_object (length store.objects)) p.nodes) k (length store.objects + k) refl)
      ∙ class_of_node (length store.objects) p.nodes k

  word_value : (w : Word) → IsWordIn past (length p.nodes) w → IsValueIn past after (value_of (length store.objects) w)
  unfolding value_of
  word_value (word.Int n) k = k
  word_value (word.Long n) k = k
  word_value word.Null k = tt
  word_value (word.Portal x c) k = k
  word_value (word.Mem m) k = k
  word_value (word.Node n) k = ap is_some (node_class n) ∙ node_there p.nodes n k

  word_unit : (w : Word) → IsUnitWord w → IsUnitValue (value_of (length store.objects) w)
  unfolding value_of
  word_unit (word.Int (pos n)) k = k
  word_unit (word.Int (negsuc n)) k = absurd k
  word_unit (word.Long n) k = absurd k
  word_unit word.Null k = absurd k
  word_unit (word.Portal x c) k = absurd k
  word_unit (word.Mem m) k = absurd k
  word_unit (word.Node n) k = absurd k

  word_text : (w : Word) → IsTextWord p.nodes w → IsTextIfObject after (value_of (length store.objects) w)
  unfolding value_of
  word_text (word.Int n) k = tt
  word_text (word.Long n) k = tt
  word_text word.Null k = tt
  word_text (word.Portal x c) k = tt
  word_text (word.Mem m) k = tt
  word_text (word.Node n) k = node_class n ∙ k

  objects_in : (nodes : List Node) → AllByRecursion (λ n. IsClass s n.class.0) nodes → AllByRecursion (λ n. length n.cells ≤ cell_limit) nodes → AllByRecursion (IsWordIn past (length p.nodes)) (flat_map (λ n. n.cells) nodes) →
      AllByRecursion (HasTexts p.nodes) nodes → AllByRecursion (λ n. HasCountOf s n.class.0 (length n.cells)) nodes → AllByRecursion (IsObjectIn s past after) (map (unpacked_object (length store.objects)) nodes)
  unfolding unpacked_object
  objects_in [] c l w t k = tt
  objects_in (n ∷ nodes) c l w t k = (
    record {
      known = c.0;
      count = subst (HasCountOf s n.class.0) (sym (mapped_length (value_of (length store.objects)) n.cells)) k.0;
      small = omega (arith, l.0, mapped_length (value_of (length store.objects)) n.cells);
      cells = all_map (IsWordIn past (length p.nodes)) (IsValueIn past after) (value_of (length store.objects)) word_value n.cells (all_left (IsWordIn past (length p.nodes)) n.cells (flat_map (λ n. n.cells) nodes) w);
      units = λ e. all_map IsUnitWord IsUnitValue (value_of (length store.objects)) word_unit n.cells (t.0.units e);
      text = λ e. all_map (IsTextWord p.nodes) (IsTextIfObject after) (value_of (length store.objects)) word_text n.cells (t.0.text e);
    },
    objects_in nodes c.1 l.1 (all_right (IsWordIn past (length p.nodes)) n.cells (flat_map (λ n. n.cells) nodes) w) t.1 k.1,
  )

  small_nodes : node_cells p ≤ store.left → AllByRecursion (λ n. length n.cells ≤ cell_limit) p.nodes
  unfolding node_cells node_size
  small_nodes room = all_weaken (λ (n : Node). node_size n ≤ node_cells p) (λ n. length n.cells ≤ cell_limit) (λ n k. omega (arith, k, room, h.room)) p.nodes (sizes_within p.nodes 0)

  unpacked_later : node_cells p ≤ store.left → IsLater s past store after
  unfolding parcel_cells
  unpacked_later room = record {
    grown = more;
    store = record {
      first = object_there store after 0 more h.first;
      second = object_there store after 1 more h.second;
      room = omega (arith, h.room);
      count = h.count;
      objects = all_append (IsObjectIn s past after) store.objects (map (unpacked_object (length store.objects)) p.nodes)
          (all_weaken (IsObjectIn s past store) (IsObjectIn s past after) (object_grows s past store past after g) store.objects h.objects)
          (objects_in p.nodes i.parcel.classes (small_nodes room) (all_right (IsWordIn past (length p.nodes)) p.roots (flat_map (λ n. n.cells) p.nodes) i.parcel.cells) i.texts i.counts);
      statics = values_grow s past store past after g store.statics h.statics;
      literals = literals_grow s past store past after g store.literals h.literals;
      exports = all_weaken (IsExportIn past store) (IsExportIn past after) (export_grows s past store past after g) store.exports h.exports;
    };
  }

  -- the store with the nodes, and the roots as values
  pub record IsUnpacked (new : Store) : Type 0 where
    pub later : IsLater s past store new
    pub roots : AllByRecursion (IsValueIn past new) (root_values store p)

  pub unpacked_in : (new : Store) → with_nodes store p ≡ Some new → IsUnpacked new
  unfolding with_nodes root_values parcel_cells unpacked_objects
  unpacked_in new e = by (nat_le (node_cells p) store.left) refl e
    where
      by : (b : Bool) → nat_le (node_cells p) store.left ≡ b → (if b then Some after else None) ≡ Some new → IsUnpacked new
      by true q e =
          let w : after ≡ new = cc in
          subst IsUnpacked w (record {
            later = unpacked_later (grind (arith, nat_tests, q));
            roots = all_map (IsWordIn past (length p.nodes)) (IsValueIn past after) (value_of (length store.objects)) word_value p.roots (all_left (IsWordIn past (length p.nodes)) p.roots (flat_map (λ n. n.cells) p.nodes) i.parcel.cells);
          })
      by false q e = cc
