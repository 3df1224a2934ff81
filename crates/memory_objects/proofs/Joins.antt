-- Which parts can come to the tree.
use Rattle.std.proofs.Common.{◌≡◌, refl, ◌∙◌, ap, ℕ, ◌+◌, ◌≤◌, ◌&&◌, not, Bool, true, false, List, Some, arith, length-append}
use Rattle.jx_base.specs.Basics.{numbered, contains_number}
use Rattle.jx_base.proofs.BasicLaws.{ap2}
use Rattle.jx_laws.proofs.Lineage.{lineage_below}
use Rattle.jx_laws.proofs.Lists.{numbered_within}
use Rattle.jx_model.specs.MemoryObjects.{Part, lineage_of, part_within}
use Rattle.memory_objects.specs.ObjectLists.{ObjectsState, CanJoin, revoked_in, valid_in, with_parts}
use Rattle.memory_objects.specs.Rows.{IsTree}
use Rattle.memory_objects.proofs.Nodes.{valid_left, valid_revoked}
use Rattle.memory_objects.proofs.Tree.{tree_falls}

-- a valid object's part can come again
pub join_held : (y : ObjectsState) (m : ℕ) (o : Part) → IsTree y.parts y.records → numbered y.parts m ≡ Some o → valid_in y.records m ≡ true → CanJoin y o
join_held y m o tree p v =
    let node = tree m o p in
    let w = numbered_within y.parts m o p in
    record { made = omega (arith, node.falls, w.1); valid = λ d. node.upward d v; small = node.small }

-- a part of a part with its parent
pub join_part : (y : ObjectsState) (o p : Part) → CanJoin y o → p.parent ≡ o.parent → p.from + p.size ≤ o.from + o.size → CanJoin y p
join_part y o p join same low =
    record {
      made = let l = join.made in omega (arith, l, same);
      valid = λ d. ap (valid_in y.records) same ∙ join.valid (λ z. d (same ∙ z));
      small = let l = join.small in omega (arith, l, low);
    }

-- a part of a valid object
pub join_child : (y : ObjectsState) (m at count : ℕ) (o : Part) → numbered y.parts m ≡ Some o → valid_in y.records m ≡ true → CanJoin y o → at + count ≤ o.size → CanJoin y (part_within m o at count)
unfolding part_within
join_child y m at count o p v join low =
    record {
      made = (numbered_within y.parts m o p).1;
      valid = λ d. v;
      small = let l = join.small in omega (arith, l, low);
    }

-- also after another one
pub join_more : (y : ObjectsState) (d : ℕ) (o : Part) (ps : List Part) → CanJoin y o → CanJoin (with_parts y d ps) o
join_more y d o ps join =
    record {
      made = let l = join.made in omega (arith, l, length-append y.parts ps);
      valid = λ z. valid_left y.records _ o.parent (join.valid z);
      small = join.small;
    }

-- also after the object itself has ended
pub join_revoked : (y : ObjectsState) (m : ℕ) (o : Part) → IsTree y.parts y.records → numbered y.parts m ≡ Some o → CanJoin y o → CanJoin (record y { records = revoked_in y.parts m y.records }) o
unfolding lineage_of
join_revoked y m o tree p join =
    record {
      made = join.made;
      valid = λ d. valid_revoked y.parts m y.records o.parent ∙ ap2 (λ (a b : Bool). a && b) (join.valid d) (ap not (out (contains_number (lineage_of y.parts o.parent) m) refl));
      small = join.small;
    }
  where
    out : (b : Bool) → contains_number (lineage_of y.parts o.parent) m ≡ b → b ≡ false
    out false q = refl
    out true q = let l = lineage_below y.parts o.parent o.parent m (tree_falls y.parts y.records tree) q in let f = (tree m o p).falls in absurd (omega (arith, l, f))

-- a side of a part
pub join_side : (y : ObjectsState) (o : Part) (at count : ℕ) → CanJoin y o → at + count ≤ o.size → CanJoin y (part_within o.parent o at count)
unfolding part_within
join_side y o at count join low = join_part y o (part_within o.parent o at count) join refl (omega (arith, low))
