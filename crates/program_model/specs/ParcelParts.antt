-- What a parcel has in it.
use Rattle.std.specs.Prelude.{ℕ, ◌+◌, List, [], ◌∷◌, ◌++◌, length, flat_map, sum_by}
use Rattle.jx_base.specs.declared.value.Node.{Node}
use Rattle.jx_base.specs.declared.value.Parcel.{Parcel}
use Rattle.jx_base.specs.declared.value.Word.{Word}
use Rattle.jx_base.specs.declared.value.Word.TheVariants as word

-- its roots, and the cells of its nodes
unfoldable pub parcel_cells : Parcel → List Word
parcel_cells p = p.roots ++ flat_map (λ n. n.cells) p.nodes

-- the service of a portal
unfoldable pub word_portal : Word → List ℕ
word_portal (word.Portal s c) = s.0 ∷ []
word_portal _ = []

-- the number of a memory object
unfoldable pub word_object : Word → List ℕ
word_object (word.Mem m) = m.0 ∷ []
word_object _ = []

-- the services of its portals
unfoldable pub parcel_portals : Parcel → List ℕ
parcel_portals p = flat_map word_portal (parcel_cells p)

-- its memory objects
unfoldable pub parcel_objects : Parcel → List ℕ
parcel_objects p = flat_map word_object (parcel_cells p)

-- the cells that a node takes in a heap, with two for its head
unfoldable pub node_size : Node → ℕ
node_size n = 2 + length n.cells

-- the cells that its nodes take in a heap
unfoldable pub node_cells : Parcel → ℕ
node_cells p = sum_by node_size p.nodes

-- the words of a parcel: its roots, and the cells of its nodes
unfoldable pub parcel_words : Parcel → ℕ
parcel_words p = length p.roots + node_cells p

-- what a computed case opens
unfoldable pub opened_parcel_parts : Unit {0}
unfolding parcel_cells word_portal word_object parcel_portals parcel_objects node_size node_cells parcel_words
opened_parcel_parts = tt
