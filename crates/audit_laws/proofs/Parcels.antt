-- Where a parcel ends.
use Rattle.std.proofs.Common.{◌≡◌, ℕ, ◌^◌, ◌<◌, ◌≤◌, List, [], ◌∷◌, ◌++◌, length, map, Some, refl, sym, ap, ◌∙◌, arith, append_assoc}
use Rattle.std.specs.Prelude.{⊤}
use Rattle.std.specs.List.{AllByRecursion, flat_map}
use lib.Signed.{mag}
use Rattle.jx_base.specs.Texts.{spaced}
use Rattle.jx_base.specs.declared.ids.ServiceId.{ServiceId}
use Rattle.jx_base.specs.declared.ids.ClassId.{ClassId}
use Rattle.jx_base.specs.declared.ids.ObjectId.{ObjectId}
use Rattle.jx_base.specs.declared.value.Word.{Word}
use Rattle.jx_base.specs.declared.value.Word.TheVariants as word
use Rattle.jx_base.specs.declared.value.Node.{Node}
use Rattle.jx_base.specs.declared.value.Parcel.{Parcel}
use Rattle.jx_base.specs.declared.program.System.{System}
use Rattle.jx_base.specs.Histories.{Past}
use Rattle.jx_model.specs.Portals.{interface_of}
use Rattle.program_model.specs.Limits.{node_limit}
use Rattle.program_model.specs.ParcelParts.{parcel_cells}
use Rattle.jx_model.specs.WellMade.{IsWordIn, IsParcelIn, IsClass}
use Rattle.audit_model.specs.Audit.{Bytes, word_text, node_text, parcel_text, class_text}
use Rattle.program_model.specs.DistinctNames.{HasDistinctNames}
use Rattle.audit_laws.proofs.Cuts.{parts_of_cons, first_unit}
use Rattle.audit_laws.proofs.Numbers.{Ends, number_takes, signed_takes}
use Rattle.audit_laws.proofs.Lists.{TakesOff, items_take}
use Rattle.audit_laws.proofs.Named.{class_takes, class_begins}

-- ---- words

-- a word of a parcel that a history with this past can have
abbrev pub IsPlainWord : Past → Word → Type 0
IsPlainWord past (word.Int n) = mag n < 2 ^ 63
IsPlainWord past (word.Long n) = mag n < 2 ^ 63
IsPlainWord past (word.Node k) = k < 2 ^ 64
IsPlainWord past (word.Portal k c) = (k.0 < 2 ^ 64) × (interface_of past k.0 ≡ Some c)
IsPlainWord past (word.Mem m) = m.0 < 2 ^ 64
IsPlainWord past _ = ⊤

-- a portal is known by its service
same_portal : (past : Past) (k l : ServiceId) (c d : ClassId) → interface_of past k.0 ≡ Some c → interface_of past l.0 ≡ Some d → k.0 ≡ l.0 →
    word.Portal k c ≡ word.Portal l d
same_portal past k l c d h g e =
    let s : k ≡ l = ap (λ (n : ℕ). record { 0 = n }) e in let i : Some c ≡ Some d = sym h ∙ ap (interface_of past) e ∙ g in cc

-- an object is known by its number
same_object : (m n : ObjectId) → m.0 ≡ n.0 → word.Mem m ≡ word.Mem n
same_object m n e = ap (λ (k : ℕ). word.Mem (record { 0 = k })) e

-- words before rests are taken off
word_takes : (past : Past) (x y : Word) (r q : Bytes) → IsPlainWord past x → IsPlainWord past y → Ends r → Ends q →
    word_text x ++ r ≡ word_text y ++ q → (x ≡ y) × (r ≡ q)
unfolding word_text
word_takes past (word.Int m) (word.Int n) r q h k f g e = let c = signed_takes m n r q h k f g (parts_of_cons e).1 in (ap word.Int c.0, c.1)
word_takes past (word.Long m) (word.Long n) r q h k f g e = let c = signed_takes m n r q h k f g (parts_of_cons e).1 in (ap word.Long c.0, c.1)
word_takes past word.Null word.Null r q h k f g e = (refl, (parts_of_cons e).1)
word_takes past (word.Node m) (word.Node n) r q h k f g e = let c = number_takes m n r q h k f g (parts_of_cons e).1 in (ap word.Node c.0, c.1)
word_takes past (word.Portal m a) (word.Portal n b) r q h k f g e =
    let c = number_takes m.0 n.0 r q h.0 k.0 f g (parts_of_cons e).1 in (same_portal past m n a b h.1 k.1 c.0, c.1)
word_takes past (word.Mem m) (word.Mem n) r q h k f g e =
    let c = number_takes m.0 n.0 r q h k f g (parts_of_cons e).1 in (same_object m n c.0, c.1)
word_takes past x y r q h k f g e = absurd (omega (arith, ap first_unit e))

-- no word begins with a unit that is no letter and no `#`
word_begins : (e : ℕ) → (105 ≡ e → ⊥) → (108 ≡ e → ⊥) → (110 ≡ e → ⊥) → (35 ≡ e → ⊥) → (112 ≡ e → ⊥) → (109 ≡ e → ⊥) →
    (x : Word) (r q : Bytes) → word_text x ++ r ≡ e ∷ q → ⊥
unfolding word_text
word_begins e a b c d f g (word.Int n) r q h = a (parts_of_cons h).0
word_begins e a b c d f g (word.Long n) r q h = b (parts_of_cons h).0
word_begins e a b c d f g word.Null r q h = c (parts_of_cons h).0
word_begins e a b c d f g (word.Node n) r q h = d (parts_of_cons h).0
word_begins e a b c d f g (word.Portal n i) r q h = f (parts_of_cons h).0
word_begins e a b c d f g (word.Mem n) r q h = g (parts_of_cons h).0

-- words of roots are taken off
words_take_roots : (past : Past) → TakesOff word_text (IsPlainWord past) 124
words_take_roots past = record {
  ending = refl;
  no_blank = λ e. omega arith;
  takes = word_takes past;
  begins = word_begins 124 (λ e. omega arith) (λ e. omega arith) (λ e. omega arith) (λ e. omega arith) (λ e. omega arith) (λ e. omega arith);
}

-- words of nodes are taken off
words_take_cells : (past : Past) → TakesOff word_text (IsPlainWord past) 41
words_take_cells past = record {
  ending = refl;
  no_blank = λ e. omega arith;
  takes = word_takes past;
  begins = word_begins 41 (λ e. omega arith) (λ e. omega arith) (λ e. omega arith) (λ e. omega arith) (λ e. omega arith) (λ e. omega arith);
}

-- ---- nodes

-- a node of a parcel that a history with this past can have
pub record IsPlainNode (s : System) (past : Past) (n : Node) : Type 0 where
  pub class : IsClass s n.class.0
  pub cells : AllByRecursion (IsPlainWord past) n.cells

-- a node's text before a rest
node_before : (s : System) (n : Node) (r : Bytes) → node_text s n ++ r ≡ class_text s n.class.0 ++ 40 ∷ (spaced (map word_text n.cells) ++ 41 ∷ r)
unfolding node_text
node_before s n r = simp append_assoc

-- nodes before rests are taken off
node_takes : (s : System) → HasDistinctNames s → (past : Past) (x y : Node) (r q : Bytes) → IsPlainNode s past x → IsPlainNode s past y → Ends r → Ends q →
    node_text s x ++ r ≡ node_text s y ++ q → (x ≡ y) × (r ≡ q)
node_takes s names past x y r q h k f g e =
    let c = class_takes s names x.class.0 y.class.0 _ _ h.class k.class (sym (node_before s x r) ∙ e ∙ node_before s y q) in
    let m = items_take word_text (IsPlainWord past) 41 (words_take_cells past) x.cells y.cells r q h.cells k.cells (parts_of_cons c.1).1 in
    ((λ t. record { class = record { 0 = c.0 t }; cells = m.0 t }), m.1)

-- nodes of a parcel are taken off
nodes_take : (s : System) → HasDistinctNames s → (past : Past) → TakesOff (node_text s) (IsPlainNode s past) 93
nodes_take s names past = record {
  ending = refl;
  no_blank = λ e. omega arith;
  takes = node_takes s names past;
  begins = λ x r q e. class_begins s x.class.0 93 _ q (λ f. omega arith) (sym (node_before s x r) ∙ e);
}

-- ---- parcels

-- a parcel that a history with this past can have
pub record IsPlainParcel (s : System) (past : Past) (p : Parcel) : Type 0 where
  pub roots : AllByRecursion (IsPlainWord past) p.roots
  pub nodes : AllByRecursion (IsPlainNode s past) p.nodes

-- a parcel's text before a rest
parcel_before : (s : System) (p : Parcel) (r : Bytes) →
    parcel_text s p ++ r ≡ 91 ∷ (spaced (map word_text p.roots) ++ 124 ∷ (spaced (map (node_text s) p.nodes) ++ 93 ∷ r))
unfolding parcel_text
parcel_before s p r = simp append_assoc

-- parcels before rests are taken off
pub parcel_takes : (s : System) → HasDistinctNames s → (past : Past) (x y : Parcel) (r q : Bytes) → IsPlainParcel s past x → IsPlainParcel s past y →
    parcel_text s x ++ r ≡ parcel_text s y ++ q → (x ≡ y) × (r ≡ q)
parcel_takes s names past x y r q h k e =
    let c = items_take word_text (IsPlainWord past) 124 (words_take_roots past) x.roots y.roots _ _ h.roots k.roots (parts_of_cons (sym (parcel_before s x r) ∙ e ∙ parcel_before s y q)).1 in
    let m = items_take (node_text s) (IsPlainNode s past) 93 (nodes_take s names past) x.nodes y.nodes r q h.nodes k.nodes c.1 in
    ((λ t. record { roots = c.0 t; nodes = m.0 t }), m.1)

-- ---- which parcels those are

-- a word that is well made is plain
plain_word : (past : Past) (n : ℕ) (w : Word) → n ≤ 1024 → IsWordIn past n w → IsPlainWord past w
plain_word past n (word.Int z) few h = omega (arith, h.sfits)
plain_word past n (word.Long z) few h = omega (arith, h.sfits)
plain_word past n (word.Node i) few h = omega arith
plain_word past n (word.Portal i c) few h = (omega (arith, h.0), h.1)
plain_word past n (word.Mem m) few h = omega arith
plain_word past n word.Null few h = tt

-- so are such words
plain_words : (past : Past) (n : ℕ) (ws : List Word) → n ≤ 1024 → AllByRecursion (IsWordIn past n) ws → AllByRecursion (IsPlainWord past) ws
plain_words past n [] few h = tt
plain_words past n (w ∷ ws) few h = (plain_word past n w few h.0, plain_words past n ws few h.1)

-- what is true of all items is true of the front ones
all_front : {A : Type 0} (P : A → Type 0) (xs ys : List A) → AllByRecursion P (xs ++ ys) → AllByRecursion P xs
all_front P [] ys h = tt
all_front P (x ∷ xs) ys h = (h.0, all_front P xs ys h.1)

-- and of the others
all_back : {A : Type 0} (P : A → Type 0) (xs ys : List A) → AllByRecursion P (xs ++ ys) → AllByRecursion P ys
all_back P [] ys h = h
all_back P (x ∷ xs) ys h = all_back P xs ys h.1

-- nodes of classes that are there, with words that are plain, is plain
plain_nodes : (s : System) (past : Past) (ns : List Node) → AllByRecursion (λ (n : Node). IsClass s n.class.0) ns →
    AllByRecursion (IsPlainWord past) (flat_map (λ (n : Node). n.cells) ns) → AllByRecursion (IsPlainNode s past) ns
plain_nodes s past [] h k = tt
plain_nodes s past (n ∷ ns) h k = (
  record { class = h.0; cells = all_front (IsPlainWord past) n.cells (flat_map (λ (n : Node). n.cells) ns) k },
  plain_nodes s past ns h.1 (all_back (IsPlainWord past) n.cells (flat_map (λ (n : Node). n.cells) ns) k),
)

-- a parcel that is well made is plain
pub plain_parcel : (s : System) (past : Past) (p : Parcel) → IsParcelIn s past p → IsPlainParcel s past p
unfolding parcel_cells node_limit
plain_parcel s past p h =
    let all = plain_words past (length p.nodes) (parcel_cells p) h.few h.cells in
    record {
      roots = all_front (IsPlainWord past) p.roots (flat_map (λ (n : Node). n.cells) p.nodes) all;
      nodes = plain_nodes s past p.nodes h.classes (all_back (IsPlainWord past) p.roots (flat_map (λ (n : Node). n.cells) p.nodes) all);
    }
