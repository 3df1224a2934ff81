-- Texts with one space between, part by part.
use Rattle.std.proofs.lemmas.Option.{slice_get_past, slice_get_read}
use Rattle.std.proofs.Common.{◌≡◌, ◌<◌, ◌≤◌, get_or, refl, ◌∙◌, ap, ℕ, List, [], ◌∷◌, ◌++◌, length, map, append-nil, append_assoc, arith}
use Rattle.std.specs.List.{flat_map}
use Rattle.std.proofs.lemmas.Grind.{flat_map-append}
use Rattle.std.specs.Prelude.{Some, None, decimal}
use Rattle.jx_base.specs.declared.program.Selector.{Selector}
use Rattle.jx_base.specs.declared.program.System.{System}
use Rattle.jx_base.specs.declared.value.Node.{Node}
use Rattle.jx_base.specs.declared.value.Parcel.{Parcel}
use Rattle.jx_base.specs.declared.value.Word.{Word}
use Rattle.audit_model.specs.Audit.{class_text, method_text, node_text, parcel_text, word_text}
use Rattle.jx_base.specs.Texts.{after_space, quoted, spaced}
use Rattle.audit_lines.specs.LineParts.{asked_text, behind}
use Rattle.program_model.specs.Lookup.{selector_at}

flat_map-spaced : {A : Type 0} (f : A → List ℕ) (items : List A) → flat_map after_space (map f items) ≡ flat_map (λ x. after_space (f x)) items
flat_map-spaced f [] = refl
flat_map-spaced f (x ∷ items) = ap (λ (text : List ℕ). after_space (f x) ++ text) (flat_map-spaced f items)

-- the first text, and each other one behind a space
pub spaced_map-first : {A : Type 0} (f : A → List ℕ) (items : List A) (first : A) (rest : List A) → items ≡ first ∷ rest → spaced (map f items) ≡ f first ++ flat_map (λ x. after_space (f x)) rest
unfolding spaced
spaced_map-first f items first rest is = rw is (ap (λ (text : List ℕ). f first ++ text) (flat_map-spaced f rest))

pub spaced_map-none : {A : Type 0} (f : A → List ℕ) (items : List A) → length items ≡ 0 → spaced (map f items) ≡ []
unfolding spaced
spaced_map-none f [] none = refl
spaced_map-none f (x ∷ items) none = absurd (omega arith)

-- the last word behind the others
pub behind-end : (words : List (List ℕ)) (last : List ℕ) → behind (words ++ last ∷ []) ≡ behind words ++ after_space last
behind-end words last = flat_map-append after_space words (last ∷ []) ∙ ap (λ (text : List ℕ). behind words ++ text) (append-nil (after_space last))

-- ---- parcels

-- a node's class, its parentheses, and the cells between them
pub node_text-parts : (s : System) (n : Node) (cells : List Word) → cells ≡ n.cells → node_text s n ≡ class_text s n.class.0 ++ (40 ∷ (spaced (map word_text cells) ++ 41 ∷ []))
unfolding node_text
node_text-parts s n cells is = rw is (append_assoc (class_text s n.class.0) (40 ∷ spaced (map word_text n.cells)) (41 ∷ []))

-- a parcel's brackets, its roots and its nodes
pub parcel_text-parts : (s : System) (p : Parcel) (roots : List Word) (nodes : List Node) → roots ≡ p.roots → nodes ≡ p.nodes →
    parcel_text s p ≡ 91 ∷ (spaced (map word_text roots) ++ (124 ∷ (spaced (map (node_text s) nodes) ++ 93 ∷ [])))
unfolding parcel_text
parcel_text-parts s p roots nodes is also = rw (is, also) (ap (λ (text : List ℕ). 91 ∷ text) (append_assoc (spaced (map word_text p.roots)) (124 ∷ spaced (map (node_text s) p.nodes)) (93 ∷ [])))

-- ---- methods

-- a method's names, where there is such a method
pub asked_text-found : (s : System) (word : List ℕ) (k m : ℕ) (p : Parcel) (y : Selector) → selector_at s m ≡ Some y →
    asked_text s word k m p ≡ behind (word ∷ decimal k ∷ quoted y.name ∷ quoted y.descriptor ∷ []) ++ after_space (parcel_text s p)
unfolding asked_text method_text
asked_text-found s word k m p y is = rw is (behind-end (word ∷ decimal k ∷ quoted y.name ∷ quoted y.descriptor ∷ []) (parcel_text s p))

-- and where there is none
pub asked_text-none : (s : System) (word : List ℕ) (k m : ℕ) (p : Parcel) → selector_at s m ≡ None →
    asked_text s word k m p ≡ behind (word ∷ decimal k ∷ quoted [] ∷ quoted [] ∷ []) ++ after_space (parcel_text s p)
unfolding asked_text method_text
asked_text-none s word k m p is = rw is (behind-end (word ∷ decimal k ∷ quoted [] ∷ quoted [] ∷ []) (parcel_text s p))

pub selector_found : (s : System) (m : ℕ) (y : Selector) → m < length s.program.selectors → y ≡ get_or s.program.selectors m y → selector_at s m ≡ Some y
unfolding selector_at
selector_found s m y lt is = slice_get_read s.program.selectors (length s.program.selectors) m y refl lt is

pub selector_none : (s : System) (m : ℕ) → length s.program.selectors ≤ m → selector_at s m ≡ None
unfolding selector_at
selector_none s m le = slice_get_past s.program.selectors m le
