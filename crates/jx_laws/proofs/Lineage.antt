-- The lineage of a memory object: numbers fall, and it stays the same as the history grows.
use Rattle.std.proofs.Common.{◌≡◌, refl, sym, ◌∙◌, ap, ℕ, suc, zero, ◌<◌, ◌≤◌, ◌+◌, Bool, true, not, ◌&&◌, List, [], ◌∷◌, ◌++◌, length, Option, Some, None, arith, if◌then◌else◌, ◌⊎◌, inl, inr, length-append}
use Rattle.std.specs.Prelude.{nat_le}
use Rattle.std.proofs.lemmas.Bool.Decides.{nat_tests}
use Rattle.jx_base.specs.declared.act.Entry.{Entry}
use Rattle.jx_base.specs.declared.program.System.{System}
use Rattle.jx_base.specs.Basics.{numbered, contains_number}
use Rattle.jx_base.specs.Histories.{Past}
use Rattle.jx_model.specs.MemoryObjects.{Part, new_parts, objects_of, objects_made, object_part, extents_made, lineage_within, lineage_of, is_valid, ends_one_of}
use Rattle.jx_model.specs.Legal.{IsNext, IsAdmittedPast}
use Rattle.jx_laws.proofs.Lists.{get_none, numbered_left, numbered_split, numbered_within, numbered_there, contains_first, contains_rest, no_number}
use Rattle.jx_laws.proofs.Parts.{NewPart, OfExtent, OfParent, OfEnded, new_part}

-- ---- old and new objects

-- the objects that the entry makes
abbrev pub news : Entry → Past → List Part
news e past = new_parts (objects_of past) (extents_made past + 1) e.act e.reply

-- objects stay what they are
pub part_stays : (e : Entry) (past : Past) (m : ℕ) (o : Part) → object_part past m ≡ Some o → object_part (e ∷ past) m ≡ Some o
unfolding object_part objects_of
part_stays e past m o h = numbered_left (objects_of past) (news e past) m o h

-- an object has one of the numbers given
pub part_within : (past : Past) (m : ℕ) (o : Part) → object_part past m ≡ Some o → (1 ≤ m) × (m ≤ objects_made past)
unfolding object_part objects_made
part_within past m o h = numbered_within (objects_of past) m o h

-- each number given has an object
pub part_there : (past : Past) (m : ℕ) → 1 ≤ m → m ≤ objects_made past → (o : Part) × (object_part past m ≡ Some o)
unfolding object_part objects_made
part_there past m l u = numbered_there (objects_of past) m l u

-- objects are never unmade
pub objects_grow : (e : Entry) (past : Past) → objects_made past ≤ objects_made (e ∷ past)
unfolding objects_made objects_of
objects_grow e past = omega (arith, length-append (objects_of past) (news e past))

-- an object was there before the entry, or is one that the entry makes
pub part_before : (s : System) (past : Past) (e : Entry) (m : ℕ) (o : Part) → IsNext s past e → object_part (e ∷ past) m ≡ Some o →
    (object_part past m ≡ Some o) ⊎ ((objects_made past < m) × NewPart past e.domain.0 e.act e.reply o)
unfolding object_part objects_of objects_made
part_before s past e m o n h = elim (numbered_split (objects_of past) (news e past) m o h) [
  | inl q ↦ inl q
  | inr q ↦ inr (omega (arith, q.1), new_part s past e.domain.0 e.act e.reply q.0 o n.reply q.2)
]

-- ---- numbers fall

-- each parent's number is below that of its child
abbrev pub Falls : List Part → Type 0
Falls xs = (m : ℕ) (o : Part) → numbered xs m ≡ Some o → o.parent < m

-- the empty past has no object
pub no_part : {A : Type 0} (m : ℕ) (o : Part) → object_part [] m ≡ Some o → A
unfolding object_part objects_of numbered
no_part zero o h = cc
no_part (suc i) o h = get_none i o h

-- each object's parent has a lower number
falls_at : (s : System) (past : Past) → IsAdmittedPast s past → (m : ℕ) (o : Part) → object_part past m ≡ Some o → o.parent < m
falls_at s [] a m o h = no_part m o h
falls_at s (e ∷ past) a m o h = by (part_before s past e m o a.0 h) (falls_at s past a.1)
  where
    by : (object_part past m ≡ Some o) ⊎ ((objects_made past < m) × NewPart past e.domain.0 e.act e.reply o) → ((m : ℕ) (o : Part) → object_part past m ≡ Some o → o.parent < m) → o.parent < m
    by (inl q) again = again m o q
    by (inr (l, OfExtent f)) again = omega (arith, l, f.parent)
    by (inr (l, OfParent k old u i p z)) again = omega (arith, l, p, part_within past k old u.part)
    by (inr (l, OfEnded k old u i p z)) again = omega (arith, l, p, part_within past k old u.part, again k old u.part)

-- each object's parent was made before it
pub falls : (s : System) (past : Past) → IsAdmittedPast s past → Falls (objects_of past)
unfolding object_part
falls s past a m o h = falls_at s past a m o h

-- ---- lineages

-- no item has the number 0
none_zero : {A : Type 0} (xs : List A) → numbered xs 0 ≡ None
unfolding numbered
none_zero xs = refl

-- a number within the list without an item has none when more come behind
none_more : (xs ys : List Part) (n : ℕ) → n ≤ length xs → numbered xs n ≡ None → numbered (xs ++ ys) n ≡ None
none_more xs ys zero u q = none_zero (xs ++ ys)
none_more xs ys (suc i) u q = let x = numbered_there xs (suc i) (omega arith) u in cc (x.1, q)

-- the number 0 has no lineage
at_zero : (xs : List Part) (j m : ℕ) → m ≤ 0 → lineage_within xs (suc j) m ≡ []
unfolding lineage_within
at_zero xs j zero h = ap (λ (p : Option Part). elim p as (λ _. List ℕ) [ None ↦ [] | Some o ↦ 0 ∷ lineage_within xs j o.parent ]) (none_zero xs)
at_zero xs j (suc m) h = absurd (omega (arith, h))

-- more objects behind leave a lineage as it is
pub lineage_more : (xs ys : List Part) (k m : ℕ) → Falls xs → m ≤ length xs → lineage_within (xs ++ ys) k m ≡ lineage_within xs k m
unfolding lineage_within
lineage_more xs ys zero m f u = refl
lineage_more xs ys (suc k) m f u = by (numbered xs m) refl (lineage_more xs ys k)
  where
    by : (p : Option Part) → numbered xs m ≡ p → ((n : ℕ) → Falls xs → n ≤ length xs → lineage_within (xs ++ ys) k n ≡ lineage_within xs k n) →
        (elim (numbered (xs ++ ys) m) as (λ _. List ℕ) [ None ↦ [] | Some o ↦ m ∷ lineage_within (xs ++ ys) k o.parent ]) ≡ (elim p as (λ _. List ℕ) [ None ↦ [] | Some o ↦ m ∷ lineage_within xs k o.parent ])
    by None q again = ap (λ (p : Option Part). elim p as (λ _. List ℕ) [ None ↦ [] | Some o ↦ m ∷ lineage_within (xs ++ ys) k o.parent ]) (none_more xs ys m u q)
    by (Some o) q again =
        ap (λ (p : Option Part). elim p as (λ _. List ℕ) [ None ↦ [] | Some o ↦ m ∷ lineage_within (xs ++ ys) k o.parent ]) (numbered_left xs ys m o q)
        ∙ ap (λ (l : List ℕ). m ∷ l) (again o.parent f (omega (arith, f m o q, u)))

-- so many steps or more lead to the same lineage
pub lineage_steps : (xs : List Part) (j l m : ℕ) → Falls xs → m ≤ j → m ≤ l → lineage_within xs j m ≡ lineage_within xs l m
unfolding lineage_within
lineage_steps xs zero zero m f a b = refl
lineage_steps xs zero (suc l) m f a b = sym (at_zero xs l m (omega (arith, a)))
lineage_steps xs (suc j) zero m f a b = at_zero xs j m (omega (arith, b))
lineage_steps xs (suc j) (suc l) m f a b = by (numbered xs m) refl (lineage_steps xs j l)
  where
    by : (p : Option Part) → numbered xs m ≡ p → ((n : ℕ) → Falls xs → n ≤ j → n ≤ l → lineage_within xs j n ≡ lineage_within xs l n) →
        (elim p as (λ _. List ℕ) [ None ↦ [] | Some o ↦ m ∷ lineage_within xs j o.parent ]) ≡ (elim p as (λ _. List ℕ) [ None ↦ [] | Some o ↦ m ∷ lineage_within xs l o.parent ])
    by None q again = refl
    by (Some o) q again = ap (λ (k : List ℕ). m ∷ k) (again o.parent f (omega (arith, f m o q, a)) (omega (arith, f m o q, b)))

-- a lineage holds no number above its first
pub lineage_below : (xs : List Part) (j k m : ℕ) → Falls xs → contains_number (lineage_within xs j k) m ≡ true → m ≤ k
unfolding lineage_within
lineage_below xs zero k m f h = no_number m h
lineage_below xs (suc j) k m f h = by (numbered xs k) refl h (λ n. lineage_below xs j n m f)
  where
    by : (p : Option Part) → numbered xs k ≡ p → contains_number (elim p as (λ _. List ℕ) [ None ↦ [] | Some o ↦ k ∷ lineage_within xs j o.parent ]) m ≡ true →
        ((n : ℕ) → contains_number (lineage_within xs j n) m ≡ true → m ≤ n) → m ≤ k
    by None q h again = no_number m h
    by (Some o) q h again = elim (contains_first k m (lineage_within xs j o.parent) h) [
      | inl z ↦ omega (arith, z)
      | inr z ↦ omega (arith, again o.parent z, f k o q)
    ]

-- the lineage of an object is its number and the lineage of its parent
pub lineage_first : (xs : List Part) (k : ℕ) (o : Part) → Falls xs → numbered xs k ≡ Some o → lineage_of xs k ≡ k ∷ lineage_of xs o.parent
unfolding lineage_of lineage_within
lineage_first xs zero o f h = let z = none_zero xs in cc
lineage_first xs (suc k) o f h =
    ap (λ (p : Option Part). elim p as (λ _. List ℕ) [ None ↦ [] | Some o ↦ suc k ∷ lineage_within xs k o.parent ]) h
    ∙ ap (λ (l : List ℕ). suc k ∷ l) (lineage_steps xs k o.parent o.parent f (omega (arith, f (suc k) o h)) (omega arith))

-- a number that isn't an object's has no lineage
pub lineage_none : (xs : List Part) (k : ℕ) → numbered xs k ≡ None → lineage_of xs k ≡ []
unfolding lineage_of lineage_within
lineage_none xs zero h = refl
lineage_none xs (suc k) h = ap (λ (p : Option Part). elim p as (λ _. List ℕ) [ None ↦ [] | Some o ↦ suc k ∷ lineage_within xs k o.parent ]) h

-- what an object derives from is itself, or what its parent derives from
pub lineage_cases : (xs : List Part) (k m : ℕ) → Falls xs → contains_number (lineage_of xs k) m ≡ true →
    (o : Part) × (numbered xs k ≡ Some o) × ((k ≡ m) ⊎ (contains_number (lineage_of xs o.parent) m ≡ true))
lineage_cases xs k m f h = by (numbered xs k) refl
  where
    by : (p : Option Part) → numbered xs k ≡ p → (o : Part) × (numbered xs k ≡ Some o) × ((k ≡ m) ⊎ (contains_number (lineage_of xs o.parent) m ≡ true))
    by None q = no_number m (ap (λ (l : List ℕ). contains_number l m) (sym (lineage_none xs k q)) ∙ h)
    by (Some o) q = (o, q, contains_first k m (lineage_of xs o.parent) (ap (λ (l : List ℕ). contains_number l m) (sym (lineage_first xs k o f q)) ∙ h))

-- what an object's parent derives from, the object does
pub lineage_up : (xs : List Part) (k m : ℕ) (o : Part) → Falls xs → numbered xs k ≡ Some o → contains_number (lineage_of xs o.parent) m ≡ true → contains_number (lineage_of xs k) m ≡ true
lineage_up xs k m o f q h = ap (λ (l : List ℕ). contains_number l m) (lineage_first xs k o f q) ∙ contains_rest k m (lineage_of xs o.parent) h

-- an object keeps its lineage
pub lineage_stays : (s : System) (e : Entry) (past : Past) (m : ℕ) → IsAdmittedPast s past → m ≤ objects_made past → lineage_of (objects_of (e ∷ past)) m ≡ lineage_of (objects_of past) m
unfolding lineage_of objects_of objects_made
lineage_stays s e past m a u = lineage_more (objects_of past) (news e past) m m (falls s past a) u

-- ---- validity

-- a number at most another passes the test
below : (m n : ℕ) → m ≤ n → nat_le m n ≡ true
below m n h = grind (arith, nat_tests)

-- an object that was there is valid after an entry where it was before, and the entry ends none of its lineage
pub valid_old : (e : Entry) (past : Past) (m : ℕ) → m ≤ objects_made past → is_valid (e ∷ past) m ≡ (is_valid past m && not (ends_one_of (lineage_of (objects_of past) m) e))
unfolding is_valid
valid_old e past m u =
    ap (λ (b : Bool). if b then is_valid past m && not (ends_one_of (lineage_of (objects_of past) m) e) else nat_le m (objects_made (e ∷ past))) (below m (objects_made past) u)
