-- Objects that are met one after another.
use Rattle.std.proofs.Common.{◌≡◌, refl, sym, ◌∙◌, ap, ℕ, ◌+◌, ◌<◌, Bool, true, false, ◌||◌, List, [], ◌∷◌, ◌++◌, length, take, get_or, arith, if◌then◌else◌, ◌==◌, append_assoc, append-nil, position, eqb}
use Rattle.std.specs.List.{list_any, flat_map}
use Rattle.std.proofs.lemmas.List.{take_more}
use Rattle.std.proofs.lemmas.Grind.{flat_map-append}
use Rattle.std.proofs.lemmas.Bool.Decides.{nat_tests}
use Rattle.jx_base.specs.declared.states.Exported.{Exported}
use Rattle.jx_base.specs.declared.value.Value.{Value}
use Rattle.jx_base.specs.Basics.{contains_number, firsts, firsts_after, distinct, distinct_after}
use Rattle.program_model.specs.Parcels.{references_of, reference_of}
use Rattle.indexmap.specs.IndexSet.{insert_key}

-- ---- tests of the kit's set and of the walk

same_test : (r y : ℕ) → eqb r y ≡ (y == r)
same_test r y = grind (arith, nat_tests)

pub same_contains : (xs : List ℕ) (r : ℕ) → list_any (eqb r) xs ≡ contains_number xs r
unfolding contains_number
same_contains xs r = λ j. list_any (λ y. same_test r y j) xs

pub same_position : (xs : List ℕ) (r : ℕ) → position (eqb r) xs ≡ position (λ y. y == r) xs
same_position xs r = λ j. position (λ y. same_test r y j) xs

-- ---- first mentions

push_one : (seen xs : List ℕ) (y : ℕ) → firsts_after seen (xs ++ y ∷ [])
    ≡ (if contains_number seen y || contains_number (firsts_after seen xs) y then firsts_after seen xs else firsts_after seen xs ++ y ∷ [])
unfolding distinct_after contains_number
push_one seen [] y = by (contains_number seen y)
  where
    by : (b : Bool) → (if b then [] else y ∷ []) ≡ (if b || false then [] else [] ++ y ∷ [])
    by true = refl
    by false = refl
push_one seen (x ∷ xs) y = by (contains_number seen x) (push_one seen xs y) (push_one (x ∷ seen) xs y)
  where
    shuffle : (a b c : Bool) (u v : List ℕ) → (if (a || b) || c then u else v) ≡ (if b || (a || c) then u else v)
    shuffle true true c u v = refl
    shuffle true false c u v = refl
    shuffle false true c u v = refl
    shuffle false false c u v = refl

    push : (b : Bool) (u v : List ℕ) → x ∷ (if b then u else v) ≡ (if b then x ∷ u else x ∷ v)
    push true u v = refl
    push false u v = refl

    by : (b : Bool) →
        firsts_after seen (xs ++ y ∷ []) ≡ (if contains_number seen y || contains_number (firsts_after seen xs) y then firsts_after seen xs else firsts_after seen xs ++ y ∷ []) →
        firsts_after (x ∷ seen) (xs ++ y ∷ []) ≡ (if contains_number (x ∷ seen) y || contains_number (firsts_after (x ∷ seen) xs) y then firsts_after (x ∷ seen) xs else firsts_after (x ∷ seen) xs ++ y ∷ []) →
        (if b then firsts_after seen (xs ++ y ∷ []) else x ∷ firsts_after (x ∷ seen) (xs ++ y ∷ []))
        ≡ (if contains_number seen y || contains_number (if b then firsts_after seen xs else x ∷ firsts_after (x ∷ seen) xs) y
        then (if b then firsts_after seen xs else x ∷ firsts_after (x ∷ seen) xs)
        else (if b then firsts_after seen xs else x ∷ firsts_after (x ∷ seen) xs) ++ y ∷ [])
    by true p q = p
    by false p q =
        let rest = firsts_after (x ∷ seen) xs in
        ap (λ (zs : List ℕ). x ∷ zs) q
        ∙ push (contains_number (x ∷ seen) y || contains_number rest y) rest (rest ++ y ∷ [])
        ∙ shuffle (x == y) (contains_number seen y) (contains_number rest y) (x ∷ rest) (x ∷ rest ++ y ∷ [])

-- an object that is met goes behind the others, unless it is among them
pub visit_one : (keys mentioned : List ℕ) (r : ℕ) → keys ≡ firsts mentioned → insert_key eqb keys r ≡ firsts (mentioned ++ r ∷ [])
unfolding distinct distinct_after contains_number
visit_one keys mentioned r e =
    ap (λ (b : Bool). if b then keys else keys ++ r ∷ []) (same_contains keys r)
    ∙ ap (λ (xs : List ℕ). if contains_number xs r then xs else xs ++ r ∷ []) e
    ∙ sym (push_one [] mentioned r)

-- ---- values one after another

pub references_more : (exports : List Exported) (values : List Value) (i : ℕ) (v : Value) → i < length values → v ≡ get_or values i v →
    references_of exports (take (i + 1) values) ≡ references_of exports (take i values) ++ reference_of exports v
unfolding references_of
references_more exports values i v l e =
    ap (flat_map (reference_of exports)) (take_more values i v l ∙ ap (λ (x : Value). take i values ++ x ∷ []) (sym e))
    ∙ flat_map-append (reference_of exports) (take i values) (v ∷ [])
    ∙ ap (λ (xs : List ℕ). references_of exports (take i values) ++ xs) (append-nil (reference_of exports v))

-- what was met with one value more
pub met_more : (keys mentioned : List ℕ) (exports : List Exported) (values : List Value) (i : ℕ) (v : Value) (r : ℕ) → i < length values → v ≡ get_or values i v →
    keys ≡ firsts (mentioned ++ references_of exports (take i values)) → r ∷ [] ≡ reference_of exports v →
    insert_key eqb keys r ≡ firsts (mentioned ++ references_of exports (take (i + 1) values))
met_more keys mentioned exports values i v r l e h q =
    visit_one keys (mentioned ++ references_of exports (take i values)) r h
    ∙ ap firsts (append_assoc mentioned (references_of exports (take i values)) (r ∷ [])
    ∙ ap (λ (xs : List ℕ). mentioned ++ xs) (ap (λ (xs : List ℕ). references_of exports (take i values) ++ xs) q ∙ sym (references_more exports values i v l e)))

pub met_same : (keys mentioned : List ℕ) (exports : List Exported) (values : List Value) (i : ℕ) (v : Value) → i < length values → v ≡ get_or values i v →
    keys ≡ firsts (mentioned ++ references_of exports (take i values)) → [] ≡ reference_of exports v →
    keys ≡ firsts (mentioned ++ references_of exports (take (i + 1) values))
met_same keys mentioned exports values i v l e h q =
    h ∙ ap (λ (xs : List ℕ). firsts (mentioned ++ xs))
    (sym (append-nil (references_of exports (take i values)))
    ∙ ap (λ (xs : List ℕ). references_of exports (take i values) ++ xs) q
    ∙ sym (references_more exports values i v l e))
