-- The names with one more.
use Rattle.std.proofs.Common.{◌≡◌, refl, sym, ◌∙◌, ap, subst, ℕ, suc, zero, ◌+◌, ◌-◌, ◌*◌, ◌≤◌, ◌<◌, ◌==◌, Bool, true, false, cond, List, [], ◌∷◌, ◌++◌, length, map, reverse, take, drop, Option, Some, arith, slice_get, if◌then◌else◌, ◌⊎◌, inl, inr, vec_capacity}
use Rattle.std.specs.Prelude.{nat_eq, slice_range}
use Rattle.std.proofs.lemmas.Bool.Decides.{nat_tests}
use Rattle.std.proofs.lemmas.List.{drop-append-le, drop_all, length-append, length-drop, length-map, map-append, reverse-append, take-append-le, take_all}
use Rattle.std.proofs.lemmas.Option.{slice_get_within}
use Rattle.indexmap.specs.IndexMap.{IsUnique, Updates, get, spare}
use Rattle.jx_base.specs.Basics.{passes}
use Rattle.jx_base.proofs.BasicLaws.{ap2, get_right}
use Rattle.portal_table.specs.NameLists.{NamesState, digest_of, name_words}
use Rattle.portal_table.specs.NamesInside.{IsNames, IsWithin, KnowsOlder, bind_of, binds_of, names_state, newest_before}
use Rattle.portal_table.specs.declared.names.Bind.{Bind}
use Rattle.portal_table.specs.declared.names.Names.TheInside.{Inside}
use Rattle.portal_table.proofs.NameChains.{newest_more}

-- ---- lists with one more at the end

-- what stands there was there, or is the new one
pub there_or_new : {A : Type 0} (xs : List A) (x y : A) (i : ℕ) → slice_get (xs ++ x ∷ []) i ≡ Some y → (slice_get xs i ≡ Some y) ⊎ ((i ≡ length xs) × (y ≡ x))
there_or_new [] x y zero q = let z : x ≡ y = cc in inr (refl, sym z)
there_or_new [] x y (suc i) q = cc
there_or_new (z ∷ xs) x y zero q = inl q
there_or_new (z ∷ xs) x y (suc i) q = by (there_or_new xs x y i q)
  where
    by : (slice_get xs i ≡ Some y) ⊎ ((i ≡ length xs) × (y ≡ x)) → (slice_get xs i ≡ Some y) ⊎ ((suc i ≡ suc (length xs)) × (y ≡ x))
    by (inl h) = inl h
    by (inr h) = inr (ap suc h.0, h.1)

pub new_there : {A : Type 0} (xs : List A) (x : A) → slice_get (xs ++ x ∷ []) (length xs) ≡ Some x
new_there xs x = get_right xs (x ∷ []) 0 (length xs) (omega arith)

-- what is the same of each that is there
pub map_there : {A B : Type 0} (f g : A → B) (xs : List A) → ((i : ℕ) (x : A) → slice_get xs i ≡ Some x → f x ≡ g x) → map f xs ≡ map g xs
map_there f g [] h = refl
map_there {B = B} f g (x ∷ xs) h = ap2 (λ (y : B) (ys : List B). y ∷ ys) (h 0 x refl) (map_there f g xs (λ i x q. h (suc i) x q))

-- ---- units behind the others

old_range : (units more : List ℕ) (a b : ℕ) → a ≤ b → b ≤ length units → slice_range (units ++ more) a b ≡ slice_range units a b
old_range units more a b l h =
    ap (take (b - a)) (drop-append-le a units more (omega (arith, l, h)))
    ∙ take-append-le (b - a) (drop a units) more (omega (arith, l, h, length-drop a units))

new_range : (units more : List ℕ) → slice_range (units ++ more) (length units) (length units + length more) ≡ more
new_range units more =
    ap2 (λ (n : ℕ) (xs : List ℕ). take n xs) count (drop-append-le (length units) units more (omega arith) ∙ ap (λ (xs : List ℕ). xs ++ more) (drop_all (length units) units (omega arith)))
    ∙ take_all (length more) more (omega arith)
  where
    count : length units + length more - length units ≡ length more
    count = omega arith

-- ---- the names with one more

module _ (x y : Inside) (name : List ℕ) (b : Bind) (h : IsNames x)
    (units_are : y.units.items ≡ x.units.items ++ name)
    (binds_are : y.binds.items ≡ x.binds.items ++ b ∷ [])
    (start_is : b.start ≡ length x.units.items)
    (end_is : b.end ≡ length x.units.items + length name)
    (older_is : b.older ≡ get nat_eq x.newest (digest_of name))
    (updates : Updates nat_eq x.newest y.newest (digest_of name) (Some (length x.binds.items)))
    (words_are : y.words ≡ x.words)
  where
    abbrev pub old : List (List ℕ × ℕ)
    old = binds_of x.units.items x.binds.items

    -- a bind that was there has the same name
    same_bind : (c : Bind) → IsWithin (length x.units.items) c → bind_of y.units.items c ≡ bind_of x.units.items c
    same_bind c w =
        ap (λ (units : List ℕ). bind_of units c) units_are
        ∙ ap (λ (xs : List ℕ). (xs, c.service.0)) (old_range x.units.items name c.start c.end w.order w.end)

    -- the new one has its own
    new_bind : bind_of y.units.items b ≡ (name, b.service.0)
    new_bind =
        ap (λ (units : List ℕ). bind_of units b) units_are
        ∙ ap2 (λ (i j : ℕ). (slice_range (x.units.items ++ name) i j, b.service.0)) start_is end_is
        ∙ ap (λ (xs : List ℕ). (xs, b.service.0)) (new_range x.units.items name)

    pub binds_more : binds_of y.units.items y.binds.items ≡ old ++ (name, b.service.0) ∷ []
    binds_more =
        ap (map (bind_of y.units.items)) binds_are
        ∙ map-append (bind_of y.units.items) x.binds.items (b ∷ [])
        ∙ ap2 (λ (xs : List (List ℕ × ℕ)) (z : List ℕ × ℕ). xs ++ z ∷ [])
        (map_there (bind_of y.units.items) (bind_of x.units.items) x.binds.items (λ i c q. same_bind c (h.within i c q))) new_bind

    -- what the names are seen as
    pub state_more : names_state y ≡ record { binds = (name, b.service.0) ∷ reverse old; words = x.words }
    state_more =
        ap2 (λ (xs : List (List ℕ × ℕ)) (n : ℕ). record { binds = reverse xs; words = n }) binds_more words_are
        ∙ ap (λ (xs : List (List ℕ × ℕ)). record { binds = xs; words = x.words }) (reverse-append old ((name, b.service.0) ∷ []))

    counted : length old ≡ length x.binds.items
    counted = length-map x.binds.items (bind_of x.units.items)

    units_more : length y.units.items ≡ length x.units.items + length name
    units_more = ap (λ (xs : List ℕ). length xs) units_are ∙ length-append x.units.items name

    count_more : length y.binds.items ≡ length x.binds.items + 1
    count_more = ap (λ (xs : List Bind). length xs) binds_are ∙ length-append x.binds.items (b ∷ [])

    -- each name stands in the run
    within_more : (i : ℕ) (c : Bind) → slice_get y.binds.items i ≡ Some c → IsWithin (length y.units.items) c
    within_more i c q = by (there_or_new x.binds.items b c i (ap (λ (xs : List Bind). slice_get xs i) (sym binds_are) ∙ q))
      where
        by : (slice_get x.binds.items i ≡ Some c) ⊎ ((i ≡ length x.binds.items) × (c ≡ b)) → IsWithin (length y.units.items) c
        by (inl t) = let w = h.within i c t in record { order = w.order; end = omega (arith, w.end, units_more) }
        by (inr t) =
            subst (IsWithin (length y.units.items)) (sym t.1) (record { order = omega (arith, start_is, end_is); end = omega (arith, end_is, units_more) })

    -- and knows the next older of its digest
    older_more : (i : ℕ) (c : Bind) → slice_get y.binds.items i ≡ Some c → KnowsOlder y.units.items y.binds.items i c
    older_more i c q = by (there_or_new x.binds.items b c i (ap (λ (xs : List Bind). slice_get xs i) (sym binds_are) ∙ q))
      where
        more : (digest k : ℕ) → k ≤ length x.binds.items → newest_before old digest k ≡ newest_before (binds_of y.units.items y.binds.items) digest k
        more digest k l =
            sym (ap (λ (xs : List (List ℕ × ℕ)). newest_before xs digest k) binds_more ∙ newest_more old digest (name, b.service.0) k (omega (arith, l, counted)))

        by : (slice_get x.binds.items i ≡ Some c) ⊎ ((i ≡ length x.binds.items) × (c ≡ b)) → KnowsOlder y.units.items y.binds.items i c
        by (inl t) =
            h.older i c t
            ∙ ap (λ (z : List ℕ × ℕ). newest_before old (digest_of z.0) i) (sym (same_bind c (h.within i c t)))
            ∙ more (digest_of (bind_of y.units.items c).0) i (let l : i < length x.binds.items = slice_get_within x.binds.items i c t in omega (arith, l))
        by (inr t) =
            ap (λ (z : Bind). z.older) t.1
            ∙ older_is
            ∙ h.newest (digest_of name)
            ∙ ap (λ (z : List ℕ × ℕ). newest_before old (digest_of z.0) (length x.binds.items)) (sym (ap (bind_of y.units.items) t.1 ∙ new_bind))
            ∙ ap (λ (k : ℕ). newest_before old (digest_of (bind_of y.units.items c).0) k) (sym t.0)
            ∙ more (digest_of (bind_of y.units.items c).0) i (omega (arith, t.0))

    -- the map knows the newest of each digest
    newest_all : (digest : ℕ) → get nat_eq y.newest digest ≡ newest_before (binds_of y.units.items y.binds.items) digest (length y.binds.items)
    unfolding passes
    newest_all digest =
        updates.0 digest
        ∙ by (nat_eq (digest_of name) digest) (digest_of name == digest) (grind (arith, nat_tests))
        ∙ sym (ap2 (λ (xs : List (List ℕ × ℕ)) (n : ℕ). newest_before xs digest n) binds_more (count_more ∙ one_more (length x.binds.items))
        ∙ ap2 (λ (o : Option (List ℕ × ℕ)) (r : Option ℕ). if passes (λ z. digest_of z.0 == digest) o then Some (length x.binds.items) else r) here
        (newest_more old digest (name, b.service.0) (length x.binds.items) (omega (arith, counted))))
      where
        one_more : (n : ℕ) → n + 1 ≡ suc n
        one_more n = omega arith

        here : slice_get (old ++ (name, b.service.0) ∷ []) (length x.binds.items) ≡ Some (name, b.service.0)
        here = ap (λ (n : ℕ). slice_get (old ++ (name, b.service.0) ∷ []) n) (sym counted) ∙ new_there old (name, b.service.0)

        by : (e f : Bool) → e ≡ f → cond e (Some (length x.binds.items)) (get nat_eq x.newest digest) ≡ (if f then Some (length x.binds.items) else newest_before old digest (length x.binds.items))
        by true true q = refl
        by true false q = cc
        by false true q = cc
        by false false q = h.newest digest

    -- what they cost
    cost_more : name_words (reverse (binds_of y.units.items y.binds.items)) ≡ length y.units.items + 8 * length y.binds.items
    cost_more =
        ap (λ (z : NamesState). name_words z.binds) state_more ∙ omega (arith, h.cost, units_more, count_more)

    module _ (unique : IsUnique nat_eq y.newest) (spare_is : spare x.newest ≤ spare y.newest + 1)
        (units_room : vec_capacity y.units ≡ vec_capacity x.units) (binds_room : vec_capacity y.binds ≡ vec_capacity x.binds)
        (fits : name_words ((name, b.service.0) ∷ reverse old) ≤ x.words)
      where
        pub is_more : IsNames y
        is_more =
            record {
              within = within_more;
              older = older_more;
              newest = newest_all;
              unique = unique;
              cost = cost_more;
              fits = omega (arith, fits, h.cost, units_more, count_more, words_are);
              units = omega (arith, h.units, units_room, words_are);
              binds = omega (arith, h.binds, binds_room, words_are);
              room = omega (arith, h.room, spare_is, count_more, words_are);
              small = omega (arith, h.small, words_are);
            }
