-- A name is the newest of those that have its digest and its units.
use Rattle.std.proofs.Common.{◌≡◌, refl, sym, ◌∙◌, ap, subst, ℕ, suc, zero, ◌+◌, ◌≤◌, ◌<◌, ◌==◌, Bool, true, false, List, [], ◌∷◌, ◌++◌, length, reverse, take, Option, Some, None, arith, slice_get, if◌then◌else◌}
use Rattle.std.specs.Option.{option_map}
use Rattle.std.specs.Str.{bytes_eq}
use Rattle.std.proofs.lemmas.List.{reverse-append, take_all, take_more}
use Rattle.std.proofs.lemmas.Option.{get_or_from_slice_get, slice_get-map}
use Rattle.std.proofs.lemmas.Slice.Eq.{bytes_eq-Decides}
use Rattle.jx_base.specs.Basics.{passes}
use Rattle.jx_base.proofs.BasicLaws.{ap2, get_left}
use Rattle.jx_model.specs.Tables.{named_service}
use Rattle.table_threads.proofs.Records.{is_that}
use Rattle.portal_table.specs.NameLists.{digest_of}
use Rattle.portal_table.specs.NamesInside.{KnowsOlder, bind_of, binds_of, newest_before}
use Rattle.portal_table.specs.declared.names.Bind.{Bind}

-- one behind a place, or the start
abbrev pub next_place : Option ℕ → ℕ
next_place None = 0
next_place (Some i) = i + 1

abbrev has_name : List ℕ → List ℕ × ℕ → Bool
has_name name b = bytes_eq b.0 name

abbrev has_digest : ℕ → List ℕ × ℕ → Bool
has_digest digest b = digest_of b.0 == digest

-- the service of the newest of the first n binds of a name
abbrev pub named_before : List (List ℕ × ℕ) → ℕ → List ℕ → Option ℕ
named_before binds zero name = None
named_before binds (suc n) name = if passes (has_name name) (slice_get binds n) then option_map (λ b. b.1) (slice_get binds n) else named_before binds n name

one_more : (n : ℕ) → suc n ≡ n + 1
one_more n = omega arith

-- ---- in the list of the newest first

pub named_first : (binds : List (List ℕ × ℕ)) (n : ℕ) (name : List ℕ) → n ≤ length binds → named_service (reverse (take n binds)) name ≡ named_before binds n name
unfolding named_service passes
named_first binds zero name l = refl
named_first binds (suc n) name l = by (there binds n l) (named_first binds n name (omega (arith, l)))
  where
    there : (binds : List (List ℕ × ℕ)) (n : ℕ) → suc n ≤ length binds → (b : List ℕ × ℕ) × (slice_get binds n ≡ Some b)
    there [] n l = absurd (omega (arith, l))
    there (b ∷ binds) zero l = (b, refl)
    there (b ∷ binds) (suc n) l = there binds n (omega (arith, l))

    by : (b : List ℕ × ℕ) × (slice_get binds n ≡ Some b) → named_service (reverse (take n binds)) name ≡ named_before binds n name → named_service (reverse (take (suc n) binds)) name ≡ named_before binds (suc n) name
    by (b, q) before =
        let more : take (n + 1) binds ≡ take n binds ++ b ∷ [] = take_more binds n b (omega (arith, l)) ∙ ap (λ (x : List ℕ × ℕ). take n binds ++ x ∷ []) (get_or_from_slice_get binds n b b q) in
        ap (λ (k : ℕ). named_service (reverse (take k binds)) name) (one_more n)
        ∙ ap (λ (xs : List (List ℕ × ℕ)). named_service (reverse xs) name) more
        ∙ ap (λ (xs : List (List ℕ × ℕ)). named_service xs name) (reverse-append (take n binds) (b ∷ []))
        ∙ ap (λ (o : Option ℕ). if bytes_eq b.0 name then Some b.1 else o) before
        ∙ ap (λ (o : Option (List ℕ × ℕ)). if passes (has_name name) o then option_map (λ b. b.1) o else named_before binds n name) (sym q)

pub named_all : (binds : List (List ℕ × ℕ)) (name : List ℕ) → named_service (reverse binds) name ≡ named_before binds (length binds) name
named_all binds name =
    ap (λ (xs : List (List ℕ × ℕ)). named_service (reverse xs) name) (sym (take_all (length binds) binds (omega arith))) ∙ named_first binds (length binds) name (omega arith)

-- ---- the newest of a digest

module _ (binds : List (List ℕ × ℕ)) (digest : ℕ) where
  pub record IsNewest (n i : ℕ) : Type 0 where
    pub before : i < n
    pub same : passes (has_digest digest) (slice_get binds i) ≡ true
    pub skipped : (name : List ℕ) → digest_of name ≡ digest → named_before binds n name ≡ named_before binds (i + 1) name

  -- a bind of another digest is none of the name
  other : (n : ℕ) (name : List ℕ) → digest_of name ≡ digest → passes (has_digest digest) (slice_get binds n) ≡ false → named_before binds (suc n) name ≡ named_before binds n name
  unfolding passes
  other n name d q = by (slice_get binds n) q
    where
      differs : (b : List ℕ × ℕ) (e : Bool) → bytes_eq b.0 name ≡ e → (digest_of b.0 == digest) ≡ false → e ≡ false
      differs b false p q = refl
      differs b true p q =
          let z : (digest_of b.0 == digest) ≡ true = is_that (digest_of b.0) digest (ap digest_of ((bytes_eq-Decides b.0 name).0 p) ∙ d) in cc (z, q)

      by : (o : Option (List ℕ × ℕ)) → passes (has_digest digest) o ≡ false → (if passes (has_name name) o then option_map (λ b. b.1) o else named_before binds n name) ≡ named_before binds n name
      by None q = refl
      by (Some b) q = ap (λ (e : Bool). if e then Some b.1 else named_before binds n name) (differs b (bytes_eq b.0 name) refl q)

  pub newest_is : (n i : ℕ) → newest_before binds digest n ≡ Some i → IsNewest n i
  newest_is zero i q = cc
  newest_is (suc n) i q = by (passes (has_digest digest) (slice_get binds n)) refl q (newest_is n i)
    where
      by : (b : Bool) → passes (has_digest digest) (slice_get binds n) ≡ b → (if b then Some n else newest_before binds digest n) ≡ Some i → (newest_before binds digest n ≡ Some i → IsNewest n i) → IsNewest (suc n) i
      by true p q before =
          let z : n ≡ i = cc in
          subst (IsNewest (suc n)) z (record { before = omega arith; same = p; skipped = λ name d. ap (λ (k : ℕ). named_before binds k name) (one_more n) })
      by false p q before =
          let r = before q in
          record { before = omega (arith, r.before); same = r.same; skipped = λ name d. other n name d p ∙ r.skipped name d }

  pub newest_none : (n : ℕ) (name : List ℕ) → digest_of name ≡ digest → newest_before binds digest n ≡ None → named_before binds n name ≡ None
  newest_none zero name d q = refl
  newest_none (suc n) name d q = by (passes (has_digest digest) (slice_get binds n)) refl q (newest_none n name d)
    where
      by : (b : Bool) → passes (has_digest digest) (slice_get binds n) ≡ b → (if b then Some n else newest_before binds digest n) ≡ None → (newest_before binds digest n ≡ None → named_before binds n name ≡ None) → named_before binds (suc n) name ≡ None
      by true p q before = cc
      by false p q before = other n name d p ∙ before q

  -- ---- with one more bind

  pub newest_more : (b : List ℕ × ℕ) (n : ℕ) → n ≤ length binds → newest_before (binds ++ b ∷ []) digest n ≡ newest_before binds digest n
  newest_more b zero l = refl
  newest_more b (suc n) l =
      ap2 (λ (o : Option (List ℕ × ℕ)) (r : Option ℕ). if passes (has_digest digest) o then Some n else r) (get_left binds (b ∷ []) n (omega (arith, l))) (newest_more b n (omega (arith, l)))

-- ---- a name that is looked for

-- what stands at a place of the chain
pub record IsLink (units : List ℕ) (binds : List Bind) (name : List ℕ) (n i : ℕ) (b : Bind) : Type 0 where
  pub before : i < n
  pub here : named_before (binds_of units binds) n name ≡ (if bytes_eq (bind_of units b).0 name then Some b.service.0 else named_before (binds_of units binds) i name)
  pub older : b.older ≡ newest_before (binds_of units binds) (digest_of name) i

pub link_is : (units : List ℕ) (binds : List Bind) (name : List ℕ) (n i : ℕ) (b : Bind) → slice_get binds i ≡ Some b → KnowsOlder units binds i b →
    newest_before (binds_of units binds) (digest_of name) n ≡ Some i → IsLink units binds name n i b
unfolding passes
link_is units binds name n i b q k h =
    record {
      before = r.before;
      here = r.skipped name refl ∙ ap (λ (j : ℕ). named_before all j name) (sym (one_more i)) ∙ ap (λ (o : Option (List ℕ × ℕ)). if passes (has_name name) o then option_map (λ b. b.1) o else named_before all i name) there;
      older = k ∙ ap (λ (d : ℕ). newest_before all d i) same;
    }
  where
    all : List (List ℕ × ℕ)
    all = binds_of units binds

    r : IsNewest all (digest_of name) n i
    r = newest_is all (digest_of name) n i h

    there : slice_get all i ≡ Some (bind_of units b)
    there = slice_get-map (bind_of units) binds i ∙ ap (option_map (bind_of units)) q

    same : digest_of (bind_of units b).0 ≡ digest_of name
    same = equal (digest_of (bind_of units b).0) (digest_of name) (sym (ap (passes (has_digest (digest_of name))) there) ∙ r.same)
      where
        equal : (a b : ℕ) → (a == b) ≡ true → a ≡ b
        equal a b h = grind (arith, h)

-- what is looked for is among the first names, and the place is that of the newest of them with its digest
pub record Looks (units : List ℕ) (binds : List Bind) (name : List ℕ) (found place : Option ℕ) : Type 0 where
  pub count : ℕ
  pub few : count ≤ length binds
  pub place_is : place ≡ newest_before (binds_of units binds) (digest_of name) count
  pub found_is : found ≡ named_before (binds_of units binds) count name

module _ (units : List ℕ) (binds : List Bind) (name : List ℕ) (found place : Option ℕ) (h : Looks units binds name found place) where
  -- at the start
  pub place_within : (i : ℕ) → place ≡ Some i → i < length binds
  place_within i q =
      let r : IsNewest (binds_of units binds) (digest_of name) h.count i = newest_is (binds_of units binds) (digest_of name) h.count i (sym h.place_is ∙ q) in
      omega (arith, r.before, h.few)

  pub found_none : place ≡ None → None ≡ found
  found_none q = sym (h.found_is ∙ newest_none (binds_of units binds) (digest_of name) h.count name refl (sym h.place_is ∙ q))

  module _ (i : ℕ) (b : Bind) (q : place ≡ Some i) (t : slice_get binds i ≡ Some b) (k : KnowsOlder units binds i b) where
    link : IsLink units binds name h.count i b
    link = link_is units binds name h.count i b t k (sym h.place_is ∙ q)

    pub found_here : bytes_eq (bind_of units b).0 name ≡ true → Some b.service.0 ≡ found
    found_here e = sym (h.found_is ∙ link.here ∙ ap (λ (x : Bool). if x then Some b.service.0 else named_before (binds_of units binds) i name) e)

    pub looks_on : bytes_eq (bind_of units b).0 name ≡ false → Looks units binds name found b.older
    looks_on e =
        record {
          count = i;
          few = omega (arith, link.before, h.few);
          place_is = link.older;
          found_is = h.found_is ∙ link.here ∙ ap (λ (x : Bool). if x then Some b.service.0 else named_before (binds_of units binds) i name) e;
        }

    pub goes_down : next_place b.older < next_place place
    goes_down = subst (λ (o : Option ℕ). next_place b.older < next_place o) (sym q) (below b.older link.older)
      where
        below : (o : Option ℕ) → o ≡ newest_before (binds_of units binds) (digest_of name) i → next_place o < i + 1
        below None z = omega arith
        below (Some j) z =
            let r : IsNewest (binds_of units binds) (digest_of name) i j = newest_is (binds_of units binds) (digest_of name) i j (sym z) in
            omega (arith, r.before)

-- what isn't some place is none
pub no_place : (o : Option ℕ) → ((i : ℕ) → o ≡ Some i → ⊥) → o ≡ None
no_place None h = refl
no_place (Some i) h = absurd (h i refl)
