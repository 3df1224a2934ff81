-- The layout of a class begins with its parent's.
use Rattle.std.proofs.Common.{◌≡◌, ℕ, zero, suc, ◌+◌, ◌-◌, ◌<◌, ◌≤◌, inl, inr, Bool, true, false, ◌&&◌, List, [], ◌∷◌, ◌++◌, length, Option, Some, None, slice_get, refl, sym, ap, ◌∙◌, subst, arith}
use Rattle.std.specs.Prelude.{◌==◌, nat_lt}
use Rattle.std.specs.List.{list_all, range_with_len}
use Rattle.std.specs.Str.{bytes_eq}
use Rattle.std.proofs.lemmas.Bool.Decides.{Decides-ltb}
use Rattle.std.proofs.lemmas.List.FromFn.{length-range_with_len}
use Rattle.jx_base.specs.declared.class_file.ClassFile.{ClassFile}
use Rattle.jx_base.specs.declared.ids.ClassId.{ClassId}
use Rattle.jx_base.specs.declared.program.Class.{Class}
use Rattle.jx_base.specs.declared.program.Field.{Field}
use Rattle.jx_base.specs.declared.program.Plan.{Plan}
use Rattle.jx_base.specs.declared.program.System.{System}
use Rattle.program_model.specs.BuiltIn.{built_in_table, built_in_count, opened_built_in}
use Rattle.link_model.specs.ClassFiles.{super_name}
use Rattle.link_model.specs.LinkFaults.{IsLinked}
use Rattle.link_model.specs.Linking.{outline, class_number, class_of_file, layout_of, layout_within, own_fields}
use Rattle.program_model.specs.Lookup.{class_at, is_built_in}
use Rattle.jx_base.proofs.BasicLaws.{both, eq_of}
use Rattle.link_laws.specs.Supers.{BeginsWithLayout}
use Rattle.link_laws.proofs.Above.{no_longer}
use Rattle.link_laws.proofs.Classes.{built_in_length}
use Rattle.link_laws.proofs.Climbs.{Climbs}
use Rattle.link_laws.proofs.Lists.{Among, IsOnce, at_below, at_among, below_length, same_there, same_text, each_among, in_range}
use Rattle.link_laws.proofs.Origins.{class_linked, meant_alike, file_linked}
use Rattle.link_laws.proofs.Rises.{built_in_outlined}

-- ---- the layouts of built-in classes

-- whether a field is the same as another
unfoldable is_same_field : Field → Field → Bool
is_same_field x y = (x.owner.0 == y.owner.0) && (bytes_eq x.name y.name && bytes_eq x.descriptor y.descriptor)

-- whether a layout begins with another
unfoldable is_begun_by : List Field → List Field → Bool
is_begun_by [] fields = true
is_begun_by (x ∷ front) [] = false
is_begun_by (x ∷ front) (y ∷ fields) = is_same_field x y && is_begun_by front fields

-- whether a class's layout begins with that of its parent in the table
unfoldable begins_in_table : Class → Bool
begins_in_table k = elim k.parent [ None ↦ true | Some p ↦ elim (slice_get built_in_table p.0) [ None ↦ false | Some q ↦ is_begun_by q.fields k.fields ] ]

-- so does that of each built-in class
built_in_layouts : list_all begins_in_table built_in_table ≡ true
unfolding begins_in_table is_begun_by is_same_field opened_built_in
built_in_layouts = refl

-- fields that pass are the same
same_field : (x y : Field) → is_same_field x y ≡ true → x ≡ y
unfolding is_same_field
same_field x y h =
    let a = both (x.owner.0 == y.owner.0) (bytes_eq x.name y.name && bytes_eq x.descriptor y.descriptor) h in
    let b = both (bytes_eq x.name y.name) (bytes_eq x.descriptor y.descriptor) a.1 in
    let o = eq_of x.owner.0 y.owner.0 a.0 in
    let n = same_text x.name y.name b.0 in
    let d = same_text x.descriptor y.descriptor b.1 in
    (λ t. record { owner = record { 0 = o t }; name = n t; descriptor = d t })

-- a layout that passes begins with the other
begun : (front fields : List Field) → is_begun_by front fields ≡ true → (own : List Field) × (fields ≡ front ++ own)
unfolding is_begun_by
begun [] fields h = (fields, refl)
begun (x ∷ front) [] h = absurd cc
begun (x ∷ front) (y ∷ fields) h =
    let a = both (is_same_field x y) (is_begun_by front fields) h in
    let r = begun front fields a.1 in
    let e = sym (same_field x y a.0) in
    let f = r.1 in
    (r.0, (λ t. e t ∷ f t))

-- so a built-in class's layout begins with its parent's
pub built_in_begun : (c : ℕ) (k : Class) (p : ClassId) (q : Class) → slice_get built_in_table c ≡ Some k → k.parent ≡ Some p → slice_get built_in_table p.0 ≡ Some q → BeginsWithLayout k q
unfolding begins_in_table
built_in_begun c k p q e f g = begun q.fields k.fields (by k.parent f (each_among begins_in_table built_in_table k built_in_layouts (at_among built_in_table c k e)))
  where
    of : (o : Option Class) → o ≡ Some q → (elim o as (λ _. Bool) [ None ↦ false | Some q ↦ is_begun_by q.fields k.fields ]) ≡ true → is_begun_by q.fields k.fields ≡ true
    of None w h = absurd cc
    of (Some z) w h = subst (λ (y : Class). is_begun_by y.fields k.fields ≡ true) (same_there z q w) h

    by : (o : Option ClassId) → o ≡ Some p → (elim o as (λ _. Bool) [ None ↦ true | Some p ↦ elim (slice_get built_in_table p.0) [ None ↦ false | Some q ↦ is_begun_by q.fields k.fields ] ]) ≡ true
        → is_begun_by q.fields k.fields ≡ true
    by None w h = absurd cc
    by (Some z) w h = of (slice_get built_in_table z.0) (ap (λ (y : ClassId). slice_get built_in_table y.0) (same_there z p w) ∙ g) h

module _ (plan : Plan) (files : List ClassFile) (s : System) (linked : IsLinked plan files s) where
  -- ---- how far the plan's classes climb

  -- they climb in one way
  one_climb : (n m c : ℕ) → Climbs plan files s linked n c → Climbs plan files s linked m c → n ≡ m
  one_climb zero zero c h k = refl
  one_climb zero (suc m) c h k = absurd (omega (arith, h, k.3))
  one_climb (suc n) zero c h k = absurd (omega (arith, k, h.3))
  one_climb (suc n) (suc m) c h k =
      let p : h.0 ≡ k.0 = omega (arith, h.3, k.3) in
      let f = same_there h.1 k.1 (sym h.4 ∙ ap (slice_get files) p ∙ k.4) in
      let q = same_there h.2 k.2 (sym h.5 ∙ ap (λ (x : ClassFile). class_number plan (super_name x)) f ∙ k.5) in
      ap suc (one_climb n m h.2 h.6 (subst (Climbs plan files s linked m) (sym q) k.6))

  -- the plan's classes on the way
  abbrev places : (n c : ℕ) → Climbs plan files s linked n c → List ℕ
  places zero c h = []
  places (suc n) c h = h.0 ∷ places n h.2 h.6

  -- they are as many as the steps
  places_length : (n c : ℕ) (h : Climbs plan files s linked n c) → length (places n c h) ≡ n
  places_length zero c h = refl
  places_length (suc n) c h = ap suc (places_length n h.2 h.6)

  -- each of them is below the files, and climbs
  place_climbs : (n c : ℕ) (h : Climbs plan files s linked n c) (x : ℕ) → Among (places n c h) x → (x < length files) × (m : ℕ) × (m < n) × Climbs plan files s linked (suc m) (built_in_count + x)
  place_climbs zero c h x a = absurd a
  place_climbs (suc n) c h x (inl q) =
      (subst (λ y. y < length files) q (below_length files h.0 h.1 h.4), n, omega arith, subst (λ y. Climbs plan files s linked (suc n) (built_in_count + y)) q (h.0, h.1, h.2, refl, h.4, h.5, h.6))
  place_climbs (suc n) c h x (inr q) = let r = place_climbs n h.2 h.6 x q in (r.0, r.1, omega (arith, r.2), r.3)

  -- and none comes twice
  places_once : (n c : ℕ) (h : Climbs plan files s linked n c) → IsOnce (places n c h)
  places_once zero c h = tt
  places_once (suc n) c h =
      ((λ a. let r = place_climbs n h.2 h.6 h.0 a in clash r.1 (one_climb (suc n) (suc r.1) (built_in_count + h.0) (h.0, h.1, h.2, refl, h.4, h.5, h.6) r.3) r.2), places_once n h.2 h.6)
    where
      clash : (m : ℕ) → suc n ≡ suc m → m < n → ⊥
      clash m e f = omega arith

  -- so no class climbs further than there are files
  no_further : (n c : ℕ) → Climbs plan files s linked n c → n ≤ length files
  no_further n c h =
      omega (
        arith,
        places_length n c h,
        length-range_with_len 0 (length files),
        no_longer (places n c h) (range_with_len 0 (length files)) (places_once n c h) (λ x a. let r = place_climbs n c h x a in in_range 0 (length files) x (omega arith) (omega (arith, r.0))),
      )

  -- ---- layouts

  -- the layout on the way
  abbrev lay : (n c : ℕ) → Climbs plan files s linked n c → List Field
  lay zero c h = elim (slice_get built_in_table c) [ None ↦ [] | Some x ↦ x.fields ]
  lay (suc n) c h = lay n h.2 h.6 ++ own_fields false c h.1

  -- a layout with steps enough is that on the way
  layout_lay : (n j c : ℕ) (h : Climbs plan files s linked n c) → layout_within plan files (suc (n + j)) c ≡ lay n c h
  unfolding layout_within is_built_in
  layout_lay zero j c h = by (nat_lt c built_in_count) ((Decides-ltb c built_in_count).1 h)
    where
      by : (b : Bool) → b ≡ true →
          (elim b as (λ _. List Field) [
            | true ↦ elim (slice_get built_in_table c) [ None ↦ [] | Some x ↦ x.fields ]
            | false ↦ elim (slice_get files (c - built_in_count)) [
              | None ↦ []
              | Some f ↦ elim (class_number plan (super_name f)) as (λ _. List Field) [ None ↦ [] | Some p ↦ layout_within plan files (0 + j) p ] ++ own_fields false c f
            ]
          ]) ≡ lay zero c h
      by true e = refl
      by false e = absurd cc
  layout_lay (suc n) j c h = by (nat_lt c built_in_count) (slice_get files (c - built_in_count)) (λ e. no ((Decides-ltb c built_in_count).0 e)) (ap (slice_get files) place ∙ h.4)
      (ap (λ k. layout_within plan files k h.2) (shift n j) ∙ layout_lay n j h.2 h.6)
    where
      shift : (n j : ℕ) → suc n + j ≡ suc (n + j)
      shift n j = omega arith

      place : c - built_in_count ≡ h.0
      place = omega (arith, h.3)

      no : c < built_in_count → ⊥
      no g = omega (arith, g, h.3)

      named : (o : Option ℕ) (f : ClassFile) → o ≡ Some h.2 → f ≡ h.1 → layout_within plan files (suc n + j) h.2 ≡ lay n h.2 h.6 →
          (elim o as (λ _. List Field) [ None ↦ [] | Some p ↦ layout_within plan files (suc n + j) p ]) ++ own_fields false c f ≡ lay (suc n) c h
      named None f e g r = absurd cc
      named (Some p) f e g r =
          let q = ap (λ k. layout_within plan files (suc n + j) k) (same_there p h.2 e) ∙ r in
          let w = ap (own_fields false c) g in cc

      by : (b : Bool) (o : Option ClassFile) → (b ≡ true → ⊥) → o ≡ Some h.1 → layout_within plan files (suc n + j) h.2 ≡ lay n h.2 h.6 →
          (elim b as (λ _. List Field) [
            | true ↦ elim (slice_get built_in_table c) [ None ↦ [] | Some x ↦ x.fields ]
            | false ↦ elim o [
              | None ↦ []
              | Some f ↦ elim (class_number plan (super_name f)) as (λ _. List Field) [ None ↦ [] | Some p ↦ layout_within plan files (suc n + j) p ] ++ own_fields false c f
            ]
          ]) ≡ lay (suc n) c h
      by true o d e r = absurd (d refl)
      by false None d e r = absurd cc
      by false (Some f) d e r =
          let g = same_there f h.1 e in named (class_number plan (super_name f)) f (ap (λ (x : ClassFile). class_number plan (super_name x)) g ∙ h.5) g r

  -- a class's layout is that on the way
  layout_is : (n c : ℕ) (h : Climbs plan files s linked n c) → layout_of plan files c ≡ lay n c h
  unfolding layout_of
  layout_is n c h = ap (λ k. layout_within plan files k c) (whole (length files) n (no_further n c h)) ∙ layout_lay n (length files - n) c h
    where
      whole : (k n : ℕ) → n ≤ k → k + 1 ≡ suc (n + (k - n))
      whole k n le = omega arith

  -- the layout of a class of a file begins with its parent's
  pub file_begun : (n c : ℕ) (h : Climbs plan files s linked (suc n) c) → layout_of plan files c ≡ layout_of plan files h.2 ++ own_fields false c h.1
  file_begun n c h = layout_is (suc n) c h ∙ ap (λ xs. xs ++ own_fields false c h.1) (sym (layout_is n h.2 h.6))

  -- the fields of a class that climbs are its layout
  pub fields_are : (n c : ℕ) → Climbs plan files s linked n c → (k : Class) → class_at s c ≡ Some k → k.fields ≡ layout_of plan files c
  unfolding class_of_file
  fields_are zero c h k e =
      let b = at_below built_in_table c (omega (arith, built_in_length, h)) in
      let there = class_linked plan files s linked c b.0 (built_in_outlined plan files s linked c h ∙ b.1) in
      ap (λ (x : Class). x.fields) (same_there k _ (sym e ∙ there)) ∙ (meant_alike (outline plan files) files c b.0).fields
      ∙ sym (ap (λ o. elim o as (λ _. List Field) [ None ↦ [] | Some x ↦ x.fields ]) b.1) ∙ sym (layout_is zero c h)
  fields_are (suc n) c h k e =
      let there = file_linked plan files s linked h.0 h.1 h.4 in
      ap (λ (x : Class). x.fields) (same_there k _ (sym e ∙ ap (class_at s) h.3 ∙ there)) ∙ ap (layout_of plan files) (sym h.3)
