-- From each class of a linked system the supers lead up to java/lang/Object.
use Rattle.std.proofs.Common.{◌≡◌, ◌≢◌, ℕ, zero, suc, ◌+◌, ◌-◌, ◌<◌, ◌≤◌, ◌⊎◌, inl, inr, Bool, true, ◌&&◌, List, [], ◌∷◌, ◌++◌, length, map, Option, Some, None, slice_get, get_or, refl, sym, ap, ◌∙◌, subst, append-nil, length-append, arith, ltb-true}
use Rattle.std.specs.Prelude.{◌==◌, nat_lt, flat_map, AllPairs}
use Rattle.std.specs.List.{range_with_len}
use Rattle.std.proofs.lemmas.List.FromFn.{length-range_with_len}
use Rattle.std.proofs.lemmas.Option.{slice_get-get_or}
use Rattle.jx_base.specs.declared.class_file.ClassFile.{ClassFile}
use Rattle.jx_base.specs.declared.ids.ClassId.{ClassId}
use Rattle.jx_base.specs.declared.program.Class.{Class}
use Rattle.jx_base.specs.declared.program.Plan.{Plan}
use Rattle.jx_base.specs.declared.program.System.{System}
use Rattle.program_model.specs.BuiltIn.{built_in_table, built_in_count, object_class, array_class, class_below, built_in_class, opened_built_in}
use Rattle.link_model.specs.ClassFiles.{super_name}
use Rattle.link_model.specs.LinkFaults.{IsLinked}
use Rattle.link_model.specs.Linking.{outline, class_number, class_id, class_of_file, array_class_named, linked_classes, classes_from, array_names}
use Rattle.program_model.specs.Lookup.{class_at, class_count, chain_of, chain_within, parent_list}
use Rattle.jx_base.proofs.BasicLaws.{both, eq_of}
use Rattle.link_laws.proofs.Above.{no_longer}
use Rattle.link_laws.proofs.Classes.{built_in_length}
use Rattle.link_laws.proofs.Climbs.{Climbs, climbs, some_built_in}
use Rattle.link_laws.proofs.Lists.{Among, IsOnce, at_front, at_below, below_length, one_place, same_there, in_range}
use Rattle.link_laws.proofs.Origins.{IsOutlined, IsBuiltIn, IsOfFile, IsOfArray, is_outlined, class_linked, class_outlined, meant_of, meant_alike, file_linked}
use Rattle.std.specs.Option.{option_map}

-- ---- the built-in classes

-- whether a parent stands before place c, and only the first class has none
unfoldable parent_before : ℕ → Option ClassId → Bool
parent_before c None = c == 0
parent_before c (Some p) = nat_lt p.0 c

-- whether all parents stand before their classes, the first of which has number c
unfoldable parents_before : ℕ → List Class → Bool
parents_before c [] = true
parents_before c (k ∷ ks) = parent_before c k.parent && parents_before (c + 1) ks

-- so it is of the built-in classes
built_in_parents : parents_before 0 built_in_table ≡ true
unfolding parents_before parent_before opened_built_in
built_in_parents = refl

-- the parent of a class of a list that passes
parent_at : (c : ℕ) (ks : List Class) (i : ℕ) (k : Class) → parents_before c ks ≡ true → slice_get ks i ≡ Some k → parent_before (c + i) k.parent ≡ true
unfolding parents_before
parent_at c [] i k h e = absurd cc
parent_at c (x ∷ ks) zero k h e = ap (λ n. parent_before n k.parent) (omega arith) ∙ ap (λ (y : Class). parent_before c y.parent) (sym (same_there x k e)) ∙ (both (parent_before c x.parent) (parents_before (c + 1) ks) h).0
parent_at c (x ∷ ks) (suc i) k h e = ap (λ n. parent_before n k.parent) (omega arith) ∙ parent_at (c + 1) ks i k (both (parent_before c x.parent) (parents_before (c + 1) ks) h).1 e

-- the parent of a built-in class stands before it; the first one has none
pub built_in_parent : (c : ℕ) (k : Class) → slice_get built_in_table c ≡ Some k → ((k.parent ≡ None) × (c ≡ 0)) ⊎ ((p : ClassId) × (k.parent ≡ Some p) × (p.0 < c))
unfolding parent_before
built_in_parent c k e = by k.parent refl (ap (λ n. parent_before n k.parent) (omega arith) ∙ parent_at 0 built_in_table c k built_in_parents e)
  where
    by : (o : Option ClassId) → k.parent ≡ o → parent_before c o ≡ true → ((k.parent ≡ None) × (c ≡ 0)) ⊎ ((p : ClassId) × (k.parent ≡ Some p) × (p.0 < c))
    by None q h = inl (q, eq_of c 0 h)
    by (Some p) q h = inr (p, q, ltb-true p.0 c h)

-- the parent of an array class
pub array_parent : (name : List ℕ) → (array_class_named name).parent ≡ Some (record { 0 = 0 })
unfolding array_class_named array_class class_below built_in_class object_class
array_parent [] = refl
array_parent (u ∷ units) = refl

module _ (plan : Plan) (files : List ClassFile) (s : System) (linked : IsLinked plan files s) where
  -- a built-in class is one of the outline
  pub built_in_outlined : (c : ℕ) → c < built_in_count → class_at (outline plan files) c ≡ slice_get built_in_table c
  unfolding class_at outline linked_classes
  built_in_outlined c h =
      at_front (built_in_table ++ classes_from plan files built_in_count files) (map array_class_named (array_names plan files)) c
      (omega (arith, length-append built_in_table (classes_from plan files built_in_count files), built_in_length, h))
      ∙ at_front built_in_table (classes_from plan files built_in_count files) c (omega (arith, built_in_length, h))

  -- ---- rising

  -- so many steps lead from class c to java/lang/Object
  abbrev pub Rises : ℕ → ℕ → Type 0
  Rises zero c = (k : Class) × (class_at s c ≡ Some k) × (k.parent ≡ None) × (c ≡ 0)
  Rises (suc n) c = (k : Class) × (p : ClassId) × (class_at s c ≡ Some k) × (k.parent ≡ Some p) × Rises n p.0

  -- there is one number of steps
  pub one_rise : (n m c : ℕ) → Rises n c → Rises m c → n ≡ m
  one_rise zero zero c h k = refl
  one_rise zero (suc m) c h k = absurd (clash h.0 k.0 h.1 k.2 h.2 k.3)
    where
      clash : (x y : Class) → class_at s c ≡ Some x → class_at s c ≡ Some y → x.parent ≡ None → y.parent ≡ Some k.1 → ⊥
      clash x y e f a b = let q = ap (λ (z : Class). z.parent) (same_there x y (sym e ∙ f)) in cc
  one_rise (suc n) zero c h k = absurd (clash h.0 k.0 h.2 k.1 h.3 k.2)
    where
      clash : (x y : Class) → class_at s c ≡ Some x → class_at s c ≡ Some y → x.parent ≡ Some h.1 → y.parent ≡ None → ⊥
      clash x y e f a b = let q = ap (λ (z : Class). z.parent) (same_there x y (sym e ∙ f)) in cc
  one_rise (suc n) (suc m) c h k = ap suc (one_rise n m h.1.0 h.4 (subst (λ (p : ClassId). Rises m p.0) (sym (same h.0 k.0 h.2 k.2 h.3 k.3)) k.4))
    where
      same : (x y : Class) → class_at s c ≡ Some x → class_at s c ≡ Some y → x.parent ≡ Some h.1 → y.parent ≡ Some k.1 → h.1 ≡ k.1
      same x y e f a b = let q = ap (λ (z : Class). z.parent) (same_there x y (sym e ∙ f)) in same_there h.1 k.1 (sym a ∙ q ∙ b)

  -- each built-in class rises
  rises_built_in : (b c : ℕ) → c < b → c < built_in_count → (n : ℕ) × Rises n c
  rises_built_in zero c h small = absurd (omega (arith, h))
  rises_built_in (suc b) c h small =
      let k = at_below built_in_table c (omega (arith, built_in_length, small)) in
      let there = class_linked plan files s linked c k.0 (built_in_outlined c small ∙ k.1) in
      let same = (meant_alike (outline plan files) files c k.0).parent in
      elim (built_in_parent c k.0 k.1) [
        | inl q ↦ (0, (meant_of (outline plan files) files c k.0, there, same ∙ q.0, q.1))
        | inr q ↦
            let r = rises_built_in b q.0.0 (omega (arith, q.2, h)) (omega (arith, q.2, small)) in
            (suc r.0, (meant_of (outline plan files) files c k.0, q.0, there, same ∙ q.1, r.1))
      ]

  -- the parent of the class of a file
  pub file_parent : (p q : ℕ) (f : ClassFile) → slice_get files p ≡ Some f → class_number plan (super_name f) ≡ Some q →
      (k : Class) × (class_at s (built_in_count + p) ≡ Some k) × (k.parent ≡ Some (record { 0 = q }))
  unfolding class_of_file class_id
  file_parent p q f e n = (_, file_linked plan files s linked p f e, ap (option_map (λ c. record { 0 = c })) n)

  -- each class from which the plan's classes climb rises
  rises_climbing : (n c : ℕ) → Climbs plan files s linked n c → (m : ℕ) × Rises m c
  rises_climbing zero c h = rises_built_in (suc c) c (omega arith) h
  rises_climbing (suc n) c h =
      let r = rises_climbing n h.2 h.6 in
      let k = file_parent h.0 h.2 h.1 h.4 h.5 in
      (suc r.0, (k.0, record { 0 = h.2 }, ap (class_at s) h.3 ∙ k.1, k.2, r.1))

  -- each class rises
  pub rises : (c : ℕ) (k : Class) → class_at s c ≡ Some k → (n : ℕ) × Rises n c
  unfolding class_at outline
  rises c k e = let r = class_outlined plan files s linked c k e in by r.0 r.2 (is_outlined plan files c r.0 r.1)
    where
      by : (h : Class) → k ≡ meant_of (outline plan files) files c h → IsOutlined plan files c h → (n : ℕ) × Rises n c
      by h q (IsBuiltIn small w) = rises_built_in (suc c) c (omega arith) small
      by h q (IsOfFile p f i w g) = let r = climbs plan files s linked p f w in rises_climbing r.0 c (subst (Climbs plan files s linked r.0) (sym i) r.1)
      by h q (IsOfArray j name i w g) =
          let r = rises_built_in 1 0 (omega arith) some_built_in in
          (suc r.0, (k, record { 0 = 0 }, e, ap (λ (x : Class). x.parent) q ∙ (meant_alike (outline plan files) files c h).parent ∙ ap (λ (x : Class). x.parent) g ∙ array_parent name, r.1))

  -- ---- chains

  -- the classes on the way up
  abbrev pub path : (n c : ℕ) → Rises n c → List ℕ
  path zero c h = c ∷ []
  path (suc n) c h = c ∷ path n h.1.0 h.4

  -- a step of a chain
  chain_step : (m c : ℕ) (k : Class) → class_at s c ≡ Some k → chain_within s (suc m) c ≡ c ∷ flat_map (chain_within s m) (parent_list k.parent)
  unfolding chain_within
  chain_step m c k e = by (class_at s c) e
    where
      by : (o : Option Class) → o ≡ Some k → (elim o as (λ _. List ℕ) [ None ↦ [] | Some x ↦ c ∷ flat_map (chain_within s m) (parent_list x.parent) ]) ≡ c ∷ flat_map (chain_within s m) (parent_list k.parent)
      by None q = absurd cc
      by (Some x) q = ap (λ (y : Class). c ∷ flat_map (chain_within s m) (parent_list y.parent)) (same_there x k q)

  -- a chain with steps enough is the way up
  chain_path : (n j c : ℕ) (h : Rises n c) → chain_within s (suc (n + j)) c ≡ path n c h
  unfolding parent_list
  chain_path zero j c h = chain_step (0 + j) c h.0 h.1 ∙ ap (λ o. c ∷ flat_map (chain_within s (0 + j)) (parent_list o)) h.2
  chain_path (suc n) j c h =
      chain_step (suc n + j) c h.0 h.2 ∙ ap (λ o. c ∷ flat_map (chain_within s (suc n + j)) (parent_list o)) h.3
      ∙ ap (λ xs. c ∷ xs) (append-nil (chain_within s (suc n + j) h.1.0) ∙ ap (λ k. chain_within s k h.1.0) (shift n j) ∙ chain_path n j h.1.0 h.4)
    where
      shift : (n j : ℕ) → suc n + j ≡ suc (n + j)
      shift n j = omega arith

  -- each class on the way up rises by no more steps
  path_rises : (n c : ℕ) (h : Rises n c) (x : ℕ) → Among (path n c h) x → (m : ℕ) × (m ≤ n) × Rises m x
  path_rises zero c h x (inl q) = (0, omega arith, subst (Rises zero) q h)
  path_rises zero c h x (inr q) = absurd q
  path_rises (suc n) c h x (inl q) = (suc n, omega arith, subst (Rises (suc n)) q h)
  path_rises (suc n) c h x (inr q) = let r = path_rises n h.1.0 h.4 x q in (r.0, omega (arith, r.1), r.2)

  -- so none comes twice
  path_once : (n c : ℕ) (h : Rises n c) → IsOnce (path n c h)
  path_once zero c h = ((λ a. a), tt)
  path_once (suc n) c h = ((λ a. let r = path_rises n h.1.0 h.4 c a in clash r.0 (one_rise (suc n) r.0 c h r.2) r.1), path_once n h.1.0 h.4)
    where
      clash : (m : ℕ) → suc n ≡ m → m ≤ n → ⊥
      clash m e f = omega arith

  -- it has one class more than steps
  path_length : (n c : ℕ) (h : Rises n c) → length (path n c h) ≡ suc n
  path_length zero c h = refl
  path_length (suc n) c h = ap suc (path_length n h.1.0 h.4)

  -- the last one is java/lang/Object
  path_ends : (n c : ℕ) (h : Rises n c) → (front : List ℕ) × (path n c h ≡ front ++ object_class ∷ [])
  unfolding object_class
  path_ends zero c h = ([], ap (λ x. x ∷ []) h.3)
  path_ends (suc n) c h = let r = path_ends n h.1.0 h.4 in (c ∷ r.0, ap (λ xs. c ∷ xs) r.1)

  -- a class that rises is a class
  pub rising_class : (n c : ℕ) → Rises n c → c < class_count s
  unfolding class_count class_at
  rising_class zero c h = below_length s.program.classes c h.0 h.1
  rising_class (suc n) c h = below_length s.program.classes c h.0 h.2

  -- there are steps enough in a chain
  enough : (n c : ℕ) → Rises n c → suc n ≤ class_count s
  enough n c h =
      omega (
        arith,
        path_length n c h,
        length-range_with_len 0 (class_count s),
        no_longer (path n c h) (range_with_len 0 (class_count s)) (path_once n c h) (λ x a. let r = path_rises n c h x a in in_range 0 (class_count s) x (omega arith) (omega (arith, rising_class r.0 x r.2))),
      )

  -- a class's chain is its way up
  pub chain_is : (n c : ℕ) (h : Rises n c) → chain_of s c ≡ path n c h
  unfolding chain_of
  chain_is n c h = ap (λ k. chain_within s k c) (whole (class_count s) n (enough n c h)) ∙ chain_path n (class_count s - suc n) c h
    where
      whole : (k n : ℕ) → suc n ≤ k → k ≡ suc (n + (k - suc n))
      whole k n le = omega arith

  -- a class's chain is the class and its parent's chain
  pub chain_grows : (n c : ℕ) (h : Rises n c) (k : Class) → class_at s c ≡ Some k → chain_of s c ≡ c ∷ flat_map (chain_of s) (parent_list k.parent)
  unfolding parent_list
  chain_grows zero c h k e = chain_is zero c h ∙ ap (λ o. c ∷ flat_map (chain_of s) (parent_list o)) (sym h.2 ∙ ap (λ (x : Class). x.parent) (same_there h.0 k (sym h.1 ∙ e)))
  chain_grows (suc n) c h k e =
      chain_is (suc n) c h ∙ ap (λ xs. c ∷ xs) (sym (chain_is n h.1.0 h.4) ∙ sym (append-nil (chain_of s h.1.0)))
      ∙ ap (λ o. c ∷ flat_map (chain_of s) (parent_list o)) (sym h.3 ∙ ap (λ (x : Class). x.parent) (same_there h.0 k (sym h.2 ∙ e)))

  -- no class comes twice in a list without repeats
  apart_places : (xs : List ℕ) → IsOnce xs → AllPairs (λ a b. a ≢ b) xs
  apart_places xs once i j d less small same =
      let q = one_place xs once i j (get_or xs j d) (slice_get-get_or xs i d (omega (arith, less, small)) ∙ ap Some same) (slice_get-get_or xs j d small) in
      omega (arith, less, q)

  -- what a class's chain is
  pub chain_ends : (n c : ℕ) → Rises n c → (front : List ℕ) × (chain_of s c ≡ front ++ object_class ∷ [])
  chain_ends n c h = let r = path_ends n c h in (r.0, chain_is n c h ∙ r.1)

  -- and no class comes twice
  pub chain_once : (n c : ℕ) → Rises n c → AllPairs (λ a b. a ≢ b) (chain_of s c)
  chain_once n c h = subst (AllPairs (λ a b. a ≢ b)) (sym (chain_is n c h)) (apart_places (path n c h) (path_once n c h))
