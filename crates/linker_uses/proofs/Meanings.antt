-- What constants mean, one after the other, and classes with what their constants mean.
use Rattle.std.proofs.Common.{◌≡◌, ◌∙◌, refl, sym, ap, ℕ, zero, suc, ◌+◌, ◌-◌, ◌<◌, ◌≤◌, Bool, true, false, if◌then◌else◌, List, [], ◌∷◌, ◌++◌, length, map, set, take, get_or, slice_get, Option, Some, None, unwrap_or, arith}
use Rattle.std.proofs.Math.ListN.{get_or-append}
use Rattle.std.proofs.Math.Seq.{get_or-append_seam}
use Rattle.std.proofs.lemmas.Bool.{le-ltb, ltb-false}
use Rattle.std.proofs.lemmas.List.{length-append, length-take-le, map-append}
use Rattle.std.proofs.lemmas.Option.{slice_get-get_or, slice_get_past}
use Rattle.std.specs.Option.{option_map}
use Rattle.jx_base.proofs.BasicLaws.{ap2}
use Rattle.jx_base.specs.declared.program.Class.{Class}
use Rattle.jx_base.specs.declared.program.Resolved.{Resolved}
use Rattle.jx_base.specs.Basics.{contains_number}
use Rattle.jx_base.specs.declared.class_file.ClassFile.{ClassFile}
use Rattle.jx_base.specs.declared.class_file.Constant.{Constant}
use Rattle.jx_base.specs.declared.program.System.{System}
use Rattle.link_model.specs.Linking.{meanings_from, meanings_of, with_meanings}
use Rattle.linker_uses.proofs.UseLists.{taken}
use Rattle.linker_uses.specs.Systems.{with_constants}
use Rattle.linker_uses.specs.Constants.{AreMarked, meaning_where}
use Rattle.program_model.specs.BuiltIn.{built_in_count}
use Rattle.program_model.specs.Lookup.{is_built_in}

module _ (s : System) (f : ClassFile) (used : List ℕ) where
  -- the last constant of some
  last : (i : ℕ) (ks : List Constant) (k : Constant) → meanings_from s f used i (ks ++ k ∷ []) ≡ meanings_from s f used i ks ++ meaning_where s f (contains_number used (i + length ks)) k ∷ []
  unfolding meanings_from
  last i [] k = ap (λ n. meaning_where s f (contains_number used n) k ∷ []) (sum i)
    where
      sum : (i : ℕ) → i ≡ i + 0
      sum i = omega arith
  last i (j ∷ ks) k = ap (λ ms. meaning_where s f (contains_number used i) j ∷ ms) (last (i + 1) ks k ∙ ap (λ n. meanings_from s f used (i + 1) ks ++ meaning_where s f (contains_number used n) k ∷ []) (sum i (length ks)))
    where
      sum : (i n : ℕ) → i + 1 + n ≡ i + suc n
      sum i n = omega arith

  -- the meaning of the next constant
  pub next_meaning : (ks : List Constant) (i : ℕ) (k : Constant) (marks : List Bool) → i < length ks → k ≡ get_or ks i k → AreMarked used (length ks) marks
      → meanings_from s f used 0 (take (i + 1) ks) ≡ meanings_from s f used 0 (take i ks) ++ meaning_where s f (get_or marks i false) k ∷ []
  next_meaning ks i k marks less is marked =
      ap (meanings_from s f used 0) (taken ks i k less is) ∙ last 0 (take i ks) k
      ∙ ap (λ b. meanings_from s f used 0 (take i ks) ++ meaning_where s f b k ∷ [])
      (ap (contains_number used) (omega (arith, length-take-le i ks (omega arith))) ∙ sym (marked.marked i less))

  -- no constants mean nothing
  pub no_constants : (i : ℕ) → [] ≡ meanings_from s f used i []
  unfolding meanings_from
  no_constants i = refl

-- ---- classes

module _ (s : System) where
  -- a class with what its constants mean, if it is of a file
  abbrev meant : Bool → Option ClassFile → Class → Class
  meant b o k = if b then k else unwrap_or (option_map (λ f. record k { constants = meanings_of s f }) o) k

  -- the first class, and the others
  first_class : (fs : List ClassFile) (c : ℕ) (k : Class) (ks : List Class) → with_meanings s fs c (k ∷ ks) ≡ meant (is_built_in c) (slice_get fs (c - built_in_count)) k ∷ with_meanings s fs (c + 1) ks
  unfolding with_meanings
  first_class fs c k ks = refl

  -- no classes
  no_classes : (fs : List ClassFile) (c : ℕ) → with_meanings s fs c [] ≡ []
  unfolding with_meanings
  no_classes fs c = refl

  -- of no files the classes stay as they are
  pub no_files : (c : ℕ) (ks : List Class) → with_meanings s [] c ks ≡ ks
  no_files c [] = no_classes [] c
  no_files c (k ∷ ks) = first_class [] c k ks ∙ ap2 (λ x xs. x ∷ xs) (by (is_built_in c)) (no_files (c + 1) ks)
    where
      by : (b : Bool) → meant b None k ≡ k
      by true = refl
      by false = refl

  module _ (fs : List ClassFile) (f : ClassFile) where
    -- the files before the last one
    before : (i : ℕ) → i < length fs → slice_get (fs ++ f ∷ []) i ≡ slice_get fs i
    before i h =
        slice_get-get_or (fs ++ f ∷ []) i f (omega (arith, h, length-append fs (f ∷ []))) ∙ ap Some (get_or-append fs (f ∷ []) f i h)
        ∙ sym (slice_get-get_or fs i f h)

    -- the last one
    last_file : slice_get (fs ++ f ∷ []) (length fs) ≡ Some f
    last_file = slice_get-get_or (fs ++ f ∷ []) (length fs) f (omega (arith, length-append fs (f ∷ []))) ∙ ap Some (get_or-append_seam fs f [] f)

    -- the classes behind are not touched
    behind : (c : ℕ) (ks : List Class) → 27 + length fs < c → with_meanings s (fs ++ f ∷ []) c ks ≡ with_meanings s fs c ks
    unfolding built_in_count
    behind c [] h = no_classes (fs ++ f ∷ []) c ∙ sym (no_classes fs c)
    behind c (k ∷ ks) h =
        first_class (fs ++ f ∷ []) c k ks
        ∙ ap2 (λ o xs. meant (is_built_in c) o k ∷ xs)
        (slice_get_past (fs ++ f ∷ []) (c - 27) (omega (arith, h, length-append fs (f ∷ []))) ∙ sym (slice_get_past fs (c - 27) (omega (arith, h))))
        (behind (c + 1) ks (omega (arith, h)))
        ∙ sym (first_class fs c k ks)

    -- a number behind those of the built-in classes
    not_built_in : (c : ℕ) → 27 ≤ c → is_built_in c ≡ false
    unfolding is_built_in built_in_count
    not_built_in c h = le-ltb c 27 h

    -- one that isn't built in is behind those
    behind_built_in : (c : ℕ) → is_built_in c ≡ false → 27 ≤ c
    unfolding is_built_in built_in_count
    behind_built_in c e = ltb-false c 27 e

    -- the class of the last file is given what its constants mean
    pub give_last : (c j : ℕ) (ks : List Class) → c + j ≡ 27 + length fs → with_meanings s fs c (with_constants ks j (meanings_of s f)) ≡ with_meanings s (fs ++ f ∷ []) c ks
    unfolding built_in_count
    give_last c j [] h = no_classes fs c ∙ sym (no_classes (fs ++ f ∷ []) c)
    give_last c zero (k ∷ ks) h =
        let at : c - 27 ≡ length fs = omega (arith, h) in
        let own = not_built_in c (omega (arith, h)) in
        first_class fs c (record k { constants = meanings_of s f }) ks
        ∙ ap2 (λ b o. meant b o (record k { constants = meanings_of s f }) ∷ with_meanings s fs (c + 1) ks) own (slice_get_past fs (c - 27) (omega (arith, at)))
        ∙ ap (λ xs. record k { constants = meanings_of s f } ∷ xs) (sym (behind (c + 1) ks (omega (arith, h))))
        ∙ sym (first_class (fs ++ f ∷ []) c k ks
        ∙ ap2 (λ b o. meant b o k ∷ with_meanings s (fs ++ f ∷ []) (c + 1) ks) own (ap (slice_get (fs ++ f ∷ [])) at ∙ last_file))
    give_last c (suc j) (k ∷ ks) h =
        first_class fs c k (with_constants ks j (meanings_of s f))
        ∙ ap2 (λ x xs. x ∷ xs) (by (is_built_in c) refl) (give_last (c + 1) j ks (omega (arith, h)))
        ∙ sym (first_class (fs ++ f ∷ []) c k ks)
      where
        front : is_built_in c ≡ false → c - 27 < length fs
        front e = omega (arith, h, behind_built_in c e)

        by : (b : Bool) → is_built_in c ≡ b → meant b (slice_get fs (c - 27)) k ≡ meant b (slice_get (fs ++ f ∷ []) (c - 27)) k
        by true e = refl
        by false e = ap (λ o. meant false o k) (sym (before (c - 27) (front e)))

-- an item that is there
item : {A : Type 0} (xs : List A) (i : ℕ) → i < length xs → (x : A) × (x ≡ get_or xs i x)
item [] i h = absurd (omega arith)
item (x ∷ xs) zero h = (x, refl)
item (x ∷ xs) (suc i) h = item xs i (omega arith)

-- equal lists with a last item each
same_ends : {A : Type 0} (xs ys : List A) (x y : A) → xs ++ x ∷ [] ≡ ys ++ y ∷ [] → (xs ≡ ys) × (x ≡ y)
same_ends [] [] x y e = (refl, cc)
same_ends [] (b ∷ ys) x y e = absurd (omega (arith, ap length e, length-append ys (y ∷ [])))
same_ends (a ∷ xs) [] x y e = absurd (omega (arith, ap length e, length-append xs (x ∷ [])))
same_ends (a ∷ xs) (b ∷ ys) x y e =
    let tails : xs ++ x ∷ [] ≡ ys ++ y ∷ [] = cc in
    let heads : a ≡ b = cc in
    let r = same_ends xs ys x y tails in
    (ap2 (λ z zs. z ∷ zs) heads r.0, r.1)

module _ (s : System) (files : List ClassFile) (meanings left : List (List Resolved)) (constants : List Resolved) (classes : List Class)
    (cut : meanings ≡ left ++ constants ∷ []) (are : meanings ≡ map (meanings_of s) (take (length meanings) files)) (few : length meanings ≤ length files) where
  -- how many are left
  pub counted : length meanings ≡ length left + 1
  counted = omega (arith, ap length cut, length-append left (constants ∷ []))

  -- there is a file for each
  pub within : length left < length files
  within = omega (arith, counted, few)

  -- the file of the last one
  abbrev last_of : ClassFile
  last_of = (item files (length left) within).0

  -- the files with meanings, the last one apart
  front_files : take (length meanings) files ≡ take (length left) files ++ last_of ∷ []
  front_files = ap (λ n. take n files) counted ∙ taken files (length left) last_of within (item files (length left) within).1

  -- what is left, and the last one
  ends : (left ≡ map (meanings_of s) (take (length left) files)) × (constants ≡ meanings_of s last_of)
  ends =
      same_ends left (map (meanings_of s) (take (length left) files)) constants (meanings_of s last_of)
      (sym cut ∙ are ∙ ap (map (meanings_of s)) front_files ∙ map-append (meanings_of s) (take (length left) files) (last_of ∷ []))

  -- the others are those of the files before
  pub left_are : left ≡ map (meanings_of s) (take (length left) files)
  left_are = ends.0

  -- a class more is given its own
  pub given_more : with_meanings s (take (length left) files) 0 (with_constants classes (27 + length left) constants) ≡ with_meanings s (take (length meanings) files) 0 classes
  given_more =
      ap (λ ms. with_meanings s (take (length left) files) 0 (with_constants classes (27 + length left) ms)) ends.1
      ∙ give_last s (take (length left) files) last_of 0 (27 + length left) classes (omega (arith, within, length-take-le (length left) files (omega (arith, within))))
      ∙ ap (λ fs. with_meanings s fs 0 classes) (sym front_files)

-- ---- the class that is given

-- where it is there
pub given : (ks : List Class) (n : ℕ) (constants : List Resolved) (k : Class) → n < length ks → k ≡ get_or ks n k → set ks n (record k { constants = constants }) ≡ with_constants ks n constants
given [] n constants k h e = absurd (omega arith)
given (x ∷ ks) zero constants k h e = ap (λ (z : Class). record z { constants = constants } ∷ ks) e
given (x ∷ ks) (suc n) constants k h e = ap (λ zs. x ∷ zs) (given ks n constants k (omega arith) e)

-- and where it isn't
pub not_given : (ks : List Class) (n : ℕ) (constants : List Resolved) → length ks ≤ n → ks ≡ with_constants ks n constants
not_given [] n constants h = refl
not_given (x ∷ ks) zero constants h = absurd (omega arith)
not_given (x ∷ ks) (suc n) constants h = ap (λ zs. x ∷ zs) (not_given ks n constants (omega arith))
