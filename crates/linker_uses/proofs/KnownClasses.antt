-- Which classes are known, by the parts of their names.
use Rattle.std.proofs.Common.{◌≡◌, ◌∙◌, refl, sym, ap, ℕ, zero, suc, ◌+◌, ◌-◌, ◌<◌, ◌≤◌, ◌==◌, ◌||◌, ◌&&◌, Bool, true, false, true≢false, cond, not, nat_lt, List, [], ◌∷◌, ◌++◌, length, map, reverse, Some, None, take, drop, get_or, position, arith}
use Rattle.std.proofs.Math.Seq.{split_at}
use Rattle.std.proofs.lemmas.Bool.{eqb-false, eqb-true, le-ltb, ltb-false, ltb-true}
use Rattle.std.proofs.lemmas.List.{drop_all, reverse-append, reverse-reverse, length-append, length-drop, take_all}
use Rattle.std.specs.Cmp.Lexicographic.{bytes_decides, nat_list_eq_equiv}
use Rattle.std.specs.List.{list_any, position_or_len}
use Rattle.std.specs.Str.{bytes_eq}
use Rattle.jx_base.specs.Basics.{has_text}
use Rattle.jx_base.specs.declared.program.Class.{Class}
use Rattle.jx_base.specs.declared.program.Plan.{Plan}
use Rattle.jx_base.specs.declared.program.System.{System}
use Rattle.jx_base.specs.declared.program.Template.{Template}
use Rattle.link_model.specs.LinkFaults.{dimensions_of, is_known, is_known_plain, is_known_type}
use Rattle.jx_base.proofs.BasicLaws.{ap2}
use Rattle.linker_outline.proofs.ArrayNames.{not_same}
use Rattle.linker_outline.proofs.Layouts.{few_built_in}
use Rattle.linker_uses.specs.BuiltInFirst.{HasBuiltIns}
use Rattle.program_model.specs.BuiltIn.{built_in_count, built_in_table}
use Rattle.program_model.specs.Lookup.{class_name_of_type, class_named}
use Rattle.program_model.specs.Types.{innermost_type, is_number_type}

-- ---- arrays

-- the innermost type stands behind the dimensions
innermost : (name : List ℕ) → innermost_type name ≡ drop (dimensions_of name) name
unfolding innermost_type dimensions_of
innermost [] = refl
innermost (u ∷ units) = by (u == 91) (innermost units)
  where
    by : (b : Bool) → innermost_type units ≡ drop (dimensions_of units) units
        → elim b [ true ↦ innermost_type units | false ↦ u ∷ units ] ≡ drop (elim b [ true ↦ suc (dimensions_of units) | false ↦ 0 ]) (u ∷ units)
    by true again = again
    by false again = refl

-- an array is known by its innermost type
pub known_array : (plan : Plan) (t : Template) (name : List ℕ) (n : ℕ) → n ≡ dimensions_of name → (n ≡ 0 → ⊥) → is_known_type plan t (take (length name - n) (drop n name)) ≡ is_known plan t name
unfolding is_known
known_array plan t name n e h =
    ap (is_known_type plan t) (take_all (length name - n) (drop n name) (omega (arith, length-drop n name)))
    ∙ ap (λ m. is_known_type plan t (drop m name)) e ∙ ap (is_known_type plan t) (sym (innermost name))
    ∙ ap (λ b. cond b (is_known_plain plan t name) (is_known_type plan t (innermost_type name))) (sym (not_same n 0 h) ∙ ap (λ m. m == 0) e)

-- ---- types

-- a test that cannot pass
fails : (b : Bool) → (b ≡ true → ⊥) → false ≡ b
fails true h = absurd (h refl)
fails false h = refl

-- a type of two units and more is no number's
no_number : (u v : ℕ) (mid : List ℕ) → is_number_type (u ∷ mid ++ v ∷ []) ≡ false
unfolding is_number_type
no_number u v [] = refl
no_number u v (m ∷ mid) = refl

-- the name in the type of a class
name_inside : (mid : List ℕ) (v : ℕ) → class_name_of_type (76 ∷ mid ++ v ∷ []) ≡ mid
unfolding class_name_of_type
name_inside mid v = ap (λ xs. reverse (drop 1 xs)) (reverse-append mid (v ∷ [])) ∙ reverse-reverse mid

-- the last unit of equal texts
same_last : (mid : List ℕ) (v w : ℕ) → mid ++ v ∷ [] ≡ mid ++ w ∷ [] → v ≡ w
same_last [] v w e = cc
same_last (m ∷ mid) v w e = let k : mid ++ v ∷ [] ≡ mid ++ w ∷ [] = cc in same_last mid v w k

-- equal numbers
equal : (m n : ℕ) → (m == n) ≡ true → m ≡ n
equal m n h = eqb-true m n h

-- and others
differ : (m n : ℕ) → (m == n) ≡ false → m ≡ n → ⊥
differ m n h e = eqb-false m n h e

-- a test, or another one that fails
or_fails : (b : Bool) → b ≡ b || false
or_fails true = refl
or_fails false = refl

-- a list of two items and more, by its first, its last, and those between
split : (kind : List ℕ) → 2 ≤ length kind → kind ≡ get_or kind 0 0 ∷ take (length kind - 1 - 1) (drop 1 kind) ++ get_or kind (length kind - 1) 0 ∷ []
split [] h = absurd (omega arith)
split (u ∷ us) h =
    let j = length us - 1 in
    let cut = split_at us j 0 (omega arith) in
    let none : drop (suc j) us ≡ [] = drop_all (suc j) us (omega arith) in
    let inner : j ≡ length (u ∷ us) - 1 - 1 = omega arith in
    let last : suc j ≡ length (u ∷ us) - 1 = omega arith in
    ap (λ xs. u ∷ xs) (cut ∙ ap (λ xs. take j us ++ get_or us j 0 ∷ xs) none
    ∙ ap (λ n. take n us ++ get_or us j 0 ∷ []) inner
    ∙ ap (λ n. take (length (u ∷ us) - 1 - 1) us ++ get_or (u ∷ us) n 0 ∷ []) last)

module _ (plan : Plan) (t : Template) where
  -- the type of a class
  class_type : (mid : List ℕ) → is_known_plain plan t mid ≡ is_known_type plan t (76 ∷ mid ++ 59 ∷ [])
  unfolding is_known_type
  class_type mid = sym (rw (no_number 76 59 mid, name_inside mid 59, (bytes_decides (76 ∷ mid ++ 59 ∷ []) (76 ∷ mid ++ 59 ∷ [])).1 refl) refl)

  -- what is no class's type
  no_class : (kind : List ℕ) → (kind ≡ 76 ∷ class_name_of_type kind ++ 59 ∷ [] → ⊥) → is_number_type kind ≡ is_known_type plan t kind
  unfolding is_known_type
  no_class kind h =
      or_fails (is_number_type kind)
      ∙ ap (λ b. is_number_type kind || (b && is_known_plain plan t (class_name_of_type kind)))
      (fails (bytes_eq kind (76 ∷ class_name_of_type kind ++ 59 ∷ [])) (λ e. h ((bytes_decides kind (76 ∷ class_name_of_type kind ++ 59 ∷ [])).0 e)))

  -- what has no two units
  pub short : (kind : List ℕ) → length kind < 2 → is_number_type kind ≡ is_known_type plan t kind
  short kind h = no_class kind (λ e. omega (arith, ap length e, length-append (76 ∷ class_name_of_type kind) (59 ∷ [])))

  module _ (kind : List ℕ) (long : 2 ≤ length kind) where
    -- the first unit, the last one, and those between
    abbrev pub first : ℕ
    first = get_or kind 0 0

    abbrev pub last : ℕ
    last = get_or kind (length kind - 1) 0

    abbrev pub inside : List ℕ
    inside = take (length kind - 1 - 1) (drop 1 kind)

    -- it is no number's
    long_type : is_number_type kind ≡ false
    long_type = ap is_number_type (split kind long) ∙ no_number first last inside

    -- the type of a class is that of the name between its ends
    class_inside : (first == 76) ≡ true → (last == 59) ≡ true → is_known_plain plan t inside ≡ is_known_type plan t kind
    class_inside b e =
        class_type inside
        ∙ ap (is_known_type plan t) (sym (split kind long ∙ ap2 (λ u v. u ∷ inside ++ v ∷ []) (equal first 76 b) (equal last 59 e)))

    -- a type with other ends is not known
    other : (kind ≡ 76 ∷ class_name_of_type kind ++ 59 ∷ [] → ⊥) → false ≡ is_known_type plan t kind
    other h = sym long_type ∙ no_class kind h

    -- a type that begins otherwise
    other_start : (first == 76) ≡ false → false ≡ is_known_type plan t kind
    other_start b = other (λ e. differ first 76 b (ap (λ xs. get_or xs 0 0) e))

    -- or that ends otherwise
    other_end : (first == 76) ≡ true → (last == 59) ≡ false → false ≡ is_known_type plan t kind
    other_end b h = other (λ e.
        let parts : kind ≡ 76 ∷ inside ++ last ∷ [] = split kind long ∙ ap (λ u. u ∷ inside ++ last ∷ []) (equal first 76 b) in
        let name : class_name_of_type kind ≡ inside = ap class_name_of_type parts ∙ name_inside inside last in
        let both : 76 ∷ inside ++ last ∷ [] ≡ 76 ∷ inside ++ 59 ∷ [] = sym parts ∙ e ∙ ap (λ xs. 76 ∷ xs ++ 59 ∷ []) name in
        differ last 59 h (same_last (76 ∷ inside) last 59 both))

    -- a type of two units and more, by its ends
    pub two_ended : (b : Bool) → b ≡ (first == 76) && (last == 59) → cond b (is_known_plain plan t inside) false ≡ is_known_type plan t kind
    two_ended b h = by (first == 76) (last == 59) refl refl b h
      where
        by : (x y : Bool) → (first == 76) ≡ x → (last == 59) ≡ y → (b : Bool) → b ≡ x && y → cond b (is_known_plain plan t inside) false ≡ is_known_type plan t kind
        by true true p q true h = class_inside p q
        by true true p q false h = absurd (true≢false (sym h))
        by true false p q true h = absurd (true≢false h)
        by true false p q false h = other_end p q
        by false y p q true h = absurd (true≢false h)
        by false y p q false h = other_start p

-- ---- built-in classes

module _ {A : Type 0} (p : A → Bool) where
  -- whether one of the first items passes, by the place of the first that does
  any_front : (xs : List A) (n : ℕ) → n ≤ length xs → nat_lt (position_or_len p xs) n ≡ list_any p (take n xs)
  any_front xs zero h = grind arith
  any_front [] (suc n) h = absurd (omega arith)
  any_front (x ∷ xs) (suc n) h = by (p x) (any_front xs n (omega arith))
    where
      by : (b : Bool) → nat_lt (position_or_len p xs) n ≡ list_any p (take n xs)
          → nat_lt (cond (not b) (1 + position_or_len p xs) 0) (suc n) ≡ b || list_any p (take n xs)
      by true again = grind arith
      by false again = grind (arith, again)

  -- of no first place none is in front
  pub none_front : (xs : List A) (n : ℕ) → n ≤ length xs → position p xs ≡ None → false ≡ list_any p (take n xs)
  none_front xs n h e = by (nat_lt (position_or_len p xs) (length xs)) refl e
    where
      by : (b : Bool) → nat_lt (position_or_len p xs) (length xs) ≡ b → cond b (Some (position_or_len p xs)) None ≡ None → false ≡ list_any p (take n xs)
      by true k r = absurd cc
      by false k r = sym (le-ltb (position_or_len p xs) n (omega (arith, h, ltb-false (position_or_len p xs) (length xs) k))) ∙ any_front xs n h

  -- of a first place
  pub some_front : (xs : List A) (n c : ℕ) → n ≤ length xs → position p xs ≡ Some c → nat_lt c n ≡ list_any p (take n xs)
  some_front xs n c h e = by (nat_lt (position_or_len p xs) (length xs)) refl e
    where
      by : (b : Bool) → nat_lt (position_or_len p xs) (length xs) ≡ b → cond b (Some (position_or_len p xs)) None ≡ Some c → nat_lt c n ≡ list_any p (take n xs)
      by true k r = let j : position_or_len p xs ≡ c = cc in ap (λ m. nat_lt m n) (sym j) ∙ any_front xs n h
      by false k r = absurd cc

-- a name among those of classes
among_names : (name : List ℕ) (ks : List Class) → list_any (λ k. bytes_eq k.name name) ks ≡ list_any (bytes_eq name) (map (λ (k : Class). k.name) ks)
among_names name [] = refl
among_names name (k ∷ ks) = ap (λ b. b || list_any (λ k. bytes_eq k.name name) ks) (nat_list_eq_equiv.symm k.name name) ∙ ap (λ b. bytes_eq name k.name || b) (among_names name ks)

module _ (s : System) (built_ins : HasBuiltIns s) (name : List ℕ) where
  -- a name among those of the built-in classes is one of the first
  among : list_any (λ k. bytes_eq k.name name) (take 27 s.program.classes) ≡ has_text (map (λ (k : Class). k.name) built_in_table) name
  unfolding has_text built_in_count
  among = ap (list_any (λ k. bytes_eq k.name name)) built_ins.first ∙ among_names name built_in_table

  -- there are so many
  enough : 27 ≤ length s.program.classes
  unfolding built_in_count
  enough = by (nat_lt (length s.program.classes) 27) refl
    where
      by : (b : Bool) → nat_lt (length s.program.classes) 27 ≡ b → 27 ≤ length s.program.classes
      by false e = ltb-false (length s.program.classes) 27 e
      by true e =
          let less : length s.program.classes < 27 = ltb-true (length s.program.classes) 27 e in
          omega (arith, ap length (sym (take_all 27 s.program.classes (omega arith)) ∙ built_ins.first), few_built_in)

  -- a class of that name is built in where its number is below theirs
  pub by_number : (c : ℕ) → Some c ≡ class_named s name → nat_lt c 27 ≡ has_text (map (λ (k : Class). k.name) built_in_table) name
  unfolding class_named
  by_number c e = some_front (λ k. bytes_eq k.name name) s.program.classes 27 c enough (sym e) ∙ among

  -- and none is, where there is none of that name
  pub no_number_of : None ≡ class_named s name → false ≡ has_text (map (λ (k : Class). k.name) built_in_table) name
  unfolding class_named
  no_number_of e = none_front (λ k. bytes_eq k.name name) s.program.classes 27 enough (sym e) ∙ among
