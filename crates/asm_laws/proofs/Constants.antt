-- The constants of lines: a pool has what the lines need, and its table has each constant at its index.
use Rattle.std.proofs.Common.{◌≡◌, refl, sym, ap, ◌∙◌, subst, ℕ, suc, ◌+◌, ◌<◌, ◌≤◌, ◌^◌, List, [], ◌∷◌, ◌++◌, reverse, length, Some, None, true, inl, inr, append_assoc, length-append, arith}
use Rattle.std.specs.Prelude.{◌-◌, nat_le, nat_lt, sum_by, slice_get}
use Rattle.std.specs.Int.{w16, to_be_bytes}
use Rattle.std.specs.List.{list_any, list_all, AllByRecursion}
use Rattle.std.proofs.lemmas.Bool.{cases_Bool, and_parts, and_from, leb-true, lt-ltb}
use Rattle.std.proofs.lemmas.List.{reverse-append}
use Rattle.std.proofs.lemmas.List.Sums.{sum_by-cons}
use Rattle.jx_base.specs.declared.class_file.Constant.{Constant}
use Rattle.jx_base.specs.declared.class_file.Constant.TheVariants as constant
use Rattle.class_grammar.specs.Constants.{cut_off, text_of_constant, text_at, constant_length, constants_part, is_text, is_class, is_name_and_type, names_text, names_class, names_member, names_rightly, misnaming_fault}
use Rattle.class_grammar.specs.ClassGrammar.{pool_part, first_constant}
use Rattle.asm_constants.specs.declared.content.Content.{Content}
use Rattle.asm_constants.specs.declared.content.Content.TheVariants as content
use Rattle.asm_constants.specs.declared.content.Reference.{Reference}
use Rattle.asm_constants.specs.declared.content.Reference.TheVariants as reference
use Rattle.asm_constants.specs.Contents.{same_content, needed}
use Rattle.asm_constants.specs.Pools.{has_content, places, index_from, index_of, is_short, fits, pool_bytes}
use Rattle.asm_bodies.specs.Needs.{line_contents, pool_of}
use Rattle.asm_lines.specs.declared.line.Line.{Line}
use Rattle.asm_laws.specs.Tables.{member_constant, constant_of, entries_of, entries_from, table_of, AreRangedContents, IsClosed}
use Rattle.asm_laws.proofs.Same.{same_is_equal}
use Rattle.asm_laws.proofs.Growth.{all_joined, all_tested, tested_since, in_with_all_needed, all_needed_are_there, closed_with_all_needed, ranged_with_all_needed}
use Rattle.asm_laws.proofs.Numbers.{number_spelled}
use Rattle.asm_laws.proofs.Spelled.{constants_spelled}

-- ---- the pool of lines

pub closed : (past : List Line) → IsClosed (pool_of past) (pool_of past)
unfolding pool_of
closed [] = tt
closed (l ∷ past) = closed_with_all_needed (pool_of past) (line_contents l) (closed past)

pub kept : (past : List Line) (l : Line) (c : Content) → has_content (pool_of past) c ≡ true → has_content (pool_of (l ∷ past)) c ≡ true
unfolding pool_of
kept past l c h = in_with_all_needed (pool_of past) (line_contents l) c h

pub needed_here : (past : List Line) (l : Line) → list_all (has_content (pool_of (l ∷ past))) (line_contents l) ≡ true
unfolding pool_of
needed_here past l = all_needed_are_there (pool_of past) (line_contents l)

kept_through : (later past : List Line) (c : Content) → has_content (pool_of past) c ≡ true → has_content (pool_of (later ++ past)) c ≡ true
kept_through [] past c h = h
kept_through (l ∷ later) past c h = kept (later ++ past) l c (kept_through later past c h)

turned : (before after : List Line) (l : Line) → reverse (before ++ l ∷ after) ≡ reverse after ++ l ∷ reverse before
turned before after l =
    reverse-append before (l ∷ after)
    ∙ ap (λ (front : List Line). front ++ reverse before) (reverse-append (l ∷ []) after)
    ∙ append_assoc (reverse after) (l ∷ []) (reverse before)

pub in_pool : (lines before after : List Line) (l : Line) → lines ≡ before ++ l ∷ after → list_all (has_content (pool_of (reverse lines))) (line_contents l) ≡ true
in_pool lines before after l e =
    subst (λ (past : List Line). list_all (has_content (pool_of past)) (line_contents l) ≡ true) (sym (ap reverse e ∙ turned before after l))
    (tested_since (has_content (pool_of (l ∷ reverse before))) (has_content (pool_of (reverse after ++ l ∷ reverse before)))
    (λ c h. kept_through (reverse after) (l ∷ reverse before) c h) (line_contents l) (needed_here (reverse before) l))

pub ranged : (past : List Line) → AllByRecursion (λ l. AreRangedContents (line_contents l)) past → AreRangedContents (pool_of past)
unfolding pool_of
ranged [] h = tt
ranged (l ∷ past) h = ranged_with_all_needed (pool_of past) (line_contents l) (ranged past h.1) h.0

-- ---- indices

index_within : (i : ℕ) (pool : List Content) (c : Content) → index_from i pool c ≤ i + sum_by places pool
unfolding index_from
index_within i [] c = omega arith
index_within i (d ∷ pool) c = elim (cases_Bool (same_content c d)) [
  | inl same ↦ rw same (omega arith)
  | inr other ↦ let more = index_within (i + places d) pool c in rw other (omega (arith, more, sum_by-cons places d pool))
]

pub few_places : (pool : List Content) → fits pool ≡ true → sum_by places pool ≤ 65534
unfolding fits
few_places pool h = leb-true _ _ (and_parts (nat_le (sum_by places pool) 65534) (list_all is_short pool) h).0

pub index_small : (pool : List Content) (c : Content) → fits pool ≡ true → index_of pool c < 2 ^ 16
unfolding index_of
index_small pool c h = omega (arith, few_places pool h, index_within 1 pool c)

-- ---- the table

-- entries begin with the constant itself
at_front : (front rest : List Constant) (k : Constant) → slice_get (front ++ k ∷ rest) (length front) ≡ Some k
at_front [] rest k = refl
at_front (x ∷ front) rest k = at_front front rest k

own_entry : (pool : List Content) (d : Content) (front rest : List Constant) → slice_get (front ++ (entries_of pool d ++ rest)) (length front) ≡ Some (constant_of pool d)
unfolding entries_of constant_of
own_entry pool (content.Utf8 units) front rest = at_front front rest _
own_entry pool (content.Integer z) front rest = at_front front rest _
own_entry pool (content.Long z) front rest = at_front front (constant.Unusable ∷ rest) _
own_entry pool (content.Class name) front rest = at_front front rest _
own_entry pool (content.Str units) front rest = at_front front rest _
own_entry pool (content.NameAndType name descriptor) front rest = at_front front rest _
own_entry pool (content.Member kind class name descriptor) front rest = at_front front rest _

-- there are as many as the constant takes up
pub entries_places : (pool : List Content) (d : Content) → length (entries_of pool d) ≡ places d
unfolding entries_of places
entries_places pool (content.Utf8 units) = refl
entries_places pool (content.Integer z) = refl
entries_places pool (content.Long z) = refl
entries_places pool (content.Class name) = refl
entries_places pool (content.Str units) = refl
entries_places pool (content.NameAndType name descriptor) = refl
entries_places pool (content.Member kind class name descriptor) = refl

found_behind : (pool contents : List Content) (front : List Constant) (i : ℕ) (c : Content) → length front ≡ i → has_content contents c ≡ true
    → slice_get (front ++ entries_from pool contents) (index_from i contents c) ≡ Some (constant_of pool c)
unfolding has_content index_from entries_from
found_behind pool [] front i c at h = absurd (cc)
found_behind pool (d ∷ contents) front i c at h = elim (cases_Bool (same_content c d)) [
  | inl same ↦
      let own : slice_get (front ++ (entries_of pool d ++ entries_from pool contents)) (length front) ≡ Some (constant_of pool d) = own_entry pool d front (entries_from pool contents) in
      rw same (ap (slice_get (front ++ (entries_of pool d ++ entries_from pool contents))) (sym at) ∙ own ∙ ap (λ (e : Content). Some (constant_of pool e)) (sym (same_is_equal c d same)))
  | inr other ↦
      let there : list_any (same_content c) contents ≡ true = rw other at h in
      let long : length (front ++ entries_of pool d) ≡ i + places d = length-append front (entries_of pool d) ∙ (omega (arith, entries_places pool d)) in
      rw other
      (ap (λ (table : List Constant). slice_get table (index_from (i + places d) contents c)) (sym (append_assoc front (entries_of pool d) (entries_from pool contents)))
      ∙ found_behind pool contents (front ++ entries_of pool d) (i + places d) c long there)
]

pub found : (pool : List Content) (c : Content) → has_content pool c ≡ true → slice_get (table_of pool) (index_of pool c) ≡ Some (constant_of pool c)
unfolding table_of index_of
found pool c h = found_behind pool pool (constant.Unusable ∷ []) 1 c refl h

pub text_found : (pool : List Content) (units : List ℕ) → has_content pool (content.Utf8 units) ≡ true → text_at (table_of pool) (index_of pool (content.Utf8 units)) ≡ Some units
unfolding text_at text_of_constant constant_of
text_found pool units h = ap text_of_constant (found pool (content.Utf8 units) h)

pub class_found : (pool : List Content) (name : List ℕ) → has_content pool (content.Class name) ≡ true → names_class (table_of pool) (index_of pool (content.Class name)) ≡ true
unfolding names_class is_class constant_of
class_found pool name h = ap is_class (found pool (content.Class name) h)

-- ---- names

text_named : (pool : List Content) (units : List ℕ) → has_content pool (content.Utf8 units) ≡ true → names_text (table_of pool) (index_of pool (content.Utf8 units)) ≡ true
unfolding names_text is_text constant_of
text_named pool units h = ap is_text (found pool (content.Utf8 units) h)

pair_named : (pool : List Content) (name descriptor : List ℕ) → has_content pool (content.NameAndType name descriptor) ≡ true
    → is_name_and_type (slice_get (table_of pool) (index_of pool (content.NameAndType name descriptor))) ≡ true
unfolding is_name_and_type constant_of
pair_named pool name descriptor h = ap is_name_and_type (found pool (content.NameAndType name descriptor) h)

member_named : (table : List Constant) (kind : Reference) (i j : ℕ) → names_member table i j ≡ true → names_rightly table (member_constant kind i j) ≡ true
unfolding names_rightly member_constant
member_named table reference.Field i j h = h
member_named table reference.Method i j h = h
member_named table reference.InterfaceMethod i j h = h

abbrev NamesRightly : List Content → Constant → Type 0
NamesRightly pool k = names_rightly (table_of pool) k ≡ true

rightly_named : (pool : List Content) (c : Content) → list_all (has_content pool) (needed c) ≡ true → AllByRecursion (NamesRightly pool) (entries_of pool c)
unfolding needed entries_of constant_of names_rightly names_member
rightly_named pool (content.Utf8 units) h = (refl, tt)
rightly_named pool (content.Integer z) h = (refl, tt)
rightly_named pool (content.Long z) h = (refl, (refl, tt))
rightly_named pool (content.Class name) h =
    let all = all_tested (has_content pool) (needed (content.Class name)) h in
    (text_named pool name all.0, tt)
rightly_named pool (content.Str units) h =
    let all = all_tested (has_content pool) (needed (content.Str units)) h in
    (text_named pool units all.0, tt)
rightly_named pool (content.NameAndType name descriptor) h =
    let all = all_tested (has_content pool) (needed (content.NameAndType name descriptor)) h in
    (and_from _ _ (text_named pool name all.0) (text_named pool descriptor all.1.0), tt)
rightly_named pool (content.Member kind class name descriptor) h =
    let all = all_tested (has_content pool) (needed (content.Member kind class name descriptor)) h in (
      member_named (table_of pool) kind (index_of pool (content.Class class)) (index_of pool (content.NameAndType name descriptor))
          (and_from _ _ (class_found pool class all.1.0) (pair_named pool name descriptor all.1.1.1.1.0)),
      tt,
    )

all_rightly_named : (pool contents : List Content) → IsClosed pool contents → AllByRecursion (NamesRightly pool) (entries_from pool contents)
unfolding entries_from
all_rightly_named pool [] h = tt
all_rightly_named pool (c ∷ contents) h =
    all_joined (NamesRightly pool) (entries_of pool c) (entries_from pool contents) (rightly_named pool c h.0) (all_rightly_named pool contents h.1)

no_misnaming : (table : List Constant) (at : ℕ) (ks : List Constant) → AllByRecursion (λ k. names_rightly table k ≡ true) ks → misnaming_fault table at ks ≡ None
unfolding misnaming_fault
no_misnaming table at [] h = refl
no_misnaming table at (k ∷ ks) h = let here = h.0 in rw here (no_misnaming table (at + constant_length k) ks h.1)

-- ---- the pool

pub pool_spelled : (size : ℕ) (pool : List Content) (rest : List ℕ) → fits pool ≡ true → IsClosed pool pool → AreRangedContents pool
    → (pool_part size).spells (to_be_bytes w16 (suc (sum_by places pool)) ++ (pool_bytes pool ++ rest)) (table_of pool) rest
unfolding pool_part table_of pool_bytes fits
pool_spelled size pool rest few closed h =
    let n : ℕ = sum_by places pool in
    let text : List ℕ = pool_bytes pool ++ rest in
    let small : suc n < 2 ^ 16 = omega (arith, few_places pool few) in
    let some : nat_lt 0 (suc n) ≡ true = lt-ltb 0 (suc n) (omega arith) in
    let behind : suc n - 1 ≡ n = omega arith in
    let short = all_tested is_short pool (and_parts (nat_le n 65534) (list_all is_short pool) few).1 in
    let spelled : (constants_part size (suc n - 1)).spells text (entries_from pool pool) rest =
    subst (λ (m : ℕ). (constants_part size m).spells text (entries_from pool pool) rest) (sym behind) (constants_spelled size pool pool rest (λ c. index_small pool c few) short h) in
    let named = no_misnaming (table_of pool) first_constant (entries_from pool pool) (all_rightly_named pool pool closed) in (
      suc n,
      text,
      number_spelled (cut_off size) w16 (suc n) text small,
      (
        tt,
        text,
        (some, refl),
        (
          entries_from pool pool,
          rest,
          spelled,
          (tt, rest, (named, refl), (refl, refl)),
        ),
      ),
    )
