-- The operands of switches, pushed one by one.
use Rattle.std.proofs.Common.{◌≡◌, ℕ, ◌-◌, ◌≤◌, List, [], ◌∷◌, ◌++◌, length, get_or, take, drop, true, false, Option, Some, None, Err, refl, sym, ap, ◌∙◌, append_assoc, append-nil, map, nat_eq, ◌<◌, arith}
use Rattle.std.specs.Prelude.{ℤ, pos, ◌+ℤ◌, option_map, if◌then◌else◌, ◌&&◌}
use Rattle.std.specs.Borrow.{Bor}
use Rattle.std.specs.List.{list_all}
use Rattle.std.proofs.lemmas.Bool.Decides.{nat_tests}
use Rattle.std.proofs.lemmas.Grind.{common_steps}
use Rattle.std.proofs.lemmas.List.{length-map}
use Rattle.asm_words.specs.Numbers.{within}
use Rattle.jx_base.specs.declared.error.Error.{Error}
use Rattle.jx_base.specs.declared.error.Error.TheVariants as error
use Rattle.asm_lines.specs.declared.error.Malformed.{Malformed}
use Rattle.asm_lines.specs.declared.line.Operand.{Operand}
use Rattle.asm_lines.specs.declared.line.Operand.TheVariants as operand
use Rattle.asm_lines.specs.Operands.{is_name, int_of, is_above, with_key, keys_above, table_operands, table, least_int, greatest_int}
use Rattle.asm_lines.specs.Readings.{Tells, texts}
use Rattle.asm_lines.proofs.Conditions.{given, denied}

-- the operands so far, and the targets of those labels
abbrev pub with_targets : List Operand → List (List ℕ) → Option (List Operand)
with_targets before labels = if list_all is_name labels then Some (before ++ map operand.FarTarget labels) else None

-- the operands so far, and those keys with their labels
abbrev pub with_keys : List Operand → Option ℤ → List (List ℕ) → Option (List Operand)
with_keys so_far before pairs = option_map (λ keys. so_far ++ keys) (keys_above before pairs)

-- ---- the words of a pair

two_texts : (rest : List (Bor (List ℕ))) (d : Bor (List ℕ)) → 2 ≤ length rest →
    texts rest ≡ (get_or rest 0 d).now ∷ (get_or rest 1 d).now ∷ texts (take (length rest - 2) (drop 2 rest))
two_texts [] d h = absurd (omega arith)
two_texts (a ∷ []) d h = absurd (omega arith)
two_texts (a ∷ b ∷ rest) d h = ap (λ (xs : List (Bor (List ℕ))). a.now ∷ b.now ∷ texts xs) (grind (arith, common_steps))

-- ---- a key and its label

joined : (so_far : List Operand) (a b : Operand) (o : Option (List Operand)) →
    option_map (λ keys. ((so_far ++ a ∷ []) ++ b ∷ []) ++ keys) o ≡ option_map (λ keys. so_far ++ keys) (option_map (λ operands. a ∷ b ∷ operands) o)
joined so_far a b None = refl
joined so_far a b (Some keys) = ap Some (simp append_assoc)

-- what stands behind what a word says
behind_key : Option ℤ → List ℕ → List (List ℕ) → Option ℤ → Option (List Operand)
behind_key before label pairs None = None
behind_key before label pairs (Some key) = if is_above before key && is_name label then with_key key label (keys_above (Some key) pairs) else None

opened : (before : Option ℤ) (word label : List ℕ) (pairs : List (List ℕ)) → keys_above before (word ∷ label ∷ pairs) ≡ behind_key before label pairs (int_of word)
unfolding keys_above behind_key
opened before word label pairs = refl

goes_on : (so_far : List Operand) (before : Option ℤ) (key : ℤ) (label : List ℕ) (pairs : List (List ℕ)) → is_above before key ≡ true → is_name label ≡ true →
    with_keys ((so_far ++ operand.Int key ∷ []) ++ operand.FarTarget label ∷ []) (Some key) pairs ≡ option_map (λ keys. so_far ++ keys) (behind_key before label pairs (Some key))
unfolding behind_key with_key
goes_on so_far before key label pairs a n = rw (a, n) (joined so_far (operand.Int key) (operand.FarTarget label) (keys_above (Some key) pairs))

not_above : (before : Option ℤ) (key : ℤ) (label : List ℕ) (pairs : List (List ℕ)) → is_above before key ≡ false → behind_key before label pairs (Some key) ≡ None
unfolding behind_key
not_above before key label pairs a = rw a

no_name : (before : Option ℤ) (key : ℤ) (label : List ℕ) (pairs : List (List ℕ)) → is_above before key ≡ true → is_name label ≡ false → behind_key before label pairs (Some key) ≡ None
unfolding behind_key
no_name before key label pairs a n = rw (a, n)

no_key : (before : Option ℤ) (label : List ℕ) (pairs : List (List ℕ)) → behind_key before label pairs None ≡ None
unfolding behind_key
no_key before label pairs = refl

-- the keys in the rest of the words, by what the first of them says
first_key : (so_far : List Operand) (before : Option ℤ) (rest : List (Bor (List ℕ))) (d : Bor (List ℕ)) (o : Option ℤ) (said : Option (List Operand)) → 2 ≤ length rest →
    with_keys so_far before (texts rest) ≡ said → int_of (get_or rest 0 d).now ≡ o →
    option_map (λ keys. so_far ++ keys) (behind_key before (get_or rest 1 d).now (texts (take (length rest - 2) (drop 2 rest))) o) ≡ said
first_key so_far before rest d o said h i e =
    ap (λ (p : Option ℤ). option_map (λ keys. so_far ++ keys) (behind_key before (get_or rest 1 d).now (texts (take (length rest - 2) (drop 2 rest))) p)) (sym e)
    ∙ (ap (λ (o : Option (List Operand)). option_map (λ keys. so_far ++ keys) o) (sym (opened before (get_or rest 0 d).now (get_or rest 1 d).now (texts (take (length rest - 2) (drop 2 rest)))))
    ∙ (ap (λ (words : List (List ℕ)). with_keys so_far before words) (sym (two_texts rest d h)) ∙ i))

-- ---- a loop over the pairs

pub key_goes_on : (so_far : List Operand) (before : Option ℤ) (rest : List (Bor (List ℕ))) (d : Bor (List ℕ)) (key : ℤ) (label : List ℕ) (said : Option (List Operand)) → 2 ≤ length rest →
    with_keys so_far before (texts rest) ≡ said → int_of (get_or rest 0 d).now ≡ Some key → is_above before key ≡ true →
    (if is_name (get_or rest 1 d).now then Some (get_or rest 1 d).now else None) ≡ Some label →
    with_keys ((so_far ++ operand.Int key ∷ []) ++ operand.FarTarget label ∷ []) (Some key) (texts (take (length rest - 2) (drop 2 rest))) ≡ said
key_goes_on so_far before rest d key label said h i e a n =
    let m : (is_name (get_or rest 1 d).now ≡ true) × (label ≡ (get_or rest 1 d).now) = given _ _ _ n in
    rw (m.1) (goes_on so_far before key (get_or rest 1 d).now (texts (take (length rest - 2) (drop 2 rest))) a m.0 ∙ first_key so_far before rest d (Some key) said h i e)

pub is_not_above : (so_far : List Operand) (before : Option ℤ) (rest : List (Bor (List ℕ))) (d : Bor (List ℕ)) (key : ℤ) (said : Option (List Operand)) → 2 ≤ length rest →
    with_keys so_far before (texts rest) ≡ said → int_of (get_or rest 0 d).now ≡ Some key → is_above before key ≡ false → said ≡ None
is_not_above so_far before rest d key said h i e a =
    sym (first_key so_far before rest d (Some key) said h i e)
    ∙ ap (λ (o : Option (List Operand)). option_map (λ keys. so_far ++ keys) o) (not_above before key (get_or rest 1 d).now (texts (take (length rest - 2) (drop 2 rest))) a)

pub key_fails : (so_far : List Operand) (before : Option ℤ) (rest : List (Bor (List ℕ))) (d : Bor (List ℕ)) (e : (Error Malformed)) (said : Option (List Operand)) → 2 ≤ length rest →
    with_keys so_far before (texts rest) ≡ said → Tells {X = ℤ} (λ z. z) (Err e) (int_of (get_or rest 0 d).now) → Tells {X = List Operand} (λ operands. operands) (Err e) said
key_fails so_far before rest d (error.Bad malformed) said h i t =
    sym (first_key so_far before rest d None said h i t)
    ∙ ap (λ (o : Option (List Operand)). option_map (λ keys. so_far ++ keys) o) (no_key before (get_or rest 1 d).now (texts (take (length rest - 2) (drop 2 rest))))
key_fails so_far before rest d error.OutOfMemory said h i t = tt

pub label_fails : (so_far : List Operand) (before : Option ℤ) (rest : List (Bor (List ℕ))) (d : Bor (List ℕ)) (key : ℤ) (e : (Error Malformed)) (said : Option (List Operand)) → 2 ≤ length rest →
    with_keys so_far before (texts rest) ≡ said → int_of (get_or rest 0 d).now ≡ Some key → is_above before key ≡ true →
    Tells {X = List ℕ} (λ name. name) (Err e) (if is_name (get_or rest 1 d).now then Some (get_or rest 1 d).now else None) → Tells {X = List Operand} (λ operands. operands) (Err e) said
label_fails so_far before rest d key (error.Bad malformed) said h i k a t =
    sym (first_key so_far before rest d (Some key) said h i k)
    ∙ ap (λ (o : Option (List Operand)). option_map (λ keys. so_far ++ keys) o) (no_name before key (get_or rest 1 d).now (texts (take (length rest - 2) (drop 2 rest))) a (denied _ _ t))
label_fails so_far before rest d key error.OutOfMemory said h i k a t = tt

pub are_done : (so_far : List Operand) (before : Option ℤ) (rest : List (Bor (List ℕ))) (said : Option (List Operand)) → nat_eq (length rest) 0 ≡ true →
    with_keys so_far before (texts rest) ≡ said → said ≡ Some so_far
unfolding keys_above
are_done so_far before [] said h i = sym i ∙ ap Some (append-nil so_far)
are_done so_far before (a ∷ rest) said h i = absurd (grind (arith, nat_tests))

pub label_is_missing : (so_far : List Operand) (before : Option ℤ) (rest : List (Bor (List ℕ))) (said : Option (List Operand)) → length rest < 2 → nat_eq (length rest) 0 ≡ false →
    with_keys so_far before (texts rest) ≡ said → said ≡ None
unfolding keys_above
label_is_missing so_far before [] said l h i = cc
label_is_missing so_far before (a ∷ []) said l h i = sym i
label_is_missing so_far before (a ∷ b ∷ rest) said l h i = absurd (omega arith)

-- ---- a whole table

three_texts : (rest : List (Bor (List ℕ))) (d : Bor (List ℕ)) → 3 ≤ length rest →
    texts rest ≡ (get_or rest 0 d).now ∷ (get_or rest 1 d).now ∷ (get_or rest 2 d).now ∷ texts (take (length rest - 3) (drop 3 rest))
three_texts [] d h = absurd (omega arith)
three_texts (a ∷ []) d h = absurd (omega arith)
three_texts (a ∷ b ∷ []) d h = absurd (omega arith)
three_texts (a ∷ b ∷ c ∷ rest) d h = ap (λ (xs : List (Bor (List ℕ))). a.now ∷ b.now ∷ c.now ∷ texts xs) (grind (arith, common_steps))

words_table : (word default first : List ℕ) (labels : List (List ℕ)) (low high : ℤ) → int_of word ≡ Some low → within least_int greatest_int (Some (low +ℤ pos (length labels))) ≡ Some high →
    is_name default ≡ true → is_name first ≡ true → list_all is_name labels ≡ true → table (word ∷ default ∷ first ∷ labels) ≡ Some (table_operands default (first ∷ labels) low high)
unfolding table
words_table word default first labels low high h k a b c = rw (a, b, c) (behind (int_of word) h)
  where
    behind : (o : Option ℤ) → o ≡ Some low → elim o as (λ _. Option (List Operand)) [
      | None ↦ None
      | Some low ↦ option_map (λ high. table_operands default (first ∷ labels) low high) (within least_int greatest_int (Some (low +ℤ pos (length labels))))
    ]
        ≡ Some (table_operands default (first ∷ labels) low high)
    behind o e = rw (e, k)

pub is_table : (words : List (Bor (List ℕ))) (d : Bor (List ℕ)) (low high : ℤ) (front more all : List Operand) (first : List ℕ) → 3 ≤ length words →
    int_of (get_or words 0 d).now ≡ Some low →
    within least_int greatest_int (Some (low +ℤ pos (length (take (length words - 3) (drop 3 words))))) ≡ Some high →
    (if is_name (get_or words 1 d).now then Some (table_operands (get_or words 1 d).now [] low high) else None) ≡ Some front →
    (if is_name (get_or words 2 d).now then Some (get_or words 2 d).now else None) ≡ Some first →
    more ≡ front ++ operand.FarTarget first ∷ [] →
    with_targets more (texts (take (length words - 3) (drop 3 words))) ≡ Some all → table (texts words) ≡ Some all
unfolding table_operands
is_table words d low high front more all first h l k a b m t =
    let rest = take (length words - 3) (drop 3 words) in
    let p : (is_name (get_or words 1 d).now ≡ true) × (front ≡ table_operands (get_or words 1 d).now [] low high) = given _ _ _ a in
    let q : (is_name (get_or words 2 d).now ≡ true) × (first ≡ (get_or words 2 d).now) = given _ _ _ b in
    let r : (list_all is_name (texts rest) ≡ true) × (all ≡ more ++ map operand.FarTarget (texts rest)) = given _ _ _ t in
    let n : within least_int greatest_int (Some (low +ℤ pos (length (texts rest)))) ≡ Some high = simp length-map k in
    let s : more ≡ table_operands (get_or words 1 d).now [] low high ++ operand.FarTarget (get_or words 2 d).now ∷ [] = cc in
    let e : table_operands (get_or words 1 d).now ((get_or words 2 d).now ∷ texts rest) low high ≡ all = ap (λ (xs : List Operand). xs ++ map operand.FarTarget (texts rest)) (sym s) ∙ sym r.1 in
    ap table (three_texts words d h) ∙ (words_table _ _ _ (texts rest) low high l n p.0 q.0 r.0 ∙ ap Some e)
