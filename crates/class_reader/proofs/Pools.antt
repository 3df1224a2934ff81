-- Constants, one after the other.
use Rattle.std.proofs.Common.{◌≡◌, ℕ, zero, suc, ◌-◌, ◌+◌, ◌≤◌, ◌<◌, List, [], ◌∷◌, ◌++◌, length, drop, get_or, Bool, true, false, cond, Some, Result, Ok, Err, refl, sym, ap, subst, ◌∙◌, append_assoc, add-one, arith}
use Rattle.std.specs.Prelude.{if◌then◌else◌}
use Rattle.std.proofs.lemmas.List.{append-nil}
use Rattle.std.proofs.Math.Seq.{drop-cons}
use Rattle.jx_base.specs.declared.class_file.Constant.{Constant}
use Rattle.jx_base.specs.declared.class_file.Constant.TheVariants as constant
use Rattle.jx_base.specs.declared.fault.ClassFault.{ClassFault}
use Rattle.jx_base.specs.declared.fault.ClassKind.TheVariants as kind
use Rattle.class_grammar.specs.Parts.{onward, with_front}
use Rattle.class_grammar.specs.Constants.{class_fault, constant_part, constants_part, constant_length, is_double_width, names_rightly, misnaming_fault}
use Rattle.jx_base.specs.declared.error.Error.{Error}
use Rattle.jx_base.specs.declared.error.Error.TheVariants as error
use Rattle.class_reader.specs.Pools.{index_count, entries, constants_length}
use Rattle.jx_base.specs.Answers.{Fails}

abbrev pub Read : Type 0
Read = Result (List Constant × List ℕ) ClassFault

abbrev pack : List ℕ → List Constant → Read
pack rest cs = Ok (cs, rest)

grouped : (front part : List Constant) (read : Read) → with_front front (onward read (λ cs rest. Ok (part ++ cs, rest))) ≡ with_front (front ++ part) read
grouped front part (Ok x) = ap (pack x.1) (sym (append_assoc front part x.0))
grouped front part (Err f) = refl

-- the case of the last index
last_wide : (size : ℕ) (text : List ℕ) (c : Constant) (after : List ℕ) → (constant_part size).reads text ≡ Ok (c, after) → is_double_width c ≡ true
    → (constants_part size 1).reads text ≡ Err (class_fault (size - length text) kind.Index)
unfolding constants_part
last_wide size text c after e w = rw (e, w) refl

last_narrow : (size : ℕ) (text : List ℕ) (c : Constant) (after : List ℕ) → (constant_part size).reads text ≡ Ok (c, after) → is_double_width c ≡ false
    → (constants_part size 1).reads text ≡ Ok (c ∷ [], after)
unfolding constants_part
last_narrow size text c after e w = rw (e, w) refl

-- the case of two indices or more
more_wide : (size n : ℕ) (text : List ℕ) (c : Constant) (after : List ℕ) → (constant_part size).reads text ≡ Ok (c, after) → is_double_width c ≡ true
    → (constants_part size (suc (suc n))).reads text ≡ onward ((constants_part size n).reads after) (λ cs rest. Ok (c ∷ constant.Unusable ∷ cs, rest))
unfolding constants_part
more_wide size n text c after e w = rw (e, w) refl

more_narrow : (size n : ℕ) (text : List ℕ) (c : Constant) (after : List ℕ) → (constant_part size).reads text ≡ Ok (c, after) → is_double_width c ≡ false
    → (constants_part size (suc (suc n))).reads text ≡ onward ((constants_part size (suc n)).reads after) (λ cs rest. Ok (c ∷ cs, rest))
unfolding constants_part
more_narrow size n text c after e w = rw (e, w) refl

-- some constants, and so many indices behind them
abbrev told : ℕ → ℕ → List ℕ → List Constant → Read
told size next after part = onward ((constants_part size next).reads after) (λ cs rest. Ok (part ++ cs, rest))

-- a constant was read, which takes up no more indices than are left
goes_on_by : (size left next : ℕ) (text : List ℕ) (c : Constant) (after : List ℕ) (wide : Bool) → is_double_width c ≡ wide → left ≡ (if wide then 2 else 1) + next → (constant_part size).reads text ≡ Ok (c, after)
    → (constants_part size left).reads text ≡ told size next after (if wide then c ∷ constant.Unusable ∷ [] else c ∷ [])
unfolding constants_part
goes_on_by size zero next text c after true w k e = absurd (omega arith)
goes_on_by size (suc zero) next text c after true w k e = absurd (omega arith)
goes_on_by size (suc (suc n)) next text c after true w k e =
    let m : n ≡ next = omega arith in
    subst (λ (i : ℕ). (constants_part size (suc (suc n))).reads text ≡ told size i after (c ∷ constant.Unusable ∷ [])) m (more_wide size n text c after e w)
goes_on_by size zero next text c after false w k e = absurd (omega arith)
goes_on_by size (suc zero) next text c after false w k e =
    let m : zero ≡ next = omega arith in
    subst (λ (i : ℕ). (constants_part size 1).reads text ≡ told size i after (c ∷ [])) m (last_narrow size text c after e w)
goes_on_by size (suc (suc n)) next text c after false w k e =
    let m : suc n ≡ next = omega arith in
    subst (λ (i : ℕ). (constants_part size (suc (suc n))).reads text ≡ told size i after (c ∷ [])) m (more_narrow size n text c after e w)

pub goes_on : (size left : ℕ) (text : List ℕ) (front : List Constant) (c : Constant) (after : List ℕ) (total : Read) → index_count c ≤ left → (constant_part size).reads text ≡ Ok (c, after)
    → with_front front ((constants_part size left).reads text) ≡ total → with_front (front ++ entries c) ((constants_part size (left - index_count c)).reads after) ≡ total
unfolding index_count entries
goes_on size left text front c after total le e so_far =
    let k : left ≡ index_count c + (left - index_count c) = omega arith in
    sym (ap (with_front front) (goes_on_by size left (left - index_count c) text c after (is_double_width c) refl k e) ∙ grouped front (entries c) ((constants_part size (left - index_count c)).reads after)) ∙ so_far

ends_by : (size left : ℕ) (text : List ℕ) (front : List Constant) (c : Constant) (after : List ℕ) (total : Read) (wide : Bool) → is_double_width c ≡ wide → 0 < left → left < (if wide then 2 else 1)
    → (constant_part size).reads text ≡ Ok (c, after) → with_front front ((constants_part size left).reads text) ≡ total → total ≡ Err (class_fault (size - length text) kind.Index)
ends_by size zero text front c after total wide w pos lt e so_far = absurd (omega arith)
ends_by size (suc zero) text front c after total true w pos lt e so_far = sym so_far ∙ ap (with_front front) (last_wide size text c after e w)
ends_by size (suc (suc n)) text front c after total true w pos lt e so_far = absurd (omega arith)
ends_by size (suc n) text front c after total false w pos lt e so_far = absurd (omega arith)

-- it takes up more
pub ends_wide : (size left : ℕ) (text : List ℕ) (front : List Constant) (c : Constant) (after : List ℕ) (total : Read) → 0 < left → left < index_count c → (constant_part size).reads text ≡ Ok (c, after)
    → with_front front ((constants_part size left).reads text) ≡ total → total ≡ Err (class_fault (size - length text) kind.Index)
unfolding index_count
ends_wide size left text front c after total pos lt e so_far = ends_by size left text front c after total (is_double_width c) refl pos lt e so_far

-- it can't be read
pub ends : (e : Error ClassFault) (size left : ℕ) (text : List ℕ) (front : List Constant) (total : Read) → 0 < left → Fails e ((constant_part size).reads text)
    → with_front front ((constants_part size left).reads text) ≡ total → Fails e total
unfolding constants_part
ends error.OutOfMemory size left text front total pos h so_far = tt
ends (error.Bad f) size zero text front total pos h so_far = absurd (omega arith)
ends (error.Bad f) size (suc zero) text front total pos h so_far = sym so_far ∙ (rw h refl)
ends (error.Bad f) size (suc (suc n)) text front total pos h so_far = sym so_far ∙ (rw h refl)

pub is_done : (size left : ℕ) (text : List ℕ) (front : List Constant) (total : Read) → left ≤ 0
    → with_front front ((constants_part size left).reads text) ≡ total → total ≡ Ok (front, text)
unfolding constants_part
is_done size zero text front total le so_far = sym so_far ∙ ap (pack text) (append-nil front)
is_done size (suc n) text front total le so_far = absurd (omega arith)

at_front : (cs : List Constant) (i : ℕ) (c : Constant) → i < length cs → c ≡ get_or cs i c → drop i cs ≡ c ∷ drop (i + 1) cs
at_front cs i c lt e = rw add-one (drop-cons cs i c lt ∙ ap (λ (d : Constant). d ∷ drop (suc i) cs) (sym e))

length_by : (c : Constant) (wide : Bool) → constants_length (if wide then c ∷ constant.Unusable ∷ [] else c ∷ []) ≡ constant_length c
unfolding constants_length constant_length
length_by c true = omega arith
length_by c false = omega arith

length_one : (c : Constant) → constants_length (entries c) ≡ constant_length c
unfolding entries
length_one c = length_by c (is_double_width c)

pub length_entries : (cs : List Constant) (c : Constant) → constants_length (cs ++ entries c) ≡ constants_length cs + constant_length c
unfolding constants_length
length_entries [] c = length_one c ∙ omega arith
length_entries (d ∷ cs) c = ap (λ n. constant_length d + n) (length_entries cs c) ∙ omega arith

-- behind the unusable constant
pub dropped : (old new front part : List Constant) → old ≡ constant.Unusable ∷ front → new ≡ old ++ part → drop 1 new ≡ front ++ part
dropped old new front part e k = rw (k, e) refl

pub still_first : (old new front part : List Constant) → old ≡ constant.Unusable ∷ front → new ≡ old ++ part → new ≡ constant.Unusable ∷ drop 1 new
still_first old new front part e k = rw (k, e) refl

-- ---- names

pub names_more : (all cs : List Constant) (at i : ℕ) (c : Constant) → i < length cs → c ≡ get_or cs i c → true ≡ names_rightly all c
    → misnaming_fault all at (drop i cs) ≡ misnaming_fault all (at + constant_length c) (drop (i + 1) cs)
unfolding misnaming_fault
names_more all cs at i c lt e t = ap (misnaming_fault all at) (at_front cs i c lt e) ∙ ap (λ b. cond b (misnaming_fault all (at + constant_length c) (drop (i + 1) cs)) (Some (class_fault at kind.Index))) (sym t)

pub names_end : (all cs : List Constant) (at i : ℕ) (c : Constant) → i < length cs → c ≡ get_or cs i c → false ≡ names_rightly all c
    → misnaming_fault all at (drop i cs) ≡ Some (class_fault at kind.Index)
unfolding misnaming_fault
names_end all cs at i c lt e t = ap (misnaming_fault all at) (at_front cs i c lt e) ∙ ap (λ b. cond b (misnaming_fault all (at + constant_length c) (drop (i + 1) cs)) (Some (class_fault at kind.Index))) (sym t)

pub length_more : (cs : List Constant) (i : ℕ) (c : Constant) → i < length cs → c ≡ get_or cs i c → constants_length (drop i cs) ≡ constant_length c + constants_length (drop (i + 1) cs)
unfolding constants_length
length_more cs i c lt e = ap constants_length (at_front cs i c lt e)

pub ruleset pools = (goes_on, ends_wide, ends, is_done, length_entries)

pub ruleset names = (names_more, names_end, length_more)
