-- Reading descriptors from left to right.
use Rattle.std.proofs.Common.{◌≡◌, ◌≢◌, ℕ, zero, suc, ◌-◌, ◌+◌, ◌≤◌, ◌<◌, List, [], ◌∷◌, ◌++◌, length, take, drop, get_or, Bool, true, false, Option, Some, None, refl, sym, ap, subst, inl, inr, ◌∙◌, add-one, arith}
use Rattle.std.specs.Prelude.{option_map, if◌then◌else◌, ◌&&◌, ◌||◌, ◌==◌, ◌⊎◌, ◌^◌, sum_by, is_some}
use Rattle.std.proofs.lemmas.Bool.{eq-eqb}
use Rattle.std.proofs.lemmas.List.Sums.{sum_by-cons}
use Rattle.std.proofs.lemmas.Option.{some_pair_parts}
use Rattle.std.proofs.lemmas.List.{take_more, take_all, drop_all, length-take, length-drop}
use Rattle.std.proofs.Math.Seq.{drop-cons}
use Rattle.class_grammar.specs.Descriptors.{Base, Object, FieldType, MethodType, semicolon, bracket, opening, closing, letter_v, object_at, base_at, under_dimensions, type_at, whole_type, field_type_of, with_type, types_at, result_of, with_result, method_type_of, is_floating_base, is_floating, is_floating_result, has_floating}
use Rattle.class_texts.specs.Slots.{slots_of, argument_slots, capped}
use Rattle.class_texts.specs.declared.descriptors.Tally.{Tally}
use Rattle.class_texts.specs.Shapes.{joined, tally_of, tally_of_types, tally_of_method, object_tally, of_base, of_type, of_types, after_closing, signature_of, TellsOf}
use Rattle.class_texts.proofs.Tests.{not_equal}
use Rattle.std.proofs.Math.Bool.{or-false}

-- behind what was read before
abbrev pub with_tally : Tally → Option (Tally × List ℕ) → Option (Tally × List ℕ)
with_tally before read = option_map (λ x. (joined before x.0, x.1)) read

at_front : (text : List ℕ) (i : ℕ) → i < length text → drop i text ≡ get_or text i 0 ∷ drop (i + 1) text
at_front text i lt = rw add-one (drop-cons text i 0 lt)

both : {a b : Bool} → a ≡ true → b ≡ true → (a && b) ≡ true
both p q = rw (p, q) refl

not_both : (a b : Bool) → (a ≡ false) ⊎ (b ≡ false) → (a && b) ≡ false
not_both false b h = refl
not_both true false h = refl
not_both true true h = elim h [ inl e ↦ absurd (cc) | inr e ↦ absurd (cc) ]

abbrev some_pair : Tally → List ℕ → Option (Tally × List ℕ)
some_pair t rest = Some (t, rest)

or_or : (a b c : Bool) → ((a || b) || c) ≡ (a || (b || c))
or_or true b c = refl
or_or false b c = refl

abbrev tally : Bool → ℕ → Tally
tally floating slots = record { floating = floating; slots = slots }

same_tally : (a b : Bool) (m n : ℕ) → a ≡ b → m ≡ n → tally a m ≡ tally b n
same_tally a b m n e k = rw (e, k) refl

cap_cap : (a b c : ℕ) → capped (capped (a + b) + c) ≡ capped (a + capped (b + c))
cap_cap a b c = omega arith

cap_inner : (a b : ℕ) → capped (a + b) ≡ capped (a + capped b)
cap_inner a b = omega arith

cap_again : (a : ℕ) → capped (0 + capped a) ≡ capped a
cap_again a = omega arith

cap_none : (a : ℕ) → a < 2 ^ 16 → capped (a + capped 0) ≡ a
cap_none a fits = omega arith

joined_joined : (a b c : Tally) → joined (joined a b) c ≡ joined a (joined b c)
joined_joined a b c = same_tally _ _ _ _ (or_or a.floating b.floating c.floating) (cap_cap a.slots b.slots c.slots)

joined_type : (t : FieldType) (ts : List FieldType) → tally_of_types (t ∷ ts) ≡ joined (tally_of t) (tally_of_types ts)
joined_type t ts = same_tally _ _ _ _ refl (ap capped (sum_by-cons slots_of t ts) ∙ cap_inner (slots_of t) (sum_by slots_of ts))

-- ---- names of classes

abbrev object_behind : Bool → ℕ → List ℕ → List ℕ → Option (Base × List ℕ)
object_behind t u name units = if t then (if length name == 0 then None else Some (Object name, units)) else object_at (name ++ u ∷ []) units

object_cons : (name : List ℕ) (u : ℕ) (units : List ℕ) (t : Bool) → (u == semicolon) ≡ t → object_at name (u ∷ units) ≡ object_behind t u name units
unfolding object_at
object_cons name u units t e = ap (λ b. object_behind b u name units) e

object_front : (text : List ℕ) (i : ℕ) (t : Bool) → i < length text → (get_or text i 0 == semicolon) ≡ t
    → object_at (take i text) (drop i text) ≡ object_behind t (get_or text i 0) (take i text) (drop (i + 1) text)
object_front text i t lt e = ap (object_at (take i text)) (at_front text i lt) ∙ object_cons (take i text) (get_or text i 0) (drop (i + 1) text) t e

pub object_next : (text : List ℕ) (i : ℕ) (whole : Option (Base × List ℕ)) → i < length text → get_or text i 0 ≢ semicolon
    → object_at (take i text) (drop i text) ≡ whole → object_at (take (i + 1) text) (drop (i + 1) text) ≡ whole
object_next text i whole lt ne so_far =
    ap (λ name. object_at name (drop (i + 1) text)) (take_more text i 0 lt) ∙ sym (object_front text i false lt (not_equal (get_or text i 0) semicolon ne)) ∙ so_far

pub object_none : (n : ℕ) (text : List ℕ) (i : ℕ) (whole : Option (Base × List ℕ)) → i < length text → get_or text i 0 ≡ semicolon → i ≡ 0
    → object_at (take i text) (drop i text) ≡ whole → None ≡ of_base n whole
object_none n text i whole lt e z so_far =
    let k : object_at (take i text) (drop i text) ≡ None = object_front text i true lt (eq-eqb (get_or text i 0) semicolon e) ∙ rw z refl in
    ap (of_base n) (sym k ∙ so_far)

pub object_some : (n : ℕ) (text : List ℕ) (i : ℕ) (whole : Option (Base × List ℕ)) → i < length text → get_or text i 0 ≡ semicolon → i ≢ 0
    → object_at (take i text) (drop i text) ≡ whole → Some (object_tally, drop (i + 1) text) ≡ of_base n whole
unfolding is_floating is_floating_base slots_of
object_some n text i whole lt e ne so_far =
    let some : (length (take i text) == 0) ≡ false = not_equal (length (take i text)) 0 (λ h. ne (omega (arith, length-take i text))) in
    let k : object_at (take i text) (drop i text) ≡ Some (Object (take i text), drop (i + 1) text) =
    object_front text i true lt (eq-eqb (get_or text i 0) semicolon e) ∙ ap (λ (b : Bool). if b then None else Some (Object (take i text), drop (i + 1) text)) some in
    ap (of_base n) (sym k ∙ so_far)

pub object_ends : (n : ℕ) (text : List ℕ) (i : ℕ) (whole : Option (Base × List ℕ)) → length text ≤ i → object_at (take i text) (drop i text) ≡ whole → None ≡ of_base n whole
unfolding object_at
object_ends n text i whole le so_far = ap (of_base n) (sym (ap (object_at (take i text)) (drop_all i text le)) ∙ so_far)

-- ---- types

type_cons : (n u : ℕ) (units : List ℕ) (t : Bool) → (u == bracket) ≡ t → type_at n (u ∷ units) ≡ (if t then type_at (suc n) units else under_dimensions n (base_at u units))
unfolding type_at
type_cons n u units t e = ap (λ (b : Bool). if b then type_at (suc n) units else under_dimensions n (base_at u units)) e

of_under : (n : ℕ) (o : Option (Base × List ℕ)) → of_type (under_dimensions n o) ≡ of_base n o
unfolding under_dimensions
of_under n None = refl
of_under n (Some x) = refl

pub type_next : (text : List ℕ) (i : ℕ) (whole : Option (FieldType × List ℕ)) → i < length text → get_or text i 0 ≡ bracket
    → type_at i (drop i text) ≡ whole → type_at (i + 1) (drop (i + 1) text) ≡ whole
type_next text i whole lt e so_far =
    let k : i + 1 ≡ suc i = omega arith in
    ap (λ n. type_at n (drop (i + 1) text)) k ∙ sym (ap (type_at i) (at_front text i lt) ∙ type_cons i (get_or text i 0) (drop (i + 1) text) true (eq-eqb (get_or text i 0) bracket e)) ∙ so_far

pub type_some : (text : List ℕ) (i : ℕ) (whole : Option (FieldType × List ℕ)) → i < length text → get_or text i 0 ≢ bracket
    → type_at i (drop i text) ≡ whole → of_base i (base_at (get_or text i 0) (drop (i + 1) text)) ≡ of_type whole
type_some text i whole lt ne so_far =
    let k = ap (type_at i) (at_front text i lt) ∙ type_cons i (get_or text i 0) (drop (i + 1) text) false (not_equal (get_or text i 0) bracket ne) in
    sym (of_under i (base_at (get_or text i 0) (drop (i + 1) text))) ∙ ap of_type (sym k ∙ so_far)

pub type_ends : (text : List ℕ) (i : ℕ) (whole : Option (FieldType × List ℕ)) → length text ≤ i → type_at i (drop i text) ≡ whole → None ≡ of_type whole
unfolding type_at
type_ends text i whole le so_far = ap of_type (sym (ap (type_at i) (drop_all i text le)) ∙ so_far)

-- ---- parameters

abbrev pub types_behind : ℕ → Option (FieldType × List ℕ) → Option (List FieldType × List ℕ)
types_behind n read = elim read [ None ↦ None | Some x ↦ with_type x.0 (types_at n x.1) ]

closed_by : (t : Bool) (units after : List ℕ) → Some after ≡ (if t then Some units else None) → (t ≡ true) × (units ≡ after)
closed_by true units after e = (refl, cc)
closed_by false units after e = absurd (cc)

open_by : (t : Bool) (units : List ℕ) → None ≡ (if t then Some units else None) → t ≡ false
open_by true units e = absurd (cc)
open_by false units e = refl

closes : (n : ℕ) (text after : List ℕ) → Some after ≡ after_closing text → types_at n text ≡ Some ([], after)
unfolding types_at after_closing
closes n [] after e = absurd (cc)
closes zero (u ∷ units) after e = let h = closed_by (u == closing) units after e in rw (h.0, h.1) refl
closes (suc n) (u ∷ units) after e = let h = closed_by (u == closing) units after e in rw (h.0, h.1) refl

stays_open : (text : List ℕ) → None ≡ after_closing text → types_at zero text ≡ None
unfolding types_at after_closing
stays_open [] e = refl
stays_open (u ∷ units) e = rw (open_by (u == closing) units e) refl

goes_on_open : (n : ℕ) (text : List ℕ) → None ≡ after_closing text → types_at (suc n) text ≡ types_behind n (type_at 0 text)
unfolding types_at type_at after_closing
goes_on_open n [] e = refl
goes_on_open n (u ∷ units) e = rw (open_by (u == closing) units e) refl

with_both : (a b : Tally) (o : Option (Tally × List ℕ)) → with_tally a (with_tally b o) ≡ with_tally (joined a b) o
with_both a b None = refl
with_both a b (Some x) = ap (λ t. some_pair t x.1) (sym (joined_joined a b x.0))

pub with_no : (o : Option (List FieldType × List ℕ)) → with_tally (tally false 0) (of_types o) ≡ of_types o
with_no None = refl
with_no (Some x) = ap (λ t. some_pair t x.1) (same_tally _ _ _ _ refl (cap_again (sum_by slots_of x.0)))

of_with_type : (t : FieldType) (o : Option (List FieldType × List ℕ)) → of_types (with_type t o) ≡ with_tally (tally_of t) (of_types o)
unfolding with_type
of_with_type t None = refl
of_with_type t (Some x) = ap (λ r. some_pair r x.1) (joined_type t x.0)

behind_some : (n : ℕ) (read : Option (FieldType × List ℕ)) (one : Tally) (after : List ℕ) → Some (one, after) ≡ of_type read → of_types (types_behind n read) ≡ with_tally one (of_types (types_at n after))
behind_some n None one after e = absurd (cc)
behind_some n (Some x) one after e =
    let h = some_pair_parts one (tally_of x.0) after x.1 e in
    of_with_type x.0 (types_at n x.1) ∙ rw (h.0, h.1) refl

behind_none : (n : ℕ) (read : Option (FieldType × List ℕ)) → None ≡ of_type read → of_types (types_behind n read) ≡ None
behind_none n None e = refl
behind_none n (Some x) e = absurd (cc)

pub types_next : (n i : ℕ) (so_much one : Tally) (rest after : List ℕ) (whole : Option (Tally × List ℕ)) → i < n → None ≡ after_closing rest → Some (one, after) ≡ of_type (type_at 0 rest)
    → with_tally so_much (of_types (types_at (n - i) rest)) ≡ whole → with_tally (joined so_much one) (of_types (types_at (n - (i + 1)) after)) ≡ whole
types_next n i so_much one rest after whole lt unclosed e so_far =
    let k : n - i ≡ suc (n - (i + 1)) = omega arith in
    sym (ap (λ m. with_tally so_much (of_types (types_at m rest))) k ∙ ap (λ o. with_tally so_much (of_types o)) (goes_on_open (n - (i + 1)) rest unclosed)
    ∙ ap (with_tally so_much) (behind_some (n - (i + 1)) (type_at 0 rest) one after e) ∙ with_both so_much one (of_types (types_at (n - (i + 1)) after))) ∙ so_far

pub types_fail : (n i : ℕ) (so_much : Tally) (rest : List ℕ) (whole : Option (Tally × List ℕ)) → i < n → None ≡ after_closing rest → None ≡ of_type (type_at 0 rest)
    → with_tally so_much (of_types (types_at (n - i) rest)) ≡ whole → None ≡ whole
types_fail n i so_much rest whole lt unclosed e so_far =
    let k : n - i ≡ suc (n - (i + 1)) = omega arith in
    sym (ap (λ m. with_tally so_much (of_types (types_at m rest))) k ∙ ap (λ o. with_tally so_much (of_types o)) (goes_on_open (n - (i + 1)) rest unclosed)
    ∙ ap (with_tally so_much) (behind_none (n - (i + 1)) (type_at 0 rest) e)) ∙ so_far

pub types_close : (n : ℕ) (so_much : Tally) (rest after : List ℕ) (whole : Option (Tally × List ℕ)) → so_much.slots < 2 ^ 16 → Some after ≡ after_closing rest
    → with_tally so_much (of_types (types_at n rest)) ≡ whole → Some (so_much, after) ≡ whole
types_close n so_much rest after whole fits closed so_far =
    ap (λ t. some_pair t after) (same_tally _ _ _ _ (sym (or-false so_much.floating)) (sym (cap_none so_much.slots fits)))
    ∙ sym (ap (λ o. with_tally so_much (of_types o)) (closes n rest after closed)) ∙ so_far

pub types_end : (n i : ℕ) (so_much : Tally) (rest : List ℕ) (whole : Option (Tally × List ℕ)) → n ≤ i → None ≡ after_closing rest
    → with_tally so_much (of_types (types_at (n - i) rest)) ≡ whole → None ≡ whole
types_end n i so_much rest whole le unclosed so_far =
    let k : n - i ≡ 0 = omega arith in
    sym (ap (λ m. with_tally so_much (of_types (types_at m rest))) k ∙ ap (λ o. with_tally so_much (of_types o)) (stays_open rest unclosed)) ∙ so_far

-- ---- descriptors

push_test : (t : Bool) (x : FieldType) → option_map is_floating (if t then Some x else None) ≡ (if t then Some (is_floating x) else None)
push_test true x = refl
push_test false x = refl

whole_by : (read : Option (FieldType × List ℕ)) (t : Tally) (rest : List ℕ) → Some (t, rest) ≡ of_type read → option_map is_floating (whole_type read) ≡ (if length rest == 0 then Some t.floating else None)
unfolding whole_type
whole_by None t rest e = absurd (cc)
whole_by (Some x) t rest e =
    let h = some_pair_parts t (tally_of x.0) rest x.1 e in
    rw (h.0, h.1) (push_test (length x.1 == 0) x.0)

pub field_whole : (text : List ℕ) (t : Tally) (rest : List ℕ) → Some (t, rest) ≡ of_type (type_at 0 text) → (length rest == 0) ≡ true → Some t.floating ≡ option_map is_floating (field_type_of text)
unfolding field_type_of
field_whole text t rest e is = sym (whole_by (type_at 0 text) t rest e ∙ ap (λ (k : Bool). if k then Some t.floating else None) is)

pub field_longer : (text : List ℕ) (t : Tally) (rest : List ℕ) → Some (t, rest) ≡ of_type (type_at 0 text) → (length rest == 0) ≡ false → None ≡ option_map is_floating (field_type_of text)
unfolding field_type_of
field_longer text t rest e is = sym (whole_by (type_at 0 text) t rest e ∙ ap (λ (k : Bool). if k then Some t.floating else None) is)

none_whole : (read : Option (FieldType × List ℕ)) → None ≡ of_type read → None ≡ option_map is_floating (whole_type read)
unfolding whole_type
none_whole None e = refl
none_whole (Some x) e = absurd (cc)

pub field_none : (text : List ℕ) → None ≡ of_type (type_at 0 text) → None ≡ option_map is_floating (field_type_of text)
unfolding field_type_of
field_none text e = none_whole (type_at 0 text) e

some_result : (o : Option FieldType) → option_map is_floating o ≡ option_map is_floating_result (elim o [ None ↦ None | Some t ↦ Some (Some t) ])
unfolding is_floating_result
some_result None = refl
some_result (Some t) = refl

result_by : (u : ℕ) (units : List ℕ) (t : Bool) → ((u == letter_v) && (length units == 0)) ≡ t
    → option_map is_floating_result (result_of (u ∷ units)) ≡ (if t then Some false else option_map is_floating (field_type_of (u ∷ units)))
unfolding result_of is_floating_result
result_by u units true e = rw e refl
result_by u units false e = rw e (sym (some_result (field_type_of (u ∷ units))))

pub result_void : (u : ℕ) (units : List ℕ) → u ≡ letter_v → (length units == 0) ≡ true → Some false ≡ option_map is_floating_result (result_of (u ∷ units))
result_void u units e t = sym (result_by u units true (both (eq-eqb u letter_v e) t))

pub result_type : (u : ℕ) (units : List ℕ) → ((u ≢ letter_v) ⊎ ((length units == 0) ≡ false)) → option_map is_floating (field_type_of (u ∷ units)) ≡ option_map is_floating_result (result_of (u ∷ units))
result_type u units h = sym (result_by u units false (not_both (u == letter_v) (length units == 0) (elim h [ inl n ↦ inl (not_equal u letter_v n) | inr e ↦ inr e ])))

abbrev pub signature_behind : Option (List FieldType × List ℕ) → Option MethodType
signature_behind types = elim types [ None ↦ None | Some x ↦ with_result x.0 (result_of x.1) ]

with_some : (types : List FieldType) (r : Option (Option FieldType)) (a : Tally) (b : Bool) → a ≡ tally_of_types types → Some b ≡ option_map is_floating_result r
    → Some (tally (a.floating || b) a.slots) ≡ option_map tally_of_method (with_result types r)
unfolding with_result has_floating argument_slots
with_some types None a b e k = absurd (cc)
with_some types (Some r) a b e k = let h : b ≡ is_floating_result r = cc in rw (e, h) refl

with_none : (types : List FieldType) (r : Option (Option FieldType)) → None ≡ option_map is_floating_result r → None ≡ option_map tally_of_method (with_result types r)
unfolding with_result
with_none types None e = refl
with_none types (Some r) e = absurd (cc)

some_signature : (types : Option (List FieldType × List ℕ)) (a : Tally) (b : Bool) (rest : List ℕ) → Some (a, rest) ≡ of_types types → Some b ≡ option_map is_floating_result (result_of rest)
    → Some (tally (a.floating || b) a.slots) ≡ option_map tally_of_method (signature_behind types)
some_signature None a b rest e k = absurd (cc)
some_signature (Some x) a b rest e k =
    let h = some_pair_parts a (tally_of_types x.0) rest x.1 e in
    with_some x.0 (result_of x.1) a b h.0 (subst (λ (r : List ℕ). Some b ≡ option_map is_floating_result (result_of r)) h.1 k)

no_result : (types : Option (List FieldType × List ℕ)) (a : Tally) (rest : List ℕ) → Some (a, rest) ≡ of_types types → None ≡ option_map is_floating_result (result_of rest)
    → None ≡ option_map tally_of_method (signature_behind types)
no_result None a rest e k = absurd (cc)
no_result (Some x) a rest e k =
    let h = some_pair_parts a (tally_of_types x.0) rest x.1 e in
    with_none x.0 (result_of x.1) (subst (λ (r : List ℕ). None ≡ option_map is_floating_result (result_of r)) h.1 k)

no_types : (types : Option (List FieldType × List ℕ)) → None ≡ of_types types → None ≡ option_map tally_of_method (signature_behind types)
no_types None e = refl
no_types (Some x) e = absurd (cc)

pub signature_some : (units : List ℕ) (a : Tally) (b : Bool) (rest : List ℕ) → Some (a, rest) ≡ of_types (types_at (length units) units) → Some b ≡ option_map is_floating_result (result_of rest)
    → Some (tally (a.floating || b) a.slots) ≡ option_map tally_of_method (signature_of units)
unfolding signature_of
signature_some units a b rest e k = some_signature (types_at (length units) units) a b rest e k

pub signature_no_result : (units : List ℕ) (a : Tally) (rest : List ℕ) → Some (a, rest) ≡ of_types (types_at (length units) units) → None ≡ option_map is_floating_result (result_of rest)
    → None ≡ option_map tally_of_method (signature_of units)
unfolding signature_of
signature_no_result units a rest e k = no_result (types_at (length units) units) a rest e k

pub signature_none : (units : List ℕ) → None ≡ of_types (types_at (length units) units) → None ≡ option_map tally_of_method (signature_of units)
unfolding signature_of
signature_none units e = no_types (types_at (length units) units) e

-- ---- answers

pub tells_of : {A : Type 0} (test : A → Bool) (value : Option A) (answer : Option Bool) → answer ≡ option_map test value → TellsOf test value answer
tells_of test None None e = refl
tells_of test (Some x) None e = absurd (cc)
tells_of test None (Some b) e = absurd (cc)
tells_of test (Some x) (Some b) e = (x, refl, cc)

pub is_some_of : {A : Type 0} (test : A → Bool) (value : Option A) (answer : Option Bool) → answer ≡ option_map test value → is_some answer ≡ is_some value
is_some_of test None None e = refl
is_some_of test (Some x) None e = absurd (cc)
is_some_of test None (Some b) e = absurd (cc)
is_some_of test (Some x) (Some b) e = refl

pub method_told : (value : Option MethodType) (t : Tally) → Some t ≡ option_map tally_of_method value → TellsOf has_floating value (Some t.floating)
method_told None t e = absurd (cc)
method_told (Some m) t e = let h : t ≡ tally_of_method m = cc in (m, refl, ap (λ (r : Tally). r.floating) h)

pub method_untold : (value : Option MethodType) → None ≡ option_map tally_of_method value → TellsOf has_floating value None
method_untold None e = refl
method_untold (Some m) e = absurd (cc)

pub method_slots : (value : Option MethodType) (t : Tally) → Some t ≡ option_map tally_of_method value → Some t.slots ≡ option_map (λ m. capped (argument_slots m)) value
method_slots None t e = absurd (cc)
method_slots (Some m) t e = let h : t ≡ tally_of_method m = cc in ap Some (ap (λ (r : Tally). r.slots) h)

pub method_no_slots : (value : Option MethodType) → None ≡ option_map tally_of_method value → None ≡ option_map (λ m. capped (argument_slots m)) value
method_no_slots None e = refl
method_no_slots (Some m) e = absurd (cc)

-- ---- the first unit and the others, as code takes them apart

pub tail : (text : List ℕ) (k : ℕ) → take (length text - k) (drop k text) ≡ drop k text
tail text k = take_all (length text - k) (drop k text) (omega (arith, length-drop k text))

pub apart : (text : List ℕ) → 1 ≤ length text → text ≡ get_or text 0 0 ∷ take (length text - 1) (drop 1 text)
apart [] h = absurd (omega arith)
apart (u ∷ units) h = ap (λ us. u ∷ us) (sym (tail (u ∷ units) 1))

pub result_void_at : (text rest : List ℕ) (u : ℕ) → text ≡ u ∷ rest → u ≡ letter_v → (length rest == 0) ≡ true → Some false ≡ option_map is_floating_result (result_of text)
result_void_at text rest u e v t = rw e (result_void u rest v t)

pub result_type_at : (text rest : List ℕ) (u : ℕ) → text ≡ u ∷ rest → ((u ≢ letter_v) ⊎ ((length rest == 0) ≡ false)) → option_map is_floating (field_type_of text) ≡ option_map is_floating_result (result_of text)
result_type_at text rest u e h = rw e (result_type u rest h)

method_cons : (u : ℕ) (units : List ℕ) (t : Bool) → (u == opening) ≡ t → method_type_of (u ∷ units) ≡ (if t then signature_of units else None)
unfolding method_type_of signature_of
method_cons u units t e = ap (λ (b : Bool). if b then signature_of units else None) e

pub method_opened : (text rest : List ℕ) (u : ℕ) → text ≡ u ∷ rest → u ≡ opening → option_map tally_of_method (signature_of rest) ≡ option_map tally_of_method (method_type_of text)
method_opened text rest u e h = rw e (ap (option_map tally_of_method) (sym (method_cons u rest true (eq-eqb u opening h))))

pub method_unopened : (text rest : List ℕ) (u : ℕ) → text ≡ u ∷ rest → u ≢ opening → None ≡ option_map tally_of_method (method_type_of text)
method_unopened text rest u e h = rw e (ap (option_map tally_of_method) (sym (method_cons u rest false (not_equal u opening h))))

pub ruleset fields = (field_whole, field_longer, field_none)

pub ruleset methods = (method_told, method_untold, method_slots, method_no_slots)

pub ruleset signatures = (signature_some, signature_no_result, signature_none)
