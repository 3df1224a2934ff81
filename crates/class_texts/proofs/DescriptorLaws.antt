-- What reading a descriptor gives is the type that it spells.
use Rattle.std.proofs.Common.{◌≡◌, ◌≢◌, ℕ, zero, suc, ◌+◌, ◌≤◌, List, [], ◌∷◌, ◌++◌, length, Bool, true, false, Option, Some, None, refl, sym, ap, subst, ◌∙◌, inl, inr, append_assoc, length-append, arith}
use Rattle.std.specs.Prelude.{replicate, if◌then◌else◌, ◌&&◌, ◌==◌, ◌⊎◌}
use Rattle.std.specs.List.{flat_map, AllByRecursion}
use Rattle.std.proofs.lemmas.Bool.{eqb-true}
use Rattle.std.proofs.lemmas.List.{append-nil, nil_from_length}
use Rattle.std.proofs.lemmas.Option.{some_pair_parts}
use Rattle.class_grammar.specs.Descriptors.{Base, Number, Object, FieldType, MethodType, is_number_letter, semicolon, letter_l, bracket, opening, closing, letter_v, base_text, type_text, result_text, method_type_text, IsBase, IsResult, IsFieldDescriptor, IsMethodDescriptor, object_at, base_at, under_dimensions, type_at, whole_type, field_type_of, with_type, types_at, result_of, with_result, method_type_of}
use Rattle.class_grammar.proofs.PartLaws.{Tells}
use Rattle.class_texts.proofs.Shapes.{types_behind, signature_behind}
use Rattle.class_texts.proofs.Tests.{not_equal, unequal}

-- ---- tests

no_units : (text : List ℕ) → (length text == 0) ≡ true → text ≡ []
no_units text e = nil_from_length text (eqb-true (length text) 0 e)

some_units : (text : List ℕ) → text ≢ [] → (length text == 0) ≡ false
some_units text ne = not_equal (length text) 0 (λ e. ne (nil_from_length text e))

chosen : {X : Type 0} (t : Bool) (x y z : X) → (if t then x else y) ≡ z → ((t ≡ true) × (x ≡ z)) ⊎ ((t ≡ false) × (y ≡ z))
chosen true x y z e = inl (refl, e)
chosen false x y z e = inr (refl, e)

abbrev Read : Type 0 → Type 0
Read A = Option (A × List ℕ)

abbrev read_of : {A : Type 0} → A → List ℕ → Read A
read_of x rest = Some (x, rest)

value_is : {A : Type 0} (x y : A) (a b : List ℕ) → read_of x a ≡ read_of y b → x ≡ y
value_is x y a b e = (some_pair_parts x y a b e).0

rest_is : {A : Type 0} (x y : A) (a b : List ℕ) → read_of x a ≡ read_of y b → a ≡ b
rest_is x y a b e = (some_pair_parts x y a b e).1

nothing : {A : Type 0} (y : A) → None ≡ Some y → ⊥
nothing y e = cc

some_is : {A : Type 0} (x y : A) → Some x ≡ Some y → x ≡ y
some_is x y e = cc

both_true : (a b : Bool) → (a && b) ≡ true → (a ≡ true) × (b ≡ true)
both_true true b e = (refl, e)
both_true false b e = absurd (cc)

-- ---- names of classes

record ObjectRead (name units : List ℕ) (b : Base) (rest : List ℕ) : Type 0 where
  more : List ℕ
  is : b ≡ Object (name ++ more)
  spelled : units ≡ more ++ semicolon ∷ rest
  some : name ++ more ≢ []
  all : AllByRecursion (λ u. u ≢ semicolon) more

object_here : (name units : List ℕ) (u : ℕ) (b : Base) (rest : List ℕ) → (u == semicolon) ≡ true → (if length name == 0 then None else read_of (Object name) units) ≡ read_of b rest
    → ObjectRead name (u ∷ units) b rest
object_here name units u b rest t e = elim (chosen (length name == 0) None (read_of (Object name) units) (read_of b rest) e) [
  | inl h ↦ absurd (nothing (b, rest) h.1)
  | inr h ↦ record {
    more = [];
    is = sym (value_is (Object name) b units rest h.1) ∙ ap Object (sym (append-nil name));
    spelled = ap (λ v. v ∷ units) (eqb-true u semicolon t) ∙ ap (λ us. semicolon ∷ us) (rest_is (Object name) b units rest h.1);
    some = λ z. unequal (length name) 0 h.0 (ap length (sym (append-nil name) ∙ z));
    all = tt;
  }
]

object_found : (name units : List ℕ) (b : Base) (rest : List ℕ) → object_at name units ≡ Some (b, rest) → ObjectRead name units b rest
unfolding object_at
object_found name [] b rest e = absurd (nothing (b, rest) e)
object_found name (u ∷ units) b rest e =
    elim (chosen (u == semicolon) (if length name == 0 then None else read_of (Object name) units) (object_at (name ++ u ∷ []) units) (read_of b rest) e) [
      | inl h ↦ object_here name units u b rest h.0 h.1
      | inr h ↦ let r = object_found (name ++ u ∷ []) units b rest h.1 in record {
        more = u ∷ r.more;
        is = r.is ∙ ap Object (append_assoc name (u ∷ []) r.more);
        spelled = ap (λ us. u ∷ us) r.spelled;
        some = λ z. r.some (append_assoc name (u ∷ []) r.more ∙ z);
        all = (unequal u semicolon h.0, r.all);
      }
    ]

object_again : (name more rest : List ℕ) → AllByRecursion (λ u. u ≢ semicolon) more → name ++ more ≢ [] → object_at name (more ++ semicolon ∷ rest) ≡ Some (Object (name ++ more), rest)
unfolding object_at
object_again name [] rest h some =
    ap (λ (b : Bool). if b then None else read_of (Object name) rest) (some_units name (λ e. some (append-nil name ∙ e))) ∙ ap (λ n. read_of (Object n) rest) (sym (append-nil name))
object_again name (u ∷ more) rest h some =
    let e = append_assoc name (u ∷ []) more in
    ap (λ (b : Bool). if b then (if length name == 0 then None else read_of (Object name) (more ++ semicolon ∷ rest)) else object_at (name ++ u ∷ []) (more ++ semicolon ∷ rest)) (not_equal u semicolon h.0)
    ∙ object_again (name ++ u ∷ []) more rest h.1 (λ z. some (sym e ∙ z)) ∙ ap (λ n. read_of (Object n) rest) e

-- ---- bases

base_found : (u : ℕ) (units : List ℕ) (b : Base) (rest : List ℕ) → base_at u units ≡ Some (b, rest) → (u ∷ units ≡ base_text b ++ rest) × IsBase b
unfolding base_at base_text
base_found u units b rest e = elim (chosen (is_number_letter u) (read_of (Number u) units) (if u == letter_l then object_at [] units else None) (read_of b rest) e) [
  | inl h ↦
      (ap (λ us. u ∷ us) (rest_is (Number u) b units rest h.1) ∙ ap (λ c. base_text c ++ rest) (value_is (Number u) b units rest h.1), subst IsBase (value_is (Number u) b units rest h.1) h.0)
  | inr h ↦ elim (chosen (u == letter_l) (object_at [] units) None (read_of b rest) h.1) [
    | inl k ↦ let r = object_found [] units b rest k.1 in
        (ap (λ v. v ∷ units) (eqb-true u letter_l k.0) ∙ ap (λ us. letter_l ∷ us) (r.spelled ∙ sym (append_assoc r.more (semicolon ∷ []) rest)) ∙ ap (λ c. base_text c ++ rest) (sym r.is), subst IsBase (sym r.is) (r.some, r.all))
    | inr k ↦ absurd (nothing (b, rest) k.1)
  ]
]

-- how a base begins
record BaseText (b : Base) (rest : List ℕ) : Type 0 where
  first : ℕ
  others : List ℕ
  text : base_text b ++ rest ≡ first ∷ others
  read : base_at first others ≡ Some (b, rest)
  no_bracket : (first == bracket) ≡ false
  no_closing : (first == closing) ≡ false
  no_void : (first == letter_v) ≡ false

is_no : (u v : ℕ) → is_number_letter v ≡ false → is_number_letter u ≡ true → (u == v) ≡ false
is_no u v n y = not_equal u v (λ e. let k : is_number_letter u ≡ false = ap is_number_letter e ∙ n in absurd (cc))

base_again : (b : Base) (rest : List ℕ) → IsBase b → BaseText b rest
unfolding base_at base_text is_number_letter
base_again (Number u) rest h = record {
  first = u;
  others = rest;
  text = refl;
  read = ap (λ (t : Bool). if t then read_of (Number u) rest else (if u == letter_l then object_at [] rest else None)) h;
  no_bracket = is_no u bracket refl h;
  no_closing = is_no u closing refl h;
  no_void = is_no u letter_v refl h;
}
base_again (Object name) rest h = record {
  first = letter_l;
  others = name ++ semicolon ∷ rest;
  text = ap (λ us. letter_l ∷ us) (append_assoc name (semicolon ∷ []) rest);
  read = object_again [] name rest h.1 h.0;
  no_bracket = refl;
  no_closing = refl;
  no_void = refl;
}

-- ---- types

abbrev dimension : ℕ → Base → FieldType
dimension n b = record { dimensions = n; base = b }

record TypeRead (n : ℕ) (text : List ℕ) (t : FieldType) (rest : List ℕ) : Type 0 where
  more : ℕ
  dimensions : t.dimensions ≡ n + more
  spelled : text ≡ replicate more bracket ++ (base_text t.base ++ rest)
  base : IsBase t.base

under_found : (n : ℕ) (o : Read Base) (t : FieldType) (rest : List ℕ) → under_dimensions n o ≡ Some (t, rest) → (b : Base) × (o ≡ Some (b, rest)) × (t ≡ dimension n b)
unfolding under_dimensions
under_found n None t rest e = absurd (nothing (t, rest) e)
under_found n (Some x) t rest e = (x.0, ap (λ r. read_of x.0 r) (rest_is (dimension n x.0) t x.1 rest e), sym (value_is (dimension n x.0) t x.1 rest e))

type_found : (n : ℕ) (text : List ℕ) (t : FieldType) (rest : List ℕ) → type_at n text ≡ Some (t, rest) → TypeRead n text t rest
unfolding type_at
type_found n [] t rest e = absurd (nothing (t, rest) e)
type_found n (u ∷ units) t rest e = elim (chosen (u == bracket) (type_at (suc n) units) (under_dimensions n (base_at u units)) (read_of t rest) e) [
  | inl h ↦ let r = type_found (suc n) units t rest h.1 in record {
    more = suc r.more;
    dimensions = r.dimensions ∙ omega arith;
    spelled = ap (λ v. v ∷ units) (eqb-true u bracket h.0) ∙ ap (λ us. bracket ∷ us) r.spelled;
    base = r.base;
  }
  | inr h ↦
      let k = under_found n (base_at u units) t rest h.1 in
      let w = base_found u units k.0 rest k.1 in
      let same : k.0 ≡ t.base = ap (λ (f : FieldType). f.base) (sym k.2) in
      record {
        more = 0;
        dimensions = ap (λ (f : FieldType). f.dimensions) k.2 ∙ omega arith;
        spelled = w.0 ∙ ap (λ c. base_text c ++ rest) same;
        base = subst IsBase same w.1;
      }
]

type_again : (n k : ℕ) (b : Base) (rest : List ℕ) → IsBase b → type_at n (replicate k bracket ++ (base_text b ++ rest)) ≡ Some (dimension (n + k) b, rest)
unfolding type_at under_dimensions
type_again n zero b rest h =
    let w = base_again b rest h in
    let same : n + 0 ≡ n = omega arith in
    ap (type_at n) w.text ∙ ap (λ (t : Bool). if t then type_at (suc n) w.others else under_dimensions n (base_at w.first w.others)) w.no_bracket ∙ ap (under_dimensions n) w.read ∙ ap (λ m. read_of (dimension m b) rest) (sym same)
type_again n (suc k) b rest h =
    let same : suc n + k ≡ n + suc k = omega arith in
    type_again (suc n) k b rest h ∙ ap (λ m. read_of (dimension m b) rest) same

type_at_front : (t : FieldType) (rest : List ℕ) → IsBase t.base → type_at 0 (type_text t ++ rest) ≡ Some (t, rest)
unfolding type_text
type_at_front t rest h =
    let same : 0 + t.dimensions ≡ t.dimensions = omega arith in
    ap (type_at 0) (append_assoc (replicate t.dimensions bracket) (base_text t.base) rest) ∙ type_again 0 t.dimensions t.base rest h ∙ ap (λ m. read_of (dimension m t.base) rest) same

type_spelled : (text : List ℕ) (t : FieldType) (rest : List ℕ) → type_at 0 text ≡ Some (t, rest) → (text ≡ type_text t ++ rest) × IsBase t.base
unfolding type_text
type_spelled text t rest e =
    let r = type_found 0 text t rest e in
    let same : r.more ≡ t.dimensions = omega (arith, r.dimensions) in
    (r.spelled ∙ ap (λ m. replicate m bracket ++ (base_text t.base ++ rest)) same ∙ sym (append_assoc (replicate t.dimensions bracket) (base_text t.base) rest), r.base)

whole_found : (o : Read FieldType) (t : FieldType) → whole_type o ≡ Some t → o ≡ Some (t, [])
unfolding whole_type
whole_found None t e = absurd (nothing t e)
whole_found (Some x) t e = elim (chosen (length x.1 == 0) (Some x.0) None (Some t) e) [
  | inl h ↦ let same : x.0 ≡ t = some_is x.0 t h.1 in ap (λ r. read_of x.0 r) (no_units x.1 h.0) ∙ ap (λ y. read_of y []) same
  | inr h ↦ absurd (nothing t h.1)
]

field_found : (text : List ℕ) (t : FieldType) → field_type_of text ≡ Some t → (text ≡ type_text t) × IsBase t.base
unfolding field_type_of
field_found text t e =
    let w = type_spelled text t [] (whole_found (type_at 0 text) t e) in
    (w.0 ∙ append-nil (type_text t), w.1)

field_again : (t : FieldType) → IsBase t.base → field_type_of (type_text t) ≡ Some t
unfolding field_type_of whole_type
field_again t h = ap whole_type (ap (type_at 0) (sym (append-nil (type_text t))) ∙ type_at_front t [] h)

pub field_law : (text : List ℕ) → Tells (IsFieldDescriptor text) (field_type_of text)
field_law text = record {
  told = λ t e. let w = field_found text t e in record { spelled = w.0; base = w.1 };
  meant_only = λ t h. ap field_type_of h.spelled ∙ field_again t h.base;
}

-- ---- parameters

-- how a type begins
record TypeText (t : FieldType) (rest : List ℕ) : Type 0 where
  first : ℕ
  others : List ℕ
  text : type_text t ++ rest ≡ first ∷ others
  no_closing : (first == closing) ≡ false
  no_void : (first == letter_v) ≡ false

type_begins : (n : ℕ) (b : Base) (rest : List ℕ) → IsBase b → TypeText (dimension n b) rest
unfolding type_text
type_begins zero b rest h = let w = base_again b rest h in record { first = w.first; others = w.others; text = w.text; no_closing = w.no_closing; no_void = w.no_void }
type_begins (suc n) b rest h = record { first = bracket; others = (replicate n bracket ++ base_text b) ++ rest; text = refl; no_closing = refl; no_void = refl }

with_found : (t : FieldType) (o : Read (List FieldType)) (ts : List FieldType) (rest : List ℕ) → with_type t o ≡ Some (ts, rest) → (us : List FieldType) × (o ≡ Some (us, rest)) × (ts ≡ t ∷ us)
unfolding with_type
with_found t None ts rest e = absurd (nothing (ts, rest) e)
with_found t (Some x) ts rest e = (x.0, ap (λ r. read_of x.0 r) (rest_is (t ∷ x.0) ts x.1 rest e), sym (value_is (t ∷ x.0) ts x.1 rest e))

behind_found : (n : ℕ) (o : Read FieldType) (ts : List FieldType) (rest : List ℕ) → types_behind n o ≡ Some (ts, rest) → (x : FieldType × List ℕ) × (us : List FieldType) × (o ≡ Some x) × (types_at n x.1 ≡ Some (us, rest)) × (ts ≡ x.0 ∷ us)
behind_found n None ts rest e = absurd (nothing (ts, rest) e)
behind_found n (Some x) ts rest e = let w = with_found x.0 (types_at n x.1) ts rest e in (x, w.0, refl, w.1, w.2)

IsSpelledTypes : List ℕ → List FieldType → List ℕ → Type 0
IsSpelledTypes text ts rest = (text ≡ flat_map type_text ts ++ closing ∷ rest) × AllByRecursion (λ t. IsBase t.base) ts

no_types : (u : ℕ) (units : List ℕ) (ts : List FieldType) (rest : List ℕ) → (u == closing) ≡ true → read_of [] units ≡ read_of ts rest → IsSpelledTypes (u ∷ units) ts rest
unfolding IsSpelledTypes
no_types u units ts rest t e =
    subst (λ (us : List FieldType). (u ∷ units ≡ flat_map type_text us ++ closing ∷ rest) × AllByRecursion (λ f. IsBase f.base) us) (value_is [] ts units rest e)
    (ap (λ v. v ∷ units) (eqb-true u closing t) ∙ ap (λ r. closing ∷ r) (rest_is [] ts units rest e), tt)

more_types : (u : ℕ) (units : List ℕ) (ts us : List FieldType) (x : FieldType × List ℕ) (rest : List ℕ) → type_at 0 (u ∷ units) ≡ Some x → ts ≡ x.0 ∷ us → IsSpelledTypes x.1 us rest → IsSpelledTypes (u ∷ units) ts rest
unfolding IsSpelledTypes
more_types u units ts us x rest e same h =
    let w = type_spelled (u ∷ units) x.0 x.1 e in
    subst (λ (vs : List FieldType). (u ∷ units ≡ flat_map type_text vs ++ closing ∷ rest) × AllByRecursion (λ f. IsBase f.base) vs) (sym same)
    (w.0 ∙ ap (λ r. type_text x.0 ++ r) h.0 ∙ sym (append_assoc (type_text x.0) (flat_map type_text us) (closing ∷ rest)), (w.1, h.1))

types_found : (n : ℕ) (text : List ℕ) (ts : List FieldType) (rest : List ℕ) → types_at n text ≡ Some (ts, rest) → IsSpelledTypes text ts rest
unfolding types_at
types_found n [] ts rest e = absurd (nothing (ts, rest) e)
types_found zero (u ∷ units) ts rest e = elim (chosen (u == closing) (read_of [] units) None (read_of ts rest) e) [
  | inl h ↦ no_types u units ts rest h.0 h.1
  | inr h ↦ absurd (nothing (ts, rest) h.1)
]
types_found (suc n) (u ∷ units) ts rest e = elim (chosen (u == closing) (read_of [] units) (types_behind n (type_at 0 (u ∷ units))) (read_of ts rest) e) [
  | inl h ↦ no_types u units ts rest h.0 h.1
  | inr h ↦
      let r = behind_found n (type_at 0 (u ∷ units)) ts rest h.1 in
      more_types u units ts r.1 r.0 rest r.2 r.4 (types_found n r.0.1 r.1 rest r.3)
]

types_closed : (n : ℕ) (rest : List ℕ) → types_at n (closing ∷ rest) ≡ Some ([], rest)
unfolding types_at
types_closed zero rest = refl
types_closed (suc n) rest = refl

types_open : (n u : ℕ) (units : List ℕ) → (u == closing) ≡ false → types_at (suc n) (u ∷ units) ≡ types_behind n (type_at 0 (u ∷ units))
unfolding types_at
types_open n u units e = ap (λ (t : Bool). if t then read_of [] units else types_behind n (type_at 0 (u ∷ units))) e

types_again : (n : ℕ) (ts : List FieldType) (rest : List ℕ) → AllByRecursion (λ t. IsBase t.base) ts → length ts ≤ n → types_at n (flat_map type_text ts ++ closing ∷ rest) ≡ Some (ts, rest)
unfolding with_type
types_again n [] rest h le = types_closed n rest
types_again zero (t ∷ ts) rest h le = absurd (omega arith)
types_again (suc n) (t ∷ ts) rest h le =
    let behind = flat_map type_text ts ++ closing ∷ rest in
    let w = type_begins t.dimensions t.base behind h.0 in
    let first : (flat_map type_text (t ∷ ts) ++ closing ∷ rest) ≡ type_text t ++ behind = append_assoc (type_text t) (flat_map type_text ts) (closing ∷ rest) in
    ap (types_at (suc n)) (first ∙ w.text) ∙ types_open n w.first w.others w.no_closing
    ∙ ap (λ r. types_behind n (type_at 0 r)) (sym w.text) ∙ ap (types_behind n) (type_at_front t behind h.0) ∙ ap (with_type t) (types_again n ts rest h.1 (omega arith))

base_long : (b : Base) → 1 ≤ length (base_text b)
unfolding base_text
base_long (Number u) = omega arith
base_long (Object name) = omega arith

type_long : (t : FieldType) → 1 ≤ length (type_text t)
unfolding type_text
type_long t = omega (arith, length-append (replicate t.dimensions bracket) (base_text t.base), base_long t.base)

types_long : (ts : List FieldType) → length ts ≤ length (flat_map type_text ts)
types_long [] = omega arith
types_long (t ∷ ts) = omega (arith, length-append (type_text t) (flat_map type_text ts), type_long t, types_long ts)

-- ---- methods

result_type : (o : Option FieldType) (r : Option FieldType) → (elim o [ None ↦ None | Some t ↦ Some (Some t) ]) ≡ Some r → (t : FieldType) × (o ≡ Some t) × (r ≡ Some t)
result_type None r e = absurd (nothing r e)
result_type (Some t) r e = (t, refl, sym (some_is (Some t) r e))

IsSpelledResult : List ℕ → Option FieldType → Type 0
IsSpelledResult text r = (text ≡ result_text r) × IsResult r

result_found : (text : List ℕ) (r : Option FieldType) → result_of text ≡ Some r → IsSpelledResult text r
unfolding result_of result_text IsSpelledResult
result_found [] r e = absurd (nothing r e)
result_found (u ∷ units) r e = elim (chosen ((u == letter_v) && (length units == 0)) (Some None) (elim (field_type_of (u ∷ units)) [ None ↦ None | Some t ↦ Some (Some t) ]) (Some r) e) [
  | inl h ↦
      let w = both_true (u == letter_v) (length units == 0) h.0 in
      subst (λ (s : Option FieldType). (u ∷ units ≡ result_text s) × IsResult s) (some_is None r h.1)
      (ap (λ v. v ∷ units) (eqb-true u letter_v w.0) ∙ ap (λ us. letter_v ∷ us) (no_units units w.1), tt)
  | inr h ↦
      let w = result_type (field_type_of (u ∷ units)) r h.1 in
      subst (λ (s : Option FieldType). (u ∷ units ≡ result_text s) × IsResult s) (sym w.2) (field_found (u ∷ units) w.0 w.1)
]

result_cons : (u : ℕ) (units : List ℕ) → (u == letter_v) ≡ false → result_of (u ∷ units) ≡ (elim (field_type_of (u ∷ units)) [ None ↦ None | Some t ↦ Some (Some t) ])
unfolding result_of
result_cons u units e = ap (λ (t : Bool). if t && (length units == 0) then Some None else (elim (field_type_of (u ∷ units)) [ None ↦ None | Some t ↦ Some (Some t) ])) e

result_again : (r : Option FieldType) → IsResult r → result_of (result_text r) ≡ Some r
unfolding result_text result_of
result_again None h = refl
result_again (Some t) h =
    let w = type_begins t.dimensions t.base [] h in
    let text : type_text t ≡ w.first ∷ w.others = sym (append-nil (type_text t)) ∙ w.text in
    ap result_of text ∙ result_cons w.first w.others w.no_void
    ∙ ap (λ (o : Option FieldType). elim o [ None ↦ None | Some t ↦ Some (Some t) ]) (ap field_type_of (sym text) ∙ field_again t h)

record SignatureRead (units : List ℕ) (m : MethodType) : Type 0 where
  spelled : units ≡ flat_map type_text m.parameters ++ (closing ∷ result_text m.result)
  parameters : AllByRecursion (λ t. IsBase t.base) m.parameters
  result : IsResult m.result

abbrev signature : List FieldType → Option FieldType → MethodType
signature ts r = record { parameters = ts; result = r }

with_result_found : (ts : List FieldType) (o : Option (Option FieldType)) (m : MethodType) → with_result ts o ≡ Some m → (r : Option FieldType) × (o ≡ Some r) × (m ≡ signature ts r)
unfolding with_result
with_result_found ts None m e = absurd (nothing m e)
with_result_found ts (Some r) m e = (r, refl, sym (some_is (signature ts r) m e))

signature_found : (o : Read (List FieldType)) (m : MethodType) → signature_behind o ≡ Some m → (x : List FieldType × List ℕ) × (r : Option FieldType) × (o ≡ Some x) × (result_of x.1 ≡ Some r) × (m ≡ signature x.0 r)
signature_found None m e = absurd (nothing m e)
signature_found (Some x) m e = let w = with_result_found x.0 (result_of x.1) m e in (x, w.0, refl, w.1, w.2)

method_found : (text : List ℕ) (m : MethodType) → method_type_of text ≡ Some m → IsMethodDescriptor text m
unfolding method_type_of method_type_text IsSpelledTypes IsSpelledResult
method_found [] m e = absurd (nothing m e)
method_found (u ∷ units) m e = elim (chosen (u == opening) (signature_behind (types_at (length units) units)) None (Some m) e) [
  | inl h ↦
      let w = signature_found (types_at (length units) units) m h.1 in
      let ts = types_found (length units) units w.0.0 w.0.1 w.2 in
      let r = result_found w.0.1 w.1 w.3 in
      subst (IsMethodDescriptor (u ∷ units)) (sym w.4) (record {
        spelled = ap (λ v. v ∷ units) (eqb-true u opening h.0) ∙ ap (λ us. opening ∷ us) (ts.0 ∙ ap (λ us. flat_map type_text w.0.0 ++ closing ∷ us) r.0);
        parameters = ts.1;
        result = r.1;
      })
  | inr h ↦ absurd (nothing m h.1)
]

method_opened : (units : List ℕ) → method_type_of (opening ∷ units) ≡ signature_behind (types_at (length units) units)
unfolding method_type_of
method_opened units = refl

method_again : (m : MethodType) → AllByRecursion (λ t. IsBase t.base) m.parameters → IsResult m.result → method_type_of (method_type_text m) ≡ Some m
unfolding method_type_text with_result
method_again m ps r =
    let units = flat_map type_text m.parameters ++ (closing ∷ result_text m.result) in
    let le : length m.parameters ≤ length units = omega (arith, length-append (flat_map type_text m.parameters) (closing ∷ result_text m.result), types_long m.parameters) in
    method_opened units ∙ ap signature_behind (types_again (length units) m.parameters (result_text m.result) ps le) ∙ ap (with_result m.parameters) (result_again m.result r)

pub method_law : (text : List ℕ) → Tells (IsMethodDescriptor text) (method_type_of text)
method_law text = record {
  told = λ m e. method_found text m e;
  meant_only = λ m h. ap method_type_of h.spelled ∙ method_again m h.parameters h.result;
}
