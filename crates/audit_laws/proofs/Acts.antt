-- Where an act ends, and that its words tell it.
use Rattle.std.proofs.Common.{◌≡◌, ℕ, ℤ, List, [], ◌∷◌, ◌++◌, codes, true, Option, Some, None, IsSome, IfSome, ◌⊎◌, inl, inr, refl, sym, ap, ◌∙◌, arith}
use Rattle.std.specs.List.{AllByRecursion}
use Rattle.std.proofs.lemmas.List.{append_cancel_left}
use Rattle.std.specs.Fmt.{decimal, signed_decimal}
use Rattle.jx_base.specs.Texts.{quoted}
use Rattle.jx_base.specs.declared.act.Act.{Act}
use Rattle.jx_base.specs.declared.act.Act.TheVariants as act
use Rattle.jx_base.specs.declared.act.Reason.{Reason}
use Rattle.jx_base.specs.declared.act.Reason.TheVariants as reason
use Rattle.jx_base.specs.declared.ids.ClassId.{ClassId}
use Rattle.jx_base.specs.declared.ids.ThreadId.{ThreadId}
use Rattle.jx_base.specs.declared.value.Parcel.{Parcel}
use Rattle.jx_base.specs.declared.program.System.{System}
use Rattle.program_model.specs.Lookup.{selector_at}
use Rattle.program_model.specs.Limits.{thread_limit}
use Rattle.jx_base.specs.Histories.{Past}
use Rattle.jx_model.specs.WellMade.{is_end_reason, IsWellMade, IsParcelIn, IsClass}
use Rattle.program_model.specs.Ranges.{IsId, IsNameUnit, IsWidth, IsInt}
use Rattle.jx_model.specs.Legal.{IsAdmittedPast}
use Rattle.audit_model.specs.Audit.{Bytes, act_word, act_operands, reason_words, exception_words, method_text, parcel_text}
use Rattle.program_model.specs.DistinctNames.{AreUnits, HasDistinctNames}
use Rattle.audit_laws.proofs.Cuts.{parts_of_cons}
use Rattle.audit_laws.proofs.Numbers.{number_takes, signed_takes}
use Rattle.audit_laws.proofs.Quotes.{quoted_takes}
use Rattle.audit_laws.proofs.Lines.{words_before, words_append}
use Rattle.audit_laws.proofs.Named.{class_takes, class_begins, template_takes, method_takes, method_ends}
use Rattle.audit_laws.proofs.Parcels.{parcel_takes, plain_parcel}
use Rattle.audit_laws.proofs.ActWords.{word_number}

-- ---- operands

-- a number behind a blank and before one is taken off
pub id_takes : (m n : ℕ) (r q : Bytes) → IsId m → IsId n → 32 ∷ (decimal m ++ 32 ∷ r) ≡ 32 ∷ (decimal n ++ 32 ∷ q) → (m ≡ n) × (32 ∷ r ≡ 32 ∷ q)
id_takes m n r q h k e = number_takes m n (32 ∷ r) (32 ∷ q) (omega arith) (omega arith) refl refl (parts_of_cons e).1

-- a number with its sign, behind a blank and before one, is taken off
int_takes : (m n : ℤ) (r q : Bytes) → IsInt m → IsInt n → 32 ∷ (signed_decimal m ++ 32 ∷ r) ≡ 32 ∷ (signed_decimal n ++ 32 ∷ q) → (m ≡ n) × (32 ∷ r ≡ 32 ∷ q)
int_takes m n r q h k e = signed_takes m n (32 ∷ r) (32 ∷ q) (omega (arith, h.sfits)) (omega (arith, k.sfits)) refl refl (parts_of_cons e).1

-- a quoted text behind a blank and before one is taken off
text_takes : (x y : List ℕ) (r q : Bytes) → AreUnits x → AreUnits y → 32 ∷ (quoted x ++ 32 ∷ r) ≡ 32 ∷ (quoted y ++ 32 ∷ q) → (x ≡ y) × (32 ∷ r ≡ 32 ∷ q)
text_takes x y r q h k e = quoted_takes x y (32 ∷ r) (32 ∷ q) h k (parts_of_cons e).1

-- a service's name is of units
name_units : (units : List ℕ) → AllByRecursion IsNameUnit units → AreUnits units
name_units [] h = tt
name_units (u ∷ units) h = (omega (arith, h.0.1), name_units units h.1)

-- a width is a number of 32 bits
width_small : (w : ℕ) → IsWidth w → IsId w
width_small w (inl h) = omega arith
width_small w (inr (inl h)) = omega arith
width_small w (inr (inr h)) = omega arith

-- ---- calls

-- a service, a method and a parcel, behind blanks and before one, are taken off
call_takes : (s : System) → HasDistinctNames s → (past : Past) → IsAdmittedPast s past → (k l m n : ℕ) (x y : Parcel) (r q : Bytes) → IsId k → IsId l → IsSome (selector_at s m) → IsSome (selector_at s n) →
    IsParcelIn s past x → IsParcelIn s past y →
    words_before (decimal k ∷ method_text s m ++ parcel_text s x ∷ []) (32 ∷ r) ≡ words_before (decimal l ∷ method_text s n ++ parcel_text s y ∷ []) (32 ∷ q) →
    (k ≡ l) × (m ≡ n) × (x ≡ y) × (32 ∷ r ≡ 32 ∷ q)
call_takes s names past past_is k l m n x y r q hk hl hm hn hx hy e =
    let before : (k m : ℕ) (x : Parcel) (r : Bytes) → words_before (decimal k ∷ method_text s m ++ parcel_text s x ∷ []) (32 ∷ r) ≡ 32 ∷ (decimal k ++ words_before (method_text s m) (32 ∷ (parcel_text s x ++ 32 ∷ r))) =
    λ k m x r. ap (λ (z : Bytes). 32 ∷ (decimal k ++ z)) (words_append (method_text s m) (parcel_text s x ∷ []) (32 ∷ r)) in
    let c = number_takes k l _ _ (omega arith) (omega arith) (method_ends s m _) (method_ends s n _) (parts_of_cons (sym (before k m x r) ∙ e ∙ before l n y q)).1 in
    let d = method_takes s names m n _ _ hm hn c.1 in
    let f = parcel_takes s names past x y _ _ (plain_parcel s past x hx) (plain_parcel s past y hy) (parts_of_cons d.1).1 in
    (c.0, d.0, f.0, f.1)

-- a call and a parcel, behind blanks and before one, are taken off
answer_takes : (s : System) → HasDistinctNames s → (past : Past) → IsAdmittedPast s past → (c d : ℕ) (x y : Parcel) (r q : Bytes) → IsId c → IsId d → IsParcelIn s past x → IsParcelIn s past y →
    words_before (decimal c ∷ parcel_text s x ∷ []) (32 ∷ r) ≡ words_before (decimal d ∷ parcel_text s y ∷ []) (32 ∷ q) → (c ≡ d) × (x ≡ y) × (32 ∷ r ≡ 32 ∷ q)
answer_takes s names past past_is c d x y r q hc hd hx hy e =
    let m = id_takes c d _ _ hc hd e in
    let f = parcel_takes s names past x y _ _ (plain_parcel s past x hx) (plain_parcel s past y hy) (parts_of_cons m.1).1 in (m.0, f.0, f.1)

-- ---- ends

-- the class of an exception, or none, before an arrow is taken off
exception_takes : (s : System) → HasDistinctNames s → (c d : Option ClassId) (r q : Bytes) → IfSome c (λ k. IsClass s k.0) → IfSome d (λ k. IsClass s k.0) →
    words_before (exception_words s c) (32 ∷ 45 ∷ r) ≡ words_before (exception_words s d) (32 ∷ 45 ∷ q) → (c ≡ d) × (32 ∷ 45 ∷ r ≡ 32 ∷ 45 ∷ q)
unfolding exception_words
exception_takes s names None None r q h k e = (refl, e)
exception_takes s names None (Some d) r q h k e = absurd (class_begins s d.0 45 _ r (λ f. omega arith) (sym (parts_of_cons e).1))
exception_takes s names (Some c) None r q h k e = absurd (class_begins s c.0 45 _ q (λ f. omega arith) (parts_of_cons e).1)
exception_takes s names (Some c) (Some d) r q h k e =
    let m = class_takes s names c.0 d.0 _ _ h k (parts_of_cons e).1 in (ap (λ (n : ℕ). Some (record { 0 = n })) m.0, m.1)

-- the reason of an end is one of two
is_end : (x : Reason) → (x ≡ reason.Fuel) ⊎ (x ≡ reason.BadCode) → is_end_reason x ≡ true
unfolding is_end_reason
is_end x (inl h) = ap is_end_reason h
is_end x (inr h) = ap is_end_reason h

-- the reason of an end, before a blank, is taken off
reason_takes : (x y : Reason) (r q : Bytes) → is_end_reason x ≡ true → is_end_reason y ≡ true →
    words_before (reason_words x) (32 ∷ r) ≡ words_before (reason_words y) (32 ∷ q) → (x ≡ y) × (32 ∷ r ≡ 32 ∷ q)
unfolding reason_words is_end_reason
reason_takes reason.Fuel reason.Fuel r q h k e = (refl, append_cancel_left (32 ∷ codes "fuel") (32 ∷ r) (32 ∷ q) e)
reason_takes reason.BadCode reason.BadCode r q h k e = (refl, append_cancel_left (32 ∷ codes "badcode") (32 ∷ r) (32 ∷ q) e)
reason_takes reason.Fuel reason.BadCode r q h k e = absurd (omega (arith, (parts_of_cons (parts_of_cons e).1).0))
reason_takes reason.BadCode reason.Fuel r q h k e = absurd (omega (arith, (parts_of_cons (parts_of_cons e).1).0))
reason_takes x y r q h k e = cc

-- ---- all acts

-- where both are goes, they are of one thread
abbrev pub AreGoesOfOneThread : Act → Act → Type 0
AreGoesOfOneThread a b = (t u : ThreadId) → a ≡ act.Go t → b ≡ act.Go u → t.0 ≡ u.0

-- acts that are well made are taken off by their words before an arrow
pub act_takes : (s : System) → HasDistinctNames s → (past : Past) → IsAdmittedPast s past → (a b : Act) (r q : Bytes) → IsWellMade s past a → IsWellMade s past b →
    AreGoesOfOneThread a b → word_number (act_word a) ≡ word_number (act_word b) →
    words_before (act_operands s a) (32 ∷ 45 ∷ r) ≡ words_before (act_operands s b) (32 ∷ 45 ∷ q) → (a ≡ b) × (32 ∷ 45 ∷ r ≡ 32 ∷ 45 ∷ q)
unfolding act_word act_operands thread_limit
act_takes s names past past_is (act.Create t1) (act.Create t2) r q h k g w e =
    let d0 = template_takes s names t1 t2 _ _ h k (parts_of_cons e).1 in
    ((λ t. act.Create (d0.0 t)), d0.1)
act_takes s names past past_is (act.Print x1) (act.Print x2) r q h k g w e =
    let d0 = text_takes x1 x2 _ _ h.sixteen_bits k.sixteen_bits e in
    ((λ t. act.Print (d0.0 t)), d0.1)
act_takes s names past past_is (act.Export i1 k1) (act.Export i2 k2) r q h k g w e =
    let d0 = class_takes s names i1.0 i2.0 _ _ h.0 k.0 (parts_of_cons e).1 in
    let d1 = id_takes k1 k2 _ _ (omega (arith, h.2)) (omega (arith, k.2)) d0.1 in
    ((λ t. act.Export (record { 0 = d0.0 t }) (d1.0 t)), d1.1)
act_takes s names past past_is (act.Bind x1 k1) (act.Bind x2 k2) r q h k g w e =
    let d0 = text_takes x1 x2 _ _ (name_units x1 h.0.printable) (name_units x2 k.0.printable) e in
    let d1 = id_takes k1.0 k2.0 _ _ h.1 k.1 d0.1 in
    ((λ t. act.Bind (d0.0 t) (record { 0 = d1.0 t })), d1.1)
act_takes s names past past_is (act.Lookup x1) (act.Lookup x2) r q h k g w e =
    let d0 = text_takes x1 x2 _ _ (name_units x1 h.printable) (name_units x2 k.printable) e in
    ((λ t. act.Lookup (d0.0 t)), d0.1)
act_takes s names past past_is (act.Call k1 m1 p1) (act.Call k2 m2 p2) r q h k g w e =
    let c = call_takes s names past past_is k1.0 k2.0 m1.0 m2.0 p1 p2 (45 ∷ r) (45 ∷ q) h.2 k.2 h.0 k.0 h.1 k.1 e in
    ((λ t. act.Call (record { 0 = c.0 t }) (record { 0 = c.1 t }) (c.2 t)), c.3)
act_takes s names past past_is (act.Take c1) (act.Take c2) r q h k g w e =
    let d0 = id_takes c1.0 c2.0 _ _ h k e in
    ((λ t. act.Take (record { 0 = d0.0 t })), d0.1)
act_takes s names past past_is (act.Return c1 p1) (act.Return c2 p2) r q h k g w e =
    let c = answer_takes s names past past_is c1.0 c2.0 p1 p2 (45 ∷ r) (45 ∷ q) h.1 k.1 h.0 k.0 e in ((λ t. act.Return (record { 0 = c.0 t }) (c.1 t)), c.2)
act_takes s names past past_is (act.Throw c1 p1) (act.Throw c2 p2) r q h k g w e =
    let c = answer_takes s names past past_is c1.0 c2.0 p1 p2 (45 ∷ r) (45 ∷ q) h.1 k.1 h.0 k.0 e in ((λ t. act.Throw (record { 0 = c.0 t }) (c.1 t)), c.2)
act_takes s names past past_is (act.Resume c1) (act.Resume c2) r q h k g w e =
    let d0 = id_takes c1.0 c2.0 _ _ h k e in
    ((λ t. act.Resume (record { 0 = d0.0 t })), d0.1)
act_takes s names past past_is (act.Go t1) (act.Go t2) r q h k g w e = (ap (λ (n : ℕ). act.Go (record { 0 = n })) (g t1 t2 refl refl), e)
act_takes s names past past_is (act.Alloc n1) (act.Alloc n2) r q h k g w e =
    let d0 = int_takes n1 n2 _ _ h k e in
    ((λ t. act.Alloc (d0.0 t)), d0.1)
act_takes s names past past_is (act.Size m1) (act.Size m2) r q h k g w e =
    let d0 = id_takes m1.0 m2.0 _ _ h k e in
    ((λ t. act.Size (record { 0 = d0.0 t })), d0.1)
act_takes s names past past_is (act.Get m1 at1 w1) (act.Get m2 at2 w2) r q h k g w e =
    let d0 = id_takes m1.0 m2.0 _ _ h.2 k.2 e in
    let d1 = int_takes at1 at2 _ _ h.1 k.1 d0.1 in
    let d2 = id_takes w1 w2 _ _ (width_small w1 h.0) (width_small w2 k.0) d1.1 in
    ((λ t. act.Get (record { 0 = d0.0 t }) (d1.0 t) (d2.0 t)), d2.1)
act_takes s names past past_is (act.Set m1 at1 w1 v1) (act.Set m2 at2 w2 v2) r q h k g w e =
    let d0 = id_takes m1.0 m2.0 _ _ h.3 k.3 e in
    let d1 = int_takes at1 at2 _ _ h.1 k.1 d0.1 in
    let d2 = id_takes w1 w2 _ _ (width_small w1 h.0) (width_small w2 k.0) d1.1 in
    let d3 = int_takes v1 v2 _ _ h.2 k.2 d2.1 in
    ((λ t. act.Set (record { 0 = d0.0 t }) (d1.0 t) (d2.0 t) (d3.0 t)), d3.1)
act_takes s names past past_is (act.Fill m1 at1 n1 b1) (act.Fill m2 at2 n2 b2) r q h k g w e =
    let d0 = id_takes m1.0 m2.0 _ _ h.3 k.3 e in
    let d1 = int_takes at1 at2 _ _ h.0 k.0 d0.1 in
    let d2 = int_takes n1 n2 _ _ h.1 k.1 d1.1 in
    let d3 = id_takes b1 b2 _ _ (omega (arith, h.2)) (omega (arith, k.2)) d2.1 in
    ((λ t. act.Fill (record { 0 = d0.0 t }) (d1.0 t) (d2.0 t) (d3.0 t)), d3.1)
act_takes s names past past_is (act.Copy m1 at1 k1 i1 n1) (act.Copy m2 at2 k2 i2 n2) r q h k g w e =
    let d0 = id_takes m1.0 m2.0 _ _ h.3 k.3 e in
    let d1 = int_takes at1 at2 _ _ h.0 k.0 d0.1 in
    let d2 = id_takes k1.0 k2.0 _ _ h.4 k.4 d1.1 in
    let d3 = int_takes i1 i2 _ _ h.1 k.1 d2.1 in
    let d4 = int_takes n1 n2 _ _ h.2 k.2 d3.1 in
    ((λ t. act.Copy (record { 0 = d0.0 t }) (d1.0 t) (record { 0 = d2.0 t }) (d3.0 t) (d4.0 t)), d4.1)
act_takes s names past past_is (act.Sub m1 at1 n1) (act.Sub m2 at2 n2) r q h k g w e =
    let d0 = id_takes m1.0 m2.0 _ _ h.2 k.2 e in
    let d1 = int_takes at1 at2 _ _ h.0 k.0 d0.1 in
    let d2 = int_takes n1 n2 _ _ h.1 k.1 d1.1 in
    ((λ t. act.Sub (record { 0 = d0.0 t }) (d1.0 t) (d2.0 t)), d2.1)
act_takes s names past past_is (act.Split m1 at1) (act.Split m2 at2) r q h k g w e =
    let d0 = id_takes m1.0 m2.0 _ _ h.1 k.1 e in
    let d1 = int_takes at1 at2 _ _ h.0 k.0 d0.1 in
    ((λ t. act.Split (record { 0 = d0.0 t }) (d1.0 t)), d1.1)
act_takes s names past past_is (act.Revoke m1) (act.Revoke m2) r q h k g w e =
    let d0 = id_takes m1.0 m2.0 _ _ h k e in
    ((λ t. act.Revoke (record { 0 = d0.0 t })), d0.1)
act_takes s names past past_is (act.Release m1) (act.Release m2) r q h k g w e =
    let d0 = id_takes m1.0 m2.0 _ _ h k e in
    ((λ t. act.Release (record { 0 = d0.0 t })), d0.1)
act_takes s names past past_is (act.Spawn x1) (act.Spawn x2) r q h k g w e =
    let d0 = text_takes x1 x2 _ _ h.sixteen_bits k.sixteen_bits e in
    ((λ t. act.Spawn (d0.0 t)), d0.1)
act_takes s names past past_is (act.Kill k1) (act.Kill k2) r q h k g w e =
    let d0 = int_takes k1 k2 _ _ h k e in
    ((λ t. act.Kill (d0.0 t)), d0.1)
act_takes s names past past_is (act.Exit c1) (act.Exit c2) r q h k g w e =
    let d0 = int_takes c1 c2 _ _ h k e in
    ((λ t. act.Exit (d0.0 t)), d0.1)
act_takes s names past past_is act.Yield act.Yield r q h k g w e = (refl, e)
act_takes s names past past_is (act.EndThread c1) (act.EndThread c2) r q h k g w e = let c = exception_takes s names c1 c2 r q h k e in (ap act.EndThread c.0, c.1)
act_takes s names past past_is (act.End r1) (act.End r2) r q h k g w e = let c = reason_takes r1 r2 (45 ∷ r) (45 ∷ q) (is_end r1 h) (is_end r2 k) e in (ap act.End c.0, c.1)
act_takes s names past past_is act.Quiet act.Quiet r q h k g w e = (refl, e)
act_takes s names past past_is act.Halt act.Halt r q h k g w e = (refl, e)
act_takes s names past past_is a b r q h k g w e = absurd (omega (arith, w))
