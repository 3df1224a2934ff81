-- The replies of an admitted past are in their ranges.
use Rattle.std.proofs.Common.{◌≡◌, refl, sym, ◌∙◌, ap, subst, ℕ, zero, suc, ◌+◌, pos, negsuc, Bool, true, false, not, ◌&&◌, List, [], ◌∷◌, ◌++◌, length, map, replicate, Option, Some, None, is_some, arith, slice_get, ◌⊎◌, inl, inr, ◌==◌, append_assoc}
use Rattle.std.specs.Prelude.{if◌then◌else◌, codes, int_le, IfSome, IfNone}
use Rattle.std.specs.List.{AllByRecursion, list_all}
use Rattle.std.proofs.lemmas.Bool.Decides.{nat_tests}
use Rattle.jx_base.specs.declared.act.Act.{Act}
use Rattle.jx_base.specs.declared.act.Act.TheVariants as act
use Rattle.jx_base.specs.declared.act.Reply.{Reply}
use Rattle.jx_base.specs.declared.act.Reply.TheVariants as reply
use Rattle.jx_base.specs.declared.act.Refusal.{Refusal}
use Rattle.jx_base.specs.declared.act.Refusal.TheVariants as refusal
use Rattle.jx_base.specs.declared.act.Entry.{Entry}
use Rattle.jx_base.specs.declared.program.Class.{Class}
use Rattle.jx_base.specs.declared.program.Field.{Field}
use Rattle.jx_base.specs.declared.program.System.{System}
use Rattle.jx_base.specs.declared.value.Node.{Node}
use Rattle.jx_base.specs.declared.value.Parcel.{Parcel}
use Rattle.jx_base.specs.declared.value.Word.{Word}
use Rattle.jx_base.specs.declared.value.Word.TheVariants as word
use Rattle.jx_base.specs.Basics.{passes, is_number, contains_number}
use Rattle.program_model.specs.BuiltIn.{string_class, builder_class, opened_built_in}
use Rattle.jx_model.specs.Calls.{Asked, Answer, asked_of, asked_by, call_entry, is_call, queued_as, answer_of, answered_by, answered_by_act, answer_by_reply, refused_answer, thrown, first_since, ends_server, caller_of}
use Rattle.jx_base.specs.Histories.{Past, is_done, nth_entry, count_where}
use Rattle.jx_model.specs.Domains.{template_of}
use Rattle.jx_model.specs.Portals.{owner_of}
use Rattle.jx_model.specs.Replies.{reply_to, ◌refuses◌else◌, called, sent_back, fits_domain_of}
use Rattle.jx_base.specs.declared.ids.CallId.{CallId}
use Rattle.jx_base.specs.declared.ids.MethodId.{MethodId}
use Rattle.jx_base.specs.declared.ids.ServiceId.{ServiceId}
use Rattle.jx_model.specs.Legal.{IsAdmittedPast, IsNext}
use Rattle.program_model.specs.Lookup.{class_at, cell_types, shape_fits, object_fits, fits_type, class_of_type, Shape, IntShape, ObjectShape, Unknown}
use Rattle.jx_model.specs.Moments.{IsMoment, HasGrown}
use Rattle.program_model.specs.Parcels.{fits_domain, node_fits, cells_fit, cell_fits, shape_of_word, lies_in_cell, knows_class}
use Rattle.program_model.specs.Types.{lies_in_type, opened_types}
use Rattle.jx_model.specs.WellMade.{IsWellMade}
use Rattle.jx_model.proofs.Growing.{moment, stays_well_made}
use Rattle.jx_base.proofs.BasicLaws.{both, passed, eq_of}
use Rattle.machine_laws.specs.Handed.{IsUnitWord, IsTextWord, HasTexts, IsHanded}
use Rattle.machine_laws.specs.Sound.{IsSound}
use Rattle.machine_laws.specs.Values.{HasCountOf}
use Rattle.machine_laws.proofs.Lists.{mapped_length}
use Rattle.machine_laws.proofs.EntryValues.{loosen}
use Rattle.machine_laws.proofs.NumericValues.{then_some}
use Rattle.machine_laws.proofs.Natives.{class_fits_string, string_type}
use Rattle.std.specs.Option.{option_and_then, option_map, option_or}
use Rattle.jx_model.proofs.DoneReplies.{undone}

-- ---- what fits a domain

-- a cell of a String is a unit
unit_fits : (s : System) (nodes : List Node) (w : Word) → cell_fits s nodes w (codes "C") ≡ true → IsUnitWord w
unfolding cell_fits shape_of_word lies_in_cell lies_in_type shape_fits object_fits fits_type class_of_type opened_types passes is_number contains_number
unit_fits s nodes (word.Int (pos n)) h =
    let a = both (shape_fits s false (IntShape (pos n)) (codes "C")) (int_le (pos 0) (pos n) && int_le (pos n) (pos 65535)) h in
    let b = both (int_le (pos 0) (pos n)) (int_le (pos n) (pos 65535)) a.1 in
    grind (arith, nat_tests, b.1)
unit_fits s nodes (word.Int (negsuc n)) h = let q : false ≡ true = h in cc
unit_fits s nodes (word.Long n) h = let q : false ≡ true = h in cc
unit_fits s nodes word.Null h = let q : false ≡ true = h in cc
unit_fits s nodes (word.Portal k c) h = let q : false ≡ true = h in cc
unit_fits s nodes (word.Mem m) h = let q : false ≡ true = h in cc
unit_fits s nodes (word.Node k) h = by (slice_get nodes k) (both (shape_fits s false (elim (slice_get nodes k) as (λ _. Shape) [ None ↦ Unknown | Some n ↦ ObjectShape n.class.0 ]) (codes "C")) _ h).0
  where
    by : (o : Option Node) → shape_fits s false (elim o as (λ _. Shape) [ None ↦ Unknown | Some n ↦ ObjectShape n.class.0 ]) (codes "C") ≡ true → ⊥
    by None e = let q : false ≡ true = e in cc
    by (Some n) e = let q : false ≡ true = e in cc

units_fit : (s : System) (nodes : List Node) (ws : List Word) (n : ℕ) → cells_fit s nodes ws (replicate n (codes "C")) ≡ true → AllByRecursion IsUnitWord ws
unfolding cells_fit
units_fit s nodes [] n h = tt
units_fit s nodes (w ∷ ws) zero h = cc
units_fit s nodes (w ∷ ws) (suc n) h = let a = both (cell_fits s nodes w (codes "C")) (cells_fit s nodes ws (replicate n (codes "C"))) h in (unit_fits s nodes w a.0, units_fit s nodes ws n a.1)

unknown_fits : {A : Type 0} (s : System) (t : List ℕ) → shape_fits s false Unknown t ≡ true → A
unfolding shape_fits
unknown_fits s t h = cc

-- a cell of a StringBuilder is a String, where it is a node
text_fits : (s : System) (nodes : List Node) (w : Word) → IsSound s → cell_fits s nodes w string_type ≡ true → IsTextWord nodes w
unfolding cell_fits shape_of_word
text_fits s nodes (word.Node k) z h = by (slice_get nodes k) (both (shape_fits s false (elim (slice_get nodes k) as (λ _. Shape) [ None ↦ Unknown | Some n ↦ ObjectShape n.class.0 ]) string_type) _ h).0
  where
    by : (o : Option Node) → shape_fits s false (elim o as (λ _. Shape) [ None ↦ Unknown | Some n ↦ ObjectShape n.class.0 ]) string_type ≡ true → option_map (λ (n : Node). n.class.0) o ≡ Some string_class
    by None e = unknown_fits s string_type e
    by (Some n) e = ap (λ (c : ℕ). Some c) (class_fits_string s n.class.0 z (loosen s (ObjectShape n.class.0) string_type e))
text_fits s nodes _ z h = tt

texts_fit : (s : System) (nodes : List Node) (ws : List Word) → IsSound s → cells_fit s nodes ws (string_type ∷ []) ≡ true → AllByRecursion (IsTextWord nodes) ws
unfolding cells_fit
texts_fit s nodes [] z h = tt
texts_fit s nodes (w ∷ []) z h = (text_fits s nodes w z (both (cell_fits s nodes w string_type) true h).0, tt)
texts_fit s nodes (w ∷ v ∷ ws) z h = let q : false ≡ true = (both (cell_fits s nodes w string_type) false h).1 in cc

-- a node that fits has the texts
node_texts : (s : System) (t : ℕ) (nodes : List Node) (n : Node) → IsSound s → node_fits s t nodes n ≡ true → HasTexts nodes n
unfolding node_fits opened_built_in cell_types passes
node_texts s t nodes n z h = record { units = strings; text = builders }
  where
    cells : passes (λ k. cells_fit s nodes n.cells (cell_types k n.class.0 (length n.cells))) (class_at s n.class.0) ≡ true
    cells = (both (knows_class s t n.class.0) (passes (λ k. cells_fit s nodes n.cells (cell_types k n.class.0 (length n.cells))) (class_at s n.class.0)) h).1

    at_class : (c : ℕ) → n.class.0 ≡ c → passes (λ k. cells_fit s nodes n.cells (cell_types k c (length n.cells))) (class_at s c) ≡ true
    at_class c e = subst (λ (c : ℕ). passes (λ k. cells_fit s nodes n.cells (cell_types k c (length n.cells))) (class_at s c) ≡ true) e cells

    strings : n.class.0 ≡ string_class → AllByRecursion IsUnitWord n.cells
    strings e = units_fit s nodes n.cells (length n.cells)
        (subst (λ (o : Option Class). passes (λ k. cells_fit s nodes n.cells (cell_types k 1 (length n.cells))) o ≡ true) (z.built_in 1 (omega arith)) (at_class 1 e))

    builders : n.class.0 ≡ builder_class → AllByRecursion (IsTextWord nodes) n.cells
    builders e = texts_fit s nodes n.cells z
        (subst (λ (o : Option Class). passes (λ k. cells_fit s nodes n.cells (cell_types k 2 (length n.cells))) o ≡ true) (z.built_in 2 (omega arith)) (at_class 2 e))

all_texts : (s : System) (t : ℕ) (nodes ns : List Node) → IsSound s → list_all (node_fits s t nodes) ns ≡ true → AllByRecursion (HasTexts nodes) ns
all_texts s t nodes [] z h = tt
all_texts s t nodes (n ∷ ns) z h = let a = both (node_fits s t nodes n) (list_all (node_fits s t nodes) ns) h in (node_texts s t nodes n z a.0, all_texts s t nodes ns z a.1)

-- words that fit cells are as many
cells_count : (s : System) (nodes : List Node) (ws : List Word) (types : List (List ℕ)) → cells_fit s nodes ws types ≡ true → length ws ≡ length types
unfolding cells_fit
cells_count s nodes [] [] h = refl
cells_count s nodes [] (t ∷ types) h = cc
cells_count s nodes (w ∷ ws) [] h = cc
cells_count s nodes (w ∷ ws) (t ∷ types) h = ap suc (cells_count s nodes ws types (both (cell_fits s nodes w t) (cells_fit s nodes ws types) h).1)

-- a node that fits has the cells of its class
node_count : (s : System) (t : ℕ) (nodes : List Node) (n : Node) → node_fits s t nodes n ≡ true → HasCountOf s n.class.0 (length n.cells)
unfolding node_fits cell_types passes
node_count s t nodes n h other = by (class_at s n.class.0) (both (knows_class s t n.class.0) _ h).1
  where
    plain : (k : Class) (o : Option (List ℕ)) (b : Bool) → (n.class.0 == string_class) ≡ b →
        cells_fit s nodes n.cells (elim o as (λ _. List (List ℕ)) [ Some type ↦ replicate (length n.cells) type | None ↦ if b then replicate (length n.cells) (codes "C") else map (λ (f : Field). f.descriptor) k.fields ]) ≡ true →
        IfNone o (length n.cells ≡ length k.fields)
    plain k (Some type) b e q = tt
    plain k None true e q = absurd (other (eq_of n.class.0 string_class e))
    plain k None false e q = cells_count s nodes n.cells (map (λ (f : Field). f.descriptor) k.fields) q ∙ mapped_length (λ (f : Field). f.descriptor) k.fields

    by : (o : Option Class) → passes (λ k. cells_fit s nodes n.cells (cell_types k n.class.0 (length n.cells))) o ≡ true → IfSome o (λ k. IfNone k.component (length n.cells ≡ length k.fields))
    by None q = tt
    by (Some k) q = plain k k.component (n.class.0 == string_class) refl q

all_counts : (s : System) (t : ℕ) (nodes ns : List Node) → list_all (node_fits s t nodes) ns ≡ true → AllByRecursion (λ n. HasCountOf s n.class.0 (length n.cells)) ns
all_counts s t nodes [] h = tt
all_counts s t nodes (n ∷ ns) h = let a = both (node_fits s t nodes n) (list_all (node_fits s t nodes) ns) h in (node_count s t nodes n a.0, all_counts s t nodes ns a.1)

-- a parcel that fits a domain has the texts, and its nodes have the cells of their classes
pub record IsFitted (s : System) (p : Parcel) : Type 0 where
  pub texts : AllByRecursion (HasTexts p.nodes) p.nodes
  pub counts : AllByRecursion (λ n. HasCountOf s n.class.0 (length n.cells)) p.nodes

pub parcel_fitted : (s : System) (t : ℕ) (p : Parcel) → IsSound s → fits_domain s t p ≡ true → IsFitted s p
unfolding fits_domain
parcel_fitted s t p z h = record { texts = all_texts s t p.nodes p.nodes z h; counts = all_counts s t p.nodes p.nodes h }

-- ---- moments

-- the entry of a number
pub record IsAt (past : Past) (e : Entry) : Type 0 where
  pub before : Past
  pub is : IsMoment past e before

pub nth_moment : (p : Entry → Bool) (past : Past) (n : ℕ) (e : Entry) → nth_entry p past n ≡ Some e → IsAt past e × (p e ≡ true)
unfolding nth_entry
nth_moment p [] n e h = cc
nth_moment p (x ∷ past) n e h = by (p x) (n == count_where p past + 1) refl h (nth_moment p past n e)
  where
    by : (a b : Bool) → p x ≡ a → (elim (a && b) as (λ _. Option Entry) [ true ↦ Some x | false ↦ nth_entry p past n ]) ≡ Some e → (nth_entry p past n ≡ Some e → IsAt past e × (p e ≡ true)) → IsAt (x ∷ past) e × (p e ≡ true)
    by true true q h again = let i : x ≡ e = cc in (record { before = past; is = ([], ap (λ (e : Entry). e ∷ past) i) }, ap p (sym i) ∙ q)
    by true false q h again = let r = again h in (record { before = r.0.before; is = (x ∷ r.0.is.0, ap (λ (xs : Past). x ∷ xs) r.0.is.1) }, r.1)
    by false b q h again = let r = again h in (record { before = r.0.before; is = (x ∷ r.0.is.0, ap (λ (xs : Past). x ∷ xs) r.0.is.1) }, r.1)

-- the entry that gives what first comes since a call
record IsSince (f : Past → Entry → Option Answer) (past : Past) (a : Answer) : Type 0 where
  entry : Entry
  before : Past
  is : IsMoment past entry before
  gives : f before entry ≡ Some a

since_moment : (f : Past → Entry → Option Answer) (past : Past) (c : ℕ) (a : Answer) → first_since f past c ≡ Some a → IsSince f past a
unfolding first_since
since_moment f [] c a h = cc
since_moment f (x ∷ past) c a h = by (first_since f past c) (is_some (call_entry past c)) refl h (since_moment f past c a)
  where
    by : (o : Option Answer) (b : Bool) → first_since f past c ≡ o → (option_or o (if b then f past x else None)) ≡ Some a →
        (first_since f past c ≡ Some a → IsSince f past a) → IsSince f (x ∷ past) a
    by (Some y) b q h again = let r = again (q ∙ h) in record { entry = r.entry; before = r.before; is = (x ∷ r.is.0, ap (λ (xs : Past). x ∷ xs) r.is.1); gives = r.gives }
    by None true q h again = record { entry = x; before = past; is = ([], refl); gives = h }
    by None false q h again = cc

-- ---- what was not refused

unqueued : (b : Bool) (r : Refusal) (rest : Reply) → is_some (queued_as (b refuses r else rest)) ≡ true → (b ≡ false) × (is_some (queued_as rest) ≡ true)
unfolding ◌refuses◌else◌ queued_as
unqueued false r rest h = (refl, h)
unqueued true r rest h = cc

not_false : (b : Bool) → not b ≡ false → b ≡ true
not_false true h = refl
not_false false h = cc

-- so has a parcel that fits some domain
some_fitted : (s : System) (past : Past) (o : Option ℕ) (p : Parcel) → IsSound s → fits_domain_of s past o p ≡ true → IsFitted s p
unfolding fits_domain_of
some_fitted s past o p z h = let x = passed (λ t. fits_domain s t p) (option_and_then (template_of s past) o) h in parcel_fitted s x.0 p z x.2

called_fitted : (s : System) (past : Past) (d : ℕ) (k : ServiceId) (m : MethodId) (p : Parcel) → IsSound s → is_some (queued_as (called s past d k m p)) ≡ true → IsFitted s p
unfolding called
called_fitted s past d k m p z h =
    let a = unqueued _ _ _ h in let b = unqueued _ _ _ a.1 in let c = unqueued _ _ _ b.1 in let f = unqueued _ _ _ c.1 in
    some_fitted s past (owner_of past k.0) p z (not_false _ f.0)

sent_fitted : (s : System) (past : Past) (d c : ℕ) (p : Parcel) → IsSound s → is_done (sent_back s past d c p) ≡ true → IsFitted s p
unfolding sent_back
sent_fitted s past d c p z h =
    let a = undone _ _ _ h in let b = undone _ _ _ a.1 in let f = undone _ _ _ b.1 in
    some_fitted s past (caller_of past c) p z (not_false _ f.0)

-- ---- parcels that are handed over

moment_grows : (past : Past) (e : Entry) (before : Past) → IsMoment past e before → HasGrown before past
moment_grows past e before m = (m.0 ++ e ∷ [], m.1 ∙ sym (append_assoc m.0 (e ∷ []) before))

-- a parcel is one that a domain can have, of a longer past too
pub handed_grows : (s : System) (old new : Past) (p : Parcel) → HasGrown old new → IsHanded s old p → IsHanded s new p
handed_grows s old new p g h = record { parcel = (stays_well_made s old new (act.Return (record { 0 = 0 }) p) g (h.parcel, omega arith)).0; texts = h.texts; counts = h.counts }

asked_is : (x : Act) (a : Asked) → asked_by x ≡ Some a → x ≡ act.Call a.service a.method a.parcel
unfolding asked_by
asked_is (act.Call k m p) a e = let q : record { service = k; method = m; parcel = p } ≡ a = cc in ap (λ (a : Asked). act.Call a.service a.method a.parcel) q
asked_is _ a e = cc

call_fitted : (s : System) (past : Past) (d : ℕ) (a : Asked) → IsSound s → is_some (queued_as (reply_to s past d (act.Call a.service a.method a.parcel))) ≡ true → IsFitted s a.parcel
unfolding reply_to
call_fitted s past d a z h = called_fitted s past d a.service a.method a.parcel z h

return_reply : (s : System) (past : Past) (d : ℕ) (c : CallId) (p : Parcel) → reply_to s past d (act.Return c p) ≡ sent_back s past d c.0 p
unfolding reply_to
return_reply s past d c p = refl

throw_reply : (s : System) (past : Past) (d : ℕ) (c : CallId) (p : Parcel) → reply_to s past d (act.Throw c p) ≡ sent_back s past d c.0 p
unfolding reply_to
throw_reply s past d c p = refl

pub asked_in : (s : System) (past : Past) (c : ℕ) (a : Asked) → IsSound s → IsAdmittedPast s past → asked_of past c ≡ Some a → IsHanded s past a.parcel
unfolding asked_of call_entry is_call
asked_in s past c a z h e =
    let x = then_some (nth_entry (λ e. is_some (asked_by e.act) && is_some (queued_as e.reply)) past c) (λ e. asked_by e.act) a e in
    let m = nth_moment (λ e. is_some (asked_by e.act) && is_some (queued_as e.reply)) past c x.0 x.1 in
    let n = moment s past x.0 m.0.before h m.0.is in
    let i = asked_is x.0.act a x.2 in
    let w : IsWellMade s m.0.before (act.Call a.service a.method a.parcel) = subst (IsWellMade s m.0.before) i n.well_made in
    let q : is_some (queued_as x.0.reply) ≡ true = (both (is_some (asked_by x.0.act)) (is_some (queued_as x.0.reply)) m.1).1 in
    let r : x.0.reply ≡ reply_to s m.0.before x.0.domain.0 (act.Call a.service a.method a.parcel) = n.reply ∙ ap (reply_to s m.0.before x.0.domain.0) i in
    let fitted = call_fitted s m.0.before x.0.domain.0 a z (subst (λ (r : Reply). is_some (queued_as r) ≡ true) r q) in
    handed_grows s m.0.before past a.parcel (moment_grows past x.0 m.0.before m.0.is) (record { parcel = w.1; texts = fitted.texts; counts = fitted.counts })

-- what an answer carries was sent back and fits
record IsSent (x : Act) (r : Reply) (p : Parcel) : Type 0 where
  call : CallId
  sent : (x ≡ act.Return call p) ⊎ (x ≡ act.Throw call p)
  done : is_done r ≡ true

-- the parcel that an answer carries
abbrev Carries : Answer → Parcel → Type 0
Carries (Answer.Value q) p = q ≡ p
Carries (Answer.Thrown q) p = q ≡ p
Carries _ p = ⊥

refused_carries : (f : Refusal) (p : Parcel) → Carries (refused_answer f) p → ⊥
unfolding refused_answer
refused_carries refusal.Discarded p h = h
refused_carries _ p h = h

by_reply : (r : Reply) (done : Answer) (p : Parcel) → Carries (answer_by_reply r done) p → Carries done p × (is_done r ≡ true)
unfolding answer_by_reply is_done
by_reply (reply.Refused f) done p h = absurd (refused_carries f p h)
by_reply _ done p h = (h, refl)

thrown_carries : (q p : Parcel) → Carries (thrown q) p → q ≡ p
unfolding thrown
thrown_carries q p h = by (length q.roots == 0) h
  where
    by : (b : Bool) → Carries (if b then Answer.CopyFailed else Answer.Thrown q) p → q ≡ p
    by true h = absurd h
    by false h = h

sent_is : (c : ℕ) (x : Act) (r : Reply) (a : Answer) (p : Parcel) → answered_by_act c x r ≡ Some a → Carries a p → IsSent x r p
unfolding answered_by_act
sent_is c (act.Return k q) r a p e h = by (k.0 == c) e
  where
    by : (b : Bool) → (if b then Some (answer_by_reply r (Answer.Value q)) else None) ≡ Some a → IsSent (act.Return k q) r p
    by true e =
        let i : answer_by_reply r (Answer.Value q) ≡ a = cc in
        let j = by_reply r (Answer.Value q) p (subst (λ (a : Answer). Carries a p) (sym i) h) in
        record { call = k; sent = inl (ap (act.Return k) j.0); done = j.1 }
    by false e = cc
sent_is c (act.Throw k q) r a p e h = by (k.0 == c) e
  where
    by : (b : Bool) → (if b then Some (answer_by_reply r (thrown q)) else None) ≡ Some a → IsSent (act.Throw k q) r p
    by true e =
        let i : answer_by_reply r (thrown q) ≡ a = cc in
        let j = by_reply r (thrown q) p (subst (λ (a : Answer). Carries a p) (sym i) h) in
        record { call = k; sent = inr (ap (act.Throw k) (thrown_carries q p j.0)); done = j.1 }
    by false e = cc
sent_is c _ r a p e h = cc

answered_is : (past : Past) (e : Entry) (c : ℕ) (a : Answer) (p : Parcel) → answered_by past e c ≡ Some a → Carries a p → answered_by_act c e.act e.reply ≡ Some a
unfolding answered_by
answered_is past e c a p q h = by (answered_by_act c e.act e.reply) (ends_server past c e) q
  where
    by : (o : Option Answer) (b : Bool) → (elim o as (λ _. Option Answer) [ Some a ↦ Some a | None ↦ if b then Some Answer.Ended else None ]) ≡ Some a → o ≡ Some a
    by (Some y) b q = q
    by None true q = let i : Answer.Ended ≡ a = cc in absurd (subst (λ (a : Answer). Carries a p) (sym i) h)
    by None false q = cc

sent_in : (s : System) (before : Past) (e : Entry) (p : Parcel) → IsSound s → IsNext s before e → IsSent e.act e.reply p → IsHanded s before p
sent_in s before e p z n k = by k.sent
  where
    fitted : (x : Act) → e.act ≡ x → reply_to s before e.domain.0 x ≡ sent_back s before e.domain.0 k.call.0 p → IsFitted s p
    fitted x i j = sent_fitted s before e.domain.0 k.call.0 p z (subst (λ (r : Reply). is_done r ≡ true) (n.reply ∙ ap (reply_to s before e.domain.0) i ∙ j) k.done)

    by : (e.act ≡ act.Return k.call p) ⊎ (e.act ≡ act.Throw k.call p) → IsHanded s before p
    by (inl i) = record { parcel = (subst (IsWellMade s before) i n.well_made).0; texts = (fitted (act.Return k.call p) i (return_reply s before e.domain.0 k.call p)).texts; counts = (fitted (act.Return k.call p) i (return_reply s before e.domain.0 k.call p)).counts }
    by (inr i) = record { parcel = (subst (IsWellMade s before) i n.well_made).0; texts = (fitted (act.Throw k.call p) i (throw_reply s before e.domain.0 k.call p)).texts; counts = (fitted (act.Throw k.call p) i (throw_reply s before e.domain.0 k.call p)).counts }

pub answer_in : (s : System) (past : Past) (c : ℕ) (a : Answer) (p : Parcel) → IsSound s → IsAdmittedPast s past → answer_of past c ≡ Some a → Carries a p → IsHanded s past p
unfolding answer_of
answer_in s past c a p z h e k =
    let m = since_moment (λ before e. answered_by before e c) past c a e in
    let n = moment s past m.entry m.before h m.is in
    handed_grows s m.before past p (moment_grows past m.entry m.before m.is)
    (sent_in s m.before m.entry p z n (sent_is c m.entry.act m.entry.reply a p (answered_is m.before m.entry c a p m.gives k) k))
