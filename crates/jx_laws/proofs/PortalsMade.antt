-- A live domain holds a portal exactly where an entry of its own gave it one: each is to a service that was made.
use Rattle.std.proofs.Common.{◌≡◌, refl, sym, ◌∙◌, ap, subst, ℕ, ◌+◌, ◌<◌, Bool, true, false, ◌&&◌, ◌||◌, List, [], ◌∷◌, ◌++◌, length, Option, Some, None, is_some, arith, ◌==◌, if◌then◌else◌, ◌⊎◌, inl, inr}
use Rattle.std.specs.Prelude.{nat_le, nat_lt, flat_map}
use Rattle.std.specs.List.{list_any, AllByRecursion}
use Rattle.std.proofs.lemmas.Bool.Decides.{nat_tests}
use Rattle.jx_base.specs.declared.act.Act.{Act}
use Rattle.jx_base.specs.declared.act.Act.TheVariants as act
use Rattle.jx_base.specs.declared.act.Reply.{Reply}
use Rattle.jx_base.specs.declared.act.Reply.TheVariants as reply
use Rattle.jx_base.specs.declared.act.Refusal.{Refusal}
use Rattle.jx_base.specs.declared.act.Refusal.TheVariants as refusal
use Rattle.jx_base.specs.declared.act.Entry.{Entry}
use Rattle.jx_base.specs.declared.ids.ClassId.{ClassId}
use Rattle.jx_base.specs.declared.ids.MethodId.{MethodId}
use Rattle.jx_base.specs.declared.ids.ServiceId.{ServiceId}
use Rattle.jx_base.specs.declared.value.Parcel.{Parcel}
use Rattle.jx_base.specs.declared.value.Word.{Word}
use Rattle.jx_base.specs.declared.value.Word.TheVariants as word
use Rattle.jx_base.specs.declared.program.System.{System}
use Rattle.jx_base.specs.Basics.{contains_number, is_number, passes}
use Rattle.program_model.specs.ParcelParts.{parcel_portals, parcel_cells, word_portal}
use Rattle.jx_base.specs.Histories.{Past, is_own, nth_entry}
use Rattle.jx_model.specs.Domains.{is_made, is_live}
use Rattle.jx_model.specs.Portals.{is_export, exported_interface, services_made, is_exported, interface_of, received_service, received_parcel, gives_portal, keeps_portal, holds_portal, bound_service}
use Rattle.jx_model.specs.Permits.{is_zero_act}
use Rattle.jx_model.specs.Calls.{Answer, Asked, is_call, asked_by, asked_of, call_entry, answer_of, answered_by, answered_by_act, answer_by_reply, refused_answer, thrown, ends_server, first_since, calls_made}
use Rattle.jx_model.specs.WellMade.{IsWellMade, IsParcelIn, IsWordIn}
use Rattle.jx_model.specs.Replies.{reply_to, job_of, or_done, answer_reply, looked_up, portal_reply, new_service, ◌refuses◌else◌}
use Rattle.jx_model.specs.Legal.{IsNext, IsAdmittedPast}
use Rattle.jx_base.proofs.BasicLaws.{both, eq_of, ap2, nothing}
use Rattle.jx_base.proofs.NthEntries.{count_new}
use Rattle.jx_model.proofs.Exported.{IsExported, services_grow, exported_stays, interface_made, portal_made}
use Rattle.jx_laws.proofs.Living.{actor_live, live_made, made_stays}
use Rattle.jx_laws.specs.Handed.{PortalsAreKept}
use Rattle.std.specs.Option.{option_and_then, option_or}

-- ---- portals in parcels

in_either : (xs ys : List ℕ) (k : ℕ) → contains_number (xs ++ ys) k ≡ true → (contains_number xs k ≡ true) ⊎ (contains_number ys k ≡ true)
unfolding contains_number
in_either [] ys k h = inr h
in_either (x ∷ xs) ys k h = by (x == k) h (in_either xs ys k)
  where
    by : (b : Bool) → (b || contains_number (xs ++ ys) k) ≡ true → (contains_number (xs ++ ys) k ≡ true → (contains_number xs k ≡ true) ⊎ (contains_number ys k ≡ true)) →
        ((b || contains_number xs k) ≡ true) ⊎ (contains_number ys k ≡ true)
    by true h again = inl refl
    by false h again = again h

word_made : (past : Past) (n : ℕ) (w : Word) (k : ℕ) → IsWordIn past n w → contains_number (word_portal w) k ≡ true → IsExported past k
unfolding word_portal contains_number
word_made past n (word.Portal s c) k h i = subst (IsExported past) (eq_of s.0 k (one (s.0 == k) i)) (interface_made past s.0 c h.1)
  where
    one : (b : Bool) → (b || false) ≡ true → b ≡ true
    one true i = refl
    one false i = i
word_made past n _ k h i = cc

words_made : (past : Past) (n : ℕ) (ws : List Word) (k : ℕ) → AllByRecursion (IsWordIn past n) ws → contains_number (flat_map word_portal ws) k ≡ true → IsExported past k
unfolding contains_number
words_made past n [] k h i = cc
words_made past n (w ∷ ws) k h i = elim (in_either (word_portal w) (flat_map word_portal ws) k i) [ inl x ↦ word_made past n w k h.0 x | inr x ↦ words_made past n ws k h.1 x ]

-- the portals of a parcel that is well made are to services that were made
pub parcel_made : (s : System) (past : Past) (p : Parcel) (k : ℕ) → IsParcelIn s past p → contains_number (parcel_portals p) k ≡ true → IsExported past k
unfolding parcel_portals
parcel_made s past p k h i = words_made past (length p.nodes) (parcel_cells p) k h.cells i

-- ---- parcels that calls and answers carry

asked_well : (s : System) (e : Entry) (past : Past) (a : Asked) → IsNext s past e → asked_by e.act ≡ Some a → IsParcelIn s past a.parcel
unfolding asked_by
asked_well s e past a n h = by e.act n.well_made h
  where
    by : (b : Act) → IsWellMade s past b → asked_by b ≡ Some a → IsParcelIn s past a.parcel
    by (act.Call k m p) w h = let z : p ≡ a.parcel = cc in subst (λ (x : Parcel). IsParcelIn s past x) z w.1
    by _ w h = cc

-- the portals that a call asks with are to services that were made
pub asked_made_of : (s : System) (past : Past) (c : ℕ) (a : Asked) (k : ℕ) → IsAdmittedPast s past → asked_of past c ≡ Some a → contains_number (parcel_portals a.parcel) k ≡ true → IsExported past k
unfolding asked_of call_entry nth_entry
asked_made_of s [] c a k h q i = cc
asked_made_of s (e ∷ past) c a k h q i = by (is_call e && (c == calls_made past + 1)) q (asked_made_of s past c a k h.1)
  where
    by : (b : Bool) → option_and_then (λ e. asked_by e.act) (elim b as (λ _. Option Entry) [ true ↦ Some e | false ↦ nth_entry is_call past c ]) ≡ Some a →
        (option_and_then (λ e. asked_by e.act) (nth_entry is_call past c) ≡ Some a → contains_number (parcel_portals a.parcel) k ≡ true → IsExported past k) → IsExported (e ∷ past) k
    by true q again = exported_stays e past k (parcel_made s past a.parcel k (asked_well s e past a h.0 q) i)
    by false q again = exported_stays e past k (again q i)

-- the portals of an answer
abbrev pub answer_portals : Answer → List ℕ
answer_portals (Answer.Value p) = parcel_portals p
answer_portals (Answer.Thrown p) = parcel_portals p
answer_portals _ = []

refusals : (x : Refusal) → (refused_answer x ≡ Answer.Discarded) ⊎ (refused_answer x ≡ Answer.CopyFailed)
unfolding refused_answer
refusals refusal.Discarded = inl refl
refusals _ = inr refl

by_reply : (r : Reply) (a : Answer) (k : ℕ) → contains_number (answer_portals (answer_by_reply r a)) k ≡ true → contains_number (answer_portals a) k ≡ true
unfolding answer_by_reply
by_reply (reply.Refused x) a k h = none (refused_answer x) (only x) h
  where
    only : (x : Refusal) → (refused_answer x ≡ Answer.Discarded) ⊎ (refused_answer x ≡ Answer.CopyFailed)
    only x = refusals x

    none : (b : Answer) → (b ≡ Answer.Discarded) ⊎ (b ≡ Answer.CopyFailed) → contains_number (answer_portals b) k ≡ true → contains_number (answer_portals a) k ≡ true
    none b (inl q) h = nothing k (ap (λ (y : Answer). contains_number (answer_portals y) k) (sym q) ∙ h)
    none b (inr q) h = nothing k (ap (λ (y : Answer). contains_number (answer_portals y) k) (sym q) ∙ h)
by_reply _ a k h = h

thrown_portals : (p : Parcel) (k : ℕ) → contains_number (answer_portals (thrown p)) k ≡ true → contains_number (parcel_portals p) k ≡ true
unfolding thrown
thrown_portals p k h = by (length p.roots == 0) h
  where
    by : (b : Bool) → contains_number (answer_portals (if b then Answer.CopyFailed else Answer.Thrown p)) k ≡ true → contains_number (parcel_portals p) k ≡ true
    by true h = nothing k h
    by false h = h

-- the portals of an entry's answer are to services that were made
answered_well : (s : System) (e : Entry) (past : Past) (c : ℕ) (x : Answer) (k : ℕ) → IsNext s past e → answered_by past e c ≡ Some x → contains_number (answer_portals x) k ≡ true → IsExported past k
unfolding answered_by answered_by_act
answered_well s e past c x k n q i = by e.act n.well_made q
  where
    ended : (b : Bool) → (if b then Some Answer.Ended else None) ≡ Some x → IsExported past k
    ended true q = let z : Answer.Ended ≡ x = cc in nothing k (ap (λ (y : Answer). contains_number (answer_portals y) k) z ∙ i)
    ended false q = cc

    sent : (b : Bool) (a : Answer) (p : Parcel) → IsParcelIn s past p → (contains_number (answer_portals (answer_by_reply e.reply a)) k ≡ true → contains_number (parcel_portals p) k ≡ true) →
        (elim (if b then Some (answer_by_reply e.reply a) else None) as (λ _. Option Answer) [ Some y ↦ Some y | None ↦ if ends_server past c e then Some Answer.Ended else None ]) ≡ Some x → IsExported past k
    sent true a p w f q = let z : answer_by_reply e.reply a ≡ x = cc in parcel_made s past p k w (f (ap (λ (y : Answer). contains_number (answer_portals y) k) z ∙ i))
    sent false a p w f q = ended (ends_server past c e) q

    by : (b : Act) → IsWellMade s past b → (elim (answered_by_act c b e.reply) as (λ _. Option Answer) [ Some y ↦ Some y | None ↦ if ends_server past c e then Some Answer.Ended else None ]) ≡ Some x → IsExported past k
    by (act.Return j p) w q = sent (j.0 == c) (Answer.Value p) p w.0 (λ h. by_reply e.reply (Answer.Value p) k h) q
    by (act.Throw j p) w q = sent (j.0 == c) (thrown p) p w.0 (λ h. thrown_portals p k (by_reply e.reply (thrown p) k h)) q
    by _ w q = ended (ends_server past c e) q

-- the portals of a call's answer are to services that were made
answer_made_of : (s : System) (past : Past) (c : ℕ) (x : Answer) (k : ℕ) → IsAdmittedPast s past → answer_of past c ≡ Some x → contains_number (answer_portals x) k ≡ true → IsExported past k
unfolding answer_of first_since
answer_made_of s [] c x k h q i = cc
answer_made_of s (e ∷ past) c x k h q i = by (first_since (λ before e. answered_by before e c) past c) refl (is_some (call_entry past c)) q (answer_made_of s past c x k h.1)
  where
    by : (o : Option Answer) → first_since (λ before e. answered_by before e c) past c ≡ o → (b : Bool) → (option_or o (if b then answered_by past e c else None)) ≡ Some x →
        (first_since (λ before e. answered_by before e c) past c ≡ Some x → contains_number (answer_portals x) k ≡ true → IsExported past k) → IsExported (e ∷ past) k
    by (Some a) w b q again = exported_stays e past k (again (w ∙ q) i)
    by None w true q again = exported_stays e past k (answered_well s e past c x k h.0 q i)
    by None w false q again = cc

-- ---- portals that entries hand over

job_portal : (o : Option Asked) (s : ServiceId) (m : MethodId) (p : Parcel) → reply.Job s m p ≡ job_of o → (a : Asked) × (o ≡ Some a) × (a.parcel ≡ p)
unfolding job_of
job_portal None s m p q = cc
job_portal (Some a) s m p q = (a, refl, let z : p ≡ a.parcel = cc in sym z)

value_portal : (o : Option Answer) (p : Parcel) → reply.Value p ≡ or_done (option_and_then answer_reply o) → o ≡ Some (Answer.Value p)
unfolding or_done answer_reply
value_portal None p q = cc
value_portal (Some (Answer.Value x)) p q = let z : p ≡ x = cc in ap (λ (y : Parcel). Some (Answer.Value y)) (sym z)
value_portal (Some (Answer.Thrown x)) p q = cc
value_portal (Some Answer.CopyFailed) p q = cc
value_portal (Some Answer.Ended) p q = cc
value_portal (Some Answer.Discarded) p q = cc

thrown_portal : (o : Option Answer) (p : Parcel) → reply.Thrown p ≡ or_done (option_and_then answer_reply o) → o ≡ Some (Answer.Thrown p)
unfolding or_done answer_reply
thrown_portal None p q = cc
thrown_portal (Some (Answer.Value x)) p q = cc
thrown_portal (Some (Answer.Thrown x)) p q = let z : p ≡ x = cc in ap (λ (y : Parcel). Some (Answer.Thrown y)) (sym z)
thrown_portal (Some Answer.CopyFailed) p q = cc
thrown_portal (Some Answer.Ended) p q = cc
thrown_portal (Some Answer.Discarded) p q = cc

-- a parcel that an entry hands over has portals to services that were made
received_made : (s : System) (e : Entry) (past : Past) (p : Parcel) (k : ℕ) → IsAdmittedPast s (e ∷ past) → received_parcel e.act e.reply ≡ Some p → contains_number (parcel_portals p) k ≡ true → IsExported past k
unfolding received_parcel reply_to
received_made s e past p k a h i = by e.act e.reply a.0.reply h
  where
    by : (b : Act) (r : Reply) → r ≡ reply_to s past e.domain.0 b → received_parcel b r ≡ Some p → IsExported past k
    by (act.Take c) (reply.Job j m x) q w =
        let v = job_portal (asked_of past c.0) j m x q in
        let z : x ≡ p = cc in asked_made_of s past c.0 v.0 k a.1 v.1 (ap (λ (y : Parcel). contains_number (parcel_portals y) k) (v.2 ∙ z) ∙ i)
    by (act.Resume c) (reply.Value x) q w =
        let z : x ≡ p = cc in answer_made_of s past c.0 (Answer.Value x) k a.1 (value_portal (answer_of past c.0) x q) (ap (λ (y : Parcel). contains_number (parcel_portals y) k) z ∙ i)
    by (act.Resume c) (reply.Thrown x) q w =
        let z : x ≡ p = cc in answer_made_of s past c.0 (Answer.Thrown x) k a.1 (thrown_portal (answer_of past c.0) x q) (ap (λ (y : Parcel). contains_number (parcel_portals y) k) z ∙ i)
    by _ _ q w = cc

looked_made : (s : System) (past : Past) (o : Option ℕ) (j : ServiceId) (c : ClassId) → reply.Service j c ≡ looked_up past o → IsExported past j.0
unfolding looked_up portal_reply
looked_made s past None j c q = cc
looked_made s past (Some k) j c q = by (interface_of past k) refl q
  where
    by : (o : Option ClassId) → interface_of past k ≡ o → reply.Service j c ≡ portal_reply k o → IsExported past j.0
    by None w q = cc
    by (Some x) w q = let z : j ≡ record { 0 = k } = cc in subst (λ (y : ServiceId). IsExported past y.0) (sym z) (interface_made past k x w)

-- a service whose portal an export or lookup hands over was made
received_service_made : (s : System) (e : Entry) (past : Past) (k : ℕ) → IsAdmittedPast s (e ∷ past) → received_service e.act e.reply ≡ Some k → IsExported (e ∷ past) k
unfolding received_service reply_to new_service is_export exported_interface ◌refuses◌else◌
received_service_made s e past k a h = by e.act e.reply refl refl a.0.reply h
  where
    number : (b : Bool) (j : ServiceId) (c iface : ClassId) → reply.Service j c ≡ (if b then reply.Refused refusal.TooMany else reply.Service (record { 0 = services_made past + 1 }) iface) → j.0 ≡ services_made past + 1
    number true j c iface q = cc
    number false j c iface q = let z : j ≡ record { 0 = services_made past + 1 } = cc in ap (λ (y : ServiceId). y.0) z

    exported : (b : Act) (r : Reply) → e.act ≡ b → e.reply ≡ r → is_some (exported_interface b r) ≡ true → is_export e ≡ true
    exported b r p q h = ap2 (λ (x : Act) (y : Reply). is_some (exported_interface x y)) p q ∙ h

    by : (b : Act) (r : Reply) → e.act ≡ b → e.reply ≡ r → r ≡ reply_to s past e.domain.0 b → received_service b r ≡ Some k → IsExported (e ∷ past) k
    by (act.Export iface n) (reply.Service j c) p v q w =
        let z : j.0 ≡ k = cc in
        let y = number _ j c iface q in
        record { low = omega (arith, z, y); high = omega (arith, z, y, count_new is_export e past (exported (act.Export iface n) (reply.Service j c) p v refl)) }
    by (act.Lookup name) (reply.Service j c) p v q w =
        let z : j.0 ≡ k = cc in exported_stays e past k (subst (IsExported past) z (looked_made s past (bound_service past name) j c q))
    by _ _ p v q w = cc

-- an entry hands over no portal to a service that isn't made
pub gives_none : (s : System) (e : Entry) (past : Past) (k : ℕ) → IsAdmittedPast s (e ∷ past) → (k ≡ 0) ⊎ (services_made (e ∷ past) < k) → gives_portal k e ≡ false
unfolding gives_portal passes is_number
gives_none s e past k a l = ap2 (λ (x y : Bool). x || y) (service (received_service e.act e.reply) refl) (parcel (received_parcel e.act e.reply) refl)
  where
    clash : {A : Type 0} → (k ≡ 0) ⊎ (services_made (e ∷ past) < k) → IsExported (e ∷ past) k → A
    clash (inl q) h = absurd (omega (arith, q, h.low))
    clash (inr l) h = absurd (omega (arith, l, h.high))

    service : (o : Option ℕ) → received_service e.act e.reply ≡ o → is_number o k ≡ false
    service None q = refl
    service (Some x) q = by (x == k) refl
      where
        by : (b : Bool) → (x == k) ≡ b → b ≡ false
        by false w = refl
        by true w = clash l (subst (IsExported (e ∷ past)) (eq_of x k w) (received_service_made s e past x a q))

    parcel : (o : Option Parcel) → received_parcel e.act e.reply ≡ o → passes (λ p. contains_number (parcel_portals p) k) o ≡ false
    parcel None q = refl
    parcel (Some p) q = by (contains_number (parcel_portals p) k) refl
      where
        by : (b : Bool) → contains_number (parcel_portals p) k ≡ b → b ≡ false
        by false w = refl
        by true w = clash l (exported_stays e past k (received_made s e past p k a q w))

-- nobody was handed a portal to a service that isn't made
given_none : (s : System) (past : Past) (d k : ℕ) → IsAdmittedPast s past → (k ≡ 0) ⊎ (services_made past < k) → list_any (λ e. is_own d e && gives_portal k e) past ≡ false
given_none s [] d k a l = refl
given_none s (e ∷ past) d k a l =
    ap2 (λ (x y : Bool). (is_own d e && x) || y) (gives_none s e past k a l) (given_none s past d k a.1 (before l)) ∙ by (is_own d e)
  where
    before : (k ≡ 0) ⊎ (services_made (e ∷ past) < k) → (k ≡ 0) ⊎ (services_made past < k)
    before (inl q) = inl q
    before (inr l) = inr (omega (arith, l, services_grow e past))

    by : (b : Bool) → ((b && false) || false) ≡ false
    by true = refl
    by false = refl

-- ---- who is handed a portal

-- a number that fails the test wasn't given
unexported : (past : Past) (k : ℕ) → is_exported past k ≡ false → (k ≡ 0) ⊎ (services_made past < k)
unfolding is_exported
unexported past k h = by (nat_lt 0 k) refl (nat_le k (services_made past)) refl h
  where
    zeroth : (k : ℕ) → nat_lt 0 k ≡ false → k ≡ 0
    zeroth k q = grind (arith, nat_tests)

    beyond : (k n : ℕ) → nat_le k n ≡ false → n < k
    beyond k n q = grind (arith, nat_tests)

    by : (x : Bool) → nat_lt 0 k ≡ x → (y : Bool) → nat_le k (services_made past) ≡ y → (x && y) ≡ false → (k ≡ 0) ⊎ (services_made past < k)
    by false q y r h = inl (zeroth k q)
    by true q false r h = inr (beyond k (services_made past) r)
    by true q true r h = cc

-- an act that hands over a portal isn't Domain Zero's
giving_act : (k : ℕ) (a : Act) (r : Reply) → (is_number (received_service a r) k || passes (λ p. contains_number (parcel_portals p) k) (received_parcel a r)) ≡ true → is_zero_act a ≡ false
unfolding received_service received_parcel is_zero_act is_number passes
giving_act k (act.Create t) r h = cc
giving_act k act.Quiet r h = cc
giving_act k act.Halt r h = cc
giving_act k _ r h = refl

-- a domain that an entry hands a portal was made
handed_made : (s : System) (e : Entry) (past : Past) (d k : ℕ) → IsNext s past e → (is_own d e && gives_portal k e) ≡ true → is_made past d ≡ true
unfolding is_own gives_portal
handed_made s e past d k n h =
    let x = both (e.domain.0 == d) (is_number (received_service e.act e.reply) k || passes (λ p. contains_number (parcel_portals p) k) (received_parcel e.act e.reply)) h in
    ap (is_made past) (sym (eq_of e.domain.0 d x.0)) ∙ live_made past e.domain.0 (actor_live s past e (giving_act k e.act e.reply x.1) n)

-- a domain that wasn't made was handed none
unmade_handed : (s : System) (past : Past) (d k : ℕ) → IsAdmittedPast s past → is_made past d ≡ false → list_any (λ e. is_own d e && gives_portal k e) past ≡ false
unmade_handed s [] d k a h = refl
unmade_handed s (e ∷ past) d k a h =
    ap2 (λ (x y : Bool). x || y) (by (is_own d e && gives_portal k e) refl) (unmade_handed s past d k a.1 before)
  where
    before : is_made past d ≡ false
    before = by (is_made past d) refl
      where
        by : (b : Bool) → is_made past d ≡ b → b ≡ false
        by false q = refl
        by true q = sym (made_stays e past d q) ∙ h

    by : (b : Bool) → (is_own d e && gives_portal k e) ≡ b → b ≡ false
    by false q = refl
    by true q = sym (handed_made s e past d k a.0 q) ∙ before

-- what a made domain keeps is what it was handed
kept_is_handed : (s : System) (past : Past) (d k : ℕ) → IsAdmittedPast s past → is_made past d ≡ true → keeps_portal past d k ≡ list_any (λ e. is_own d e && gives_portal k e) past
unfolding keeps_portal
kept_is_handed s [] d k a m = refl
kept_is_handed s (e ∷ past) d k a m = by (is_exported (e ∷ past) k) refl (old (is_made past d) refl (kept_is_handed s past d k a.1))
  where
    old : (b : Bool) → is_made past d ≡ b → (is_made past d ≡ true → keeps_portal past d k ≡ list_any (λ e. is_own d e && gives_portal k e) past) → keeps_portal past d k ≡ list_any (λ e. is_own d e && gives_portal k e) past
    old true q again = again q
    old false q again = none (keeps_portal past d k) refl ∙ sym (unmade_handed s past d k a.1 q)
      where
        none : (b : Bool) → keeps_portal past d k ≡ b → b ≡ false
        none false w = refl
        none true w = sym (portal_made past d k w).0 ∙ q

    by : (b : Bool) → is_exported (e ∷ past) k ≡ b → keeps_portal past d k ≡ list_any (λ e. is_own d e && gives_portal k e) past → (is_made (e ∷ past) d && b && ((is_own d e && gives_portal k e) || keeps_portal past d k)) ≡ ((is_own d e && gives_portal k e) || list_any (λ e. is_own d e && gives_portal k e) past)
    by true q again =
        ap (λ (x : Bool). x && true && ((is_own d e && gives_portal k e) || keeps_portal past d k)) m
        ∙ ap (λ (x : Bool). (is_own d e && gives_portal k e) || x) again
    by false q again = ap (λ (x : Bool). x && false && ((is_own d e && gives_portal k e) || keeps_portal past d k)) m ∙ sym (given_none s (e ∷ past) d k a (unexported (e ∷ past) k q))

-- a live domain holds the portals that entries of its own gave it
pub portals_kept : (s : System) (past : Past) → IsAdmittedPast s past → PortalsAreKept past
unfolding holds_portal
portals_kept s past a d k = by (is_live past d) refl
  where
    by : (b : Bool) → is_live past d ≡ b → (b && keeps_portal past d k) ≡ (b && list_any (λ e. is_own d e && gives_portal k e) past)
    by false q = refl
    by true q = kept_is_handed s past d k a (live_made past d q)
