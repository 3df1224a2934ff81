-- What is held or carried after an entry was held or carried before it, unless the entry made it.
use Rattle.std.proofs.Common.{◌≡◌, refl, sym, ◌∙◌, ap, ℕ, ◌<◌, ◌≤◌, ◌+◌, Bool, true, false, not, ◌&&◌, [], ◌∷◌, length, Option, Some, None, is_some, is_none, arith, ◌==◌, if◌then◌else◌, ◌⊎◌, inl, inr}
use Rattle.std.specs.Prelude.{nat_lt, nat_le}
use Rattle.std.specs.List.{list_all}
use Rattle.std.proofs.lemmas.Bool.Decides.{nat_tests}
use Rattle.jx_base.specs.declared.act.Act.{Act}
use Rattle.jx_base.specs.declared.act.Act.TheVariants as act
use Rattle.jx_base.specs.declared.act.Reply.{Reply}
use Rattle.jx_base.specs.declared.act.Reply.TheVariants as reply
use Rattle.jx_base.specs.declared.act.Refusal.TheVariants as refusal
use Rattle.jx_base.specs.declared.act.Entry.{Entry}
use Rattle.jx_base.specs.declared.ids.MethodId.{MethodId}
use Rattle.jx_base.specs.declared.ids.ServiceId.{ServiceId}
use Rattle.jx_base.specs.declared.value.Parcel.{Parcel}
use Rattle.jx_base.specs.declared.program.System.{System}
use Rattle.jx_base.specs.Basics.{contains_number, up_to}
use Rattle.program_model.specs.ParcelParts.{parcel_objects, parcel_portals}
use Rattle.jx_base.specs.Histories.{Past, is_done, is_own}
use Rattle.jx_model.specs.Domains.{is_made, is_live, domains_made}
use Rattle.jx_model.specs.Portals.{holds_portal}
use Rattle.jx_model.specs.Calls.{Asked, Answer, is_call, asked_by, calls_made, call_entry, asked_of, answer_of, answered_by, answered_by_act, answer_by_reply, refused_answer, thrown, ends_server, is_unanswered, is_queued, is_taken, is_resumed, has_live_caller}
use Rattle.jx_model.specs.MemoryObjects.{objects_made}
use Rattle.jx_model.specs.Holding.{received_objects, is_drop_of, keeps_after, keeps_object, holds_object, holders, answer_objects, asked_objects, carried_by, carried, riders, riding_count, hold_count}
use Rattle.jx_model.specs.Replies.{reply_to, sent_back, holds_all}
use Rattle.jx_model.specs.Legal.{IsNext, IsAdmittedPast}
use Rattle.jx_base.proofs.BasicLaws.{both, ap3}
use Rattle.jx_base.proofs.NthEntries.{nth_new, count_new, count_same}
use Rattle.jx_model.proofs.CallSteps.{asked_made, answer_made, since_new}
use Rattle.jx_model.proofs.Serving.{take_at, queued_open}
use Rattle.jx_laws.proofs.Basics.{fails, clash, within_or_above}
use Rattle.jx_laws.proofs.Living.{live_made, live_before}
use Rattle.jx_laws.proofs.Lists.{no_number}
use Rattle.jx_laws.proofs.CallFacts.{entry_there, entry_is, caller_before, resume_at}
use Rattle.jx_laws.proofs.OneAnswer.{taken_kept, resumed_kept, answered_there, queued_untaken}
use Rattle.jx_laws.proofs.Standing.{queued_at, open_before}
use Rattle.jx_laws.proofs.HandedOn.{back_held}
use Rattle.jx_laws.proofs.Sources.{Source, Fresh, FromCall, FromAnswer, source}
use Rattle.jx_laws.proofs.Ranges.{count_range, range_count, each}
use Rattle.std.specs.Option.{option_and_then}

-- the object is held by a domain or carried by a call
pub data Use (past : Past) (m : ℕ) : Type 0 where
  ByDomain : (d : ℕ) → holds_object past d m ≡ true → Use past m
  ByCall : (c : ℕ) → contains_number (carried past c) m ≡ true → Use past m

-- ---- what is counted is held or carried

-- a number given lies between 1 and the last
is_made_within : (n d : ℕ) → (nat_lt 0 d && nat_le d n) ≡ true → (1 ≤ d) × (d ≤ n)
is_made_within n d h = let x = both (nat_lt 0 d) (nat_le d n) h in (low d x.0, high d n x.1)
  where
    low : (d : ℕ) → nat_lt 0 d ≡ true → 1 ≤ d
    low d h = grind (arith, nat_tests)

    high : (d n : ℕ) → nat_le d n ≡ true → d ≤ n
    high d n h = grind (arith, nat_tests)

-- a domain that was made has one of the numbers given
pub made_within : (past : Past) (d : ℕ) → is_made past d ≡ true → (1 ≤ d) × (d ≤ domains_made past)
unfolding is_made
made_within past d h = is_made_within (domains_made past) d h

-- who holds an object is live and keeps it
holder_live : (past : Past) (d m : ℕ) → holds_object past d m ≡ true → (is_live past d ≡ true) × (keeps_object past d m ≡ true)
unfolding holds_object
holder_live past d m h = both (is_live past d) (keeps_object past d m) h

-- what a call carries is what it asked while it is queued, or else its answer that its caller has yet to get
pub record IsAwaited (past : Past) (c m : ℕ) : Type 0 where
  pub caller : has_live_caller past c ≡ true
  pub waiting : is_resumed past c ≡ false
  pub answer : contains_number (answer_objects (answer_of past c)) m ≡ true

-- a call carries what it asked, or an answer that is awaited
carried_cases : (past : Past) (c m : ℕ) → contains_number (carried past c) m ≡ true →
    ((is_queued past c ≡ true) × (contains_number (asked_objects (asked_of past c)) m ≡ true)) ⊎ IsAwaited past c m
unfolding carried carried_by
carried_cases past c m h = by (is_queued past c) (has_live_caller past c) (is_resumed past c) refl refl refl h
  where
    by : (q l r : Bool) → is_queued past c ≡ q → has_live_caller past c ≡ l → is_resumed past c ≡ r →
        contains_number (if q then asked_objects (asked_of past c) else if (l && not r) then answer_objects (answer_of past c) else []) m ≡ true →
        ((is_queued past c ≡ true) × (contains_number (asked_objects (asked_of past c)) m ≡ true)) ⊎ IsAwaited past c m
    by true l r x y z h = inl (x, h)
    by false true false x y z h = inr (record { caller = y; waiting = z; answer = h })
    by false true true x y z h = no_number m h
    by false false r x y z h = no_number m h

-- an answer that carries something is there
some_answer : (past : Past) (c m : ℕ) → contains_number (answer_objects (answer_of past c)) m ≡ true → is_some (answer_of past c) ≡ true
unfolding answer_objects
some_answer past c m h = by (answer_of past c) h
  where
    by : (o : Option Answer) → contains_number (answer_objects o) m ≡ true → is_some o ≡ true
    by None h = no_number m h
    by (Some a) h = refl

-- a queued call was made
queued_parts : (past : Past) (c : ℕ) → is_queued past c ≡ true → is_some (call_entry past c) ≡ true
unfolding is_queued is_unanswered
queued_parts past c h = (both (is_some (call_entry past c)) (is_none (answer_of past c)) (both (is_some (call_entry past c) && is_none (answer_of past c)) (not (is_taken past c)) h).0).0

-- a call that carries something was made
pub carrier_there : (past : Past) (c m : ℕ) → contains_number (carried past c) m ≡ true → (1 ≤ c) × (c ≤ calls_made past)
carrier_there past c m h = elim (carried_cases past c m h) [
  | inl x ↦ entry_there past c (queued_parts past c x.0)
  | inr x ↦ answered_there past c (some_answer past c m x.answer)
]

-- a sum with a part above 0 is above 0
positive : (a b : ℕ) → (1 ≤ a) ⊎ (1 ≤ b) → nat_lt 0 (a + b) ≡ true
positive a b (inl h) = grind (arith, nat_tests)
positive a b (inr h) = grind (arith, nat_tests)

-- of a sum above 0 a part is above 0
either : (a b : ℕ) → nat_lt 0 (a + b) ≡ true → (nat_lt 0 a ≡ true) ⊎ (nat_lt 0 b ≡ true)
either a b h = grind (arith, nat_tests)

-- what is held or carried is counted
pub use_counts : (past : Past) (m : ℕ) → Use past m → nat_lt 0 (hold_count past m) ≡ true
unfolding hold_count holders riding_count riders up_to
use_counts past m (ByDomain d h) =
    let x = made_within past d (live_made past d (holder_live past d m h).0) in
    positive _ _ (inl (range_count (λ k. holds_object past k m) 1 (domains_made past) d h x.0 (omega (arith, x.1))))
use_counts past m (ByCall c h) =
    let x = carrier_there past c m h in
    positive _ _ (inr (range_count (λ k. contains_number (carried past k) m) 1 (calls_made past) c h x.0 (omega (arith, x.1))))

-- what is counted is held or carried
pub counts_use : (past : Past) (m : ℕ) → nat_lt 0 (hold_count past m) ≡ true → Use past m
unfolding hold_count holders riding_count riders up_to
counts_use past m h = elim (either _ _ h) [
  | inl q ↦ let x = count_range (λ k. holds_object past k m) 1 (domains_made past) q in ByDomain x.at x.passes
  | inr q ↦ let x = count_range (λ k. contains_number (carried past k) m) 1 (calls_made past) q in ByCall x.at x.passes
]

-- ---- what an act sends, its domain held

-- each object of a parcel that a domain holds whole is held
pub all_held : (past : Past) (d : ℕ) (p : Parcel) (m : ℕ) → holds_all past d p ≡ true → contains_number (parcel_objects p) m ≡ true → Use past m
unfolding holds_all
all_held past d p m h i = ByDomain d (each (holds_object past d) (parcel_objects p) m (both (list_all (holds_portal past d) (parcel_portals p)) (list_all (holds_object past d) (parcel_objects p)) h).1 i)

-- what a done return or throw sends was held
sent_held : (s : System) (past : Past) (d c : ℕ) (p : Parcel) (m : ℕ) → is_done (sent_back s past d c p) ≡ true → contains_number (parcel_objects p) m ≡ true → Use past m
sent_held s past d c p m h i = all_held past d p m (back_held s past d c p h) i

-- an answer that carries something is of a done return or throw
answer_carries : (r : Reply) (a : Answer) (m : ℕ) → contains_number (answer_objects (Some (answer_by_reply r a))) m ≡ true → (is_done r ≡ true) × (contains_number (answer_objects (Some a)) m ≡ true)
unfolding answer_by_reply refused_answer is_done answer_objects
answer_carries (reply.Refused refusal.Discarded) a m h = no_number m h
answer_carries (reply.Refused _) a m h = no_number m h
answer_carries _ a m h = (refl, h)

-- what an exception carries is of its parcel
thrown_carries : (p : Parcel) (m : ℕ) → contains_number (answer_objects (Some (thrown p))) m ≡ true → contains_number (parcel_objects p) m ≡ true
unfolding thrown answer_objects
thrown_carries p m h = by (length p.roots == 0) h
  where
    by : (b : Bool) → contains_number (answer_objects (Some (if b then Answer.CopyFailed else Answer.Thrown p))) m ≡ true → contains_number (parcel_objects p) m ≡ true
    by true h = no_number m h
    by false h = h

-- what a value carries is of its parcel
value_carries : (p : Parcel) (m : ℕ) → contains_number (answer_objects (Some (Answer.Value p))) m ≡ true → contains_number (parcel_objects p) m ≡ true
unfolding answer_objects
value_carries p m h = h

-- what an answer behind a test carries
answered_if : (b : Bool) (a : Answer) (m : ℕ) → contains_number (answer_objects (if b then Some a else None)) m ≡ true → contains_number (answer_objects (Some a)) m ≡ true
unfolding answer_objects
answered_if true a m h = h
answered_if false a m h = no_number m h

-- what an act's answer carries, its domain held
act_answer_held : (s : System) (past : Past) (d c m : ℕ) (a : Act) (r : Reply) → r ≡ reply_to s past d a → contains_number (answer_objects (answered_by_act c a r)) m ≡ true → Use past m
unfolding answered_by_act reply_to answer_objects
act_answer_held s past d c m (act.Return k p) r q h =
    let x = answer_carries r (Answer.Value p) m (answered_if (k.0 == c) _ m h) in
    sent_held s past d k.0 p m (ap is_done (sym q) ∙ x.0) (value_carries p m x.1)
act_answer_held s past d c m (act.Throw k p) r q h =
    let x = answer_carries r (thrown p) m (answered_if (k.0 == c) _ m h) in
    sent_held s past d k.0 p m (ap is_done (sym q) ∙ x.0) (thrown_carries p m x.1)
act_answer_held s past d c m _ r q h = no_number m h

-- an end carries nothing
ended_carries : {A : Type 0} (b : Bool) (m : ℕ) → contains_number (answer_objects (if b then Some Answer.Ended else None)) m ≡ true → A
unfolding answer_objects
ended_carries true m h = no_number m h
ended_carries false m h = no_number m h

-- what an entry's answer carries, its domain held
pub answer_held : (s : System) (past : Past) (e : Entry) (c m : ℕ) → IsNext s past e → contains_number (answer_objects (answered_by past e c)) m ≡ true → Use past m
unfolding answered_by
answer_held s past e c m n h = by (answered_by_act c e.act e.reply) refl h
  where
    by : (o : Option Answer) → answered_by_act c e.act e.reply ≡ o →
        contains_number (answer_objects (elim o as (λ _. Option Answer) [ Some a ↦ Some a | None ↦ if ends_server past c e then Some Answer.Ended else None ])) m ≡ true → Use past m
    by (Some a) q h = act_answer_held s past e.domain.0 c m e.act e.reply n.reply (ap (λ (o : Option Answer). contains_number (answer_objects o) m) q ∙ h)
    by None q h = ended_carries (ends_server past c e) m h

-- ---- what is carried after an entry

-- what a queued call asked, it carries
queued_carries : (past : Past) (c m : ℕ) → is_queued past c ≡ true → contains_number (asked_objects (asked_of past c)) m ≡ true → Use past m
unfolding carried carried_by
queued_carries past c m q h =
    ByCall c (ap (λ (b : Bool). contains_number (if b then asked_objects (asked_of past c) else if (has_live_caller past c && not (is_resumed past c)) then answer_objects (answer_of past c) else []) m) q ∙ h)

-- an answered call isn't queued
not_queued : (past : Past) (c : ℕ) → is_some (answer_of past c) ≡ true → is_queued past c ≡ false
not_queued past c h = fails (is_queued past c) (λ q. let z = queued_open past c q in cc (z, h))

-- what an awaited answer carries, its call carries
awaited_carries : (past : Past) (c m : ℕ) → IsAwaited past c m → Use past m
unfolding carried carried_by
awaited_carries past c m x =
    ByCall c (
    ap3 (λ (q l r : Bool). contains_number (if q then asked_objects (asked_of past c) else if (l && not r) then answer_objects (answer_of past c) else []) m)
    (not_queued past c (some_answer past c m x.answer)) x.caller x.waiting
    ∙ x.answer
    )

-- a call without an answer that isn't taken is queued
queued_of : (past : Past) (c : ℕ) → is_some (call_entry past c) ≡ true → answer_of past c ≡ None → is_taken past c ≡ false → is_queued past c ≡ true
unfolding is_queued is_unanswered
queued_of past c h i j = by (is_some (call_entry past c)) (answer_of past c) (is_taken past c) h i j
  where
    by : (b : Bool) (o : Option Answer) (t : Bool) → b ≡ true → o ≡ None → t ≡ false → (b && is_none o && not t) ≡ true
    by true None false h i j = refl
    by true None true h i j = cc
    by true (Some a) t h i j = cc
    by false o t h i j = cc

-- a call that is queued after an entry, and was made before it, was queued before it
pub queued_before : (e : Entry) (past : Past) (c : ℕ) → 1 ≤ c → c ≤ calls_made past → is_queued (e ∷ past) c ≡ true → is_queued past c ≡ true
queued_before e past c l u h =
    queued_of past c (entry_is past c l u) (open_before e past c (queued_open (e ∷ past) c h))
    (fails (is_taken past c) (λ t. clash (is_taken (e ∷ past) c) (taken_kept e past c t) (queued_untaken (e ∷ past) c h)))

-- what a call asks is of its parcel
asked_call : (k : ServiceId) (n : MethodId) (p : Parcel) (m : ℕ) → contains_number (asked_objects (asked_by (act.Call k n p))) m ≡ true → contains_number (parcel_objects p) m ≡ true
unfolding asked_by asked_objects
asked_call k n p m h = h

-- what a new call asked
asked_new : (e : Entry) (past : Past) (c : ℕ) → is_call e ≡ true → c ≡ calls_made past + 1 → asked_of (e ∷ past) c ≡ asked_by e.act
unfolding asked_of call_entry
asked_new e past c h q = ap (λ (o : Option Entry). option_and_then (λ y. asked_by y.act) o) (nth_new is_call e past c h q)

-- what a new call carries, its caller held
new_call_held : (s : System) (past : Past) (e : Entry) (c m : ℕ) → IsNext s past e → is_call e ≡ true → c ≡ calls_made past + 1 → contains_number (asked_objects (asked_of (e ∷ past) c)) m ≡ true → Use past m
new_call_held s past e c m n h q i =
    let x = queued_at s past e n h in
    all_held past e.domain.0 x.asks.parcel m x.goes.parcel
    (asked_call x.asks.service x.asks.method x.asks.parcel m (ap (λ (o : Option Asked). contains_number (asked_objects o) m) (sym (asked_new e past c h q ∙ ap asked_by x.asks.is)) ∙ i))

-- a new call has no answer
new_unanswered : (e : Entry) (past : Past) (c : ℕ) → calls_made past < c → answer_of (e ∷ past) c ≡ None
unfolding answer_of
new_unanswered e past c h = since_new _ e past c h

-- no answer carries nothing
no_answer : {A : Type 0} (m : ℕ) (o : Option Answer) → o ≡ None → contains_number (answer_objects o) m ≡ true → A
unfolding answer_objects
no_answer m None q h = no_number m h
no_answer m (Some a) q h = cc

-- what a call carries after an entry was held or carried before it
pub carried_before : (s : System) (past : Past) (e : Entry) (c m : ℕ) → IsAdmittedPast s (e ∷ past) → contains_number (carried (e ∷ past) c) m ≡ true → Use past m
carried_before s past e c m a h = by (carrier_there (e ∷ past) c m h) (within_or_above c (calls_made past)) (carried_cases (e ∷ past) c m h)
  where
    new : (1 ≤ c) × (c ≤ calls_made (e ∷ past)) → calls_made past < c → (b : Bool) → is_call e ≡ b → contains_number (asked_objects (asked_of (e ∷ past) c)) m ≡ true → Use past m
    new w l true q i = new_call_held s past e c m a.0 q (omega (arith, l, w, count_new is_call e past q)) i
    new w l false q i = absurd (omega (arith, l, w, count_same is_call e past q))

    answered : 1 ≤ c → c ≤ calls_made past → IsAwaited (e ∷ past) c m → (o : Option Answer) → answer_of past c ≡ o →
        contains_number (answer_objects (elim o as (λ _. Option Answer) [ Some a ↦ Some a | None ↦ answered_by past e c ])) m ≡ true → Use past m
    answered l u x None q i = answer_held s past e c m a.0 i
    answered l u x (Some y) q i =
        awaited_carries past c m (record {
          caller = caller_before s e past c a.1 u x.caller;
          waiting = fails (is_resumed past c) (λ t. clash (is_resumed (e ∷ past) c) (resumed_kept e past c t) x.waiting);
          answer = ap (λ (o : Option Answer). contains_number (answer_objects o) m) q ∙ i;
        })

    by : (1 ≤ c) × (c ≤ calls_made (e ∷ past)) → (c ≤ calls_made past) ⊎ (calls_made past < c) →
        ((is_queued (e ∷ past) c ≡ true) × (contains_number (asked_objects (asked_of (e ∷ past) c)) m ≡ true)) ⊎ IsAwaited (e ∷ past) c m → Use past m
    by w (inl u) (inl x) =
        queued_carries past c m (queued_before e past c w.0 u x.0) (ap (λ (o : Option Asked). contains_number (asked_objects o) m) (sym (asked_made e past c u)) ∙ x.1)
    by w (inr l) (inl x) = new w l (is_call e) refl x.1
    by w (inl u) (inr x) = answered w.0 u x (answer_of past c) refl (ap (λ (o : Option Answer). contains_number (answer_objects o) m) (sym (answer_made e past c w.0 u)) ∙ x.answer)
    by w (inr l) (inr x) = no_answer m (answer_of (e ∷ past) c) (new_unanswered e past c l) x.answer

-- ---- what is held after an entry

-- what a domain keeps its entry handed over, or it kept it before
keeps_cases : (d m : ℕ) (e : Entry) (before : Bool) → keeps_after d m e before ≡ true →
    ((is_own d e ≡ true) × (contains_number (received_objects e.act e.reply) m ≡ true)) ⊎ (before ≡ true)
unfolding keeps_after
keeps_cases d m e before h = by (is_own d e) (contains_number (received_objects e.act e.reply) m) (is_done e.reply) (is_drop_of m e.act) h
  where
    by : (o r x y : Bool) → (if (o && r) then true else if (o && x && y) then false else before) ≡ true → ((o ≡ true) × (r ≡ true)) ⊎ (before ≡ true)
    by true true x y h = inl (refl, refl)
    by true false true true h = cc
    by true false true false h = inr h
    by true false false y h = inr h
    by false r x y h = inr h

-- what a domain keeps after an entry it keeps by that entry
keeps_step : (e : Entry) (past : Past) (d m : ℕ) → keeps_object (e ∷ past) d m ≡ true → keeps_after d m e (keeps_object past d m) ≡ true
unfolding keeps_object
keeps_step e past d m h =
    (both (is_made (e ∷ past) d && nat_le m (objects_made (e ∷ past))) (keeps_after d m e (keeps_object past d m)) (assoc (is_made (e ∷ past) d) (nat_le m (objects_made (e ∷ past))) (keeps_after d m e (keeps_object past d m)) h)).1
  where
    assoc : (x y z : Bool) → (x && y && z) ≡ true → ((x && y) && z) ≡ true
    assoc true true z h = h
    assoc true false z h = h
    assoc false y z h = h

-- who keeps an object was made
pub keeper_made : (past : Past) (d m : ℕ) → keeps_object past d m ≡ true → is_made past d ≡ true
unfolding keeps_object
keeper_made [] d m h = cc
keeper_made (e ∷ past) d m h = first (is_made (e ∷ past) d) (nat_le m (objects_made (e ∷ past))) (keeps_after d m e (keeps_object past d m)) h
  where
    first : (x y z : Bool) → (x && y && z) ≡ true → x ≡ true
    first true y z h = refl
    first false y z h = h

-- a live domain that keeps an object holds it
pub holds_of : (past : Past) (d m : ℕ) → is_live past d ≡ true → keeps_object past d m ≡ true → holds_object past d m ≡ true
unfolding holds_object
holds_of past d m h i = rw (h, i) refl

-- what a domain holds after an entry was held or carried before it, unless it is new
pub held_before : (s : System) (past : Past) (e : Entry) (d m : ℕ) → IsAdmittedPast s (e ∷ past) → m ≤ objects_made past → holds_object (e ∷ past) d m ≡ true → Use past m
held_before s past e d m a u h = by (holder_live (e ∷ past) d m h)
  where
    received : Source past e.act m → Use past m
    received (Fresh l) = absurd (omega (arith, l, u))
    received (FromCall c q i) = queued_carries past c.0 m (take_at s past e c a.0 q).queued i
    received (FromAnswer c q i) = let r = resume_at s past e c a.0 q in awaited_carries past c.0 m (record { caller = r.caller; waiting = r.waiting; answer = i })

    given : contains_number (received_objects e.act e.reply) m ≡ true → Source past e.act m
    given i = source s past e.domain.0 m e.act (ap (λ (r : Reply). contains_number (received_objects e.act r) m) (sym a.0.reply) ∙ i)

    by : (is_live (e ∷ past) d ≡ true) × (keeps_object (e ∷ past) d m ≡ true) → Use past m
    by x = elim (keeps_cases d m e (keeps_object past d m) (keeps_step e past d m x.1)) [
      | inl q ↦ received (given q.1)
      | inr q ↦ ByDomain d (holds_of past d m (live_before e past d (keeper_made past d m q) x.0) q)
    ]

-- what is held or carried after an entry was held or carried before it, unless it is new
pub use_before : (s : System) (past : Past) (e : Entry) (m : ℕ) → IsAdmittedPast s (e ∷ past) → m ≤ objects_made past → Use (e ∷ past) m → Use past m
use_before s past e m a u (ByDomain d h) = held_before s past e d m a u h
use_before s past e m a u (ByCall c h) = carried_before s past e c m a h
