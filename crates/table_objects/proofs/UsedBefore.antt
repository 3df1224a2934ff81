-- What is held or carried after an entry, and was made before it, was held or carried before.
use Rattle.std.proofs.Common.{◌≡◌, ◌≢◌, refl, sym, ◌∙◌, ap, ℕ, ◌+◌, ◌<◌, ◌≤◌, Bool, true, false, not, ◌&&◌, ◌||◌, List, [], ◌∷◌, length, Option, Some, None, is_some, is_none, arith, ◌==◌, if◌then◌else◌, ◌⊎◌, inl, inr}
use Rattle.std.specs.List.{list_all}
use Rattle.std.specs.Prelude.{nat_le, nat_lt}
use Rattle.std.proofs.lemmas.Bool.Decides.{nat_tests}
use Rattle.jx_base.specs.declared.act.Act.{Act}
use Rattle.jx_base.specs.declared.act.Act.TheVariants as act
use Rattle.jx_base.specs.declared.act.Reply.{Reply}
use Rattle.jx_base.specs.declared.act.Reply.TheVariants as reply
use Rattle.jx_base.specs.declared.act.Refusal.TheVariants as refusal
use Rattle.jx_base.specs.declared.act.Entry.{Entry}
use Rattle.jx_base.specs.declared.ids.MethodId.{MethodId}
use Rattle.jx_base.specs.declared.ids.ServiceId.{ServiceId}
use Rattle.jx_base.specs.declared.value.Parcel.{Parcel}
use Rattle.jx_base.specs.declared.program.System.{System}
use Rattle.jx_base.specs.declared.states.CallState.{CallState}
use Rattle.jx_base.specs.declared.states.CallState.TheVariants as call
use Rattle.jx_base.specs.Basics.{contains_number, passes}
use Rattle.program_model.specs.ParcelParts.{parcel_objects}
use Rattle.jx_base.specs.Histories.{Past, is_own, is_done}
use Rattle.jx_model.specs.Domains.{is_live}
use Rattle.jx_model.specs.Portals.{holds_portal}
use Rattle.jx_model.specs.Calls.{Answer, is_call, asked_by, queued_as, calls_made, is_queued, is_unanswered, is_resumed, is_resumable, has_live_caller, caller_of, answer_of, answered_by, answered_by_act, answer_by_reply, refused_answer, thrown, ends_server, asked_of, call_entry, call_state, is_taken, is_take_of, is_resume_of}
use Rattle.jx_model.specs.MemoryObjects.{objects_made}
use Rattle.jx_model.specs.Holding.{received_objects, is_drop_of, keeps_after, keeps_object, holds_object, carried, carried_by, asked_objects, answer_objects}
use Rattle.jx_model.specs.Tables.{CallRecord, call_record}
use Rattle.jx_model.specs.Permits.{acting_thread}
use Rattle.jx_model.specs.Replies.{reply_to, sent_back, called, holds_all}
use Rattle.jx_model.specs.Legal.{IsNext, IsAdmittedPast}
use Rattle.jx_base.proofs.BasicLaws.{both, eq_of, turned, nothing}
use Rattle.jx_base.proofs.NthEntries.{nth_none, nth_passes, count_new, count_same}
use Rattle.jx_model.proofs.Serving.{take_at, not_ended_yet, before_end}
use Rattle.table_threads.proofs.Records.{same_or_not}
use Rattle.table_threads.proofs.Actors.{live_made, live_by_reason}
use Rattle.table_threads.proofs.CallStages.{resumes}
use Rattle.table_objects.proofs.Holders.{keeps_step, keeps_made}
use Rattle.jx_model.proofs.Refusals.{objects_grow}
use Rattle.table_objects.proofs.GivenObjects.{Source, Fresh, FromCall, FromAnswer, source}
use Rattle.table_threads.proofs.CallRecords.{carried_after, carried_made, call_record_new}
use Rattle.table_threads.proofs.CallActs.{caller_lived}
use Rattle.std.specs.Option.{option_map}
use Rattle.jx_model.proofs.DoneReplies.{undone}

-- a domain holds the object, or a call carries it
pub data Use (past : Past) (m : ℕ) : Type 0 where
  ByDomain : (d : ℕ) → holds_object past d m ≡ true → Use past m
  ByCall : (c : ℕ) → contains_number (carried past c) m ≡ true → Use past m

-- ---- what an entry hands over

-- a call that is queued carries what it asks
pub queued_carries : (past : Past) (c m : ℕ) → is_queued past c ≡ true → contains_number (asked_objects (asked_of past c)) m ≡ true → contains_number (carried past c) m ≡ true
unfolding carried carried_by
queued_carries past c m q h =
    ap (λ (b : Bool). contains_number (if b then asked_objects (asked_of past c) else if has_live_caller past c && not (is_resumed past c) then answer_objects (answer_of past c) else []) m) q ∙ h

-- an answer that can be had is carried
pub answer_carries : (past : Past) (c m : ℕ) → is_resumable past c ≡ true → contains_number (answer_objects (answer_of past c)) m ≡ true → contains_number (carried past c) m ≡ true
unfolding carried carried_by is_resumable is_queued is_unanswered
answer_carries past c m q h = by (is_some (call_entry past c)) (answer_of past c) (has_live_caller past c) (is_resumed past c) (is_taken past c) q h
  where
    by : (n : Bool) (o : Option Answer) (l r t : Bool) → (is_some o && l && not r) ≡ true → contains_number (answer_objects o) m ≡ true →
        contains_number (if n && is_none o && not t then asked_objects (asked_of past c) else if l && not r then answer_objects o else []) m ≡ true
    by n None l r t q h = cc
    by n (Some a) false r t q h = cc
    by n (Some a) true true t q h = cc
    by true (Some a) true false t q h = h
    by false (Some a) true false t q h = h

-- an object that an entry hands over, and was made before, was carried by a call
pub given_was_carried : (s : System) (e : Entry) (past : Past) (m : ℕ) → IsAdmittedPast s (e ∷ past) → m ≤ objects_made past → contains_number (received_objects e.act e.reply) m ≡ true → Use past m
given_was_carried s e past m a l h = by (source s e past m a h)
  where
    by : Source past m e.act → Use past m
    by (Fresh f) = absurd (omega (arith, f, l))
    by (FromCall c q f) = ByCall c.0 (queued_carries past c.0 m (take_at s past e c a.0 q).queued f)
    by (FromAnswer c q f) = ByCall c.0 (answer_carries past c.0 m (resumes s past e.domain.0 e.thread.0 c (ap (acting_thread s past e.domain.0) (sym q) ∙ a.0.thread)) f)

after_cases : (d m : ℕ) (e : Entry) (before : Bool) → keeps_after d m e before ≡ true → (contains_number (received_objects e.act e.reply) m ≡ true) ⊎ (before ≡ true)
unfolding keeps_after
after_cases d m e before h = by (is_own d e) (contains_number (received_objects e.act e.reply) m) h
  where
    kept : (x y : Bool) → (if x then false else y) ≡ true → y ≡ true
    kept true y h = cc
    kept false y h = h

    by : (o g : Bool) → (if o && g then true else if o && is_done e.reply && is_drop_of m e.act then false else before) ≡ true → (g ≡ true) ⊎ (before ≡ true)
    by true true h = inl refl
    by true false h = inr (kept (is_done e.reply && is_drop_of m e.act) before h)
    by false g h = inr h

-- what a domain holds after an entry, of what was made before
pub held_before : (s : System) (e : Entry) (past : Past) (d m : ℕ) → IsAdmittedPast s (e ∷ past) → m ≤ objects_made past → m ≤ objects_made (e ∷ past) → holds_object (e ∷ past) d m ≡ true → Use past m
unfolding holds_object
held_before s e past d m a l u h =
    let x = both (is_live (e ∷ past) d) (keeps_object (e ∷ past) d m) h in
    let g = sym (keeps_step e past d m (live_made (e ∷ past) d x.0) u) ∙ x.1 in
    elim (after_cases d m e (keeps_object past d m) g) [
      | inl z ↦ given_was_carried s e past m a l z
      | inr z ↦
          let y = before_end e past d (not_ended_yet (e ∷ past) d x.0) in
          ByDomain d (ap (λ (b : Bool). b && keeps_object past d m) (live_by_reason past d (keeps_made past d m z) ∙ ap is_none y.1) ∙ z)
    ]

-- ---- what a call carries

-- each of a list that passes whole
pub each : (p : ℕ → Bool) (xs : List ℕ) (m : ℕ) → list_all p xs ≡ true → contains_number xs m ≡ true → p m ≡ true
unfolding contains_number
each p [] m h i = cc
each p (x ∷ xs) m h i = by (x == m) refl i (each p xs m (both (p x) (list_all p xs) h).1)
  where
    by : (b : Bool) → (x == m) ≡ b → (b || contains_number xs m) ≡ true → (contains_number xs m ≡ true → p m ≡ true) → p m ≡ true
    by true q i again = ap p (sym (eq_of x m q)) ∙ (both (p x) (list_all p xs) h).0
    by false q i again = again i

-- what a domain holds all of
pub all_held : (past : Past) (d : ℕ) (p : Parcel) (m : ℕ) → holds_all past d p ≡ true → contains_number (parcel_objects p) m ≡ true → Use past m
unfolding holds_all
all_held past d p m h i = ByDomain d (each (holds_object past d) (parcel_objects p) m (both _ (list_all (holds_object past d) (parcel_objects p)) h).1 i)

-- a done return or throw sends what its actor held
pub sent_held : (s : System) (past : Past) (d c : ℕ) (p : Parcel) (m : ℕ) → is_done (sent_back s past d c p) ≡ true → contains_number (parcel_objects p) m ≡ true → Use past m
unfolding sent_back
sent_held s past d c p m h i = all_held past d p m (turned (holds_all past d p) (undone _ _ _ (undone _ _ _ h).1).0) i

-- an answer that a test lets pass
answered_if : (b : Bool) (a : Answer) (m : ℕ) → contains_number (answer_objects (if b then Some a else None)) m ≡ true → contains_number (answer_objects (Some a)) m ≡ true
unfolding answer_objects
answered_if true a m h = h
answered_if false a m h = nothing m h

carries_done : (r : Reply) (a : Answer) (m : ℕ) → contains_number (answer_objects (Some (answer_by_reply r a))) m ≡ true → (is_done r ≡ true) × (contains_number (answer_objects (Some a)) m ≡ true)
unfolding answer_by_reply refused_answer is_done answer_objects
carries_done (reply.Refused refusal.Discarded) a m h = nothing m h
carries_done (reply.Refused _) a m h = nothing m h
carries_done _ a m h = (refl, h)

thrown_objects : (p : Parcel) (m : ℕ) → contains_number (answer_objects (Some (thrown p))) m ≡ true → contains_number (parcel_objects p) m ≡ true
unfolding thrown answer_objects
thrown_objects p m h = by (length p.roots == 0) h
  where
    by : (b : Bool) → contains_number (answer_objects (Some (if b then Answer.CopyFailed else Answer.Thrown p))) m ≡ true → contains_number (parcel_objects p) m ≡ true
    by true h = nothing m h
    by false h = h

-- a queued call asks what its caller held
pub call_held : (s : System) (past : Past) (d m : ℕ) (k : ServiceId) (n : MethodId) (p : Parcel) → is_done (reply_to s past d (act.Call k n p)) ≡ true → contains_number (parcel_objects p) m ≡ true → Use past m
unfolding reply_to called
call_held s past d m k n p h i = all_held past d p m (both (holds_portal past d k.0) (holds_all past d p) (turned (holds_portal past d k.0 && holds_all past d p) (undone _ _ _ h).0)).1 i

-- what an entry's answer sends, its actor held
pub answer_held : (s : System) (e : Entry) (past : Past) (c m : ℕ) → IsNext s past e → contains_number (answer_objects (answered_by_act c e.act e.reply)) m ≡ true → Use past m
unfolding answered_by_act reply_to answer_objects
answer_held s e past c m n h = by e.act e.reply n.reply h
  where
    by : (a : Act) (r : Reply) → r ≡ reply_to s past e.domain.0 a → contains_number (answer_objects (answered_by_act c a r)) m ≡ true → Use past m
    by (act.Return k p) r q h =
        let x = carries_done r (Answer.Value p) m (answered_if (k.0 == c) (answer_by_reply r (Answer.Value p)) m h) in
        sent_held s past e.domain.0 k.0 p m (ap is_done (sym q) ∙ x.0) x.1
    by (act.Throw k p) r q h =
        let x = carries_done r (thrown p) m (answered_if (k.0 == c) (answer_by_reply r (thrown p)) m h) in
        sent_held s past e.domain.0 k.0 p m (ap is_done (sym q) ∙ x.0) (thrown_objects p m x.1)
    by _ r q h = nothing m h

-- what an entry answers, with the end of a server
pub answers_held : (s : System) (e : Entry) (past : Past) (c m : ℕ) → IsNext s past e → contains_number (answer_objects (answered_by past e c)) m ≡ true → Use past m
unfolding answered_by answer_objects
answers_held s e past c m n h = by (answered_by_act c e.act e.reply) refl h
  where
    ended : {A : Type 0} (b : Bool) → contains_number (answer_objects (if b then Some Answer.Ended else None)) m ≡ true → A
    ended true h = nothing m h
    ended false h = nothing m h

    by : (o : Option Answer) → answered_by_act c e.act e.reply ≡ o → contains_number (answer_objects (elim o as (λ _. Option Answer) [ Some a ↦ Some a | None ↦ if ends_server past c e then Some Answer.Ended else None ])) m ≡ true → Use past m
    by None q h = ended (ends_server past c e) h
    by (Some a) q h = answer_held s e past c m n (ap (λ (o : Option Answer). contains_number (answer_objects o) m) q ∙ h)

-- what comes into what a call carries
carries_cases : (x : CallState) (old : List ℕ) (take : Bool) (answer : Option Answer) (awaited : Bool) (m : ℕ) → contains_number (carried_after x old take answer awaited) m ≡ true →
    (contains_number old m ≡ true) ⊎ (contains_number (answer_objects answer) m ≡ true)
carries_cases call.Resumed old take answer awaited m h = nothing m h
carries_cases (call.Answered k) old take answer true m h = inl h
carries_cases (call.Answered k) old take answer false m h = nothing m h
carries_cases call.Running old take answer true m h = inr h
carries_cases call.Running old take answer false m h = nothing m h
carries_cases call.Queued old take (Some a) true m h = inr h
carries_cases call.Queued old take (Some a) false m h = nothing m h
carries_cases call.Queued old true None awaited m h = nothing m h
carries_cases call.Queued old false None awaited m h = inl h

-- what a call that was queued before carries after an entry
pub carried_before : (s : System) (e : Entry) (past : Past) (c m : ℕ) → IsAdmittedPast s (e ∷ past) → 1 ≤ c → c ≤ calls_made past → contains_number (carried (e ∷ past) c) m ≡ true → Use past m
carried_before s e past c m a l u h =
    elim (carries_cases (call_state past c) (carried past c) (is_take_of c e.act) (answered_by past e c) (has_live_caller (e ∷ past) c && not (is_resume_of c e.act)) m
    (ap (λ (xs : List ℕ). contains_number xs m) (sym (carried_made s e past c a.1 l u (caller_lived s e past c a.1 u))) ∙ h)) [
      | inl x ↦ ByCall c x
      | inr x ↦ answers_held s e past c m a.0 x
    ]

done_by_queue : (r : Reply) → is_some (queued_as r) ≡ true → is_done r ≡ true
unfolding queued_as is_done
done_by_queue (reply.Queued c) h = refl
done_by_queue (reply.Refused x) h = cc
done_by_queue _ h = refl

-- what the call that an entry queues carries
pub carried_new : (s : System) (e : Entry) (past : Past) (m : ℕ) → IsNext s past e → is_call e ≡ true → contains_number (carried (e ∷ past) (calls_made past + 1)) m ≡ true → Use past m
unfolding is_call asked_by asked_objects carried call_record
carried_new s e past m n h i = by e.act refl (both (is_some (asked_by e.act)) (is_some (queued_as e.reply)) h)
  where
    by : (a : Act) → e.act ≡ a → (is_some (asked_by a) ≡ true) × (is_some (queued_as e.reply) ≡ true) → Use past m
    by (act.Call k x p) q w =
        call_held s past e.domain.0 m k x p
        (ap is_done (ap (reply_to s past e.domain.0) (sym q)) ∙ ap is_done (sym n.reply) ∙ done_by_queue e.reply w.1)
        (ap (λ (xs : List ℕ). contains_number xs m) (sym (ap (λ (item : CallRecord). item.carried) (call_record_new e past (record { service = k; method = x; parcel = p }) h (ap asked_by q)))) ∙ carried_is ∙ i)
      where
        carried_is : contains_number (call_record (e ∷ past) (calls_made past + 1)).carried m ≡ contains_number (carried (e ∷ past) (calls_made past + 1)) m
        carried_is = refl
    by _ q w = cc (w.0)

-- a call that isn't made carries nothing
pub carried_none : (past : Past) (c : ℕ) → (c ≡ 0) ⊎ (calls_made past < c) → carried past c ≡ []
unfolding carried carried_by is_queued is_unanswered has_live_caller caller_of passes call_entry
carried_none past c h =
    ap (λ (o : Option Entry). carried_by (is_some o && is_none (answer_of past c) && not (is_taken past c)) (passes (is_live past) (option_map (λ e. e.domain.0) o) && not (is_resumed past c)) (asked_of past c) (answer_of past c)) (none h)
  where
    none : (c ≡ 0) ⊎ (calls_made past < c) → call_entry past c ≡ None
    none (inl q) = no_first (call_entry past c) refl
      where
        no_first : (o : Option Entry) → call_entry past c ≡ o → o ≡ None
        no_first None z = refl
        no_first (Some x) z = absurd (omega (arith, (nth_passes is_call past c x z).1, q))
    none (inr l) = nth_none is_call past c l

-- what a call carries after an entry was held or carried before
pub carried_use : (s : System) (e : Entry) (past : Past) (c m : ℕ) → IsAdmittedPast s (e ∷ past) → contains_number (carried (e ∷ past) c) m ≡ true → Use past m
carried_use s e past c m a h = by (nat_le c (calls_made past)) refl (nat_lt 0 c) refl (is_call e) refl
  where
    at_most : (x y : ℕ) → nat_le x y ≡ true → x ≤ y
    at_most x y q = grind (arith, nat_tests)

    beyond : (x y : ℕ) → nat_le x y ≡ false → y < x
    beyond x y q = grind (arith, nat_tests)

    some : (x : ℕ) → nat_lt 0 x ≡ true → 1 ≤ x
    some x q = grind (arith, nat_tests)

    zeroth : (x : ℕ) → nat_lt 0 x ≡ false → x ≡ 0
    zeroth x q = grind (arith, nat_tests)

    none : (c ≡ 0) ⊎ (calls_made (e ∷ past) < c) → Use past m
    none x = nothing m (ap (λ (xs : List ℕ). contains_number xs m) (sym (carried_none (e ∷ past) c x)) ∙ h)

    new : calls_made past < c → is_call e ≡ true → (c ≡ calls_made past + 1) ⊎ (c ≢ calls_made past + 1) → Use past m
    new l q (inl z) = carried_new s e past m a.0 q (ap (λ (k : ℕ). contains_number (carried (e ∷ past) k) m) (sym z) ∙ h)
    new l q (inr z) = none (inr (omega (arith, l, z, count_new is_call e past q)))

    by : (x : Bool) → nat_le c (calls_made past) ≡ x → (y : Bool) → nat_lt 0 c ≡ y → (b : Bool) → is_call e ≡ b → Use past m
    by true x true y b z = carried_before s e past c m a (some c y) (at_most c (calls_made past) x) h
    by true x false y b z = none (inl (zeroth c y))
    by false x u y true z = new (beyond c (calls_made past) x) z (same_or_not c (calls_made past + 1))
    by false x u y false z = none (inr (omega (arith, beyond c (calls_made past) x, count_same is_call e past z)))

-- what is held or carried after an entry, and was made before it, was held or carried before
pub use_before : (s : System) (e : Entry) (past : Past) (m : ℕ) → IsAdmittedPast s (e ∷ past) → m ≤ objects_made past → Use (e ∷ past) m → Use past m
use_before s e past m a l (ByDomain d h) = held_before s e past d m a l (omega (arith, l, objects_grow e past)) h
use_before s e past m a l (ByCall c h) = carried_use s e past c m a h
