-- A resume: the tables with its entry are those of the past with it.
use Rattle.std.proofs.Common.{◌≡◌, ◌≢◌, refl, sym, ◌∙◌, ap, subst, ℕ, ◌-◌, ◌≤◌, Bool, true, false, not, ◌&&◌, List, length, reverse, Option, Some, None, is_some, arith, slice_get, if◌then◌else◌, ◌==◌, ◌⊎◌, inl, inr}
use Rattle.std.specs.Prelude.{IfOk, IsSome, IsSomeAnd, Result}
use Rattle.std.specs.Option.{option_and_then, option_map}
use Rattle.std.proofs.lemmas.List.{reverse-reverse}
use Rattle.std.proofs.lemmas.Result.{IfOk-weaker}
use Rattle.jx_base.specs.declared.act.Act.{Act}
use Rattle.jx_base.specs.declared.act.Act.TheVariants as act
use Rattle.jx_base.specs.declared.act.Entry.{Entry}
use Rattle.jx_base.specs.declared.act.Refusal.{Refusal}
use Rattle.jx_base.specs.declared.act.Refusal.TheVariants as refusal
use Rattle.jx_base.specs.declared.act.Reply.{Reply}
use Rattle.jx_base.specs.declared.act.Reply.TheVariants as reply
use Rattle.jx_base.specs.declared.ids.CallId.{CallId}
use Rattle.jx_base.specs.declared.ids.ThreadId.{ThreadId}
use Rattle.jx_base.specs.declared.program.System.{System}
use Rattle.jx_base.specs.declared.states.AnswerKind.{AnswerKind}
use Rattle.jx_base.specs.declared.states.AnswerKind.TheVariants as kind
use Rattle.jx_base.specs.declared.states.CallState.{CallState}
use Rattle.jx_base.specs.declared.states.CallState.TheVariants as call
use Rattle.jx_base.specs.declared.value.Parcel.{Parcel}
use Rattle.jx_base.specs.Basics.{numbered, passes}
use Rattle.jx_base.specs.Histories.{Past, is_done}
use Rattle.jx_base.proofs.BasicLaws.{ap2, ap3}
use Rattle.jx_model.specs.Calls.{Answer, answer_by_reply, answer_kind, answer_of, answered_by, answered_by_act, call_stage, call_state, calls_made, ends_server, is_resumable, is_resumed, is_taken, refused_answer, thrown, waiting_calls}
use Rattle.jx_model.specs.Domains.{ended_by, ended_by_act, is_birth, is_live, makes_domain}
use Rattle.jx_model.specs.Journal.{act_words, reply_words}
use Rattle.jx_model.specs.Legal.{IsNext}
use Rattle.jx_model.specs.Permits.{is_create, is_create_entry, is_ending, is_halt, zero_may}
use Rattle.jx_model.specs.Portals.{received_parcel, received_service}
use Rattle.jx_model.specs.Replies.{answer_reply, or_done, reply_to}
use Rattle.jx_model.specs.Tables.{CallRecord, ThreadRecord, answered_at, call_record, call_records}
use Rattle.jx_model.specs.Threads.{served_after, state_after}
use Rattle.jx_model.specs.WellMade.{IsParcelIn, IsWellMade}
use Rattle.call_table.specs.CallLists as Lists
use Rattle.call_table.specs.CallLists.{CallsState}
use Rattle.call_table.specs.declared.calls.Call.{Call}
use Rattle.domain_flags.specs.FlagLists.{IsDomain}
use Rattle.domain_table.specs.DomainLists.{DomainsState, HasThread, with_state}
use Rattle.journal.specs.Journals.{HasRoomFor}
use Rattle.nucleus_calls.proofs.CallMoves.{acting_there, call_there}
use Rattle.nucleus_tables.proofs.DomainReads.{live_numbered}
use Rattle.nucleus_tables.proofs.Entered.{IsMadeOf, LeavesRun}
use Rattle.nucleus_tables.proofs.MappedLists.{map_changed}
use Rattle.nucleus_calls.proofs.ReceivedParcels.{IsCarried, MayHandOver, came, carried_by, handed_parcel, places_at, received_as, received_put, received_tables, space_handed, space_with}
use Rattle.nucleus_tables.proofs.Room.{has_room_beside}
use Rattle.nucleus_tables.proofs.ThreadsMoved.{moved_threads_are}
use Rattle.nucleus_calls.specs.CallActs.{after_resume, with_answer_at, with_call, with_thread}
use Rattle.nucleus_tables.specs.CallTables.{AreCallsOf, call_of, has_parcel, places_of}
use Rattle.nucleus_tables.specs.Entering.{thread_state_after}
use Rattle.nucleus_tables.specs.Inner.{IsOf, IsPermittedIn, kept_in, past_in}
use Rattle.nucleus_tables.specs.PlaceLists.{PlacesState, with_answer}
use Rattle.nucleus_tables.specs.declared.places.CallPlaces.{CallPlaces}
use Rattle.nucleus_tables.specs.declared.tables.Tables.{Tables}
use Rattle.portal_table.specs.ServiceLists.{ServicesState}
use Rattle.table_steps.proofs.ActSteps.{stands_after_resume}
use Rattle.table_steps.specs.Steps.{handed_objects, moved_threads, resumed_call}
use Rattle.jx_model.specs.Holding.{answer_objects, is_drop_of, objects_in, received_objects}
use Rattle.jx_model.specs.MemoryObjects.{ended_object, ends_one_of}
use Rattle.memory_space.specs.SpaceLists.{SpaceState}
use Rattle.nucleus_tables.proofs.CarriedByCalls.{answer_handed_over, awaited_carried}
use Rattle.program_model.specs.ParcelParts.{parcel_objects}
use Rattle.table_threads.proofs.Actors.{acts_live}
use Rattle.table_threads.proofs.CallActs.{IsAnswered, answered_made, resumes_stand}
use Rattle.table_threads.proofs.CallStages.{resumable_parts, resumes}
use Rattle.table_threads.proofs.Places.{answer_at_place, answered_placed}
use Rattle.table_threads.proofs.Records.{some_of}
use Rattle.table_threads.specs.CallChanges.{entry}
use Rattle.table_threads.specs.Changes.{changed_at}
use Rattle.table_threads.specs.ThreadChanges.{own_changed}

-- ---- answers with a parcel

-- whether the caller gets one
abbrev pub carries : Answer → Bool
carries b = has_parcel (call.Answered (answer_kind b))

refused_bare : (f : Refusal) → carries (refused_answer f) ≡ false
unfolding refused_answer answer_kind
refused_bare refusal.Discarded = refl
refused_bare _ = refl

-- only a done act answers with one
done_answer : (r : Reply) (a b : Answer) → carries b ≡ true → answer_by_reply r a ≡ b → a ≡ b
unfolding answer_by_reply
done_answer (reply.Refused f) a b h q = let n : carries b ≡ false = ap carries (sym q) ∙ refused_bare f in cc
done_answer _ a b h q = q

thrown_answer : (p : Parcel) (b : Answer) → carries b ≡ true → thrown p ≡ b → Answer.Thrown p ≡ b
unfolding thrown answer_kind
thrown_answer p b h q = by (length p.roots == 0) q
  where
    by : (z : Bool) → (if z then Answer.CopyFailed else Answer.Thrown p) ≡ b → Answer.Thrown p ≡ b
    by true q = let n : carries b ≡ false = ap carries (sym q) in cc
    by false q = q

-- the act returns the answer
pub record Returns (a : Act) (b : Answer) : Type 0 where
  pub of : CallId
  pub parcel : Parcel
  pub is : a ≡ act.Return of parcel
  pub answer : b ≡ Answer.Value parcel

-- or throws it
pub record Throws (a : Act) (b : Answer) : Type 0 where
  pub of : CallId
  pub parcel : Parcel
  pub is : a ≡ act.Throw of parcel
  pub answer : b ≡ Answer.Thrown parcel

-- which act sends an answer with a parcel
sent_by : (past : Past) (e : Entry) (c : ℕ) (b : Answer) → carries b ≡ true → answered_by past e c ≡ Some b → Returns e.act b ⊎ Throws e.act b
unfolding answered_by answered_by_act answer_kind
sent_by past e c b h q = by e.act refl q
  where
    ended : {A : Type 0} (z : Bool) → (if z then Some Answer.Ended else None) ≡ Some b → A
    ended true w =
        let z : Answer.Ended ≡ b = cc in
        let n : carries b ≡ false = ap carries (sym z) in cc
    ended false w = cc

    returned : (k : CallId) (p : Parcel) → e.act ≡ act.Return k p → (m : Bool) →
        (elim (if m then Some (answer_by_reply e.reply (Answer.Value p)) else None) as (λ _. Option Answer) [ Some y ↦ Some y | None ↦ if ends_server past c e then Some Answer.Ended else None ]) ≡ Some b → Returns e.act b ⊎ Throws e.act b
    returned k p z true w =
        let y : answer_by_reply e.reply (Answer.Value p) ≡ b = cc in
        inl (record { of = k; parcel = p; is = z; answer = sym (done_answer e.reply (Answer.Value p) b h y) })
    returned k p z false w = ended (ends_server past c e) w

    threw : (k : CallId) (p : Parcel) → e.act ≡ act.Throw k p → (m : Bool) →
        (elim (if m then Some (answer_by_reply e.reply (thrown p)) else None) as (λ _. Option Answer) [ Some y ↦ Some y | None ↦ if ends_server past c e then Some Answer.Ended else None ]) ≡ Some b → Returns e.act b ⊎ Throws e.act b
    threw k p z true w =
        let y : answer_by_reply e.reply (thrown p) ≡ b = cc in
        inr (record { of = k; parcel = p; is = z; answer = sym (thrown_answer p b h (done_answer e.reply (thrown p) b h y)) })
    threw k p z false w = ended (ends_server past c e) w

    by : (a : Act) → e.act ≡ a → (elim (answered_by_act c a e.reply) as (λ _. Option Answer) [ Some y ↦ Some y | None ↦ if ends_server past c e then Some Answer.Ended else None ]) ≡ Some b → Returns e.act b ⊎ Throws e.act b
    by (act.Return k p) z w = returned k p z (k.0 == c) w
    by (act.Throw k p) z w = threw k p z (k.0 == c) w
    by _ z w = ended (ends_server past c e) w

-- the entry that sent it, and its place
pub record SentThere (past : Past) (c : ℕ) (b : Answer) : Type 0 where
  pub place : ℕ
  pub entry : Entry
  pub at : answered_at past c ≡ Some place
  pub there : slice_get (reverse past) place ≡ Some entry
  pub sent : Returns entry.act b ⊎ Throws entry.act b

sent_there : (past : Past) (c : ℕ) (b : Answer) → carries b ≡ true → answer_of past c ≡ Some b → SentThere past c b
sent_there past c b h q =
    let i = some_of (answered_at past c) (answered_placed past c ∙ ap is_some q) in
    let k = answer_at_place past c i.0 i.1 in
    record { place = i.0; entry = k.entry; at = i.1; there = k.there; sent = sent_by k.before k.entry c b h (sym k.answer ∙ q) }

-- ---- the answer that is awaited

-- the call is answered
pub resumable_answered : (past : Past) (c : ℕ) → is_resumable past c ≡ true → IsAnswered past c
unfolding call_state call_stage
resumable_answered past c h =
    let parts = resumable_parts past c h in
    let y = some_of (answer_of past c) parts.0 in
    record {
      answer = y.0;
      is = y.1;
      state = ap2 (λ (b : Bool) (o : Option Answer). call_stage b o (is_taken past c)) (turned (is_resumed past c) parts.2) y.1;
    }
  where
    turned : (b : Bool) → not b ≡ true → b ≡ false
    turned false h = refl
    turned true h = cc

module _ (s : System) (x : Tables) (h : IsOf s x) (c : ℕ) (r : is_resumable (past_in x) c ≡ true) where
  abbrev pub awaited : Answer
  awaited = (resumable_answered (past_in x) c r).answer

  pub awaited_made : (1 ≤ c) × (c ≤ calls_made (past_in x))
  awaited_made = answered_made (past_in x) c awaited (resumable_answered (past_in x) c r).is

  -- the table has its state
  pub awaited_state : (state : CallState) → Some state ≡ option_map (λ k. k.state) (numbered x.calls.calls c) → state ≡ call.Answered (answer_kind awaited)
  unfolding call_record
  awaited_state state q =
      let both : Some state ≡ Some (call_state (past_in x) c) = q ∙ ap (option_map (λ (k : Call). k.state)) (call_there s x h c awaited_made.0 awaited_made.1) in
      let same : state ≡ call_state (past_in x) c = cc in
      same ∙ (resumable_answered (past_in x) c r).state

  module _ (place : CallPlaces) (q : Some place ≡ numbered x.places.places c) where
    placed : place.answered ≡ (if carries awaited then answered_at (past_in x) c else None)
    unfolding call_record
    placed =
        let both : Some place ≡ Some (places_of (call_record (past_in x) c)) = q ∙ places_at s x h c awaited_made.0 awaited_made.1 in
        let same : place ≡ places_of (call_record (past_in x) c) = cc in
        ap (λ (w : CallPlaces). w.answered) same
        ∙ ap (λ (z : CallState). if has_parcel z then answered_at (past_in x) c else None) (resumable_answered (past_in x) c r).state

    -- where it has a place, the entry there sent it
    pub awaited_there : (i : ℕ) → place.answered ≡ Some i → (e : Entry) × (slice_get x.journal.entries i ≡ Some e) × (Returns e.act awaited ⊎ Throws e.act awaited)
    awaited_there i w = by (carries awaited) refl (sym placed ∙ w)
      where
        by : (b : Bool) → carries awaited ≡ b → (if b then answered_at (past_in x) c else None) ≡ Some i → (e : Entry) × (slice_get x.journal.entries i ≡ Some e) × (Returns e.act awaited ⊎ Throws e.act awaited)
        by false z w = cc
        by true z w =
            let k = sent_there (past_in x) c awaited z (resumable_answered (past_in x) c r).is in
            let both : Some k.place ≡ Some i = sym k.at ∙ w in
            let same : k.place ≡ i = cc in (
              k.entry,
              ap (λ (xs : List Entry). slice_get xs i) (sym (reverse-reverse x.journal.entries)) ∙ ap (slice_get (reverse (past_in x))) (sym same) ∙ k.there,
              k.sent,
            )

    -- where it has none, it carries no parcel
    pub awaited_bare : place.answered ≡ None → carries awaited ≡ false
    awaited_bare w = by (carries awaited) refl (sym placed ∙ w)
      where
        by : (b : Bool) → carries awaited ≡ b → (if b then answered_at (past_in x) c else None) ≡ None → b ≡ false
        by false z w = refl
        by true z w =
            let k = sent_there (past_in x) c awaited z (resumable_answered (past_in x) c r).is in
            let none : answered_at (past_in x) c ≡ None = w in
            let some : answered_at (past_in x) c ≡ Some k.place = k.at in cc

  -- what its caller gets
  pub awaited_reply : or_done (answer_reply awaited) ≡ or_done (option_and_then answer_reply (answer_of (past_in x) c))
  awaited_reply = ap (λ (o : Option Answer). or_done (option_and_then answer_reply o)) (sym (resumable_answered (past_in x) c r).is)

  -- that of the act that sent it
  pub sent_reply : {E : Type 0} (a : Act) (r : Result Reply E) → Returns a awaited ⊎ Throws a awaited →
      IfOk r (λ given. (c : CallId) (p : Parcel) → a ≡ act.Return c p → given ≡ reply.Value p) → IfOk r (λ given. (c : CallId) (p : Parcel) → a ≡ act.Throw c p → given ≡ reply.Thrown p) →
      IfOk r (λ given. given ≡ or_done (option_and_then answer_reply (answer_of (past_in x) c)))
  unfolding or_done answer_reply
  sent_reply a r (inl g) f w =
      IfOk-weaker r (λ given. (c : CallId) (p : Parcel) → a ≡ act.Return c p → given ≡ reply.Value p) (λ given. given ≡ or_done (option_and_then answer_reply (answer_of (past_in x) c)))
      (λ given m. m g.of g.parcel g.is ∙ ap (λ (b : Answer). or_done (answer_reply b)) (sym g.answer) ∙ awaited_reply) f
  sent_reply a r (inr g) f w =
      IfOk-weaker r (λ given. (c : CallId) (p : Parcel) → a ≡ act.Throw c p → given ≡ reply.Thrown p) (λ given. given ≡ or_done (option_and_then answer_reply (answer_of (past_in x) c)))
      (λ given m. m g.of g.parcel g.is ∙ ap (λ (b : Answer). or_done (answer_reply b)) (sym g.answer) ∙ awaited_reply) w

-- the parcel that an answer carries may be handed over
sent_carried : (s : System) (x : Tables) → IsOf s x → (c : ℕ) → is_resumable (past_in x) c ≡ true → (b : Answer) (p : Parcel) → answer_of (past_in x) c ≡ Some b → (b ≡ Answer.Value p) ⊎ (b ≡ Answer.Thrown p) → IsCarried x p
unfolding answer_kind answer_objects
sent_carried s x h c z b p q v =
    let k = sent_there (past_in x) c b (one v) q in
    let w = came s (past_in x) k.place k.entry h.stands.admitted k.there in
    carried_by s x h c k.entry p w (by w.before w.next.well_made k.sent v) (awaited_carried (past_in x) c z ∙ ap answer_objects q ∙ those v)
  where
    those : (b ≡ Answer.Value p) ⊎ (b ≡ Answer.Thrown p) → answer_objects (Some b) ≡ parcel_objects p
    those (inl z) = ap (λ (b : Answer). answer_objects (Some b)) z
    those (inr z) = ap (λ (b : Answer). answer_objects (Some b)) z

    one : (b ≡ Answer.Value p) ⊎ (b ≡ Answer.Thrown p) → carries b ≡ true
    one (inl z) = ap carries z
    one (inr z) = ap carries z

    by : (before : Past) → {a : Act} → IsWellMade s before a → Returns a b ⊎ Throws a b → (b ≡ Answer.Value p) ⊎ (b ≡ Answer.Thrown p) → IsParcelIn s before p
    by before m (inl g) (inl z) =
        let both : Answer.Value g.parcel ≡ Answer.Value p = sym g.answer ∙ z in
        let same : g.parcel ≡ p = cc in
        subst (IsParcelIn s before) same (subst (IsWellMade s before) g.is m).0
    by before m (inr g) (inr z) =
        let both : Answer.Thrown g.parcel ≡ Answer.Thrown p = sym g.answer ∙ z in
        let same : g.parcel ≡ p = cc in
        subst (IsParcelIn s before) same (subst (IsWellMade s before) g.is m).0
    by before m (inl g) (inr z) = let both : Answer.Value g.parcel ≡ Answer.Thrown p = sym g.answer ∙ z in cc
    by before m (inr g) (inl z) = let both : Answer.Thrown g.parcel ≡ Answer.Value p = sym g.answer ∙ z in cc

-- ---- what is replied

answer_handed : (x : Tables) (c : CallId) (o : Option Answer) → ((b : Answer) (p : Parcel) → o ≡ Some b → (b ≡ Answer.Value p) ⊎ (b ≡ Answer.Thrown p) → IsCarried x p) →
    MayHandOver x (act.Resume c) (or_done (option_and_then answer_reply o))
unfolding or_done answer_reply reply_words received_parcel
answer_handed x c (Some (Answer.Value p)) h =
    let k = h (Answer.Value p) p refl (inl refl) in
    record { kind = tt; few = k.small; carried = λ w q. let z : p ≡ w = cc in subst (IsCarried x) z k }
answer_handed x c (Some (Answer.Thrown p)) h =
    let k = h (Answer.Thrown p) p refl (inr refl) in
    record { kind = tt; few = k.small; carried = λ w q. let z : p ≡ w = cc in subst (IsCarried x) z k }
answer_handed x c (Some Answer.CopyFailed) h = record { kind = tt; few = omega arith; carried = λ p q. cc }
answer_handed x c (Some Answer.Ended) h = record { kind = tt; few = omega arith; carried = λ p q. cc }
answer_handed x c (Some Answer.Discarded) h = record { kind = tt; few = omega arith; carried = λ p q. cc }
answer_handed x c None h = record { kind = tt; few = omega arith; carried = λ p q. cc }

-- other replies hand over nothing
pub no_answer : (c : CallId) (r : Reply) → ((p : Parcel) → r ≢ reply.Value p) → ((p : Parcel) → r ≢ reply.Thrown p) → received_parcel (act.Resume c) r ≡ None
unfolding received_parcel
no_answer c (reply.Value p) v t = absurd (v p refl)
no_answer c (reply.Thrown p) v t = absurd (t p refl)
no_answer c _ v t = refl

-- what was not copied, and what ended with its domain
pub failed_reply : (b : Answer) → answer_kind b ≡ kind.CopyFailed → reply.CopyFailed ≡ or_done (answer_reply b)
unfolding answer_kind or_done answer_reply
failed_reply Answer.CopyFailed q = refl
failed_reply (Answer.Value p) q = cc
failed_reply (Answer.Thrown p) q = cc
failed_reply Answer.Ended q = cc
failed_reply Answer.Discarded q = cc

pub ended_reply : (b : Answer) → answer_kind b ≡ kind.Ended → reply.Ended ≡ or_done (answer_reply b)
unfolding answer_kind or_done answer_reply
ended_reply Answer.Ended q = refl
ended_reply (Answer.Value p) q = cc
ended_reply (Answer.Thrown p) q = cc
ended_reply Answer.CopyFailed q = cc
ended_reply Answer.Discarded q = cc

-- any other answer without a parcel
pub rest_reply : (b : Answer) → carries b ≡ false → answer_kind b ≢ kind.CopyFailed → answer_kind b ≢ kind.Ended → reply.Done ≡ or_done (answer_reply b)
unfolding answer_kind or_done answer_reply
rest_reply Answer.Discarded h f e = refl
rest_reply (Answer.Value p) h f e = cc
rest_reply (Answer.Thrown p) h f e = cc
rest_reply Answer.CopyFailed h f e = absurd (f refl)
rest_reply Answer.Ended h f e = absurd (e refl)

-- ---- the tables

-- the tables with other threads, calls and places
pub three_same : (x : Tables) {d e : DomainsState} {k l : CallsState} {p q : PlacesState} → d ≡ e → k ≡ l → p ≡ q →
    (let y : Tables = record x { domains = d; calls = k; places = p } in y) ≡ record x { domains = e; calls = l; places = q }
three_same x f g h = ap3 (λ (d : DomainsState) (k : CallsState) (p : PlacesState). let y : Tables = record x { domains = d; calls = k; places = p } in y) f g h

-- a resume neither ends nor makes anything
resume_leaves : (d t : ℕ) (c : CallId) (r : Reply) → LeavesRun (entry d t (act.Resume c) r)
unfolding is_ending is_create_entry is_create is_birth makes_domain ended_by ended_by_act
resume_leaves d t c r = record { going = refl; create = refl; birth = refl; ended = refl }

module _ (s : System) (x : Tables) (d : ℕ) (t : ThreadId) (c : CallId) (h : IsPermittedIn s x d t.0 (act.Resume c)) where
  -- ---- what it finds

  pub resumed_from : is_resumable (past_in x) c.0 ≡ true
  resumed_from = resumes s (past_in x) d t.0 c h.thread

  -- the call is answered, and its caller hasn't gone on
  pub resumed_answered : Lists.IsAnswered x.calls c.0
  unfolding call_record
  resumed_answered =
      let k = resumes_stand s (past_in x) d t.0 c h.thread in
      by (numbered x.calls.calls c.0) k.0 k.1.state (call_there s x h.tables c.0 k.1.low k.1.high)
    where
      is_answered : Option Call → Bool
      is_answered None = false
      is_answered (Some k) = Lists.is_answered_call k.state

      by : (o : Option Call) (kind : AnswerKind) → call_state (past_in x) c.0 ≡ call.Answered kind → o ≡ Some (call_of (call_record (past_in x) c.0)) → IsSomeAnd o (λ k. Lists.is_answered_call k.state ≡ true)
      by None kind z q = cc
      by (Some k) kind z q = ap is_answered q ∙ ap Lists.is_answered_call z

  pub resumed_places : IsSome (numbered x.places.places c.0)
  resumed_places = let m = awaited_made s x h.tables c.0 resumed_from in ap is_some (places_at s x h.tables c.0 m.0 m.1)

  resumer_lives : is_live (past_in x) d ≡ true
  unfolding is_halt zero_may
  resumer_lives = acts_live s (past_in x) d t.0 (act.Resume c) refl refl h.thread

  pub resumer_there : HasThread x.domains d t.0
  unfolding is_halt zero_may
  resumer_there = acting_there s x d t.0 (act.Resume c) h refl refl

  pub resumer_numbered : IsDomain d
  resumer_numbered = live_numbered s x d h.tables resumer_lives

  -- ---- what it replies

  module _ (r : Reply) (q : r ≡ reply_to s (past_in x) d (act.Resume c)) where
    pub resumed_handed : MayHandOver x (act.Resume c) r
    unfolding reply_to
    resumed_handed =
        subst (MayHandOver x (act.Resume c)) (sym q)
        (answer_handed x c (answer_of (past_in x) c.0) (sent_carried s x h.tables c.0 resumed_from))

    pub resumed_room : HasRoomFor x.journal (entry d t.0 (act.Resume c) r)
    unfolding is_halt act_words
    resumed_room = has_room_beside s x d t.0 (act.Resume c) r h refl (omega (arith, resumed_handed.few))

  -- ---- what it does

  abbrev calls_after : List Call
  calls_after = changed_at (c.0 - 1) (Lists.in_state call.Resumed) x.calls.calls

  abbrev places_after : List CallPlaces
  places_after = changed_at (c.0 - 1) (with_answer None) x.places.places

  abbrev records_after : List CallRecord
  records_after = changed_at (c.0 - 1) resumed_call (call_records (past_in x))

  resumed_calls : AreCallsOf records_after calls_after places_after
  resumed_calls =
      record {
        calls_are =
            ap (λ (items : List Call). changed_at (c.0 - 1) (Lists.in_state call.Resumed) items) h.tables.calls.calls_are
            ∙ sym (map_changed call_of (c.0 - 1) resumed_call (Lists.in_state call.Resumed) (call_records (past_in x)) (λ item. refl));
        places_are =
            ap (λ (items : List CallPlaces). changed_at (c.0 - 1) (with_answer None) items) h.tables.calls.places_are
            ∙ sym (map_changed places_of (c.0 - 1) resumed_call (with_answer None) (call_records (past_in x)) (λ item. refl));
      }

  -- the thread goes on
  resumed_threads : (r : Reply) → moved_threads (kept_in x) (entry d t.0 (act.Resume c) r) ≡ own_changed d t.0 (with_state (thread_state_after x d t.0 (act.Go t))) x.domains.threads
  unfolding state_after served_after
  resumed_threads r = sym (moved_threads_are x d t.0 (act.Go t) tt)

  -- what memory makes of it
  resumed_space : (r : Reply) → r ≡ reply_to s (past_in x) d (act.Resume c) →
      space_with x.space d (received_parcel (act.Resume c) r) ≡ record x.space { objects = handed_objects (kept_in x) (entry d t.0 (act.Resume c) r) records_after }
  unfolding reply_to received_objects is_drop_of ends_one_of passes ended_object
  resumed_space r q =
      let made = awaited_made s x h.tables c.0 resumed_from in
      space_handed s x h.tables (entry d t.0 (act.Resume c) r) (resume_leaves d t.0 c r).ended resumer_numbered.0 c.0 resumed_call
      (record { low = made.0; high = made.1; state = refl }) (λ item. refl) (received_parcel (act.Resume c) r)
      (awaited_carried (past_in x) c.0 resumed_from ∙ answer_handed_over c (answer_of (past_in x) c.0) ∙ ap (λ (r : Reply). objects_in (received_parcel (act.Resume c) r)) (sym q))
      refl (λ m. refl) (λ line. never (is_done r))
    where
      never : (b : Bool) → (b && false) ≡ false
      never true = refl
      never false = refl

  -- the tables after it
  pub resumed_tables : (r : Reply) → r ≡ reply_to s (past_in x) d (act.Resume c) →
      after_resume x d t.0 c (thread_state_after x d t.0 (act.Go t)) r ≡ received_tables s x d t.0 (act.Resume c) r calls_after places_after records_after
  unfolding received_service
  resumed_tables r q =
      received_as (with_answer_at (with_call (with_thread x d t.0 (thread_state_after x d t.0 (act.Go t))) c call.Resumed) c None) d (received_parcel (act.Resume c) r)
      ∙ ap3 (λ (threads : List (List ThreadRecord)) (services : ServicesState) (space : SpaceState). let y : Tables = record x {
        domains = record x.domains { threads = threads };
        services = services;
        calls = record x.calls { calls = calls_after };
        places = record x.places { places = places_after };
        space = space;
      } in y)
      (sym (resumed_threads r))
      (handed_parcel (entry d t.0 (act.Resume c) r) (resume_leaves d t.0 c r).ended resumer_numbered.0 x (received_parcel (act.Resume c) r) refl refl)
      (resumed_space r q)

  -- its entry was made
  pub resume_entered : (r : Reply) → r ≡ reply_to s (past_in x) d (act.Resume c) →
      IsMadeOf s x (after_resume x d t.0 c (thread_state_after x d t.0 (act.Go t)) r) (entry d t.0 (act.Resume c) r)
  resume_entered r q =
      let next : IsNext s (past_in x) (entry d t.0 (act.Resume c) r) = record { thread = h.thread; well_made = h.may_come.well_made; reply = q } in
      subst (λ (y : Tables). IsMadeOf s x y (entry d t.0 (act.Resume c) r)) (sym (resumed_tables r q))
      (received_put s x d t.0 (act.Resume c) r calls_after places_after records_after (waiting_calls (past_in x)) h
      (resume_leaves d t.0 c r) q resumed_calls
      (stands_after_resume s (kept_in x) d t.0 c r h.tables.stands next))
