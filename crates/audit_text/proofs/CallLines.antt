-- The lines of unanswered calls, as the tables of calls give them.
use Rattle.std.proofs.Common.{◌≡◌, refl, sym, ◌∙◌, ap, subst, ℕ, ◌+◌, ◌-◌, ◌<◌, ◌≤◌, Bool, true, false, ◌&&◌, ◌||◌, List, [], ◌∷◌, ◌++◌, reverse, get_or, Option, Some, None, is_some, slice_get, arith, if◌then◌else◌, append_assoc, append-nil}
use Rattle.std.specs.Prelude.{nat_le, nat_lt}
use Rattle.std.specs.List.{flat_map}
use Rattle.std.specs.Option.{option_map, unwrap_or}
use Rattle.std.proofs.lemmas.Bool.Decides.{nat_tests}
use Rattle.std.proofs.lemmas.Grind.{flat_map-append}
use Rattle.std.proofs.lemmas.List.{reverse-reverse}
use Rattle.std.proofs.lemmas.Option.{get_or_from_slice_get}
use Rattle.jx_base.specs.declared.act.Act.{Act}
use Rattle.jx_base.specs.declared.act.Act.TheVariants as act
use Rattle.jx_base.specs.declared.act.Entry.{Entry}
use Rattle.jx_base.specs.declared.act.Reply.{Reply}
use Rattle.jx_base.specs.declared.act.Reply.TheVariants as reply
use Rattle.jx_base.specs.declared.ids.CallId.{CallId}
use Rattle.jx_base.specs.declared.ids.MethodId.{MethodId}
use Rattle.jx_base.specs.declared.ids.ServiceId.{ServiceId}
use Rattle.jx_base.specs.declared.program.System.{System}
use Rattle.jx_base.specs.declared.value.Parcel.{Parcel}
use Rattle.jx_base.specs.Basics.{contains_number, passes, up_to}
use Rattle.jx_base.specs.Histories.{Past, count_where, nth_entry}
use Rattle.jx_model.specs.Domains.{end_reason, is_live}
use Rattle.jx_model.specs.Portals.{is_export, export_of, owner_of, services_made}
use Rattle.jx_model.specs.Threads.{served_call}
use Rattle.jx_model.specs.Calls.{asked_by, calls_made, is_being_served, is_call, is_queued, is_unanswered, queued_as, service_of_call}
use Rattle.jx_model.specs.Replies.{reply_to}
use Rattle.jx_model.specs.Legal.{IsNext, IsAdmittedPast}
use Rattle.audit_model.specs.AuditText.{call_line}
use Rattle.jx_base.proofs.NthEntries.{count_new, count_same, nth_passes}
use Rattle.jx_model.proofs.CallSteps.{service_made}
use Rattle.jx_model.proofs.Serving.{not_ended_yet}
use Rattle.jx_model.proofs.SmallNumbers.{domains_few, services_few, threads_few}
use Rattle.jx_laws.proofs.Basics.{clash, fails}
use Rattle.jx_laws.proofs.InOrder.{served_by_one}
use Rattle.jx_laws.proofs.Living.{live_of}
use Rattle.jx_laws.proofs.Servers.{server_parts}
use Rattle.jx_laws.proofs.Standing.{IsCallAct, has_line, service_new, unanswered_live}
use Rattle.jx_laws.proofs.Threads.{HasQueued, call_number, has_queued_call}
use Rattle.table_threads.proofs.Actors.{made_is}
use Rattle.table_threads.proofs.Records.{up_to_more}
use Rattle.audit_text.specs.declared.call_tables.CallTables.{CallTables}
use Rattle.audit_text.specs.declared.call_tables.Standing.{Standing}
use Rattle.audit_text.specs.declared.call_tables.Standing.TheVariants.{Answered, Queued, Running}
use Rattle.audit_text.specs.CallTables.{served_number, last_take, last_taken, last_taker, owner_number, has_ended, HasCallTables, near, standing_in, standing_line, queued_call, entry_call_line, taken_call}
use Rattle.audit_text.proofs.EntryOrder.{reverse-cons}
use Rattle.audit_text.proofs.Rows.{row_is, stands_in, stands_among}
use Rattle.audit_text.proofs.LastTakes.{HasServer, has_server, in_order, service_there}
use Rattle.audit_text.proofs.ServingThreads.{IsThreadOf, last_by, serving, threads_close, thread_within}

-- ---- small facts

-- the thread that serves a number above 0 serves that call
number_serves : (o : Option CallId) (c : ℕ) → unwrap_or (option_map (λ x. x.0) o) 0 ≡ c → 1 ≤ c → o ≡ Some (record { 0 = c })
number_serves None c h l = absurd (omega (arith, h, l))
number_serves (Some x) c h l = ap (λ (n : ℕ). let y : CallId = record { 0 = n } in Some y) h

-- a service with an owner was made
owner_within : (past : Past) (k d : ℕ) → owner_of past k ≡ Some d → k ≤ services_made past
unfolding owner_of export_of
owner_within past k d h = by (nth_entry is_export past k) refl h
  where
    by : (o : Option Entry) → nth_entry is_export past k ≡ o → option_map (λ e. e.domain.0) o ≡ Some d → k ≤ services_made past
    by None q h = cc
    by (Some e) q h = (nth_passes is_export past k e q).2

none_some : {A : Type 0} (o : Option A) → is_some o ≡ false → o ≡ None
none_some None h = refl
none_some (Some x) h = cc

-- the line of a call, by how it stands
no_line : (past : Past) (c : ℕ) → is_queued past c ≡ false → is_being_served past c ≡ false → standing_line Answered c ≡ call_line past c
unfolding call_line standing_line
no_line past c h i = rw (h, i) refl

queued_line : (past : Past) (c : ℕ) → is_queued past c ≡ true → standing_line Queued c ≡ call_line past c
unfolding call_line standing_line
queued_line past c h = rw h refl

running_line : (past : Past) (c : ℕ) → is_queued past c ≡ false → is_being_served past c ≡ true → standing_line Running c ≡ call_line past c
unfolding call_line standing_line
running_line past c h i = rw (h, i) refl

answered_line : (past : Past) (c : ℕ) → is_unanswered past c ≡ false → standing_line Answered c ≡ call_line past c
unfolding standing_line
answered_line past c h = sym ((has_line past c).0 h)

-- how call c stands by what the tables have of its service and of the domain that owns it
stands_so : ℕ → ℕ → Bool → ℕ → List ℕ → ℕ → Standing
stands_so c d ended last row taker =
    if nat_le 65 d || ended then Answered else if nat_lt last c then Queued else if contains_number (near row taker) c then Running else Answered

in_tables : (x : CallTables) (c k : ℕ) →
    standing_in x c k ≡ stands_so c (get_or x.owners.by_number k 0) (get_or x.ended (get_or x.owners.by_number k 0) true) (get_or x.taken k 0) (get_or x.served (get_or x.owners.by_number k 0) []) (get_or x.taker k 0)
unfolding standing_in stands_so
in_tables x c k = refl

-- of a domain that is there
stands_there : (c d : ℕ) (ended : Bool) (last : ℕ) (row : List ℕ) (taker : ℕ) → d ≤ 64 →
    stands_so c d ended last row taker ≡ (if ended then Answered else if nat_lt last c then Queued else if contains_number (near row taker) c then Running else Answered)
unfolding stands_so
stands_there c d ended last row taker l = ap (λ (b : Bool). if b || ended then Answered else if nat_lt last c then Queued else if contains_number (near row taker) c then Running else Answered) (small d l)
  where
    small : (d : ℕ) → d ≤ 64 → nat_le 65 d ≡ false
    small d l = grind (arith, nat_tests)

-- ---- one call

module _ (s : System) (past : Past) (x : CallTables) (a : IsAdmittedPast s past) (has : HasCallTables x past) (c k : ℕ) (v : service_of_call past c ≡ Some k) where
  low : 1 ≤ c
  low = (service_there past c k v).0

  server : HasServer past c
  server = has_server s past c a low (service_there past c k v).1

  owner : owner_of past k ≡ Some server.domain
  owner =
      let p = server_parts past c server.domain server.is in
      let q : p.0 ≡ k = cc (p.1, v) in
      ap (owner_of past) (sym q) ∙ p.2

  owner_small : server.domain ≤ 64
  owner_small = omega (arith, (made_is past server.domain server.made).high, domains_few s past a)

  service_small : k ≤ 256
  service_small = omega (arith, owner_within past k server.domain owner, services_few s past a)

  owner_is : get_or x.owners.by_number k 0 ≡ server.domain
  unfolding owner_number
  owner_is = row_is x.owners.by_number (owner_number past) 256 k 0 has.owners service_small ∙ ap (λ (o : Option ℕ). unwrap_or o 0) owner

  row_there : get_or x.served server.domain [] ≡ (has.served server.domain owner_small).0
  row_there = get_or_from_slice_get x.served server.domain (has.served server.domain owner_small).0 [] (has.served server.domain owner_small).1

  -- what the tables have of the call is what the past has
  stands : standing_in x c k
      ≡ (if has_ended past server.domain then Answered
      else if nat_lt (last_taken past k) c then Queued
      else if contains_number (near (has.served server.domain owner_small).0 (last_taker past k)) c then Running else Answered)
  stands =
      in_tables x c k
      ∙ ap (λ (n : ℕ). stands_so c n (get_or x.ended n true) (get_or x.taken k 0) (get_or x.served n []) (get_or x.taker k 0)) owner_is
      ∙ ap (λ (b : Bool). stands_so c server.domain b (get_or x.taken k 0) (get_or x.served server.domain []) (get_or x.taker k 0)) (row_is x.ended (has_ended past) 64 server.domain true has.ended owner_small)
      ∙ ap (λ (n : ℕ). stands_so c server.domain (has_ended past server.domain) n (get_or x.served server.domain []) (get_or x.taker k 0)) (row_is x.taken (last_taken past) 256 k 0 has.taken service_small)
      ∙ ap (λ (xs : List ℕ). stands_so c server.domain (has_ended past server.domain) (last_taken past k) xs (get_or x.taker k 0)) row_there
      ∙ ap (λ (n : ℕ). stands_so c server.domain (has_ended past server.domain) (last_taken past k) (has.served server.domain owner_small).0 n) (row_is x.taker (last_taker past) 256 k 0 has.taker service_small)
      ∙ stands_there c server.domain (has_ended past server.domain) (last_taken past k) (has.served server.domain owner_small).0 (last_taker past k) owner_small

  -- a call of a domain that ended is answered
  ended_answered : has_ended past server.domain ≡ true → is_unanswered past c ≡ false
  unfolding has_ended passes
  ended_answered h = fails (is_unanswered past c) (λ u.
      let l = unanswered_live s past c a u in
      let w : end_reason past server.domain ≡ None = not_ended_yet past server.domain (ap (passes (is_live past)) (sym server.is) ∙ l) in
      cc (h, ap is_some w))

  unended : has_ended past server.domain ≡ false → end_reason past server.domain ≡ None
  unfolding has_ended
  unended h = none_some (end_reason past server.domain) h

  -- a number that the row has, its thread serves
  row_served : has_ended past server.domain ≡ false → contains_number (near (has.served server.domain owner_small).0 (last_taker past k)) c ≡ true → is_being_served past c ≡ true
  unfolding near served_number
  row_served e h =
      let r = has.served server.domain owner_small in
      let f = stands_in (last_taker past k - 8) 17 r.0 c h in
      let g : Some c ≡ Some (served_number past server.domain f.0) = sym f.2 ∙ r.3 f.0 (omega (arith, f.1, r.2)) in
      let n : served_number past server.domain f.0 ≡ c = cc in
      ((served_by_one s past a).served (record { 0 = c })).1
      (server.domain, f.0, live_of past server.domain server.made (unended e), number_serves (served_call past server.domain f.0) c n low)

  serving_taken : (t : ℕ) (call : CallId) → call.0 ≡ c → served_call past server.domain t ≡ Some call → IsThreadOf past server.domain t k
  serving_taken t call q h =
      let y = serving s past server.domain t call a h in
      let p : y.0 ≡ k = cc (y.1, ap (service_of_call past) q, v) in
      subst (λ (n : ℕ). IsThreadOf past server.domain t n) p y.2

  -- what a thread of the call's server serves, the row has near the last taker
  served_near : (t : ℕ) (call : CallId) → call.0 ≡ c → served_call past server.domain t ≡ Some call → c ≤ last_taken past k →
      contains_number (near (has.served server.domain owner_small).0 (last_taker past k)) c ≡ true
  unfolding near served_number last_taken last_taker
  served_near t call q h u = by (last_take past k) refl
    where
      y : IsThreadOf past server.domain t k
      y = serving_taken t call q h

      there : slice_get (has.served server.domain owner_small).0 t ≡ Some c
      there =
          (has.served server.domain owner_small).3 t (omega (arith, thread_within past server.domain t k y, threads_few s past server.domain a, services_few s past a))
          ∙ ap (λ (o : Option CallId). Some (unwrap_or (option_map (λ z. z.0) o) 0)) h ∙ ap (λ (n : ℕ). Some n) q

      by : (o : Option Entry) → last_take past k ≡ o → contains_number (near (has.served server.domain owner_small).0 (last_taker past k)) c ≡ true
      by None w = absurd (omega (arith, u, low, ap (λ (o : Option Entry). unwrap_or (option_map (λ e. taken_call e.act) o) 0) w))
      by (Some e) w =
          let b = last_by s past k e a w in
          let p : e.domain.0 ≡ server.domain = cc (b.owner, owner) in
          let z = subst (λ (n : ℕ). IsThreadOf past n e.thread.0 k) p b.thread in
          let m : last_taker past k ≡ e.thread.0 = ap (λ (o : Option Entry). unwrap_or (option_map (λ e. e.thread.0) o) 0) w in
          stands_among (last_taker past k - 8) 17 t (has.served server.domain owner_small).0 c there
          (omega (arith, m, threads_close s past server.domain e.thread.0 t k a z y))
          (omega (arith, m, threads_close s past server.domain t e.thread.0 k a y z))

  -- a call of a row that lacks it isn't served
  unserved : c ≤ last_taken past k → contains_number (near (has.served server.domain owner_small).0 (last_taker past k)) c ≡ false → is_being_served past c ≡ false
  unserved u h = fails (is_being_served past c) (λ w.
      let law = served_by_one s past a in
      let y = (law.served (record { 0 = c })).0 w in
      let z = law.server y.0 y.1 (record { 0 = c }) y.3 in
      let p : y.0 ≡ server.domain = cc (z, server.is) in
      clash (contains_number (near (has.served server.domain owner_small).0 (last_taker past k)) c)
      (served_near y.1 (record { 0 = c }) refl (subst (λ (n : ℕ). served_call past n y.1 ≡ Some (record { 0 = c })) p y.3) u) h)

  -- the line of the call, as it stands by the tables
  pub line_by_tables : standing_line (standing_in x c k) c ≡ call_line past c
  line_by_tables =
      ap (λ (y : Standing). standing_line y c) stands
      ∙ by (has_ended past server.domain) (nat_lt (last_taken past k) c) (contains_number (near (has.served server.domain owner_small).0 (last_taker past k)) c) refl refl refl
    where
      below : (m n : ℕ) → nat_lt m n ≡ true → m < n
      below m n q = grind (arith, nat_tests)

      within : (m n : ℕ) → nat_lt m n ≡ false → n ≤ m
      within m n q = grind (arith, nat_tests)

      by : (e b f : Bool) → has_ended past server.domain ≡ e → nat_lt (last_taken past k) c ≡ b → contains_number (near (has.served server.domain owner_small).0 (last_taker past k)) c ≡ f →
          standing_line (if e then Answered else if b then Queued else if f then Running else Answered) c ≡ call_line past c
      by true b f p q r = answered_line past c (ended_answered p)
      by false true f p q r = queued_line past c ((in_order s past k a).behind c server.domain v server.is (unended p) (below (last_taken past k) c q))
      by false false true p q r = running_line past c ((in_order s past k a).passed c v (within (last_taken past k) c q)) (row_served p r)
      by false false false p q r =
          let u = within (last_taken past k) c q in no_line past c ((in_order s past k a).passed c v u) (unserved u r)

-- ---- the calls of all entries

-- an entry that queues a call
record IsQueuing (a : Act) (r : Reply) (q : ℕ × ℕ) : Type 0 where
  pub service : ServiceId
  pub method : MethodId
  pub parcel : Parcel
  pub call : CallId
  pub act : a ≡ act.Call service method parcel
  pub reply : r ≡ reply.Queued call
  pub number : call.0 ≡ q.0
  pub asked : service.0 ≡ q.1

queuing : (a : Act) (r : Reply) (q : ℕ × ℕ) → queued_call a r ≡ Some q → IsQueuing a r q
unfolding queued_call
queuing (act.Call k m p) (reply.Queued c) q h =
    let z : (c.0, k.0) ≡ q = cc in
    record { service = k; method = m; parcel = p; call = c; act = refl; reply = refl; number = ap (λ (y : ℕ × ℕ). y.0) z; asked = ap (λ (y : ℕ × ℕ). y.1) z }
queuing _ _ q h = cc

-- one that doesn't
queues_none : (a : Act) (r : Reply) → queued_call a r ≡ None → (is_some (asked_by a) && is_some (queued_as r)) ≡ false
unfolding queued_call asked_by queued_as
queues_none (act.Call k m p) (reply.Queued c) h = cc
queues_none (act.Call k m p) _ h = refl
queues_none _ r h = refl

no_call : (e : Entry) → queued_call e.act e.reply ≡ None → is_call e ≡ false
unfolding is_call
no_call e h = queues_none e.act e.reply h

-- the number and the service of a call that an entry queues
record IsCallOf (past : Past) (e : Entry) (q : ℕ × ℕ) : Type 0 where
  pub call : is_call e ≡ true
  pub number : q.0 ≡ calls_made past + 1
  pub service : service_of_call (e ∷ past) q.0 ≡ Some q.1

call_of : (s : System) (past : Past) (e : Entry) (q : ℕ × ℕ) → IsNext s past e → queued_call e.act e.reply ≡ Some q → IsCallOf past e q
call_of s past e q n h =
    let y = queuing e.act e.reply q h in
    let made : HasQueued e q.0 = record { service = y.service; method = y.method; parcel = y.parcel; call = y.call; act = y.act; reply = y.reply; number = y.number } in
    let call = has_queued_call e q.0 made in
    let number : q.0 ≡ calls_made past + 1 =
    sym y.number ∙ call_number s past e.domain.0 y.service y.method y.parcel y.call (ap (reply_to s past e.domain.0) (sym y.act) ∙ sym n.reply ∙ y.reply) in
    let asks : IsCallAct e.act = record { service = y.service; method = y.method; parcel = y.parcel; is = y.act } in
    record { call = call; number = number; service = service_new e past q.0 call number asks ∙ ap (λ (i : ℕ). Some i) y.asked }

-- a call keeps its service
service_later : (later past : Past) (c k : ℕ) → service_of_call past c ≡ Some k → service_of_call (later ++ past) c ≡ Some k
service_later [] past c k h = h
service_later (e ∷ later) past c k h =
    let again = service_later later past c k h in service_made e (later ++ past) c (service_there (later ++ past) c k again).1 ∙ again

module _ (s : System) (whole : Past) (x : CallTables) (a : IsAdmittedPast s whole) (has : HasCallTables x whole) where
  entry_by : (later : Past) (e : Entry) (past : Past) (o : Option (ℕ × ℕ)) → whole ≡ later ++ e ∷ past → IsNext s past e → queued_call e.act e.reply ≡ o →
      flat_map (call_line whole) (up_to (calls_made past)) ++ (elim o as (λ _. List ℕ) [ None ↦ [] | Some q ↦ standing_line (standing_in x q.0 q.1) q.0 ])
      ≡ flat_map (call_line whole) (up_to (calls_made (e ∷ past)))
  entry_by later e past None w n is = append-nil _ ∙ ap (λ (m : ℕ). flat_map (call_line whole) (up_to m)) (sym (count_same is_call e past (no_call e is)))
  entry_by later e past (Some q) w n is =
      let y = call_of s past e q n is in
      let v : service_of_call whole q.0 ≡ Some q.1 = ap (λ (p : Past). service_of_call p q.0) w ∙ service_later later (e ∷ past) q.0 q.1 y.service in
      ap (λ (xs : List ℕ). flat_map (call_line whole) (up_to (calls_made past)) ++ xs)
      (line_by_tables s whole x a has q.0 q.1 v ∙ ap (call_line whole) y.number ∙ sym (append-nil (call_line whole (calls_made past + 1))))
      ∙ sym (flat_map-append (call_line whole) (up_to (calls_made past)) ((calls_made past + 1) ∷ []))
      ∙ ap (flat_map (call_line whole)) (sym (up_to_more (calls_made past)))
      ∙ ap (λ (m : ℕ). flat_map (call_line whole) (up_to m)) (sym (count_new is_call e past y.call))

  lines_of : (later past : Past) → whole ≡ later ++ past → IsAdmittedPast s past → flat_map (entry_call_line x) (reverse past) ≡ flat_map (call_line whole) (up_to (calls_made past))
  unfolding entry_call_line up_to count_where
  lines_of later [] w p = refl
  lines_of later (e ∷ past) w p =
      ap (flat_map (entry_call_line x)) (reverse-cons e past)
      ∙ flat_map-append (entry_call_line x) (reverse past) (e ∷ [])
      ∙ ap (λ (xs : List ℕ). flat_map (entry_call_line x) (reverse past) ++ xs) (append-nil (entry_call_line x e))
      ∙ ap (λ (xs : List ℕ). xs ++ entry_call_line x e) (lines_of (later ++ e ∷ []) past (w ∙ sym (append_assoc later (e ∷ []) past)) p.1)
      ∙ entry_by later e past (queued_call e.act e.reply) w p.0 refl

-- the lines of the calls that the entries queue are those of all unanswered calls
pub call_lines : (s : System) (entries : List Entry) (x : CallTables) → IsAdmittedPast s (reverse entries) → HasCallTables x (reverse entries) →
    flat_map (entry_call_line x) entries ≡ flat_map (call_line (reverse entries)) (up_to (calls_made (reverse entries)))
call_lines s entries x a has = ap (flat_map (entry_call_line x)) (sym (reverse-reverse entries)) ∙ lines_of s (reverse entries) x a has [] (reverse entries) refl a
