-- The first choice of a domain lets a thread run, and is well made.
use Rattle.std.proofs.Common.{◌≡◌, refl, sym, ◌∙◌, ap, subst, ℕ, ◌+◌, ◌<◌, ◌≤◌, ◌^◌, cond, filter, slice_get, Bool, true, false, ◌&&◌, List, [], ◌∷◌, Option, Some, None, is_some, arith, if◌then◌else◌}
use Rattle.std.specs.Prelude.{find, nat_le, ⊤}
use Rattle.std.specs.List.{AllByRecursion}
use Rattle.std.specs.Option.{option_and_then, option_map, option_or}
use Rattle.jx_base.specs.declared.act.Act.{Act}
use Rattle.jx_base.specs.declared.act.Act.TheVariants as act
use Rattle.jx_base.specs.declared.act.Entry.{Entry}
use Rattle.jx_base.specs.declared.act.Refusal.TheVariants as refusal
use Rattle.jx_base.specs.declared.act.Reply.{Reply}
use Rattle.jx_base.specs.declared.act.Reply.TheVariants as reply
use Rattle.jx_base.specs.declared.ids.CallId.{CallId}
use Rattle.jx_base.specs.declared.ids.ClassId.{ClassId}
use Rattle.jx_base.specs.declared.ids.ServiceId.{ServiceId}
use Rattle.jx_base.specs.declared.program.System.{System}
use Rattle.jx_base.specs.declared.states.ThreadState.{ThreadState}
use Rattle.jx_base.specs.declared.states.ThreadState.TheVariants as thread
use Rattle.jx_base.specs.Basics.{first_some, is_number, passes}
use Rattle.jx_base.specs.Histories.{Past, is_own}
use Rattle.jx_base.proofs.BasicLaws.{ap2, passed}
use Rattle.jx_base.proofs.NthEntries.{nth_new, nth_passes}
use Rattle.jx_model.proofs.Acting.{chosen, state_within}
use Rattle.jx_model.proofs.Serving.{is_it, owner_kept}
use Rattle.jx_model.proofs.SmallNumbers.{services_few, threads_few}
use Rattle.jx_model.specs.Calls.{Answer, Asked, answer_of, asked_by, asked_of, call_entry, calls_made, is_call, is_resumable, queue_head, queued_calls, server_of, service_of_call, waiting_calls}
use Rattle.jx_model.specs.Journal.{is_full, words_of}
use Rattle.jx_model.specs.Legal.{IsAdmittedPast, IsNext}
use Rattle.jx_model.specs.Permits.{choice_thread, first_choice, first_of_choices, go_at, going_thread, idle_thread, is_choice, is_head, is_waiting_for, is_yielded, resume_at, resume_in, resuming_thread, take_at, taking_thread}
use Rattle.jx_model.specs.Portals.{export_of, exported_interface, is_export, owner_of, services_made}
use Rattle.jx_model.specs.Replies.{new_service, reply_to, ◌refuses◌else◌}
use Rattle.jx_model.specs.Threads.{new_threads, new_threads_of, service_threads, thread_state, thread_where, threads_of}
use Rattle.jx_model.specs.WellMade.{IsWellMade}
use Rattle.machine_laws.proofs.Lists.{all_append, all_replicate, all_weaken}
use Rattle.nucleus_calls.proofs.CallMoves.{calls_cost}
use Rattle.nucleus_tables.proofs.Room.{room_left}
use Rattle.program_model.specs.Plans.{IsPlanInRange}
use Rattle.program_model.specs.Limits.{entry_limit, journal_limit, service_limit}
use Rattle.run_alone.proofs.Picking.{choice_live}
use Rattle.table_threads.proofs.CallActs.{answered_made}
use Rattle.table_threads.proofs.CallStages.{resumable_parts}
use Rattle.table_threads.proofs.Records.{is_that}
use Rattle.thread_laws.proofs.OwnEntries.{domain_of}

-- ---- lists

-- what several give first is given by one of them, which has what all have
first_there : {A : Type 0} (P : A → Type 0) (f : A → Option Act) (xs : List A) (a : Act) → AllByRecursion P xs → first_some f xs ≡ Some a → (x : A) × (f x ≡ Some a) × P x
unfolding first_some
first_there P f [] a m h = cc
first_there {A} P f (x ∷ xs) a m h = by (f x) refl h (first_there P f xs a m.1)
  where
    by : (o : Option Act) → f x ≡ o → (elim o as (λ _. Option Act) [ Some y ↦ Some y | None ↦ first_some f xs ]) ≡ Some a → (first_some f xs ≡ Some a → (x : A) × (f x ≡ Some a) × P x) → (x : A) × (f x ≡ Some a) × P x
    by None q h again = again h
    by (Some y) q h again = (x, q ∙ h, m.0)

-- so one is found that passes, where all that give it do
first_finds : {A : Type 0} (f : A → Option Act) (p : A → Bool) (xs : List A) (a : Act) → ((x : A) → f x ≡ Some a → p x ≡ true) → first_some f xs ≡ Some a → is_some (find p xs) ≡ true
unfolding first_some
first_finds f p [] a g h = cc
first_finds {A} f p (x ∷ xs) a g h = by (f x) refl (p x) refl h (first_finds f p xs a g)
  where
    by : (o : Option Act) → f x ≡ o → (b : Bool) → p x ≡ b → (elim o as (λ _. Option Act) [ Some y ↦ Some y | None ↦ first_some f xs ]) ≡ Some a → (first_some f xs ≡ Some a → is_some (find p xs) ≡ true) →
        is_some (cond b (Some x) (find p xs)) ≡ true
    by o q true w h again = refl
    by None q false w h again = again h
    by (Some y) q false w h again = let z = g x (q ∙ h) in cc

-- the first that a filter keeps passes it
head_passes : (p : ℕ → Bool) (xs : List ℕ) (x : ℕ) → slice_get (filter p xs) 0 ≡ Some x → p x ≡ true
head_passes p [] x h = cc
head_passes p (y ∷ ys) x h = by (p y) refl h (head_passes p ys x)
  where
    by : (b : Bool) → p y ≡ b → slice_get (cond b (y ∷ filter p ys) (filter p ys)) 0 ≡ Some x → (slice_get (filter p ys) 0 ≡ Some x → p x ≡ true) → p x ≡ true
    by true q h again = let z : y ≡ x = cc in ap p (sym z) ∙ q
    by false q h again = again h

-- what is there
there : (o : Option ℕ) → is_some o ≡ true → (t : ℕ) × (o ≡ Some t)
there None h = cc
there (Some t) h = (t, refl)

-- ---- the services of a domain's threads

-- those that an entry adds are its domain's
new_owned : (s : System) (past : Past) (e : Entry) → IsNext s past e → AllByRecursion (λ (k : ServiceId). owner_of (e ∷ past) k.0 ≡ Some e.domain.0) (new_threads e.act e.reply)
unfolding new_threads owner_of export_of is_export exported_interface reply_to new_service ◌refuses◌else◌
new_owned s past e n = by e.act e.reply refl refl n.reply
  where
    number : (b : Bool) (k : ServiceId) (c iface : ClassId) → reply.Service k c ≡ (if b then reply.Refused refusal.TooMany else reply.Service (record { 0 = services_made past + 1 }) iface) → k.0 ≡ services_made past + 1
    number true k c iface q = cc
    number false k c iface q = let z : k ≡ record { 0 = services_made past + 1 } = cc in ap (λ (y : ServiceId). y.0) z

    owned : (iface : ClassId) (count : ℕ) (k : ServiceId) (c : ClassId) → e.act ≡ act.Export iface count → e.reply ≡ reply.Service k c → k.0 ≡ services_made past + 1 → owner_of (e ∷ past) k.0 ≡ Some e.domain.0
    owned iface count k c p q m =
        let made : is_export e ≡ true = ap2 (λ (a : Act) (r : Reply). is_some (exported_interface a r)) p q in
        ap (option_map (λ (e : Entry). e.domain.0)) (nth_new is_export e past k.0 made m)

    by : (a : Act) (r : Reply) → e.act ≡ a → e.reply ≡ r → e.reply ≡ reply_to s past e.domain.0 e.act → AllByRecursion (λ (k : ServiceId). owner_of (e ∷ past) k.0 ≡ Some e.domain.0) (new_threads a r)
    by (act.Export iface count) (reply.Service k c) p q g =
        let z = number (nat_le (service_limit s) (services_made past)) k c iface (sym q ∙ g ∙ ap (reply_to s past e.domain.0) p) in
        all_replicate (λ (k : ServiceId). owner_of (e ∷ past) k.0 ≡ Some e.domain.0) count k (owned iface count k c p q z)
    by _ _ p q g = tt

-- each is one that the domain exported
threads_owned : (s : System) (past : Past) (d : ℕ) → IsAdmittedPast s past → AllByRecursion (λ (k : ServiceId). owner_of past k.0 ≡ Some d) (service_threads past d)
unfolding service_threads new_threads_of
threads_owned s [] d h = tt
threads_owned s (e ∷ past) d h =
    all_append (λ (k : ServiceId). owner_of (e ∷ past) k.0 ≡ Some d) (service_threads past d) (if is_own d e then new_threads e.act e.reply else [])
    (all_weaken (λ (k : ServiceId). owner_of past k.0 ≡ Some d) (λ (k : ServiceId). owner_of (e ∷ past) k.0 ≡ Some d) (λ k q. owner_kept e past k.0 d q) (service_threads past d) (threads_owned s past d h.1))
    (by (is_own d e) refl)
  where
    by : (b : Bool) → is_own d e ≡ b → AllByRecursion (λ (k : ServiceId). owner_of (e ∷ past) k.0 ≡ Some d) (if b then new_threads e.act e.reply else [])
    by true q = subst (λ (x : ℕ). AllByRecursion (λ (k : ServiceId). owner_of (e ∷ past) k.0 ≡ Some x) (new_threads e.act e.reply)) (domain_of e d q) (new_owned s past e h.0)
    by false q = tt

-- ---- one choice

-- the number that a choice names is small
abbrev pub HasNumber : Past → Act → Type 0
HasNumber past (act.Take c) = c.0 ≤ calls_made past
HasNumber past (act.Resume c) = c.0 ≤ calls_made past
HasNumber past (act.Go t) = t.0 ≤ 2048
HasNumber past _ = Unit {0}

-- a choice that lets a thread run
pub record IsChosen (past : Past) (d : ℕ) (a : Act) : Type 0 where
  pub choice : is_choice a ≡ true
  pub thread : ℕ
  pub lets : choice_thread past d a ≡ Some thread
  pub number : HasNumber past a

-- the resume of a thread that waits
record IsResumeOf (past : Past) (d t : ℕ) (a : Act) : Type 0 where
  pub call : CallId
  pub is : a ≡ act.Resume call
  pub waits : passes (is_waiting_for call.0) (thread_state past d t) ≡ true
  pub can : is_resumable past call.0 ≡ true

resume_there : (past : Past) (d t : ℕ) (a : Act) → resume_at past d t ≡ Some a → IsResumeOf past d t a
unfolding resume_at resume_in is_waiting_for passes
resume_there past d t a h = by (thread_state past d t) refl h
  where
    acts : (c : CallId) (b : Bool) → thread_state past d t ≡ Some (thread.Waiting c) → is_resumable past c.0 ≡ b → (if b then Some (act.Resume c) else None) ≡ Some a → IsResumeOf past d t a
    acts c true w q h =
        let z : act.Resume c ≡ a = cc in
        record { call = c; is = sym z; waits = ap (passes (is_waiting_for c.0)) w ∙ is_that c.0 c.0 refl; can = q }
    acts c false w q h = cc

    by : (o : Option ThreadState) → thread_state past d t ≡ o → option_and_then (resume_in past) o ≡ Some a → IsResumeOf past d t a
    by None w h = cc
    by (Some (thread.Waiting c)) w h = acts c (is_resumable past c.0) w refl h
    by (Some thread.Running) w h = cc
    by (Some (thread.Serving c)) w h = cc
    by (Some (thread.Idle k)) w h = cc
    by (Some thread.Yielded) w h = cc
    by (Some thread.Over) w h = cc

-- the call of a resume
resume_same : (c k : CallId) → act.Resume c ≡ act.Resume k → c ≡ k
resume_same c k q = cc

-- a call after which its caller goes on was made
resumed_made : (past : Past) (c : ℕ) → is_resumable past c ≡ true → c ≤ calls_made past
resumed_made past c h = by (answer_of past c) refl (resumable_parts past c h).0
  where
    by : (o : Option Answer) → answer_of past c ≡ o → is_some o ≡ true → c ≤ calls_made past
    by None q h = cc
    by (Some x) q h = (answered_made past c x q).1

-- the first resume lets its thread run
resume_lets : (past : Past) (d : ℕ) (a : Act) → first_some (resume_at past d) (threads_of past d) ≡ Some a → IsChosen past d a
unfolding is_choice choice_thread resuming_thread thread_where
resume_lets past d a h = by (first_there (λ (t : ℕ). ⊤) (resume_at past d) (threads_of past d) a (anything (threads_of past d)) h)
  where
    anything : (xs : List ℕ) → AllByRecursion (λ (t : ℕ). ⊤) xs
    anything [] = tt
    anything (x ∷ xs) = (tt, anything xs)

    by : (t : ℕ) × (resume_at past d t ≡ Some a) × ⊤ → IsChosen past d a
    by x =
        let r = resume_there past d x.0 a x.1 in
        let passing : (t : ℕ) → resume_at past d t ≡ Some a → passes (is_waiting_for r.call.0) (thread_state past d t) ≡ true =
        λ t q. let z = resume_there past d t a q in ap (λ (c : CallId). passes (is_waiting_for c.0) (thread_state past d t)) (resume_same r.call z.call (sym r.is ∙ z.is)) ∙ z.waits in
        let w = there (find (λ t. passes (is_waiting_for r.call.0) (thread_state past d t)) (threads_of past d))
        (first_finds (resume_at past d) (λ t. passes (is_waiting_for r.call.0) (thread_state past d t)) (threads_of past d) a passing h) in
        record {
          choice = ap is_choice r.is;
          thread = w.0;
          lets =
              ap (choice_thread past d) r.is
              ∙ ap (λ (b : Bool). if b then find (λ t. passes (is_waiting_for r.call.0) (thread_state past d t)) (threads_of past d) else None) r.can ∙ w.1;
          number = subst (HasNumber past) (sym r.is) (resumed_made past r.call.0 r.can);
        }

-- the take of the first call of a queue
record IsTakeOf (past : Past) (d k : ℕ) (a : Act) : Type 0 where
  pub call : ℕ
  pub is : a ≡ act.Take (record { 0 = call })
  pub head : queue_head past k ≡ Some call
  pub idle : is_some (idle_thread past d k) ≡ true

take_there : (past : Past) (d k : ℕ) (a : Act) → take_at past d k ≡ Some a → IsTakeOf past d k a
unfolding take_at
take_there past d k a h = by (is_some (idle_thread past d k)) refl (queue_head past k) refl h
  where
    by : (b : Bool) → is_some (idle_thread past d k) ≡ b → (o : Option ℕ) → queue_head past k ≡ o → (if b then option_map (λ c. act.Take (record { 0 = c })) o else None) ≡ Some a → IsTakeOf past d k a
    by true p (Some c) q h = let z : act.Take (record { 0 = c }) ≡ a = cc in record { call = c; is = sym z; head = q; idle = p }
    by true p None q h = cc
    by false p o q h = cc

-- a call to a service was made
asked_made : (past : Past) (c k : ℕ) → service_of_call past c ≡ Some k → c ≤ calls_made past
unfolding service_of_call asked_of call_entry
asked_made past c k h = by (call_entry past c) refl h
  where
    by : (o : Option Entry) → call_entry past c ≡ o → option_map (λ (a : Asked). a.service.0) (option_and_then (λ (e : Entry). asked_by e.act) o) ≡ Some k → c ≤ calls_made past
    by None q h = cc
    by (Some e) q h = (nth_passes is_call past c e q).2

take_lets : (s : System) (past : Past) (d : ℕ) (a : Act) → IsAdmittedPast s past → first_some (λ (k : ServiceId). take_at past d k.0) (service_threads past d) ≡ Some a → IsChosen past d a
unfolding is_choice choice_thread taking_thread is_head server_of queue_head queued_calls is_number
take_lets s past d a m h =
    by (first_there (λ (k : ServiceId). owner_of past k.0 ≡ Some d) (λ (k : ServiceId). take_at past d k.0) (service_threads past d) a (threads_owned s past d m) h)
  where
    by : (k : ServiceId) × (take_at past d k.0 ≡ Some a) × (owner_of past k.0 ≡ Some d) → IsChosen past d a
    by x =
        let r = take_there past d x.0.0 a x.1 in
        let w = there (idle_thread past d x.0.0) r.idle in
        let of : service_of_call past r.call ≡ Some x.0.0 = is_it (service_of_call past r.call) x.0.0 (head_passes (λ c. is_number (service_of_call past c) x.0.0) (waiting_calls past) r.call r.head) in
        let server : option_and_then (owner_of past) (service_of_call past r.call) ≡ Some d = ap (option_and_then (owner_of past)) of ∙ x.2 in
        let first : option_and_then (queue_head past) (service_of_call past r.call) ≡ Some r.call = ap (option_and_then (queue_head past)) of ∙ r.head in
        let is : is_head past d r.call ≡ true = ap2 (λ (o p : Option ℕ). is_number o d && is_number p r.call) server first ∙ ap2 (λ (a b : Bool). a && b) (is_that d d refl) (is_that r.call r.call refl) in
        record {
          choice = ap is_choice r.is;
          thread = w.0;
          lets =
              ap (choice_thread past d) r.is
              ∙ ap2 (λ (b : Bool) (o : Option ℕ). if b then option_and_then (idle_thread past d) o else None) is of ∙ w.1;
          number = subst (HasNumber past) (sym r.is) (asked_made past r.call x.0.0 of);
        }

-- the go of a thread that has yielded
go_lets : (s : System) (past : Past) (d : ℕ) (a : Act) → IsAdmittedPast s past → first_some (go_at past d) (threads_of past d) ≡ Some a → IsChosen past d a
unfolding is_choice choice_thread going_thread go_at
go_lets s past d a m h = by (first_there (λ (t : ℕ). ⊤) (go_at past d) (threads_of past d) a (anything (threads_of past d)) h)
  where
    anything : (xs : List ℕ) → AllByRecursion (λ (t : ℕ). ⊤) xs
    anything [] = tt
    anything (x ∷ xs) = (tt, anything xs)

    going_same : (t k : ℕ) → going_thread past d t ≡ Some k → k ≡ t
    going_same t k q = let z = (chosen (passes is_yielded (thread_state past d t)) k (Some t) q).1 in let w : t ≡ k = cc in sym w

    goes : (t : ℕ) (o : Option ℕ) → going_thread past d t ≡ o → option_map (λ k. act.Go (record { 0 = k })) o ≡ Some a → IsChosen past d a
    goes t None q h = cc
    goes t (Some k) q h =
        let w : act.Go (record { 0 = k }) ≡ a = cc in
        let same : k ≡ t = going_same t k q in
        let y = passed is_yielded (thread_state past d k) (chosen (passes is_yielded (thread_state past d k)) k (Some k) (ap (going_thread past d) same ∙ q)).0 in
        record {
          choice = ap is_choice (sym w);
          thread = k;
          lets = ap (choice_thread past d) (sym w) ∙ ap (going_thread past d) same ∙ q;
          number = subst (HasNumber past) w (omega (arith, state_within past d k y.0 y.1, threads_few s past d m, services_few s past m));
        }

    by : (t : ℕ) × (go_at past d t ≡ Some a) × ⊤ → IsChosen past d a
    by x = goes x.0 (going_thread past d x.0) refl x.1

-- ---- the first choice

-- it is a choice, and lets a thread run
pub first_is_chosen : (s : System) (past : Past) (d : ℕ) (a : Act) → IsAdmittedPast s past → first_choice past d ≡ Some a → IsChosen past d a
unfolding first_of_choices
first_is_chosen s past d a m h = resumes (first_some (resume_at past d) (threads_of past d)) refl (choice_live past d a h).2
  where
    takes : (o : Option Act) → first_some (λ (k : ServiceId). take_at past d k.0) (service_threads past d) ≡ o → option_or o (first_some (go_at past d) (threads_of past d)) ≡ Some a → IsChosen past d a
    takes None q h = go_lets s past d a m h
    takes (Some b) q h = take_lets s past d a m (q ∙ h)

    resumes : (o : Option Act) → first_some (resume_at past d) (threads_of past d) ≡ o →
        option_or o (option_or (first_some (λ (k : ServiceId). take_at past d k.0) (service_threads past d)) (first_some (go_at past d) (threads_of past d))) ≡ Some a → IsChosen past d a
    resumes None q h = takes (first_some (λ (k : ServiceId). take_at past d k.0) (service_threads past d)) refl h
    resumes (Some b) q h = resume_lets past d a (q ∙ h)

-- ---- well made

-- a call that was made has one of the numbers of calls
call_small : (s : System) (past : Past) (c : ℕ) → journal_limit s < 2 ^ 32 → is_full s past ≡ false → c ≤ calls_made past → c < 2 ^ 32
unfolding is_full entry_limit
call_small s past c l f u = let room = room_left (words_of past) (journal_limit s) f in let cost = calls_cost past in omega (arith, l, u, room, cost)

-- a choice that lets a thread run is well made
pub chosen_well_made : (s : System) (past : Past) (d : ℕ) (a : Act) → IsChosen past d a → journal_limit s < 2 ^ 32 → is_full s past ≡ false → IsWellMade s past a
unfolding is_choice
chosen_well_made s past d a x l f = by a x.choice x.number
  where
    by : (a : Act) → is_choice a ≡ true → HasNumber past a → IsWellMade s past a
    by (act.Take c) q n = call_small s past c.0 l f n
    by (act.Resume c) q n = call_small s past c.0 l f n
    by (act.Go t) q n = omega (arith, n)
    by _ q n = cc

-- the words of a journal are few
pub journal_small : (s : System) → IsPlanInRange s.plan → journal_limit s < 2 ^ 32
unfolding journal_limit
journal_small s p = omega (arith, p.journal.1)
