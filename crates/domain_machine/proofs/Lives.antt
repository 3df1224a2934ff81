-- The life of a domain, and what a machine stands for.
use Rattle.std.proofs.Common.{◌≡◌, refl, sym, ◌∙◌, ap, subst, ℕ, Bool, true, false, List, [], ◌∷◌, Option, Some, None, ◌⊎◌, inl, inr}
use Rattle.std.specs.Prelude.{IsSome, IsTrue}
use Rattle.jx_base.specs.declared.act.Act.{Act}
use Rattle.jx_base.specs.declared.act.Act.TheVariants as act
use Rattle.jx_base.specs.declared.act.Entry.{Entry}
use Rattle.jx_base.specs.declared.act.Reason.TheVariants as reason
use Rattle.jx_base.specs.declared.ids.CallId.{CallId}
use Rattle.jx_base.specs.declared.program.System.{System}
use Rattle.jx_base.specs.declared.value.Value.{Value}
use Rattle.jx_base.specs.declared.value.Value.TheVariants as value
use Rattle.std.specs.Option.{option_map}
use Rattle.jx_base.specs.declared.value.Parcel.{Parcel}
use Rattle.jx_base.specs.Histories.{Past, is_own, own_entries}
use Rattle.jx_model.proofs.Growing.{before_admitted, moment}
use Rattle.jx_model.specs.Calls.{Asked, asked_of}
use Rattle.jx_model.specs.Legal.{FollowsCode, IsAdmittedPast, IsFrom, IsNext}
use Rattle.jx_model.specs.Moments.{IsMoment}
use Rattle.jx_model.specs.Permits.{is_choice}
use Rattle.jx_model.specs.Replies.{job_of, reply_to}
use Rattle.machine_laws.proofs.Cores.{stacks_within}
use Rattle.machine_laws.proofs.Law.{entry_exported}
use Rattle.machine_laws.proofs.Standing.{standing}
use Rattle.machine_laws.proofs.Stores.{state_of_past}
use Rattle.machine_laws.proofs.StepDepths.{advanced_within}
use Rattle.machine_laws.proofs.WholeLaw.{next_is_well_made, replies_hold, standing_values}
use Rattle.machine_laws.specs.Depths.{HaveStacksWithin}
use Rattle.machine_laws.specs.Standing.{Stands}
use Rattle.machine_laws.specs.Values.{IsStateIn}
use Rattle.machine_model.specs.AfterEntry.{after_end, after_entry}
use Rattle.machine_model.specs.Machine.{Does, Idle, NextAct, domain_state, next_act}
use Rattle.machine_model.specs.MachineThreads.{at_rest, thread_at}
use Rattle.machine_model.specs.Running.{Ask, answer_act, empty_parcel, ending_act, result_roots, stage_step, state_at_act, step}
use Rattle.machine_model.specs.State.{Bad, Going, Returned, Stage, State, Thread, Threw, class_of_object}
use Rattle.program_model.specs.Lookup.{template_at}
use Rattle.program_model.specs.Parcels.{packed}
use Rattle.machine_replies.specs.Leaving.{CanRun}
use Rattle.thread_laws.proofs.AfterEnds.{none_after_end}
use Rattle.thread_laws.proofs.Agreement.{entry_of_thread}
use Rattle.thread_laws.proofs.OwnEntries.{none_yet, own_more, own_same}
use Rattle.thread_laws.specs.Acting.{IsOfThread}
use Rattle.domain_machine.specs.declared.fate.Fate.{Fate}
use Rattle.domain_machine.specs.declared.fate.Fate.TheVariants as fate
use Rattle.domain_machine.specs.declared.held.Held.{Held}
use Rattle.domain_machine.specs.declared.next.Next.{Next}
use Rattle.domain_machine.specs.declared.next.Next.TheVariants as next
use Rattle.domain_machine.specs.Advancing.{Arrives, CanAdvance, WillBeBad}
use Rattle.domain_machine.specs.Entering.{CanTake, Leads, ends_code, held_state}
use Rattle.domain_machine.specs.Fates.{IsSettled, fate_after}
use Rattle.domain_machine.specs.Machines.{HasEndedBadly, IsAtAct, IsFateOf, IsLife, IsMachineOf, IsNextAct, IsNextOf, MachineState, StandsFor}
use Rattle.domain_machine.specs.Taking.{IsJob}
use Rattle.domain_machine.proofs.Reaching.{bad_there_asks, runs_later, stands_later}
use Rattle.domain_machine.proofs.Takes.{ended_by, entry_is}

-- ---- the entry and what came before it

-- the newest of a domain's entries, with what came before it
pub record IsNewest (past : Past) (d : ℕ) (e : Entry) (own : Past) : Type 0 where
  pub before : Past
  pub moment : IsMoment past e before
  pub rest : own_entries before d ≡ own

newest_later : (g : Entry) (past : Past) (d : ℕ) (e : Entry) (own : Past) → IsNewest past d e own → IsNewest (g ∷ past) d e own
newest_later g past d e own n = record { before = n.before; moment = (g ∷ n.moment.0, ap (λ (p : Past). g ∷ p) n.moment.1); rest = n.rest }

pub newest : (past : Past) (d : ℕ) (e : Entry) (own : Past) → own_entries past d ≡ e ∷ own → IsNewest past d e own
newest [] d e own q = let w : [] ≡ e ∷ own = sym (none_yet d) ∙ q in cc
newest (g ∷ past) d e own q = by (is_own d g) refl (newest past d e own)
  where
    by : (b : Bool) → is_own d g ≡ b → (own_entries past d ≡ e ∷ own → IsNewest past d e own) → IsNewest (g ∷ past) d e own
    by false u again = newest_later g past d e own (again (sym (own_same g past d u) ∙ q))
    by true u again =
        let w : g ∷ own_entries past d ≡ e ∷ own = sym (own_more g past d u) ∙ q in
        let y : g ≡ e = cc in
        record { before = past; moment = ([], ap (λ (g : Entry). g ∷ past) y); rest = cc }

module _ (s : System) (t : ℕ) (r : CanRun s) (known : IsSome (template_at s t)) where
  -- a state that stands for a life is one of its past
  pub values : (own past : Past) (d : ℕ) (st : State) → IsAdmittedPast s past → own_entries past d ≡ own → Stands s t own st → IsStateIn s past st
  values own past d st a q w = standing_values s past r.sound a d t st known (subst (λ (o : Past). Stands s t o st) (sym q) w)

  pub within : (own : Past) (st : State) → Stands s t own st → HaveStacksWithin s st
  within own st w = subst (HaveStacksWithin s) (sym w.1) (advanced_within s w.0 (domain_state s t own) (stacks_within s t own))

  -- what is next is well made
  pub next_made : (own : Past) (a : Act) → next_act s t own ≡ Does a → IsNextAct s t own a
  next_made own a q = record {
    does = q;
    well_made = λ past d l. next_is_well_made s past r.sound l.admitted d t a known (ap (next_act s t) l.own_are ∙ q);
  }

  -- the running thread meets bad code next
  pub ends_badly : (own : Past) (st : State) → Stands s t own st → WillBeBad s st → next_act s t own ≡ Does (act.End reason.BadCode)
  ends_badly own st w b =
      (standing s t own).act b.asks.0 b.number (act.End reason.BadCode) (stands_later s t own st b.asks.0 b.number w b.running b.asks.1.0)
      (record { running = runs_later s b.number st b.asks.0 b.asks.1.0 ∙ b.running; asked = b.asks.1.1 })

  -- the machine has come to its act
  pub at_act : (own : Past) (old new : State) (n : Next) → Stands s t own old → Arrives s old new (Some n) → (Stands s t own new × IsAtAct s new) × IsNextOf s t own n
  at_act own old new next.Idle w a = ((subst (Stands s t own) (sym a.1) w, inl (ap (λ (z : State). z.running) a.1 ∙ a.0)), (standing s t own).idle old w a.0)
  at_act own old new (next.Act b) w a =
      let z = stands_later s t own old new a.number w a.running a.reaches in
      ((z, inr (a.number, (a.act, a.asks))), next_made own b ((standing s t own).act new a.number a.act z a.asks ∙ ap Does (sym a.said)))
  at_act own old new (next.End why) w a =
      let z = stands_later s t own old new a.number w a.running a.reaches in
      ((z, inr (a.number, (a.act, a.asks))), next_made own (act.End why) ((standing s t own).act new a.number a.act z a.asks ∙ ap Does (sym a.said)))

  -- what an entry leads to, or a start
  pub led : (own : Past) (after : State) (k : ℕ) (held : Held) (bad : Bool) → Stands s t own after → Leads k after held bad → IsFateOf s t own (fate_after bad) (held_state held)
  led own after k held false w l = subst (Stands s t own) (sym l) w
  led own after k held true w l = (standing s t own).act after k (act.End reason.BadCode) w (record { running = l.0; asked = bad_there_asks s after k l.1 })

-- ---- the acts of code that ends

answers : (st : State) (c : CallId) (f : Parcel → Act) (vs : List Value) → ((p : Parcel) → ends_code (f p) ≡ true) → ends_code (answer_act st c f vs) ≡ true
unfolding answer_act ends_code
answers st c f vs w = by (packed st.store.objects st.store.exports vs)
  where
    by : (o : Option Parcel) → ends_code (elim o as (λ _. Act) [ Some p ↦ f p | None ↦ act.Throw c empty_parcel ]) ≡ true
    by None = refl
    by (Some p) = w p

ending_ends : (st : State) (x : Thread) (g : Stage) → (g ≡ Going → ⊥) → ends_code (ending_act st x g) ≡ true
unfolding ending_act ends_code
ending_ends st x Going n = absurd (n refl)
ending_ends st x Bad n = refl
ending_ends st x (Returned v) n = by x.call
  where
    by : (o : Option CallId) → ends_code (elim o as (λ _. Act) [ None ↦ act.EndThread None | Some c ↦ answer_act st c (λ p. act.Return c p) (result_roots v) ]) ≡ true
    by None = refl
    by (Some c) = answers st c (λ p. act.Return c p) (result_roots v) (λ p. refl)
ending_ends st x (Threw r) n = by x.call
  where
    by : (o : Option CallId) → ends_code (elim o as (λ _. Act) [
      | None ↦ act.EndThread (option_map (λ (c : ℕ). record { 0 = c }) (class_of_object st.store r))
      | Some c ↦ answer_act st c (λ p. act.Throw c p) (value.Ref r ∷ [])
    ]) ≡ true
    by None = refl
    by (Some c) = answers st c (λ p. act.Throw c p) (value.Ref r ∷ []) (λ p. refl)

staged : (s : System) (st : State) (k : ℕ) (x : Thread) → thread_at st k ≡ Some x → step s st k ≡ stage_step s st k x x.stage
unfolding step
staged s st k x h = rw (h, step) refl

at_stage : (s : System) (st : State) (k : ℕ) (x : Thread) (g : Stage) → (g ≡ Going → ⊥) → stage_step s st k x g ≡ Ask (ending_act st x g)
unfolding stage_step
at_stage s st k x Going n = absurd (n refl)
at_stage s st k x (Returned v) n = refl
at_stage s st k x (Threw r) n = refl
at_stage s st k x Bad n = refl

-- a thread whose next step asks for another act goes on
asks_going : (s : System) (st : State) (k : ℕ) (x : Thread) (a : Act) → thread_at st k ≡ Some x → step s st k ≡ Ask a → ends_code a ≡ false → x.stage ≡ Going
asks_going s st k x a h q e = by x.stage refl
  where
    other : (g : Stage) → x.stage ≡ g → (g ≡ Going → ⊥) → stage_step s st k x g ≡ Ask (ending_act st x g) → x.stage ≡ Going
    other g w n u =
        let y : Ask (ending_act st x g) ≡ Ask a = sym u ∙ ap (stage_step s st k x) (sym w) ∙ sym (staged s st k x h) ∙ q in
        let z : ending_act st x g ≡ a = cc in
        let false_true : false ≡ true = sym e ∙ ap ends_code (sym z) ∙ ending_ends st x g n in cc

    by : (g : Stage) → x.stage ≡ g → x.stage ≡ Going
    by Going w = w
    by Bad w = other Bad w (λ q. cc) (at_stage s st k x Bad (λ q. cc))
    by (Returned v) w = other (Returned v) w (λ q. cc) (at_stage s st k x (Returned v) (λ q. cc))
    by (Threw r) w = other (Threw r) w (λ q. cc) (at_stage s st k x (Threw r) (λ q. cc))

-- ---- an entry

job_is : (o : Option Asked) → IsJob (job_of o)
unfolding job_of
job_is None = tt
job_is (Some a) = tt

taken_reply : (s : System) (past : Past) (d : ℕ) (a : Act) (c : CallId) → a ≡ act.Take c → reply_to s past d a ≡ job_of (asked_of past c.0)
unfolding reply_to
taken_reply s past d a c q = ap (reply_to s past d) q

module _ (s : System) (t : ℕ) (r : CanRun s) (known : IsSome (template_at s t)) (e : Entry) (own past : Past) (d : ℕ) (st : State)
    (follows : FollowsCode s t own) (from : IsFrom (next_act s t own) e.act) (life : IsLife s (e ∷ own) past d) (w : Stands s t own st) where
  n : IsNewest past d e own
  n = newest past d e own life.own_are

  earlier : IsAdmittedPast s n.before
  earlier = before_admitted s past e n.before life.admitted n.moment

  next_is : IsNext s n.before e
  next_is = moment s past e n.before life.admitted n.moment

  of_thread : IsOfThread st e
  of_thread = entry_of_thread s past life.admitted d t e own st life.made known life.own_are (from, follows) w

  going : IsAtAct s st → ends_code e.act ≡ false → of_thread.thread.stage ≡ Going
  going at u = by (is_choice e.act) refl at
    where
      by : (b : Bool) → is_choice e.act ≡ b → IsAtAct s st → of_thread.thread.stage ≡ Going
      by true q at = (of_thread.choice q).1
      by false q (inl idle) =
          let f : IsTrue (is_choice e.act) = subst (λ (a : NextAct). IsFrom a e.act) ((standing s t own).idle st w idle) from in
          let z : false ≡ true = sym q ∙ f in cc
      by false q (inr (k, (a, asks))) =
          let f : e.act ≡ a = subst (λ (a : NextAct). IsFrom a e.act) ((standing s t own).act st k a w asks) from in
          let z : Some e.thread.0 ≡ Some k = sym (of_thread.act q) ∙ asks.running in
          let y : e.thread.0 ≡ k = cc in
          asks_going s st k of_thread.thread a (subst (λ (k : ℕ). thread_at st k ≡ Some of_thread.thread) y of_thread.there) asks.asked (ap ends_code (sym f) ∙ u)

  pub can_take : IsAtAct s st → CanTake s st e
  can_take at = record {
    of = of_thread;
    past = e ∷ n.before;
    admitted = (next_is, earlier);
    values = state_of_past s n.before (e ∷ n.before) st (e ∷ [], refl) (values s t r known own n.before d st earlier n.rest w);
    within = within s t r known own st w;
    reply = replies_hold s (e ∷ n.before) r.sound (next_is, earlier) e n.before ([], refl);
    exported = entry_exported s e n.before earlier next_is;
    job = λ c q. subst IsJob (sym (next_is.reply ∙ taken_reply s n.before e.domain.0 e.act c q)) (job_is (asked_of n.before c.0));
    going = going at;
  }

  -- the state after the entry stands for one more
  pub stands_after : IsAtAct s st → Stands s t (e ∷ own) (after_entry s st e)
  stands_after (inl idle) = (standing s t own).rested st e w idle
  stands_after (inr (k, (a, asks))) = (standing s t own).entry st k a e w asks

  -- after the end by bad code nothing runs
  pub over : e.act ≡ act.End reason.BadCode → next_act s t (e ∷ own) ≡ Idle
  unfolding after_end at_rest ends_code domain_state
  over q =
      let st = state_at_act s (domain_state s t own) in
      let z : Stands s t own st = (standing s t own).settled (domain_state s t own) (standing s t own).first in
      let o : IsOfThread st e = entry_of_thread s past life.admitted d t e own st life.made known life.own_are (from, follows) z in
      let y : domain_state s t (e ∷ own) ≡ after_end st e.thread.0 o.thread = entry_is s st e o.thread o.there ∙ sym (ended_by s st e.thread.0 o.thread e.act e.reply (ap ends_code q)) in
      (standing s t (e ∷ own)).idle (domain_state s t (e ∷ own)) (standing s t (e ∷ own)).first (ap (λ (z : State). z.running) y)

  -- and nothing comes after it
  pub none_follows : HasEndedBadly own → ⊥
  none_follows h = by own life.own_are h
    where
      by : (own : Past) → own_entries past d ≡ e ∷ own → HasEndedBadly own → ⊥
      by [] q h = absurd h
      by (f ∷ own) q h = none_after_end s past life.admitted d e f own life.made q reason.BadCode h

-- ---- a machine and what it stands for

pub life_earlier : (s : System) (e : Entry) (own past : Past) (d : ℕ) (l : IsLife s (e ∷ own) past d) → IsLife s own (newest past d e own l.own_are).before d
life_earlier s e own past d l =
    let n = newest past d e own l.own_are in
    record { admitted = before_admitted s past e n.before l.admitted n.moment; made = l.made; own_are = n.rest }

-- the machine holds a state of the domain
pub moving : (s : System) (t : ℕ) (own : Past) (f : Fate) (st : State) → IsFateOf s t own f st → (f ≡ fate.OnTheWay) ⊎ (f ≡ fate.AtAct) → Stands s t own st
moving s t own f st h (inl e) = subst (λ (f : Fate). IsFateOf s t own f st) e h
moving s t own f st h (inr e) = let w : Stands s t own st × IsAtAct s st = subst (λ (f : Fate). IsFateOf s t own f st) e h in w.0

pub can_advance : (s : System) (m : MachineState) (f : Fate) (st : State) → record { fate = f; state = st } ≡ m → (f ≡ fate.OnTheWay) ⊎ (f ≡ fate.AtAct) → IsMachineOf s m → CanAdvance s st
can_advance s m f st q i h =
    let r = h.1.2.1.0 in
    let v : IsFateOf s h.0 h.1.0 f st = subst (λ (m : MachineState). IsFateOf s h.0 h.1.0 m.fate m.state) (sym q) r.fate in
    record { template = h.0; own = h.1.0; past = h.1.1; domain = h.1.2.0; known = r.template; life = h.1.2.1.1; stands = moving s h.0 h.1.0 f st v i }

module _ (s : System) (m : MachineState) (f : Fate) (st : State) (q : record { fate = f; state = st } ≡ m) (t : ℕ) (own past : Past) (d : ℕ) (h : StandsFor s t own m) where
  pub fate_is : IsFateOf s t own f st
  fate_is = subst (λ (m : MachineState). IsFateOf s t own m.fate m.state) (sym q) h.fate

  pub run_on : (f ≡ fate.OnTheWay) ⊎ (f ≡ fate.AtAct) → (new : State) (n : Next) → Arrives s st new (Some n) → StandsFor s t own (record { fate = fate.AtAct; state = new }) × (Unit {0} × IsNextOf s t own n)
  run_on i new n a =
      let w = at_act s t h.system h.template own st new n (moving s t own f st fate_is i) a in
      (record { system = h.system; template = h.template; follows = h.follows; fate = w.0 }, (tt, w.1))

  pub run_badly : (f ≡ fate.OnTheWay) ⊎ (f ≡ fate.AtAct) → (new : State) → WillBeBad s st → StandsFor s t own (record { fate = fate.MetBadCode; state = new }) × (Unit {0} × IsNextAct s t own (act.End reason.BadCode))
  run_badly i new b =
      let w = ends_badly s t h.system h.template own st (moving s t own f st fate_is i) b in
      (record { system = h.system; template = h.template; follows = h.follows; fate = w }, (tt, next_made s t h.system h.template own (act.End reason.BadCode) w))

  -- what was met before is met again
  pub same_badly : f ≡ fate.MetBadCode → StandsFor s t own m × (IsSettled m.fate × IsNextAct s t own (act.End reason.BadCode))
  same_badly e =
      let w : next_act s t own ≡ Does (act.End reason.BadCode) = subst (λ (f : Fate). IsFateOf s t own f st) e fate_is in
      (h, (settled e, next_made s t h.system h.template own (act.End reason.BadCode) w))
    where
      settled : f ≡ fate.MetBadCode → IsSettled m.fate
      settled e = subst IsSettled (sym e ∙ ap (λ (m : MachineState). m.fate) q) tt

  pub same_over : f ≡ fate.Over → StandsFor s t own m × (IsSettled m.fate × (next_act s t own ≡ Idle))
  same_over e =
      let w : (next_act s t own ≡ Idle) × HasEndedBadly own = subst (λ (f : Fate). IsFateOf s t own f st) e fate_is in
      (h, (subst IsSettled (sym e ∙ ap (λ (m : MachineState). m.fate) q) tt, w.0))

module _ (s : System) (m : MachineState) (f : Fate) (st : State) (q : record { fate = f; state = st } ≡ m) (e : Entry) (t : ℕ) (own past : Past) (d : ℕ) (h : StandsFor s t own m)
    (from : IsFrom (next_act s t own) e.act) (life : IsLife s (e ∷ own) past d) where
  there : f ≡ fate.AtAct → Stands s t own st × IsAtAct s st
  there e = subst (λ (f : Fate). IsFateOf s t own f st) e (fate_is s m f st q t own past d h)

  pub takes : f ≡ fate.AtAct → CanTake s st e
  takes w = can_take s t h.system h.template e own past d st h.follows from life (there w).0 (there w).1

  pub has_taken : f ≡ fate.AtAct → (held : Held) (bad : Bool) (g : Fate) → g ≡ fate_after bad → Leads e.thread.0 (after_entry s st e) held bad → StandsFor s t (e ∷ own) (record { fate = g; state = held_state held })
  has_taken w held bad g u l = record {
    system = h.system;
    template = h.template;
    follows = (from, h.follows);
    fate = subst (λ (g : Fate). IsFateOf s t (e ∷ own) g (held_state held)) (sym u)
        (led s t h.system h.template (e ∷ own) (after_entry s st e) e.thread.0 held bad (stands_after s t h.system h.template e own past d st h.follows from life (there w).0 (there w).1) l);
  }

  pub has_ended : f ≡ fate.MetBadCode → (new : State) → StandsFor s t (e ∷ own) (record { fate = fate.Over; state = new })
  has_ended w new =
      let v : next_act s t own ≡ Does (act.End reason.BadCode) = subst (λ (f : Fate). IsFateOf s t own f st) w (fate_is s m f st q t own past d h) in
      let u : e.act ≡ act.End reason.BadCode = subst (λ (a : NextAct). IsFrom a e.act) v from in
      record {
        system = h.system;
        template = h.template;
        follows = (from, h.follows);
        fate = (over s t h.system h.template e own past d (domain_state s t own) h.follows from life (standing s t own).first u, u);
      }

  pub none_after : f ≡ fate.Over → ⊥
  none_after w =
      let v : (next_act s t own ≡ Idle) × HasEndedBadly own = subst (λ (f : Fate). IsFateOf s t own f st) w (fate_is s m f st q t own past d h) in
      none_follows s t h.system h.template e own past d (domain_state s t own) h.follows from life (standing s t own).first v.1

-- at the start
pub started : (s : System) (t : ℕ) (held : Held) (bad : Bool) (g : Fate) → CanRun s → IsSome (template_at s t) → g ≡ fate_after bad → Leads 0 (domain_state s t []) held bad → StandsFor s t [] (record { fate = g; state = held_state held })
started s t held bad g r known u l = record {
  system = r;
  template = known;
  follows = tt;
  fate = subst (λ (g : Fate). IsFateOf s t [] g (held_state held)) (sym u) (led s t r known [] (domain_state s t []) 0 held bad (standing s t []).first l);
}
