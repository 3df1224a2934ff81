-- The turn of a domain: its actor, what its code does next, and the entry of that.
use Rattle.std.proofs.Common.{◌≡◌, refl, sym, ◌∙◌, ap, subst, ℕ, ◌+◌, ◌-◌, ◌<◌, ◌≤◌, true, false, ◌∷◌, length, Some, None, arith, inl, inr, get_or, slice_get}
use Rattle.std.specs.Prelude.{slice_set}
use Rattle.std.proofs.lemmas.Option.{slice_get_read}
use Rattle.jx_base.specs.declared.act.Act.{Act}
use Rattle.jx_base.specs.declared.act.Entry.{Entry}
use Rattle.jx_base.specs.declared.program.System.{System}
use Rattle.jx_base.specs.Histories.{is_own, own_entries}
use Rattle.jx_base.proofs.BasicLaws.{ap2}
use Rattle.jx_model.specs.Domains.{is_birth, template_of}
use Rattle.jx_model.specs.Legal.{IsFrom, IsNext}
use Rattle.jx_model.specs.Permits.{acting_thread, can_act, first_choice, is_ending, is_over, is_zero_act}
use Rattle.jx_model.specs.SingleWorker.{Pick, PicksEach, pick}
use Rattle.supported_acts.specs.SupportedActs.{IsSupported, is_supported}
use Rattle.jx_model.specs.WhyNot.{CanBeAsked}
use Rattle.machine_model.specs.Machine.{next_act}
use Rattle.domain_machine.specs.Fates.{IsSettled}
use Rattle.domain_machine.specs.Machines.{HasRun, HasTaken, IsEntryOf, IsLife, IsNextAct, IsNextOf, StandsFor}
use Rattle.domain_machine.specs.declared.next.Next.{Next}
use Rattle.domain_machine.specs.declared.next.Next.TheVariants as next
use Rattle.nucleus_tables.proofs.SupportedEntries.{supported_has_entry}
use Rattle.nucleus_tables.specs.NucleusStates.{IsNucleusOf, NucleusState}
use Rattle.nucleus_tables.specs.Stepping.{IsEntered, MayCome}
use Rattle.supported_acts.specs.SupportedActs.{AreSupported, LacksCode}
use Rattle.table_threads.proofs.Actors.{IsMade, is_made_at}
use Rattle.table_threads.proofs.Records.{is_that}
use Rattle.thread_laws.proofs.OwnEntries.{own_more}
use Rattle.run_alone.proofs.Actors.{actor_there, put, took}
use Rattle.run_alone.proofs.Entered.{has_gone_on, is_legal}
use Rattle.run_alone.proofs.KindsOfActs.{ends_none}
use Rattle.jx_model.specs.Journal.{is_full}
use Rattle.run_alone.proofs.FirstChoices.{chosen_well_made, first_is_chosen, journal_small}
use Rattle.run_alone.proofs.Permitting.{HasCode, has_choice, turn_does, turn_from, turn_idles, turn_not_zeros, turn_permitted}
use Rattle.run_alone.proofs.Picking.{acts_live, acts_made, picks_act, turn_acts}
use Rattle.run_alone.specs.Workers.{AreActorsOf, FindsAct, HasGoneOn, IsActorOf, IsGoing, IsTurn, IsTurnOf, SaysNext, past_in}
use Rattle.run_alone.specs.declared.actor.Actor.{Actor}
use Rattle.run_alone.specs.declared.worker.Worker.{Worker}

-- ---- the actor of a domain that can act

-- the actor that stands there is the domain's
pub actor_in : (s : System) (w : Worker) (h : IsGoing s w) (d : ℕ) → can_act (past_in w) d ≡ true → (y : Actor) → y ≡ get_or w.actors.items (d - 1) y → IsActorOf s (past_in w) d y
actor_in s w h d able y q =
    let m = acts_made (past_in w) d able in
    let l : d - 1 < length w.actors.items = omega (arith, m.low, m.high, h.worker.actors.count) in
    let e : d - 1 + 1 ≡ d = omega (arith, m.low) in
    subst (λ (k : ℕ). IsActorOf s (past_in w) k y) e (h.worker.actors.each (d - 1) y (slice_get_read w.actors.items (length w.actors.items) (d - 1) y refl l q))

module _ (s : System) (w : Worker) (h : IsGoing s w) (d : ℕ) (able : can_act (past_in w) d ≡ true) where
  made : IsMade (past_in w) d
  made = acts_made (past_in w) d able

  pub from_one : 1 ≤ d
  from_one = made.low

  pub place : d - 1 < length w.actors.items
  place = omega (arith, made.low, made.high, h.worker.actors.count)

  one_more : d - 1 + 1 ≡ d
  one_more = omega (arith, made.low)

  pub life_of : IsLife s (own_entries (past_in w) d) (past_in w) d
  life_of = record { admitted = h.worker.nucleus.stands.admitted; made = made.low; own_are = refl }

  pub code_of : (y : Actor) → IsActorOf s (past_in w) d y → HasCode s (past_in w) d y.template
  code_of y m = record {
    admitted = h.worker.nucleus.stands.admitted;
    made = made.low;
    template = m.template;
    there = m.machine.template;
    follows = m.machine.follows;
  }

  -- ---- what its code does next

  -- after its machine ran
  pub says_next : (y x : Actor) (v : Worker) (n : Next) → IsActorOf s (past_in w) d y → x.template ≡ y.template → HasRun s y.machine x.machine n →
      v.nucleus ≡ w.nucleus → v.actors.items ≡ slice_set w.actors.items (d - 1) x → SaysNext s w v d n
  says_next y x v n m t r e i = record {
    going = record {
      worker = record {
        system = h.worker.system;
        nucleus = subst (λ (z : NucleusState). IsNucleusOf s z) (sym e) h.worker.nucleus;
        picked = subst (λ (z : NucleusState). PicksEach s z.kept.past) (sym e) h.worker.picked;
        supported = subst (λ (z : NucleusState). AreSupported z.kept.past) (sym e) h.worker.supported;
        actors = subst (λ (z : NucleusState). AreActorsOf s z.kept.past v.actors.items) (sym e) (subst (AreActorsOf s (past_in w)) (sym i) (put s (past_in w) w.actors.items h.worker.actors (d - 1) x actor));
      };
      going = ap (λ (z : NucleusState). is_over z.kept.past) e ∙ h.going;
    };
    same = e;
    next = λ k q. let z : y.template ≡ k = cc (m.template) in subst (λ (k : ℕ). IsNextOf s k (own_entries (past_in w) d) n) z ran.1.1;
  }
    where
      ran : StandsFor s y.template (own_entries (past_in w) d) x.machine × (IsSettled x.machine.fate × IsNextOf s y.template (own_entries (past_in w) d) n)
      ran = r y.template (own_entries (past_in w) d) (past_in w) d m.machine life_of

      actor : IsActorOf s (past_in w) (d - 1 + 1) x
      actor = subst (λ (k : ℕ). IsActorOf s (past_in w) k x) (sym one_more) (record {
        template = m.template ∙ ap (λ (k : ℕ). Some k) (sym t);
        machine = subst (λ (k : ℕ). StandsFor s k (own_entries (past_in w) d) x.machine) (sym t) ran.0;
      })

  -- the act of its turn is that of its code
  pub finds_code : (v : Worker) (n : Next) (a : Act) → SaysNext s w v d n → ((t : ℕ) → IsNextOf s t (own_entries (past_in w) d) n → IsNextAct s t (own_entries (past_in w) d) a) → FindsAct s w v d a
  finds_code v n a z f =
      let x = actor_there s (past_in w) w.actors.items h.worker.actors d made.low made.high in
      let i = f x.0.template (z.next x.0.template x.2.template) in
      record { going = z.going; same = z.same; act = turn_does s (past_in w) d x.0.template x.2.template a i.does; well_made = i.well_made (past_in w) d life_of }

  -- or its first choice
  pub finds_choice : (v : Worker) (a : Act) → is_full s (past_in w) ≡ false → SaysNext s w v d next.Idle → Some a ≡ first_choice (past_in v) d → FindsAct s w v d a
  finds_choice v a f z c =
      let x = actor_there s (past_in w) w.actors.items h.worker.actors d made.low made.high in
      let q : first_choice (past_in w) d ≡ Some a = ap (λ (n : NucleusState). first_choice n.kept.past d) (sym z.same) ∙ sym c in
      let g = first_is_chosen s (past_in w) d a h.worker.nucleus.stands.admitted q in
      record {
        going = z.going;
        same = z.same;
        act = turn_idles s (past_in w) d x.0.template x.2.template (z.next x.0.template x.2.template) ∙ q;
        well_made = chosen_well_made s (past_in w) d a g (journal_small s h.worker.nucleus.plan) f;
      }

  -- which it has
  pub chooses : (v : Worker) → SaysNext s w v d next.Idle → None ≡ first_choice (past_in v) d → ⊥
  chooses v z c =
      let x = actor_there s (past_in w) w.actors.items h.worker.actors d made.low made.high in
      has_choice s (past_in w) d x.0.template (code_of x.0 x.2) able (z.next x.0.template x.2.template) (ap (λ (n : NucleusState). first_choice n.kept.past d) (sym z.same) ∙ sym c)

  -- ---- an act without code

  pub lacks : (v : Worker) (a : Act) (y : Actor) → FindsAct s w v d a → IsTurnOf s (past_in w) (Some d) → is_supported a ≡ false → y ≡ get_or v.actors.items (d - 1) y → LacksCode s y.template
  lacks v a y z t n q = record {
    past = past_in w;
    legal = is_legal s w h.worker;
    picked = h.worker.picked;
    supported = h.worker.supported;
    going = h.going;
    no_code = ap (λ (p : Pick). is_supported p.act) picked ∙ n;
    template = ap (λ (p : Pick). template_of s (past_in w) p.domain) picked ∙ ap (λ (n : NucleusState). template_of s n.kept.past d) (sym z.same) ∙ actor.template;
  }
    where
      picked : pick s (past_in w) ≡ record { domain = d; act = a }
      picked = picks_act s (past_in w) d a t z.act

      able_still : can_act (past_in v) d ≡ true
      able_still = ap (λ (n : NucleusState). can_act n.kept.past d) z.same ∙ able

      actor : IsActorOf s (past_in v) d y
      actor = actor_in s v z.going d able_still y q

-- ---- the act of its turn

module _ (s : System) (w : Worker) (h : IsGoing s w) (d : ℕ) (a : Act) (t : IsTurn s (past_in w) d a) where
  pub able : can_act (past_in w) d ≡ true
  able = turn_acts (past_in w) d t.domain.turn

  the_actor : (x : Actor) × (slice_get w.actors.items (d - 1) ≡ Some x) × IsActorOf s (past_in w) d x
  the_actor = actor_there s (past_in w) w.actors.items h.worker.actors d (from_one s w h d able) (acts_made (past_in w) d able).high

  the_code : HasCode s (past_in w) d the_actor.0.template
  the_code = code_of s w h d able the_actor.0 the_actor.2

  pub not_zeros : is_zero_act a ≡ false
  not_zeros = turn_not_zeros s (past_in w) d the_actor.0.template a the_code able t.act

  pub may_come : IsSupported a → MayCome s (past_in w) d a
  may_come u = record { domain = inr (is_made_at (past_in w) d (acts_made (past_in w) d able)); well_made = t.well_made; has_entry = supported_has_entry a u }

  pub asked : CanBeAsked s (past_in w) d a
  asked = record { going = h.going; actor = inr (acts_live (past_in w) d able); room = inl t.domain.free.room }

  pub permitted : (r : ℕ) × (acting_thread s (past_in w) d a ≡ Some r)
  permitted = turn_permitted s (past_in w) d the_actor.0.template a the_code able t.act h.going t.domain.free

  own : (e : Entry) → e.domain.0 ≡ d → is_own d e ≡ true
  unfolding is_own
  own e q = is_that e.domain.0 d q

  module _ (e : Entry) (of : e.domain.0 ≡ d) (is : e.act ≡ a) (y : Actor) (m : IsActorOf s (past_in w) d y) where
    from : IsFrom (next_act s y.template (own_entries (past_in w) d)) e.act
    from = subst (IsFrom (next_act s y.template (own_entries (past_in w) d))) (sym is) (turn_from s (past_in w) d y.template a (code_of s w h d able y m) able t.act)

    life : IsNext s (past_in w) e → IsLife s (e ∷ own_entries (past_in w) d) (e ∷ past_in w) d
    life n = record { admitted = (n, h.worker.nucleus.stands.admitted); made = from_one s w h d able; own_are = own_more e (past_in w) d (own e of) }

    -- the machine can take the entry
    pub entry_of : IsNext s (past_in w) e → IsEntryOf s y.machine e
    entry_of n = record {
      template = y.template;
      own = own_entries (past_in w) d;
      past = e ∷ past_in w;
      domain = d;
      stands_for = m.machine;
      from = from;
      life = life n;
    }

    -- and after that the run goes on
    pub turn_gone_on : (v : Worker) (x : Actor) → IsSupported a → IsEntered s w.nucleus v.nucleus e → is_birth e ≡ false → x.template ≡ y.template → HasTaken s y.machine x.machine e →
        v.actors.items ≡ slice_set w.actors.items (d - 1) x → HasGoneOn s w v
    turn_gone_on v x u z b q k i =
        has_gone_on s w v h e z (picks_act s (past_in w) d a t.domain t.act ∙ sym (ap2 (λ (d : ℕ) (a : Act). let p : Pick = record { domain = d; act = a } in p) of is)) (subst IsSupported (sym is) u) actors t.domain.free.room (subst (λ (a : Act). is_ending a ≡ false) (sym is) (ends_none a not_zeros))
      where
        one : d - 1 + 1 ≡ d
        one = omega (arith, from_one s w h d able)

        stands : StandsFor s y.template (e ∷ own_entries (past_in w) d) x.machine
        stands = k y.template (own_entries (past_in w) d) (e ∷ past_in w) d m.machine from (life z.next)

        actors : AreActorsOf s (e ∷ past_in w) v.actors.items
        actors =
            subst (AreActorsOf s (e ∷ past_in w)) (sym i)
            (took s (past_in w) w.actors.items h.worker.actors e (d - 1) x (of ∙ sym one) b
            (ap (template_of s (past_in w)) one ∙ m.template ∙ ap (λ (k : ℕ). Some k) (sym q))
            (subst (λ (n : ℕ). StandsFor s x.template (e ∷ own_entries (past_in w) n) x.machine) (sym one) (subst (λ (k : ℕ). StandsFor s k (e ∷ own_entries (past_in w) d) x.machine) (sym q) stands)))
