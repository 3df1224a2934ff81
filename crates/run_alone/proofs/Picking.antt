-- What one worker picks, by its cases.
use Rattle.std.proofs.Common.{◌≡◌, refl, sym, ◌∙◌, ap, ℕ, Bool, true, false, not, ◌&&◌, ◌||◌, [], ◌∷◌, Option, Some, None, is_some, is_none, arith, ◌==◌, if◌then◌else◌}
use Rattle.std.specs.Prelude.{nat_lt}
use Rattle.std.specs.Option.{option_or}
use Rattle.jx_base.specs.declared.act.Act.{Act}
use Rattle.jx_base.specs.declared.act.Act.TheVariants as act
use Rattle.jx_base.specs.declared.program.System.{System}
use Rattle.jx_base.specs.Basics.{up_to}
use Rattle.jx_base.specs.Histories.{Past}
use Rattle.jx_base.proofs.BasicLaws.{both, found}
use Rattle.jx_model.specs.Domains.{domains_made, is_live}
use Rattle.jx_model.specs.Journal.{is_full}
use Rattle.jx_model.specs.Permits.{can_act, first_alive, first_choice, first_of_choices, next_boot}
use Rattle.jx_model.specs.SingleWorker.{Pick, act_of_turn, goes_on, is_yield, last_domain, next_above, next_domain, pick, pick_with_room, turn_of}
use Rattle.jx_model.specs.Threads.{running_thread}
use Rattle.jx_model.proofs.Acting.{running_live}
use Rattle.table_threads.proofs.Actors.{IsMade, live_made}
use Rattle.run_alone.specs.Workers.{HasRoom, IsTurnOf}

-- ---- who can act

-- a domain with a choice is live, and no thread of it runs
pub choice_live : (past : Past) (d : ℕ) (a : Act) → first_choice past d ≡ Some a → (is_live past d ≡ true) × (running_thread past d ≡ None) × (first_of_choices past d ≡ Some a)
unfolding first_choice
choice_live past d a h = by (is_live past d) (running_thread past d) h
  where
    by : (l : Bool) (o : Option ℕ) → (if l && is_none o then first_of_choices past d else None) ≡ Some a → (l ≡ true) × (o ≡ None) × (first_of_choices past d ≡ Some a)
    by true None h = (refl, refl, h)
    by true (Some t) h = cc
    by false o h = cc

-- one that can act is live
pub acts_live : (past : Past) (d : ℕ) → can_act past d ≡ true → is_live past d ≡ true
unfolding can_act
acts_live past d h = by (running_thread past d) (first_choice past d) refl refl h
  where
    by : (o : Option ℕ) (c : Option Act) → running_thread past d ≡ o → first_choice past d ≡ c → (is_some o || is_some c) ≡ true → is_live past d ≡ true
    by (Some t) c q w h = running_live past d t q
    by None (Some a) q w h = (choice_live past d a w).0
    by None None q w h = cc

-- and was made
pub acts_made : (past : Past) (d : ℕ) → can_act past d ≡ true → IsMade past d
acts_made past d h = live_made past d (acts_live past d h)

-- ---- whose turn it is

alive_acts : (past : Past) (d : ℕ) → first_alive past ≡ Some d → can_act past d ≡ true
unfolding first_alive up_to
alive_acts past d h = (found (can_act past) 1 (domains_made past) d h).0

above_acts : (past : Past) (a d : ℕ) → next_above past a ≡ Some d → can_act past d ≡ true
unfolding next_above up_to
above_acts past a d h = (both (nat_lt a d) (can_act past d) (found (λ k. nat_lt a k && can_act past k) 1 (domains_made past) d h).0).1

-- the domain that goes on can act
pub going_acts : (past : Past) → goes_on past ≡ true → can_act past (last_domain past) ≡ true
unfolding goes_on last_domain
going_acts [] h = cc
going_acts (e ∷ past) h = (both (not (e.domain.0 == 0) && not (is_yield e.act)) (can_act (e ∷ past) e.domain.0) h).1

-- whose turn it is where the last domain goes on
pub goes_next : (past : Past) → goes_on past ≡ true → next_domain past ≡ Some (last_domain past)
unfolding next_domain
goes_next past h = ap (λ (b : Bool). if b then Some (last_domain past) else option_or (next_above past (last_domain past)) (first_alive past)) h

-- and where it doesn't
pub waits_next : (past : Past) → goes_on past ≡ false → next_domain past ≡ option_or (next_above past (last_domain past)) (first_alive past)
unfolding next_domain
waits_next past h = ap (λ (b : Bool). if b then Some (last_domain past) else option_or (next_above past (last_domain past)) (first_alive past)) h

-- the domain whose turn it is can act
pub turn_acts : (past : Past) (d : ℕ) → next_domain past ≡ Some d → can_act past d ≡ true
turn_acts past d h = by (goes_on past) refl
  where
    or : (o p : Option ℕ) → next_above past (last_domain past) ≡ o → first_alive past ≡ p → option_or o p ≡ Some d → can_act past d ≡ true
    or (Some k) p q w h = let z : k ≡ d = cc in above_acts past (last_domain past) d (q ∙ ap (λ (k : ℕ). Some k) z)
    or None p q w h = alive_acts past d (w ∙ h)

    by : (b : Bool) → goes_on past ≡ b → can_act past d ≡ true
    by true q = let z : last_domain past ≡ d = cc (goes_next past q) in ap (can_act past) (sym z) ∙ going_acts past q
    by false q = or (next_above past (last_domain past)) (first_alive past) refl refl (sym (waits_next past q) ∙ h)

-- where it is nobody's, nobody can act
pub none_acts : (past : Past) → next_domain past ≡ None → first_alive past ≡ None
none_acts past h = by (goes_on past) refl
  where
    or : (o p : Option ℕ) → option_or o p ≡ None → p ≡ None
    or None p h = h
    or (Some k) p h = cc

    by : (b : Bool) → goes_on past ≡ b → first_alive past ≡ None
    by true q = cc (goes_next past q)
    by false q = or (next_above past (last_domain past)) (first_alive past) (sym (waits_next past q) ∙ h)

-- without domains it is nobody's
pub none_made : (past : Past) → domains_made past ≡ 0 → next_domain past ≡ None
none_made past h = by (next_domain past) refl
  where
    by : (o : Option ℕ) → next_domain past ≡ o → next_domain past ≡ None
    by None q = q
    by (Some d) q = let m = acts_made past d (turn_acts past d q) in absurd (omega (arith, h, m.low, m.high))

-- ---- what is picked

pub picks_halt : (s : System) (past : Past) → is_full s past ≡ true → pick s past ≡ record { domain = 0; act = act.Halt }
unfolding pick
picks_halt s past f = ap (λ (b : Bool). elim b as (λ _. Pick) [ true ↦ record { domain = 0; act = act.Halt } | false ↦ pick_with_room s past ]) f

picks_room : (s : System) (past : Past) → is_full s past ≡ false → pick s past ≡ pick_with_room s past
unfolding pick
picks_room s past f = ap (λ (b : Bool). elim b as (λ _. Pick) [ true ↦ record { domain = 0; act = act.Halt } | false ↦ pick_with_room s past ]) f

pub picks_boot : (s : System) (past : Past) (t : ℕ) → is_full s past ≡ false → next_boot s past ≡ Some t → pick s past ≡ record { domain = 0; act = act.Create t }
unfolding pick_with_room
picks_boot s past t f b =
    picks_room s past f
    ∙ ap (λ (o : Option ℕ). elim o as (λ _. Pick) [ Some t ↦ record { domain = 0; act = act.Create t } | None ↦ turn_of s past (next_domain past) ]) b

picks_turn : (s : System) (past : Past) → HasRoom s past → pick s past ≡ turn_of s past (next_domain past)
unfolding pick_with_room
picks_turn s past h =
    picks_room s past h.room
    ∙ ap (λ (o : Option ℕ). elim o as (λ _. Pick) [ Some t ↦ record { domain = 0; act = act.Create t } | None ↦ turn_of s past (next_domain past) ]) h.booted

pub picks_quiet : (s : System) (past : Past) → IsTurnOf s past None → pick s past ≡ record { domain = 0; act = act.Quiet }
unfolding turn_of
picks_quiet s past h = picks_turn s past h.free ∙ ap (turn_of s past) h.turn

-- the act of the domain whose turn it is
pub picks_act : (s : System) (past : Past) (d : ℕ) (a : Act) → IsTurnOf s past (Some d) → act_of_turn s past d ≡ Some a → pick s past ≡ record { domain = d; act = a }
unfolding turn_of
picks_act s past d a h q =
    picks_turn s past h.free
    ∙ ap (turn_of s past) h.turn
    ∙ ap (λ (o : Option Act). elim o as (λ _. Pick) [ None ↦ record { domain = 0; act = act.Quiet } | Some b ↦ record { domain = d; act = b } ]) q
