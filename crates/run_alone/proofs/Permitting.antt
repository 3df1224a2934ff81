-- What one worker picks is permitted.
use Rattle.std.proofs.Common.{◌≡◌, refl, sym, ◌∙◌, ap, subst, ℕ, ◌≤◌, Bool, true, false, ◌&&◌, ◌||◌, Option, Some, None, is_some, is_none, arith, if◌then◌else◌, ◌⊎◌, inl, inr}
use Rattle.std.specs.Prelude.{IsSome}
use Rattle.std.specs.Option.{option_and_then, option_or}
use Rattle.jx_base.specs.declared.act.Act.{Act}
use Rattle.jx_base.specs.declared.act.Act.TheVariants as act
use Rattle.jx_base.specs.declared.program.System.{System}
use Rattle.jx_base.specs.Basics.{is_number}
use Rattle.jx_base.specs.Histories.{Past, own_entries}
use Rattle.jx_base.proofs.BasicLaws.{ap2, ap3}
use Rattle.program_model.specs.Lookup.{template_at}
use Rattle.machine_model.specs.Machine.{Does, Idle, NextAct, act_in, domain_state, next_act}
use Rattle.machine_model.specs.Running.{Ask, Step, StepOutcome, state_at_act, step}
use Rattle.machine_model.specs.State.{State}
use Rattle.machine_laws.proofs.Standing.{standing}
use Rattle.jx_base.specs.declared.act.Reason.TheVariants as reason
use Rattle.jx_model.specs.Domains.{is_live, template_of}
use Rattle.jx_model.specs.Journal.{is_full}
use Rattle.jx_model.specs.Legal.{FollowsCode, IsAdmittedPast, IsFrom}
use Rattle.jx_model.specs.Permits.{acting_thread, can_act, choice_thread, domain_thread, domains_wait, first_choice, is_choice, is_halt, is_over, is_zero_act, may_perform, next_boot, zero_may, zero_may_now}
use Rattle.jx_model.specs.SingleWorker.{act_of_turn, code_act, performed}
use Rattle.jx_model.specs.Threads.{running_thread}
use Rattle.table_threads.proofs.Records.{is_that, not_that}
use Rattle.thread_laws.proofs.Agreement.{agreement_stands}
use Rattle.thread_laws.proofs.PermittedActs.{code_may_perform}
use Rattle.machine_laws.proofs.CodeActs.{not_zeros}
use Rattle.run_alone.proofs.FirstChoices.{IsChosen, first_is_chosen}
use Rattle.run_alone.proofs.Picking.{acts_live, none_acts}
use Rattle.machine_laws.proofs.StepActs.{DoesOfCode, next_of}
use Rattle.run_alone.specs.Workers.{HasRoom, IsTurnOf}

-- ---- Domain Zero

pub zero_acts : (s : System) (past : Past) (a : Act) → is_over past ≡ false → zero_may_now s past a ≡ true → acting_thread s past 0 a ≡ Some 0
unfolding acting_thread
zero_acts s past a o h =
    ap3 (λ (x y m : Bool). if x then None else if y then (if m then Some 0 else None) else if domains_wait s past then None else domain_thread past 0 a) o (is_that 0 0 refl) h

pub halt_may : (s : System) (past : Past) → is_full s past ≡ true → zero_may_now s past act.Halt ≡ true
unfolding zero_may_now is_halt
halt_may s past f = ap (λ (b : Bool). if b then true else zero_may s past act.Halt) f

pub create_may : (s : System) (past : Past) (t : ℕ) → is_full s past ≡ false → next_boot s past ≡ Some t → zero_may_now s past (act.Create t) ≡ true
unfolding zero_may_now zero_may is_number is_halt
create_may s past t f q = ap2 (λ (b : Bool) (o : Option ℕ). if b then false else is_number o t) f q ∙ is_that t t refl

pub quiet_may : (s : System) (past : Past) → IsTurnOf s past None → zero_may_now s past act.Quiet ≡ true
unfolding zero_may_now zero_may is_halt
quiet_may s past h =
    ap3 (λ (b : Bool) (o p : Option ℕ). if b then false else is_none o && is_none p) h.free.room h.free.booted (none_acts past h.turn)

-- ---- a domain's threads

running_acts : (past : Past) (d t : ℕ) (a : Act) → running_thread past d ≡ Some t → may_perform past d t a ≡ true → domain_thread past d a ≡ Some t
unfolding domain_thread
running_acts past d t a q h =
    ap (λ (o : Option ℕ). elim o as (λ _. Option ℕ) [ Some r ↦ if may_perform past d r a then Some r else None | None ↦ if is_live past d then choice_thread past d a else None ]) q
    ∙ ap (λ (b : Bool). if b then Some t else None) h

choice_acts : (past : Past) (d t : ℕ) (a : Act) → running_thread past d ≡ None → is_live past d ≡ true → choice_thread past d a ≡ Some t → domain_thread past d a ≡ Some t
unfolding domain_thread
choice_acts past d t a q l h =
    ap2 (λ (o : Option ℕ) (b : Bool). elim o as (λ _. Option ℕ) [ Some r ↦ if may_perform past d r a then Some r else None | None ↦ if b then choice_thread past d a else None ]) q l ∙ h

domain_acts : (s : System) (past : Past) (d t : ℕ) (a : Act) → is_over past ≡ false → 1 ≤ d → HasRoom s past → domain_thread past d a ≡ Some t → acting_thread s past d a ≡ Some t
unfolding acting_thread domains_wait
domain_acts s past d t a o m f h =
    ap3 (λ (x y w : Bool). if x then None else if y then (if zero_may_now s past a then Some 0 else None) else if w then None else domain_thread past d a) o (not_that d 0 (λ q. omega (arith, q, m)))
    (ap2 (λ (x : Bool) (o : Option ℕ). x || is_some o) f.room f.booted)
    ∙ h

-- ---- the code of a domain

-- a domain of a template that was made in an admitted past, and whose entries follow the template's code
pub record HasCode (s : System) (past : Past) (d t : ℕ) : Type 0 where
  pub admitted : IsAdmittedPast s past
  pub made : 1 ≤ d
  pub template : template_of s past d ≡ Some t
  pub there : IsSome (template_at s t)
  pub follows : FollowsCode s t (own_entries past d)

module _ (s : System) (past : Past) (d t : ℕ) (z : HasCode s past d t) (live : is_live past d ≡ true) where
  -- the state at the code's next act
  abbrev here : State
  here = state_at_act s (domain_state s t (own_entries past d))

  agrees : here.running ≡ running_thread past d
  agrees =
      let g = standing s t (own_entries past d) in
      (agreement_stands s past z.admitted d t here z.made z.there z.follows (g.settled (domain_state s t (own_entries past d)) g.first)).running live

  -- while no thread runs, it does nothing
  pub idles : running_thread past d ≡ None → next_act s t (own_entries past d) ≡ Idle
  unfolding next_act act_in
  idles q = ap (λ (o : Option ℕ). elim o as (λ _. NextAct) [
    | None ↦ Idle
    | Some k ↦ elim (step s here k) as (λ _. NextAct) [ Ask a ↦ Does a | Step new ↦ Does (act.End reason.Fuel) ]
  ]) (agrees ∙ q)

  -- while one runs, it performs an act
  pub works : (k : ℕ) → running_thread past d ≡ Some k → (a : Act) × (next_act s t (own_entries past d) ≡ Does a)
  unfolding next_act act_in
  works k q = by (step s here k) refl
    where
      first : next_act s t (own_entries past d) ≡ (elim (step s here k) as (λ _. NextAct) [ Ask a ↦ Does a | Step new ↦ Does (act.End reason.Fuel) ])
      first = ap (λ (o : Option ℕ). elim o as (λ _. NextAct) [
        | None ↦ Idle
        | Some k ↦ elim (step s here k) as (λ _. NextAct) [ Ask a ↦ Does a | Step new ↦ Does (act.End reason.Fuel) ]
      ]) (agrees ∙ q)

      by : (o : StepOutcome) → step s here k ≡ o → (a : Act) × (next_act s t (own_entries past d) ≡ Does a)
      by (Ask a) w = (a, first ∙ ap (λ (o : StepOutcome). elim o as (λ _. NextAct) [ Ask a ↦ Does a | Step new ↦ Does (act.End reason.Fuel) ]) w)
      by (Step new) w = (act.End reason.Fuel, first ∙ ap (λ (o : StepOutcome). elim o as (λ _. NextAct) [ Ask a ↦ Does a | Step new ↦ Does (act.End reason.Fuel) ]) w)

-- ---- the act of a turn

module _ (s : System) (past : Past) (d t : ℕ) (q : template_of s past d ≡ Some t) where
  turn_code : act_of_turn s past d ≡ option_or (performed (next_act s t (own_entries past d))) (first_choice past d)
  unfolding act_of_turn code_act
  turn_code = ap (λ (o : Option ℕ). option_or (option_and_then (λ (t : ℕ). performed (next_act s t (own_entries past d))) o) (first_choice past d)) q

  -- where the code performs an act, that one
  pub turn_does : (a : Act) → next_act s t (own_entries past d) ≡ Does a → act_of_turn s past d ≡ Some a
  unfolding performed
  turn_does a w = turn_code ∙ ap (λ (n : NextAct). option_or (performed n) (first_choice past d)) w

  -- else the first choice
  pub turn_idles : next_act s t (own_entries past d) ≡ Idle → act_of_turn s past d ≡ first_choice past d
  unfolding performed
  turn_idles w = turn_code ∙ ap (λ (n : NextAct). option_or (performed n) (first_choice past d)) w

runs_or_not : (o : Option ℕ) → (o ≡ None) ⊎ ((k : ℕ) × (o ≡ Some k))
runs_or_not None = inl refl
runs_or_not (Some k) = inr (k, refl)

-- a domain that can act and whose code does nothing has a choice
pub has_choice : {A : Type 0} (s : System) (past : Past) (d t : ℕ) → HasCode s past d t → can_act past d ≡ true → next_act s t (own_entries past d) ≡ Idle → first_choice past d ≡ None → A
unfolding can_act
has_choice {A} s past d t z h w n = elim (runs_or_not (running_thread past d)) [
  | inl q ↦ none (running_thread past d) (first_choice past d) q n h
  | inr x ↦ let y = works s past d t z (acts_live past d h) x.0 x.1 in let e : Does y.0 ≡ Idle = sym y.1 ∙ w in cc
]
  where
    none : (o : Option ℕ) (c : Option Act) → o ≡ None → c ≡ None → (is_some o || is_some c) ≡ true → A
    none None None p q h = cc
    none (Some k) c p q h = cc
    none None (Some a) p q h = cc

module _ (s : System) (past : Past) (d t : ℕ) (a : Act) (z : HasCode s past d t) (able : can_act past d ≡ true) (act : act_of_turn s past d ≡ Some a) where
  -- the act of a turn is the code's, and a thread runs, or a choice while none runs
  cases : ((k : ℕ) × (running_thread past d ≡ Some k) × (next_act s t (own_entries past d) ≡ Does a)) ⊎ ((running_thread past d ≡ None) × (next_act s t (own_entries past d) ≡ Idle) × IsChosen past d a)
  cases = elim (runs_or_not (running_thread past d)) [
    | inl q ↦ let w = idles s past d t z (acts_live past d able) q in inr (q, w, first_is_chosen s past d a z.admitted (sym (turn_idles s past d t z.template w) ∙ act))
    | inr x ↦
        let y = works s past d t z (acts_live past d able) x.0 x.1 in
        let e : y.0 ≡ a = cc (turn_does s past d t z.template y.0 y.1) in inl (x.0, x.1, y.1 ∙ ap Does e)
  ]

  -- it is the code's, or a choice where that does nothing
  pub turn_from : IsFrom (next_act s t (own_entries past d)) a
  turn_from = elim cases [
    | inl x ↦ subst (λ (n : NextAct). IsFrom n a) (sym x.2) refl
    | inr x ↦ subst (λ (n : NextAct). IsFrom n a) (sym x.1) x.2.choice
  ]

  -- it is permitted
  pub turn_permitted : is_over past ≡ false → HasRoom s past → (r : ℕ) × (acting_thread s past d a ≡ Some r)
  turn_permitted o f = elim cases [
    | inl x ↦ (
      x.0,
      domain_acts s past d x.0 a o z.made f (running_acts past d x.0 a x.1 (code_may_perform s past z.admitted d t x.0 a z.made z.there z.follows x.1 x.2)),
    )
    | inr x ↦ (x.2.thread, domain_acts s past d x.2.thread a o z.made f (choice_acts past d x.2.thread a x.0 (acts_live past d able) x.2.lets))
  ]

-- a choice is none of Domain Zero's acts
choice_not_zeros : (a : Act) → is_choice a ≡ true → is_zero_act a ≡ false
unfolding is_choice is_zero_act
choice_not_zeros (act.Create t) h = cc
choice_not_zeros act.Quiet h = cc
choice_not_zeros act.Halt h = cc
choice_not_zeros _ h = refl

-- an act of a turn is none of Domain Zero's
pub turn_not_zeros : (s : System) (past : Past) (d t : ℕ) (a : Act) → HasCode s past d t → can_act past d ≡ true → act_of_turn s past d ≡ Some a → is_zero_act a ≡ false
turn_not_zeros s past d t a z able act = elim (cases s past d t a z able act) [
  | inl x ↦ not_zeros a (subst DoesOfCode x.2 (next_of s t (own_entries past d)))
  | inr x ↦ choice_not_zeros a x.2.choice
]
