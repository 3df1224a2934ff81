-- An act is permitted exactly where no reason against it is given.
use Rattle.std.proofs.Common.{◌≡◌, refl, ◌∙◌, ap, ℕ, Bool, true, false, not, ◌&&◌, ◌||◌, Option, Some, None, is_some, is_none, ◌⊎◌, inl, inr, ◌==◌, if◌then◌else◌}
use Rattle.jx_base.specs.declared.act.Act.{Act}
use Rattle.jx_base.specs.declared.act.Act.TheVariants as act
use Rattle.jx_base.specs.declared.program.System.{System}
use Rattle.jx_base.specs.declared.states.Why.{Why}
use Rattle.jx_base.specs.declared.states.Why.TheVariants as why
use Rattle.jx_base.specs.Basics.{is_number}
use Rattle.jx_base.specs.Histories.{Past}
use Rattle.jx_model.specs.Journal.{is_full, words_of}
use Rattle.jx_model.specs.Domains.{is_live}
use Rattle.jx_model.specs.Threads.{running_thread}
use Rattle.jx_model.specs.Calls.{service_of_call}
use Rattle.jx_model.specs.Permits.{acting_thread, is_halt, is_zero_act, is_choice, next_boot, first_alive, is_head, idle_thread, taking_thread, resuming_thread, going_thread, choice_thread, may_perform, domain_thread, zero_may, zero_may_now, domains_wait}
use Rattle.jx_model.specs.WhyNot.{CanBeAsked, IsExplained, why_if, why_not_take, why_not_asleep, why_not_running, why_not_domain, boot_or, why_not_zero, why_not}
use Rattle.std.specs.Option.{option_and_then, option_map}

if_none : (b : Bool) (w : Why) → is_none (why_if b w) ≡ not b
unfolding why_if
if_none true w = refl
if_none false w = refl

absent : (o : Option ℕ) → not (is_none o) ≡ is_some o
absent None = refl
absent (Some x) = refl

-- what an option shows behind why_if
given : (o : Option ℕ) (w : Why) → is_some o ≡ is_none (why_if (is_none o) w)
unfolding why_if
given None w = refl
given (Some x) w = refl

-- ---- a domain without a running thread

take_given : (b : Bool) (o : Option ℕ) (w v : Why) → is_some (if b then o else None) ≡ is_none (if b then why_if (is_none (if b then o else None)) w else Some v)
unfolding why_if
take_given true None w v = refl
take_given true (Some t) w v = refl
take_given false o w v = refl

asleep_given : (past : Past) (d : ℕ) (a : Act) → is_some (choice_thread past d a) ≡ is_none (why_not_asleep past d a)
unfolding choice_thread taking_thread why_not_asleep why_not_take
asleep_given past d (act.Take c) = take_given (is_head past d c.0) (option_and_then (idle_thread past d) (service_of_call past c.0)) _ _
asleep_given past d (act.Resume c) = given (resuming_thread past d c.0) _
asleep_given past d (act.Go t) = given (going_thread past d t.0) _
asleep_given past d _ = refl

-- ---- a domain with a running thread

choices_wait : (past : Past) (d t : ℕ) (a : Act) → is_choice a ≡ true → may_perform past d t a ≡ false
unfolding is_choice may_perform is_zero_act
choices_wait past d t (act.Take c) h = refl
choices_wait past d t (act.Resume c) h = refl
choices_wait past d t (act.Go k) h = refl
choices_wait past d t _ h = cc

running_given : (past : Past) (d t : ℕ) (a : Act) → is_some (if may_perform past d t a then Some t else None) ≡ is_none (why_not_running past d t a)
unfolding why_not_running why_if
running_given past d t a = by (is_choice a) (may_perform past d t a) refl refl
  where
    by : (c m : Bool) → is_choice a ≡ c → may_perform past d t a ≡ m →
        is_some (if m then Some t else None) ≡ is_none (if c then Some (why.Running (record { 0 = t })) else if not m then Some (why.WrongThread (record { 0 = t })) else None)
    by true true p q = cc (choices_wait past d t a p, q)
    by true false p q = refl
    by false true p q = refl
    by false false p q = refl

-- Domain Zero's acts are no other domain's
zero_acts_wait : (past : Past) (d : ℕ) (a : Act) → is_zero_act a ≡ true → domain_thread past d a ≡ None
unfolding is_zero_act domain_thread may_perform choice_thread is_choice
zero_acts_wait past d (act.Create t) h = by (running_thread past d) (is_live past d)
  where
    by : (o : Option ℕ) (l : Bool) → (elim o as (λ _. Option ℕ) [ Some r ↦ None | None ↦ if l then None else None ]) ≡ None
    by (Some r) l = refl
    by None true = refl
    by None false = refl
zero_acts_wait past d act.Quiet h = by (running_thread past d) (is_live past d)
  where
    by : (o : Option ℕ) (l : Bool) → (elim o as (λ _. Option ℕ) [ Some r ↦ None | None ↦ if l then None else None ]) ≡ None
    by (Some r) l = refl
    by None true = refl
    by None false = refl
zero_acts_wait past d act.Halt h = by (running_thread past d) (is_live past d)
  where
    by : (o : Option ℕ) (l : Bool) → (elim o as (λ _. Option ℕ) [ Some r ↦ None | None ↦ if l then None else None ]) ≡ None
    by (Some r) l = refl
    by None true = refl
    by None false = refl
zero_acts_wait past d _ h = cc

domain_given : (past : Past) (d : ℕ) (a : Act) → is_live past d ≡ true → is_some (domain_thread past d a) ≡ is_none (why_not_domain past d a)
unfolding domain_thread why_not_domain
domain_given past d a l = by (running_thread past d)
  where
    by : (o : Option ℕ) →
        is_some (elim o as (λ _. Option ℕ) [ Some t ↦ if may_perform past d t a then Some t else None | None ↦ if is_live past d then choice_thread past d a else None ])
        ≡ is_none (elim o as (λ _. Option Why) [ None ↦ why_not_asleep past d a | Some t ↦ why_not_running past d t a ])
    by (Some t) = running_given past d t a
    by None = ap (λ (b : Bool). is_some (if b then choice_thread past d a else None)) l ∙ asleep_given past d a

-- ---- Domain Zero

abbrev zero_if : Bool → Option ℕ
zero_if b = if b then Some 0 else None

create_given : (o : Option ℕ) (t : ℕ) → is_some (zero_if (is_number o t)) ≡ is_none (elim o as (λ _. Option Why) [ None ↦ Some why.Extra | Some b ↦ why_if (not (b == t)) (why.Boot b) ])
unfolding is_number why_if
create_given None t = refl
create_given (Some b) t = by (b == t)
  where
    by : (x : Bool) → is_some (zero_if x) ≡ is_none (if not x then Some (why.Boot b) else None)
    by true = refl
    by false = refl

quiet_given : (o p : Option ℕ) → is_some (zero_if (is_none o && is_none p)) ≡ is_none (boot_or o (option_map (λ d. why.Alive (record { 0 = d })) p))
unfolding boot_or
quiet_given None None = refl
quiet_given None (Some d) = refl
quiet_given (Some b) p = refl

halt_given : (f : Bool) (o : Option ℕ) (n : ℕ) → is_some (zero_if (if f then true else false)) ≡ is_none (if f then None else boot_or o (Some (why.NotFull n)))
unfolding boot_or
halt_given true o n = refl
halt_given false None n = refl
halt_given false (Some b) n = refl

zero_given : (s : System) (past : Past) (a : Act) → (is_full s past ≡ false) ⊎ (is_halt a ≡ true) → is_some (zero_if (zero_may_now s past a)) ≡ is_none (why_not_zero s past a)
unfolding zero_may_now zero_may is_halt why_not_zero
zero_given s past (act.Create t) (inl h) = ap (λ (f : Bool). is_some (zero_if (if f then false else is_number (next_boot s past) t))) h ∙ create_given (next_boot s past) t
zero_given s past act.Quiet (inl h) =
    ap (λ (f : Bool). is_some (zero_if (if f then false else is_none (next_boot s past) && is_none (first_alive past)))) h ∙ quiet_given (next_boot s past) (first_alive past)
zero_given s past act.Halt h = halt_given (is_full s past) (next_boot s past) (words_of past)
zero_given s past (act.Create t) (inr h) = cc
zero_given s past act.Quiet (inr h) = cc
zero_given s past _ h = by (is_full s past)
  where
    by : (f : Bool) → is_some (zero_if (if f then false else false)) ≡ false
    by true = refl
    by false = refl

-- ---- all acts

halt_is_zero : (a : Act) → is_halt a ≡ true → is_zero_act a ≡ true
unfolding is_halt is_zero_act
halt_is_zero act.Halt h = refl
halt_is_zero _ h = cc

-- an act is permitted exactly where no reason against it is given
pub reasons_given : (s : System) (past : Past) (d : ℕ) (a : Act) → CanBeAsked s past d a → IsExplained s past d a
unfolding acting_thread why_not domains_wait boot_or
reasons_given s past d a c = ap (λ (o : Bool). is_some (if o then None else rest)) c.going ∙ by (d == 0) refl
  where
    rest : Option ℕ
    rest = if d == 0 then zero_if (zero_may_now s past a) else if is_full s past || is_some (next_boot s past) then None else domain_thread past d a

    lives : (d == 0) ≡ false → is_live past d ≡ true
    lives q = elim c.actor [ inl z ↦ cc (ap (λ (n : ℕ). n == 0) z, q) | inr l ↦ l ]

    roomy : is_zero_act a ≡ false → is_full s past ≡ false
    roomy q = elim c.room [ inl r ↦ r | inr h ↦ cc (halt_is_zero a h, q) ]

    booted : (o : Option ℕ) (f : Bool) → f ≡ false → is_live past d ≡ true →
        is_some (if f || is_some o then None else domain_thread past d a) ≡ is_none (boot_or o (why_not_domain past d a))
    booted o true r l = cc
    booted None false r l = domain_given past d a l
    booted (Some b) false r l = refl

    idle : (w : Bool) (o : Option ℕ) → o ≡ None → is_some (if w then None else o) ≡ false
    idle true o q = refl
    idle false o q = ap is_some q

    domain : (z : Bool) → is_zero_act a ≡ z → is_live past d ≡ true →
        is_some (if is_full s past || is_some (next_boot s past) then None else domain_thread past d a)
        ≡ is_none (if z then Some why.WrongActor else boot_or (next_boot s past) (why_not_domain past d a))
    domain true q l = idle (is_full s past || is_some (next_boot s past)) (domain_thread past d a) (zero_acts_wait past d a q)
    domain false q l = booted (next_boot s past) (is_full s past) (roomy q) l

    by : (b : Bool) → (d == 0) ≡ b →
        is_some (if b then zero_if (zero_may_now s past a) else if is_full s past || is_some (next_boot s past) then None else domain_thread past d a)
        ≡ is_none (if b then why_not_zero s past a else if is_zero_act a then Some why.WrongActor else boot_or (next_boot s past) (why_not_domain past d a))
    by true q = zero_given s past a c.room
    by false q = domain (is_zero_act a) refl (lives q)
