-- Which acts may come, and why others may not, by their cases.
use Rattle.std.proofs.Common.{◌≡◌, ◌≢◌, refl, sym, ◌∙◌, ap, ℕ, Bool, true, false, not, ◌&&◌, ◌||◌, Option, Some, None, is_some, is_none, if◌then◌else◌, ◌==◌, ◌⊎◌, inl, inr}
use Rattle.std.specs.Option.{option_map}
use Rattle.jx_base.specs.declared.act.Act.{Act}
use Rattle.jx_base.specs.declared.act.Act.TheVariants as act
use Rattle.jx_base.specs.declared.ids.CallId.{CallId}
use Rattle.jx_base.specs.declared.ids.ClassId.{ClassId}
use Rattle.jx_base.specs.declared.ids.DomainId.{DomainId}
use Rattle.jx_base.specs.declared.ids.ThreadId.{ThreadId}
use Rattle.jx_base.specs.declared.program.System.{System}
use Rattle.jx_base.specs.declared.value.Parcel.{Parcel}
use Rattle.jx_base.specs.declared.states.Why.{Why}
use Rattle.jx_base.specs.declared.states.Why.TheVariants as why
use Rattle.jx_base.specs.Basics.{is_number, passes}
use Rattle.jx_base.specs.Histories.{Past}
use Rattle.jx_model.specs.Domains.{is_live}
use Rattle.jx_model.specs.Journal.{is_full, words_of}
use Rattle.jx_model.specs.Permits.{acting_thread, choice_thread, domain_thread, domains_wait, first_alive, going_thread, is_choice, is_halt, is_over, is_yielded, is_zero_act, may_perform, next_boot, zero_may, zero_may_now}
use Rattle.jx_model.specs.Threads.{running_thread, thread_state}
use Rattle.jx_model.specs.WhyNot.{boot_or, why_if, why_not, why_not_asleep, why_not_domain, why_not_running, why_not_zero}
use Rattle.jx_base.proofs.BasicLaws.{ap2, ap3}
use Rattle.table_threads.proofs.Records.{is_that, not_that}

-- ---- domains in which no thread runs

-- a thread that has yielded may go on
pub goes : (past : Past) (d : ℕ) (t : ThreadId) → passes is_yielded (thread_state past d t.0) ≡ true → choice_thread past d (act.Go t) ≡ Some t.0
unfolding choice_thread going_thread
goes past d t h = ap (λ (b : Bool). if b then Some t.0 else None) h

-- another may not
pub stays : (past : Past) (d : ℕ) (t : ThreadId) → passes is_yielded (thread_state past d t.0) ≡ false → why_not_asleep past d (act.Go t) ≡ Some (why.NotYielded t)
unfolding why_not_asleep why_if going_thread
stays past d t h = ap (λ (b : Bool). why_if (is_none (if b then Some t.0 else None)) (why.NotYielded t)) h

-- nor may anything else come
pub asleep : (past : Past) (d : ℕ) (a : Act) → ((t : ThreadId) → a ≢ act.Go t) → ((c : CallId) → a ≢ act.Take c) → ((c : CallId) → a ≢ act.Resume c) → why_not_asleep past d a ≡ Some why.Asleep
unfolding why_not_asleep
asleep past d (act.Go t) n k r = absurd (n t refl)
asleep past d (act.Take c) n k r = absurd (k c refl)
asleep past d (act.Resume c) n k r = absurd (r c refl)
asleep past d _ n k r = refl

-- ---- domains in which one runs

-- a choice may not come
pub runs : (past : Past) (d : ℕ) (t : ThreadId) (a : Act) → is_choice a ≡ true → why_not_running past d t.0 a ≡ Some (why.Running t)
unfolding why_not_running
runs past d t a q = ap (λ (b : Bool). if b then Some (why.Running (record { 0 = t.0 })) else why_if (not (may_perform past d t.0 a)) (why.WrongThread (record { 0 = t.0 }))) q

-- what is no choice and may not be performed comes in the wrong thread
pub wrong_thread : (past : Past) (d : ℕ) (t : ThreadId) (a : Act) → is_choice a ≡ false → may_perform past d t.0 a ≡ false → why_not_running past d t.0 a ≡ Some (why.WrongThread t)
unfolding why_not_running why_if
wrong_thread past d t a q m = ap2 (λ (b m : Bool). if b then Some (why.Running (record { 0 = t.0 })) else if not m then Some (why.WrongThread (record { 0 = t.0 })) else None) q m

-- nor the end of a thread other than 0
pub ends_not : (past : Past) (d : ℕ) (t : ThreadId) (c : Option ClassId) → t.0 ≢ 0 → why_not_running past d t.0 (act.EndThread c) ≡ Some (why.WrongThread t)
unfolding why_not_running is_choice may_perform why_if
ends_not past d t c h = ap (λ (b : Bool). why_if (not b) (why.WrongThread t)) (not_that t.0 0 (λ q. h (sym q)))

-- thread 0 may end
pub ends : (past : Past) (d t : ℕ) (c : Option ClassId) → t ≡ 0 → may_perform past d t (act.EndThread c) ≡ true
unfolding may_perform
ends past d t c h = is_that t 0 h

-- all else may
pub performs : (past : Past) (d t : ℕ) (a : Act) → is_zero_act a ≡ false → ((k : ThreadId) → a ≢ act.Go k) → ((c : Option ClassId) → a ≢ act.EndThread c) → ((c : CallId) → a ≢ act.Take c) → ((c : CallId) → a ≢ act.Resume c) → ((c : CallId) (p : Parcel) → a ≢ act.Return c p) → ((c : CallId) (p : Parcel) → a ≢ act.Throw c p) →
    may_perform past d t a ≡ true
unfolding may_perform is_zero_act is_choice
performs past d t (act.Go k) z n e x r w y = absurd (n k refl)
performs past d t (act.EndThread c) z n e x r w y = absurd (e c refl)
performs past d t (act.Take c) z n e x r w y = absurd (x c refl)
performs past d t (act.Resume c) z n e x r w y = absurd (r c refl)
performs past d t (act.Return c p) z n e x r w y = absurd (w c p refl)
performs past d t (act.Throw c p) z n e x r w y = absurd (y c p refl)
performs past d t (act.Create template) z n e x r w y = cc
performs past d t act.Quiet z n e x r w y = cc
performs past d t act.Halt z n e x r w y = cc
performs past d t _ z n e x r w y = refl

-- ---- a domain

-- the running thread performs the act
pub running_performs : (past : Past) (d t : ℕ) (a : Act) → running_thread past d ≡ Some t → may_perform past d t a ≡ true → domain_thread past d a ≡ Some t
unfolding domain_thread
running_performs past d t a q h =
    ap (λ (o : Option ℕ). elim o as (λ _. Option ℕ) [ Some r ↦ if may_perform past d r a then Some r else None | None ↦ if is_live past d then choice_thread past d a else None ]) q
    ∙ ap (λ (b : Bool). if b then Some t else None) h

-- or may not
pub running_why : (past : Past) (d t : ℕ) (a : Act) (w : Why) → running_thread past d ≡ Some t → why_not_running past d t a ≡ Some w → why_not_domain past d a ≡ Some w
unfolding why_not_domain
running_why past d t a w q h = ap (λ (o : Option ℕ). elim o as (λ _. Option Why) [ None ↦ why_not_asleep past d a | Some r ↦ why_not_running past d r a ]) q ∙ h

-- a choice lets a thread run
pub choice_performs : (past : Past) (d t : ℕ) (a : Act) → running_thread past d ≡ None → is_live past d ≡ true → choice_thread past d a ≡ Some t → domain_thread past d a ≡ Some t
unfolding domain_thread
choice_performs past d t a q l h =
    ap2 (λ (o : Option ℕ) (b : Bool). elim o as (λ _. Option ℕ) [ Some r ↦ if may_perform past d r a then Some r else None | None ↦ if b then choice_thread past d a else None ]) q l ∙ h

-- or doesn't
pub asleep_why : (past : Past) (d : ℕ) (a : Act) (w : Why) → running_thread past d ≡ None → why_not_asleep past d a ≡ Some w → why_not_domain past d a ≡ Some w
unfolding why_not_domain
asleep_why past d a w q h = ap (λ (o : Option ℕ). elim o as (λ _. Option Why) [ None ↦ why_not_asleep past d a | Some r ↦ why_not_running past d r a ]) q ∙ h

-- ---- Domain Zero

-- a template other than the next
pub other_boot : (s : System) (past : Past) (t b : ℕ) → next_boot s past ≡ Some b → (b == t) ≡ false → why_not_zero s past (act.Create t) ≡ Some (why.Boot b)
unfolding why_not_zero why_if
other_boot s past t b q h =
    ap (λ (o : Option ℕ). elim o as (λ _. Option Why) [ None ↦ Some why.Extra | Some b ↦ why_if (not (b == t)) (why.Boot b) ]) q
    ∙ ap (λ (c : Bool). why_if (not c) (why.Boot b)) h

-- one too many
pub no_boot : (s : System) (past : Past) (t : ℕ) → next_boot s past ≡ None → why_not_zero s past (act.Create t) ≡ Some why.Extra
unfolding why_not_zero
no_boot s past t q = ap (λ (o : Option ℕ). elim o as (λ _. Option Why) [ None ↦ Some why.Extra | Some b ↦ why_if (not (b == t)) (why.Boot b) ]) q

-- a halt of a journal with room, at the start
pub early_halt : (s : System) (past : Past) (b : ℕ) → is_full s past ≡ false → next_boot s past ≡ Some b → why_not_zero s past act.Halt ≡ Some (why.Boot b)
unfolding why_not_zero boot_or
early_halt s past b f q = ap2 (λ (c : Bool) (o : Option ℕ). if c then None else boot_or o (Some (why.NotFull (words_of past)))) f q

-- and later
pub needless_halt : (s : System) (past : Past) → is_full s past ≡ false → next_boot s past ≡ None → why_not_zero s past act.Halt ≡ Some (why.NotFull (words_of past))
unfolding why_not_zero boot_or
needless_halt s past f q = ap2 (λ (c : Bool) (o : Option ℕ). if c then None else boot_or o (Some (why.NotFull (words_of past)))) f q

-- a quiet at the start
pub early_quiet : (s : System) (past : Past) (b : ℕ) → next_boot s past ≡ Some b → why_not_zero s past act.Quiet ≡ Some (why.Boot b)
unfolding why_not_zero boot_or
early_quiet s past b q = ap (λ (o : Option ℕ). boot_or o (option_map (λ d. why.Alive (record { 0 = d })) (first_alive past))) q

-- one while a domain can act
pub lively_quiet : (s : System) (past : Past) (d : DomainId) → next_boot s past ≡ None → first_alive past ≡ Some d.0 → why_not_zero s past act.Quiet ≡ Some (why.Alive d)
unfolding why_not_zero boot_or
lively_quiet s past d q a = ap2 (λ (o p : Option ℕ). boot_or o (option_map (λ d. why.Alive (record { 0 = d })) p)) q a

-- and one that may come
pub quiet_may : (s : System) (past : Past) → next_boot s past ≡ None → first_alive past ≡ None → zero_may s past act.Quiet ≡ true
unfolding zero_may
quiet_may s past q a = ap2 (λ (o p : Option ℕ). is_none o && is_none p) q a

-- what Domain Zero may never do
pub not_zeros : (s : System) (past : Past) (a : Act) → is_zero_act a ≡ false → why_not_zero s past a ≡ Some why.WrongActor
unfolding why_not_zero is_zero_act
not_zeros s past (act.Create t) h = cc
not_zeros s past act.Quiet h = cc
not_zeros s past act.Halt h = cc
not_zeros s past _ h = refl

-- a create may come in a journal with room
pub create_may : (s : System) (past : Past) (t : ℕ) → (is_full s past ≡ false) ⊎ (is_halt (act.Create t) ≡ true) → next_boot s past ≡ Some t → zero_may_now s past (act.Create t) ≡ true
unfolding zero_may_now zero_may is_number is_halt
create_may s past t (inl f) q = ap2 (λ (b : Bool) (o : Option ℕ). if b then false else is_number o t) f q ∙ is_that t t refl
create_may s past t (inr k) q = cc

-- so may a quiet
pub quiet_may_now : (s : System) (past : Past) → (is_full s past ≡ false) ⊎ (is_halt act.Quiet ≡ true) → zero_may s past act.Quiet ≡ true → zero_may_now s past act.Quiet ≡ true
unfolding zero_may_now is_halt
quiet_may_now s past (inl f) q = ap2 (λ (b m : Bool). if b then false else m) f q
quiet_may_now s past (inr k) q = cc

-- a halt may come in a full one
pub halt_may : (s : System) (past : Past) → is_full s past ≡ true → zero_may_now s past act.Halt ≡ true
unfolding zero_may_now is_halt
halt_may s past f = ap (λ (b : Bool). if b then true else zero_may s past act.Halt) f

-- ---- any act

-- Domain Zero's
pub zero_acts : (s : System) (past : Past) (d : ℕ) (a : Act) → is_over past ≡ false → d ≡ 0 → zero_may_now s past a ≡ true → acting_thread s past d a ≡ Some 0
unfolding acting_thread
zero_acts s past d a o z h =
    ap3 (λ (x y m : Bool). if x then None else if y then (if m then Some 0 else None) else if domains_wait s past then None else domain_thread past d a) o (is_that d 0 z) h

pub zero_why : (s : System) (past : Past) (d : ℕ) (a : Act) (w : Why) → d ≡ 0 → why_not_zero s past a ≡ Some w → why_not s past d a ≡ Some w
unfolding why_not
zero_why s past d a w z h =
    ap (λ (b : Bool). if b then why_not_zero s past a else if is_zero_act a then Some why.WrongActor else boot_or (next_boot s past) (why_not_domain past d a)) (is_that d 0 z) ∙ h

-- a domain's
pub domain_acts : (s : System) (past : Past) (d t : ℕ) (a : Act) → is_over past ≡ false → d ≢ 0 → is_full s past ≡ false → next_boot s past ≡ None → domain_thread past d a ≡ Some t → acting_thread s past d a ≡ Some t
unfolding acting_thread domains_wait
domain_acts s past d t a o z f b h =
    ap3 (λ (x y w : Bool). if x then None else if y then (if zero_may_now s past a then Some 0 else None) else if w then None else domain_thread past d a) o (not_that d 0 (λ q. z (sym q)))
    (ap2 (λ (x : Bool) (o : Option ℕ). x || is_some o) f b)
    ∙ h

pub domain_why : (s : System) (past : Past) (d : ℕ) (a : Act) (w : Why) → d ≢ 0 → is_zero_act a ≡ false → boot_or (next_boot s past) (why_not_domain past d a) ≡ Some w → why_not s past d a ≡ Some w
unfolding why_not
domain_why s past d a w z k h =
    ap2 (λ (x y : Bool). if x then why_not_zero s past a else if y then Some why.WrongActor else boot_or (next_boot s past) (why_not_domain past d a)) (not_that d 0 (λ q. z (sym q))) k ∙ h

-- one of Domain Zero's acts by another
pub wrong_actor : (s : System) (past : Past) (d : ℕ) (a : Act) → d ≢ 0 → is_zero_act a ≡ true → why_not s past d a ≡ Some why.WrongActor
unfolding why_not
wrong_actor s past d a z k =
    ap2 (λ (x y : Bool). if x then why_not_zero s past a else if y then Some why.WrongActor else boot_or (next_boot s past) (why_not_domain past d a)) (not_that d 0 (λ q. z (sym q))) k

-- only creates, quiet and halt are Domain Zero's
pub no_zero_act : (a : Act) → ((t : ℕ) → a ≢ act.Create t) → a ≢ act.Quiet → a ≢ act.Halt → is_zero_act a ≡ false
unfolding is_zero_act
no_zero_act (act.Create t) c q h = absurd (c t refl)
no_zero_act act.Quiet c q h = absurd (q refl)
no_zero_act act.Halt c q h = absurd (h refl)
no_zero_act _ c q h = refl

-- an act that isn't Domain Zero's is asked of a journal with room
pub full_waits : (s : System) (past : Past) (a : Act) → is_zero_act a ≡ false → (is_full s past ≡ false) ⊎ (is_halt a ≡ true) → is_full s past ≡ false
unfolding is_zero_act is_halt
full_waits s past a z (inl f) = f
full_waits s past a z (inr k) = halt a z k
  where
    halt : (a : Act) → is_zero_act a ≡ false → is_halt a ≡ true → is_full s past ≡ false
    halt act.Halt z k = cc
    halt _ z k = cc
