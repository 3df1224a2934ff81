-- A choice is of the thread that it lets run.
use Rattle.std.proofs.Common.{◌≡◌, ℕ, Bool, true, false, Some, None, if◌then◌else◌, refl, sym, ◌∙◌, inl, inr}
use Rattle.jx_base.specs.declared.act.Act.{Act}
use Rattle.jx_base.specs.declared.act.Act.TheVariants as act
use Rattle.jx_base.specs.declared.ids.ThreadId.{ThreadId}
use Rattle.jx_base.specs.declared.program.System.{System}
use Rattle.jx_base.specs.Basics.{passes}
use Rattle.jx_base.specs.Histories.{Past}
use Rattle.jx_model.specs.Journal.{is_full}
use Rattle.jx_model.specs.Threads.{thread_state}
use Rattle.jx_model.specs.Permits.{acting_thread, zero_may_now, zero_may, is_halt, may_perform, choice_thread, going_thread, is_yielded, is_zero_act, is_choice}
use Rattle.jx_model.proofs.Acting.{acting_cases, domain_cases}

-- ---- choices

-- whether the act is a choice of a thread: no act of Domain Zero, and none of a thread that runs
unfoldable is_thread_choice : Act → Bool
is_thread_choice (act.Resume c) = true
is_thread_choice (act.Go t) = true
is_thread_choice _ = false

-- a test that fails in both cases fails
fails : (b : Bool) → (if b then false else false) ≡ false
fails true = refl
fails false = refl

-- Domain Zero performs no choice
zero_never : (s : System) (past : Past) (a : Act) → is_thread_choice a ≡ true → zero_may_now s past a ≡ false
unfolding is_thread_choice zero_may_now zero_may is_halt
zero_never s past (act.Resume c) h = fails (is_full s past)
zero_never s past (act.Go t) h = fails (is_full s past)
zero_never s past _ h = cc

-- nor does a thread that runs
running_never : (past : Past) (d k : ℕ) (a : Act) → is_thread_choice a ≡ true → may_perform past d k a ≡ false
unfolding is_thread_choice may_perform is_zero_act is_choice
running_never past d k (act.Resume c) h = refl
running_never past d k (act.Go t) h = refl
running_never past d k _ h = cc

-- a choice that is permitted is of the thread that it lets run
choice_of : (s : System) (past : Past) (d k : ℕ) (a : Act) → is_thread_choice a ≡ true → acting_thread s past d a ≡ Some k → choice_thread past d a ≡ Some k
choice_of s past d k a is h = elim (acting_cases s past d k a h) [
  | inl z ↦ let q : false ≡ true = sym (zero_never s past a is) ∙ z.2 in cc
  | inr x ↦ elim (domain_cases past d k a x.1) [
    | inl y ↦ let q : false ≡ true = sym (running_never past d k a is) ∙ y.1 in cc
    | inr y ↦ y.2
  ]
]

-- a go that is permitted is of the thread that it lets run
pub go_thread : (s : System) (past : Past) (d k : ℕ) (t : ThreadId) → acting_thread s past d (act.Go t) ≡ Some k → t.0 ≡ k
unfolding is_thread_choice choice_thread going_thread
go_thread s past d k t h = by (passes is_yielded (thread_state past d t.0)) (choice_of s past d k (act.Go t) refl h)
  where
    by : (b : Bool) → (if b then Some t.0 else None) ≡ Some k → t.0 ≡ k
    by true h = cc
    by false h = cc
