-- The calls that the threads of a domain serve have numbers of 32 bits.
use Rattle.std.proofs.Common.{◌≡◌, refl, sym, subst, ℕ, List, [], ◌∷◌, replicate, Option, Some, None}
use Rattle.std.specs.Prelude.{IfSome}
use Rattle.std.specs.List.{AllByRecursion}
use Rattle.jx_base.specs.declared.act.Act.{Act}
use Rattle.jx_base.specs.declared.act.Act.TheVariants as act
use Rattle.jx_base.specs.declared.act.Entry.{Entry}
use Rattle.jx_base.specs.declared.act.Reply.{Reply}
use Rattle.jx_base.specs.declared.act.Reply.TheVariants as reply
use Rattle.jx_base.specs.declared.ids.CallId.{CallId}
use Rattle.jx_base.specs.declared.program.System.{System}
use Rattle.jx_base.specs.declared.program.Template.{Template}
use Rattle.program_model.specs.Ranges.{IsId}
use Rattle.machine_model.specs.AfterEntry.{after_act, after_entry}
use Rattle.machine_model.specs.MachineThreads.{thread_at}
use Rattle.machine_model.specs.Running.{Ask, Step, StepOutcome, state_at_act, step}
use Rattle.machine_model.specs.Start.{start_of}
use Rattle.machine_model.specs.State.{State, Thread}
use Rattle.machine_laws.specs.Values.{ServeKnownCalls}
use Rattle.machine_laws.proofs.EntryCalls.{act_calls, calls_after, start_calls}
use Rattle.machine_laws.proofs.KeptCalls.{at_act_calls, call_of, calls_of, step_calls}
use Rattle.machine_laws.proofs.Lists.{all_append, all_map, all_of_images, all_replicate, all_set}

-- the call, if any, has a number of 32 bits
abbrev IsKnown : Option CallId → Type 0
IsKnown o = IfSome o (λ c. IsId c.0)

-- so have those
abbrev AreKnown : List (Option CallId) → Type 0
AreKnown cs = AllByRecursion IsKnown cs

known_of : (st : State) → ServeKnownCalls st → AreKnown (calls_of st)
known_of st h = all_map (λ (x : Thread). IsKnown x.call) IsKnown call_of (λ x k. k) st.threads h

known_in : (st : State) (cs : List (Option CallId)) → calls_of st ≡ cs → AreKnown cs → ServeKnownCalls st
known_in st cs e h = all_of_images IsKnown call_of st.threads (subst AreKnown (sym e) h)

-- an act that takes a call takes one with a number of 32 bits
abbrev pub TakesKnownCall : Act → Type 0
TakesKnownCall (act.Take c) = IsId c.0
TakesKnownCall _ = Unit {0}

after_known : (t : ℕ) (a : Act) (r : Reply) (cs : List (Option CallId)) → TakesKnownCall a → AreKnown cs → AreKnown (calls_after t a r cs)
after_known t (act.Take c) (reply.Job service method p) cs k h = all_set IsKnown cs t (Some c) k h
after_known t (act.Export iface n) (reply.Service service c) cs k h = all_append IsKnown cs (replicate n None) h (all_replicate IsKnown n None tt)
after_known t (act.Return c p) r cs k h = all_set IsKnown cs t None tt h
after_known t (act.Throw c p) r cs k h = all_set IsKnown cs t None tt h
after_known t (act.EndThread e) r cs k h = all_set IsKnown cs t None tt h
after_known t (act.Exit code) r cs k h = all_set IsKnown cs t None tt h
after_known t (act.End why) r cs k h = all_set IsKnown cs t None tt h
after_known t a r cs k h = h

module _ (s : System) where
  -- a step that gives a state keeps the calls known
  abbrev pub IsStepOfKnown : StepOutcome → Type 0
  IsStepOfKnown (Step new) = ServeKnownCalls new
  IsStepOfKnown (Ask a) = Unit {0}

  pub step_known : (st : State) (t : ℕ) → ServeKnownCalls st → IsStepOfKnown (step s st t)
  step_known st t h = by (step s st t) refl
    where
      by : (o : StepOutcome) → step s st t ≡ o → IsStepOfKnown o
      by (Step new) e = known_in new (calls_of st) (step_calls s st new t e) (known_of st h)
      by (Ask a) e = tt

  -- the calls at the next act are known
  pub at_act_known : (st : State) → ServeKnownCalls st → ServeKnownCalls (state_at_act s st)
  at_act_known st h = known_in (state_at_act s st) (calls_of st) (at_act_calls s st) (known_of st h)

  -- an entry that takes a known call keeps them known
  pub entry_known : (st : State) (e : Entry) → ServeKnownCalls st → TakesKnownCall e.act → ServeKnownCalls (after_entry s st e)
  unfolding after_entry thread_at
  entry_known st e h k = by (thread_at st e.thread.0) refl
    where
      by : (o : Option Thread) → thread_at st e.thread.0 ≡ o → ServeKnownCalls (elim o as (λ _. State) [ None ↦ st | Some x ↦ after_act s st e.thread.0 x e.act e.reply ])
      by None q = h
      by (Some x) q = known_in (after_act s st e.thread.0 x e.act e.reply) _ (act_calls s st e.thread.0 x e.act e.reply q) (after_known e.thread.0 e.act e.reply (calls_of st) k (known_of st h))

  -- at the start no thread serves a call
  pub start_known : (t : Template) → ServeKnownCalls (start_of s t)
  start_known t = known_in (start_of s t) (None ∷ []) (start_calls s t) (tt, tt)
