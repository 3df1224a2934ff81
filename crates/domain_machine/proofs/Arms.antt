-- What an act with its reply makes of what a machine holds.
use Rattle.std.proofs.Common.{◌≡◌, refl, sym, ◌∙◌, ap, subst, ℕ, zero, suc, ◌<◌, Bool, true, false, List, [], ◌∷◌, ◌++◌, length, map, Option, Some, arith}
use Rattle.std.specs.Prelude.{replicate, reverse, slice_get, slice_set}
use Rattle.std.proofs.lemmas.List.{length-map, map-set}
use Rattle.jx_base.specs.declared.act.Act.TheVariants as act
use Rattle.jx_base.specs.declared.act.Reply.{Reply}
use Rattle.jx_base.specs.declared.act.Reply.TheVariants as reply
use Rattle.jx_base.specs.declared.ids.ClassId.{ClassId}
use Rattle.jx_base.specs.declared.ids.MethodId.{MethodId}
use Rattle.jx_base.specs.declared.ids.ServiceId.{ServiceId}
use Rattle.jx_base.specs.declared.program.System.{System}
use Rattle.jx_base.specs.declared.value.Parcel.{Parcel}
use Rattle.interp_core.specs.Cores.{store_of}
use Rattle.interp_core.specs.declared.cores.Core.{Core as OneCore}
use Rattle.machine_model.specs.AfterEntry.{after_act, exported_object, with_export}
use Rattle.machine_model.specs.MachineThreads.{core_of, idle_thread, thread_at, with_less_fuel, with_store, with_thread}
use Rattle.machine_model.specs.State.{State, Store, Thread}
use Rattle.machine_replies.specs.Leaving.{IsRepliedTo, exported_by, with_exported}
use Rattle.domain_machine.specs.declared.held.Held.{Held}
use Rattle.domain_machine.specs.declared.threads.Thread.{Thread as OneThread}
use Rattle.domain_machine.specs.Entering.{HasThread, Leads, Settles, SettlesAs, held_state, own_core}
use Rattle.domain_machine.specs.Taking.{CanBeReplied, OfThread, called_by, exported_from}
use Rattle.domain_machine.specs.Works.{thread_of}
use Rattle.domain_machine.proofs.Arriving.{thread_held}

some_is : {X : Type 0} (o : Option X) (x y : X) → o ≡ Some x → o ≡ Some y → x ≡ y
some_is o x y e q = let w : Some x ≡ Some y = sym e ∙ q in cc

-- the thread that was taken out is the state's
pub same_thread : (held : Held) (k : ℕ) (t : OneThread) (x : Thread) → slice_get held.threads.items k ≡ Some t → thread_at (held_state held) k ≡ Some x → thread_of t ≡ x
same_thread held k t x e h = some_is (thread_at (held_state held) k) (thread_of t) x (thread_held held k t e) h

-- a state like the one that is held, but for fuel and the running thread
pub record IsBeside (held : Held) (P : State) : Type 0 where
  pub threads : P.threads ≡ map thread_of held.threads.items
  pub store : P.store ≡ store_of held.core

module _ (old new : Held) (P : State) (k : ℕ) (t u : OneThread) (there : slice_get old.threads.items k ≡ Some t) (beside : IsBeside old P)
    (put : new.threads.items ≡ slice_set old.threads.items k u) (fuel : new.fuel ≡ P.fuel) where
  in_beside : HasThread (store_of old.core) (thread_of t) P k
  unfolding thread_at
  in_beside = record { there = ap (λ (ts : List Thread). slice_get ts k) beside.threads ∙ thread_held old k t there; store = beside.store }

  put_shown : map thread_of new.threads.items ≡ slice_set P.threads k (thread_of u)
  put_shown = ap (map thread_of) put ∙ map-set thread_of old.threads.items k u ∙ ap (λ (ts : List Thread). slice_set ts k (thread_of u)) (sym beside.threads)

  -- what is held, where the same thread runs or none
  pub put_held : (o : Option ℕ) → new.running ≡ o → held_state new ≡ record (with_thread (with_store P (store_of new.core)) k (thread_of u)) { running = o }
  unfolding with_thread with_store
  put_held o e = rw (put_shown, fuel, e) refl

  module _ (f : State → ℕ → Thread → State) (bad : Bool) (s : Settles (store_of old.core) (thread_of t) (store_of new.core) (thread_of u) f bad) (x : Thread) (is : thread_of t ≡ x) where
    pub leads : P.running ≡ Some k → new.running ≡ Some k → Leads k (f P k x) new bad
    unfolding with_thread with_store
    leads r e = subst (λ (y : Thread). Leads k (f P k y) new bad) is (by bad (s P k in_beside))
      where
        by : (b : Bool) → SettlesAs P k (store_of new.core) (thread_of u) b (f P k (thread_of t)) → Leads k (f P k (thread_of t)) new b
        by true w = (w.running ∙ r, w.bad)
        by false w = put_held (Some k) e ∙ ap (λ (o : Option ℕ). record (with_thread (with_store P (store_of new.core)) k (thread_of u)) { running = o }) (sym r) ∙ sym w

    -- it met no bad code, and the same thread runs
    pub exact : bad ≡ false → new.running ≡ P.running → held_state new ≡ f P k x
    unfolding with_thread with_store
    exact b e =
        let w : f P k (thread_of t) ≡ with_thread (with_store P (store_of new.core)) k (thread_of u) = subst (λ (b : Bool). SettlesAs P k (store_of new.core) (thread_of u) b (f P k (thread_of t))) b (s P k in_beside) in
        put_held P.running e ∙ sym w ∙ ap (f P k) is

-- ---- an export

before : {X : Type 0} (xs ys : List X) (k : ℕ) (x : X) → k < length xs → slice_get (xs ++ ys) k ≡ Some x → slice_get xs k ≡ Some x
before [] ys k x l e = absurd (omega (arith, l))
before (y ∷ xs) ys zero x l e = e
before (y ∷ xs) ys (suc k) x l e = before xs ys k x (omega (arith, l)) e

pub get_before : {X : Type 0} (xs ys : List X) (k : ℕ) (x : X) → slice_get xs k ≡ Some x → slice_get (xs ++ ys) k ≡ Some x
get_before [] ys k x e = cc
get_before (y ∷ xs) ys zero x e = e
get_before (y ∷ xs) ys (suc k) x e = get_before xs ys k x e

-- with idle threads behind it the thread is there
pub still_there : (old mid : Held) (n k : ℕ) (x : Thread) → map thread_of mid.threads.items ≡ map thread_of old.threads.items ++ replicate n idle_thread → thread_at (held_state old) k ≡ Some x → thread_at (held_state mid) k ≡ Some x
unfolding thread_at
still_there old mid n k x e h = ap (λ (ts : List Thread). slice_get ts k) e ∙ get_before (map thread_of old.threads.items) (replicate n idle_thread) k x h

-- the state after the export is beside what is held then
pub exported_beside : (old mid : Held) (x : Thread) (iface : ClassId) (n : ℕ) (service : ServiceId) → map thread_of mid.threads.items ≡ map thread_of old.threads.items ++ replicate n idle_thread →
    store_of mid.core ≡ with_exported (store_of old.core) (exported_by x.frames) service iface → IsBeside mid (exported_from (held_state old) x iface n service)
unfolding with_export with_less_fuel exported_object
exported_beside old mid x iface n service e q = record { threads = sym e; store = sym q }

-- the thread can be given the reply in what is held after the export
pub exported_given : (s : System) (old mid : Held) (core : OneCore) (k : ℕ) (t u : OneThread) (iface : ClassId) (n : ℕ) (service : ServiceId) (r : Reply) → k < length old.threads.items →
    map thread_of mid.threads.items ≡ map thread_of old.threads.items ++ replicate n idle_thread → slice_get mid.threads.items k ≡ Some t →
    store_of core ≡ with_exported (store_of old.core) (exported_by (reverse t.frames.items)) service iface → u ≡ t →
    OfThread (held_state old) k (λ x. CanBeReplied s (exported_from (held_state old) x iface n service) k r) → IsRepliedTo s (own_core core u) r
unfolding with_export with_less_fuel exported_object core_of thread_at
exported_given s old mid core k t u iface n service r l e there store same f =
    let x = thread_of t in
    let at : slice_get (map thread_of old.threads.items) k ≡ Some x = before (map thread_of old.threads.items) (replicate n idle_thread) k x (subst (λ (m : ℕ). k < m) (sym (length-map old.threads.items thread_of)) l) (ap (λ (ts : List Thread). slice_get ts k) (sym e) ∙ thread_held mid k t there) in
    let w = f x at x (get_before (map thread_of old.threads.items) (replicate n idle_thread) k x at) in
    subst (λ (y : OneThread). IsRepliedTo s (own_core core y) r) (sym same) (subst (λ (c : Store). IsRepliedTo s (record { frames = x.frames; store = c }) r) (sym store) w)

-- ---- what an act makes of a state

-- a call waits for its answer, unless it was refused
pub called : (s : System) (st : State) (k : ℕ) (x : Thread) (service : ServiceId) (method : MethodId) (p : Parcel) (r : Reply) → called_by s st k x r ≡ after_act s st k x (act.Call service method p) r
unfolding after_act
called s st k x service method p (reply.Queued c) = refl
called s st k x service method p _ = refl
