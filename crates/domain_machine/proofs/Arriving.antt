-- What a machine holds, up to its next act.
use Rattle.std.proofs.Common.{◌≡◌, refl, sym, ◌∙◌, ap, subst, ℕ, ◌<◌, ◌≤◌, List, [], ◌∷◌, length, map, get_or, zero, suc, Option, Some, None, arith}
use Rattle.std.proofs.lemmas.List.{map-set}
use Rattle.std.specs.Prelude.{slice_get, slice_set}
use Rattle.jx_base.specs.declared.act.Act.{Act}
use Rattle.jx_base.specs.declared.program.System.{System}
use Rattle.interp_core.specs.Cores.{store_of}
use Rattle.machine_model.specs.MachineThreads.{thread_at, with_thread}
use Rattle.machine_model.specs.Running.{Ask, ends_by_bad_code, step}
use Rattle.machine_model.specs.State.{State, Store, Thread}
use Rattle.domain_machine.specs.declared.held.Held.{Held}
use Rattle.domain_machine.specs.declared.next.Next.{Next}
use Rattle.domain_machine.specs.declared.next.Next.TheVariants as next
use Rattle.domain_machine.specs.declared.threads.Thread.{Thread as OneThread}
use Rattle.domain_machine.specs.Advancing.{AreOne, Arrives, CanAdvance, ComesToAct, IsActOf, WillBeBad}
use Rattle.domain_machine.specs.Entering.{held_state}
use Rattle.domain_machine.specs.Works.{CanWork, IsAtWork, Reaches, RunsTo, at_work, thread_of}
use Rattle.domain_machine.proofs.Reaching.{reach_here, runs_later}

get_mapped : {X Y : Type 0} (f : X → Y) (xs : List X) (k : ℕ) (x : X) → slice_get xs k ≡ Some x → slice_get (map f xs) k ≡ Some (f x)
get_mapped f [] k x e = cc
get_mapped {Y = Y} f (y ∷ xs) zero x e = let q : y ≡ x = cc in ap (λ (z : Y). Some z) (ap f q)
get_mapped f (y ∷ xs) (suc k) x e = get_mapped f xs k x e

-- the thread of that place, where the machine holds it
pub thread_held : (held : Held) (k : ℕ) (x : OneThread) → slice_get held.threads.items k ≡ Some x → thread_at (held_state held) k ≡ Some (thread_of x)
unfolding thread_at
thread_held held k x e = get_mapped thread_of held.threads.items k x e

none_mapped : {X Y : Type 0} (f : X → Y) (xs : List X) (k : ℕ) → length xs ≤ k → slice_get (map f xs) k ≡ None
none_mapped f [] k l = refl
none_mapped f (y ∷ xs) zero l = absurd (omega (arith, l))
none_mapped f (y ∷ xs) (suc k) l = none_mapped f xs k (omega (arith, l))

-- the item at a place within a list
pub got : {X : Type 0} (xs : List X) (k : ℕ) (y : X) → k < length xs → y ≡ get_or xs k y → slice_get xs k ≡ Some y
got [] k y l e = absurd (omega (arith, l))
got {X = X} (x ∷ xs) zero y l e = ap (λ (z : X). Some z) (sym e)
got (x ∷ xs) (suc k) y l e = got xs k y (omega (arith, l)) e

-- there is none
pub none_held : (s : System) (held : Held) (k : ℕ) → held.running ≡ Some k → length held.threads.items ≤ k → WillBeBad s (held_state held)
unfolding thread_at step ends_by_bad_code
none_held s held k r l = record {
  number = k;
  running = r;
  asks = (held_state held, (reach_here s k (held_state held), rw (none_mapped thread_of held.threads.items k l, step) refl));
}

pub at_work_held : (held : Held) (k : ℕ) (x : OneThread) → held.running ≡ Some k → slice_get held.threads.items k ≡ Some x → IsAtWork (store_of held.core) held.fuel (thread_of x) (held_state held) k
at_work_held held k x r e = record { running = r; there = thread_held held k x e; store = refl; fuel = refl }

pub can_work_held : (s : System) (held : Held) (k : ℕ) (x : OneThread) → held.running ≡ Some k → slice_get held.threads.items k ≡ Some x → CanAdvance s (held_state held) → CanWork s (store_of held.core) held.fuel (thread_of x)
can_work_held s held k x r e h = record {
  template = h.template;
  own = h.own;
  past = h.past;
  domain = h.domain;
  state = held_state held;
  number = k;
  known = h.known;
  life = h.life;
  stands = h.stands;
  at = at_work_held held k x r e;
}

-- what is held with another thread in its place
pub held_set : (old new : Held) (k : ℕ) (y : OneThread) → new.threads.items ≡ slice_set old.threads.items k y → new.running ≡ old.running →
    held_state new ≡ at_work (held_state old) k (store_of new.core) new.fuel (thread_of y)
unfolding with_thread
held_set old new k y e r = ap (λ (ts : List Thread). record (held_state new) { threads = ts }) (ap (map thread_of) e ∙ map-set thread_of old.threads.items k y) ∙ ap (λ (o : Option ℕ). record (at_work (held_state old) k (store_of new.core) new.fuel (thread_of y)) { running = o }) r

comes : (s : System) (old new : State) (k : ℕ) (n : Next) (a : Act) → old.running ≡ Some k → Reaches s k old new → step s new k ≡ Ask a → IsActOf n a → ComesToAct s old new n
comes s old new k n a r q e i = record { number = k; act = a; running = r; reaches = q; asks = record { running = runs_later s k old new q ∙ r; asked = e }; said = i }

arrives : (s : System) (old new : State) (k : ℕ) (n : Next) (a : Act) → old.running ≡ Some k → Reaches s k old new → step s new k ≡ Ask a → IsActOf n a → Arrives s old new (Some n)
arrives s old new k next.Idle a r q e i = absurd i
arrives s old new k (next.Act b) a r q e i = comes s old new k (next.Act b) a r q e i
arrives s old new k (next.End why) a r q e i = comes s old new k (next.End why) a r q e i

pub arrives_held : (s : System) (old new : Held) (k : ℕ) (x y : OneThread) (n : Next) (a : Act) → old.running ≡ Some k → slice_get old.threads.items k ≡ Some x →
    new.threads.items ≡ slice_set old.threads.items k y → new.running ≡ old.running → RunsTo s (store_of old.core) old.fuel (thread_of x) (store_of new.core) new.fuel (thread_of y) (Some a) → IsActOf n a →
    Arrives s (held_state old) (held_state new) (Some n)
arrives_held s old new k x y n a r e t u f i =
    let w = f (held_state old) k (at_work_held old k x r e) in let q = sym (held_set old new k y t u) in
    arrives s (held_state old) (held_state new) k n a r (subst (Reaches s k (held_state old)) q w.0) (ap (λ (z : State). step s z k) (sym q) ∙ w.1) i

pub bad_held : (s : System) (old : Held) (k : ℕ) (x y : OneThread) (store : Store) (fuel : ℕ) → old.running ≡ Some k → slice_get old.threads.items k ≡ Some x →
    RunsTo s (store_of old.core) old.fuel (thread_of x) store fuel (thread_of y) None → WillBeBad s (held_state old)
bad_held s old k x y store fuel r e f = record { number = k; running = r; asks = f (held_state old) k (at_work_held old k x r e) }

-- what a machine holds after its running thread ran
pub arrived : (s : System) (old new : Held) (k : ℕ) (x y : OneThread) (n : Option Next) (a : Option Act) → old.running ≡ Some k → slice_get old.threads.items k ≡ Some x →
    new.threads.items ≡ slice_set old.threads.items k y → new.running ≡ old.running → RunsTo s (store_of old.core) old.fuel (thread_of x) (store_of new.core) new.fuel (thread_of y) a → AreOne n a →
    Arrives s (held_state old) (held_state new) n
arrived s old new k x y (Some n) (Some a) r e t u f i = arrives_held s old new k x y n a r e t u f i
arrived s old new k x y None None r e t u f i = bad_held s old k x y (store_of new.core) new.fuel r e f
arrived s old new k x y (Some n) None r e t u f i = absurd i
arrived s old new k x y None (Some a) r e t u f i = absurd i
