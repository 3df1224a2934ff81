-- What the state of an entry gives the thread that performed it.
use Rattle.std.proofs.Common.{◌≡◌, refl, sym, ◌∙◌, ap, subst, ℕ, ◌<◌, Bool, true, false, length, map, Option, Some, None}
use Rattle.std.specs.Prelude.{slice_get, replicate, ◌++◌}
use Rattle.std.specs.List.{AllByRecursion}
use Rattle.std.proofs.lemmas.Option.{slice_get_within}
use Rattle.std.proofs.lemmas.List.{length-map}
use Rattle.jx_base.specs.declared.act.Act.{Act}
use Rattle.jx_base.specs.declared.act.Act.TheVariants as act
use Rattle.jx_base.specs.declared.act.Entry.{Entry}
use Rattle.jx_base.specs.declared.act.Reply.{Reply}
use Rattle.jx_base.specs.declared.act.Reply.TheVariants as reply
use Rattle.jx_base.specs.declared.ids.CallId.{CallId}
use Rattle.jx_base.specs.declared.ids.ClassId.{ClassId}
use Rattle.jx_base.specs.declared.ids.ServiceId.{ServiceId}
use Rattle.jx_base.specs.declared.ids.ThreadId.{ThreadId}
use Rattle.jx_base.specs.declared.ids.MethodId.{MethodId}
use Rattle.jx_base.specs.declared.program.System.{System}
use Rattle.jx_base.specs.declared.value.Parcel.{Parcel}
use Rattle.jx_model.specs.Permits.{is_choice}
use Rattle.machine_laws.proofs.EntryValues.{export_later, exported_in}
use Rattle.machine_laws.proofs.Lists.{all_get}
use Rattle.machine_laws.proofs.StateValues.{later_frames}
use Rattle.machine_laws.specs.Depths.{HasStacksWithin, IsWithin}
use Rattle.machine_laws.specs.Handed.{IsExportedIn}
use Rattle.machine_laws.specs.Values.{IsFrameIn, IsThreadIn}
use Rattle.machine_model.specs.AfterEntry.{after_act, after_end, after_entry, after_reply, after_result, exported_object, with_export}
use Rattle.machine_model.specs.MachineThreads.{core_of, idle_thread, thread_at, with_less_fuel}
use Rattle.machine_model.specs.State.{Going, State, Thread}
use Rattle.machine_replies.specs.Leaving.{CanRun, IsCoreIn, IsRepliedTo}
use Rattle.domain_machine.specs.declared.held.Held.{Held}
use Rattle.domain_machine.specs.Entering.{CanTake, Leads, ends_code, held_state}
use Rattle.domain_machine.specs.Taking.{CanBeReplied, CanExport, IsJob, IsKnown, exported_from}
use Rattle.domain_machine.specs.Works.{thread_of}
use Rattle.domain_machine.proofs.Arms.{get_before}

some_same : {X : Type 0} (o : Option X) (x y : X) → o ≡ Some x → o ≡ Some y → x ≡ y
some_same o x y e q = let w : Some x ≡ Some y = sym e ∙ q in cc

-- the thread's place is within the list
pub place_within : (held : Held) (k : ℕ) (x : Thread) → thread_at (held_state held) k ≡ Some x → k < length held.threads.items
unfolding thread_at
place_within held k x e = subst (λ (n : ℕ). k < n) (length-map held.threads.items thread_of) (slice_get_within (map thread_of held.threads.items) k x e)

pub entry_is : (s : System) (st : State) (e : Entry) (x : Thread) → thread_at st e.thread.0 ≡ Some x → after_entry s st e ≡ after_act s st e.thread.0 x e.act e.reply
unfolding after_entry
entry_is s st e x h = rw (h, after_entry) refl

module _ (s : System) (st : State) (e : Entry) (r : CanRun s) (h : CanTake s st e) where
  abbrev pub K : ℕ
  K = e.thread.0

  same : (x : Thread) → thread_at st K ≡ Some x → h.of.thread ≡ x
  same x q = some_same (thread_at st K) h.of.thread x h.of.there q

  frames : (x : Thread) → thread_at st K ≡ Some x → AllByRecursion (IsFrameIn s h.past st.store) x.frames
  unfolding thread_at
  frames x q = (all_get (IsThreadIn s h.past st.store) st.threads K x q h.values.threads).frames

  within : ends_code e.act ≡ false → (x : Thread) → thread_at st K ≡ Some x → AllByRecursion (IsWithin s) x.frames
  unfolding thread_at
  within n x q = (all_get (HasStacksWithin s) st.threads K x q h.within).going (subst (λ (y : Thread). y.stage ≡ Going) (same x q) (h.going n))

  -- the thread's core is one of the domain
  pub core_past : ends_code e.act ≡ false → (x : Thread) → thread_at st K ≡ Some x → IsCoreIn s h.past (core_of st x)
  unfolding core_of
  core_past n x q = record { admitted = h.admitted; store = h.values.store; frames = frames x q; within = within n x q }

  pub known : ends_code e.act ≡ false → IsKnown s st K
  known n x q = (h.past, core_past n x q)

  pub replied : ends_code e.act ≡ false → CanBeReplied s st K e.reply
  replied n x q = (h.past, (core_past n x q, h.reply))

  -- the thread is there behind the export
  exported_there : (x y : Thread) (iface : ClassId) (n : ℕ) (service : ServiceId) → thread_at st K ≡ Some x → thread_at (exported_from st x iface n service) K ≡ Some y → x ≡ y
  unfolding thread_at with_export with_less_fuel
  exported_there x y iface n service q w = some_same (slice_get (st.threads ++ replicate n idle_thread) K) x y (get_before st.threads (replicate n idle_thread) K x q) w

  exported_core : (x : Thread) (iface : ClassId) (n : ℕ) (service : ServiceId) (c : ClassId) → e.act ≡ act.Export iface n → e.reply ≡ reply.Service service c → thread_at st K ≡ Some x →
      IsCoreIn s h.past (core_of (exported_from st x iface n service) x)
  unfolding core_of with_export with_less_fuel ends_code
  exported_core x iface n service c a b q =
      let known = subst (λ (z : Reply). IsExportedIn h.past (act.Export iface n) z) b (subst (λ (z : Act). IsExportedIn h.past z e.reply) a h.exported) in
      let l = export_later s h.past r.sound st.store (exported_object x) service iface h.values.store (exported_in s h.past r.sound st.store x h.values.store (frames x q)) known in
      let ends : ends_code e.act ≡ false = ap ends_code a in
      record { admitted = h.admitted; store = l.store; frames = later_frames s h.past r.sound st.store _ l x.frames (frames x q); within = within ends x q }

  pub exportable : (iface : ClassId) (n : ℕ) → e.act ≡ act.Export iface n → CanExport s st K iface n e.reply
  unfolding ends_code
  exportable iface n a = record {
    refused = replied (ap ends_code a);
    made = λ service c b x q y w. subst (λ (y : Thread). IsRepliedTo s (core_of (exported_from st x iface n service) y) e.reply) (exported_there x y iface n service q w) (h.past, (exported_core x iface n service c a b q, h.reply));
  }

-- ---- what an act makes of a state

-- a take that is not answered with a call is behind it
pub taken_without : (s : System) (st : State) (k : ℕ) (x : Thread) (c : CallId) (r : Reply) → IsJob r → ((service : ServiceId) (method : MethodId) (p : Parcel) → r ≡ reply.Job service method p → ⊥) →
    after_result s (with_less_fuel st) k x None ≡ after_act s st k x (act.Take c) r
unfolding after_act after_reply
taken_without s st k x c (reply.Job service method p) j n = absurd (n service method p refl)
taken_without s st k x c reply.Done j n = refl
taken_without s st k x c _ j n = absurd j

-- an export that made no service
pub exported_without : (s : System) (st : State) (k : ℕ) (x : Thread) (iface : ClassId) (n : ℕ) (r : Reply) → ((service : ServiceId) (c : ClassId) → r ≡ reply.Service service c → ⊥) →
    after_reply s (with_less_fuel st) k x r ≡ after_act s st k x (act.Export iface n) r
unfolding after_act
exported_without s st k x iface n (reply.Service service c) w = absurd (w service c refl)
exported_without s st k x iface n _ w = refl

-- every other act's thread goes on with its reply
pub plain : (s : System) (st : State) (k : ℕ) (x : Thread) (a : Act) (r : Reply) → ends_code a ≡ false → ((c : CallId) → a ≡ act.Take c → ⊥) → ((c : CallId) → a ≡ act.Resume c → ⊥) → ((t : ThreadId) → a ≡ act.Go t → ⊥) →
    ((service : ServiceId) (method : MethodId) (p : Parcel) → a ≡ act.Call service method p → ⊥) → ((iface : ClassId) (n : ℕ) → a ≡ act.Export iface n → ⊥) → (a ≡ act.Yield → ⊥) →
    (after_reply s (with_less_fuel st) k x r ≡ after_act s st k x a r) × (is_choice a ≡ false)
unfolding after_act ends_code is_choice
plain s st k x (act.Take c) r e take resume go call export yield = absurd (take c refl)
plain s st k x (act.Resume c) r e take resume go call export yield = absurd (resume c refl)
plain s st k x (act.Go t) r e take resume go call export yield = absurd (go t refl)
plain s st k x (act.Call service method p) r e take resume go call export yield = absurd (call service method p refl)
plain s st k x (act.Export iface n) r e take resume go call export yield = absurd (export iface n refl)
plain s st k x act.Yield r e take resume go call export yield = absurd (yield refl)
plain s st k x (act.Return c p) r e take resume go call export yield = cc
plain s st k x (act.Throw c p) r e take resume go call export yield = cc
plain s st k x (act.EndThread c) r e take resume go call export yield = cc
plain s st k x (act.Exit code) r e take resume go call export yield = cc
plain s st k x (act.End why) r e take resume go call export yield = cc
plain s st k x _ r e take resume go call export yield = (refl, refl)

-- a thread's code ends
pub ended_by : (s : System) (st : State) (k : ℕ) (x : Thread) (a : Act) (r : Reply) → ends_code a ≡ true → after_end st k x ≡ after_act s st k x a r
unfolding after_act ends_code
ended_by s st k x (act.Return c p) r e = refl
ended_by s st k x (act.Throw c p) r e = refl
ended_by s st k x (act.EndThread c) r e = refl
ended_by s st k x (act.Exit code) r e = refl
ended_by s st k x (act.End why) r e = refl
ended_by s st k x _ r e = cc

-- what the act leads to the entry leads to
pub lead_entry : (s : System) (st : State) (e : Entry) (x : Thread) (a : Act) (new : Held) (bad : Bool) → thread_at st e.thread.0 ≡ Some x → e.act ≡ a → Leads e.thread.0 (after_act s st e.thread.0 x a e.reply) new bad →
    Leads e.thread.0 (after_entry s st e) new bad
lead_entry s st e x a new bad h q w = subst (λ (z : State). Leads e.thread.0 z new bad) (sym (entry_is s st e x h ∙ ap (λ (a : Act). after_act s st e.thread.0 x a e.reply) q)) w
