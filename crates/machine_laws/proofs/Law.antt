-- The act that a domain's code performs next is well made.
use Rattle.std.proofs.Common.{◌≡◌, refl, ◌∙◌, ap, subst, ℕ, ◌+◌, ◌≤◌, Bool, true, false, cond, [], ◌∷◌, Option, Some, None, is_some, arith}
use Rattle.std.specs.Prelude.{filter, codes, IsSome, nat_le, if◌then◌else◌}
use Rattle.jx_base.specs.declared.act.Refusal.TheVariants as refusal
use Rattle.program_model.specs.Limits.{service_limit}
use Rattle.jx_base.specs.declared.act.Act.{Act}
use Rattle.jx_base.specs.declared.act.Act.TheVariants as act
use Rattle.jx_base.specs.declared.act.Reply.{Reply}
use Rattle.jx_base.specs.declared.act.Reply.TheVariants as reply
use Rattle.jx_base.specs.declared.act.Entry.{Entry}
use Rattle.jx_base.specs.declared.ids.ClassId.{ClassId}
use Rattle.jx_base.specs.declared.ids.ServiceId.{ServiceId}
use Rattle.jx_base.specs.declared.program.System.{System}
use Rattle.jx_base.specs.declared.program.Template.{Template}
use Rattle.program_model.specs.BuiltIn.{opened_built_in}
use Rattle.machine_model.specs.BuiltInMethods.{unit_of}
use Rattle.jx_base.specs.Histories.{Past, own_entries, is_own}
use Rattle.jx_model.specs.Legal.{IsAdmittedPast, IsNext}
use Rattle.program_model.specs.Lookup.{class_named, template_at}
use Rattle.machine_model.specs.Machine.{NextAct, no_state, domain_state, next_act}
use Rattle.machine_model.specs.MachineThreads.{idle_thread}
use Rattle.jx_model.specs.Portals.{interface_of, export_of, is_export, exported_interface, services_made}
use Rattle.jx_model.specs.Replies.{reply_to, new_service, ◌refuses◌else◌}
use Rattle.machine_model.specs.Running.{state_at_act}
use Rattle.machine_model.specs.Start.{start_of, first_store, first_objects, object_of}
use Rattle.machine_model.specs.State.{State, class_of_object, default_of, static_types}
use Rattle.jx_base.proofs.NthEntries.{nth_new}
use Rattle.machine_laws.specs.Handed.{IsReplyIn, IsExportedIn}
use Rattle.machine_laws.specs.Law.{RepliesHold, NextIsWellMade}
use Rattle.machine_laws.specs.Values.{HasCountOf, IsStoreIn, IsStateIn, ServeKnownCalls}
use Rattle.machine_laws.specs.Sound.{IsSound}
use Rattle.machine_laws.proofs.Lists.{mapped_length, all_images}
use Rattle.machine_laws.proofs.EntryValues.{entry_in, class_or_object}
use Rattle.machine_laws.proofs.NumericValues.{built_in_class}
use Rattle.machine_laws.proofs.ObjectValues.{array_class_of}
use Rattle.machine_laws.proofs.StateValues.{at_act_in, act_in_in, finish_in, IsNextIn}
use Rattle.machine_laws.proofs.Stores.{default_in, state_of_past}
use Rattle.machine_laws.proofs.ServedCalls.{TakesKnownCall, at_act_known, entry_known, start_known}
use Rattle.jx_model.proofs.SmallNumbers.{services_few}
use Rattle.jx_model.specs.WellMade.{IsPortalIn, IsWellMade}
use Rattle.std.specs.Option.{option_and_then, unwrap_or}

-- ---- the start

-- the class of arrays of strings, or java/lang/Object, of which an object has no cells
pub strings_count : (s : System) → IsSound s → HasCountOf s (unwrap_or (class_named s (codes "[Ljava/lang/String;")) 0) 0
unfolding opened_built_in
strings_count s z = by (class_named s (codes "[Ljava/lang/String;")) refl
  where
    by : (o : Option ℕ) → class_named s (codes "[Ljava/lang/String;") ≡ o → HasCountOf s (unwrap_or o 0) 0
    by None e = λ q. rw (z.built_in 0 (omega arith)) refl
    by (Some c) e = (array_class_of s (codes "Ljava/lang/String;") c z e).any 0

pub first_in : (s : System) (past : Past) (t : Template) → IsSound s → t.heap ≤ 131072 → IsStoreIn s past (first_store s t)
unfolding first_store first_objects object_of class_of_object opened_built_in unit_of
first_in s past t z h = record {
  first = refl;
  second = refl;
  room = omega (arith, h);
  count = mapped_length default_of (static_types s);
  objects = (
    record { known = built_in_class s 16 z (omega arith) refl; count = λ e. rw (z.built_in 16 (omega arith)) refl; small = omega arith; cells = (tt, tt); units = λ e. absurd (omega (arith, e)); text = λ e. absurd (omega (arith, e)) },
    (record { known = class_or_object s past z (codes "[Ljava/lang/String;"); count = strings_count s z; small = omega arith; cells = tt; units = λ e. tt; text = λ e. tt }, tt),
  );
  statics = all_images _ _ (λ type. default_in past (first_store s t) type) (static_types s);
  literals = tt;
  exports = tt;
}

pub start_in : (s : System) (past : Past) (t : Template) → IsSound s → t.heap ≤ 131072 → IsStateIn s past (start_of s t)
unfolding start_of idle_thread
start_in s past t z h = finish_in s past z _ 0 _ None (record { store = first_in s past t z h; threads = (record { frames = tt; stage = tt }, tt) }) tt

pub begun_in : (s : System) (past : Past) (t : ℕ) → IsSound s → IsSome (template_at s t) → IsStateIn s past (domain_state s t [])
unfolding domain_state
begun_in s past t z h = by (template_at s t) refl h
  where
    by : (o : Option Template) → template_at s t ≡ o → is_some o ≡ true → IsStateIn s past (elim o as (λ _. State) [ None ↦ no_state | Some x ↦ start_of s x ])
    by None e h = cc
    by (Some x) e h = start_in s past x z (z.heaps t x e)

-- ---- known calls

pub begun_known : (s : System) (t : ℕ) → ServeKnownCalls (domain_state s t [])
unfolding domain_state no_state
begun_known s t = by (template_at s t)
  where
    by : (o : Option Template) → ServeKnownCalls (elim o as (λ _. State) [ None ↦ no_state | Some x ↦ start_of s x ])
    by None = tt
    by (Some x) = start_known s x

-- an act that is well made takes a call with a number of 32 bits
pub takes_known : (s : System) (past : Past) (a : Act) → IsWellMade s past a → TakesKnownCall a
takes_known s past (act.Take c) h = h
takes_known s past _ h = tt

pub own_known : (s : System) (t d : ℕ) (e : Entry) (past : Past) → IsNext s past e →
    ServeKnownCalls (domain_state s t (own_entries past d)) → ServeKnownCalls (domain_state s t (own_entries (e ∷ past) d))
unfolding own_entries domain_state
own_known s t d e past n h = by (is_own d e)
  where
    by : (b : Bool) → ServeKnownCalls (domain_state s t (cond b (e ∷ filter (is_own d) past) (filter (is_own d) past)))
    by true = entry_known s (state_at_act s (domain_state s t (filter (is_own d) past))) e
        (at_act_known s (domain_state s t (filter (is_own d) past)) h) (takes_known s past e.act n.well_made)
    by false = h

-- the calls that a domain's threads serve have numbers of 32 bits
pub calls_known : (s : System) (t d : ℕ) (past : Past) → IsAdmittedPast s past → ServeKnownCalls (domain_state s t (own_entries past d))
unfolding own_entries
calls_known s t d [] a = begun_known s t
calls_known s t d (e ∷ past) a = own_known s t d e past a.0 (calls_known s t d past a.1)

-- ---- exports

pub is_made : (iface : ClassId) (k : ℕ) (service : ServiceId) (c : ClassId) → exported_interface (act.Export iface k) (reply.Service service c) ≡ Some iface
unfolding exported_interface
is_made iface k service c = refl

-- an export that made a service made it with its interface
pub exported : (s : System) (e : Entry) (past : Past) (d : ℕ) (a : Act) (r : Reply) → IsAdmittedPast s past → r ≡ reply_to s past d a → e.act ≡ a → e.reply ≡ r → IsExportedIn (e ∷ past) a r
unfolding reply_to new_service ◌refuses◌else◌ interface_of export_of is_export
exported s e past d (act.Export iface k) (reply.Service service c) admitted q f g = by (nat_le (service_limit s) (services_made past)) q
  where
    both_are : exported_interface e.act e.reply ≡ Some iface
    both_are = ap (λ (a : Act). exported_interface a e.reply) f ∙ ap (exported_interface (act.Export iface k)) g ∙ is_made iface k service c

    by : (b : Bool) → reply.Service service c ≡ (if b then reply.Refused refusal.TooMany else reply.Service (record { 0 = services_made past + 1 }) iface) → IsPortalIn (e ∷ past) service.0 iface
    by true q = cc
    by false q =
        let n : service ≡ record { 0 = services_made past + 1 } = cc in
        let number : service.0 ≡ services_made past + 1 = ap (λ (k : ServiceId). k.0) n in (
          omega (arith, number, services_few s past admitted),
          ap (λ (o : Option Entry). option_and_then (λ x. exported_interface x.act x.reply) o)
              (nth_new is_export e past service.0 (ap is_some both_are) number) ∙ both_are,
        )
exported s e past d _ r admitted q f g = tt

-- ---- the law

pub entry_exported : (s : System) (e : Entry) (past : Past) → IsAdmittedPast s past → IsNext s past e → IsExportedIn (e ∷ past) e.act e.reply
entry_exported s e past a n = exported s e past e.domain.0 e.act e.reply a n.reply refl refl

-- replies of what came before
pub replies_before : (s : System) (e : Entry) (past : Past) → RepliesHold s (e ∷ past) → RepliesHold s past
replies_before s e past h f p m = h f p (e ∷ m.0, ap (λ (xs : Past). e ∷ xs) m.1)

pub own_state : (s : System) (t d : ℕ) (e : Entry) (past : Past) → IsSound s → IsAdmittedPast s past → IsNext s past e → IsReplyIn s (e ∷ past) e.reply → IsStateIn s past (domain_state s t (own_entries past d)) → IsStateIn s (e ∷ past) (domain_state s t (own_entries (e ∷ past) d))
unfolding own_entries domain_state
own_state s t d e past z a n r h = by (is_own d e)
  where
    by : (b : Bool) → IsStateIn s (e ∷ past) (domain_state s t (cond b (e ∷ filter (is_own d) past) (filter (is_own d) past)))
    by true = entry_in s (e ∷ past) z (state_at_act s (domain_state s t (filter (is_own d) past))) e
        (state_of_past s past (e ∷ past) (state_at_act s (domain_state s t (filter (is_own d) past))) (e ∷ [], refl) (at_act_in s past z (domain_state s t (filter (is_own d) past)) h (calls_known s t d past a))) r (entry_exported s e past a n)
    by false = state_of_past s past (e ∷ past) (domain_state s t (filter (is_own d) past)) (e ∷ [], refl) h

-- the state of a domain is one of values
pub state_in : (s : System) (t d : ℕ) (past : Past) → IsSound s → IsSome (template_at s t) → IsAdmittedPast s past → RepliesHold s past → IsStateIn s past (domain_state s t (own_entries past d))
unfolding own_entries
state_in s t d [] z h a r = begun_in s [] t z h
state_in s t d (e ∷ past) z h a r = own_state s t d e past z a.1 a.0 (r e past ([], refl)) (state_in s t d past z h a.1 (replies_before s e past r))

-- what a domain performs next is well made
pub next_well_made : (s : System) (past : Past) → IsSound s → IsAdmittedPast s past → RepliesHold s past → NextIsWellMade s past
unfolding next_act
next_well_made s past z a r d t b h e =
    subst (λ (n : NextAct). IsNextIn s past z n) e (act_in_in s past z (state_at_act s (domain_state s t (own_entries past d))) (at_act_in s past z (domain_state s t (own_entries past d)) (state_in s t d past z h a r) (calls_known s t d past a)) (at_act_known s (domain_state s t (own_entries past d)) (calls_known s t d past a)))
