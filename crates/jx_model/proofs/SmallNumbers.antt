-- Numbers of domains, threads and services are small, and those of the domain and the thread of an entry that may come next.
use Rattle.std.proofs.Common.{◌≡◌, ℕ, ◌*◌, ◌^◌, ◌<◌, ◌≤◌, Bool, true, false, nat_le, nat_lt, ◌==◌, if◌then◌else◌, List, [], ◌∷◌, length, Option, Some, None, is_some, refl, sym, ap, ◌∙◌, inl, inr, arith, length-append}
use Rattle.std.proofs.lemmas.List.{length-replicate}
use Rattle.std.proofs.lemmas.Bool.Decides.{nat_tests}
use Rattle.jx_base.specs.declared.act.Act.{Act}
use Rattle.jx_base.specs.declared.act.Act.TheVariants as act
use Rattle.jx_base.specs.declared.act.Reply.{Reply}
use Rattle.jx_base.specs.declared.act.Reply.TheVariants as reply
use Rattle.jx_base.specs.declared.act.Refusal.TheVariants as refusal
use Rattle.jx_base.specs.declared.act.Entry.{Entry}
use Rattle.jx_base.specs.declared.ids.ClassId.{ClassId}
use Rattle.jx_base.specs.declared.program.System.{System}
use Rattle.program_model.specs.Limits.{domain_limit, service_limit, thread_limit}
use Rattle.jx_base.specs.Histories.{Past, is_own, count_where, nth_entry}
use Rattle.jx_model.specs.Domains.{is_birth, makes_domain, domains_made, template_named, is_live, is_made}
use Rattle.jx_model.specs.Portals.{is_export, export_of, interface_of, exported_interface, services_made}
use Rattle.jx_model.specs.Threads.{service_threads, new_threads, new_threads_of}
use Rattle.jx_model.specs.Permits.{acting_thread}
use Rattle.jx_model.specs.Granules.{first_fit, heap_granules}
use Rattle.jx_model.specs.Replies.{reply_to, ◌refuses◌else◌, given_or, new_domain, spawned, new_service}
use Rattle.jx_model.specs.WellMade.{IsWellMade}
use Rattle.jx_model.specs.Legal.{IsNext, IsAdmittedPast}
use Rattle.jx_base.proofs.BasicLaws.{both}
use Rattle.jx_base.proofs.NthEntries.{count_new, count_same, nth_passes}
use Rattle.jx_model.proofs.Acting.{acting_cases, domain_cases, acting_within, running_live}
use Rattle.std.specs.Option.{option_and_then}

-- ---- domains

-- a create that makes a domain is below the limit
created_below : (b : Bool) (o : Option ℕ) (n t : ℕ) → makes_domain (act.Create t) (b refuses refusal.TooMany else given_or o refusal.NoRoom (λ g. reply.Domain (record { 0 = n }) g)) ≡ true → b ≡ false
unfolding makes_domain ◌refuses◌else◌ given_or
created_below true o n t h = cc
created_below false o n t h = refl

-- so is a spawn that makes one
spawned_below : (s : System) (past : Past) (name : List ℕ) (o : Option ℕ) → makes_domain (act.Spawn name) (given_or o refusal.Unknown (new_domain s past)) ≡ true → nat_le (domain_limit s) (domains_made past) ≡ false
unfolding makes_domain given_or new_domain ◌refuses◌else◌
spawned_below s past name None h = cc
spawned_below s past name (Some t) h = below (nat_le (domain_limit s) (domains_made past)) (first_fit s past (heap_granules s t)) _ h
  where
    below : (b : Bool) (o : Option ℕ) (n : ℕ) → makes_domain (act.Spawn name) (b refuses refusal.TooMany else given_or o refusal.NoRoom (λ g. reply.Domain (record { 0 = n }) g)) ≡ true → b ≡ false
    below true o n h = cc
    below false o n h = refl

-- an act that makes a domain is below the limit
birth_below : (s : System) (past : Past) (d : ℕ) (a : Act) → makes_domain a (reply_to s past d a) ≡ true → nat_le (domain_limit s) (domains_made past) ≡ false
unfolding reply_to new_domain spawned makes_domain
birth_below s past d (act.Create t) h = created_below (nat_le (domain_limit s) (domains_made past)) (first_fit s past (heap_granules s t)) _ t h
birth_below s past d (act.Spawn name) h = spawned_below s past name (template_named s name) h
birth_below s past d _ h = cc

-- an entry that makes a domain comes after fewer than 64
birth_small : (s : System) (past : Past) (e : Entry) → IsNext s past e → is_birth e ≡ true → domains_made past < 64
unfolding is_birth domain_limit
birth_small s past e next h =
    let low : nat_le 64 (domains_made past) ≡ false = birth_below s past e.domain.0 e.act (ap (makes_domain e.act) (sym next.reply) ∙ h) in grind (arith, nat_tests)

-- an entry more leaves at most 64 domains
domains_step : (s : System) (past : Past) (e : Entry) (b : Bool) → IsNext s past e → is_birth e ≡ b → domains_made past ≤ 64 → domains_made (e ∷ past) ≤ 64
domains_step s past e true next h few = omega (arith, count_new is_birth e past h, birth_small s past e next h)
domains_step s past e false next h few = omega (arith, count_same is_birth e past h)

-- at most 64 domains are made
pub domains_few : (s : System) (past : Past) → IsAdmittedPast s past → domains_made past ≤ 64
unfolding count_where
domains_few s [] h = omega arith
domains_few s (e ∷ past) h = domains_step s past e (is_birth e) h.0 refl (domains_few s past h.1)

-- ---- services

-- an export that is answered with a service is below the limit
exported_below : (b : Bool) (iface c : ClassId) (k n : ℕ) → is_some (exported_interface (act.Export iface k) (b refuses refusal.TooMany else reply.Service (record { 0 = n }) c)) ≡ true → b ≡ false
unfolding exported_interface ◌refuses◌else◌
exported_below true iface c k n h = cc
exported_below false iface c k n h = refl

-- an act that makes a service is below the limit
export_below : (s : System) (past : Past) (d : ℕ) (a : Act) → is_some (exported_interface a (reply_to s past d a)) ≡ true → nat_le (service_limit s) (services_made past) ≡ false
unfolding reply_to new_service exported_interface
export_below s past d (act.Export iface k) h = exported_below (nat_le (service_limit s) (services_made past)) iface iface k _ h
export_below s past d _ h = cc

-- an entry that makes a service comes after fewer than 256
export_small : (s : System) (past : Past) (e : Entry) → IsNext s past e → is_export e ≡ true → services_made past < 256
unfolding is_export service_limit
export_small s past e next h =
    let low : nat_le 256 (services_made past) ≡ false = export_below s past e.domain.0 e.act (ap (λ (r : Reply). is_some (exported_interface e.act r)) (sym next.reply) ∙ h) in
    grind (arith, nat_tests)

-- an entry more leaves at most 256 services
services_step : (s : System) (past : Past) (e : Entry) (b : Bool) → IsNext s past e → is_export e ≡ b → services_made past ≤ 256 → services_made (e ∷ past) ≤ 256
services_step s past e true next h few = omega (arith, count_new is_export e past h, export_small s past e next h)
services_step s past e false next h few = omega (arith, count_same is_export e past h)

-- at most 256 services are made
pub services_few : (s : System) (past : Past) → IsAdmittedPast s past → services_made past ≤ 256
unfolding count_where
services_few s [] h = omega arith
services_few s (e ∷ past) h = services_step s past e (is_export e) h.0 refl (services_few s past h.1)

-- a service with an interface is one of those made
pub interface_within : (past : Past) (k : ℕ) (c : ClassId) → interface_of past k ≡ Some c → k ≤ services_made past
unfolding interface_of export_of
interface_within past k c h = by (nth_entry is_export past k) refl h
  where
    by : (o : Option Entry) → nth_entry is_export past k ≡ o → option_and_then (λ x. exported_interface x.act x.reply) o ≡ Some c → k ≤ services_made past
    by None q h = cc
    by (Some x) q h = (nth_passes is_export past k x q).2

-- ---- threads

-- the threads that an act adds are at most 8, and none where it makes no service
added_few : (s : System) (past : Past) (a : Act) (r : Reply) → IsWellMade s past a → (is_some (exported_interface a r) ≡ true → length (new_threads a r) ≤ 8) × (is_some (exported_interface a r) ≡ false → length (new_threads a r) ≤ 0)
unfolding new_threads exported_interface thread_limit
added_few s past (act.Export iface k) (reply.Service n c) h = ((λ e. omega (arith, h.2, length-replicate k n)), λ e. cc)
added_few s past a r h = ((λ e. omega arith), λ e. omega arith)

-- an entry adds to a domain at most what its act adds
added_to : (d : ℕ) (e : Entry) → length (new_threads_of d e) ≤ length (new_threads e.act e.reply)
unfolding new_threads_of
added_to d e = by (is_own d e)
  where
    by : (b : Bool) → length (if b then new_threads e.act e.reply else []) ≤ length (new_threads e.act e.reply)
    by true = omega arith
    by false = omega arith

-- an entry more leaves at most 8 threads for each service
threads_step : (s : System) (past : Past) (e : Entry) (d : ℕ) (b : Bool) → IsNext s past e → is_export e ≡ b → length (service_threads past d) ≤ 8 * services_made past →
    length (service_threads (e ∷ past) d) ≤ 8 * services_made (e ∷ past)
unfolding service_threads is_export
threads_step s past e d true next h few =
    omega (arith, length-append (service_threads past d) (new_threads_of d e), added_to d e, (added_few s past e.act e.reply next.well_made).0 h, count_new is_export e past h)
threads_step s past e d false next h few =
    omega (arith, length-append (service_threads past d) (new_threads_of d e), added_to d e, (added_few s past e.act e.reply next.well_made).1 h, count_same is_export e past h)

-- a domain has at most 8 threads for each service
pub threads_few : (s : System) (past : Past) (d : ℕ) → IsAdmittedPast s past → length (service_threads past d) ≤ 8 * services_made past
unfolding service_threads count_where
threads_few s [] d h = omega arith
threads_few s (e ∷ past) d h = threads_step s past e d (is_export e) h.0 refl (threads_few s past d h.1)

-- ---- entries

-- a live domain is one of those made
pub live_made : (past : Past) (d : ℕ) → is_live past d ≡ true → d ≤ domains_made past
unfolding is_live is_made
live_made past d h = let q = both (nat_lt 0 d) (nat_le d (domains_made past)) (both (is_made past d) _ h).0 in let l : nat_le d (domains_made past) ≡ true = q.1 in grind (arith, nat_tests)

-- a domain that may act is one of those made, or Domain Zero
acts_within : (s : System) (past : Past) (d t : ℕ) (a : Act) → acting_thread s past d a ≡ Some t → d ≤ domains_made past
acts_within s past d t a h = elim (acting_cases s past d t a h) [
  | inl z ↦ let e : (d == 0) ≡ true = z.0 in grind (arith, nat_tests)
  | inr x ↦ elim (domain_cases past d t a x.1) [ inl y ↦ live_made past d (running_live past d t y.0) | inr y ↦ live_made past d y.1 ]
]

-- the number of the domain of an entry that may come next is small
pub domain_small : (s : System) (past : Past) (e : Entry) → IsAdmittedPast s past → IsNext s past e → e.domain.0 < 2 ^ 32
domain_small s past e h next = omega (arith, acts_within s past e.domain.0 e.thread.0 e.act next.thread, domains_few s past h)

-- so is the number of its thread
pub thread_small : (s : System) (past : Past) (e : Entry) → IsAdmittedPast s past → IsNext s past e → e.thread.0 < 2 ^ 32
thread_small s past e h next = omega (arith, acting_within s past e.domain.0 e.thread.0 e.act next.thread, threads_few s past e.domain.0 h, services_few s past h)
