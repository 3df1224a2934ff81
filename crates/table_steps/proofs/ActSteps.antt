-- All that is kept stands for the past with the entry, after each kind of act that is done.
use Rattle.std.proofs.Common.{◌≡◌, refl, sym, ◌∙◌, ap, ℕ, ◌+◌, ◌≤◌, ℤ, pos, Bool, true, false, not, ◌&&◌, ◌||◌, List, [], ◌∷◌, ◌++◌, length, replicate, Option, Some, None, arith, ◌==◌, inr, filter, set}
use Rattle.jx_base.specs.declared.act.Act.TheVariants as act
use Rattle.jx_base.specs.declared.act.Reply.{Reply}
use Rattle.jx_base.specs.declared.act.Reply.TheVariants as reply
use Rattle.jx_base.specs.declared.ids.CallId.{CallId}
use Rattle.jx_base.specs.declared.ids.ClassId.{ClassId}
use Rattle.jx_base.specs.declared.ids.DomainId.{DomainId}
use Rattle.jx_base.specs.declared.ids.MethodId.{MethodId}
use Rattle.jx_base.specs.declared.ids.ObjectId.{ObjectId}
use Rattle.jx_base.specs.declared.ids.ServiceId.{ServiceId}
use Rattle.jx_base.specs.declared.value.Parcel.{Parcel}
use Rattle.jx_base.specs.declared.states.CallState.TheVariants as call
use Rattle.jx_base.specs.declared.program.System.{System}
use Rattle.jx_base.specs.Basics.{passes, is_number, not_below_zero, numbered, low_byte}
use Rattle.program_model.specs.ParcelParts.{parcel_objects}
use Rattle.jx_base.specs.Histories.{Past, is_done, is_own}
use Rattle.jx_model.specs.Domains.{is_birth, makes_domain, ended_by, ended_by_act}
use Rattle.jx_model.specs.Threads.{new_threads}
use Rattle.jx_model.specs.Portals.{is_export, exported_interface, services_made, received_service, received_parcel, gives_portal, bound_by_act}
use Rattle.jx_model.specs.Calls.{Answer, is_call, asked_by, queued_as, is_take_of, is_resume_of, answered_by_act, answer_by_reply, answer_kind, thrown}
use Rattle.jx_model.specs.MemoryObjects.{Part, made_of, part_within, sides_at, object_part, is_valid, ends_one_of, objects_of, new_parts, extents_made, is_allocation, makes_extent, ended_object, allocated_bytes}
use Rattle.jx_model.specs.Holding.{holds_object, received_objects, objects_in, is_drop_of, answer_objects, is_extent_in_use}
use Rattle.jx_model.specs.Granules.{Run}
use Rattle.jx_model.specs.Permits.{is_choice, is_halt, zero_may}
use Rattle.jx_model.specs.Replies.{reply_to, bound, done_within, copied, new_service, ◌refuses◌else◌}
use Rattle.jx_model.specs.Bytes.{byte_at}
use Rattle.jx_model.specs.Growth.{new_object_numbers}
use Rattle.jx_model.specs.Tables.{Kept, StandsFor, ThreadRecord, ServiceRecord, CallRecord, call_record, ExtentRecord, extent_record, extent_bytes, ObjectRecord, call_records, extent_records}
use Rattle.jx_model.specs.Legal.{IsNext}
use Rattle.jx_base.proofs.BasicLaws.{ap2, and_false, and_true}
use Rattle.table_threads.proofs.Records.{is_that, not_that, or_false, set_changed}
use Rattle.table_threads.specs.Changes.{changed_at}
use Rattle.table_threads.proofs.Actors.{acts_live}
use Rattle.table_threads.specs.ThreadChanges.{thread_record_after, first_records, own_changed, own_added}
use Rattle.table_threads.proofs.CallStages.{takes_queued, returns_running, throws_running}
use Rattle.table_threads.proofs.ThreadActs.{threads_left, threads_stepped, threads_born, threads_exported}
use Rattle.table_threads.proofs.CallRecords.{calls_counted, call_record_there}
use Rattle.table_threads.specs.CallChanges.{entry}
use Rattle.table_threads.proofs.CallActs.{calls_untouched, calls_after_call, waiting_after_call, calls_after_take, waiting_after_take, calls_after_answer, waiting_after_answer, running_not_queued, return_answers, throw_answers, sent_objects, calls_after_resume, waiting_after_resume, resumes_stand}
use Rattle.table_objects.proofs.UsedBefore.{ByDomain}
use Rattle.jx_model.proofs.DoneReplies.{undone}
use Rattle.table_objects.proofs.ExtentsInUse.{in_use}
use Rattle.table_objects.proofs.Parts.{part_extent, with_done}
use Rattle.table_extents.specs.ExtentChanges.{written}
use Rattle.table_extents.proofs.ByteRecords.{bytes_after_fill, others_after_fill, bytes_after_set, others_after_set, bytes_after_copy, others_after_copy}
use Rattle.jx_model.proofs.Exported.{exported_stays}
use Rattle.table_objects.proofs.ServiceRecords.{services_more, services_kept, portals_same}
use Rattle.table_objects.specs.ObjectChanges.{new_service_record, new_object_record}
use Rattle.table_threads.proofs.Binds.{binds_after_bind}
use Rattle.table_extents.proofs.ExtentRecords.{extents_more, extents_written, kept_bytes, extent_record_there}
use Rattle.table_steps.specs.Steps.{allocated_run, after_call, after_take, after_answer, after_resume, after_birth, after_export, after_bind, after_lookup, after_alloc, after_sub, after_revoke, after_write}
use Rattle.table_steps.proofs.Unchanged.{over_after, words_after, creates_after, no_drop, keeps_domains, keeps_services, keeps_names, keeps_calls, keeps_waiting, keeps_parts, keeps_objects, keeps_extents, keeps_taken}
use Rattle.table_steps.proofs.StepParts.{domains_born, services_stepped, objects_stepped, objects_beside, each_same, parts_added, extents_counted, taken_born, allocated_run_is, taken_allocated}
use Rattle.std.specs.Option.{option_map}
use Rattle.std.specs.Prelude.{if◌then◌else◌, nat_le, ◌-◌}
use Rattle.program_model.specs.Limits.{service_limit}
use Rattle.jx_base.specs.declared.act.Refusal.TheVariants as refusal

both_hold : (x y : Bool) → not (x && y) ≡ false → (x ≡ true) × (y ≡ true)
both_hold true true h = (refl, refl)
both_hold true false h = cc
both_hold false y h = cc

-- a done copy is into a valid object that its actor holds
pub copy_held : (past : Past) (d : ℕ) (j : ObjectId) (j_at : ℤ) (m : ObjectId) (at count : ℤ) → is_done (copied past d j j_at m at count) ≡ true → (holds_object past d m.0 ≡ true) × (is_valid past m.0 ≡ true)
unfolding copied
copy_held past d j j_at m at count h =
    let x = undone (not (holds_object past d j.0 && holds_object past d m.0)) _ _ h in
    let y = undone (not (is_valid past j.0 && is_valid past m.0)) _ _ x.1 in
    ((both_hold (holds_object past d j.0) (holds_object past d m.0) x.0).1, (both_hold (is_valid past j.0) (is_valid past m.0) y.0).1)

one_before : (x : ℕ) → 1 ≤ x → x ≡ (x - 1) + 1
one_before x l = omega (arith, l)

exported_number : (s : System) (past : Past) (d : ℕ) (iface : ClassId) (j : ℕ) (v : ServiceId) (c : ClassId) → reply.Service v c ≡ reply_to s past d (act.Export iface j) → v.0 ≡ services_made past + 1
unfolding reply_to new_service ◌refuses◌else◌
exported_number s past d iface j v c q = by (nat_le (service_limit s) (services_made past)) q
  where
    by : (b : Bool) → reply.Service v c ≡ (if b then reply.Refused refusal.TooMany else reply.Service (record { 0 = services_made past + 1 }) iface) → v.0 ≡ services_made past + 1
    by true q = cc
    by false q = let z : v ≡ record { 0 = services_made past + 1 } = cc in ap (λ (y : ServiceId). y.0) z

-- a create that makes a domain
pub stands_after_create : (s : System) (k : Kept) (d t : ℕ) (x : ℕ) (j : DomainId) (g : ℕ) → StandsFor s k → IsNext s k.past (entry d t (act.Create x) (reply.Domain j g)) →
    StandsFor s (after_birth s k (entry d t (act.Create x) (reply.Domain j g)))
unfolding is_birth makes_domain ended_by ended_by_act is_export exported_interface received_service received_parcel bound_by_act is_call asked_by queued_as is_take_of is_resume_of answered_by_act new_parts received_objects objects_in is_drop_of ended_object is_allocation makes_extent is_done new_threads is_choice
stands_after_create s k d t x j g h n =
    record {
      admitted = (n, h.admitted);
      over = over_after s k (entry d t (act.Create x) (reply.Domain j g)) h n;
      words = words_after s k (entry d t (act.Create x) (reply.Domain j g)) h n;
      creates = creates_after s k (entry d t (act.Create x) (reply.Domain j g)) h n;
      domains = domains_born s k (entry d t (act.Create x) (reply.Domain j g)) h n refl refl;
      threads = ap (λ (xs : List (List ThreadRecord)). xs ++ first_records ∷ []) h.threads ∙ sym (threads_born s k.past (entry d t (act.Create x) (reply.Domain j g)) (n, h.admitted) refl refl refl refl);
      services = keeps_services s k (entry d t (act.Create x) (reply.Domain j g)) h n (record { export = refl; service = refl; parcel = refl; bind = λ x. refl }) refl;
      names = keeps_names s k (entry d t (act.Create x) (reply.Domain j g)) h n (λ x. refl);
      calls = keeps_calls s k (entry d t (act.Create x) (reply.Domain j g)) h n (record { call = refl; ends = refl; take = λ x. refl; resume = λ x. refl; answer = λ x. refl });
      waiting = keeps_waiting s k (entry d t (act.Create x) (reply.Domain j g)) h n (record { call = refl; ends = refl; take = λ x. refl; resume = λ x. refl; answer = λ x. refl });
      parts = keeps_parts s k (entry d t (act.Create x) (reply.Domain j g)) h n refl;
      objects = keeps_objects s k (entry d t (act.Create x) (reply.Domain j g)) h n (record { parts = refl; received = refl; drop = λ x. refl; ending = inr refl; allocation = refl }) (record { call = refl; ends = refl; take = λ x. refl; resume = λ x. refl; answer = λ x. refl });
      extents = keeps_extents s k (entry d t (act.Create x) (reply.Domain j g)) h n refl refl (λ x. refl) refl;
      taken = taken_born s k (entry d t (act.Create x) (reply.Domain j g)) h n refl refl (no_drop (entry d t (act.Create x) (reply.Domain j g)) (λ x. refl));
    }

-- a spawn that makes a domain
pub stands_after_spawn : (s : System) (k : Kept) (d t : ℕ) (x : List ℕ) (j : DomainId) (g : ℕ) → StandsFor s k → IsNext s k.past (entry d t (act.Spawn x) (reply.Domain j g)) →
    StandsFor s (after_birth s k (entry d t (act.Spawn x) (reply.Domain j g)))
unfolding is_birth makes_domain ended_by ended_by_act is_export exported_interface received_service received_parcel bound_by_act is_call asked_by queued_as is_take_of is_resume_of answered_by_act new_parts received_objects objects_in is_drop_of ended_object is_allocation makes_extent is_done new_threads is_choice
stands_after_spawn s k d t x j g h n =
    record {
      admitted = (n, h.admitted);
      over = over_after s k (entry d t (act.Spawn x) (reply.Domain j g)) h n;
      words = words_after s k (entry d t (act.Spawn x) (reply.Domain j g)) h n;
      creates = creates_after s k (entry d t (act.Spawn x) (reply.Domain j g)) h n;
      domains = domains_born s k (entry d t (act.Spawn x) (reply.Domain j g)) h n refl refl;
      threads = ap (λ (xs : List (List ThreadRecord)). xs ++ first_records ∷ []) h.threads ∙ sym (threads_born s k.past (entry d t (act.Spawn x) (reply.Domain j g)) (n, h.admitted) refl refl refl refl);
      services = keeps_services s k (entry d t (act.Spawn x) (reply.Domain j g)) h n (record { export = refl; service = refl; parcel = refl; bind = λ x. refl }) refl;
      names = keeps_names s k (entry d t (act.Spawn x) (reply.Domain j g)) h n (λ x. refl);
      calls = keeps_calls s k (entry d t (act.Spawn x) (reply.Domain j g)) h n (record { call = refl; ends = refl; take = λ x. refl; resume = λ x. refl; answer = λ x. refl });
      waiting = keeps_waiting s k (entry d t (act.Spawn x) (reply.Domain j g)) h n (record { call = refl; ends = refl; take = λ x. refl; resume = λ x. refl; answer = λ x. refl });
      parts = keeps_parts s k (entry d t (act.Spawn x) (reply.Domain j g)) h n refl;
      objects = keeps_objects s k (entry d t (act.Spawn x) (reply.Domain j g)) h n (record { parts = refl; received = refl; drop = λ x. refl; ending = inr refl; allocation = refl }) (record { call = refl; ends = refl; take = λ x. refl; resume = λ x. refl; answer = λ x. refl });
      extents = keeps_extents s k (entry d t (act.Spawn x) (reply.Domain j g)) h n refl refl (λ x. refl) refl;
      taken = taken_born s k (entry d t (act.Spawn x) (reply.Domain j g)) h n refl refl (no_drop (entry d t (act.Spawn x) (reply.Domain j g)) (λ x. refl));
    }

-- an export that makes a service
pub stands_after_export : (s : System) (k : Kept) (d t : ℕ) (iface : ClassId) (j : ℕ) (v : ServiceId) (c : ClassId) → StandsFor s k → IsNext s k.past (entry d t (act.Export iface j) (reply.Service v c)) →
    StandsFor s (after_export s k (entry d t (act.Export iface j) (reply.Service v c)) v iface j)
unfolding is_birth makes_domain ended_by ended_by_act is_export exported_interface received_service received_parcel bound_by_act is_call asked_by queued_as is_take_of is_resume_of answered_by_act new_parts received_objects objects_in is_drop_of ended_object is_allocation makes_extent is_done new_threads is_choice is_halt zero_may gives_portal is_number passes
stands_after_export s k d t iface j v c h n =
    record {
      admitted = (n, h.admitted);
      over = over_after s k (entry d t (act.Export iface j) (reply.Service v c)) h n;
      words = words_after s k (entry d t (act.Export iface j) (reply.Service v c)) h n;
      creates = creates_after s k (entry d t (act.Export iface j) (reply.Service v c)) h n;
      domains = keeps_domains s k (entry d t (act.Export iface j) (reply.Service v c)) h n (record { birth = refl; ends = refl });
      threads = ap (own_added d (replicate j v)) h.threads ∙ sym (threads_exported s k.past (entry d t (act.Export iface j) (reply.Service v c)) (n, h.admitted) refl refl refl);
      services = ap (λ (xs : List ServiceRecord). xs ++ new_service_record s d (Some iface) ∷ []) h.services ∙ sym (services_more s (entry d t (act.Export iface j) (reply.Service v c)) k.past n refl (or_false (v.0 == services_made k.past + 1) ∙ is_that v.0 (services_made k.past + 1) number) refl (λ b i l u. ap (λ (x : Bool). is_own b (entry d t (act.Export iface j) (reply.Service v c)) && (x || false)) (not_that v.0 i (λ z. omega (arith, z, number, u))) ∙ and_false (is_own b (entry d t (act.Export iface j) (reply.Service v c)))));
      names = keeps_names s k (entry d t (act.Export iface j) (reply.Service v c)) h n (λ x. refl);
      calls = keeps_calls s k (entry d t (act.Export iface j) (reply.Service v c)) h n (record { call = refl; ends = refl; take = λ x. refl; resume = λ x. refl; answer = λ x. refl });
      waiting = keeps_waiting s k (entry d t (act.Export iface j) (reply.Service v c)) h n (record { call = refl; ends = refl; take = λ x. refl; resume = λ x. refl; answer = λ x. refl });
      parts = keeps_parts s k (entry d t (act.Export iface j) (reply.Service v c)) h n refl;
      objects = keeps_objects s k (entry d t (act.Export iface j) (reply.Service v c)) h n (record { parts = refl; received = refl; drop = λ x. refl; ending = inr refl; allocation = refl }) (record { call = refl; ends = refl; take = λ x. refl; resume = λ x. refl; answer = λ x. refl });
      extents = keeps_extents s k (entry d t (act.Export iface j) (reply.Service v c)) h n refl refl (λ x. refl) refl;
      taken = keeps_taken s k (entry d t (act.Export iface j) (reply.Service v c)) h n (record { birth = refl; ends = refl }) refl (λ x. refl);
    }
  where
    number : v.0 ≡ services_made k.past + 1
    number = exported_number s k.past d iface j v c n.reply

-- a bind
pub stands_after_bind : (s : System) (k : Kept) (d t : ℕ) (name : List ℕ) (v : ServiceId) → StandsFor s k → IsNext s k.past (entry d t (act.Bind name v) reply.Done) →
    StandsFor s (after_bind k (entry d t (act.Bind name v) reply.Done) name v)
unfolding is_birth makes_domain ended_by ended_by_act is_export exported_interface received_service received_parcel bound_by_act is_call asked_by queued_as is_take_of is_resume_of answered_by_act new_parts received_objects objects_in is_drop_of ended_object is_allocation makes_extent is_done new_threads is_choice reply_to bound gives_portal is_number passes
stands_after_bind s k d t name v h n =
    record {
      admitted = (n, h.admitted);
      over = over_after s k (entry d t (act.Bind name v) reply.Done) h n;
      words = words_after s k (entry d t (act.Bind name v) reply.Done) h n;
      creates = creates_after s k (entry d t (act.Bind name v) reply.Done) h n;
      domains = keeps_domains s k (entry d t (act.Bind name v) reply.Done) h n (record { birth = refl; ends = refl });
      threads = h.threads ∙ sym (threads_left s k.past (entry d t (act.Bind name v) reply.Done) n refl refl refl refl);
      services = h.services ∙ sym (services_kept s (entry d t (act.Bind name v) reply.Done) k.past refl (λ j l u. portals_same s (entry d t (act.Bind name v) reply.Done) k.past j n (exported_stays (entry d t (act.Bind name v) reply.Done) k.past j (record { low = l; high = u })) refl (λ b. and_false (is_own b (entry d t (act.Bind name v) reply.Done)))));
      names = binds_after_bind k.names (entry d t (act.Bind name v) reply.Done) k.past name v.0 h.names (λ x. refl);
      calls = keeps_calls s k (entry d t (act.Bind name v) reply.Done) h n (record { call = refl; ends = refl; take = λ x. refl; resume = λ x. refl; answer = λ x. refl });
      waiting = keeps_waiting s k (entry d t (act.Bind name v) reply.Done) h n (record { call = refl; ends = refl; take = λ x. refl; resume = λ x. refl; answer = λ x. refl });
      parts = keeps_parts s k (entry d t (act.Bind name v) reply.Done) h n refl;
      objects = keeps_objects s k (entry d t (act.Bind name v) reply.Done) h n (record { parts = refl; received = refl; drop = λ x. refl; ending = inr refl; allocation = refl }) (record { call = refl; ends = refl; take = λ x. refl; resume = λ x. refl; answer = λ x. refl });
      extents = keeps_extents s k (entry d t (act.Bind name v) reply.Done) h n refl refl (λ x. refl) refl;
      taken = keeps_taken s k (entry d t (act.Bind name v) reply.Done) h n (record { birth = refl; ends = refl }) refl (λ x. refl);
    }

-- a lookup that finds a service
pub stands_after_lookup : (s : System) (k : Kept) (d t : ℕ) (name : List ℕ) (v : ServiceId) (c : ClassId) → StandsFor s k → IsNext s k.past (entry d t (act.Lookup name) (reply.Service v c)) →
    StandsFor s (after_lookup k (entry d t (act.Lookup name) (reply.Service v c)))
unfolding is_birth makes_domain ended_by ended_by_act is_export exported_interface received_service received_parcel bound_by_act is_call asked_by queued_as is_take_of is_resume_of answered_by_act new_parts received_objects objects_in is_drop_of ended_object is_allocation makes_extent is_done new_threads is_choice
stands_after_lookup s k d t name v c h n =
    record {
      admitted = (n, h.admitted);
      over = over_after s k (entry d t (act.Lookup name) (reply.Service v c)) h n;
      words = words_after s k (entry d t (act.Lookup name) (reply.Service v c)) h n;
      creates = creates_after s k (entry d t (act.Lookup name) (reply.Service v c)) h n;
      domains = keeps_domains s k (entry d t (act.Lookup name) (reply.Service v c)) h n (record { birth = refl; ends = refl });
      threads = h.threads ∙ sym (threads_left s k.past (entry d t (act.Lookup name) (reply.Service v c)) n refl refl refl refl);
      services = services_stepped s k (entry d t (act.Lookup name) (reply.Service v c)) h n refl;
      names = keeps_names s k (entry d t (act.Lookup name) (reply.Service v c)) h n (λ x. refl);
      calls = keeps_calls s k (entry d t (act.Lookup name) (reply.Service v c)) h n (record { call = refl; ends = refl; take = λ x. refl; resume = λ x. refl; answer = λ x. refl });
      waiting = keeps_waiting s k (entry d t (act.Lookup name) (reply.Service v c)) h n (record { call = refl; ends = refl; take = λ x. refl; resume = λ x. refl; answer = λ x. refl });
      parts = keeps_parts s k (entry d t (act.Lookup name) (reply.Service v c)) h n refl;
      objects = keeps_objects s k (entry d t (act.Lookup name) (reply.Service v c)) h n (record { parts = refl; received = refl; drop = λ x. refl; ending = inr refl; allocation = refl }) (record { call = refl; ends = refl; take = λ x. refl; resume = λ x. refl; answer = λ x. refl });
      extents = keeps_extents s k (entry d t (act.Lookup name) (reply.Service v c)) h n refl refl (λ x. refl) refl;
      taken = keeps_taken s k (entry d t (act.Lookup name) (reply.Service v c)) h n (record { birth = refl; ends = refl }) refl (λ x. refl);
    }

-- a call that is queued
pub stands_after_call : (s : System) (k : Kept) (d t : ℕ) (v : ServiceId) (m : MethodId) (p : Parcel) (c : CallId) → StandsFor s k → IsNext s k.past (entry d t (act.Call v m p) (reply.Queued c)) →
    StandsFor s (after_call k (entry d t (act.Call v m p) (reply.Queued c)) v p)
unfolding is_birth makes_domain ended_by ended_by_act is_export exported_interface received_service received_parcel bound_by_act is_call asked_by queued_as is_take_of is_resume_of answered_by_act new_parts received_objects objects_in is_drop_of ended_object is_allocation makes_extent is_done new_threads is_choice
stands_after_call s k d t v m p c h n =
    record {
      admitted = (n, h.admitted);
      over = over_after s k (entry d t (act.Call v m p) (reply.Queued c)) h n;
      words = words_after s k (entry d t (act.Call v m p) (reply.Queued c)) h n;
      creates = creates_after s k (entry d t (act.Call v m p) (reply.Queued c)) h n;
      domains = keeps_domains s k (entry d t (act.Call v m p) (reply.Queued c)) h n (record { birth = refl; ends = refl });
      threads = ap (own_changed d t (λ item. thread_record_after item (act.Call v m p) (reply.Queued c))) h.threads ∙ sym (threads_stepped s k.past (entry d t (act.Call v m p) (reply.Queued c)) n refl refl);
      services = keeps_services s k (entry d t (act.Call v m p) (reply.Queued c)) h n (record { export = refl; service = refl; parcel = refl; bind = λ x. refl }) refl;
      names = keeps_names s k (entry d t (act.Call v m p) (reply.Queued c)) h n (λ x. refl);
      calls = (ap (λ (xs : List CallRecord). xs ++ (record { caller = d; thread = t; service = v.0; state = call.Queued; carried = parcel_objects p; queued_at = length k.past; answered_at = None }) ∷ []) h.calls ∙ sym (calls_after_call s k.past h.admitted d t v m p c));
      waiting = ap2 (λ (xs : List ℕ) (i : ℕ). xs ++ (i + 1) ∷ []) h.waiting (ap length h.calls ∙ calls_counted k.past) ∙ sym (waiting_after_call s k.past h.admitted d t v m p c);
      parts = keeps_parts s k (entry d t (act.Call v m p) (reply.Queued c)) h n refl;
      objects = objects_stepped s k (entry d t (act.Call v m p) (reply.Queued c)) h n (k.calls ++ (record { caller = d; thread = t; service = v.0; state = call.Queued; carried = parcel_objects p; queued_at = length k.past; answered_at = None }) ∷ []) refl (ap (λ (xs : List CallRecord). xs ++ (record { caller = d; thread = t; service = v.0; state = call.Queued; carried = parcel_objects p; queued_at = length k.past; answered_at = None }) ∷ []) h.calls ∙ sym (calls_after_call s k.past h.admitted d t v m p c));
      extents = keeps_extents s k (entry d t (act.Call v m p) (reply.Queued c)) h n refl refl (λ x. refl) refl;
      taken = keeps_taken s k (entry d t (act.Call v m p) (reply.Queued c)) h n (record { birth = refl; ends = refl }) refl (λ x. refl);
    }

-- a take
pub stands_after_take : (s : System) (k : Kept) (d t : ℕ) (c : CallId) (r : Reply) → StandsFor s k → IsNext s k.past (entry d t (act.Take c) r) →
    StandsFor s (after_take k (entry d t (act.Take c) r) c.0)
unfolding is_birth makes_domain ended_by ended_by_act is_export exported_interface received_service received_parcel bound_by_act is_call asked_by queued_as is_take_of is_resume_of answered_by_act new_parts received_objects objects_in is_drop_of ended_object is_allocation makes_extent is_done new_threads is_choice
stands_after_take s k d t c r h n =
    record {
      admitted = (n, h.admitted);
      over = over_after s k (entry d t (act.Take c) r) h n;
      words = words_after s k (entry d t (act.Take c) r) h n;
      creates = creates_after s k (entry d t (act.Take c) r) h n;
      domains = keeps_domains s k (entry d t (act.Take c) r) h n (record { birth = refl; ends = refl });
      threads = ap (own_changed d t (λ item. thread_record_after item (act.Take c) r)) h.threads ∙ sym (threads_stepped s k.past (entry d t (act.Take c) r) n refl refl);
      services = services_stepped s k (entry d t (act.Take c) r) h n refl;
      names = keeps_names s k (entry d t (act.Take c) r) h n (λ x. refl);
      calls = (ap (changed_at (c.0 - 1) (λ (item : CallRecord). record item { state = call.Running; carried = [] })) h.calls ∙ sym (set_changed (c.0 - 1) (λ (item : CallRecord). record item { state = call.Running; carried = [] }) (call_records k.past) (call_record k.past c.0) (call_record_there k.past c.0 (c.0 - 1) (one_before c.0 (takes_queued s k.past d t c h.admitted n.thread).low) (takes_queued s k.past d t c h.admitted n.thread).high)) ∙ sym (calls_after_take s k.past h.admitted d t c r (c.0 - 1) (one_before c.0 (takes_queued s k.past d t c h.admitted n.thread).low) (takes_queued s k.past d t c h.admitted n.thread)));
      waiting = ap (filter (λ x. not (c.0 == x))) h.waiting ∙ sym (waiting_after_take s k.past h.admitted d t c r);
      parts = keeps_parts s k (entry d t (act.Take c) r) h n refl;
      objects = objects_stepped s k (entry d t (act.Take c) r) h n (changed_at (c.0 - 1) (λ item. record item { state = call.Running; carried = [] }) k.calls) refl (ap (changed_at (c.0 - 1) (λ (item : CallRecord). record item { state = call.Running; carried = [] })) h.calls ∙ sym (set_changed (c.0 - 1) (λ (item : CallRecord). record item { state = call.Running; carried = [] }) (call_records k.past) (call_record k.past c.0) (call_record_there k.past c.0 (c.0 - 1) (one_before c.0 (takes_queued s k.past d t c h.admitted n.thread).low) (takes_queued s k.past d t c h.admitted n.thread).high)) ∙ sym (calls_after_take s k.past h.admitted d t c r (c.0 - 1) (one_before c.0 (takes_queued s k.past d t c h.admitted n.thread).low) (takes_queued s k.past d t c h.admitted n.thread)));
      extents = keeps_extents s k (entry d t (act.Take c) r) h n refl refl (λ x. and_false (is_done r)) (and_false (is_done r));
      taken = keeps_taken s k (entry d t (act.Take c) r) h n (record { birth = refl; ends = refl }) refl (λ x. and_false (is_done r));
    }

-- a return, done or refused
pub stands_after_return : (s : System) (k : Kept) (d t : ℕ) (c : CallId) (p : Parcel) (r : Reply) → StandsFor s k → IsNext s k.past (entry d t (act.Return c p) r) →
    StandsFor s (after_answer k (entry d t (act.Return c p) r) c.0 (answer_by_reply r (Answer.Value p)))
unfolding is_birth makes_domain ended_by ended_by_act is_export exported_interface received_service received_parcel bound_by_act is_call asked_by queued_as is_take_of is_resume_of answered_by_act new_parts received_objects objects_in is_drop_of ended_object is_allocation makes_extent is_done new_threads is_choice reply_to
stands_after_return s k d t c p r h n =
    record {
      admitted = (n, h.admitted);
      over = over_after s k (entry d t (act.Return c p) r) h n;
      words = words_after s k (entry d t (act.Return c p) r) h n;
      creates = creates_after s k (entry d t (act.Return c p) r) h n;
      domains = keeps_domains s k (entry d t (act.Return c p) r) h n (record { birth = refl; ends = refl });
      threads = ap (own_changed d t (λ item. thread_record_after item (act.Return c p) r)) h.threads ∙ sym (threads_stepped s k.past (entry d t (act.Return c p) r) n refl refl);
      services = keeps_services s k (entry d t (act.Return c p) r) h n (record { export = refl; service = refl; parcel = refl; bind = λ x. refl }) refl;
      names = keeps_names s k (entry d t (act.Return c p) r) h n (λ x. refl);
      calls = (ap (changed_at (c.0 - 1) (λ (item : CallRecord). record item { state = call.Answered (answer_kind (answer_by_reply r (Answer.Value p))); carried = answer_objects (Some (answer_by_reply r (Answer.Value p))); answered_at = Some (length k.past) })) h.calls ∙ sym (set_changed (c.0 - 1) (λ (item : CallRecord). record item { state = call.Answered (answer_kind (answer_by_reply r (Answer.Value p))); carried = answer_objects (Some (answer_by_reply r (Answer.Value p))); answered_at = Some (length k.past) }) (call_records k.past) (call_record k.past c.0) (call_record_there k.past c.0 (c.0 - 1) (one_before c.0 (returns_running s k.past d t c p h.admitted n.thread).low) (returns_running s k.past d t c p h.admitted n.thread).high)) ∙ sym (calls_after_answer s k.past (entry d t (act.Return c p) r) c.0 (c.0 - 1) (answer_by_reply r (Answer.Value p)) h.admitted (return_answers k.past d t c p r) (one_before c.0 (returns_running s k.past d t c p h.admitted n.thread).low) (returns_running s k.past d t c p h.admitted n.thread) ∙ ap (λ (ys : List ℕ). set (call_records k.past) (c.0 - 1) (let item : CallRecord = record (call_record k.past c.0) { state = call.Answered (answer_kind (answer_by_reply r (Answer.Value p))); carried = ys; answered_at = Some (length k.past) } in item)) (sent_objects s k.past d c.0 p r (Answer.Value p) n.reply)));
      waiting = h.waiting ∙ sym (waiting_after_answer k.past (entry d t (act.Return c p) r) c.0 (answer_by_reply r (Answer.Value p)) (return_answers k.past d t c p r) (running_not_queued k.past c.0 (returns_running s k.past d t c p h.admitted n.thread).state));
      parts = keeps_parts s k (entry d t (act.Return c p) r) h n refl;
      objects = objects_stepped s k (entry d t (act.Return c p) r) h n (changed_at (c.0 - 1) (λ item. record item { state = call.Answered (answer_kind (answer_by_reply r (Answer.Value p))); carried = answer_objects (Some (answer_by_reply r (Answer.Value p))); answered_at = Some (length k.past) }) k.calls) refl (ap (changed_at (c.0 - 1) (λ (item : CallRecord). record item { state = call.Answered (answer_kind (answer_by_reply r (Answer.Value p))); carried = answer_objects (Some (answer_by_reply r (Answer.Value p))); answered_at = Some (length k.past) })) h.calls ∙ sym (set_changed (c.0 - 1) (λ (item : CallRecord). record item { state = call.Answered (answer_kind (answer_by_reply r (Answer.Value p))); carried = answer_objects (Some (answer_by_reply r (Answer.Value p))); answered_at = Some (length k.past) }) (call_records k.past) (call_record k.past c.0) (call_record_there k.past c.0 (c.0 - 1) (one_before c.0 (returns_running s k.past d t c p h.admitted n.thread).low) (returns_running s k.past d t c p h.admitted n.thread).high)) ∙ sym (calls_after_answer s k.past (entry d t (act.Return c p) r) c.0 (c.0 - 1) (answer_by_reply r (Answer.Value p)) h.admitted (return_answers k.past d t c p r) (one_before c.0 (returns_running s k.past d t c p h.admitted n.thread).low) (returns_running s k.past d t c p h.admitted n.thread) ∙ ap (λ (ys : List ℕ). set (call_records k.past) (c.0 - 1) (let item : CallRecord = record (call_record k.past c.0) { state = call.Answered (answer_kind (answer_by_reply r (Answer.Value p))); carried = ys; answered_at = Some (length k.past) } in item)) (sent_objects s k.past d c.0 p r (Answer.Value p) n.reply)));
      extents = keeps_extents s k (entry d t (act.Return c p) r) h n refl refl (λ x. and_false (is_done r)) (and_false (is_done r));
      taken = keeps_taken s k (entry d t (act.Return c p) r) h n (record { birth = refl; ends = refl }) refl (λ x. and_false (is_done r));
    }

-- a throw, done or refused
pub stands_after_throw : (s : System) (k : Kept) (d t : ℕ) (c : CallId) (p : Parcel) (r : Reply) → StandsFor s k → IsNext s k.past (entry d t (act.Throw c p) r) →
    StandsFor s (after_answer k (entry d t (act.Throw c p) r) c.0 (answer_by_reply r (thrown p)))
unfolding is_birth makes_domain ended_by ended_by_act is_export exported_interface received_service received_parcel bound_by_act is_call asked_by queued_as is_take_of is_resume_of answered_by_act new_parts received_objects objects_in is_drop_of ended_object is_allocation makes_extent is_done new_threads is_choice reply_to
stands_after_throw s k d t c p r h n =
    record {
      admitted = (n, h.admitted);
      over = over_after s k (entry d t (act.Throw c p) r) h n;
      words = words_after s k (entry d t (act.Throw c p) r) h n;
      creates = creates_after s k (entry d t (act.Throw c p) r) h n;
      domains = keeps_domains s k (entry d t (act.Throw c p) r) h n (record { birth = refl; ends = refl });
      threads = ap (own_changed d t (λ item. thread_record_after item (act.Throw c p) r)) h.threads ∙ sym (threads_stepped s k.past (entry d t (act.Throw c p) r) n refl refl);
      services = keeps_services s k (entry d t (act.Throw c p) r) h n (record { export = refl; service = refl; parcel = refl; bind = λ x. refl }) refl;
      names = keeps_names s k (entry d t (act.Throw c p) r) h n (λ x. refl);
      calls = (ap (changed_at (c.0 - 1) (λ (item : CallRecord). record item { state = call.Answered (answer_kind (answer_by_reply r (thrown p))); carried = answer_objects (Some (answer_by_reply r (thrown p))); answered_at = Some (length k.past) })) h.calls ∙ sym (set_changed (c.0 - 1) (λ (item : CallRecord). record item { state = call.Answered (answer_kind (answer_by_reply r (thrown p))); carried = answer_objects (Some (answer_by_reply r (thrown p))); answered_at = Some (length k.past) }) (call_records k.past) (call_record k.past c.0) (call_record_there k.past c.0 (c.0 - 1) (one_before c.0 (throws_running s k.past d t c p h.admitted n.thread).low) (throws_running s k.past d t c p h.admitted n.thread).high)) ∙ sym (calls_after_answer s k.past (entry d t (act.Throw c p) r) c.0 (c.0 - 1) (answer_by_reply r (thrown p)) h.admitted (throw_answers k.past d t c p r) (one_before c.0 (throws_running s k.past d t c p h.admitted n.thread).low) (throws_running s k.past d t c p h.admitted n.thread) ∙ ap (λ (ys : List ℕ). set (call_records k.past) (c.0 - 1) (let item : CallRecord = record (call_record k.past c.0) { state = call.Answered (answer_kind (answer_by_reply r (thrown p))); carried = ys; answered_at = Some (length k.past) } in item)) (sent_objects s k.past d c.0 p r (thrown p) n.reply)));
      waiting = h.waiting ∙ sym (waiting_after_answer k.past (entry d t (act.Throw c p) r) c.0 (answer_by_reply r (thrown p)) (throw_answers k.past d t c p r) (running_not_queued k.past c.0 (throws_running s k.past d t c p h.admitted n.thread).state));
      parts = keeps_parts s k (entry d t (act.Throw c p) r) h n refl;
      objects = objects_stepped s k (entry d t (act.Throw c p) r) h n (changed_at (c.0 - 1) (λ item. record item { state = call.Answered (answer_kind (answer_by_reply r (thrown p))); carried = answer_objects (Some (answer_by_reply r (thrown p))); answered_at = Some (length k.past) }) k.calls) refl (ap (changed_at (c.0 - 1) (λ (item : CallRecord). record item { state = call.Answered (answer_kind (answer_by_reply r (thrown p))); carried = answer_objects (Some (answer_by_reply r (thrown p))); answered_at = Some (length k.past) })) h.calls ∙ sym (set_changed (c.0 - 1) (λ (item : CallRecord). record item { state = call.Answered (answer_kind (answer_by_reply r (thrown p))); carried = answer_objects (Some (answer_by_reply r (thrown p))); answered_at = Some (length k.past) }) (call_records k.past) (call_record k.past c.0) (call_record_there k.past c.0 (c.0 - 1) (one_before c.0 (throws_running s k.past d t c p h.admitted n.thread).low) (throws_running s k.past d t c p h.admitted n.thread).high)) ∙ sym (calls_after_answer s k.past (entry d t (act.Throw c p) r) c.0 (c.0 - 1) (answer_by_reply r (thrown p)) h.admitted (throw_answers k.past d t c p r) (one_before c.0 (throws_running s k.past d t c p h.admitted n.thread).low) (throws_running s k.past d t c p h.admitted n.thread) ∙ ap (λ (ys : List ℕ). set (call_records k.past) (c.0 - 1) (let item : CallRecord = record (call_record k.past c.0) { state = call.Answered (answer_kind (answer_by_reply r (thrown p))); carried = ys; answered_at = Some (length k.past) } in item)) (sent_objects s k.past d c.0 p r (thrown p) n.reply)));
      extents = keeps_extents s k (entry d t (act.Throw c p) r) h n refl refl (λ x. and_false (is_done r)) (and_false (is_done r));
      taken = keeps_taken s k (entry d t (act.Throw c p) r) h n (record { birth = refl; ends = refl }) refl (λ x. and_false (is_done r));
    }

-- a resume after an answered call
pub stands_after_resume : (s : System) (k : Kept) (d t : ℕ) (c : CallId) (r : Reply) → StandsFor s k → IsNext s k.past (entry d t (act.Resume c) r) →
    StandsFor s (after_resume k (entry d t (act.Resume c) r) c.0)
unfolding is_birth makes_domain ended_by ended_by_act is_export exported_interface received_service received_parcel bound_by_act is_call asked_by queued_as is_take_of is_resume_of answered_by_act new_parts received_objects objects_in is_drop_of ended_object is_allocation makes_extent is_done new_threads is_choice
stands_after_resume s k d t c r h n =
    record {
      admitted = (n, h.admitted);
      over = over_after s k (entry d t (act.Resume c) r) h n;
      words = words_after s k (entry d t (act.Resume c) r) h n;
      creates = creates_after s k (entry d t (act.Resume c) r) h n;
      domains = keeps_domains s k (entry d t (act.Resume c) r) h n (record { birth = refl; ends = refl });
      threads = ap (own_changed d t (λ item. thread_record_after item (act.Resume c) r)) h.threads ∙ sym (threads_stepped s k.past (entry d t (act.Resume c) r) n refl refl);
      services = services_stepped s k (entry d t (act.Resume c) r) h n refl;
      names = keeps_names s k (entry d t (act.Resume c) r) h n (λ x. refl);
      calls = (ap (changed_at (c.0 - 1) (λ (item : CallRecord). record item { state = call.Resumed; carried = [] })) h.calls ∙ sym (set_changed (c.0 - 1) (λ (item : CallRecord). record item { state = call.Resumed; carried = [] }) (call_records k.past) (call_record k.past c.0) (call_record_there k.past c.0 (c.0 - 1) (one_before c.0 (resumes_stand s k.past d t c n.thread).1.low) (resumes_stand s k.past d t c n.thread).1.high)) ∙ sym (calls_after_resume s k.past d t c r (c.0 - 1) (resumes_stand s k.past d t c n.thread).0 h.admitted (one_before c.0 (resumes_stand s k.past d t c n.thread).1.low) (resumes_stand s k.past d t c n.thread).1));
      waiting = h.waiting ∙ sym (waiting_after_resume k.past d t c r);
      parts = keeps_parts s k (entry d t (act.Resume c) r) h n refl;
      objects = objects_stepped s k (entry d t (act.Resume c) r) h n (changed_at (c.0 - 1) (λ item. record item { state = call.Resumed; carried = [] }) k.calls) refl (ap (changed_at (c.0 - 1) (λ (item : CallRecord). record item { state = call.Resumed; carried = [] })) h.calls ∙ sym (set_changed (c.0 - 1) (λ (item : CallRecord). record item { state = call.Resumed; carried = [] }) (call_records k.past) (call_record k.past c.0) (call_record_there k.past c.0 (c.0 - 1) (one_before c.0 (resumes_stand s k.past d t c n.thread).1.low) (resumes_stand s k.past d t c n.thread).1.high)) ∙ sym (calls_after_resume s k.past d t c r (c.0 - 1) (resumes_stand s k.past d t c n.thread).0 h.admitted (one_before c.0 (resumes_stand s k.past d t c n.thread).1.low) (resumes_stand s k.past d t c n.thread).1));
      extents = keeps_extents s k (entry d t (act.Resume c) r) h n refl refl (λ x. and_false (is_done r)) (and_false (is_done r));
      taken = keeps_taken s k (entry d t (act.Resume c) r) h n (record { birth = refl; ends = refl }) refl (λ x. and_false (is_done r));
    }

-- an allocation
pub stands_after_alloc : (s : System) (k : Kept) (d t : ℕ) (z : ℤ) (m : ObjectId) (g : ℕ) → StandsFor s k → IsNext s k.past (entry d t (act.Alloc z) (reply.Made m g)) →
    StandsFor s (after_alloc s k (entry d t (act.Alloc z) (reply.Made m g)) (not_below_zero z))
unfolding is_birth makes_domain ended_by ended_by_act is_export exported_interface received_service received_parcel bound_by_act is_call asked_by queued_as is_take_of is_resume_of answered_by_act new_parts received_objects objects_in is_drop_of ended_object is_allocation makes_extent is_done new_threads is_choice is_halt zero_may new_object_numbers ends_one_of passes allocated_bytes
stands_after_alloc s k d t z m g h n =
    record {
      admitted = (n, h.admitted);
      over = over_after s k (entry d t (act.Alloc z) (reply.Made m g)) h n;
      words = words_after s k (entry d t (act.Alloc z) (reply.Made m g)) h n;
      creates = creates_after s k (entry d t (act.Alloc z) (reply.Made m g)) h n;
      domains = keeps_domains s k (entry d t (act.Alloc z) (reply.Made m g)) h n (record { birth = refl; ends = refl });
      threads = h.threads ∙ sym (threads_left s k.past (entry d t (act.Alloc z) (reply.Made m g)) n refl refl refl refl);
      services = keeps_services s k (entry d t (act.Alloc z) (reply.Made m g)) h n (record { export = refl; service = refl; parcel = refl; bind = λ x. refl }) refl;
      names = keeps_names s k (entry d t (act.Alloc z) (reply.Made m g)) h n (λ x. refl);
      calls = keeps_calls s k (entry d t (act.Alloc z) (reply.Made m g)) h n (record { call = refl; ends = refl; take = λ x. refl; resume = λ x. refl; answer = λ x. refl });
      waiting = keeps_waiting s k (entry d t (act.Alloc z) (reply.Made m g)) h n (record { call = refl; ends = refl; take = λ x. refl; resume = λ x. refl; answer = λ x. refl });
      parts = parts_added s k (entry d t (act.Alloc z) (reply.Made m g)) h n ((record { parent = 0; extent = length k.extents + 1; from = 0; size = not_below_zero z }) ∷ []) (ap (λ (x : ℕ). let p : Part = (record { parent = 0; extent = x + 1; from = 0; size = not_below_zero z }) in p ∷ []) (extents_counted s k (entry d t (act.Alloc z) (reply.Made m g)) h n));
      objects = ap (λ (xs : List ObjectRecord). xs ++ new_object_record s d ∷ []) (sym (each_same (λ m item. record item { valid = item.valid && true }) 1 k.objects (λ m item. ap (λ (b : Bool). let x : ObjectRecord = record item { valid = b } in x) (and_true item.valid)))) ∙ objects_beside s k (entry d t (act.Alloc z) (reply.Made m g)) h n 1 refl refl refl (no_drop (entry d t (act.Alloc z) (reply.Made m g)) (λ x. refl)) (calls_untouched s (entry d t (act.Alloc z) (reply.Made m g)) k.past h.admitted (record { call = refl; ends = refl; take = λ x. refl; resume = λ x. refl; answer = λ x. refl }));
      extents = ap (λ (xs : List ExtentRecord). xs ++ (record { run = allocated_run (entry d t (act.Alloc z) (reply.Made m g)); bytes = Some (replicate (not_below_zero z) 0) }) ∷ []) h.extents ∙ ap (λ (r : Run). let item : ExtentRecord = record { run = r; bytes = Some (replicate (not_below_zero z) 0) } in extent_records k.past ++ item ∷ []) (sym (allocated_run_is s k (entry d t (act.Alloc z) (reply.Made m g)) h n refl)) ∙ sym (extents_more s (entry d t (act.Alloc z) (reply.Made m g)) k.past (n, h.admitted) refl refl (acts_live s k.past d t (act.Alloc z) refl refl n.thread) (no_drop (entry d t (act.Alloc z) (reply.Made m g)) (λ x. refl)) refl);
      taken = taken_allocated s k (entry d t (act.Alloc z) (reply.Made m g)) h n refl refl (no_drop (entry d t (act.Alloc z) (reply.Made m g)) (λ x. refl)) (acts_live s k.past d t (act.Alloc z) refl refl n.thread);
    }

-- a sub of an object of that part
pub stands_after_sub : (s : System) (k : Kept) (d t : ℕ) (m : ObjectId) (at count : ℤ) (new : ObjectId) (o : Part) → StandsFor s k → IsNext s k.past (entry d t (act.Sub m at count) (reply.Object new)) → numbered k.parts m.0 ≡ Some o →
    StandsFor s (after_sub s k (entry d t (act.Sub m at count) (reply.Object new)) (part_within m.0 o (not_below_zero at) (not_below_zero count)))
unfolding is_birth makes_domain ended_by ended_by_act is_export exported_interface received_service received_parcel bound_by_act is_call asked_by queued_as is_take_of is_resume_of answered_by_act new_parts received_objects objects_in is_drop_of ended_object is_allocation makes_extent is_done new_threads is_choice is_halt zero_may new_object_numbers ends_one_of passes made_of
stands_after_sub s k d t m at count new o h n q =
    record {
      admitted = (n, h.admitted);
      over = over_after s k (entry d t (act.Sub m at count) (reply.Object new)) h n;
      words = words_after s k (entry d t (act.Sub m at count) (reply.Object new)) h n;
      creates = creates_after s k (entry d t (act.Sub m at count) (reply.Object new)) h n;
      domains = keeps_domains s k (entry d t (act.Sub m at count) (reply.Object new)) h n (record { birth = refl; ends = refl });
      threads = h.threads ∙ sym (threads_left s k.past (entry d t (act.Sub m at count) (reply.Object new)) n refl refl refl refl);
      services = keeps_services s k (entry d t (act.Sub m at count) (reply.Object new)) h n (record { export = refl; service = refl; parcel = refl; bind = λ x. refl }) refl;
      names = keeps_names s k (entry d t (act.Sub m at count) (reply.Object new)) h n (λ x. refl);
      calls = keeps_calls s k (entry d t (act.Sub m at count) (reply.Object new)) h n (record { call = refl; ends = refl; take = λ x. refl; resume = λ x. refl; answer = λ x. refl });
      waiting = keeps_waiting s k (entry d t (act.Sub m at count) (reply.Object new)) h n (record { call = refl; ends = refl; take = λ x. refl; resume = λ x. refl; answer = λ x. refl });
      parts = parts_added s k (entry d t (act.Sub m at count) (reply.Object new)) h n (part_within m.0 o (not_below_zero at) (not_below_zero count) ∷ []) (ap (λ (p : Option Part). made_of p (λ o. part_within m.0 o (not_below_zero at) (not_below_zero count) ∷ [])) (sym q));
      objects = ap (λ (xs : List ObjectRecord). xs ++ new_object_record s d ∷ []) (sym (each_same (λ m item. record item { valid = item.valid && true }) 1 k.objects (λ m item. ap (λ (b : Bool). let x : ObjectRecord = record item { valid = b } in x) (and_true item.valid)))) ∙ objects_beside s k (entry d t (act.Sub m at count) (reply.Object new)) h n 1 refl (ap (λ (p : Option Part). length (made_of p (λ o. part_within m.0 o (not_below_zero at) (not_below_zero count) ∷ []))) (sym q ∙ ap (λ (xs : List Part). numbered xs m.0) h.parts)) refl (no_drop (entry d t (act.Sub m at count) (reply.Object new)) (λ x. refl)) (calls_untouched s (entry d t (act.Sub m at count) (reply.Object new)) k.past h.admitted (record { call = refl; ends = refl; take = λ x. refl; resume = λ x. refl; answer = λ x. refl }));
      extents = keeps_extents s k (entry d t (act.Sub m at count) (reply.Object new)) h n refl refl (λ x. refl) refl;
      taken = keeps_taken s k (entry d t (act.Sub m at count) (reply.Object new)) h n (record { birth = refl; ends = refl }) refl (λ x. refl);
    }

-- a split of an object of that part: it and what is derived from it are valid no more
pub stands_after_split : (s : System) (k : Kept) (d t : ℕ) (m : ObjectId) (at : ℤ) (x y : ObjectId) (o : Part) → StandsFor s k → IsNext s k.past (entry d t (act.Split m at) (reply.Pair x y)) → numbered k.parts m.0 ≡ Some o →
    StandsFor s (after_revoke s k (entry d t (act.Split m at) (reply.Pair x y)) m.0 (sides_at (not_below_zero at) o) 2)
unfolding is_birth makes_domain ended_by ended_by_act is_export exported_interface received_service received_parcel bound_by_act is_call asked_by queued_as is_take_of is_resume_of answered_by_act new_parts received_objects objects_in is_drop_of ended_object is_allocation makes_extent is_done new_threads is_choice is_halt zero_may new_object_numbers ends_one_of passes made_of sides_at
stands_after_split s k d t m at x y o h n q =
    record {
      admitted = (n, h.admitted);
      over = over_after s k (entry d t (act.Split m at) (reply.Pair x y)) h n;
      words = words_after s k (entry d t (act.Split m at) (reply.Pair x y)) h n;
      creates = creates_after s k (entry d t (act.Split m at) (reply.Pair x y)) h n;
      domains = keeps_domains s k (entry d t (act.Split m at) (reply.Pair x y)) h n (record { birth = refl; ends = refl });
      threads = h.threads ∙ sym (threads_left s k.past (entry d t (act.Split m at) (reply.Pair x y)) n refl refl refl refl);
      services = keeps_services s k (entry d t (act.Split m at) (reply.Pair x y)) h n (record { export = refl; service = refl; parcel = refl; bind = λ x. refl }) refl;
      names = keeps_names s k (entry d t (act.Split m at) (reply.Pair x y)) h n (λ x. refl);
      calls = keeps_calls s k (entry d t (act.Split m at) (reply.Pair x y)) h n (record { call = refl; ends = refl; take = λ x. refl; resume = λ x. refl; answer = λ x. refl });
      waiting = keeps_waiting s k (entry d t (act.Split m at) (reply.Pair x y)) h n (record { call = refl; ends = refl; take = λ x. refl; resume = λ x. refl; answer = λ x. refl });
      parts = parts_added s k (entry d t (act.Split m at) (reply.Pair x y)) h n (sides_at (not_below_zero at) o) (ap (λ (p : Option Part). made_of p (sides_at (not_below_zero at))) (sym q));
      objects = objects_beside s k (entry d t (act.Split m at) (reply.Pair x y)) h n 2 refl (ap (λ (p : Option Part). length (made_of p (sides_at (not_below_zero at)))) (sym q ∙ ap (λ (xs : List Part). numbered xs m.0) h.parts)) refl (no_drop (entry d t (act.Split m at) (reply.Pair x y)) (λ x. refl)) (calls_untouched s (entry d t (act.Split m at) (reply.Pair x y)) k.past h.admitted (record { call = refl; ends = refl; take = λ x. refl; resume = λ x. refl; answer = λ x. refl }));
      extents = keeps_extents s k (entry d t (act.Split m at) (reply.Pair x y)) h n refl refl (λ x. refl) refl;
      taken = keeps_taken s k (entry d t (act.Split m at) (reply.Pair x y)) h n (record { birth = refl; ends = refl }) refl (λ x. refl);
    }

-- a revoke of an object of that part: it and what is derived from it are valid no more
pub stands_after_revoke : (s : System) (k : Kept) (d t : ℕ) (m new : ObjectId) (o : Part) → StandsFor s k → IsNext s k.past (entry d t (act.Revoke m) (reply.Object new)) → numbered k.parts m.0 ≡ Some o →
    StandsFor s (after_revoke s k (entry d t (act.Revoke m) (reply.Object new)) m.0 (o ∷ []) 1)
unfolding is_birth makes_domain ended_by ended_by_act is_export exported_interface received_service received_parcel bound_by_act is_call asked_by queued_as is_take_of is_resume_of answered_by_act new_parts received_objects objects_in is_drop_of ended_object is_allocation makes_extent is_done new_threads is_choice is_halt zero_may new_object_numbers ends_one_of passes made_of sides_at
stands_after_revoke s k d t m new o h n q =
    record {
      admitted = (n, h.admitted);
      over = over_after s k (entry d t (act.Revoke m) (reply.Object new)) h n;
      words = words_after s k (entry d t (act.Revoke m) (reply.Object new)) h n;
      creates = creates_after s k (entry d t (act.Revoke m) (reply.Object new)) h n;
      domains = keeps_domains s k (entry d t (act.Revoke m) (reply.Object new)) h n (record { birth = refl; ends = refl });
      threads = h.threads ∙ sym (threads_left s k.past (entry d t (act.Revoke m) (reply.Object new)) n refl refl refl refl);
      services = keeps_services s k (entry d t (act.Revoke m) (reply.Object new)) h n (record { export = refl; service = refl; parcel = refl; bind = λ x. refl }) refl;
      names = keeps_names s k (entry d t (act.Revoke m) (reply.Object new)) h n (λ x. refl);
      calls = keeps_calls s k (entry d t (act.Revoke m) (reply.Object new)) h n (record { call = refl; ends = refl; take = λ x. refl; resume = λ x. refl; answer = λ x. refl });
      waiting = keeps_waiting s k (entry d t (act.Revoke m) (reply.Object new)) h n (record { call = refl; ends = refl; take = λ x. refl; resume = λ x. refl; answer = λ x. refl });
      parts = parts_added s k (entry d t (act.Revoke m) (reply.Object new)) h n (o ∷ []) (ap (λ (p : Option Part). made_of p (λ o. o ∷ [])) (sym q));
      objects = objects_beside s k (entry d t (act.Revoke m) (reply.Object new)) h n 1 refl (ap (λ (p : Option Part). length (made_of p (λ o. o ∷ []))) (sym q ∙ ap (λ (xs : List Part). numbered xs m.0) h.parts)) refl (no_drop (entry d t (act.Revoke m) (reply.Object new)) (λ x. refl)) (calls_untouched s (entry d t (act.Revoke m) (reply.Object new)) k.past h.admitted (record { call = refl; ends = refl; take = λ x. refl; resume = λ x. refl; answer = λ x. refl }));
      extents = keeps_extents s k (entry d t (act.Revoke m) (reply.Object new)) h n refl refl (λ x. refl) refl;
      taken = keeps_taken s k (entry d t (act.Revoke m) (reply.Object new)) h n (record { birth = refl; ends = refl }) refl (λ x. refl);
    }

-- a fill of an object of that part
pub stands_after_fill : (s : System) (k : Kept) (d t : ℕ) (m : ObjectId) (at count : ℤ) (b : ℕ) (o : Part) → StandsFor s k → IsNext s k.past (entry d t (act.Fill m at count b) reply.Done) → numbered k.parts m.0 ≡ Some o →
    StandsFor s (after_write k (entry d t (act.Fill m at count b) reply.Done) o (not_below_zero at) (not_below_zero count) (λ x. b))
unfolding is_birth makes_domain ended_by ended_by_act is_export exported_interface received_service received_parcel bound_by_act is_call asked_by queued_as is_take_of is_resume_of answered_by_act new_parts received_objects objects_in is_drop_of ended_object is_allocation makes_extent is_done new_threads is_choice reply_to object_part extent_record
stands_after_fill s k d t m at count b o h n q =
    record {
      admitted = (n, h.admitted);
      over = over_after s k (entry d t (act.Fill m at count b) reply.Done) h n;
      words = words_after s k (entry d t (act.Fill m at count b) reply.Done) h n;
      creates = creates_after s k (entry d t (act.Fill m at count b) reply.Done) h n;
      domains = keeps_domains s k (entry d t (act.Fill m at count b) reply.Done) h n (record { birth = refl; ends = refl });
      threads = h.threads ∙ sym (threads_left s k.past (entry d t (act.Fill m at count b) reply.Done) n refl refl refl refl);
      services = keeps_services s k (entry d t (act.Fill m at count b) reply.Done) h n (record { export = refl; service = refl; parcel = refl; bind = λ x. refl }) refl;
      names = keeps_names s k (entry d t (act.Fill m at count b) reply.Done) h n (λ x. refl);
      calls = keeps_calls s k (entry d t (act.Fill m at count b) reply.Done) h n (record { call = refl; ends = refl; take = λ x. refl; resume = λ x. refl; answer = λ x. refl });
      waiting = keeps_waiting s k (entry d t (act.Fill m at count b) reply.Done) h n (record { call = refl; ends = refl; take = λ x. refl; resume = λ x. refl; answer = λ x. refl });
      parts = keeps_parts s k (entry d t (act.Fill m at count b) reply.Done) h n refl;
      objects = keeps_objects s k (entry d t (act.Fill m at count b) reply.Done) h n (record { parts = refl; received = refl; drop = λ x. refl; ending = inr refl; allocation = refl }) (record { call = refl; ends = refl; take = λ x. refl; resume = λ x. refl; answer = λ x. refl });
      extents = extents;
      taken = keeps_taken s k (entry d t (act.Fill m at count b) reply.Done) h n (record { birth = refl; ends = refl }) refl (λ x. refl);
    }
  where
    is : numbered (objects_of k.past) m.0 ≡ Some o
    is = ap (λ (xs : List Part). numbered xs m.0) (sym h.parts) ∙ q

    place : o.extent ≡ (o.extent - 1) + 1
    place = one_before o.extent (part_extent s k.past m.0 o h.admitted is).0

    made : o.extent ≤ extents_made k.past
    made = (part_extent s k.past m.0 o h.admitted is).1

    held : (holds_object k.past d m.0 ≡ true) × (is_valid k.past m.0 ≡ true)
    held = with_done k.past d m (done_within at count) (ap is_done (sym n.reply))

    used : is_extent_in_use k.past o.extent ≡ true
    used = in_use k.past o.extent m.0 (record { part = o; is = is; extent = refl; valid = held.1; used = ByDomain d held.0 })

    record_is : (let item : ExtentRecord = record (extent_record k.past o.extent) { bytes = Some ((written 0 (o.from + not_below_zero at) (not_below_zero count) (λ j. b)) (extent_bytes k.past o.extent)) } in item) ≡ record (extent_record k.past o.extent) { bytes = option_map (written 0 (o.from + not_below_zero at) (not_below_zero count) (λ j. b)) (extent_record k.past o.extent).bytes }
    record_is = ap (λ (on : Bool). let item : ExtentRecord = record (extent_record k.past o.extent) { bytes = option_map (written 0 (o.from + not_below_zero at) (not_below_zero count) (λ j. b)) (kept_bytes on (extent_bytes k.past o.extent)) } in item) (sym used)

    extents : changed_at (o.extent - 1) (λ item. record item { bytes = option_map (written 0 (o.from + not_below_zero at) (not_below_zero count) (λ j. b)) item.bytes }) k.extents ≡ extent_records (entry d t (act.Fill m at count b) reply.Done ∷ k.past)
    extents =
        ap (changed_at (o.extent - 1) (λ (item : ExtentRecord). record item { bytes = option_map (written 0 (o.from + not_below_zero at) (not_below_zero count) (λ j. b)) item.bytes })) h.extents
        ∙ sym (set_changed (o.extent - 1) (λ (item : ExtentRecord). record item { bytes = option_map (written 0 (o.from + not_below_zero at) (not_below_zero count) (λ j. b)) item.bytes }) (extent_records k.past) (extent_record k.past o.extent) (extent_record_there k.past o.extent (o.extent - 1) place made))
        ∙ ap (set (extent_records k.past) (o.extent - 1)) (sym record_is)
        ∙ sym (extents_written s (entry d t (act.Fill m at count b) reply.Done) k.past o.extent (o.extent - 1) ((written 0 (o.from + not_below_zero at) (not_below_zero count) (λ j. b)) (extent_bytes k.past o.extent)) (n, h.admitted) refl refl (no_drop (entry d t (act.Fill m at count b) reply.Done) (λ x. refl)) place made used (bytes_after_fill d t k.past m o at count b is made) (λ y u v. others_after_fill d t k.past m o at count b y is u v))

-- a set in an object of that part
pub stands_after_set : (s : System) (k : Kept) (d t : ℕ) (m : ObjectId) (at : ℤ) (width : ℕ) (v : ℤ) (o : Part) → StandsFor s k → IsNext s k.past (entry d t (act.Set m at width v) reply.Done) → numbered k.parts m.0 ≡ Some o →
    StandsFor s (after_write k (entry d t (act.Set m at width v) reply.Done) o (not_below_zero at) width (low_byte v))
unfolding is_birth makes_domain ended_by ended_by_act is_export exported_interface received_service received_parcel bound_by_act is_call asked_by queued_as is_take_of is_resume_of answered_by_act new_parts received_objects objects_in is_drop_of ended_object is_allocation makes_extent is_done new_threads is_choice reply_to object_part extent_record
stands_after_set s k d t m at width v o h n q =
    record {
      admitted = (n, h.admitted);
      over = over_after s k (entry d t (act.Set m at width v) reply.Done) h n;
      words = words_after s k (entry d t (act.Set m at width v) reply.Done) h n;
      creates = creates_after s k (entry d t (act.Set m at width v) reply.Done) h n;
      domains = keeps_domains s k (entry d t (act.Set m at width v) reply.Done) h n (record { birth = refl; ends = refl });
      threads = h.threads ∙ sym (threads_left s k.past (entry d t (act.Set m at width v) reply.Done) n refl refl refl refl);
      services = keeps_services s k (entry d t (act.Set m at width v) reply.Done) h n (record { export = refl; service = refl; parcel = refl; bind = λ x. refl }) refl;
      names = keeps_names s k (entry d t (act.Set m at width v) reply.Done) h n (λ x. refl);
      calls = keeps_calls s k (entry d t (act.Set m at width v) reply.Done) h n (record { call = refl; ends = refl; take = λ x. refl; resume = λ x. refl; answer = λ x. refl });
      waiting = keeps_waiting s k (entry d t (act.Set m at width v) reply.Done) h n (record { call = refl; ends = refl; take = λ x. refl; resume = λ x. refl; answer = λ x. refl });
      parts = keeps_parts s k (entry d t (act.Set m at width v) reply.Done) h n refl;
      objects = keeps_objects s k (entry d t (act.Set m at width v) reply.Done) h n (record { parts = refl; received = refl; drop = λ x. refl; ending = inr refl; allocation = refl }) (record { call = refl; ends = refl; take = λ x. refl; resume = λ x. refl; answer = λ x. refl });
      extents = extents;
      taken = keeps_taken s k (entry d t (act.Set m at width v) reply.Done) h n (record { birth = refl; ends = refl }) refl (λ x. refl);
    }
  where
    is : numbered (objects_of k.past) m.0 ≡ Some o
    is = ap (λ (xs : List Part). numbered xs m.0) (sym h.parts) ∙ q

    place : o.extent ≡ (o.extent - 1) + 1
    place = one_before o.extent (part_extent s k.past m.0 o h.admitted is).0

    made : o.extent ≤ extents_made k.past
    made = (part_extent s k.past m.0 o h.admitted is).1

    held : (holds_object k.past d m.0 ≡ true) × (is_valid k.past m.0 ≡ true)
    held = with_done k.past d m (done_within at (pos width)) (ap is_done (sym n.reply))

    used : is_extent_in_use k.past o.extent ≡ true
    used = in_use k.past o.extent m.0 (record { part = o; is = is; extent = refl; valid = held.1; used = ByDomain d held.0 })

    record_is : (let item : ExtentRecord = record (extent_record k.past o.extent) { bytes = Some ((written 0 (o.from + not_below_zero at) width (low_byte v)) (extent_bytes k.past o.extent)) } in item) ≡ record (extent_record k.past o.extent) { bytes = option_map (written 0 (o.from + not_below_zero at) width (low_byte v)) (extent_record k.past o.extent).bytes }
    record_is = ap (λ (on : Bool). let item : ExtentRecord = record (extent_record k.past o.extent) { bytes = option_map (written 0 (o.from + not_below_zero at) width (low_byte v)) (kept_bytes on (extent_bytes k.past o.extent)) } in item) (sym used)

    extents : changed_at (o.extent - 1) (λ item. record item { bytes = option_map (written 0 (o.from + not_below_zero at) width (low_byte v)) item.bytes }) k.extents ≡ extent_records (entry d t (act.Set m at width v) reply.Done ∷ k.past)
    extents =
        ap (changed_at (o.extent - 1) (λ (item : ExtentRecord). record item { bytes = option_map (written 0 (o.from + not_below_zero at) width (low_byte v)) item.bytes })) h.extents
        ∙ sym (set_changed (o.extent - 1) (λ (item : ExtentRecord). record item { bytes = option_map (written 0 (o.from + not_below_zero at) width (low_byte v)) item.bytes }) (extent_records k.past) (extent_record k.past o.extent) (extent_record_there k.past o.extent (o.extent - 1) place made))
        ∙ ap (set (extent_records k.past) (o.extent - 1)) (sym record_is)
        ∙ sym (extents_written s (entry d t (act.Set m at width v) reply.Done) k.past o.extent (o.extent - 1) ((written 0 (o.from + not_below_zero at) width (low_byte v)) (extent_bytes k.past o.extent)) (n, h.admitted) refl refl (no_drop (entry d t (act.Set m at width v) reply.Done) (λ x. refl)) place made used (bytes_after_set d t k.past m o at width v is made) (λ y u x. others_after_set d t k.past m o at width v y is u x))

-- a copy from one object's part into another's
pub stands_after_copy : (s : System) (k : Kept) (d t : ℕ) (j : ObjectId) (j_at : ℤ) (m : ObjectId) (at count : ℤ) (source : Part) (o : Part) → StandsFor s k → IsNext s k.past (entry d t (act.Copy j j_at m at count) reply.Done) → numbered k.parts m.0 ≡ Some o → numbered k.parts j.0 ≡ Some source →
    StandsFor s (after_write k (entry d t (act.Copy j j_at m at count) reply.Done) o (not_below_zero at) (not_below_zero count) (λ x. byte_at k.past source.extent (source.from + (not_below_zero j_at + x))))
unfolding is_birth makes_domain ended_by ended_by_act is_export exported_interface received_service received_parcel bound_by_act is_call asked_by queued_as is_take_of is_resume_of answered_by_act new_parts received_objects objects_in is_drop_of ended_object is_allocation makes_extent is_done new_threads is_choice reply_to object_part extent_record
stands_after_copy s k d t j j_at m at count source o h n q y =
    record {
      admitted = (n, h.admitted);
      over = over_after s k (entry d t (act.Copy j j_at m at count) reply.Done) h n;
      words = words_after s k (entry d t (act.Copy j j_at m at count) reply.Done) h n;
      creates = creates_after s k (entry d t (act.Copy j j_at m at count) reply.Done) h n;
      domains = keeps_domains s k (entry d t (act.Copy j j_at m at count) reply.Done) h n (record { birth = refl; ends = refl });
      threads = h.threads ∙ sym (threads_left s k.past (entry d t (act.Copy j j_at m at count) reply.Done) n refl refl refl refl);
      services = keeps_services s k (entry d t (act.Copy j j_at m at count) reply.Done) h n (record { export = refl; service = refl; parcel = refl; bind = λ x. refl }) refl;
      names = keeps_names s k (entry d t (act.Copy j j_at m at count) reply.Done) h n (λ x. refl);
      calls = keeps_calls s k (entry d t (act.Copy j j_at m at count) reply.Done) h n (record { call = refl; ends = refl; take = λ x. refl; resume = λ x. refl; answer = λ x. refl });
      waiting = keeps_waiting s k (entry d t (act.Copy j j_at m at count) reply.Done) h n (record { call = refl; ends = refl; take = λ x. refl; resume = λ x. refl; answer = λ x. refl });
      parts = keeps_parts s k (entry d t (act.Copy j j_at m at count) reply.Done) h n refl;
      objects = keeps_objects s k (entry d t (act.Copy j j_at m at count) reply.Done) h n (record { parts = refl; received = refl; drop = λ x. refl; ending = inr refl; allocation = refl }) (record { call = refl; ends = refl; take = λ x. refl; resume = λ x. refl; answer = λ x. refl });
      extents = extents;
      taken = keeps_taken s k (entry d t (act.Copy j j_at m at count) reply.Done) h n (record { birth = refl; ends = refl }) refl (λ x. refl);
    }
  where
    is : numbered (objects_of k.past) m.0 ≡ Some o
    is = ap (λ (xs : List Part). numbered xs m.0) (sym h.parts) ∙ q

    from_is : numbered (objects_of k.past) j.0 ≡ Some source
    from_is = ap (λ (xs : List Part). numbered xs j.0) (sym h.parts) ∙ y

    place : o.extent ≡ (o.extent - 1) + 1
    place = one_before o.extent (part_extent s k.past m.0 o h.admitted is).0

    made : o.extent ≤ extents_made k.past
    made = (part_extent s k.past m.0 o h.admitted is).1

    held : (holds_object k.past d m.0 ≡ true) × (is_valid k.past m.0 ≡ true)
    held = copy_held k.past d j j_at m at count (ap is_done (sym n.reply))

    used : is_extent_in_use k.past o.extent ≡ true
    used = in_use k.past o.extent m.0 (record { part = o; is = is; extent = refl; valid = held.1; used = ByDomain d held.0 })

    record_is : (let item : ExtentRecord = record (extent_record k.past o.extent) { bytes = Some ((written 0 (o.from + not_below_zero at) (not_below_zero count) (λ x. byte_at k.past source.extent (source.from + (not_below_zero j_at + x)))) (extent_bytes k.past o.extent)) } in item) ≡ record (extent_record k.past o.extent) { bytes = option_map (written 0 (o.from + not_below_zero at) (not_below_zero count) (λ x. byte_at k.past source.extent (source.from + (not_below_zero j_at + x)))) (extent_record k.past o.extent).bytes }
    record_is = ap (λ (on : Bool). let item : ExtentRecord = record (extent_record k.past o.extent) { bytes = option_map (written 0 (o.from + not_below_zero at) (not_below_zero count) (λ x. byte_at k.past source.extent (source.from + (not_below_zero j_at + x)))) (kept_bytes on (extent_bytes k.past o.extent)) } in item) (sym used)

    extents : changed_at (o.extent - 1) (λ item. record item { bytes = option_map (written 0 (o.from + not_below_zero at) (not_below_zero count) (λ x. byte_at k.past source.extent (source.from + (not_below_zero j_at + x)))) item.bytes }) k.extents ≡ extent_records (entry d t (act.Copy j j_at m at count) reply.Done ∷ k.past)
    extents =
        ap (changed_at (o.extent - 1) (λ (item : ExtentRecord). record item { bytes = option_map (written 0 (o.from + not_below_zero at) (not_below_zero count) (λ x. byte_at k.past source.extent (source.from + (not_below_zero j_at + x)))) item.bytes })) h.extents
        ∙ sym (set_changed (o.extent - 1) (λ (item : ExtentRecord). record item { bytes = option_map (written 0 (o.from + not_below_zero at) (not_below_zero count) (λ x. byte_at k.past source.extent (source.from + (not_below_zero j_at + x)))) item.bytes }) (extent_records k.past) (extent_record k.past o.extent) (extent_record_there k.past o.extent (o.extent - 1) place made))
        ∙ ap (set (extent_records k.past) (o.extent - 1)) (sym record_is)
        ∙ sym (extents_written s (entry d t (act.Copy j j_at m at count) reply.Done) k.past o.extent (o.extent - 1) ((written 0 (o.from + not_below_zero at) (not_below_zero count) (λ x. byte_at k.past source.extent (source.from + (not_below_zero j_at + x)))) (extent_bytes k.past o.extent)) (n, h.admitted) refl refl (no_drop (entry d t (act.Copy j j_at m at count) reply.Done) (λ x. refl)) place made used (bytes_after_copy d t k.past j j_at m o at count source is from_is made) (λ y u v. others_after_copy d t k.past j j_at m o at count y source is from_is u v))
