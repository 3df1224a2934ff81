-- All that is kept stands for the past with the entry, after a release and after the end of a domain.
use Rattle.std.proofs.Common.{is_some, ◌≡◌, refl, sym, ◌∙◌, ap, ℕ, ◌+◌, ◌≤◌, ℤ, true, false, not, ◌&&◌, List, [], ◌∷◌, ◌++◌, length, map, Option, Some, None, arith, if◌then◌else◌, filter, zero, suc, ◌-◌, filter_map}
use Rattle.jx_base.specs.declared.act.Act.TheVariants as act
use Rattle.jx_base.specs.declared.act.Reply.{Reply}
use Rattle.jx_base.specs.declared.act.Reply.TheVariants as reply
use Rattle.jx_base.specs.declared.act.Reason.{Reason}
use Rattle.jx_base.specs.declared.act.Reason.TheVariants as reason
use Rattle.jx_base.specs.declared.ids.ObjectId.{ObjectId}
use Rattle.jx_base.specs.declared.program.System.{System}
use Rattle.jx_base.specs.Basics.{not_below_zero, up_to}
use Rattle.jx_base.specs.Histories.{Past, is_done}
use Rattle.jx_model.specs.Domains.{is_birth, makes_domain, ended_by, ended_by_act, is_live, domains_made}
use Rattle.jx_model.specs.Threads.{new_threads}
use Rattle.jx_model.specs.Portals.{is_export, exported_interface, received_service, received_parcel, bound_by_act}
use Rattle.jx_model.specs.Calls.{is_call, asked_by, queued_as, is_take_of, is_resume_of, answered_by_act, waiting_calls}
use Rattle.jx_model.specs.MemoryObjects.{Part, objects_of, new_parts, extents_made, is_allocation, makes_extent, ended_object}
use Rattle.jx_model.specs.Holding.{received_objects, objects_in, is_drop_of}
use Rattle.jx_model.specs.Granules.{Run, run_if, heap_run, extent_run}
use Rattle.jx_model.specs.Permits.{is_choice}
use Rattle.jx_model.specs.Tables.{Kept, StandsFor, ServiceRecord, CallRecord, ExtentRecord, extent_record, ObjectRecord, call_records, extent_records, domain_record, domain_records, object_records}
use Rattle.jx_model.specs.Legal.{IsNext}
use Rattle.jx_base.proofs.BasicLaws.{ap2, and_false, ap3}
use Rattle.table_threads.proofs.Records.{numbered_record}
use Rattle.table_threads.specs.Changes.{each_record}
use Rattle.table_threads.proofs.Actors.{live_made, ended_was_live, IsMade}
use Rattle.table_threads.specs.ThreadChanges.{leaves_thread}
use Rattle.table_threads.proofs.ThreadActs.{threads_left}
use Rattle.table_threads.specs.CallChanges.{entry, ended_call}
use Rattle.table_threads.proofs.CallActs.{calls_after_end, waiting_after_end, EndsOne, TouchesNoCall}
use Rattle.table_extents.specs.ExtentChanges.{freed_runs, writes, is_extent_freed}
use Rattle.table_objects.specs.ObjectChanges.{object_record_after}
use Rattle.table_steps.specs.Steps.{in_use_by, owns, is_call_to, heap_of, heap_in, freed_from, without_runs, after_release, after_end}
use Rattle.table_steps.proofs.Unchanged.{over_after, words_after, creates_after, keeps_domains, keeps_services, keeps_names, keeps_calls, keeps_waiting, keeps_parts, LeavesLife, LeavesServices}
use Rattle.table_steps.proofs.StepParts.{domains_ended, services_stepped, objects_stepped, extents_stepped, taken_freed}
use Rattle.std.specs.Option.{option_map, unwrap_or}
use Rattle.std.specs.List.{range_with_len, cons_option}
use Rattle.jx_base.specs.declared.states.DomainState.{DomainState}
use Rattle.jx_base.specs.declared.act.Entry.{Entry}
use Rattle.table_reads.proofs.ReplyReads.{heap_run_by_record}
use Rattle.table_steps.proofs.RecordForms.{ended_calls_by_records, ended_waiting_by_records, one_heap_freed, no_heap_freed, extents_freed_by_records}

-- ---- what is freed, by the records

freed_map : (past : Past) (parts : List Part) (objects : List ObjectRecord) (a n : ℕ) →
    freed_from parts objects a (map (extent_record past) (range_with_len a n))
    ≡ filter_map (λ x. if is_some (extent_record past x).bytes && not (in_use_by parts objects x) then Some (extent_record past x).run else None) (range_with_len a n)
freed_map past parts objects a zero = refl
freed_map past parts objects a (suc n) =
    ap (cons_option (if is_some (extent_record past a).bytes && not (in_use_by parts objects a) then Some (extent_record past a).run else None)) (freed_map past parts objects (a + 1) n)

module _ (s : System) (k : Kept) (e : Entry) (h : StandsFor s k) (n : IsNext s k.past e) where
  -- the runs of the extents that an entry frees, by the new records of the objects
  freed_extents : (objects : List ObjectRecord) → k.parts ≡ objects_of (e ∷ k.past) → objects ≡ object_records s (e ∷ k.past) →
      freed_from k.parts objects 1 k.extents ≡ filter_map (run_if (is_extent_freed e k.past) (extent_run k.past)) (up_to (extents_made k.past))
  unfolding extent_records up_to
  freed_extents objects p o =
      ap3 (λ (ps : List Part) (os : List ObjectRecord) (items : List ExtentRecord). freed_from ps os 1 items) p o h.extents
      ∙ freed_map k.past (objects_of (e ∷ k.past)) (object_records s (e ∷ k.past)) 1 (extents_made k.past)
      ∙ sym (extents_freed_by_records s e k.past (n, h.admitted))

  -- the run of the heap of a domain that was made
  heap_freed : (d : ℕ) → IsMade k.past d → heap_in s k.domains d ≡ heap_run s k.past d
  unfolding domain_records
  heap_freed d m =
      ap (λ (items : List DomainState). heap_in s items d) h.domains
      ∙ ap (λ (o : Option DomainState). unwrap_or (option_map (heap_of s) o) (0, 0)) (numbered_record (domain_record s k.past) (domains_made k.past) d m.low m.high)
      ∙ sym (heap_run_by_record s k.past d h.admitted m.low m.high)

-- ---- a release

-- an entry that drops objects and does nothing else but to what they hold in use
pub record IsRelease (past : Past) (e : Entry) : Type 0 where
  pub life : LeavesLife e
  pub services : LeavesServices e
  pub calls : TouchesNoCall e
  pub threads : new_threads e.act e.reply ≡ []
  pub choice : is_choice e.act ≡ false
  pub leaves : leaves_thread e.act e.reply ≡ true
  pub parts : new_parts (objects_of past) (extents_made past + 1) e.act e.reply ≡ []
  pub allocation : is_allocation e ≡ false
  pub unwritten : (is_done e.reply && writes e.act) ≡ false

module _ (s : System) (k : Kept) (e : Entry) (h : StandsFor s k) (n : IsNext s k.past e) (v : IsRelease k.past e) where
  calls_stay : k.calls ≡ call_records (e ∷ k.past)
  calls_stay = keeps_calls s k e h n v.calls

  parts_stay : k.parts ≡ objects_of (e ∷ k.past)
  parts_stay = keeps_parts s k e h n v.parts

  objects_released : each_record (object_record_after e k.parts k.calls) k.objects ≡ object_records s (e ∷ k.past)
  objects_released = objects_stepped s k e h n k.calls (ap length v.parts) calls_stay

  runs_released : freed_from k.parts (each_record (object_record_after e k.parts k.calls) k.objects) 1 k.extents ≡ freed_runs s e k.past
  runs_released =
      freed_extents s k e h n (each_record (object_record_after e k.parts k.calls) k.objects) parts_stay objects_released
      ∙ ap (λ (runs : List Run). runs ++ filter_map (run_if (is_extent_freed e k.past) (extent_run k.past)) (up_to (extents_made k.past))) (sym (no_heap_freed s e k.past v.life.ends))

  stands_released : StandsFor s (after_release k e)
  stands_released =
      record {
        admitted = (n, h.admitted);
        over = over_after s k e h n;
        words = words_after s k e h n;
        creates = creates_after s k e h n;
        domains = keeps_domains s k e h n v.life;
        threads = h.threads ∙ sym (threads_left s k.past e n v.life.birth v.threads v.choice v.leaves);
        services = keeps_services s k e h n v.services v.life.ends;
        names = keeps_names s k e h n v.services.bind;
        calls = calls_stay;
        waiting = keeps_waiting s k e h n v.calls;
        parts = parts_stay;
        objects = objects_released;
        extents = extents_stepped s k e h n k.parts (each_record (object_record_after e k.parts k.calls) k.objects) v.allocation v.unwritten parts_stay objects_released;
        taken = ap (λ (runs : List Run). without_runs runs k.taken) runs_released ∙ taken_freed s k e h n v.life.birth v.allocation;
      }

release_is : (past : Past) (d t : ℕ) (m : ObjectId) → IsRelease past (entry d t (act.Release m) reply.Done)
unfolding is_birth makes_domain ended_by ended_by_act is_export exported_interface received_service received_parcel bound_by_act is_call asked_by queued_as is_take_of is_resume_of answered_by_act new_parts received_objects objects_in is_drop_of ended_object is_allocation makes_extent is_done new_threads is_choice
release_is past d t m =
    record {
      life = record { birth = refl; ends = refl };
      services = record { export = refl; service = refl; parcel = refl; bind = λ x. refl };
      calls = record { call = refl; ends = refl; take = λ x. refl; resume = λ x. refl; answer = λ x. refl };
      threads = refl;
      choice = refl;
      leaves = refl;
      parts = refl;
      allocation = refl;
      unwritten = refl;
    }

-- a done release
pub stands_after_release : (s : System) (k : Kept) (d t : ℕ) (m : ObjectId) → StandsFor s k → IsNext s k.past (entry d t (act.Release m) reply.Done) →
    StandsFor s (after_release k (entry d t (act.Release m) reply.Done))
stands_after_release s k d t m h n = stands_released s k (entry d t (act.Release m) reply.Done) h n (release_is k.past d t m)

-- ---- the end of a domain

-- an entry that ends domain d for that reason, and does nothing else by itself
pub record IsEnd (past : Past) (e : Entry) (d : ℕ) (why : Reason) : Type 0 where
  pub ends : ended_by e ≡ Some (d, why)
  pub birth : is_birth e ≡ false
  pub export : is_export e ≡ false
  pub bind : (name : List ℕ) → bound_by_act name e.act e.reply ≡ None
  pub call : is_call e ≡ false
  pub take : (c : ℕ) → is_take_of c e.act ≡ false
  pub resume : (c : ℕ) → is_resume_of c e.act ≡ false
  pub answer : (c : ℕ) → answered_by_act c e.act e.reply ≡ None
  pub threads : new_threads e.act e.reply ≡ []
  pub choice : is_choice e.act ≡ false
  pub leaves : leaves_thread e.act e.reply ≡ true
  pub parts : new_parts (objects_of past) (extents_made past + 1) e.act e.reply ≡ []
  pub allocation : is_allocation e ≡ false
  pub unwritten : (is_done e.reply && writes e.act) ≡ false

module _ (s : System) (k : Kept) (e : Entry) (d : ℕ) (why : Reason) (h : StandsFor s k) (n : IsNext s k.past e) (v : IsEnd k.past e d why) where
  abbrev calls_then : List CallRecord
  calls_then = map (ended_call (owns k.services d) d (length k.past)) k.calls

  abbrev objects_then : List ObjectRecord
  objects_then = each_record (object_record_after e k.parts calls_then) k.objects

  one_ends : EndsOne e d
  one_ends = record { why = why; ends = v.ends; call = v.call; take = v.take; resume = v.resume; answer = v.answer }

  lived : is_live k.past d ≡ true
  lived = ended_was_live s k.past e d why n v.ends

  calls_ended : calls_then ≡ call_records (e ∷ k.past)
  calls_ended =
      ap2 (λ (services : List ServiceRecord) (items : List CallRecord). map (ended_call (owns services d) d (length k.past)) items) h.services h.calls
      ∙ sym (ended_calls_by_records s k.past d (length k.past) (call_records k.past))
      ∙ sym (calls_after_end s k.past e d h.admitted one_ends)

  waiting_ended : filter (λ c. not (is_call_to k.services k.calls d c)) k.waiting ≡ waiting_calls (e ∷ k.past)
  waiting_ended =
      ap3 (λ (services : List ServiceRecord) (calls : List CallRecord) (items : List ℕ). filter (λ c. not (is_call_to services calls d c)) items) h.services h.calls h.waiting
      ∙ sym (ended_waiting_by_records s k.past d (waiting_calls k.past))
      ∙ sym (waiting_after_end k.past e d one_ends)

  parts_left : k.parts ≡ objects_of (e ∷ k.past)
  parts_left = keeps_parts s k e h n v.parts

  objects_ended : objects_then ≡ object_records s (e ∷ k.past)
  objects_ended = objects_stepped s k e h n calls_then (ap length v.parts) calls_ended

  runs_ended : heap_in s k.domains d ∷ freed_from k.parts objects_then 1 k.extents ≡ freed_runs s e k.past
  runs_ended =
      ap2 (λ (run : Run) (runs : List Run). run ∷ runs) (heap_freed s k e h n d (live_made k.past d lived)) (freed_extents s k e h n objects_then parts_left objects_ended)
      ∙ ap (λ (runs : List Run). runs ++ filter_map (run_if (is_extent_freed e k.past) (extent_run k.past)) (up_to (extents_made k.past))) (sym (one_heap_freed s e k.past d why v.ends lived))

  -- all that is kept stands after it
  pub stands_after_ending : StandsFor s (after_end s k e d why)
  stands_after_ending =
      record {
        admitted = (n, h.admitted);
        over = over_after s k e h n;
        words = words_after s k e h n;
        creates = creates_after s k e h n;
        domains = domains_ended s k e h n d (d - 1) why v.birth v.ends (before d (live_made k.past d lived).low) (live_made k.past d lived).high;
        threads = h.threads ∙ sym (threads_left s k.past e n v.birth v.threads v.choice v.leaves);
        services = services_stepped s k e h n v.export;
        names = keeps_names s k e h n v.bind;
        calls = calls_ended;
        waiting = waiting_ended;
        parts = parts_left;
        objects = objects_ended;
        extents = extents_stepped s k e h n k.parts objects_then v.allocation v.unwritten parts_left objects_ended;
        taken = ap (λ (runs : List Run). without_runs runs k.taken) runs_ended ∙ taken_freed s k e h n v.birth v.allocation;
      }
    where
      before : (x : ℕ) → 1 ≤ x → x ≡ (x - 1) + 1
      before x l = omega (arith, l)

-- ---- exits, ends and kills

exit_is : (past : Past) (d t : ℕ) (code : ℤ) (r : Reply) → IsEnd past (entry d t (act.Exit code) r) d (reason.Exit code)
unfolding is_birth makes_domain ended_by ended_by_act is_export exported_interface received_service received_parcel bound_by_act is_call asked_by queued_as is_take_of is_resume_of answered_by_act new_parts received_objects objects_in is_drop_of ended_object is_allocation makes_extent is_done new_threads is_choice
exit_is past d t code r =
    record {
      ends = refl;
      birth = refl;
      export = refl;
      bind = λ x. refl;
      call = refl;
      take = λ c. refl;
      resume = λ c. refl;
      answer = λ c. refl;
      threads = refl;
      choice = refl;
      leaves = refl;
      parts = refl;
      allocation = refl;
      unwritten = and_false (is_done r);
    }

-- an exit
pub stands_after_exit : (s : System) (k : Kept) (d t : ℕ) (code : ℤ) (r : Reply) → StandsFor s k → IsNext s k.past (entry d t (act.Exit code) r) →
    StandsFor s (after_end s k (entry d t (act.Exit code) r) d (reason.Exit code))
stands_after_exit s k d t code r h n = stands_after_ending s k (entry d t (act.Exit code) r) d (reason.Exit code) h n (exit_is k.past d t code r)

end_is : (past : Past) (d t : ℕ) (why : Reason) (r : Reply) → IsEnd past (entry d t (act.End why) r) d why
unfolding is_birth makes_domain ended_by ended_by_act is_export exported_interface received_service received_parcel bound_by_act is_call asked_by queued_as is_take_of is_resume_of answered_by_act new_parts received_objects objects_in is_drop_of ended_object is_allocation makes_extent is_done new_threads is_choice
end_is past d t why r =
    record {
      ends = refl;
      birth = refl;
      export = refl;
      bind = λ x. refl;
      call = refl;
      take = λ c. refl;
      resume = λ c. refl;
      answer = λ c. refl;
      threads = refl;
      choice = refl;
      leaves = refl;
      parts = refl;
      allocation = refl;
      unwritten = and_false (is_done r);
    }

-- an end
pub stands_after_end : (s : System) (k : Kept) (d t : ℕ) (why : Reason) (r : Reply) → StandsFor s k → IsNext s k.past (entry d t (act.End why) r) →
    StandsFor s (after_end s k (entry d t (act.End why) r) d why)
stands_after_end s k d t why r h n = stands_after_ending s k (entry d t (act.End why) r) d why h n (end_is k.past d t why r)

kill_is : (past : Past) (d t : ℕ) (j : ℤ) → IsEnd past (entry d t (act.Kill j) reply.Done) (not_below_zero j) reason.Killed
unfolding is_birth makes_domain ended_by ended_by_act is_export exported_interface received_service received_parcel bound_by_act is_call asked_by queued_as is_take_of is_resume_of answered_by_act new_parts received_objects objects_in is_drop_of ended_object is_allocation makes_extent is_done new_threads is_choice
kill_is past d t j =
    record {
      ends = refl;
      birth = refl;
      export = refl;
      bind = λ x. refl;
      call = refl;
      take = λ c. refl;
      resume = λ c. refl;
      answer = λ c. refl;
      threads = refl;
      choice = refl;
      leaves = refl;
      parts = refl;
      allocation = refl;
      unwritten = refl;
    }

-- a done kill
pub stands_after_kill : (s : System) (k : Kept) (d t : ℕ) (j : ℤ) → StandsFor s k → IsNext s k.past (entry d t (act.Kill j) reply.Done) →
    StandsFor s (after_end s k (entry d t (act.Kill j) reply.Done) (not_below_zero j) reason.Killed)
stands_after_kill s k d t j h n = stands_after_ending s k (entry d t (act.Kill j) reply.Done) (not_below_zero j) reason.Killed h n (kill_is k.past d t j)
