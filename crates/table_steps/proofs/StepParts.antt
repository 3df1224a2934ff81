-- Each part of all that is kept after an entry, from what was kept before it.
use Rattle.std.proofs.Common.{◌≡◌, refl, sym, ◌∙◌, ap, ℕ, suc, zero, ◌+◌, ◌-◌, ◌<◌, ◌≤◌, Bool, true, false, not, ◌&&◌, ◌||◌, List, [], ◌∷◌, ◌++◌, length, map, filter, cond, replicate, Option, Some, None, is_none, arith, ◌==◌, if◌then◌else◌}
use Rattle.std.specs.Prelude.{nat_lt}
use Rattle.std.specs.List.{range_with_len, list_any}
use Rattle.jx_base.specs.declared.act.Reason.{Reason}
use Rattle.jx_base.specs.declared.act.Entry.{Entry}
use Rattle.jx_base.specs.declared.states.DomainState.{DomainState}
use Rattle.jx_base.specs.declared.program.System.{System}
use Rattle.jx_base.specs.Basics.{up_to, numbered, passes}
use Rattle.program_model.specs.Limits.{domain_limit, granule_limit}
use Rattle.jx_base.specs.Histories.{Past, is_done}
use Rattle.jx_model.specs.Domains.{is_live, is_birth, domains_made, birth_of, template_of, heap_place_of, named_template, reply_granule, ended_by, end_reason, reason_for}
use Rattle.jx_model.specs.Portals.{is_export}
use Rattle.jx_model.specs.MemoryObjects.{Part, objects_of, objects_made, object_part, new_parts, extents_made, is_allocation, allocation_of, allocated_bytes, is_valid, ends_one_of, lineage_of}
use Rattle.jx_model.specs.Holding.{holds_object, holders, riding_count, is_extent_in_use, is_of_extent, hold_count, received_objects}
use Rattle.jx_model.specs.Growth.{new_object_numbers}
use Rattle.jx_model.specs.Granules.{Run, heap_run, heap_granules, extent_run, extent_granules, lies_in, lies_in_one, is_used_granule}
use Rattle.jx_model.specs.Tables.{Kept, StandsFor, holder_flags, domain_record, domain_records, ServiceRecord, service_records, CallRecord, call_records, ObjectRecord, object_record, object_records, ExtentRecord, extent_record, extent_records, granule_flags}
use Rattle.jx_model.specs.Legal.{IsNext, IsAdmittedPast}
use Rattle.jx_base.proofs.BasicLaws.{ap2, ap3, up_to_append}
use Rattle.jx_base.proofs.NthEntries.{nth_new, count_new}
use Rattle.table_threads.specs.Changes.{is_set, each_from, each_record, changed_at}
use Rattle.table_threads.proofs.Records.{numbered_record, records_length, any_same, records_same, any_append, or_false, each_map, set_changed}
use Rattle.table_threads.proofs.Actors.{live_by_reason, unmade_unended, live_made, domains_fit}
use Rattle.table_objects.proofs.ExtentsInUse.{holder_lives, some_number}
use Rattle.table_threads.specs.ThreadChanges.{born}
use Rattle.table_threads.proofs.DomainRecords.{domains_after_birth, domains_after_end, domain_record_there, reason_after}
use Rattle.table_objects.specs.HolderChanges.{drops_object, portals_after}
use Rattle.table_extents.specs.ExtentChanges.{writes, freed_runs}
use Rattle.table_objects.proofs.ObjectRecords.{parts_made, objects_after, object_record_beside}
use Rattle.table_objects.specs.ObjectChanges.{new_object_record, object_record_after}
use Rattle.table_extents.proofs.ExtentRecords.{extents_freed, granules_after_birth, granules_after_allocation}
use Rattle.table_extents.proofs.FreedRuns.{granules_after_freeing}
use Rattle.table_objects.proofs.EachRecord.{services_every, objects_every, objects_every_new}
use Rattle.std.specs.Option.{option_and_then, option_map, unwrap_or}
use Rattle.table_steps.specs.Steps.{is_record_used, in_use_by, born_run, allocated_run}

-- ---- extents in use, by the records

any_flags : (p : ℕ → Bool) (xs : List ℕ) → list_any is_set (map p xs) ≡ list_any p xs
any_flags p [] = refl
any_flags p (x ∷ xs) = ap (λ (b : Bool). p x || b) (any_flags p xs)

any_kept : (p : ℕ → Bool) (xs : List ℕ) → nat_lt 0 (length (filter p xs)) ≡ list_any p xs
any_kept p [] = refl
any_kept p (x ∷ xs) = by (p x) (filter p xs) (any_kept p xs)
  where
    by : (b : Bool) (ys : List ℕ) → nat_lt 0 (length ys) ≡ list_any p xs → nat_lt 0 (length (cond b (x ∷ ys) ys)) ≡ (b || list_any p xs)
    by true ys h = some_number (suc (length ys)) (omega arith)
    by false ys h = h

no_more : (p : ℕ → Bool) (a n : ℕ) → ((k : ℕ) → a ≤ k → p k ≡ false) → list_any p (range_with_len a n) ≡ false
no_more p a zero h = refl
no_more p a (suc n) h = ap2 (λ (x y : Bool). x || y) (h a (omega arith)) (no_more p (a + 1) n (λ k l. h k (omega (arith, l))))

-- some flag is set exactly where some number passes, where those above n fail
some_flag : (p : ℕ → Bool) (n width : ℕ) → n ≤ width → ((k : ℕ) → n < k → p k ≡ false) → list_any is_set (map p (up_to width)) ≡ nat_lt 0 (length (filter p (up_to n)))
some_flag p n width l h =
    any_flags p (up_to width)
    ∙ ap (λ (k : ℕ). list_any p (up_to k)) (split n width l)
    ∙ ap (list_any p) (up_to_append n (width - n))
    ∙ any_append p (up_to n) _
    ∙ ap (λ (b : Bool). list_any p (up_to n) || b) (no_more p (n + 1) (width - n) (λ k u. h k (omega (arith, u))))
    ∙ or_false (list_any p (up_to n))
    ∙ sym (any_kept p (up_to n))
  where
    split : (a b : ℕ) → a ≤ b → b ≡ a + (b - a)
    split a b l = omega (arith, l)

-- the flags say whether a domain holds the object
held_by_flags : (s : System) (past : Past) (m : ℕ) → IsAdmittedPast s past → list_any is_set (holder_flags s past m) ≡ nat_lt 0 (length (holders past m))
unfolding holders
held_by_flags s past m a = some_flag (λ d. holds_object past d m) (domains_made past) (domain_limit s) (domains_fit s past a) (λ d l. unmade d l (holds_object past d m) refl)
  where
    unmade : (d : ℕ) → domains_made past < d → (b : Bool) → holds_object past d m ≡ b → b ≡ false
    unmade d l false q = refl
    unmade d l true q = absurd (omega (arith, l, (live_made past d (holder_lives past d m q)).high))

-- the records say which extents are in use
pub in_use_by_records : (s : System) (past : Past) (x : ℕ) → IsAdmittedPast s past → is_extent_in_use past x ≡ in_use_by (objects_of past) (object_records s past) x
unfolding is_extent_in_use is_of_extent object_part objects_made object_records object_record hold_count passes
in_use_by_records s past x a =
    any_same (λ m. passes (λ o. o.extent == x) (numbered (objects_of past) m) && is_valid past m && nat_lt 0 (hold_count past m)) (λ m. passes (λ o. o.extent == x) (numbered (objects_of past) m) && passes is_record_used (numbered (map (object_record s past) (up_to (length (objects_of past)))) m)) (length (objects_of past))
    (λ m l u.
    turn (passes (λ (o : Part). o.extent == x) (numbered (objects_of past) m)) (is_valid past m) (nat_lt 0 (hold_count past m))
    ∙ ap (λ (c : Bool). passes (λ (o : Part). o.extent == x) (numbered (objects_of past) m) && (is_valid past m && c)) (used m)
    ∙ ap (λ (o : Option ObjectRecord). passes (λ (p : Part). p.extent == x) (numbered (objects_of past) m) && passes is_record_used o) (sym (numbered_record (object_record s past) (length (objects_of past)) m l u)))
  where
    turn : (a b c : Bool) → (a && b && c) ≡ (a && (b && c))
    turn true b c = refl
    turn false b c = refl

    either : (i j : ℕ) → nat_lt 0 (i + j) ≡ (nat_lt 0 i || nat_lt 0 j)
    either zero j = ap (nat_lt 0) (omega arith)
    either (suc i) j = some_number (suc i + j) (omega arith) ∙ sym (ap (λ (b : Bool). b || nat_lt 0 j) (some_number (suc i) (omega arith)))

    used : (m : ℕ) → nat_lt 0 (hold_count past m) ≡ (list_any is_set (holder_flags s past m) || nat_lt 0 (riding_count past m))
    used m = either (length (holders past m)) (riding_count past m) ∙ ap (λ (b : Bool). b || nat_lt 0 (riding_count past m)) (sym (held_by_flags s past m a))

module _ (s : System) (k : Kept) (e : Entry) (h : StandsFor s k) (n : IsNext s k.past e) where
  -- ---- domains

  -- as many records as domains
  pub domains_counted : length k.domains ≡ domains_made k.past
  unfolding domain_records
  domains_counted = ap length h.domains ∙ records_length (domain_record s k.past) (domains_made k.past)

  -- a domain more
  pub domains_born : is_birth e ≡ true → ended_by e ≡ None → k.domains ++ born s e ∷ [] ≡ domain_records s (e ∷ k.past)
  domains_born b z = ap (λ (xs : List DomainState). xs ++ born s e ∷ []) h.domains ∙ sym (domains_after_birth s k.past e h.admitted b z)

  -- a domain ended
  pub domains_ended : (d i : ℕ) (why : Reason) → is_birth e ≡ false → ended_by e ≡ Some (d, why) → d ≡ i + 1 → d ≤ domains_made k.past →
      changed_at i (λ item. record item { ended = Some why }) k.domains ≡ domain_records s (e ∷ k.past)
  domains_ended d i why b z q u =
      ap (changed_at i (λ (item : DomainState). record item { ended = Some why })) h.domains
      ∙ sym (set_changed i (λ (item : DomainState). record item { ended = Some why }) (domain_records s k.past) (domain_record s k.past d) (domain_record_there s k.past d i q u))
      ∙ sym (domains_after_end s k.past e d i why b z q u)

  -- ---- services and objects

  -- the services' records, each from its record
  pub services_stepped : is_export e ≡ false → each_record (λ j item. record item { holders = portals_after e j item.holders }) k.services ≡ service_records s (e ∷ k.past)
  services_stepped x =
      ap (λ (items : List ServiceRecord). each_record (λ j (item : ServiceRecord). record item { holders = portals_after e j item.holders }) items) h.services
      ∙ sym (services_every s e k.past n x)

  -- the objects' records, each from its record
  pub objects_stepped : (calls : List CallRecord) → parts_made e k.past ≡ 0 → calls ≡ call_records (e ∷ k.past) → each_record (object_record_after e k.parts calls) k.objects ≡ object_records s (e ∷ k.past)
  objects_stepped calls z c =
      ap2 (λ (parts : List Part) (items : List ObjectRecord). each_record (object_record_after e parts calls) items) h.parts h.objects
      ∙ ap (λ (cs : List CallRecord). each_record (object_record_after e (objects_of k.past) cs) (object_records s k.past)) c
      ∙ sym (objects_every s e k.past n z)

  -- the same where the entry makes objects
  pub objects_added : (calls : List CallRecord) (count : ℕ) → ended_by e ≡ None → count ≡ parts_made e k.past → calls ≡ call_records (e ∷ k.past) →
      each_record (object_record_after e k.parts calls) k.objects ++ replicate count (new_object_record s e.domain.0) ≡ object_records s (e ∷ k.past)
  objects_added calls count z m c =
      ap2 (λ (parts : List Part) (items : List ObjectRecord). each_record (object_record_after e parts calls) items ++ replicate count (new_object_record s e.domain.0)) h.parts h.objects
      ∙ ap2 (λ (cs : List CallRecord) (j : ℕ). each_record (object_record_after e (objects_of k.past) cs) (object_records s k.past) ++ replicate j (new_object_record s e.domain.0)) c m
      ∙ sym (objects_every_new s e k.past (n, h.admitted) z)

  -- the parts with the new ones
  pub parts_added : (new : List Part) → new ≡ new_parts k.parts (extents_made k.past + 1) e.act e.reply → k.parts ++ new ≡ objects_of (e ∷ k.past)
  unfolding objects_of
  parts_added new q = ap2 (λ (xs ys : List Part). xs ++ ys) h.parts (q ∙ ap (λ (xs : List Part). new_parts xs (extents_made k.past + 1) e.act e.reply) h.parts)

  -- ---- extents and granules

  -- as many records as extents
  pub extents_counted : length k.extents ≡ extents_made k.past
  unfolding extent_records
  extents_counted = ap length h.extents ∙ records_length (extent_record k.past) (extents_made k.past)

  -- the extents' records, with the bytes of those in use
  pub extents_stepped : (parts : List Part) (objects : List ObjectRecord) → is_allocation e ≡ false → (is_done e.reply && writes e.act) ≡ false → parts ≡ objects_of (e ∷ k.past) → objects ≡ object_records s (e ∷ k.past) →
      each_record (λ x item. record item { bytes = if in_use_by parts objects x then item.bytes else None }) k.extents ≡ extent_records (e ∷ k.past)
  unfolding extent_records up_to
  extents_stepped parts objects b w p o =
      ap3 (λ (ps : List Part) (os : List ObjectRecord) (items : List ExtentRecord). each_record (λ x (item : ExtentRecord). record item { bytes = if in_use_by ps os x then item.bytes else None }) items) p o h.extents
      ∙ each_map (λ x (item : ExtentRecord). record item { bytes = if in_use_by (objects_of (e ∷ k.past)) (object_records s (e ∷ k.past)) x then item.bytes else None }) (extent_record k.past) 1 (extents_made k.past)
      ∙ records_same (λ x. let item : ExtentRecord = record (extent_record k.past x) { bytes = if in_use_by (objects_of (e ∷ k.past)) (object_records s (e ∷ k.past)) x then (extent_record k.past x).bytes else None } in item)
      (λ x. let item : ExtentRecord = record (extent_record k.past x) { bytes = if is_extent_in_use (e ∷ k.past) x then (extent_record k.past x).bytes else None } in item) (extents_made k.past)
      (λ x l u. ap (λ (c : Bool). let item : ExtentRecord = record (extent_record k.past x) { bytes = if c then (extent_record k.past x).bytes else None } in item) (sym (in_use_by_records s (e ∷ k.past) x (n, h.admitted))))
      ∙ sym (extents_freed s e k.past (n, h.admitted) b w)

  -- the granules without those of freed runs
  pub taken_freed : is_birth e ≡ false → is_allocation e ≡ false → each_from (λ g used. used && not (lies_in_one (freed_runs s e k.past) g)) 0 k.taken ≡ granule_flags s (e ∷ k.past)
  unfolding granule_flags
  taken_freed b x =
      ap (each_from (λ g used. used && not (lies_in_one (freed_runs s e k.past) g)) 0) h.taken
      ∙ each_map (λ g used. used && not (lies_in_one (freed_runs s e k.past) g)) (is_used_granule s k.past) 0 (granule_limit s)
      ∙ sym (granules_after_freeing s e k.past (n, h.admitted) b x)

  born_run_is : is_birth e ≡ true → heap_run s (e ∷ k.past) (domains_made k.past + 1) ≡ born_run s e
  unfolding heap_run heap_place_of template_of birth_of
  born_run_is b =
      ap (λ (o : Option Entry). let r : Run = (unwrap_or (option_map (λ e. reply_granule e.reply) o) 0, unwrap_or (option_map (heap_granules s) (option_and_then (λ e. named_template s e.act) o)) 0) in r)
      (nth_new is_birth e k.past (domains_made k.past + 1) b refl)

  born_lives : is_birth e ≡ true → ended_by e ≡ None → is_live (e ∷ k.past) (domains_made k.past + 1) ≡ true
  unfolding end_reason reason_for
  born_lives b z =
      live_by_reason (e ∷ k.past) (domains_made k.past + 1) (record { low = omega arith; high = omega (arith, count_new is_birth e k.past b) })
      ∙ ap2 (λ (x : Option (ℕ × Reason)) (r : Option Reason). is_none (reason_after x (domains_made k.past + 1) r)) z (unmade_unended s k.past (domains_made k.past + 1) h.admitted (omega arith))

  -- the granules with a new heap's
  pub taken_born : is_birth e ≡ true → ended_by e ≡ None → ((d m : ℕ) → drops_object e d m ≡ false) → each_from (λ g used. used || lies_in g (born_run s e)) 0 k.taken ≡ granule_flags s (e ∷ k.past)
  unfolding granule_flags
  taken_born b z r =
      ap (each_from (λ g used. used || lies_in g (born_run s e)) 0) h.taken
      ∙ each_map (λ g used. used || lies_in g (born_run s e)) (is_used_granule s k.past) 0 (granule_limit s)
      ∙ ap (λ (r : Run). map (λ g. is_used_granule s k.past g || lies_in g r) (range_with_len 0 (granule_limit s))) (sym (born_run_is b))
      ∙ sym (granules_after_birth s e k.past (n, h.admitted) z r b (born_lives b z))

  -- that is its record's
  pub allocated_run_is : is_allocation e ≡ true → extent_run (e ∷ k.past) (extents_made k.past + 1) ≡ allocated_run e
  unfolding extent_run allocation_of
  allocated_run_is b =
      ap (λ (o : Option Entry). let r : Run = elim o [ None ↦ (0, 0) | Some e ↦ (reply_granule e.reply, extent_granules (allocated_bytes e.act)) ] in r)
      (nth_new is_allocation e k.past (extents_made k.past + 1) b refl)

  -- the granules with a new extent's
  pub taken_allocated : is_allocation e ≡ true → ended_by e ≡ None → ((d m : ℕ) → drops_object e d m ≡ false) → is_live k.past e.domain.0 ≡ true → each_from (λ g used. used || lies_in g (allocated_run e)) 0 k.taken ≡ granule_flags s (e ∷ k.past)
  unfolding granule_flags
  taken_allocated b z r v =
      ap (each_from (λ g used. used || lies_in g (allocated_run e)) 0) h.taken
      ∙ each_map (λ g used. used || lies_in g (allocated_run e)) (is_used_granule s k.past) 0 (granule_limit s)
      ∙ ap (λ (r : Run). map (λ g. is_used_granule s k.past g || lies_in g r) (range_with_len 0 (granule_limit s))) (sym (allocated_run_is b))
      ∙ sym (granules_after_allocation s e k.past (n, h.admitted) z r b v)

-- items that their change leaves
pub each_same : {A : Type 0} (f : ℕ → A → A) (a : ℕ) (xs : List A) → ((i : ℕ) (x : A) → f i x ≡ x) → each_from f a xs ≡ xs
each_same f a [] h = refl
each_same {A = A} f a (x ∷ xs) h = ap2 (λ (y : A) (ys : List A). y ∷ ys) (h a x) (each_same f (a + 1) xs h)

module _ (s : System) (k : Kept) (e : Entry) (h : StandsFor s k) (n : IsNext s k.past e) where
  -- ---- entries that hand over only what they make

  -- the objects' records, of which some are valid no more, and the new ones
  pub objects_beside : (count : ℕ) → ended_by e ≡ None → count ≡ parts_made e k.past → received_objects e.act e.reply ≡ new_object_numbers e.act e.reply →
      ((d m : ℕ) → drops_object e d m ≡ false) → call_records (e ∷ k.past) ≡ call_records k.past →
      each_record (λ m item. record item { valid = item.valid && not (ends_one_of (lineage_of k.parts m) e) }) k.objects ++ replicate count (new_object_record s e.domain.0) ≡ object_records s (e ∷ k.past)
  unfolding object_records object_record up_to
  objects_beside count z c q r same =
      ap3 (λ (parts : List Part) (items : List ObjectRecord) (j : ℕ). each_record (λ m (item : ObjectRecord). record item { valid = item.valid && not (ends_one_of (lineage_of parts m) e) }) items ++ replicate j (new_object_record s e.domain.0)) h.parts h.objects c
      ∙ ap (λ (items : List ObjectRecord). items ++ replicate (parts_made e k.past) (new_object_record s e.domain.0))
      (each_map (λ m (item : ObjectRecord). record item { valid = item.valid && not (ends_one_of (lineage_of (objects_of k.past) m) e) }) (object_record s k.past) 1 (objects_made k.past)
      ∙ sym (records_same (object_record s (e ∷ k.past)) (λ m. let item : ObjectRecord = record (object_record s k.past m) { valid = is_valid k.past m && not (ends_one_of (lineage_of (objects_of k.past) m) e) } in item) (objects_made k.past)
      (λ m l u. object_record_beside s e k.past m (n, h.admitted) u q z (λ d. r d m) same)))
      ∙ sym (objects_after s e k.past (n, h.admitted) z)
