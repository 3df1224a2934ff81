-- What a reply asks of a past, read off the records.
use Rattle.std.proofs.Common.{◌≡◌, refl, sym, ◌∙◌, ap, ℕ, suc, zero, ◌+◌, ◌-◌, ◌<◌, ◌≤◌, Bool, true, false, not, ◌&&◌, List, [], ◌∷◌, map, Option, Some, None, is_some, arith, ◌==◌, if◌then◌else◌, ◌⊎◌, inl, inr}
use Rattle.std.specs.Prelude.{nat_le, nat_lt}
use Rattle.std.specs.List.{range_with_len, list_all}
use Rattle.std.proofs.lemmas.Bool.Decides.{nat_tests}
use Rattle.jx_base.specs.declared.act.Act.{Act}
use Rattle.jx_base.specs.declared.act.Act.TheVariants as act
use Rattle.jx_base.specs.declared.act.Reply.{Reply}
use Rattle.jx_base.specs.declared.act.Reply.TheVariants as reply
use Rattle.jx_base.specs.declared.act.Entry.{Entry}
use Rattle.jx_base.specs.declared.states.DomainState.{DomainState}
use Rattle.jx_base.specs.declared.program.System.{System}
use Rattle.jx_base.specs.Basics.{up_to, numbered, passes}
use Rattle.program_model.specs.Limits.{domain_limit, granule_limit}
use Rattle.jx_base.specs.Histories.{Past, nth_entry, count_where}
use Rattle.jx_model.specs.Domains.{is_live, is_birth, makes_domain, domains_made, birth_of, heap_place_of, creator_of, template_of, named_template}
use Rattle.jx_model.specs.Portals.{services_made, owner_of, interface_of, exported_interface, has_live_owner, last_bound, bound_service, keeps_portal, holds_portal}
use Rattle.jx_model.specs.Calls.{calls_made, caller_of, has_live_caller}
use Rattle.jx_model.specs.MemoryObjects.{objects_of, objects_made, is_valid, ends_one_of, lineage_of}
use Rattle.jx_model.specs.Holding.{holds_object, is_extent_in_use}
use Rattle.jx_model.specs.Granules.{Run, heap_run, heap_granules, is_free_run, least_free, first_fit, is_used_granule, used_runs, lies_in_one}
use Rattle.jx_model.specs.Replies.{reply_to}
use Rattle.jx_model.specs.Tables.{domain_record, domain_records, ServiceRecord, service_record, service_records, CallRecord, call_record, call_records, ObjectRecord, object_record, object_records, granule_flags, extent_record, extent_bytes, named_service}
use Rattle.table_threads.specs.LastBinds.{HasLastBinds}
use Rattle.jx_model.specs.Legal.{IsAdmittedPast}
use Rattle.jx_base.proofs.BasicLaws.{ap2, both, at_most, beyond}
use Rattle.jx_base.proofs.NthEntries.{nth_passes, nth_there, nth_none}
use Rattle.jx_model.proofs.Refusals.{valid_none}
use Rattle.table_threads.specs.Changes.{is_set}
use Rattle.table_threads.proofs.Records.{get_range, numbered_record, no_record}
use Rattle.table_threads.proofs.Actors.{live_made, domains_fit}
use Rattle.jx_model.proofs.Exported.{held_made}
use Rattle.table_objects.proofs.Riding.{use_made}
use Rattle.table_objects.proofs.UsedBefore.{Use, ByDomain, ByCall, use_before}
use Rattle.table_objects.proofs.ExtentsInUse.{holder_lives, carrier_made}
use Rattle.table_threads.proofs.CallActs.{call_caller_there}
use Rattle.table_extents.proofs.Granules.{fits_spawn}
use Rattle.table_reads.specs.TableReads.{lives_in, owner_in, flag_at, is_flagged}
use Rattle.table_reads.proofs.ChoiceReads.{lives_by_records, unmade_entry}
use Rattle.table_reads.proofs.ActingReads.{by_number, owner_by_records, no_export}
use Rattle.std.specs.Option.{option_and_then, option_map, unwrap_or}

-- ---- domains

no_birth : (past : Past) (d : ℕ) → (d ≡ 0) ⊎ (domains_made past < d) → birth_of past d ≡ None
unfolding birth_of
no_birth past d (inr l) = nth_none is_birth past d l
no_birth past d (inl q) = by (nth_entry is_birth past d) refl
  where
    by : (o : Option Entry) → nth_entry is_birth past d ≡ o → o ≡ None
    by None z = refl
    by (Some x) z = absurd (omega (arith, (nth_passes is_birth past d x z).1, q))

some_again : (o : Option ℕ) → is_some o ≡ true → o ≡ Some (unwrap_or o 0)
some_again None h = cc
some_again (Some x) h = refl

-- the records say who made a domain
pub creator_by_records : (s : System) (past : Past) (d : ℕ) → creator_of past d ≡ option_map (λ item. item.creator.0) (numbered (domain_records s past) d)
unfolding domain_records domain_record creator_of birth_of
creator_by_records s past d =
    by_number (domain_record s past) (λ (item : DomainState). item.creator.0) (domains_made past) d (creator_of past d)
    (λ l u. some_again (creator_of past d) (there (nth_entry is_birth past d) (nth_there is_birth past d l u)))
    (λ h. ap (option_map (λ (e : Entry). e.domain.0)) (no_birth past d h))
  where
    there : (o : Option Entry) → is_some o ≡ true → is_some (option_map (λ (e : Entry). e.domain.0) o) ≡ true
    there None h = cc
    there (Some x) h = refl

births : (s : System) (past : Past) (d : ℕ) (b : Act) (r : Reply) → r ≡ reply_to s past d b → makes_domain b r ≡ true → is_some (named_template s b) ≡ true
unfolding makes_domain named_template reply_to
births s past d (act.Create t) r q m = refl
births s past d (act.Spawn name) (reply.Domain j g) q m = ap is_some (fits_spawn s past name j g q).1
births s past d _ _ q m = cc

birth_there : (past : Past) (d : ℕ) → 1 ≤ d → d ≤ domains_made past → is_some (birth_of past d) ≡ true
unfolding birth_of
birth_there past d l u = nth_there is_birth past d l u

-- a domain that was made has a template
pub template_there : (s : System) (past : Past) (d : ℕ) (x : Entry) → IsAdmittedPast s past → birth_of past d ≡ Some x → is_some (named_template s x.act) ≡ true
unfolding birth_of nth_entry is_birth
template_there s [] d x a h = cc
template_there s (e ∷ past) d x a h = by (is_birth e && (d == domains_made past + 1)) refl h (template_there s past d x a.1)
  where
    by : (b : Bool) → (is_birth e && (d == domains_made past + 1)) ≡ b → (elim b as (λ _. Option Entry) [ true ↦ Some e | false ↦ nth_entry is_birth past d ]) ≡ Some x →
        (nth_entry is_birth past d ≡ Some x → is_some (named_template s x.act) ≡ true) → is_some (named_template s x.act) ≡ true
    by true q h again = let z : e ≡ x = cc in ap (λ (y : Entry). is_some (named_template s y.act)) (sym z) ∙ births s past e.domain.0 e.act e.reply a.0.reply (both (is_birth e) (d == domains_made past + 1) q).0
    by false q h again = again h

-- the records say a domain's template
pub template_by_records : (s : System) (past : Past) (d : ℕ) → IsAdmittedPast s past → template_of s past d ≡ option_map (λ item. item.template) (numbered (domain_records s past) d)
unfolding domain_records domain_record template_of
template_by_records s past d a =
    by_number (domain_record s past) (λ (item : DomainState). item.template) (domains_made past) d (template_of s past d)
    (λ l u. some_again (template_of s past d) (there (birth_of past d) refl (birth_there past d l u)))
    (λ h. ap (λ (o : Option Entry). option_and_then (λ e. named_template s e.act) o) (no_birth past d h))
  where
    there : (o : Option Entry) → birth_of past d ≡ o → is_some o ≡ true → is_some (option_and_then (λ e. named_template s e.act) o) ≡ true
    there None q h = cc
    there (Some x) q h = template_there s past d x a q

-- ---- services

-- the records say a service's interface
pub interface_by_records : (s : System) (past : Past) (k : ℕ) → interface_of past k ≡ option_and_then (λ item. item.interface) (numbered (service_records s past) k)
unfolding service_records service_record interface_of
interface_by_records s past k = by (nat_lt 0 k) refl (nat_le k (services_made past)) refl
  where
    some : (c : ℕ) → nat_lt 0 c ≡ true → 1 ≤ c
    some c q = grind (arith, nat_tests)

    zeroth : (c : ℕ) → nat_lt 0 c ≡ false → c ≡ 0
    zeroth c q = grind (arith, nat_tests)

    none : (k ≡ 0) ⊎ (services_made past < k) → interface_of past k ≡ option_and_then (λ item. item.interface) (numbered (map (service_record s past) (up_to (services_made past))) k)
    none h = ap (λ (o : Option Entry). option_and_then (λ e. exported_interface e.act e.reply) o) (no_export past k h) ∙ sym (ap (λ (o : Option ServiceRecord). option_and_then (λ item. item.interface) o) (no_record (service_record s past) (services_made past) k h))

    by : (x : Bool) → nat_lt 0 k ≡ x → (y : Bool) → nat_le k (services_made past) ≡ y → interface_of past k ≡ option_and_then (λ item. item.interface) (numbered (map (service_record s past) (up_to (services_made past))) k)
    by false q y r = none (inl (zeroth k q))
    by true q false r = none (inr (beyond k (services_made past) r))
    by true q true r = sym (ap (λ (o : Option ServiceRecord). option_and_then (λ item. item.interface) o) (numbered_record (service_record s past) (services_made past) k (some k q) (at_most k (services_made past) r)))

passes_same : (o : Option ℕ) (f g : ℕ → Bool) → ((k : ℕ) → f k ≡ g k) → passes f o ≡ passes g o
unfolding passes
passes_same None f g h = refl
passes_same (Some k) f g h = h k

-- the records say whether a service's owner lives
pub live_owner_by_records : (s : System) (past : Past) (k : ℕ) → has_live_owner past k ≡ passes (lives_in (domain_records s past)) (owner_in (service_records s past) k)
unfolding has_live_owner
live_owner_by_records s past k = passes_same (owner_of past k) (is_live past) (lives_in (domain_records s past)) (lives_by_records s past) ∙ ap (passes (lives_in (domain_records s past))) (owner_by_records s past k)

-- the list and the records say what a name is bound to
pub bound_by_binds : (s : System) (names : List (List ℕ × ℕ)) (past : Past) (name : List ℕ) → HasLastBinds names past →
    bound_service past name ≡ option_and_then (λ k. if passes (lives_in (domain_records s past)) (owner_in (service_records s past) k) then Some k else None) (named_service names name)
unfolding bound_service
bound_by_binds s names past name h =
    by (last_bound past name) ∙ ap (λ (o : Option ℕ). option_and_then (λ k. if passes (lives_in (domain_records s past)) (owner_in (service_records s past) k) then Some k else None) o) (sym (h name))
  where
    by : (o : Option ℕ) → option_and_then (λ k. if has_live_owner past k then Some k else None) o ≡ option_and_then (λ k. if passes (lives_in (domain_records s past)) (owner_in (service_records s past) k) then Some k else None) o
    by None = refl
    by (Some k) = ap (λ (b : Bool). if b then Some k else None) (live_owner_by_records s past k)

-- the test of a record by its number, where what isn't made fails
pub test_by_number : {A : Type 0} (f : ℕ → A) (p : A → Bool) (n c : ℕ) (b : Bool) → (1 ≤ c → c ≤ n → b ≡ p (f c)) → ((c ≡ 0) ⊎ (n < c) → b ≡ false) → b ≡ passes p (numbered (map f (up_to n)) c)
unfolding passes
test_by_number f p n c b there none = by (nat_lt 0 c) refl (nat_le c n) refl
  where
    some : (c : ℕ) → nat_lt 0 c ≡ true → 1 ≤ c
    some c q = grind (arith, nat_tests)

    zeroth : (c : ℕ) → nat_lt 0 c ≡ false → c ≡ 0
    zeroth c q = grind (arith, nat_tests)

    by : (x : Bool) → nat_lt 0 c ≡ x → (y : Bool) → nat_le c n ≡ y → b ≡ passes p (numbered (map f (up_to n)) c)
    by false q y r = none (inl (zeroth c q)) ∙ sym (ap (passes p) (no_record f n c (inl (zeroth c q))))
    by true q false r = none (inr (beyond c n r)) ∙ sym (ap (passes p) (no_record f n c (inr (beyond c n r))))
    by true q true r = there (some c q) (at_most c n r) ∙ sym (ap (passes p) (numbered_record f n c (some c q) (at_most c n r)))

not_true : (b : Bool) → (b ≡ true → ⊥) → b ≡ false
not_true true h = absurd (h refl)
not_true false h = refl

-- who passes has its flag set, where nobody passes without a flag
pub flagged : (p : ℕ → Bool) (n d : ℕ) → (p d ≡ true → (1 ≤ d) × (d ≤ n)) → p d ≡ flag_at (map p (up_to n)) d
flagged p n d h = test_by_number p is_set n d (p d) (λ l u. refl) (λ x. not_true (p d) (λ z. none x z))
  where
    none : (d ≡ 0) ⊎ (n < d) → p d ≡ true → ⊥
    none (inl q) z = absurd (omega (arith, q, (h z).0))
    none (inr l) z = absurd (omega (arith, l, (h z).1))

-- who holds a portal is live
pub portal_lives : (past : Past) (d k : ℕ) → holds_portal past d k ≡ true → is_live past d ≡ true
unfolding holds_portal
portal_lives past d k h = (both (is_live past d) (keeps_portal past d k) h).0

-- the records say who holds a portal
pub portal_by_records : (s : System) (past : Past) (d k : ℕ) → IsAdmittedPast s past → holds_portal past d k ≡ passes (λ item. flag_at item.holders d) (numbered (service_records s past) k)
unfolding service_records service_record
portal_by_records s past d k a =
    test_by_number (service_record s past) (λ (item : ServiceRecord). flag_at item.holders d) (services_made past) k (holds_portal past d k)
    (λ l u. flagged (λ d. holds_portal past d k) (domain_limit s) d (λ h. let m = live_made past d (portal_lives past d k h) in (m.low, omega (arith, m.high, domains_fit s past a))))
    (λ h. not_true (holds_portal past d k) (λ z. none h z))
  where
    none : (k ≡ 0) ⊎ (services_made past < k) → holds_portal past d k ≡ true → ⊥
    none (inl q) z = absurd (omega (arith, q, (held_made past d k z).low))
    none (inr l) z = absurd (omega (arith, l, (held_made past d k z).high))

-- ---- calls and objects

-- the records say whether a call's caller lives
pub live_caller_by_records : (s : System) (past : Past) (c : ℕ) → has_live_caller past c ≡ passes (λ item. lives_in (domain_records s past) item.caller) (numbered (call_records past) c)
unfolding call_records call_record has_live_caller caller_of passes
live_caller_by_records s past c =
    test_by_number (call_record past) (λ (item : CallRecord). lives_in (domain_records s past) item.caller) (calls_made past) c (has_live_caller past c)
    (λ l u. ap (passes (is_live past)) (call_caller_there past c l u) ∙ lives_by_records s past (unwrap_or (caller_of past c) 0))
    (λ h. ap (λ (o : Option Entry). passes (is_live past) (option_map (λ e. e.domain.0) o)) (unmade_entry past c h))

-- no object has the number 0
zero_invalid : (past : Past) → is_valid past 0 ≡ false
unfolding is_valid
zero_invalid [] = refl
zero_invalid (e ∷ past) =
    ap2 (λ (b c : Bool). if b then c && not (ends_one_of (lineage_of (objects_of past) 0) e) else nat_le 0 (objects_made (e ∷ past))) (least (objects_made past)) (zero_invalid past)
  where
    least : (n : ℕ) → nat_le 0 n ≡ true
    least n = grind (arith, nat_tests)

-- the records say which objects are valid
pub valid_by_records : (s : System) (past : Past) (m : ℕ) → is_valid past m ≡ passes (λ item. item.valid) (numbered (object_records s past) m)
unfolding object_records object_record
valid_by_records s past m =
    test_by_number (object_record s past) (λ (item : ObjectRecord). item.valid) (objects_made past) m (is_valid past m) (λ l u. refl) none
  where
    above : (a b : ℕ) → b < a → nat_le a b ≡ false
    above a b l = grind (arith, nat_tests)

    none : (m ≡ 0) ⊎ (objects_made past < m) → is_valid past m ≡ false
    none (inl q) = ap (is_valid past) q ∙ zero_invalid past
    none (inr l) = valid_none past m (above m (objects_made past) l)

-- nothing holds or carries the object 0
pub zero_unused : (s : System) (past : Past) → IsAdmittedPast s past → Use past 0 → ⊥
unfolding count_where
zero_unused s [] a (ByDomain d h) = let m = live_made [] d (holder_lives [] d 0 h) in absurd (omega (arith, m.low, m.high, none))
  where
    none : domains_made [] ≡ 0
    none = refl
zero_unused s [] a (ByCall c h) = let m = carrier_made [] c 0 h in absurd (omega (arith, m.0, m.1, none))
  where
    none : calls_made [] ≡ 0
    none = refl
zero_unused s (e ∷ past) a u = zero_unused s past a.1 (use_before s e past 0 a (omega arith) u)

-- the records say who holds an object
pub object_by_records : (s : System) (past : Past) (d m : ℕ) → IsAdmittedPast s past → holds_object past d m ≡ passes (λ item. flag_at item.holders d) (numbered (object_records s past) m)
unfolding object_records object_record
object_by_records s past d m a =
    test_by_number (object_record s past) (λ (item : ObjectRecord). flag_at item.holders d) (objects_made past) m (holds_object past d m)
    (λ l u. flagged (λ d. holds_object past d m) (domain_limit s) d (λ h. let v = live_made past d (holder_lives past d m h) in (v.low, omega (arith, v.high, domains_fit s past a))))
    (λ h. not_true (holds_object past d m) (λ z. none h z))
  where
    none : (m ≡ 0) ⊎ (objects_made past < m) → holds_object past d m ≡ true → ⊥
    none (inl q) z = zero_unused s past a (ByDomain d (ap (λ (j : ℕ). holds_object past d j) (sym q) ∙ z))
    none (inr l) z = absurd (omega (arith, use_made s past m a (ByDomain d z), l))

-- ---- granules

-- where the tests agree on all granules, so does the first fit
pub fit_same : (used flags : ℕ → Bool) (limit n more g : ℕ) → ((k : ℕ) → k < limit → used k ≡ flags k) → (more ≡ 0) ⊎ (more + g + n ≤ limit + 1) → least_free used n more g ≡ least_free flags n more g
unfolding least_free is_free_run
fit_same used flags limit n zero g h w = refl
fit_same used flags limit n (suc more) g h w =
    ap2 (λ (b : Bool) (o : Option ℕ). elim b as (λ _. Option ℕ) [ true ↦ Some g | false ↦ o ]) (runs g n (omega (arith, fits w))) (fit_same used flags limit n more (g + 1) h (later more (fits w)))
  where
    fits : (suc more ≡ 0) ⊎ (suc more + g + n ≤ limit + 1) → suc more + g + n ≤ limit + 1
    fits (inl q) = absurd (omega (arith, q))
    fits (inr l) = l

    later : (x : ℕ) → suc x + g + n ≤ limit + 1 → (x ≡ 0) ⊎ (x + (g + 1) + n ≤ limit + 1)
    later x l = inr (omega (arith, l))

    runs : (a j : ℕ) → a + j ≤ limit → list_all (λ k. not (used k)) (range_with_len a j) ≡ list_all (λ k. not (flags k)) (range_with_len a j)
    runs a zero l = refl
    runs a (suc j) l = ap2 (λ (x y : Bool). not x && y) (h a (omega (arith, l))) (runs (a + 1) j (omega (arith, l)))

-- the flags say the first fit
pub fit_by_flags : (s : System) (past : Past) (n : ℕ) → first_fit s past n ≡ least_free (is_flagged (granule_flags s past)) n (granule_limit s + 1 - n) 0
unfolding first_fit granule_flags is_used_granule passes
fit_by_flags s past n =
    fit_same (lies_in_one (used_runs s past)) (is_flagged (granule_flags s past)) (granule_limit s) n (granule_limit s + 1 - n) 0
    (λ k l. sym (ap (passes (λ (b : Bool). b)) (get_range (is_used_granule s past) 0 (granule_limit s) k l) ∙ ap (is_used_granule s past) (omega arith)))
    (cases (granule_limit s) n)
  where
    cases : (x n : ℕ) → ((x + 1 - n) ≡ 0) ⊎ (x + 1 - n + 0 + n ≤ x + 1)
    cases x n = by (nat_le n (x + 1)) refl
      where
        by : (b : Bool) → nat_le n (x + 1) ≡ b → ((x + 1 - n) ≡ 0) ⊎ (x + 1 - n + 0 + n ≤ x + 1)
        by true q = inr (omega (arith, at_most n (x + 1) q))
        by false q = inl (omega (arith, beyond n (x + 1) q))

-- ---- runs

-- a domain's record says its heap's granules
pub heap_run_by_record : (s : System) (past : Past) (d : ℕ) → IsAdmittedPast s past → 1 ≤ d → d ≤ domains_made past → heap_run s past d ≡ (let item : DomainState = domain_record s past d in (item.at, heap_granules s item.template))
unfolding heap_run domain_record template_of
heap_run_by_record s past d a l u = ap (λ (n : ℕ). let r : Run = (unwrap_or (heap_place_of past d) 0, n) in r) (by (template_of s past d) (there (birth_of past d) refl (birth_there past d l u)))
  where
    there : (o : Option Entry) → birth_of past d ≡ o → is_some o ≡ true → is_some (template_of s past d) ≡ true
    there None q h = cc
    there (Some x) q h = ap (λ (o : Option Entry). is_some (option_and_then (λ e. named_template s e.act) o)) q ∙ template_there s past d x a q

    by : (o : Option ℕ) → is_some o ≡ true → unwrap_or (option_map (heap_granules s) o) 0 ≡ heap_granules s (unwrap_or o 0)
    by None h = cc
    by (Some t) h = refl

-- an extent's record says whether it is in use
pub in_use_by_record : (past : Past) (x : ℕ) → is_extent_in_use past x ≡ is_some (extent_record past x).bytes
unfolding extent_record
in_use_by_record past x = by (is_extent_in_use past x) (extent_bytes past x)
  where
    by : (b : Bool) (xs : List ℕ) → b ≡ is_some (if b then Some xs else None)
    by true xs = refl
    by false xs = refl
