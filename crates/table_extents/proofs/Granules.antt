-- Granules in use by their owners, the first fit, and that the runs of what is in use lie apart.
use Rattle.std.proofs.Common.{◌≡◌, refl, sym, ◌∙◌, ap, subst, ℕ, suc, zero, ◌+◌, ◌-◌, ◌<◌, ◌≤◌, ℤ, Bool, true, false, not, ◌&&◌, ◌||◌, List, [], ◌∷◌, Option, Some, None, arith, if◌then◌else◌, filter_map, ◌⊎◌, inl, inr, map}
use Rattle.std.specs.Prelude.{nat_le, nat_lt}
use Rattle.std.specs.List.{range_with_len, list_any, list_all, cons_option}
use Rattle.std.proofs.lemmas.Bool.Decides.{nat_tests}
use Rattle.jx_base.specs.declared.act.Act.{Act}
use Rattle.jx_base.specs.declared.act.Act.TheVariants as act
use Rattle.jx_base.specs.declared.act.Reply.{Reply}
use Rattle.jx_base.specs.declared.act.Reply.TheVariants as reply
use Rattle.jx_base.specs.declared.act.Refusal.{Refusal}
use Rattle.jx_base.specs.declared.act.Refusal.TheVariants as refusal
use Rattle.jx_base.specs.declared.act.Entry.{Entry}
use Rattle.jx_base.specs.declared.ids.DomainId.{DomainId}
use Rattle.jx_base.specs.declared.ids.ObjectId.{ObjectId}
use Rattle.jx_base.specs.declared.program.System.{System}
use Rattle.jx_base.specs.Basics.{up_to, not_below_zero}
use Rattle.program_model.specs.Limits.{granule_limit}
use Rattle.jx_base.specs.Histories.{Past, count_where}
use Rattle.jx_model.specs.Domains.{is_live, is_birth, makes_domain, domains_made, birth_of, template_of, heap_place_of, named_template, template_named, reply_granule, ended_by}
use Rattle.jx_model.specs.Calls.{ends_domain}
use Rattle.jx_model.specs.MemoryObjects.{is_allocation, makes_extent, extents_made, allocation_of, allocated_bytes}
use Rattle.jx_model.specs.Holding.{is_extent_in_use}
use Rattle.jx_model.specs.Granules.{Run, run_if, heap_run, heap_runs, heap_granules, extent_run, extent_runs, extent_granules, used_runs, lies_in, lies_in_one, is_used_granule, is_free_run, least_free, first_fit}
use Rattle.jx_model.specs.Replies.{reply_to, new_object, new_domain, spawned, allocated, given_or, ◌refuses◌else◌}
use Rattle.jx_model.specs.Tables.{granule_flags}
use Rattle.jx_model.specs.Legal.{IsNext, IsAdmittedPast}
use Rattle.jx_base.proofs.BasicLaws.{ap2, both, at_most, beyond}
use Rattle.jx_base.proofs.NthEntries.{nth_new, nth_old, count_new, count_same}
use Rattle.table_threads.proofs.Records.{same_or_not, any_append, any_at, any_found, map_range}
use Rattle.table_threads.proofs.Actors.{IsMade, live_made}
use Rattle.table_threads.proofs.CallStages.{live_after}
use Rattle.table_objects.proofs.ExtentsInUse.{in_use_before, in_use_made}
use Rattle.std.specs.Option.{option_and_then, option_map, unwrap_or}

-- ---- by owners

-- what granules belong to
pub data Owner : Type 0 where
  HeapOf : ℕ → Owner
  ExtentOf : ℕ → Owner

-- whether the owner is in use
abbrev pub is_owner_used : Past → Owner → Bool
is_owner_used past (HeapOf d) = is_live past d
is_owner_used past (ExtentOf x) = is_extent_in_use past x

-- its granules
abbrev pub run_of : System → Past → Owner → Run
run_of s past (HeapOf d) = heap_run s past d
run_of s past (ExtentOf x) = extent_run past x

-- a test of the runs of what is in use
pub any_run : (used : ℕ → Bool) (run : ℕ → Run) (g : ℕ) (xs : List ℕ) → list_any (lies_in g) (filter_map (run_if used run) xs) ≡ list_any (λ n. used n && lies_in g (run n)) xs
unfolding run_if
any_run used run g [] = refl
any_run used run g (x ∷ xs) = by (used x) (any_run used run g xs)
  where
    by : (b : Bool) → list_any (lies_in g) (filter_map (run_if used run) xs) ≡ list_any (λ n. used n && lies_in g (run n)) xs →
        list_any (lies_in g) (cons_option (if b then Some (run x) else None) (filter_map (run_if used run) xs)) ≡ ((b && lies_in g (run x)) || list_any (λ n. used n && lies_in g (run n)) xs)
    by true again = ap (λ (b : Bool). lies_in g (run x) || b) again
    by false again = again

-- a granule is used by the heap of a live domain or by an extent in use
pub used_by_tests : (s : System) (past : Past) (g : ℕ) →
    is_used_granule s past g
    ≡ (list_any (λ d. is_live past d && lies_in g (heap_run s past d)) (up_to (domains_made past)) || list_any (λ x. is_extent_in_use past x && lies_in g (extent_run past x)) (up_to (extents_made past)))
unfolding is_used_granule lies_in_one used_runs heap_runs extent_runs
used_by_tests s past g =
    any_append (lies_in g) (heap_runs s past) (extent_runs past)
    ∙ ap2 (λ (x y : Bool). x || y) (any_run (is_live past) (heap_run s past) g (up_to (domains_made past))) (any_run (is_extent_in_use past) (extent_run past) g (up_to (extents_made past)))

-- an owner in use that has the granule
pub record Holds (s : System) (past : Past) (o : Owner) (g : ℕ) : Type 0 where
  pub used : is_owner_used past o ≡ true
  pub lies : lies_in g (run_of s past o) ≡ true

-- a used granule has an owner
pub owner_there : (s : System) (past : Past) (g : ℕ) → is_used_granule s past g ≡ true → (o : Owner) × Holds s past o g
unfolding up_to
owner_there s past g h = by (list_any (λ d. is_live past d && lies_in g (heap_run s past d)) (range_with_len 1 (domains_made past))) refl (sym (used_by_tests s past g) ∙ h)
  where
    by : (b : Bool) → list_any (λ d. is_live past d && lies_in g (heap_run s past d)) (range_with_len 1 (domains_made past)) ≡ b →
        (b || list_any (λ x. is_extent_in_use past x && lies_in g (extent_run past x)) (range_with_len 1 (extents_made past))) ≡ true → (o : Owner) × Holds s past o g
    by true q h =
        let f = any_found (λ d. is_live past d && lies_in g (heap_run s past d)) 1 (domains_made past) q in
        let x = both (is_live past f.0) (lies_in g (heap_run s past f.0)) f.3 in (HeapOf f.0, record { used = x.0; lies = x.1 })
    by false q h =
        let f = any_found (λ x. is_extent_in_use past x && lies_in g (extent_run past x)) 1 (extents_made past) h in
        let x = both (is_extent_in_use past f.0) (lies_in g (extent_run past f.0)) f.3 in (ExtentOf f.0, record { used = x.0; lies = x.1 })

-- a granule of an owner in use is used
pub owned_is_used : (s : System) (past : Past) (o : Owner) (g : ℕ) → IsAdmittedPast s past → Holds s past o g → is_used_granule s past g ≡ true
unfolding up_to
owned_is_used s past (HeapOf d) g a h =
    used_by_tests s past g ∙ left _ _ (any_at (λ d. is_live past d && lies_in g (heap_run s past d)) 1 (domains_made past) d (live_made past d h.used).low (omega (arith, (live_made past d h.used).high)) (two _ _ h.used h.lies))
  where
    left : (x y : Bool) → x ≡ true → (x || y) ≡ true
    left true y q = refl
    left false y q = cc

    two : (x y : Bool) → x ≡ true → y ≡ true → (x && y) ≡ true
    two x y p q = rw (p, q) refl
owned_is_used s past (ExtentOf x) g a h =
    let m = in_use_made s past x a h.used in
    used_by_tests s past g ∙ right _ _ (any_at (λ x. is_extent_in_use past x && lies_in g (extent_run past x)) 1 (extents_made past) x m.0 (omega (arith, m.1)) (two _ _ h.used h.lies))
  where
    right : (x y : Bool) → y ≡ true → (x || y) ≡ true
    right true y q = refl
    right false y q = q

    two : (x y : Bool) → x ≡ true → y ≡ true → (x && y) ≡ true
    two x y p q = rw (p, q) refl

-- ---- the first fit

-- the first place from there on, below the limit, at which n granules are free
pub record IsFirstFree (used : ℕ → Bool) (n from limit g : ℕ) : Type 0 where
  pub low : from ≤ g
  pub high : g < limit
  pub free : (k : ℕ) → g ≤ k → k < g + n → used k ≡ false
  pub first : (h : ℕ) → from ≤ h → h < g → is_free_run used n h ≡ false

free_all : (used : ℕ → Bool) (g n : ℕ) → is_free_run used n g ≡ true → (k : ℕ) → g ≤ k → k < g + n → used k ≡ false
unfolding is_free_run
free_all used g zero h k l u = absurd (omega (arith, l, u))
free_all used g (suc n) h k l u = by (used g) refl h (free_all used (g + 1) n)
  where
    by : (b : Bool) → used g ≡ b → (not b && list_all (λ k. not (used k)) (range_with_len (g + 1) n)) ≡ true →
        (list_all (λ k. not (used k)) (range_with_len (g + 1) n) ≡ true → (k : ℕ) → g + 1 ≤ k → k < g + 1 + n → used k ≡ false) → used k ≡ false
    by true q e again = cc
    by false q e again = elim (same_or_not g k) [ inl z ↦ ap used (sym z) ∙ q | inr z ↦ again e k (omega (arith, l, z)) (omega (arith, u)) ]

-- what the search finds is the first such place
pub least_is_first : (used : ℕ → Bool) (n more from g : ℕ) → least_free used n more from ≡ Some g → IsFirstFree used n from (from + more) g
unfolding least_free
least_is_first used n zero from g h = cc
least_is_first used n (suc more) from g h = by (is_free_run used n from) refl h (least_is_first used n more (from + 1) g)
  where
    by : (b : Bool) → is_free_run used n from ≡ b → (elim b as (λ _. Option ℕ) [ true ↦ Some from | false ↦ least_free used n more (from + 1) ]) ≡ Some g →
        (least_free used n more (from + 1) ≡ Some g → IsFirstFree used n (from + 1) (from + 1 + more) g) → IsFirstFree used n from (from + suc more) g
    by true q e again =
        let z : from ≡ g = cc in
        record { low = omega (arith, z); high = omega (arith, z); free = free_all used g n (ap (is_free_run used n) (sym z) ∙ q); first = λ h l u. absurd (omega (arith, l, u, z)) }
    by false q e again =
        let r = again e in
        record { low = omega (arith, r.low); high = omega (arith, r.high); free = r.free; first = λ h l u. elim (same_or_not from h) [ inl z ↦ ap (is_free_run used n) (sym z) ∙ q | inr z ↦ r.first h (omega (arith, l, z)) u ] }

lies_low : (g a n : ℕ) → (nat_le a g && nat_lt g (a + n)) ≡ true → a ≤ g
lies_low g a n h = grind (arith, nat_tests)

lies_high : (g a n : ℕ) → (nat_le a g && nat_lt g (a + n)) ≡ true → g < a + n
lies_high g a n h = grind (arith, nat_tests)

-- no granule of the first fit was used
pub fit_is_free : (s : System) (past : Past) (r : Run) (g : ℕ) → first_fit s past r.1 ≡ Some r.0 → lies_in g r ≡ true → is_used_granule s past g ≡ false
unfolding first_fit is_used_granule lies_in
fit_is_free s past r g h l =
    (least_is_first (lies_in_one (used_runs s past)) r.1 (granule_limit s + 1 - r.1) 0 r.0 h).free g (lies_low g r.0 r.1 l) (lies_high g r.0 r.1 l)

-- ---- new runs

refused_not : (b : Bool) (r : Refusal) (rest x : Reply) → x ≡ (b refuses r else rest) → ((y : Refusal) → x ≡ reply.Refused y → ⊥) → x ≡ rest
unfolding ◌refuses◌else◌
refused_not true r rest x h never = absurd (never r h)
refused_not false r rest x h never = h

fits_domain : (s : System) (past : Past) (t : ℕ) (d : DomainId) (g : ℕ) → reply.Domain d g ≡ new_domain s past t → first_fit s past (heap_granules s t) ≡ Some g
unfolding new_domain given_or
fits_domain s past t d g h = by (first_fit s past (heap_granules s t)) (refused_not _ _ _ (reply.Domain d g) h (λ y q. cc (q)))
  where
    by : (o : Option ℕ) → reply.Domain d g ≡ given_or o refusal.NoRoom (λ g. reply.Domain (record { 0 = domains_made past + 1 }) g) → o ≡ Some g
    by None q = cc
    by (Some x) q = let z : g ≡ x = cc in ap Some (sym z)

-- a spawn that makes a domain names a template, whose heap fits first at the domain's place
pub fits_spawn : (s : System) (past : Past) (name : List ℕ) (d : DomainId) (g : ℕ) → reply.Domain d g ≡ spawned s past name → (t : ℕ) × (template_named s name ≡ Some t) × (first_fit s past (heap_granules s t) ≡ Some g)
unfolding spawned given_or
fits_spawn s past name d g h = by (template_named s name) refl h
  where
    by : (o : Option ℕ) → template_named s name ≡ o → reply.Domain d g ≡ given_or o refusal.Unknown (new_domain s past) → (t : ℕ) × (template_named s name ≡ Some t) × (first_fit s past (heap_granules s t) ≡ Some g)
    by None z q = cc
    by (Some t) z q = (t, z, fits_domain s past t d g q)

fits_extent : (s : System) (past : Past) (n : ℤ) (m : ObjectId) (g : ℕ) → reply.Made m g ≡ allocated s past n → first_fit s past (extent_granules (not_below_zero n)) ≡ Some g
unfolding allocated given_or
fits_extent s past n m g h = by (first_fit s past (extent_granules (not_below_zero n))) (refused_not _ _ _ (reply.Made m g) (refused_not _ _ _ (reply.Made m g) h (λ y q. cc (q))) (λ y q. cc (q)))
  where
    by : (o : Option ℕ) → reply.Made m g ≡ given_or o refusal.NoRoom (λ g. reply.Made (new_object past 1) g) → o ≡ Some g
    by None q = cc
    by (Some x) q = let z : g ≡ x = cc in ap Some (sym z)

-- the heap of a new domain is the first fit of its template's granules
pub birth_fits : (s : System) (e : Entry) (past : Past) → IsNext s past e → is_birth e ≡ true →
    let r : Run = heap_run s (e ∷ past) (domains_made past + 1) in first_fit s past r.1 ≡ Some r.0
unfolding heap_run heap_place_of template_of birth_of is_birth makes_domain reply_to reply_granule named_template
birth_fits s e past n b =
    subst (λ (o : Option Entry). first_fit s past (unwrap_or (option_map (heap_granules s) (option_and_then (λ e. named_template s e.act) o)) 0) ≡ Some (unwrap_or (option_map (λ e. reply_granule e.reply) o) 0))
    (sym (nth_new is_birth e past (domains_made past + 1) b refl)) (by e.act e.reply n.reply b)
  where
    by : (a : Act) (r : Reply) → r ≡ reply_to s past e.domain.0 a → makes_domain a r ≡ true → first_fit s past (unwrap_or (option_map (heap_granules s) (named_template s a)) 0) ≡ Some (reply_granule r)
    by (act.Create t) (reply.Domain d g) q b = fits_domain s past t d g q
    by (act.Spawn name) (reply.Domain d g) q b =
        let x = fits_spawn s past name d g q in
        ap (λ (o : Option ℕ). first_fit s past (unwrap_or (option_map (heap_granules s) o) 0)) x.1 ∙ x.2
    by _ _ q b = cc

-- the granules of a new extent are the first fit of its bytes
pub allocation_fits : (s : System) (e : Entry) (past : Past) → IsNext s past e → is_allocation e ≡ true →
    let r : Run = extent_run (e ∷ past) (extents_made past + 1) in first_fit s past r.1 ≡ Some r.0
unfolding extent_run allocation_of is_allocation makes_extent reply_to reply_granule allocated_bytes
allocation_fits s e past n b =
    subst (λ (o : Option Entry). let r : Run = elim o [ None ↦ (0, 0) | Some e ↦ (reply_granule e.reply, extent_granules (allocated_bytes e.act)) ] in first_fit s past r.1 ≡ Some r.0)
    (sym (nth_new is_allocation e past (extents_made past + 1) b refl)) (by e.act e.reply n.reply b)
  where
    by : (a : Act) (r : Reply) → r ≡ reply_to s past e.domain.0 a → makes_extent a r ≡ true → first_fit s past (extent_granules (allocated_bytes a)) ≡ Some (reply_granule r)
    by (act.Alloc n) (reply.Made m g) q b = fits_extent s past n m g q
    by _ _ q b = cc

-- ---- owners after an entry

-- an entry makes no domain and extent at once
pub not_both : {A : Type 0} (e : Entry) → is_birth e ≡ true → is_allocation e ≡ true → A
unfolding is_birth makes_domain is_allocation makes_extent
not_both e b x = by e.act e.reply b x
  where
    by : {A : Type 0} (a : Act) (r : Reply) → makes_domain a r ≡ true → makes_extent a r ≡ true → A
    by (act.Alloc n) r b x = cc
    by (act.Create t) r b x = cc
    by (act.Spawn name) r b x = cc
    by _ r b x = cc

-- an owner in use after an entry was in use before it with the same granules, or is what the entry made
pub data WasOwner (s : System) (e : Entry) (past : Past) (o : Owner) : Type 0 where
  Old : is_owner_used past o ≡ true → run_of s (e ∷ past) o ≡ run_of s past o → WasOwner s e past o
  NewHeap : is_birth e ≡ true → o ≡ HeapOf (domains_made past + 1) → WasOwner s e past o
  NewRun : is_allocation e ≡ true → o ≡ ExtentOf (extents_made past + 1) → WasOwner s e past o

-- the heap of a domain that was made before
pub heap_old : (s : System) (e : Entry) (past : Past) (d : ℕ) → d ≤ domains_made past → heap_run s (e ∷ past) d ≡ heap_run s past d
unfolding heap_run heap_place_of template_of birth_of
heap_old s e past d u = ap (λ (o : Option Entry). let r : Run = (unwrap_or (option_map (λ e. reply_granule e.reply) o) 0, unwrap_or (option_map (heap_granules s) (option_and_then (λ e. named_template s e.act) o)) 0) in r) (nth_old is_birth e past d (λ q. omega (arith, q, u)))

-- the granules of an extent that was made before
pub run_old : (e : Entry) (past : Past) (x : ℕ) → x ≤ extents_made past → extent_run (e ∷ past) x ≡ extent_run past x
unfolding extent_run allocation_of
run_old e past x u = ap (λ (o : Option Entry). let r : Run = elim o [ None ↦ (0, 0) | Some e ↦ (reply_granule e.reply, extent_granules (allocated_bytes e.act)) ] in r) (nth_old is_allocation e past x (λ q. omega (arith, q, u)))

-- each owner in use after an entry
pub owner_was : (s : System) (e : Entry) (past : Past) (o : Owner) → IsAdmittedPast s (e ∷ past) → is_owner_used (e ∷ past) o ≡ true → WasOwner s e past o
owner_was s e past (HeapOf d) a h = by (nat_le d (domains_made past)) refl (is_birth e) refl
  where
    m : IsMade (e ∷ past) d
    m = live_made (e ∷ past) d h

    by : (x : Bool) → nat_le d (domains_made past) ≡ x → (b : Bool) → is_birth e ≡ b → WasOwner s e past (HeapOf d)
    by true q b z =
        let u = at_most d (domains_made past) q in
        Old (both (is_live past d) (not (ends_domain (ended_by e) (Some d))) (sym (live_after e past d (record { low = m.low; high = u })) ∙ h)).0 (heap_old s e past d u)
    by false q true z = let l = beyond d (domains_made past) q in NewHeap z (ap HeapOf (omega (arith, l, m.high, count_new is_birth e past z)))
    by false q false z = let l = beyond d (domains_made past) q in absurd (omega (arith, l, m.high, count_same is_birth e past z))
owner_was s e past (ExtentOf x) a h = by (nat_le x (extents_made past)) refl (is_allocation e) refl
  where
    m : (1 ≤ x) × (x ≤ extents_made (e ∷ past))
    m = in_use_made s (e ∷ past) x a h

    by : (y : Bool) → nat_le x (extents_made past) ≡ y → (b : Bool) → is_allocation e ≡ b → WasOwner s e past (ExtentOf x)
    by true q b z = let u = at_most x (extents_made past) q in Old (in_use_before s e past x a u h) (run_old e past x u)
    by false q true z = let l = beyond x (extents_made past) q in NewRun z (ap ExtentOf (omega (arith, l, m.1, count_new is_allocation e past z)))
    by false q false z = let l = beyond x (extents_made past) q in absurd (omega (arith, l, m.1, count_same is_allocation e past z))

-- whether the owner is what the entry made
pub data IsNewOwner (e : Entry) (past : Past) (o : Owner) : Type 0 where
  ThatHeap : is_birth e ≡ true → o ≡ HeapOf (domains_made past + 1) → IsNewOwner e past o
  ThatRun : is_allocation e ≡ true → o ≡ ExtentOf (extents_made past + 1) → IsNewOwner e past o

-- no granule of what an entry makes was used before it
pub new_was_free : (s : System) (e : Entry) (past : Past) (o : Owner) (g : ℕ) → IsNext s past e → IsNewOwner e past o → lies_in g (run_of s (e ∷ past) o) ≡ true → is_used_granule s past g ≡ false
new_was_free s e past o g n (ThatHeap b q) l =
    fit_is_free s past (heap_run s (e ∷ past) (domains_made past + 1)) g (birth_fits s e past n b) (ap (λ (x : Owner). lies_in g (run_of s (e ∷ past) x)) (sym q) ∙ l)
new_was_free s e past o g n (ThatRun b q) l =
    fit_is_free s past (extent_run (e ∷ past) (extents_made past + 1)) g (allocation_fits s e past n b) (ap (λ (x : Owner). lies_in g (run_of s (e ∷ past) x)) (sym q) ∙ l)

-- ---- apart

nobody : (s : System) (o : Owner) (g : ℕ) → Holds s [] o g → ⊥
unfolding count_where
nobody s (HeapOf d) g h = let m = live_made [] d h.used in absurd (omega (arith, m.low, m.high, none))
  where
    none : domains_made [] ≡ 0
    none = refl
nobody s (ExtentOf x) g h = let m = in_use_made s [] x tt h.used in absurd (omega (arith, m, none))
  where
    none : extents_made [] ≡ 0
    none = refl

-- the granules of what is in use lie apart
pub apart : (s : System) (past : Past) (a b : Owner) (g : ℕ) → IsAdmittedPast s past → Holds s past a g → Holds s past b g → a ≡ b
apart s [] a b g h x y = absurd (nobody s a g x)
apart s (e ∷ past) a b g h x y = by (owner_was s e past a h x.used) (owner_was s e past b h y.used) (apart s past a b g h.1)
  where
    was : (o : Owner) → is_owner_used past o ≡ true → run_of s (e ∷ past) o ≡ run_of s past o → Holds s (e ∷ past) o g → Holds s past o g
    was o u q z = record { used = u; lies = ap (lies_in g) (sym q) ∙ z.lies }

    clash : {A : Type 0} (o n : Owner) → is_owner_used past o ≡ true → run_of s (e ∷ past) o ≡ run_of s past o → Holds s (e ∷ past) o g → IsNewOwner e past n → Holds s (e ∷ past) n g → A
    clash o n u q z w y = cc (owned_is_used s past o g h.1 (was o u q z), new_was_free s e past n g h.0 w y.lies)

    by : WasOwner s e past a → WasOwner s e past b → (Holds s past a g → Holds s past b g → a ≡ b) → a ≡ b
    by (Old u q) (Old v r) again = again (was a u q x) (was b v r y)
    by (NewHeap u q) (NewHeap v r) again = q ∙ sym r
    by (NewRun u q) (NewRun v r) again = q ∙ sym r
    by (NewHeap u q) (NewRun v r) again = not_both e u v
    by (NewRun u q) (NewHeap v r) again = not_both e v u
    by (Old u q) (NewHeap v r) again = clash a b u q x (ThatHeap v r) y
    by (Old u q) (NewRun v r) again = clash a b u q x (ThatRun v r) y
    by (NewHeap v r) (Old u q) again = clash b a u q y (ThatHeap v r) x
    by (NewRun v r) (Old u q) again = clash b a u q y (ThatRun v r) x

-- ---- granules after an entry

-- a granule in use after an entry was in use before it, or is one of what the entry made
pub granule_was : (s : System) (e : Entry) (past : Past) (g : ℕ) → IsAdmittedPast s (e ∷ past) → is_used_granule s (e ∷ past) g ≡ true →
    (is_used_granule s past g ≡ true) ⊎ ((o : Owner) × IsNewOwner e past o × (lies_in g (run_of s (e ∷ past) o) ≡ true))
granule_was s e past g a h = by (owner_there s (e ∷ past) g h)
  where
    by : (o : Owner) × Holds s (e ∷ past) o g → (is_used_granule s past g ≡ true) ⊎ ((o : Owner) × IsNewOwner e past o × (lies_in g (run_of s (e ∷ past) o) ≡ true))
    by x = old (owner_was s e past x.0 a x.1.used)
      where
        old : WasOwner s e past x.0 → (is_used_granule s past g ≡ true) ⊎ ((o : Owner) × IsNewOwner e past o × (lies_in g (run_of s (e ∷ past) o) ≡ true))
        old (Old u q) = inl (owned_is_used s past x.0 g a.1 (record { used = u; lies = ap (lies_in g) (sym q) ∙ x.1.lies }))
        old (NewHeap u q) = inr (x.0, ThatHeap u q, x.1.lies)
        old (NewRun u q) = inr (x.0, ThatRun u q, x.1.lies)

-- the granules of what an entry frees are free after it
pub granule_freed : (s : System) (e : Entry) (past : Past) (o : Owner) (g : ℕ) → IsAdmittedPast s (e ∷ past) → Holds s past o g → is_owner_used (e ∷ past) o ≡ false → is_used_granule s (e ∷ past) g ≡ false
granule_freed s e past o g a h n = by (is_used_granule s (e ∷ past) g) refl
  where
    same : (p : Owner) → Holds s (e ∷ past) p g → WasOwner s e past p → is_used_granule s (e ∷ past) g ≡ false
    same p y (Old u q) =
        let z = apart s past o p g a.1 h (record { used = u; lies = ap (lies_in g) (sym q) ∙ y.lies }) in
        cc (ap (is_owner_used (e ∷ past)) z, n, y.used)
    same p y (NewHeap u q) = cc (new_was_free s e past p g a.0 (ThatHeap u q) y.lies, owned_is_used s past o g a.1 h)
    same p y (NewRun u q) = cc (new_was_free s e past p g a.0 (ThatRun u q) y.lies, owned_is_used s past o g a.1 h)

    by : (b : Bool) → is_used_granule s (e ∷ past) g ≡ b → is_used_granule s (e ∷ past) g ≡ false
    by false q = q
    by true q = let x = owner_there s (e ∷ past) g q in same x.0 x.1 (owner_was s e past x.0 a x.1.used)

-- an owner that was made before has the same granules after an entry
pub run_kept : (s : System) (e : Entry) (past : Past) (o : Owner) → IsAdmittedPast s past → is_owner_used past o ≡ true → run_of s (e ∷ past) o ≡ run_of s past o
run_kept s e past (HeapOf d) a h = heap_old s e past d (live_made past d h).high
run_kept s e past (ExtentOf x) a h = run_old e past x (in_use_made s past x a h).1

-- the granules of what stays in use stay in use
pub granule_stays : (s : System) (e : Entry) (past : Past) (o : Owner) (g : ℕ) → IsAdmittedPast s (e ∷ past) → Holds s past o g → is_owner_used (e ∷ past) o ≡ true → is_used_granule s (e ∷ past) g ≡ true
granule_stays s e past o g a h u = owned_is_used s (e ∷ past) o g a (record { used = u; lies = ap (lies_in g) (run_kept s e past o a.1 h.used) ∙ h.lies })

-- where an entry frees nothing and makes nothing, all granules stay
pub granules_same : (s : System) (e : Entry) (past : Past) → IsAdmittedPast s (e ∷ past) → ((o : Owner) → is_owner_used past o ≡ true → is_owner_used (e ∷ past) o ≡ true) → is_birth e ≡ false → is_allocation e ≡ false →
    granule_flags s (e ∷ past) ≡ granule_flags s past
unfolding granule_flags
granules_same s e past a keeps b x = map_range (is_used_granule s (e ∷ past)) (is_used_granule s past) 0 (granule_limit s) (λ g l u. equal (is_used_granule s (e ∷ past) g) (is_used_granule s past g) (back g) (forth g))
  where
    equal : (p q : Bool) → (p ≡ true → q ≡ true) → (q ≡ true → p ≡ true) → p ≡ q
    equal true true f g = refl
    equal false false f g = refl
    equal true false f g = sym (f refl)
    equal false true f g = g refl

    neither : (g : ℕ) → (o : Owner) × IsNewOwner e past o × (lies_in g (run_of s (e ∷ past) o) ≡ true) → is_used_granule s past g ≡ true
    neither g y = none y.1
      where
        none : IsNewOwner e past y.0 → is_used_granule s past g ≡ true
        none (ThatHeap u q) = cc (u, b)
        none (ThatRun u q) = cc (u, x)

    back : (g : ℕ) → is_used_granule s (e ∷ past) g ≡ true → is_used_granule s past g ≡ true
    back g h = elim (granule_was s e past g a h) [ inl y ↦ y | inr y ↦ neither g y ]

    forth : (g : ℕ) → is_used_granule s past g ≡ true → is_used_granule s (e ∷ past) g ≡ true
    forth g h = let o = owner_there s past g h in granule_stays s e past o.0 g a o.1 (keeps o.0 o.1.used)

-- where an entry makes what takes a run and frees nothing, the granules of the run are taken more
pub granules_taken : (s : System) (e : Entry) (past : Past) (n : Owner) → IsAdmittedPast s (e ∷ past) → ((o : Owner) → is_owner_used past o ≡ true → is_owner_used (e ∷ past) o ≡ true) → IsNewOwner e past n → is_owner_used (e ∷ past) n ≡ true →
    granule_flags s (e ∷ past) ≡ map (λ g. is_used_granule s past g || lies_in g (run_of s (e ∷ past) n)) (range_with_len 0 (granule_limit s))
unfolding granule_flags
granules_taken s e past n a keeps w v =
    map_range (is_used_granule s (e ∷ past)) (λ g. is_used_granule s past g || lies_in g (run_of s (e ∷ past) n)) 0 (granule_limit s)
    (λ g l u. equal (is_used_granule s (e ∷ past) g) (is_used_granule s past g) (lies_in g (run_of s (e ∷ past) n)) (back g) (forth g) (new g))
  where
    equal : (p q r : Bool) → (p ≡ true → (q ≡ true) ⊎ (r ≡ true)) → (q ≡ true → p ≡ true) → (r ≡ true → p ≡ true) → p ≡ (q || r)
    equal true true r f g h = refl
    equal true false true f g h = refl
    equal true false false f g h = elim (f refl) [ inl x ↦ sym x | inr x ↦ sym x ]
    equal false false false f g h = refl
    equal false true r f g h = g refl
    equal false false true f g h = h refl

    one : (x y : Owner) → IsNewOwner e past x → IsNewOwner e past y → x ≡ y
    one x y (ThatHeap u q) (ThatHeap z r) = q ∙ sym r
    one x y (ThatRun u q) (ThatRun z r) = q ∙ sym r
    one x y (ThatHeap u q) (ThatRun z r) = not_both e u z
    one x y (ThatRun u q) (ThatHeap z r) = not_both e z u

    back : (g : ℕ) → is_used_granule s (e ∷ past) g ≡ true → (is_used_granule s past g ≡ true) ⊎ (lies_in g (run_of s (e ∷ past) n) ≡ true)
    back g h = elim (granule_was s e past g a h) [ inl y ↦ inl y | inr y ↦ inr (ap (λ (x : Owner). lies_in g (run_of s (e ∷ past) x)) (one n y.0 w y.1) ∙ y.2) ]

    forth : (g : ℕ) → is_used_granule s past g ≡ true → is_used_granule s (e ∷ past) g ≡ true
    forth g h = let o = owner_there s past g h in granule_stays s e past o.0 g a o.1 (keeps o.0 o.1.used)

    new : (g : ℕ) → lies_in g (run_of s (e ∷ past) n) ≡ true → is_used_granule s (e ∷ past) g ≡ true
    new g h = owned_is_used s (e ∷ past) n g a (record { used = v; lies = h })

-- where an entry makes nothing, the granules of the runs that it frees are free and all others stay
pub granules_freed : (s : System) (e : Entry) (past : Past) (freed : List Run) → IsAdmittedPast s (e ∷ past) → is_birth e ≡ false → is_allocation e ≡ false →
    ((o : Owner) (g : ℕ) → Holds s past o g → is_owner_used (e ∷ past) o ≡ false → lies_in_one freed g ≡ true) →
    ((g : ℕ) → lies_in_one freed g ≡ true → (o : Owner) × Holds s past o g × (is_owner_used (e ∷ past) o ≡ false)) →
    granule_flags s (e ∷ past) ≡ map (λ g. is_used_granule s past g && not (lies_in_one freed g)) (range_with_len 0 (granule_limit s))
unfolding granule_flags
granules_freed s e past freed a b x all only =
    map_range (is_used_granule s (e ∷ past)) (λ g. is_used_granule s past g && not (lies_in_one freed g)) 0 (granule_limit s)
    (λ g l u. equal (is_used_granule s (e ∷ past) g) (is_used_granule s past g) (lies_in_one freed g) (back g) (forth g) (gone g))
  where
    equal : (p q r : Bool) → (p ≡ true → q ≡ true) → (q ≡ true → r ≡ false → p ≡ true) → (r ≡ true → p ≡ false) → p ≡ (q && not r)
    equal true true false f g h = refl
    equal true true true f g h = h refl
    equal true false r f g h = sym (f refl)
    equal false true false f g h = g refl refl
    equal false true true f g h = refl
    equal false false r f g h = refl

    neither : (g : ℕ) → (o : Owner) × IsNewOwner e past o × (lies_in g (run_of s (e ∷ past) o) ≡ true) → is_used_granule s past g ≡ true
    neither g y = none y.1
      where
        none : IsNewOwner e past y.0 → is_used_granule s past g ≡ true
        none (ThatHeap u q) = cc (u, b)
        none (ThatRun u q) = cc (u, x)

    back : (g : ℕ) → is_used_granule s (e ∷ past) g ≡ true → is_used_granule s past g ≡ true
    back g h = elim (granule_was s e past g a h) [ inl y ↦ y | inr y ↦ neither g y ]

    forth : (g : ℕ) → is_used_granule s past g ≡ true → lies_in_one freed g ≡ false → is_used_granule s (e ∷ past) g ≡ true
    forth g h r = let o = owner_there s past g h in by o.0 o.1 (is_owner_used (e ∷ past) o.0) refl
      where
        by : (o : Owner) → Holds s past o g → (b : Bool) → is_owner_used (e ∷ past) o ≡ b → is_used_granule s (e ∷ past) g ≡ true
        by o y true q = granule_stays s e past o g a y q
        by o y false q = cc (all o g y q, r)

    gone : (g : ℕ) → lies_in_one freed g ≡ true → is_used_granule s (e ∷ past) g ≡ false
    gone g h = let o = only g h in granule_freed s e past o.0 g a o.1 o.2
