-- The granules of live domains' heaps and of extents in use lie apart.
use Rattle.std.proofs.Common.{◌≡◌, refl, sym, ◌∙◌, ap, subst, ℕ, ◌<◌, ◌≤◌, ◌+◌, ◌-◌, ℤ, Bool, true, false, ◌&&◌, List, [], ◌∷◌, Option, Some, None, arith, ◌⊎◌, inl, inr, slice_get}
use Rattle.std.specs.Prelude.{nat_lt, nat_le}
use Rattle.std.proofs.lemmas.Bool.Decides.{nat_tests}
use Rattle.jx_base.specs.declared.act.Act.{Act}
use Rattle.jx_base.specs.declared.act.Act.TheVariants as act
use Rattle.jx_base.specs.declared.act.Reply.{Reply}
use Rattle.jx_base.specs.declared.act.Reply.TheVariants as reply
use Rattle.jx_base.specs.declared.act.Refusal.{Refusal}
use Rattle.jx_base.specs.declared.act.Refusal.TheVariants as refusal
use Rattle.jx_base.specs.declared.act.Entry.{Entry}
use Rattle.jx_base.specs.declared.program.System.{System}
use Rattle.jx_base.specs.Basics.{up_to, not_below_zero}
use Rattle.program_model.specs.Limits.{granule_limit}
use Rattle.jx_base.specs.Histories.{Past, nth_entry, count_where}
use Rattle.jx_model.specs.Domains.{is_birth, makes_domain, domains_made, is_made, is_live, birth_of, template_named, named_template, template_of, heap_place_of, reply_granule}
use Rattle.jx_model.specs.MemoryObjects.{is_allocation, makes_extent, extents_made, allocation_of, allocated_bytes}
use Rattle.jx_model.specs.Holding.{is_extent_in_use}
use Rattle.jx_model.specs.Granules.{Run, heap_granules, extent_granules, heap_run, extent_run, heap_runs, extent_runs, used_runs, lies_in, lies_in_one, first_fit}
use Rattle.jx_model.specs.Replies.{reply_to, new_domain, spawned, allocated, given_or, ◌refuses◌else◌}
use Rattle.jx_model.specs.Legal.{IsNext, IsAdmittedPast}
use Rattle.jx_laws.specs.Laws.{AreApart}
use Rattle.jx_base.proofs.NthEntries.{nth_new, nth_there, nth_stays, count_new, count_same}
use Rattle.jx_laws.proofs.Basics.{clash, value_of, within_or_above}
use Rattle.jx_laws.proofs.Lists.{get_split}
use Rattle.jx_laws.proofs.Living.{live_made, live_before}
use Rattle.jx_laws.proofs.Uses.{made_within}
use Rattle.jx_laws.proofs.InUse.{in_use_before}
use Rattle.jx_laws.proofs.Apart.{AreClear, apart_places, apart_append, clear_runs, apart_runs, all_clear, run_lies, lies_first, lies_second, least_unused, least_below, get_runs}
use Rattle.std.specs.Option.{option_and_then, option_map, unwrap_or}

-- ---- owners of granules

-- who has granules: a domain its heap, an extent its bytes
pub data Owner : Type 0 where
  HeapOf : ℕ → Owner
  ExtentOf : ℕ → Owner

-- the owner's granules are in use
abbrev pub IsUsing : Past → Owner → Type 0
IsUsing past (HeapOf d) = is_live past d ≡ true
IsUsing past (ExtentOf x) = (1 ≤ x) × (x ≤ extents_made past) × (is_extent_in_use past x ≡ true)

-- the owner's granules
abbrev pub run_of : System → Past → Owner → Run
run_of s past (HeapOf d) = heap_run s past d
run_of s past (ExtentOf x) = extent_run past x

-- the granules of two owners lie apart
abbrev pub OwnersApart : System → Past → Type 0
OwnersApart s past = (o p : Owner) → (o ≡ p → ⊥) → IsUsing past o → IsUsing past p → AreClear (run_of s past o) (run_of s past p)

-- ---- granules of owners are in use

-- a granule of a live domain's heap is in use
heap_lies : (s : System) (past : Past) (d g : ℕ) → is_live past d ≡ true → lies_in g (heap_run s past d) ≡ true → lies_in_one (used_runs s past) g ≡ true
unfolding used_runs heap_runs up_to
heap_lies s past d g l h =
    let w = made_within past d (live_made past d l) in
    lies_first g (heap_runs s past) (extent_runs past) (run_lies (is_live past) (heap_run s past) 1 (domains_made past) d g w.0 (omega (arith, w.1)) l h)

-- a granule of an extent in use is in use
extent_lies : (s : System) (past : Past) (x g : ℕ) → 1 ≤ x → x ≤ extents_made past → is_extent_in_use past x ≡ true → lies_in g (extent_run past x) ≡ true → lies_in_one (used_runs s past) g ≡ true
unfolding used_runs extent_runs up_to
extent_lies s past x g l u i h =
    lies_second g (heap_runs s past) (extent_runs past) (run_lies (is_extent_in_use past) (extent_run past) 1 (extents_made past) x g l (omega (arith, u)) i h)

-- a granule of an owner in use is in use
pub owner_lies : (s : System) (past : Past) (o : Owner) (g : ℕ) → IsUsing past o → lies_in g (run_of s past o) ≡ true → lies_in_one (used_runs s past) g ≡ true
owner_lies s past (HeapOf d) g u h = heap_lies s past d g u h
owner_lies s past (ExtentOf x) g u h = extent_lies s past x g u.0 u.1 u.2 h

-- no granule of the run is in use, and the run lies in the machine's memory
pub record IsUnused (s : System) (past : Past) (r : Run) : Type 0 where
  pub unused : (g : ℕ) → lies_in g r ≡ true → lies_in_one (used_runs s past) g ≡ false
  pub within : r.0 + r.1 ≤ granule_limit s

-- the first place that fits is unused, and lies in the machine's memory
pub fit_unused : (s : System) (past : Past) (n g : ℕ) → first_fit s past n ≡ Some g → IsUnused s past (g, n)
unfolding first_fit
fit_unused s past n g h =
    record {
      unused = λ k i. least_unused (lies_in_one (used_runs s past)) n _ 0 g k h i;
      within = omega (arith, least_below (lies_in_one (used_runs s past)) n (granule_limit s + 1 - n) 0 g h);
    }

-- ---- the heap of a new domain

-- an entry that makes a domain of a template, at the first place that fits
pub record IsBirth (s : System) (past : Past) (e : Entry) : Type 0 where
  pub template : ℕ
  pub named : named_template s e.act ≡ Some template
  pub fits : first_fit s past (heap_granules s template) ≡ Some (reply_granule e.reply)

-- a refusal makes no domain
no_birth : {A : Type 0} (a : Act) (r : Refusal) → makes_domain a (reply.Refused r) ≡ true → A
unfolding makes_domain
no_birth (act.Create t) r h = cc
no_birth (act.Spawn name) r h = cc
no_birth _ r h = cc

-- a domain that was made got the place that fits
fitted : (b : Bool) (o : Option ℕ) (r1 r2 : Refusal) (n : ℕ) (a : Act) →
    makes_domain a (b refuses r1 else given_or o r2 (λ g. reply.Domain (record { 0 = n }) g)) ≡ true → o ≡ Some (reply_granule (b refuses r1 else given_or o r2 (λ g. reply.Domain (record { 0 = n }) g)))
unfolding ◌refuses◌else◌ given_or reply_granule
fitted true o r1 r2 n a h = no_birth a r1 h
fitted false None r1 r2 n a h = no_birth a r2 h
fitted false (Some g) r1 r2 n a h = refl

-- a new domain got the first place that fits its heap
new_fits : (s : System) (past : Past) (t : ℕ) (a : Act) → makes_domain a (new_domain s past t) ≡ true → first_fit s past (heap_granules s t) ≡ Some (reply_granule (new_domain s past t))
unfolding new_domain
new_fits s past t a h = fitted _ (first_fit s past (heap_granules s t)) _ _ (domains_made past + 1) a h

-- the facts of a spawn that makes a domain
spawn_at : (s : System) (past : Past) (name : List ℕ) (o : Option ℕ) → template_named s name ≡ o → makes_domain (act.Spawn name) (given_or o refusal.Unknown (new_domain s past)) ≡ true →
    (t : ℕ) × (template_named s name ≡ Some t) × (first_fit s past (heap_granules s t) ≡ Some (reply_granule (given_or o refusal.Unknown (new_domain s past))))
unfolding given_or
spawn_at s past name None q h = no_birth (act.Spawn name) refusal.Unknown h
spawn_at s past name (Some t) q h = (t, q, new_fits s past t (act.Spawn name) h)

-- the facts of an act that makes a domain
birth_at : (s : System) (past : Past) (d : ℕ) (a : Act) → makes_domain a (reply_to s past d a) ≡ true →
    (t : ℕ) × (named_template s a ≡ Some t) × (first_fit s past (heap_granules s t) ≡ Some (reply_granule (reply_to s past d a)))
unfolding reply_to named_template spawned makes_domain
birth_at s past d (act.Create t) h = (t, refl, new_fits s past t (act.Create t) h)
birth_at s past d (act.Spawn name) h = spawn_at s past name (template_named s name) refl h
birth_at s past d _ h = cc

-- the facts of a new domain, at its own moment
pub birth_is : (s : System) (past : Past) (e : Entry) → IsNext s past e → is_birth e ≡ true → IsBirth s past e
unfolding is_birth
birth_is s past e n h =
    let x = birth_at s past e.domain.0 e.act (ap (makes_domain e.act) (sym n.reply) ∙ h) in
    record { template = x.0; named = x.1; fits = x.2 ∙ ap (λ (r : Reply). Some (reply_granule r)) (sym n.reply) }

-- the granules of a heap, by the entry that made its domain
abbrev pub heap_by : System → Option Entry → Run
heap_by s o = (unwrap_or (option_map (λ e. reply_granule e.reply) o) 0, unwrap_or (option_map (heap_granules s) (option_and_then (λ e. named_template s e.act) o)) 0)

-- the granules of a heap by the entry that made its domain
heap_is : (s : System) (past : Past) (d : ℕ) → heap_run s past d ≡ heap_by s (nth_entry is_birth past d)
unfolding heap_run heap_place_of template_of birth_of
heap_is s past d = refl

-- a domain keeps its granules
pub heap_stays : (s : System) (e : Entry) (past : Past) (d : ℕ) → is_made past d ≡ true → heap_run s (e ∷ past) d ≡ heap_run s past d
heap_stays s e past d h =
    let w = made_within past d h in
    let x = value_of (nth_entry is_birth past d) (nth_there is_birth past d w.0 w.1) in
    heap_is s (e ∷ past) d ∙ ap (heap_by s) (nth_stays is_birth e past d x.0 x.1 ∙ sym x.1) ∙ sym (heap_is s past d)

-- the granules of a heap whose template is known
heap_by_birth : (s : System) (e : Entry) (t : ℕ) → named_template s e.act ≡ Some t → heap_by s (Some e) ≡ (reply_granule e.reply, heap_granules s t)
heap_by_birth s e t h = ap (λ (o : Option ℕ). (reply_granule e.reply, unwrap_or (option_map (heap_granules s) o) 0)) h

-- the granules of a new domain were unused
pub new_heap : (s : System) (past : Past) (e : Entry) (d : ℕ) → IsNext s past e → is_birth e ≡ true → d ≡ domains_made past + 1 → IsUnused s past (heap_run s (e ∷ past) d)
new_heap s past e d n h q =
    let b = birth_is s past e n h in
    let z : heap_run s (e ∷ past) d ≡ (reply_granule e.reply, heap_granules s b.template) =
    heap_is s (e ∷ past) d ∙ ap (heap_by s) (nth_new is_birth e past d h q) ∙ heap_by_birth s e b.template b.named in
    subst (λ (r : Run). IsUnused s past r) (sym z) (fit_unused s past (heap_granules s b.template) (reply_granule e.reply) b.fits)

-- ---- the granules of a new extent

-- an extent that was made got the place that fits
allocation_fits : (b1 b2 : Bool) (o : Option ℕ) (r1 r2 r3 : Refusal) (z : ℤ) (f : ℕ → Reply) → ((g : ℕ) → reply_granule (f g) ≡ g) →
    makes_extent (act.Alloc z) (b1 refuses r1 else b2 refuses r2 else given_or o r3 f) ≡ true → o ≡ Some (reply_granule (b1 refuses r1 else b2 refuses r2 else given_or o r3 f))
unfolding ◌refuses◌else◌ given_or makes_extent
allocation_fits true b2 o r1 r2 r3 z f k h = cc
allocation_fits false true o r1 r2 r3 z f k h = cc
allocation_fits false false None r1 r2 r3 z f k h = cc
allocation_fits false false (Some g) r1 r2 r3 z f k h = ap (λ (x : ℕ). Some x) (sym (k g))

-- a new extent got the first place that fits it
extent_at : (s : System) (past : Past) (d : ℕ) (a : Act) → makes_extent a (reply_to s past d a) ≡ true → first_fit s past (extent_granules (allocated_bytes a)) ≡ Some (reply_granule (reply_to s past d a))
unfolding reply_to allocated allocated_bytes makes_extent reply_granule
extent_at s past d (act.Alloc z) h = allocation_fits _ _ (first_fit s past (extent_granules (not_below_zero z))) _ _ _ z _ (λ g. refl) h
extent_at s past d _ h = cc

-- the granules of an extent, by the entry that made it
abbrev pub extent_by : Option Entry → Run
extent_by o = elim o [ None ↦ (0, 0) | Some e ↦ (reply_granule e.reply, extent_granules (allocated_bytes e.act)) ]

-- the granules of an extent by the entry that made it
extent_is : (past : Past) (x : ℕ) → extent_run past x ≡ extent_by (nth_entry is_allocation past x)
unfolding extent_run allocation_of
extent_is past x = refl

-- an extent keeps its granules
pub extent_stays : (e : Entry) (past : Past) (x : ℕ) → 1 ≤ x → x ≤ extents_made past → extent_run (e ∷ past) x ≡ extent_run past x
extent_stays e past x l u =
    let y = value_of (nth_entry is_allocation past x) (nth_there is_allocation past x l u) in
    extent_is (e ∷ past) x ∙ ap extent_by (nth_stays is_allocation e past x y.0 y.1 ∙ sym y.1) ∙ sym (extent_is past x)

-- the granules of a new extent were unused
pub new_extent : (s : System) (past : Past) (e : Entry) (x : ℕ) → IsNext s past e → is_allocation e ≡ true → x ≡ extents_made past + 1 → IsUnused s past (extent_run (e ∷ past) x)
unfolding is_allocation
new_extent s past e x n h q =
    let f = extent_at s past e.domain.0 e.act (ap (makes_extent e.act) (sym n.reply) ∙ h) in
    let z : extent_run (e ∷ past) x ≡ (reply_granule e.reply, extent_granules (allocated_bytes e.act)) = extent_is (e ∷ past) x ∙ ap extent_by (nth_new is_allocation e past x h q) in
    subst (λ (r : Run). IsUnused s past r) (sym z)
    (fit_unused s past (extent_granules (allocated_bytes e.act)) (reply_granule e.reply) (f ∙ ap (λ (r : Reply). Some (reply_granule r)) (sym n.reply)))

-- ---- an entry makes one owner at most

-- the owner that an entry makes
pub data IsMadeBy (e : Entry) (past : Past) (o : Owner) : Type 0 where
  NewHeap : is_birth e ≡ true → o ≡ HeapOf (domains_made past + 1) → IsMadeBy e past o
  NewExtent : is_allocation e ≡ true → o ≡ ExtentOf (extents_made past + 1) → IsMadeBy e past o

-- no act makes both a domain and an extent
not_both : {A : Type 0} (a : Act) (r : Reply) → makes_domain a r ≡ true → makes_extent a r ≡ true → A
unfolding makes_domain makes_extent
not_both (act.Create t) r h i = cc
not_both (act.Spawn name) r h i = cc
not_both _ r h i = cc

-- no entry makes both a domain and an extent
birth_or_allocation : {A : Type 0} (e : Entry) → is_birth e ≡ true → is_allocation e ≡ true → A
unfolding is_birth is_allocation
birth_or_allocation e h i = not_both e.act e.reply h i

-- an entry makes one owner at most
made_once : (e : Entry) (past : Past) (o p : Owner) → IsMadeBy e past o → IsMadeBy e past p → o ≡ p
made_once e past o p (NewHeap h q) (NewHeap i r) = q ∙ sym r
made_once e past o p (NewExtent h q) (NewExtent i r) = q ∙ sym r
made_once e past o p (NewHeap h q) (NewExtent i r) = birth_or_allocation e h i
made_once e past o p (NewExtent h q) (NewHeap i r) = birth_or_allocation e i h

-- an owner in use after an entry was in use before it with the same granules, or is new with unused ones
pub data UsedBefore (s : System) (past : Past) (e : Entry) (o : Owner) : Type 0 where
  Old : IsUsing past o → run_of s (e ∷ past) o ≡ run_of s past o → UsedBefore s past e o
  New : IsMadeBy e past o → IsUnused s past (run_of s (e ∷ past) o) → UsedBefore s past e o

-- a number within those given was made
made_of : (past : Past) (d : ℕ) → 1 ≤ d → d ≤ domains_made past → is_made past d ≡ true
unfolding is_made
made_of past d l u = test d (domains_made past) l u
  where
    test : (d n : ℕ) → 1 ≤ d → d ≤ n → (nat_lt 0 d && nat_le d n) ≡ true
    test d n l u = grind (arith, nat_tests)

-- an owner in use was in use before the entry, or is new with granules that were unused
pub used_before : (s : System) (past : Past) (e : Entry) (o : Owner) → IsAdmittedPast s (e ∷ past) → IsUsing (e ∷ past) o → UsedBefore s past e o
used_before s past e (HeapOf d) a u = by (made_within (e ∷ past) d (live_made (e ∷ past) d u)) (within_or_above d (domains_made past)) (is_birth e) refl
  where
    by : (1 ≤ d) × (d ≤ domains_made (e ∷ past)) → (d ≤ domains_made past) ⊎ (domains_made past < d) → (b : Bool) → is_birth e ≡ b → UsedBefore s past e (HeapOf d)
    by w (inl v) b q = let m = made_of past d w.0 v in Old (live_before e past d m u) (heap_stays s e past d m)
    by w (inr v) true q =
        let z : d ≡ domains_made past + 1 = omega (arith, v, w, count_new is_birth e past q) in
        New (NewHeap q (ap HeapOf z)) (new_heap s past e d a.0 q z)
    by w (inr v) false q = absurd (omega (arith, v, w, count_same is_birth e past q))
used_before s past e (ExtentOf x) a u = by (within_or_above x (extents_made past)) (is_allocation e) refl
  where
    by : (x ≤ extents_made past) ⊎ (extents_made past < x) → (b : Bool) → is_allocation e ≡ b → UsedBefore s past e (ExtentOf x)
    by (inl v) b q = Old (u.0, v, in_use_before s past e x a v u.2) (extent_stays e past x u.0 v)
    by (inr v) true q =
        let z : x ≡ extents_made past + 1 = omega (arith, v, u, count_new is_allocation e past q) in
        New (NewExtent q (ap ExtentOf z)) (new_extent s past e x a.0 q z)
    by (inr v) false q = absurd (omega (arith, v, u, count_same is_allocation e past q))

-- ---- owners lie apart

-- no domain is made in the empty past
none_made : (d : ℕ) → 1 ≤ d → d ≤ domains_made [] → ⊥
unfolding count_where
none_made d l u = omega (arith, l, u)

-- no domain is there in the empty past
nobody : {A : Type 0} (d : ℕ) → is_made [] d ≡ true → A
nobody d h = let w = made_within [] d h in absurd (none_made d w.0 w.1)

-- no extent is made in the empty past
no_extent : (x : ℕ) → 1 ≤ x → x ≤ extents_made [] → ⊥
unfolding count_where
no_extent x l u = omega (arith, l, u)

-- no owner is there in the empty past
none_yet : {A : Type 0} (o : Owner) → IsUsing [] o → A
none_yet (HeapOf d) u = nobody d (live_made [] d u)
none_yet (ExtentOf x) u = absurd (no_extent x u.0 u.1)

-- the granules of two owners in use lie apart
pub owners_apart : (s : System) (past : Past) → IsAdmittedPast s past → OwnersApart s past
owners_apart s [] a o p d u v g x y = none_yet o u
owners_apart s (e ∷ past) a o p d u v g x y = by (used_before s past e o a u) (used_before s past e p a v) (owners_apart s past a.1)
  where
    old_new : (o p : Owner) → IsUsing past o → run_of s (e ∷ past) o ≡ run_of s past o → IsUnused s past (run_of s (e ∷ past) p) → lies_in g (run_of s (e ∷ past) o) ≡ true → lies_in g (run_of s (e ∷ past) p) ≡ true → ⊥
    old_new o p u q f x y = clash (lies_in_one (used_runs s past) g) (owner_lies s past o g u (ap (lies_in g) (sym q) ∙ x)) (f.unused g y)

    by : UsedBefore s past e o → UsedBefore s past e p → OwnersApart s past → ⊥
    by (Old i q) (Old j r) again = again o p d i j g (ap (lies_in g) (sym q) ∙ x) (ap (lies_in g) (sym r) ∙ y)
    by (Old i q) (New m f) again = old_new o p i q f x y
    by (New m f) (Old j r) again = old_new p o j r f y x
    by (New m f) (New n k) again = d (made_once e past o p m n)

-- heaps of two domains are two owners
heap_differs : (i j : ℕ) → i < j → HeapOf i ≡ HeapOf j → ⊥
heap_differs i j l q = let z : i ≡ j = cc (q) in omega (arith, l, z)

-- two extents are two owners
extent_differs : (i j : ℕ) → i < j → ExtentOf i ≡ ExtentOf j → ⊥
extent_differs i j l q = let z : i ≡ j = cc (q) in omega (arith, l, z)

-- a heap and an extent are two owners
owner_differs : (d x : ℕ) → HeapOf d ≡ ExtentOf x → ⊥
owner_differs d x q = cc

-- the granules in use lie apart
pub runs_apart : (s : System) (past : Past) → IsAdmittedPast s past → AreApart (used_runs s past)
unfolding used_runs heap_runs extent_runs up_to
runs_apart s past a =
    let apart : OwnersApart s past = owners_apart s past a in
    apart_places (used_runs s past) (
    apart_append (heap_runs s past) (extent_runs past)
    (apart_runs (is_live past) (heap_run s past) 1 (domains_made past) (λ i j l m u p q. apart (HeapOf i) (HeapOf j) (heap_differs i j m) p q))
    (apart_runs (is_extent_in_use past) (extent_run past) 1 (extents_made past) (λ i j l m u p q.
    apart (ExtentOf i) (ExtentOf j) (extent_differs i j m) (l, omega (arith, m, u), p) (omega (arith, l, m), omega (arith, u), q)))
    (all_clear (is_live past) (heap_run s past) (extent_runs past) 1 (domains_made past) (λ i l u p.
    clear_runs (is_extent_in_use past) (extent_run past) (heap_run s past i) 1 (extents_made past) (λ j m v q.
    apart (HeapOf i) (ExtentOf j) (owner_differs i j) p (m, omega (arith, v), q))))
    )

-- ---- granules in use lie in the machine's memory

-- each owner's granules lie in the machine's memory
pub owners_within : (s : System) (past : Past) → IsAdmittedPast s past → (o : Owner) → IsUsing past o → (run_of s past o).0 + (run_of s past o).1 ≤ granule_limit s
owners_within s [] a o u = none_yet o u
owners_within s (e ∷ past) a o u = by (used_before s past e o a u) (owners_within s past a.1)
  where
    by : UsedBefore s past e o → ((o : Owner) → IsUsing past o → (run_of s past o).0 + (run_of s past o).1 ≤ granule_limit s) → (run_of s (e ∷ past) o).0 + (run_of s (e ∷ past) o).1 ≤ granule_limit s
    by (Old i q) again = subst (λ (r : Run). r.0 + r.1 ≤ granule_limit s) (sym q) (again o i)
    by (New m f) again = f.within

-- each run in use lies in the machine's memory
pub runs_within : (s : System) (past : Past) → IsAdmittedPast s past → (i : ℕ) (r : Run) → slice_get (used_runs s past) i ≡ Some r → r.0 + r.1 ≤ granule_limit s
unfolding used_runs heap_runs extent_runs up_to
runs_within s past a i r h = elim (get_split (heap_runs s past) (extent_runs past) i r h) [
  | inl q ↦
      let k = get_runs (is_live past) (heap_run s past) 1 (domains_made past) i r q in
      subst (λ (r : Run). r.0 + r.1 ≤ granule_limit s) k.is (owners_within s past a (HeapOf k.at) k.using)
  | inr q ↦
      let k = get_runs (is_extent_in_use past) (extent_run past) 1 (extents_made past) q.0 r q.2 in
      subst (λ (r : Run). r.0 + r.1 ≤ granule_limit s) k.is (owners_within s past a (ExtentOf k.at) (k.low, omega (arith, k.high), k.using))
]
