-- The granules after an entry that frees some, and the service of what a thread serves.
use Rattle.std.proofs.Common.{◌≡◌, refl, sym, ◌∙◌, ap, ℕ, Bool, true, false, not, ◌&&◌, ◌||◌, ◌∷◌, map, arith, filter_map}
use Rattle.std.specs.List.{range_with_len, list_any}
use Rattle.jx_base.specs.declared.act.Entry.{Entry}
use Rattle.jx_base.specs.declared.program.System.{System}
use Rattle.jx_base.specs.Basics.{up_to}
use Rattle.program_model.specs.Limits.{granule_limit}
use Rattle.jx_base.specs.Histories.{Past}
use Rattle.jx_model.specs.Domains.{is_live, is_birth, domains_made}
use Rattle.jx_model.specs.MemoryObjects.{extents_made, is_allocation}
use Rattle.jx_model.specs.Holding.{is_extent_in_use}
use Rattle.jx_model.specs.Granules.{run_if, heap_run, extent_run, lies_in, lies_in_one, is_used_granule}
use Rattle.jx_model.specs.Tables.{granule_flags}
use Rattle.jx_model.specs.Legal.{IsAdmittedPast}
use Rattle.jx_base.proofs.BasicLaws.{ap2, both}
use Rattle.table_threads.proofs.Records.{any_append, any_at, any_found}
use Rattle.table_threads.proofs.Actors.{live_made}
use Rattle.table_objects.proofs.ExtentsInUse.{in_use_made}
use Rattle.table_extents.proofs.Granules.{Owner, HeapOf, ExtentOf, is_owner_used, Holds, any_run, granules_freed}
use Rattle.table_extents.specs.ExtentChanges.{is_heap_freed, is_extent_freed, freed_runs}

-- ---- freed granules

both_true : (x y : Bool) → x ≡ true → y ≡ true → (x && y) ≡ true
both_true x y p q = rw (p, q) refl

-- where an entry makes nothing, its freed runs are free and all else stays
pub granules_after_freeing : (s : System) (e : Entry) (past : Past) → IsAdmittedPast s (e ∷ past) → is_birth e ≡ false → is_allocation e ≡ false →
    granule_flags s (e ∷ past) ≡ map (λ g. is_used_granule s past g && not (lies_in_one (freed_runs s e past) g)) (range_with_len 0 (granule_limit s))
unfolding lies_in_one up_to
granules_after_freeing s e past a b x = granules_freed s e past (freed_runs s e past) a b x all only
  where
    tests : (g : ℕ) → list_any (lies_in g) (freed_runs s e past)
        ≡ (list_any (λ d. is_heap_freed e past d && lies_in g (heap_run s past d)) (range_with_len 1 (domains_made past)) || list_any (λ x. is_extent_freed e past x && lies_in g (extent_run past x)) (range_with_len 1 (extents_made past)))
    tests g =
        any_append (lies_in g) (filter_map (run_if (is_heap_freed e past) (heap_run s past)) (range_with_len 1 (domains_made past))) _
        ∙ ap2 (λ (p q : Bool). p || q) (any_run (is_heap_freed e past) (heap_run s past) g (range_with_len 1 (domains_made past))) (any_run (is_extent_freed e past) (extent_run past) g (range_with_len 1 (extents_made past)))

    left : (p q : Bool) → p ≡ true → (p || q) ≡ true
    left true q h = refl
    left false q h = cc

    right : (p q : Bool) → q ≡ true → (p || q) ≡ true
    right true q h = refl
    right false q h = h

    all : (o : Owner) (g : ℕ) → Holds s past o g → is_owner_used (e ∷ past) o ≡ false → lies_in_one (freed_runs s e past) g ≡ true
    all (HeapOf d) g h n =
        let m = live_made past d h.used in
        tests g ∙ left _ _ (any_at (λ d. is_heap_freed e past d && lies_in g (heap_run s past d)) 1 (domains_made past) d m.low (omega (arith, m.high)) (both_true _ _ (both_true _ _ h.used (ap not n)) h.lies))
    all (ExtentOf y) g h n =
        let m = in_use_made s past y a.1 h.used in
        tests g ∙ right _ _ (any_at (λ x. is_extent_freed e past x && lies_in g (extent_run past x)) 1 (extents_made past) y m.0 (omega (arith, m.1)) (both_true _ _ (both_true _ _ h.used (ap not n)) h.lies))

    turned : (p : Bool) → not p ≡ true → p ≡ false
    turned false h = refl
    turned true h = cc

    only : (g : ℕ) → lies_in_one (freed_runs s e past) g ≡ true → (o : Owner) × Holds s past o g × (is_owner_used (e ∷ past) o ≡ false)
    only g h = by (list_any (λ d. is_heap_freed e past d && lies_in g (heap_run s past d)) (range_with_len 1 (domains_made past))) refl (sym (tests g) ∙ h)
      where
        by : (p : Bool) → list_any (λ d. is_heap_freed e past d && lies_in g (heap_run s past d)) (range_with_len 1 (domains_made past)) ≡ p →
            (p || list_any (λ x. is_extent_freed e past x && lies_in g (extent_run past x)) (range_with_len 1 (extents_made past))) ≡ true → (o : Owner) × Holds s past o g × (is_owner_used (e ∷ past) o ≡ false)
        by true q h =
            let f = any_found (λ d. is_heap_freed e past d && lies_in g (heap_run s past d)) 1 (domains_made past) q in
            let y = both (is_heap_freed e past f.0) (lies_in g (heap_run s past f.0)) f.3 in
            let z = both (is_live past f.0) (not (is_live (e ∷ past) f.0)) y.0 in
            (HeapOf f.0, record { used = z.0; lies = y.1 }, turned (is_live (e ∷ past) f.0) z.1)
        by false q h =
            let f = any_found (λ x. is_extent_freed e past x && lies_in g (extent_run past x)) 1 (extents_made past) h in
            let y = both (is_extent_freed e past f.0) (lies_in g (extent_run past f.0)) f.3 in
            let z = both (is_extent_in_use past f.0) (not (is_extent_in_use (e ∷ past) f.0)) y.0 in
            (ExtentOf f.0, record { used = z.0; lies = y.1 }, turned (is_extent_in_use (e ∷ past) f.0) z.1)
