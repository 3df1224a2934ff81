-- The granules in use are those of the heaps that were made.
use Rattle.std.proofs.Common.{◌≡◌, refl, sym, ◌∙◌, ap, ℕ, ◌+◌, ◌≤◌, Bool, true, false, if◌then◌else◌, List, [], ◌∷◌, ◌++◌, Option, Some, None, reverse, append-nil, arith}
use Rattle.std.specs.Prelude.{nat_le, nat_lt, filter_map, is_none, ◌&&◌}
use Rattle.std.specs.List.{flat_map, cons_option}
use Rattle.std.proofs.lemmas.Bool.Decides.{nat_tests}
use Rattle.jx_base.specs.declared.act.Entry.{Entry}
use Rattle.jx_base.specs.declared.act.Reason.{Reason}
use Rattle.jx_base.specs.declared.program.System.{System}
use Rattle.jx_base.specs.Basics.{up_to}
use Rattle.jx_base.specs.Histories.{Past}
use Rattle.jx_model.specs.Domains.{domains_made, birth_of, is_live, is_made, end_reason, named_template, template_of, heap_place_of}
use Rattle.jx_model.specs.Granules.{Run, heap_granules, heap_run, run_if, heap_runs, extent_runs, used_runs, run_granules, used_granules}
use Rattle.supported_acts.specs.SupportedActs.{AreSupported, IsSupported}
use Rattle.audit_text.specs.Rendering.{total, where_live}
use Rattle.audit_text.proofs.Births.{each_birth, same_up_to}
use Rattle.audit_text.proofs.BirthLines.{Agree, born, born-births}
use Rattle.audit_text.proofs.SupportedActs.{birth_created, created, named_template-created, no_extents, all_reverse}
use Rattle.std.specs.Option.{option_and_then, option_map, unwrap_or}

pub total-append : (xs ys : List ℕ) → total (xs ++ ys) ≡ total xs + total ys
unfolding total
total-append [] ys = omega arith
total-append (x ∷ xs) ys = omega (arith, total-append xs ys)

-- the granules that a domain of the template has in use after a past
unfoldable pub granules_after : System → Past → ℕ → ℕ → ℕ → List ℕ
granules_after s past d t creator = where_live (end_reason past d) (heap_granules s t)

-- the same by the domain's birth
unfoldable pub birth_granules : System → Past → ℕ → Option Entry → List ℕ
birth_granules s past d birth = where_live (end_reason past d) (unwrap_or (option_map (heap_granules s) (option_and_then (λ e. named_template s e.act) birth)) 0)

granules_agree : (s : System) (past : Past) → Agree created (granules_after s past) (birth_granules s past)
unfolding granules_after birth_granules
granules_agree s past d t e is = rw (named_template-created s e t is) refl

-- the granules of a run, where it is in use
unfoldable pub granules_if : Option Run → List ℕ
granules_if None = []
granules_if (Some r) = r.1 ∷ []

run_granules-flat : {X : Type 0} (f : X → Option Run) (xs : List X) → run_granules (filter_map f xs) ≡ total (flat_map (λ x. granules_if (f x)) xs)
unfolding run_granules total granules_if
run_granules-flat f [] = refl
run_granules-flat f (x ∷ xs) = by (f x) (filter_map f xs) (flat_map (λ y. granules_if (f y)) xs) (run_granules-flat f xs)
  where
    by : (o : Option Run) (runs : List Run) (flat : List ℕ) → run_granules runs ≡ total flat → run_granules (cons_option o runs) ≡ total (granules_if o ++ flat)
    by None runs flat p = p
    by (Some r) runs flat p = ap (λ n. r.1 + n) p

used_if : (s : System) (past : Past) (d : ℕ) (why : Option Reason) (made : Bool) (place granules : ℕ) → made ≡ true →
    granules_if (if made && is_none why then Some (place, granules) else None) ≡ where_live why granules
unfolding granules_if where_live
used_if s past d None true place granules h = refl
used_if s past d (Some why) true place granules h = refl
used_if s past d why false place granules h = cc

-- what a domain that was made has in use
live_granules : (s : System) (past : Past) (d : ℕ) → 1 ≤ d → d ≤ domains_made past → granules_if (run_if (is_live past) (heap_run s past) d) ≡ birth_granules s past d (birth_of past d)
unfolding run_if heap_run birth_granules heap_place_of template_of is_live is_made
live_granules s past d l u =
    let low : nat_lt 0 d ≡ true = grind (arith, nat_tests) in
    let high : nat_le d (domains_made past) ≡ true = grind (arith, nat_tests) in
    let made : (nat_lt 0 d && nat_le d (domains_made past)) ≡ true = rw (low, high) refl in
    used_if s past d (end_reason past d) _ _ _ made

used-heaps : (s : System) (past : Past) → AreSupported past → used_granules s past ≡ run_granules (heap_runs s past)
unfolding used_granules used_runs extent_runs up_to
used-heaps s past h = rw (no_extents past h, append-nil) refl

-- the granules in use are those of the heaps that were made for domains that have not ended
pub used-born : (s : System) (entries : List Entry) → AreSupported entries →
    used_granules s (reverse entries) ≡ total (born created (granules_after s (reverse entries)) 0 entries)
unfolding heap_runs each_birth
used-born s entries h =
    let past = reverse entries in
    used-heaps s past (all_reverse (λ e. IsSupported e.act) entries h)
    ∙ run_granules-flat (run_if (is_live past) (heap_run s past)) (up_to (domains_made past))
    ∙ ap total (same_up_to (λ d. granules_if (run_if (is_live past) (heap_run s past) d)) (λ d. birth_granules s past d (birth_of past d)) (domains_made past) (live_granules s past))
    ∙ ap total (sym (born-births (λ e. IsSupported e.act) created birth_created (granules_after s past) (birth_granules s past) (granules_agree s past) entries h))

-- what a domain has in use
pub granules_after-is : (s : System) (past : Past) (d t creator : ℕ) (why : Option Reason) → why ≡ end_reason past d →
    total (granules_after s past d t creator) ≡ total (where_live why (heap_granules s t))
unfolding granules_after
granules_after-is s past d t creator why is = ap (λ (o : Option Reason). total (where_live o (heap_granules s t))) (sym is)

pub total-none : total [] ≡ 0
unfolding total
total-none = refl
