-- Which domains have ended, after an entry.
use Rattle.std.proofs.Common.{◌≡◌, refl, sym, ◌∙◌, ap, ℕ, ◌≤◌, Bool, true, false, ◌∷◌, Option, Some, None, is_some, ◌==◌, if◌then◌else◌}
use Rattle.domain_flags.specs.FlagLists.{with_flag}
use Rattle.jx_base.specs.declared.act.Entry.{Entry}
use Rattle.jx_base.specs.declared.act.Reason.{Reason}
use Rattle.jx_base.specs.declared.program.System.{System}
use Rattle.jx_base.specs.Basics.{up_to}
use Rattle.jx_base.specs.Histories.{Past}
use Rattle.jx_model.specs.Domains.{end_reason, ended_by, reason_for}
use Rattle.nucleus_tables.proofs.OneChanged.{each_one}
use Rattle.nucleus_tables.specs.NucleusStates.{ended_flags}
use Rattle.program_model.specs.Limits.{domain_limit}
use Rattle.table_threads.proofs.Records.{each_map, records_same}

-- an entry that ends nobody
pub ended_same : (s : System) (e : Entry) (past : Past) → ended_by e ≡ None → ended_flags s (e ∷ past) ≡ ended_flags s past
unfolding end_reason reason_for
ended_same s e past q =
    records_same (λ d. is_some (end_reason (e ∷ past) d)) (λ d. is_some (end_reason past d)) (domain_limit s)
    (λ d l u. ap (λ (o : Option (ℕ × Reason)). is_some (elim (reason_for o d) as (λ _. Option Reason) [ Some r ↦ Some r | None ↦ end_reason past d ])) q)

-- one that ends a domain
pub ended_more : (s : System) (e : Entry) (past : Past) (d : ℕ) (why : Reason) → ended_by e ≡ Some (d, why) → 1 ≤ d → ended_flags s (e ∷ past) ≡ with_flag d true (ended_flags s past)
unfolding end_reason reason_for up_to
ended_more s e past d why q l =
    records_same (λ k. is_some (end_reason (e ∷ past) k)) (λ k. if d == k then true else is_some (end_reason past k)) (domain_limit s)
    (λ k a b. ap (λ (o : Option (ℕ × Reason)). is_some (elim (reason_for o k) as (λ _. Option Reason) [ Some r ↦ Some r | None ↦ end_reason past k ])) q ∙ by (d == k) (end_reason past k))
    ∙ sym (each_map (λ k b. if d == k then true else b) (λ k. is_some (end_reason past k)) 1 (domain_limit s))
    ∙ each_one (λ k b. if d == k then true else b) (λ _. true) d 1 (ended_flags s past) l (λ j x. refl)
  where
    by : (b : Bool) (o : Option Reason) → is_some (elim (if b then Some why else None) as (λ _. Option Reason) [ Some r ↦ Some r | None ↦ o ]) ≡ (if b then true else is_some o)
    by true o = refl
    by false o = refl
