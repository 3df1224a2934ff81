-- Who holds portals after the end of a domain, and after a lookup.
use Rattle.std.proofs.Common.{◌≡◌, ◌≢◌, refl, sym, ◌∙◌, ap, ℕ, ◌-◌, ◌≤◌, Bool, true, false, not, ◌&&◌, ◌||◌, List, map, Option, Some, None, ◌==◌, if◌then◌else◌, ◌⊎◌, inl, inr}
use Rattle.domain_flags.specs.FlagLists.{with_flag}
use Rattle.jx_base.specs.declared.act.Entry.{Entry}
use Rattle.jx_base.specs.declared.act.Reason.{Reason}
use Rattle.jx_base.specs.Basics.{is_number}
use Rattle.jx_base.specs.Histories.{is_own}
use Rattle.jx_base.proofs.BasicLaws.{ap2}
use Rattle.jx_model.specs.Calls.{ends_domain}
use Rattle.jx_model.specs.Domains.{ended_by}
use Rattle.jx_model.specs.Portals.{gives_portal}
use Rattle.jx_model.specs.Tables.{Kept, ServiceRecord}
use Rattle.nucleus_tables.proofs.OneChanged.{each_all, each_left, each_one}
use Rattle.portal_table.specs.ServiceLists.{without_holder}
use Rattle.table_objects.specs.HolderChanges.{portal_after, portals_after}
use Rattle.table_steps.specs.Steps.{handed_services}
use Rattle.table_threads.proofs.Records.{is_that, not_that, same_or_not}
use Rattle.table_threads.specs.Changes.{changed_at}

-- a service with those holders
abbrev pub with_holders : ServiceRecord → List Bool → ServiceRecord
with_holders item holders = record item { holders = holders }

-- a flag after the end of a domain
flag_ended : (e : Entry) (j d x : ℕ) (why : Reason) (held : Bool) → ended_by e ≡ Some (d, why) → gives_portal j e ≡ false → portal_after e j x held ≡ (if d == x then false else held)
unfolding ends_domain is_number
flag_ended e j d x why held q g =
    ap2 (λ (o : Option (ℕ × Reason)) (b : Bool). not (ends_domain o (Some x)) && ((is_own x e && b) || held)) q g ∙ by (same_or_not x d)
  where
    gone : (i k o : Bool) → i ≡ true → k ≡ true → (not i && ((o && false) || held)) ≡ (if k then false else held)
    gone i k o p w = ap2 (λ (i k : Bool). not i && ((o && false) || held)) p w ∙ sym (ap (λ (k : Bool). if k then false else held) w)

    stays : (i k o : Bool) → i ≡ false → k ≡ false → (not i && ((o && false) || held)) ≡ (if k then false else held)
    stays i k true p w = ap (λ (i : Bool). not i && held) p ∙ sym (ap (λ (k : Bool). if k then false else held) w)
    stays i k false p w = ap (λ (i : Bool). not i && held) p ∙ sym (ap (λ (k : Bool). if k then false else held) w)

    by : (x ≡ d) ⊎ (x ≢ d) → (not (x == d) && ((is_own x e && false) || held)) ≡ (if d == x then false else held)
    by (inl z) = gone (x == d) (d == x) (is_own x e) (is_that x d z) (is_that d x (sym z))
    by (inr z) = stays (x == d) (d == x) (is_own x e) (not_that x d (λ w. z (sym w))) (not_that d x z)

-- after the end of a domain
pub handed_end : (k : Kept) (e : Entry) (d : ℕ) (why : Reason) → ended_by e ≡ Some (d, why) → 1 ≤ d → ((j : ℕ) → gives_portal j e ≡ false) → map (without_holder d) k.services ≡ handed_services k e
handed_end k e d why q l g =
    sym (each_all (λ j item. record item { holders = portals_after e j item.holders }) (without_holder d) 1 k.services (λ j item.
    ap (with_holders item) (each_one (portal_after e j) (λ _. false) d 1 item.holders l (λ x held. flag_ended e j d x why held q (g j)))))

-- ---- a lookup

module _ (e : Entry) (q : ended_by e ≡ None) where
  -- a flag of the service that is found
  pub flag_given : (j x : ℕ) (held : Bool) → gives_portal j e ≡ true → portal_after e j x held ≡ (if e.domain.0 == x then true else held)
  unfolding ends_domain is_own
  flag_given j x held g =
      ap2 (λ (o : Option (ℕ × Reason)) (b : Bool). not (ends_domain o (Some x)) && ((is_own x e && b) || held)) q g ∙ by (e.domain.0 == x)
    where
      by : (b : Bool) → ((b && true) || held) ≡ (if b then true else held)
      by true = refl
      by false = refl

  -- one of another
  pub flag_left : (j x : ℕ) (held : Bool) → gives_portal j e ≡ false → portal_after e j x held ≡ held
  unfolding ends_domain
  flag_left j x held g =
      ap2 (λ (o : Option (ℕ × Reason)) (b : Bool). not (ends_domain o (Some x)) && ((is_own x e && b) || held)) q g ∙ by (is_own x e)
    where
      by : (b : Bool) → ((b && false) || held) ≡ held
      by true = refl
      by false = refl

  -- after a lookup
  pub handed_lookup : (k : Kept) (v : ℕ) → 1 ≤ v → 1 ≤ e.domain.0 → ((j : ℕ) → gives_portal j e ≡ (v == j)) →
      changed_at (v - 1) (λ item. record item { holders = with_flag e.domain.0 true item.holders }) k.services ≡ handed_services k e
  handed_lookup k v l o g =
      sym (each_one (λ j item. record item { holders = portals_after e j item.holders }) (λ item. record item { holders = with_flag e.domain.0 true item.holders }) v 1 k.services l (λ j item. by j item (v == j) (g j)))
    where
      by : (j : ℕ) (item : ServiceRecord) (b : Bool) → gives_portal j e ≡ b →
          with_holders item (portals_after e j item.holders) ≡ (if b then with_holders item (with_flag e.domain.0 true item.holders) else item)
      by j item true g = ap (with_holders item) (each_one (portal_after e j) (λ _. true) e.domain.0 1 item.holders o (λ x held. flag_given j x held g))
      by j item false g = ap (with_holders item) (each_left (portal_after e j) 1 item.holders (λ x held l. flag_left j x held g))
