-- Services that were made: their numbers, and portals to them.
use Rattle.std.proofs.Common.{◌≡◌, refl, ◌∙◌, ℕ, ◌≤◌, Bool, true, false, ◌&&◌, ◌∷◌, Option, Some, None, arith}
use Rattle.std.specs.Prelude.{nat_le, nat_lt}
use Rattle.std.proofs.lemmas.Bool.Decides.{nat_tests}
use Rattle.jx_base.specs.declared.act.Entry.{Entry}
use Rattle.jx_base.specs.declared.ids.ClassId.{ClassId}
use Rattle.jx_base.specs.Histories.{Past, nth_entry}
use Rattle.jx_model.specs.Domains.{is_made, is_live}
use Rattle.jx_model.specs.Portals.{is_export, exported_interface, services_made, is_exported, export_of, interface_of, keeps_portal, holds_portal}
use Rattle.jx_base.proofs.BasicLaws.{both}
use Rattle.jx_base.proofs.NthEntries.{nth_passes, count_grows}
use Rattle.jx_model.proofs.Refusals.{portals_guarded}
use Rattle.std.specs.Option.{option_and_then}

-- a service that was made has a number
pub record IsExported (past : Past) (k : ℕ) : Type 0 where
  pub low : 1 ≤ k
  pub high : k ≤ services_made past

-- the test of a number that was given
pub exported_is : (past : Past) (k : ℕ) → is_exported past k ≡ true → IsExported past k
unfolding is_exported
exported_is past k h = record { low = low k (services_made past) h; high = high k (services_made past) h }
  where
    low : (k n : ℕ) → (nat_lt 0 k && nat_le k n) ≡ true → 1 ≤ k
    low k n h = grind (arith, nat_tests)

    high : (k n : ℕ) → (nat_lt 0 k && nat_le k n) ≡ true → k ≤ n
    high k n h = grind (arith, nat_tests)

-- a number that was given passes the test
pub is_exported_at : (past : Past) (k : ℕ) → IsExported past k → is_exported past k ≡ true
unfolding is_exported
is_exported_at past k h = by k (services_made past) h.low h.high
  where
    by : (k n : ℕ) → 1 ≤ k → k ≤ n → (nat_lt 0 k && nat_le k n) ≡ true
    by k n l u = grind (arith, nat_tests)

-- services stay
pub services_grow : (e : Entry) (past : Past) → services_made past ≤ services_made (e ∷ past)
services_grow e past = count_grows is_export e past

-- a service that was made stays so
pub exported_stays : (e : Entry) (past : Past) (k : ℕ) → IsExported past k → IsExported (e ∷ past) k
exported_stays e past k h = record { low = h.low; high = omega (arith, h.high, services_grow e past) }

-- a service with an interface was made
pub interface_made : (past : Past) (k : ℕ) (c : ClassId) → interface_of past k ≡ Some c → IsExported past k
unfolding interface_of export_of
interface_made past k c h = by (nth_entry is_export past k) refl h
  where
    by : (o : Option Entry) → nth_entry is_export past k ≡ o → option_and_then (λ e. exported_interface e.act e.reply) o ≡ Some c → IsExported past k
    by None q h = cc
    by (Some e) q h = let x = nth_passes is_export past k e q in record { low = x.1; high = x.2 }

-- who keeps a portal was made, and the service too
pub portal_made : (past : Past) (d k : ℕ) → keeps_portal past d k ≡ true → (is_made past d ≡ true) × IsExported past k
portal_made past d k h =
    let x = all_pass (is_made past d) (is_exported past k) (keeps_portal past d k) (portals_guarded past d k ∙ h) in (x.0, exported_is past k x.1)
  where
    all_pass : (x y z : Bool) → (x && y && z) ≡ true → (x ≡ true) × (y ≡ true)
    all_pass true true z h = (refl, refl)
    all_pass true false z h = cc
    all_pass false y z h = cc

-- a service whose portal a domain holds was made
pub held_made : (past : Past) (d k : ℕ) → holds_portal past d k ≡ true → IsExported past k
unfolding holds_portal
held_made past d k h = (portal_made past d k (both (is_live past d) (keeps_portal past d k) h).1).1
