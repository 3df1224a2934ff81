-- The server of a call, and what is known of a call when it is taken or answered.
use Rattle.std.proofs.Common.{◌≡◌, refl, ◌∙◌, ap, ℕ, ◌≤◌, true, [], ◌∷◌, ◌++◌, Option, Some, None, arith}
use Rattle.std.specs.List.{list_any}
use Rattle.jx_base.specs.declared.act.Entry.{Entry}
use Rattle.jx_base.specs.Histories.{Past}
use Rattle.jx_model.specs.Moments.{IsMoment, NonePasses}
use Rattle.jx_model.specs.Domains.{is_live, ended_by}
use Rattle.jx_model.specs.Portals.{owner_of}
use Rattle.jx_model.specs.Calls.{is_call, calls_made, service_of_call, server_of, ends_domain, ends_server}
use Rattle.jx_base.proofs.NthEntries.{count_grows}
use Rattle.jx_model.proofs.CallSteps.{service_made}
use Rattle.jx_model.proofs.Serving.{Takes, is_it, not_ended_yet, owner_kept}
use Rattle.jx_laws.proofs.Living.{ended_none}
use Rattle.std.specs.Option.{option_and_then}

-- ---- owners and servers stay

-- the server of a call owns its service
pub server_by : (past : Past) (c k d : ℕ) → service_of_call past c ≡ Some k → owner_of past k ≡ Some d → server_of past c ≡ Some d
unfolding server_of
server_by past c k d h i = ap (λ (o : Option ℕ). option_and_then (owner_of past) o) h ∙ i

-- a call with a server has a service that the server owns
pub server_parts : (past : Past) (c d : ℕ) → server_of past c ≡ Some d → (k : ℕ) × (service_of_call past c ≡ Some k) × (owner_of past k ≡ Some d)
unfolding server_of
server_parts past c d h = by (service_of_call past c) refl h
  where
    by : (o : Option ℕ) → service_of_call past c ≡ o → option_and_then (owner_of past) o ≡ Some d → (k : ℕ) × (service_of_call past c ≡ Some k) × (owner_of past k ≡ Some d)
    by None q h = cc
    by (Some k) q h = (k, q, h)

-- a call keeps its server
pub server_stays : (e : Entry) (past : Past) (c d : ℕ) → c ≤ calls_made past → server_of past c ≡ Some d → server_of (e ∷ past) c ≡ Some d
server_stays e past c d u h =
    let k = server_parts past c d h in
    server_by (e ∷ past) c k.0 d (service_made e past c u ∙ k.1) (owner_kept e past k.0 d k.2)

-- a call that was made is made in each later past
calls_later : (later past : Past) (c : ℕ) → c ≤ calls_made past → c ≤ calls_made (later ++ past)
calls_later [] past c u = u
calls_later (e ∷ later) past c u = omega (arith, calls_later later past c u, count_grows is_call e (later ++ past))

-- a call has the same server in each later past
server_later : (later past : Past) (c d : ℕ) → c ≤ calls_made past → server_of past c ≡ Some d → server_of (later ++ past) c ≡ Some d
server_later [] past c d u h = h
server_later (e ∷ later) past c d u h = server_stays e (later ++ past) c d (calls_later later past c u) (server_later later past c d u h)

-- a call that was made before an entry of the past keeps its server
pub server_whole : (whole : Past) (e : Entry) (past : Past) (c d : ℕ) → IsMoment whole e past → c ≤ calls_made past → server_of past c ≡ Some d → server_of whole c ≡ Some d
server_whole whole e past c d m u h = ap (λ (p : Past). server_of p c) m.1 ∙ server_later m.0 (e ∷ past) c d (calls_later (e ∷ []) past c u) (server_stays e past c d u h)

-- no entry of the past ended the server of the call
pub server_open : (whole past : Past) (c d : ℕ) → server_of whole c ≡ Some d → is_live past d ≡ true → NonePasses (ends_server whole c) past
unfolding ends_server
server_open whole past c d h l =
    ap (λ (o : Option ℕ). list_any (λ e. ends_domain (ended_by e) o) past) h ∙ ended_none past d (not_ended_yet past d l)

-- ---- at a take and at an answer

-- a made call of a live domain
pub record IsOf (past : Past) (d c : ℕ) : Type 0 where
  pub low : 1 ≤ c
  pub high : c ≤ calls_made past
  pub live : is_live past d ≡ true
  pub server : server_of past c ≡ Some d

-- what is taken is a call of the taker
pub taken_of : (past : Past) (d c : ℕ) → Takes past d c → IsOf past d c
taken_of past d c t =
    record { low = t.low; high = t.high; live = t.live; server = server_by past c t.service d t.of (is_it (owner_of past t.service) d t.owner) }
