use Rattle.std.proofs.Common.{◌≡◌, ◌∙◌, ◌-◌, ℕ, refl, ap, set, List, arith, Some, length, slice_get}
use Rattle.std.proofs.lemmas.List.{length-set}
use Rattle.std.proofs.lemmas.Option.{slice_get_read}
use Rattle.jx_base.specs.declared.states.DomainState.{DomainState}
use Rattle.table_threads.specs.Changes.{changed_at}
use Rattle.table_threads.proofs.Records.{set_changed}
use Rattle.domain_table.specs.DomainLists.{DomainsState, ended}
use Rattle.domain_table.proofs.Rooms.{live_list, shown}
use Rattle.domain_table.proofs.domains.Domains.end.Goals as goal

pub overflow_sub-domain : goal.overflow_sub-domain
overflow_sub-domain c = (live_list c.self.inside c.args.self.now c.args.domain.0 c.self.view_is c.self.invariant c.requires).from_one

pub index_mut-requires : goal.index_mut-requires
index_mut-requires c =
    let below = (live_list c.self.inside c.args.self.now c.args.domain.0 c.self.view_is c.self.invariant c.requires).made in
    omega (arith, below, c.self.inside.domains.ok.0)

pub returns : goal.returns
returns c =
    let x = c.self.inside in
    let i = c.args.domain.0 - 1 in
    let domains : List DomainState = x.domains.items in
    let domain : DomainState = c.index_mut.result.now in
    let place = live_list x c.args.self.now c.args.domain.0 c.self.view_is c.self.invariant c.requires in
    let there : slice_get domains i ≡ Some domain = slice_get_read domains (length domains) i domain refl place.made c.index_mut.ensures.value in
    let new : DomainState = ended c.args.reason domain in
    let view : List DomainState → ℕ → DomainsState = λ ds n. record { domains = ds; threads = shown n x.threads.items; services = x.services; limit = x.limit } in
    ap (view (set domains i new)) (length-set domains i new)
    ∙ ap (λ (ds : List DomainState). view ds (length domains)) (set_changed i (ended c.args.reason) domains domain there)
    ∙ ap (λ (y : DomainsState). record y { domains = changed_at i (ended c.args.reason) y.domains }) c.self.view_is
