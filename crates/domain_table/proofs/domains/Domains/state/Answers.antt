use Rattle.std.proofs.Common.{◌∙◌, ◌<◌, ◌≤◌, sym, ap, List, arith, slice_get}
use Rattle.jx_base.specs.declared.states.DomainState.{DomainState}
use Rattle.jx_base.specs.Basics.{numbered}
use Rattle.domain_table.specs.DomainLists.{DomainsState}
use Rattle.table_threads.proofs.Numbered.{copied_there, numbered_place, numbered_zero}
use Rattle.domain_table.proofs.domains.Domains.state.Goals as goal

pub returns-in_err-place : goal.returns-in_err-place
returns-in_err-place c =
    let zero : c.args.domain.0 < 1 = omega (arith, c.in_err-place.ensures) in
    c.from_residual.ensures ∙ sym (numbered_zero c.args.self.now.domains c.args.domain.0 zero)

pub returns : goal.returns
returns c =
    let one : 1 ≤ c.args.domain.0 = c.in_ok-place.ensures.0 in
    c.copied.ensures
    ∙ copied_there c.deref.result.now c.in_ok-place.place c.get.result c.get.ensures.lookup.0 c.get.ensures.lookup.1
    ∙ ap (λ (xs : List DomainState). slice_get xs c.in_ok-place.place) c.deref.ensures.value
    ∙ ap (slice_get c.self.inside.domains.items) c.in_ok-place.ensures.1
    ∙ sym (numbered_place c.self.inside.domains.items c.args.domain.0 one)
    ∙ ap (λ (x : DomainsState). numbered x.domains c.args.domain.0) c.self.view_is
