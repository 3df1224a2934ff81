use Rattle.std.proofs.Common.{◌≤◌, ◌∙◌, ap, subst, sym, length, map}
use Rattle.nucleus_domains.specs.Ends.{lost_call, with_calls, with_tables_ended}
use Rattle.nucleus_tables.specs.declared.tables.Tables.{Tables}
use Rattle.nucleus_domains.proofs.OwnedServices.{few_services, lost_after}
use Rattle.nucleus_domains.proofs.ends.end_domain.Goals as goal

pub end_calls-requires : goal.end_calls-requires
end_calls-requires c =
    subst (λ (t : Tables). length t.services.services ≤ 256) (sym c.end_tables.ensures)
    (few_services c.args.system.now c.args.tables.now c.args.domain.0 c.requires.tables)

pub returns : goal.returns
returns c =
    let x : Tables = c.args.tables.now in
    let d = c.args.domain.0 in
    c.end_calls.ensures
    ∙ ap (λ (t : Tables). with_calls t (map (lost_call t.services.services d) t.calls.calls)) c.end_tables.ensures
    ∙ ap (with_calls (with_tables_ended c.args.system.now x d c.args.reason)) (lost_after x.services.services d x.calls.calls)
