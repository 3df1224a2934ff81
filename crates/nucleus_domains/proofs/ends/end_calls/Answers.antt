use Rattle.std.proofs.Common.{◌≡◌, ◌∙◌, sym, ap, ℕ, map, arith}
use Rattle.call_table.specs.CallLists.{CallsState, ended_for}
use Rattle.nucleus_domains.specs.Ends.{with_calls}
use Rattle.table_steps.specs.Steps.{owns}
use Rattle.nucleus_tables.specs.declared.tables.Tables.{Tables}
use Rattle.nucleus_domains.proofs.OwnedServices.{lost_all, lost_below, lost_more, lost_none, lost_same}
use Rattle.nucleus_domains.proofs.ends.end_calls.Goals as goal
use Rattle.nucleus_domains.proofs.ends.end_calls.Goals.{then-owns, else-owns}

pub loop-number-init : goal.loop-number-init
loop-number-init c =
    let x : Tables = c.args.tables.now in (
      omega arith,
      omega arith,
      ap (with_calls x) (sym (lost_none x.services.services c.args.domain.0 x.calls.calls)),
    )

pub loop-number-preserved : goal.loop-number-preserved
loop-number-preserved c =
    let x : Tables = c.args.tables.now in
    let y : Tables = c.loop-number.tables in
    let d = c.args.domain.0 in
    let n = c.loop-number.number in
    let calls = x.calls.calls in
    let kept : y ≡ with_calls x (map (lost_below x.services.services d n) calls) = c.loop-number.invariant.2 in
    let owner : owns x.services.services d n ≡ c.owns.result = ap (λ (t : Tables). owns t.services.services d n) (sym kept) ∙ sym c.owns.ensures in (
      omega (arith, c.loop-number.invariant.0),
      omega (arith, c.loop-number-test.true),
      elim c.if-owns.branch [
        | then-owns w ↦
            w.tables-is
            ∙ ap (λ (z : CallsState). let t : Tables = record y { calls = z } in t) w.end_service.ensures
            ∙ ap (λ (t : Tables). with_calls t (map (ended_for n) t.calls.calls)) kept
            ∙ ap (with_calls x) (lost_more x.services.services d n calls (owner ∙ w.if-owns.true))
        | else-owns w ↦ w.tables-is ∙ kept ∙ ap (with_calls x) (lost_same x.services.services d n calls (owner ∙ w.if-owns.false))
      ],
    )

pub returns : goal.returns
returns c =
    let x : Tables = c.args.tables.now in
    let last : c.loop-number.number ≡ 257 = omega (arith, c.loop-number.invariant.1, c.loop-number-test.false) in
    c.loop-number.invariant.2
    ∙ ap (λ (n : ℕ). with_calls x (map (lost_below x.services.services c.args.domain.0 n) x.calls.calls)) last
    ∙ ap (with_calls x) (lost_all x.services.services c.args.domain.0 x.calls.calls c.requires)
