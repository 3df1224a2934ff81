use Rattle.std.proofs.Common.{◌≡◌, ◌∙◌, ◌<◌, ◌≤◌, refl, sym, ap, List, arith, Some, None, length, slice_get}
use Rattle.std.specs.Option.{option_and_then, option_map}
use Rattle.std.proofs.lemmas.Option.{slice_get_past, slice_get_read}
use Rattle.jx_model.specs.Tables.{ThreadRecord}
use Rattle.domain_table.specs.DomainLists.{DomainsState, ThreadsState, record_of, thread_in}
use Rattle.domain_table.proofs.Rooms.{thread_at}
use Rattle.table_threads.proofs.Numbered.{numbered_zero}
use Rattle.domain_table.proofs.domains.Domains.row.Goals as goal

pub returns-in_err-place : goal.returns-in_err-place
returns-in_err-place c =
    let zero : c.args.domain.0 < 1 = omega (arith, c.in_err-place.ensures) in
    ap (option_map record_of) c.from_residual.ensures
    ∙ sym (ap (option_and_then (λ (rs : List ThreadRecord). slice_get rs c.args.thread.0)) (numbered_zero c.args.self.now.threads c.args.domain.0 zero))

pub returns-in_err-get : goal.returns-in_err-get
returns-in_err-get c =
    let rooms : List ThreadsState = c.self.inside.threads.items in
    let place = c.in_ok-place.place in
    let t = c.args.thread.0 in
    let past : length c.deref.result.now ≤ place = c.in_err-get.ensures.lookup.3 in
    let none : slice_get rooms place ≡ None =
    ap (λ (xs : List ThreadsState). slice_get xs place) (sym c.deref.ensures.value) ∙ slice_get_past c.deref.result.now place past
    in
    ap (option_map record_of) c.from_residual-in_err-get.ensures
    ∙ sym (ap (option_and_then (λ (room : ThreadsState). slice_get room.records t)) none)
    ∙ sym (thread_at (length c.self.inside.domains.items) rooms c.args.domain.0 place t c.in_ok-place.ensures.0 c.in_ok-place.ensures.1 c.self.invariant.empty)
    ∙ ap (λ (x : DomainsState). thread_in x c.args.domain.0 t) c.self.view_is

pub returns : goal.returns
returns c =
    let rooms : List ThreadsState = c.self.inside.threads.items in
    let place = c.in_ok-place.place in
    let t = c.args.thread.0 in
    let room : ThreadsState = c.in_ok-get.field-0.now in
    let read = c.in_ok-get.ensures.lookup in
    let there : slice_get rooms place ≡ Some room =
    ap (λ (xs : List ThreadsState). slice_get xs place) (sym c.deref.ensures.value)
    ∙ slice_get_read c.deref.result.now (length c.deref.result.now) place room refl read.3.0 read.1
    in
    c.get-2.ensures
    ∙ sym (ap (option_and_then (λ (r : ThreadsState). slice_get r.records t)) there)
    ∙ sym (thread_at (length c.self.inside.domains.items) rooms c.args.domain.0 place t c.in_ok-place.ensures.0 c.in_ok-place.ensures.1 c.self.invariant.empty)
    ∙ ap (λ (x : DomainsState). thread_in x c.args.domain.0 t) c.self.view_is
