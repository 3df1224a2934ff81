use Rattle.std.proofs.Common.{◌≡◌, ◌-◌, refl, sym, List, Some, arith, length, slice_get}
use Rattle.std.proofs.lemmas.Option.{slice_get_read}
use Rattle.domain_table.specs.DomainLists.{ThreadsState}
use Rattle.domain_table.specs.Inner.{HasRoom}
use Rattle.domain_table.proofs.Rooms.{HasList, all_get, live_records, running_list}
use Rattle.domain_table.proofs.domains.Domains.live_threads.Goals as goal

pub overflow_sub-domain : goal.overflow_sub-domain
overflow_sub-domain c =
    (running_list c.self.inside c.args.self.now c.args.domain.0 c.in_ok-state.field-0 c.self.view_is c.self.invariant (sym c.in_ok-state.ensures) c.in-None.is).from_one

pub index-requires : goal.index-requires
index-requires c =
    let below = (running_list c.self.inside c.args.self.now c.args.domain.0 c.in_ok-state.field-0 c.self.view_is c.self.invariant (sym c.in_ok-state.ensures) c.in-None.is).below in
    omega (arith, below, c.self.inside.threads.ok.0)

pub returns-in-None-clause-threads : goal.returns-in-None-clause-threads
returns-in-None-clause-threads c =
    let x = c.self.inside in
    let d = c.args.domain.0 in
    let rooms : List ThreadsState = x.threads.items in
    let room : ThreadsState = c.index.result.now in
    let list : HasList x d = running_list x c.args.self.now d c.in_ok-state.field-0 c.self.view_is c.self.invariant (sym c.in_ok-state.ensures) c.in-None.is in
    let there : slice_get rooms (d - 1) ≡ Some room = slice_get_read rooms (length rooms) (d - 1) room refl list.below c.index.ensures in
    sym (live_records x c.args.self.now d c.in_ok-state.field-0 room c.self.view_is list (sym c.in_ok-state.ensures) c.in-None.is there)

pub returns-in-None-clause-few : goal.returns-in-None-clause-few
returns-in-None-clause-few c =
    let x = c.self.inside in
    let d = c.args.domain.0 in
    let rooms : List ThreadsState = x.threads.items in
    let room : ThreadsState = c.index.result.now in
    let list : HasList x d = running_list x c.args.self.now d c.in_ok-state.field-0 c.self.view_is c.self.invariant (sym c.in_ok-state.ensures) c.in-None.is in
    let there : slice_get rooms (d - 1) ≡ Some room = slice_get_read rooms (length rooms) (d - 1) room refl list.below c.index.ensures in
    let kept : HasRoom x.services room = all_get (HasRoom x.services) rooms (d - 1) room there c.self.invariant.rooms in
    omega (arith, kept.count, c.self.invariant.services)
