use Rattle.std.proofs.Common.{◌≡◌, ◌∙◌, ◌-◌, ℕ, refl, sym, ap, subst, set, List, arith, Some, length, slice_get}
use Rattle.std.specs.List.{AllByRecursion}
use Rattle.std.proofs.lemmas.List.{drop-set-lt, length-set}
use Rattle.std.proofs.lemmas.Option.{slice_get_read}
use Rattle.jx_model.specs.Tables.{ThreadRecord}
use Rattle.table_threads.specs.Changes.{changed_at}
use Rattle.table_threads.specs.ThreadChanges.{own_changed}
use Rattle.domain_table.specs.DomainLists.{DomainsState, ThreadsState, with_state}
use Rattle.domain_table.specs.Inner.{HasRoom}
use Rattle.domain_table.proofs.Rooms.{IsEmpty, all_get, all_set, changed_place, length_changed, shown, shown_set, thread_list}
use Rattle.domain_table.proofs.domains.Domains.set_thread.Goals as goal

pub overflow_sub-domain : goal.overflow_sub-domain
overflow_sub-domain c = (thread_list c.self.inside c.args.self.now c.args.domain.0 c.args.thread.0 c.self.view_is c.self.invariant c.requires).list.from_one

pub index_mut-requires : goal.index_mut-requires
index_mut-requires c =
    let below = (thread_list c.self.inside c.args.self.now c.args.domain.0 c.args.thread.0 c.self.view_is c.self.invariant c.requires).list.below in
    omega (arith, below, c.self.inside.threads.ok.0)

pub set_state-requires : goal.set_state-requires
set_state-requires c =
    let rooms : List ThreadsState = c.self.inside.threads.items in
    let place = thread_list c.self.inside c.args.self.now c.args.domain.0 c.args.thread.0 c.self.view_is c.self.invariant c.requires in
    place.below c.index_mut.result.now (slice_get_read rooms (length rooms) (c.args.domain.0 - 1) c.index_mut.result.now refl place.list.below c.index_mut.ensures.value)

pub invariant_of-self : goal.invariant_of-self
invariant_of-self c =
    let x = c.self.inside in
    let rooms : List ThreadsState = x.threads.items in
    let i = c.args.domain.0 - 1 in
    let old : ThreadsState = c.index_mut.result.now in
    let new : ThreadsState = c.set_state.new.self in
    let place = thread_list x c.args.self.now c.args.domain.0 c.args.thread.0 c.self.view_is c.self.invariant c.requires in
    let there : slice_get rooms i ≡ Some old = slice_get_read rooms (length rooms) i old refl place.list.below c.index_mut.ensures.value in
    let room : HasRoom x.services old = all_get (HasRoom x.services) rooms i old there c.self.invariant.rooms in
    let count : length new.records ≡ length old.records =
    ap (λ (t : ThreadsState). length t.records) c.set_state.ensures
    ∙ length_changed c.args.thread.0 (with_state c.args.state) old.records
    in
    record {
      small = c.self.invariant.small;
      made = c.self.invariant.made;
      capacity = c.self.invariant.capacity;
      lists = length-set rooms i new ∙ c.self.invariant.lists;
      services = c.self.invariant.services;
      rooms = all_set (HasRoom x.services) rooms i new (record {
        room = ap (λ (t : ThreadsState). t.room) c.set_state.ensures ∙ room.room;
        count = omega (arith, count, room.count);
      }) c.self.invariant.rooms;
      empty = subst (AllByRecursion IsEmpty) (sym (drop-set-lt (length x.domains.items) rooms i new place.list.made)) c.self.invariant.empty;
    }

pub returns : goal.returns
returns c =
    let x = c.self.inside in
    let rooms : List ThreadsState = x.threads.items in
    let n : ℕ = length x.domains.items in
    let d = c.args.domain.0 in
    let t = c.args.thread.0 in
    let i = d - 1 in
    let old : ThreadsState = c.index_mut.result.now in
    let new : ThreadsState = c.set_state.new.self in
    let place = thread_list x c.args.self.now d t c.self.view_is c.self.invariant c.requires in
    let there : slice_get rooms i ≡ Some old = slice_get_read rooms (length rooms) i old refl place.list.below c.index_mut.ensures.value in
    let change : List ThreadRecord → List ThreadRecord = changed_at t (with_state c.args.state) in
    let threads : shown n (set rooms i new) ≡ own_changed d t (with_state c.args.state) (shown n rooms) =
    shown_set n rooms i old new change place.list.made there (ap (λ (r : ThreadsState). r.records) c.set_state.ensures)
    ∙ sym (changed_place d t (with_state c.args.state) (shown n rooms) place.list.from_one)
    in
    ap (λ (ts : List (List ThreadRecord)). record { domains = x.domains.items; threads = ts; services = x.services; limit = x.limit }) threads
    ∙ ap (λ (y : DomainsState). record y { threads = own_changed d t (with_state c.args.state) y.threads }) c.self.view_is
