use Rattle.std.proofs.Common.{◌≡◌, ◌∙◌, ◌+◌, ◌++◌, ◌-◌, ℕ, refl, sym, ap, subst, set, map, replicate, List, arith, Some, length, slice_get}
use Rattle.std.specs.List.{AllByRecursion}
use Rattle.std.proofs.lemmas.List.{drop-set-lt, length-append, length-map, length-replicate, length-set}
use Rattle.std.proofs.lemmas.Option.{slice_get_read}
use Rattle.jx_base.specs.declared.ids.ServiceId.{ServiceId}
use Rattle.jx_model.specs.Tables.{ThreadRecord}
use Rattle.table_threads.specs.ThreadChanges.{idle_record, own_added}
use Rattle.domain_table.specs.DomainLists.{DomainsState, ThreadsState}
use Rattle.domain_table.specs.Inner.{HasRoom}
use Rattle.domain_table.proofs.Rooms.{IsEmpty, added_place, all_get, all_set, live_list, more_services, shown, shown_set}
use Rattle.domain_table.proofs.domains.Domains.serve.Goals as goal

pub overflow_sub-domain : goal.overflow_sub-domain
overflow_sub-domain c = (live_list c.self.inside c.args.self.now c.args.domain.0 c.self.view_is c.self.invariant c.requires.live).from_one

pub index_mut-requires : goal.index_mut-requires
index_mut-requires c =
    let below = (live_list c.self.inside c.args.self.now c.args.domain.0 c.self.view_is c.self.invariant c.requires.live).below in
    omega (arith, below, c.self.inside.threads.ok.0)

pub add_idle-requires : goal.add_idle-requires
add_idle-requires c =
    let x = c.self.inside in
    let rooms : List ThreadsState = x.threads.items in
    let i = c.args.domain.0 - 1 in
    let old : ThreadsState = c.index_mut.result.now in
    let place = live_list x c.args.self.now c.args.domain.0 c.self.view_is c.self.invariant c.requires.live in
    let there : slice_get rooms i ≡ Some old = slice_get_read rooms (length rooms) i old refl place.below c.index_mut.ensures.value in
    let room : HasRoom x.services old = all_get (HasRoom x.services) rooms i old there c.self.invariant.rooms in
    let services : x.services ≡ c.args.self.now.services = ap (λ (y : DomainsState). y.services) c.self.view_is in
    omega (arith, room.room, room.count, services, c.requires.services, c.requires.count.1)

pub invariant_of-self : goal.invariant_of-self
invariant_of-self c =
    let x = c.self.inside in
    let rooms : List ThreadsState = x.threads.items in
    let i = c.args.domain.0 - 1 in
    let old : ThreadsState = c.index_mut.result.now in
    let new : ThreadsState = c.add_idle.new.self in
    let added : List ServiceId = replicate c.args.threads c.args.service in
    let place = live_list x c.args.self.now c.args.domain.0 c.self.view_is c.self.invariant c.requires.live in
    let there : slice_get rooms i ≡ Some old = slice_get_read rooms (length rooms) i old refl place.below c.index_mut.ensures.value in
    let room : HasRoom x.services old = all_get (HasRoom x.services) rooms i old there c.self.invariant.rooms in
    let services : x.services ≡ c.args.self.now.services = ap (λ (y : DomainsState). y.services) c.self.view_is in
    let count : length new.records ≡ length old.records + c.args.threads =
    ap (λ (t : ThreadsState). length t.records) c.add_idle.ensures
    ∙ length-append old.records (map idle_record added)
    ∙ ap (λ (k : ℕ). length old.records + k) (length-map added idle_record ∙ length-replicate c.args.threads c.args.service)
    in
    record {
      small = c.self.invariant.small;
      made = c.self.invariant.made;
      capacity = c.self.invariant.capacity;
      lists = length-set rooms i new ∙ c.self.invariant.lists;
      services = omega (arith, services, c.requires.services);
      rooms = all_set (HasRoom (x.services + 1)) rooms i new (record {
        room = ap (λ (t : ThreadsState). t.room) c.add_idle.ensures ∙ room.room;
        count = omega (arith, count, room.count, c.requires.count.1);
      }) (more_services x.services rooms c.self.invariant.rooms);
      empty = subst (AllByRecursion IsEmpty) (sym (drop-set-lt (length x.domains.items) rooms i new place.made)) c.self.invariant.empty;
    }

pub returns : goal.returns
returns c =
    let x = c.self.inside in
    let rooms : List ThreadsState = x.threads.items in
    let n : ℕ = length x.domains.items in
    let d = c.args.domain.0 in
    let i = d - 1 in
    let old : ThreadsState = c.index_mut.result.now in
    let new : ThreadsState = c.add_idle.new.self in
    let added : List ServiceId = replicate c.args.threads c.args.service in
    let place = live_list x c.args.self.now d c.self.view_is c.self.invariant c.requires.live in
    let there : slice_get rooms i ≡ Some old = slice_get_read rooms (length rooms) i old refl place.below c.index_mut.ensures.value in
    let change : List ThreadRecord → List ThreadRecord = λ items. items ++ map idle_record added in
    let threads : shown n (set rooms i new) ≡ own_added d added (shown n rooms) =
    shown_set n rooms i old new change place.made there (ap (λ (r : ThreadsState). r.records) c.add_idle.ensures)
    ∙ sym (added_place d added (shown n rooms) place.from_one)
    in
    ap (λ (ts : List (List ThreadRecord)). record { domains = x.domains.items; threads = ts; services = x.services + 1; limit = x.limit }) threads
    ∙ ap (λ (y : DomainsState). record y { threads = own_added d added y.threads; services = y.services + 1 }) c.self.view_is
