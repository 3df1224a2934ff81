use Rattle.std.proofs.Common.{◌≡◌, ◌∙◌, ◌<◌, ◌++◌, ℕ, refl, sym, ap, subst, set, take, drop, List, arith, Some, None, length, slice_get}
use Rattle.std.specs.Prelude.{IfSome}
use Rattle.std.specs.Option.{option_or}
use Rattle.std.proofs.lemmas.List.{length-set}
use Rattle.std.proofs.lemmas.Option.{slice_get_read}
use Rattle.jx_base.proofs.BasicLaws.{ap2}
use Rattle.table_threads.specs.Changes.{changed_at}
use Rattle.call_table.specs.declared.links.Ends.{Ends}
use Rattle.call_table.specs.declared.links.Link.{Link}
use Rattle.call_table.specs.Linked.{AreQueues, lists_of}
use Rattle.call_table.specs.Links.{with_next}
use Rattle.call_table.specs.QueueLists.{QueuesState, with_last}
use Rattle.call_table.proofs.ChangedQueues.{Shows, length_next, pushed_shows, written}
use Rattle.call_table.proofs.OneQueue.{pushed}
use Rattle.call_table.proofs.OpenedQueues.{free_in, last_linked, within_ends}
use Rattle.call_table.proofs.queues.Queues.push.Goals as goal

pub set_next-requires : goal.set_next-requires
set_next-requires c =
    let links : List Link = c.self.inside.links.items in
    let ends : List Ends = c.self.inside.ends.items in
    let q = c.args.queue in
    let e : Ends = c.index-ends.result.now in
    let l = within_ends c.self.inside c.args.self.now q c.self.view_is c.requires.queue in
    let at : slice_get ends q ≡ Some e = slice_get_read ends (length ends) q e refl l c.index-ends.ensures in
    let new : Link = record { prev = e.last; next = None } in
    let count : length c.deref_mut.result.now ≡ length links = ap length c.deref_mut.ensures.value ∙ length-set links c.args.number new in
    subst (λ (k : ℕ). IfSome e.last (λ n. n < k)) (sym count) (last_linked links ends q e c.self.invariant at)

-- the queues after it
after : (c : goal.After-self-3-1) → Shows (pushed c.self.inside.links.items c.index-ends.result.now c.args.number)
    (set c.self.inside.ends.items c.args.queue (record { first = option_or c.index-ends.result.now.first (Some c.args.number); last = Some c.args.number }))
    (changed_at c.args.queue (with_last c.args.number) (lists_of c.self.inside.links.items c.self.inside.ends.items))
after c =
    let links : List Link = c.self.inside.links.items in
    let ends : List Ends = c.self.inside.ends.items in
    let q = c.args.queue in
    let e : Ends = c.index-ends.result.now in
    let l = within_ends c.self.inside c.args.self.now q c.self.view_is c.requires.queue in
    let at : slice_get ends q ≡ Some e = slice_get_read ends (length ends) q e refl l c.index-ends.ensures in
    let room : length links ≡ c.args.self.now.room = ap (λ (y : QueuesState). y.room) c.self.view_is in
    pushed_shows links ends q c.args.number e c.self.invariant at (omega (arith, room, c.requires.number))
    (free_in c.self.inside c.args.self.now c.args.number c.self.view_is c.requires.free)

-- the links after it
links_after : (c : goal.After-self-3-1) →
    take c.self.inside.links.len
    (c.set_next.new.links ++ drop (length c.set_next.new.links) (set c.self.inside.links.items c.args.number (record { prev = c.index-ends.result.now.last; next = None })))
    ≡ pushed c.self.inside.links.items c.index-ends.result.now c.args.number
links_after c =
    let links : List Link = c.self.inside.links.items in
    let n = c.args.number in
    let e : Ends = c.index-ends.result.now in
    let new : Link = record { prev = e.last; next = None } in
    let placed : List Link = set links n new in
    let made : c.set_next.new.links ≡ pushed links e n = c.set_next.ensures ∙ ap (with_next e.last (Some n)) c.deref_mut.ensures.value in
    let count : c.self.inside.links.len ≡ length placed = c.self.inside.links.ok.0 ∙ sym (length-set links n new) in
    written c.self.inside.links.len c.set_next.new.links placed count (ap length made ∙ length_next e.last (Some n) placed) ∙ made

pub invariant_of-self : goal.invariant_of-self
invariant_of-self c =
    let links : List Link = c.self.inside.links.items in
    let ends : List Ends = c.self.inside.ends.items in
    let q = c.args.queue in
    let e : Ends = c.index-ends.result.now in
    let new : List Link = pushed links e c.args.number in
    subst (λ (ls : List Link). AreQueues ls (set ends q c.with_last.result) (lists_of ls (set ends q c.with_last.result))) (sym (links_after c))
    (subst (λ (f : Ends). AreQueues new (set ends q f) (lists_of new (set ends q f))) (sym c.with_last.ensures) (after c).are)

pub returns : goal.returns
returns c =
    let links : List Link = c.self.inside.links.items in
    let ends : List Ends = c.self.inside.ends.items in
    let q = c.args.queue in
    let n = c.args.number in
    let e : Ends = c.index-ends.result.now in
    let state : List Link → Ends → QueuesState = λ ls f. record { queues = lists_of ls (set ends q f); room = length ls } in
    let room : length (pushed links e n) ≡ length links =
    length_next e.last (Some n) (set links n (record { prev = e.last; next = None })) ∙ length-set links n (record { prev = e.last; next = None })
    in
    ap2 state (links_after c) c.with_last.ensures
    ∙ ap2 (λ (qs : List (List ℕ)) (k : ℕ). record { queues = qs; room = k }) (after c).shown room
    ∙ ap (λ (y : QueuesState). record y { queues = changed_at q (with_last n) y.queues }) c.self.view_is
