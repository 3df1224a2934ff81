use Rattle.std.proofs.Common.{◌≡◌, ◌∙◌, ◌<◌, ◌++◌, ℕ, refl, sym, ap, subst, set, take, drop, List, arith, Some, length, slice_get}
use Rattle.std.specs.Prelude.{IfSome}
use Rattle.std.proofs.lemmas.Option.{slice_get_read}
use Rattle.jx_base.proofs.BasicLaws.{ap2}
use Rattle.table_threads.specs.Changes.{changed_at}
use Rattle.call_table.specs.declared.links.Ends.{Ends}
use Rattle.call_table.specs.declared.links.Link.{Link}
use Rattle.call_table.specs.Linked.{AreQueues, lists_of}
use Rattle.call_table.specs.Links.{with_next, with_prev}
use Rattle.call_table.specs.QueueLists.{QueuesState, without}
use Rattle.call_table.proofs.ChangedQueues.{Shows, left_shows, length_next, length_prev, written}
use Rattle.call_table.proofs.OneQueue.{left_out}
use Rattle.call_table.proofs.OpenedQueues.{is_held}
use Rattle.call_table.proofs.queues.Queues.remove.Goals as goal

pub index-link-requires : goal.index-link-requires
index-link-requires c =
    let held = is_held c.self.inside c.args.self.now c.args.queue c.args.number c.self.view_is c.self.invariant c.requires.queue c.requires.there in
    omega (arith, held.within, c.self.inside.links.ok.0)

pub set_next-requires : goal.set_next-requires
set_next-requires c =
    let links : List Link = c.self.inside.links.items in
    let l : Link = c.index-link.result.now in
    let held = is_held c.self.inside c.args.self.now c.args.queue c.args.number c.self.view_is c.self.invariant c.requires.queue c.requires.there in
    let link : slice_get links c.args.number ≡ Some l = slice_get_read links (length links) c.args.number l refl held.within c.index-link.ensures in
    subst (λ (ls : List Link). IfSome l.prev (λ n. n < length ls)) (sym c.deref_mut.ensures.value) (held.next_to l link).prev

-- the links after the first change
links_between : (c : goal.After-deref_mut-2) → c.deref_mut-2.result.now ≡ with_next c.index-link.result.now.prev c.index-link.result.now.next c.self.inside.links.items
links_between c =
    let links : List Link = c.self.inside.links.items in
    let l : Link = c.index-link.result.now in
    let made : c.set_next.new.links ≡ with_next l.prev l.next links = c.set_next.ensures ∙ ap (with_next l.prev l.next) c.deref_mut.ensures.value in
    c.deref_mut-2.ensures.value
    ∙ written c.self.inside.links.len c.set_next.new.links links c.self.inside.links.ok.0 (ap length made ∙ length_next l.prev l.next links)
    ∙ made

pub set_prev-requires : goal.set_prev-requires
set_prev-requires c =
    let links : List Link = c.self.inside.links.items in
    let l : Link = c.index-link.result.now in
    let held = is_held c.self.inside c.args.self.now c.args.queue c.args.number c.self.view_is c.self.invariant c.requires.queue c.requires.there in
    let link : slice_get links c.args.number ≡ Some l = slice_get_read links (length links) c.args.number l refl held.within c.index-link.ensures in
    subst (λ (k : ℕ). IfSome l.next (λ n. n < k)) (sym (ap length (links_between c) ∙ length_next l.prev l.next links)) (held.next_to l link).next

-- the links after both
links_after : (c : goal.After-self-3-1) →
    take c.self.inside.links.len
    (c.set_prev.new.links
    ++ drop (length c.set_prev.new.links) (take c.self.inside.links.len (c.set_next.new.links ++ drop (length c.set_next.new.links) c.self.inside.links.items)))
    ≡ left_out c.self.inside.links.items c.index-link.result.now
links_after c =
    let links : List Link = c.self.inside.links.items in
    let l : Link = c.index-link.result.now in
    let middle : List Link = take c.self.inside.links.len (c.set_next.new.links ++ drop (length c.set_next.new.links) links) in
    let made_next : c.set_next.new.links ≡ with_next l.prev l.next links = c.set_next.ensures ∙ ap (with_next l.prev l.next) c.deref_mut.ensures.value in
    let between : middle ≡ with_next l.prev l.next links =
    written c.self.inside.links.len c.set_next.new.links links c.self.inside.links.ok.0 (ap length made_next ∙ length_next l.prev l.next links)
    ∙ made_next
    in
    let made : c.set_prev.new.links ≡ left_out links l = c.set_prev.ensures ∙ ap (with_prev l.next l.prev) (c.deref_mut-2.ensures.value ∙ between) in
    let count : length middle ≡ length links = ap length between ∙ length_next l.prev l.next links in
    written c.self.inside.links.len c.set_prev.new.links middle (c.self.inside.links.ok.0 ∙ sym count)
    (ap length made ∙ length_prev l.next l.prev (with_next l.prev l.next links) ∙ length_next l.prev l.next links ∙ sym count)
    ∙ made

-- the queues after it
after : (c : goal.After-self-3-1) → Shows (left_out c.self.inside.links.items c.index-link.result.now) (set c.self.inside.ends.items c.args.queue c.without.result)
    (changed_at c.args.queue (without c.args.number) (lists_of c.self.inside.links.items c.self.inside.ends.items))
after c =
    let links : List Link = c.self.inside.links.items in
    let ends : List Ends = c.self.inside.ends.items in
    let q = c.args.queue in
    let n = c.args.number in
    let e : Ends = c.index-ends.result.now in
    let l : Link = c.index-link.result.now in
    let held = is_held c.self.inside c.args.self.now q n c.self.view_is c.self.invariant c.requires.queue c.requires.there in
    let at : slice_get ends q ≡ Some e = slice_get_read ends (length ends) q e refl held.below c.index-ends.ensures in
    let link : slice_get links n ≡ Some l = slice_get_read links (length links) n l refl held.within c.index-link.ensures in
    left_shows links ends q n e c.without.result l c.self.invariant at link held.there c.without.ensures.first c.without.ensures.last

pub invariant_of-self : goal.invariant_of-self
invariant_of-self c =
    let ends : List Ends = set c.self.inside.ends.items c.args.queue c.without.result in
    subst (λ (ls : List Link). AreQueues ls ends (lists_of ls ends)) (sym (links_after c)) (after c).are

pub returns : goal.returns
returns c =
    let links : List Link = c.self.inside.links.items in
    let l : Link = c.index-link.result.now in
    let ends : List Ends = set c.self.inside.ends.items c.args.queue c.without.result in
    let room : length (left_out links l) ≡ length links = length_prev l.next l.prev (with_next l.prev l.next links) ∙ length_next l.prev l.next links in
    ap (λ (ls : List Link). record { queues = lists_of ls ends; room = length ls }) (links_after c)
    ∙ ap2 (λ (qs : List (List ℕ)) (k : ℕ). record { queues = qs; room = k }) (after c).shown room
    ∙ ap (λ (y : QueuesState). record y { queues = changed_at c.args.queue (without c.args.number) y.queues }) c.self.view_is
