use Rattle.std.proofs.Common.{◌≡◌, ◌∙◌, ℕ, replicate, [], List, length, None, sym, ap, subst}
use Rattle.jx_base.proofs.BasicLaws.{ap2}
use Rattle.call_table.specs.declared.links.Ends.{Ends}
use Rattle.call_table.specs.declared.links.Link.{Link}
use Rattle.call_table.specs.Linked.{AreQueues, lists_of}
use Rattle.call_table.proofs.Lists.{filled}
use Rattle.call_table.proofs.ChangedQueues.{Shows, empty_queues, shows}
use Rattle.call_table.proofs.queues.Queues.open.Goals as goal

ends_are : (c : goal.In_ok-resize-2) → c.resize.new.self.items ≡ replicate c.args.queues (record { first = None; last = None })
ends_are c =
    filled c.args.queues c.in_ok-ends.ends.len c.in_ok-ends.ends.items c.resize.new.self.items (record { first = None; last = None })
    c.in_ok-ends.ensures.items c.in_ok-ends.ensures.len c.in_ok-resize.ensures.items

after : (c : goal.In_ok-resize-2) → Shows c.resize-2.new.self.items (replicate c.args.queues (record { first = None; last = None })) (replicate c.args.queues [])
after c =
    shows c.resize-2.new.self.items (replicate c.args.queues (record { first = None; last = None })) (replicate c.args.queues [])
    (empty_queues c.resize-2.new.self.items c.args.queues)

pub returns : goal.returns
returns c =
    let links : List Link = c.resize-2.new.self.items in
    let room : length links ≡ c.args.room = sym c.resize-2.new.self.ok.0 ∙ c.in_ok-resize-2.ensures.len in
    ap2 (λ (es : List Ends) (k : ℕ). record { queues = lists_of links es; room = k }) (ends_are c) room
    ∙ ap (λ (qs : List (List ℕ)). record { queues = qs; room = c.args.room }) (after c).shown

pub invariant_of-result : goal.invariant_of-result
invariant_of-result c =
    let links : List Link = c.resize-2.new.self.items in
    subst (λ (es : List Ends). AreQueues links es (lists_of links es)) (sym (ends_are c)) (after c).are
