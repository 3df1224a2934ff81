use Rattle.audit_lines.specs.LineParts.{spaced_node}
use Rattle.page_text.proofs.Writing.{WritesRest}
use Rattle.audit_lines.proofs.parcels.write_nodes_behind.Given as goal

abbrev pub invariant-loop-node : goal.invariant-loop-node
invariant-loop-node g l =
    WritesRest
    (spaced_node l.system)
    l.nodes
    l.node-index
    (l.initial.page, g.K.Sink.state l.initial.sink)
    (l.page, g.K.Sink.state l.sink)
