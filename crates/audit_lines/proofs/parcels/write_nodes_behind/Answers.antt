use Rattle.std.proofs.Common.{arith}
use Rattle.std.proofs.lemmas.Result.{err_from_is_err_and}
use Rattle.audit_lines.specs.LineParts.{spaced_node}
use Rattle.page_text.proofs.Writing.{item_goes_on, item_stops, items_end}
use Rattle.audit_lines.proofs.parcels.write_nodes_behind.Goals as goal

pub returns-in_err-write_spaced_node : goal.returns-in_err-write_spaced_node
returns-in_err-write_spaced_node g c =
    let p = err_from_is_err_and c.from_residual.result c.from_residual.ensures.1 in
    rw p.1 (item_stops (spaced_node c.args.system.now) c.args.nodes.now c.loop-node.node-index c.node-item.result c.node-item.is (omega arith) c.loop-node.invariant c.in_err-write_spaced_node.ensures)

pub loop-node-preserved : goal.loop-node-preserved
loop-node-preserved g c = item_goes_on (spaced_node c.args.system.now) c.args.nodes.now c.loop-node.node-index c.node-item.result c.node-item.is (omega arith) c.loop-node.invariant c.in_ok-write_spaced_node.ensures

pub returns : goal.returns
returns g c = items_end (spaced_node c.args.system.now) c.args.nodes.now c.loop-node.node-index (omega arith) c.loop-node.invariant
