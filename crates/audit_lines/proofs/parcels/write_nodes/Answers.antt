use Rattle.std.proofs.lemmas.Result.{err_from_is_err_and}
use Rattle.audit_model.specs.Audit.{node_text}
use Rattle.page_text.proofs.Writing.{writes_as, writes_then, writes_stop, writes_nothing}
use Rattle.audit_lines.proofs.SpacedTexts.{spaced_map-first, spaced_map-none}
use Rattle.audit_lines.proofs.parcels.write_nodes.Goals as goal

pub returns-in_err-write_node-in-Some : goal.returns-in_err-write_node-in-Some
returns-in_err-write_node-in-Some g c =
    let p = err_from_is_err_and c.from_residual.result c.from_residual.ensures.1 in
    rw p.1 (writes_as (spaced_map-first (node_text c.args.system.now) c.args.nodes.now c.in-Some.first.now c.in-Some.rest.now c.in-Some.ensures.cases.0) (writes_stop _ _ c.in_err-write_node-in-Some.ensures))

pub returns-in-None : goal.returns-in-None
returns-in-None g c = writes_as (spaced_map-none (node_text c.args.system.now) c.args.nodes.now c.in-None.ensures.cases) writes_nothing

pub returns-in_ok-write_node-in-Some : goal.returns-in_ok-write_node-in-Some
returns-in_ok-write_node-in-Some g c = writes_as (spaced_map-first (node_text c.args.system.now) c.args.nodes.now c.in-Some.first.now c.in-Some.rest.now c.in-Some.ensures.cases.0) (writes_then c.in_ok-write_node-in-Some.ensures c.write_nodes_behind.ensures)
