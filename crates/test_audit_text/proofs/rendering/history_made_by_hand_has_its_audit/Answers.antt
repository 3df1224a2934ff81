use Rattle.test_audit_text.proofs.HandMade.{is_admitted, has_supported_acts}
use Rattle.test_audit_text.proofs.rendering.history_made_by_hand_has_its_audit.Goals as goal

pub render-requires-clause-admitted : goal.render-requires-clause-admitted
render-requires-clause-admitted g c = is_admitted c.in_ok-system.system c.in_ok-history.history c.in_ok-system.ensures c.in_ok-history.ensures

pub render-requires-clause-supported : goal.render-requires-clause-supported
render-requires-clause-supported g c = has_supported_acts c.in_ok-history.history c.in_ok-history.ensures
