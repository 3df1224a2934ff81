use Rattle.program_model.specs.BuiltIn.{string_class}
use Rattle.interp_core.specs.Cores.{store_of}
use Rattle.interp_access.proofs.RowForms.{literal_made, literal_not_made}
use Rattle.interp_access.proofs.constants.make_literal.Goals as goal

pub returns-in_default-clause-made : goal.returns-in_default-clause-made
unfolding string_class
returns-in_default-clause-made c = (literal_not_made (store_of c.args.core.now) c.args.text.now c.in_default.ensures.made.0, c.in_default.ensures.made.1)

pub returns-clause-made : goal.returns-clause-made
unfolding string_class
returns-clause-made c = literal_made (store_of c.args.core.now) c.args.text.now c.in_ok-key.key (store_of c.make_object.new.core) c.in-Some.object c.push.new.self.items c.in-Some.ensures.made c.in_ok-key.ensures c.in_ok-push.ensures.items
