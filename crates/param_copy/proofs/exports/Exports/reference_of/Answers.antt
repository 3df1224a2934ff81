use Rattle.std.proofs.Common.{sym, ap, ◌∙◌, is_some}
use Rattle.program_model.specs.Parcels.{reference_of}
use Rattle.param_copy.proofs.LeastExports.{kept_reference, exported_reference, no_reference}
use Rattle.param_copy.proofs.exports.Exports.reference_of.Goals as goal

pub returns-in-None : goal.returns-in-None
returns-in-None c =
    sym (ap (reference_of c.args.self.now) c.in-Ref.is
    ∙ kept_reference c.args.self.now c.in-Ref.object (ap is_some (sym c.export_of.ensures ∙ c.in-None.is)))

pub returns-in-Some : goal.returns-in-Some
returns-in-Some c =
    sym (ap (reference_of c.args.self.now) c.in-Ref.is
    ∙ exported_reference c.args.self.now c.in-Ref.object (ap is_some (sym c.export_of.ensures ∙ c.in-Some.is)))

pub returns-in_default : goal.returns-in_default
returns-in_default c = sym (no_reference c.args.self.now c.args.value c.in_default.not-Ref)
