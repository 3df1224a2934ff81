use Rattle.std.proofs.Common.{◌∙◌, ap, arith}
use Rattle.std.specs.Prelude.{false}
use Rattle.interp_core.specs.Cores.{store_of}
use Rattle.program_model.specs.Lookup.{Shape, shape_fits}
use Rattle.machine_replies.proofs.Expecting.{one_fits, too_few, too_many}
use Rattle.machine_replies.proofs.sites.is_one.Goals as goal

pub returns-in-len1 : goal.returns-in-len1
returns-in-len1 c =
    let s = c.args.system.now in let store = store_of c.args.core.now in
    c.shape_fits.ensures ∙ ap (λ (v : Shape). shape_fits s false v c.args.kind.now) c.shape_of.ensures
    ∙ one_fits s store c.args.values.now c.args.kind.now _ (omega arith) (omega arith)

pub returns-in_default : goal.returns-in_default
returns-in_default c = too_few c.args.system.now (store_of c.args.core.now) c.args.values.now c.args.kind.now (omega arith)

pub returns-in_default-2 : goal.returns-in_default-2
returns-in_default-2 c = too_many c.args.system.now (store_of c.args.core.now) c.args.values.now c.args.kind.now (omega arith)
