use Rattle.std.proofs.Common.{◌∙◌, ℕ, Option, sym, ap, drop}
use Rattle.machine_model.specs.State.{default_of, new_array}
use Rattle.program_model.specs.Lookup.{class_named}
use Rattle.interp_core.specs.Cores.{store_of}
use Rattle.interp_access.proofs.NestedLaws.{alone_none, alone_made}
use Rattle.interp_access.proofs.nested.make_alone.Goals as goal

pub returns-in_err-class-clause-made : goal.returns-in_err-class-clause-made
returns-in_err-class-clause-made c =
    let store = store_of c.args.core.now in
    alone_none store (λ x. new_array store x c.args.count (default_of (drop 1 c.args.name.now))) (class_named c.args.system.now c.args.name.now) (sym c.in_err-class.ensures)
    ∙ ap (λ (o : Option ℕ). record { store = store; array = o }) (sym c.from_residual.ensures)

pub returns-clause-made : goal.returns-clause-made
returns-clause-made c =
    alone_made c.args.system.now (store_of c.args.core.now) (store_of c.make_array.new.core) c.args.name.now c.element_of.result.now c.in_ok-class.class.0 c.args.count c.default_of.result c.make_array.result c.in_ok-class.ensures c.element_of.ensures c.default_of.ensures c.make_array.ensures.made
