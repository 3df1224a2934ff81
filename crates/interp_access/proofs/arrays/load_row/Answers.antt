use Rattle.std.proofs.Common.{rules, ◌≡◌, ◌∙◌, ◌∷◌, sym, ap, drop, to_z, of_z}
use Rattle.std.proofs.lemmas.Int.{to_z-of_z}
use Rattle.std.specs.Int.{w32}
use Rattle.std.specs.Prelude.{FitsSigned, ℤ}
use Rattle.jx_base.specs.declared.value.Value.TheVariants as value
use Rattle.machine_model.specs.ObjectRows.{load_row}
use Rattle.interp_core.specs.Cores.{core_state, running_stack}
use Rattle.interp_access.proofs.RowForms.{load_at}
use Rattle.interp_access.proofs.Tops.{same_step}
use Rattle.interp_access.proofs.arrays.load_row.Goals as goal

pub returns-in-Object : goal.returns-in-Object
returns-in-Object c =
    let s = c.args.system.now in let core = core_state c.args.core.now in let stack = running_stack core in
    let fits : FitsSigned w32 c.in-Some.index = search rules in
    let same : to_z w32 (of_z w32 c.in-Some.index) ≡ c.in-Some.index = to_z-of_z w32 c.in-Some.index fits in
    same_step c.load_from.result core (core_state c.load_from.new.core) _ _
    (load_at s core c.args.element stack c.in-Some.index c.in-Object.array c.in-Some.ensures c.in-Object.ensures
    ∙ ap (λ (i : ℤ). load_row s core c.args.element (value.Int i ∷ value.Ref c.in-Object.array ∷ drop 2 stack)) (sym same)) c.load_from.ensures
