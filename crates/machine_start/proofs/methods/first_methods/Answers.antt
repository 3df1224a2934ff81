use Rattle.std.proofs.Common.{◌∙◌, ◌++◌, ◌+◌, ap}
use Rattle.std.specs.Prelude.{filter}
use Rattle.machine_model.specs.Start.{initializers, mains}
use Rattle.program_model.specs.BuiltIn.{built_in_count}
use Rattle.machine_start.specs.Found.{is_declared_at}
use Rattle.machine_start.proofs.Started.{mains_of}
use Rattle.machine_start.proofs.methods.first_methods.Goals as goal

pub returns : goal.returns
unfolding mains built_in_count
returns c =
    let s = c.args.system.now in
    let t = c.args.template.now in
    let main = 27 + t.main in
    c.in_ok-add_methods_of.ensures
    ∙ ap (λ xs. xs ++ filter (is_declared_at s main) c.as_slice.result.now) c.in_ok-methods.ensures
    ∙ ap (λ xs. initializers s t ++ filter (is_declared_at s main) xs) (c.as_slice.ensures.value ∙ c.in_ok-found.ensures)
    ∙ ap (λ xs. initializers s t ++ xs) (mains_of s c.in_ok-main_selector.field-0 main c.in_ok-main_selector.ensures)
