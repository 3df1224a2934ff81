use Rattle.std.proofs.Common.{◌∙◌, refl}
use Rattle.std.proofs.lemmas.Result.{err_from_is_err_and}
use Rattle.jx_top.specs.Commands.{texts, Run, Check, Asm}
use Rattle.jx_top.proofs.OneCommand.{answered, is_memory, no_usage, nothing}
use Rattle.jx_top.proofs.commands.read_words.Goals as goal

pub returns-in_err-file-clause-usage : goal.returns-in_err-file-clause-usage
returns-in_err-file-clause-usage c =
    let r = c.from_residual.result in
    let p = err_from_is_err_and r c.from_residual.ensures.1 in
    no_usage (texts c.args.words.now) (Run c.in-Some.file.now 1) r (c.in-Some.ensures, refl) (is_memory r p.0 p.1 (p.2 ∙ c.in_err-file.ensures))

pub returns-in-Some-clause-usage : goal.returns-in-Some-clause-usage
returns-in-Some-clause-usage c = answered (texts c.args.words.now) (Run c.in-Some.file.now 1) (c.in-Some.ensures, refl)

pub returns-in_err-file-2-clause-usage : goal.returns-in_err-file-2-clause-usage
returns-in_err-file-2-clause-usage c =
    let r = c.from_residual-in_err-file-2.result in
    let p = err_from_is_err_and r c.from_residual-in_err-file-2.ensures.1 in
    no_usage (texts c.args.words.now) (Check c.in-Some-system_behind.file.now) r c.in-Some-system_behind.ensures (is_memory r p.0 p.1 (p.2 ∙ c.in_err-file-2.ensures))

pub returns-in-Some-system_behind-clause-usage : goal.returns-in-Some-system_behind-clause-usage
returns-in-Some-system_behind-clause-usage c = answered (texts c.args.words.now) (Check c.in-Some-system_behind.file.now) c.in-Some-system_behind.ensures

pub returns-in_default-file_behind-clause-usage : goal.returns-in_default-file_behind-clause-usage
returns-in_default-file_behind-clause-usage c =
    let none = nothing (texts c.args.words.now) c.in_default.ensures c.in_default-system_behind.ensures c.in_default-file_behind.ensures in (λ e. none, λ n. refl)

pub returns-in_err-file-3-clause-usage : goal.returns-in_err-file-3-clause-usage
returns-in_err-file-3-clause-usage c =
    let r = c.from_residual-in_err-file-3.result in
    let p = err_from_is_err_and r c.from_residual-in_err-file-3.ensures.1 in
    no_usage (texts c.args.words.now) (Asm c.in-Some-file_behind.file.now) r c.in-Some-file_behind.ensures (is_memory r p.0 p.1 (p.2 ∙ c.in_err-file-3.ensures))

pub returns-clause-usage : goal.returns-clause-usage
returns-clause-usage c = answered (texts c.args.words.now) (Asm c.in-Some-file_behind.file.now) c.in-Some-file_behind.ensures
