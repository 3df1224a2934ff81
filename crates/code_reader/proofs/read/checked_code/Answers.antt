use Rattle.std.proofs.Common.{◌<◌, ℕ, List, [], Result, Ok, length, sym, ap, ◌∙◌, subst, arith}
use Rattle.std.specs.Prelude.{All}
use Rattle.std.proofs.lemmas.Result.{err_from_is_err_and}
use Rattle.jx_base.specs.declared.class_file.Instr.{Instr}
use Rattle.jx_base.specs.declared.class_file.Range.{Range}
use Rattle.jx_base.specs.declared.fault.CodeFault.{CodeFault}
use Rattle.jx_base.specs.declared.error.Error.{Error}
use Rattle.jx_base.specs.declared.error.Error.TheVariants as error
use Rattle.code_reader.specs.CodeReading.{checked, code_reading, placed}
use Rattle.jx_base.specs.Answers.{Fails}
use Rattle.code_reader.proofs.Places.{rises_from, within}
use Rattle.code_reader.proofs.ReadingLaws.{found}
use Rattle.code_reader.proofs.read.checked_code.Goals as goal

-- code that isn't read isn't checked
fails_first : (e : Error CodeFault) (size : ℕ) (table : List Range) (reading : Result (List Instr) CodeFault) → Fails e reading → Fails e (checked size table reading)
fails_first error.OutOfMemory size table reading h = tt
fails_first (error.Bad f) size table reading h = ap (checked size table) h

pub returns-in_err-instrs : goal.returns-in_err-instrs
unfolding code_reading
returns-in_err-instrs c =
    let p = err_from_is_err_and c.from_residual.result c.from_residual.ensures.1 in
    rw (p.1, p.2) (fails_first c.in_err-instrs.field-0.0 (length c.args.code.now) c.args.table.now _ c.in_err-instrs.ensures)

pub starts_of-requires : goal.starts_of-requires
starts_of-requires c =
    let code = c.args.code.now in
    let instrs = c.in_ok-instrs.instrs.items in
    let spelled = found (length code) (length code) code instrs (omega arith) c.in_ok-instrs.ensures in
    let all : All (λ (i : Instr). i.pc < length code) instrs = within 0 (length code) instrs (rises_from 0 (length code) code instrs [] (omega arith) (omega arith) spelled) in
    subst (λ (is : List Instr). All (λ (i : Instr). i.pc < length code) is) (sym c.deref.ensures.value) all

pub returns-in-Some : goal.returns-in-Some
unfolding code_reading
returns-in-Some c =
    ap (checked (length c.args.code.now) c.args.table.now) c.in_ok-instrs.ensures ∙ ap (placed (length c.args.code.now) c.args.table.now) (sym c.deref-3.ensures.value) ∙ c.in-Some.ensures

pub returns-in-None : goal.returns-in-None
unfolding code_reading
returns-in-None c =
    ap (checked (length c.args.code.now) c.args.table.now) c.in_ok-instrs.ensures ∙ ap (placed (length c.args.code.now) c.args.table.now) (sym c.deref-3.ensures.value) ∙ c.in-None.ensures
    ∙ ap (λ (is : List Instr). Ok is) c.deref-3.ensures.value
