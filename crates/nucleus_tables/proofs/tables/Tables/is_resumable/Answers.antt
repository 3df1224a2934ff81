use Rattle.std.proofs.Common.{◌∙◌, ◌&&◌, ap, sym, Bool}
use Rattle.jx_base.specs.Basics.{passes}
use Rattle.call_table.specs.declared.calls.Call.{Call}
use Rattle.nucleus_tables.specs.declared.tables.Tables.{Tables}
use Rattle.nucleus_tables.proofs.CallReads.{goes_on}
use Rattle.table_reads.specs.TableReads.{is_answered, lives_in}
use Rattle.nucleus_tables.proofs.tables.Tables.is_resumable.Goals as goal

-- whether the caller of a call goes on
abbrev can : Tables → Call → Bool
can x k = is_answered k.state && lives_in x.domains.domains k.caller.0

pub returns-then-is_answered : goal.returns-then-is_answered
unfolding passes
returns-then-is_answered c =
    let x : Tables = c.args.self.now in
    c.lives.ensures
    ∙ ap (λ (b : Bool). b && lives_in x.domains.domains c.in-Some.call.caller.0) (sym c.if-is_answered.true ∙ c.is_answered.ensures)
    ∙ ap (passes (can x)) (sym c.in-Some.is ∙ c.call.ensures)
    ∙ goes_on c.args.system.now x c.requires c.args.call.0

pub returns-else-is_answered : goal.returns-else-is_answered
unfolding passes
returns-else-is_answered c =
    let x : Tables = c.args.self.now in
    c.if-is_answered.false
    ∙ ap (λ (b : Bool). b && lives_in x.domains.domains c.in-Some.call.caller.0) (sym c.if-is_answered.false ∙ c.is_answered.ensures)
    ∙ ap (passes (can x)) (sym c.in-Some.is ∙ c.call.ensures)
    ∙ goes_on c.args.system.now x c.requires c.args.call.0

pub returns-in-None : goal.returns-in-None
unfolding passes
returns-in-None c =
    ap (passes (can c.args.self.now)) (sym c.in-None.is ∙ c.call.ensures)
    ∙ goes_on c.args.system.now c.args.self.now c.requires c.args.call.0
