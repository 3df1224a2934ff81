use Rattle.std.proofs.Common.{sym, ◌∙◌, ap}
use Rattle.std.specs.Prelude.{◌-◌, List, length, slice_get}
use Rattle.std.specs.Option.{option_copied}
use Rattle.jx_base.specs.declared.act.Entry.{Entry}
use Rattle.jx_top.proofs.RunEnds.{ends_quiet, never_empty}
use Rattle.jx_top.proofs.run.ending.Goals as goal

pub unreachable-requires : goal.unreachable-requires
unreachable-requires c =
    let there = ap (λ (es : List Entry). slice_get es (length es - 1)) c.as_slice.ensures in
    never_empty c.args.history.now c.requires (sym there ∙ sym c.last.ensures.value ∙ ap option_copied c.in-None.is)

pub returns-in_default : goal.returns-in_default
returns-in_default c =
    let there = ap (λ (es : List Entry). slice_get es (length es - 1)) c.as_slice.ensures in
    ends_quiet c.args.history.now c.in-Some.last.now c.requires
    (sym there ∙ sym c.last.ensures.value ∙ ap option_copied c.in-Some.is) c.in_default.not-Halt
