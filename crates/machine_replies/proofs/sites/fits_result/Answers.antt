use Rattle.std.proofs.Common.{◌≡◌, ◌∙◌, sym, arith}
use Rattle.std.specs.Prelude.{false}
use Rattle.interp_core.specs.Cores.{core_state, store_of}
use Rattle.program_model.specs.Types.{is_void}
use Rattle.machine_replies.proofs.Expecting.{none_expected, none_fit, one_expected, void_expected}
use Rattle.machine_replies.proofs.sites.fits_result.Goals.{in_default-via-in-Some+else-not-is_void, in_default-via-in_default}
use Rattle.machine_replies.proofs.sites.fits_result.Goals as goal

pub returns-in-Some : goal.returns-in-Some
returns-in-Some c =
    let s = c.args.system.now in let store = store_of c.args.core.now in let core = core_state c.args.core.now in
    let void : is_void c.in-Some.kind.now ≡ false = grind (arith, c.is_void.ensures, c.if-not-is_void.true) in
    c.is_one.ensures ∙ one_expected s store c.args.roots.now core.frames c.in-Some.kind.now (sym c.in-Some.ensures) void

pub returns-in_default : goal.returns-in_default
returns-in_default c =
    let s = c.args.system.now in let store = store_of c.args.core.now in let core = core_state c.args.core.now in
    let none = none_fit s store c.args.roots.now c.is_empty.result c.is_empty.ensures in
    elim c.in_default.branch [
      | in_default-via-in-Some+else-not-is_void w ↦ none ∙ void_expected s store c.args.roots.now core.frames w.in-Some.kind.now (sym w.in-Some.ensures) (sym w.is_void.ensures ∙ w.if-not-is_void.false)
      | in_default-via-in_default w ↦ none ∙ none_expected s store c.args.roots.now core.frames (sym w.in_default.ensures)
    ]
