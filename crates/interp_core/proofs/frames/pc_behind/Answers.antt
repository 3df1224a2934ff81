use Rattle.std.proofs.Common.{sym, ap, length, arith}
use Rattle.interp_core.proofs.FrameLaws.{short_code, no_code_behind}
use Rattle.interp_core.proofs.frames.pc_behind.Goals as goal

pub place_behind-requires : goal.place_behind-requires
place_behind-requires c = let short = short_code c.args.system.now c.args.frame.now.method c.in-Some.code.now c.requires (sym c.in-Some.ensures) in omega (arith, ap length c.as_slice.ensures, short)

pub returns-in-None : goal.returns-in-None
returns-in-None c = sym (no_code_behind c.args.system.now c.args.frame.now (sym c.in-None.ensures))
