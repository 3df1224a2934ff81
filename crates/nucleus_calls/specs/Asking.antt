-- What calls and answers are refused.
use Rattle.std.specs.Prelude.{Option, Some, None}
use Rattle.jx_base.specs.declared.act.Refusal.{Refusal}
use Rattle.jx_base.specs.declared.act.Reply.{Reply}
use Rattle.jx_base.specs.declared.act.Reply.TheVariants as reply

-- a refusal, where there is one, or else the reply
abbrev pub refused_or : Option Refusal → Reply → Reply
refused_or None rest = rest
refused_or (Some r) rest = reply.Refused r
