-- Kinds of acts, by what they make of their thread.
use Rattle.std.proofs.Common.{ℕ, Bool, true, false, Option, Some, None}
use Rattle.jx_base.specs.declared.act.Act.{Act}
use Rattle.jx_base.specs.declared.act.Act.TheVariants as act
use Rattle.jx_base.specs.declared.act.Reply.{Reply}
use Rattle.jx_base.specs.declared.act.Reply.TheVariants as reply

-- whether an act of the running thread makes it stop
abbrev pub stops : Act → Reply → Bool
stops (act.Call k m p) (reply.Queued c) = true
stops act.Yield r = true
stops (act.Return c p) r = true
stops (act.Throw c p) r = true
stops (act.EndThread k) r = true
stops (act.Exit code) r = true
stops (act.End why) r = true
stops _ _ = false

-- whether it is a call or a yield, after which the thread may go on
abbrev pub pauses : Act → Bool
pauses (act.Call k m p) = true
pauses act.Yield = true
pauses _ = false

-- whether it ends its domain
abbrev pub ends : Act → Bool
ends (act.Exit code) = true
ends (act.End why) = true
ends _ = false

-- what runs after an act of thread t, from what ran
abbrev pub running_after : Act → Reply → ℕ → Option ℕ → Option ℕ
running_after (act.Take c) (reply.Job k m p) t o = Some t
running_after (act.Resume c) r t o = Some t
running_after (act.Go k) r t o = Some t
running_after (act.Call k m p) (reply.Queued c) t o = None
running_after act.Yield r t o = None
running_after (act.Return c p) r t o = None
running_after (act.Throw c p) r t o = None
running_after (act.EndThread k) r t o = None
running_after (act.Exit code) r t o = None
running_after (act.End why) r t o = None
running_after _ _ t o = o
