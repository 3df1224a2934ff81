-- Acts that code performs: none of them is Domain Zero's or a choice, and a thread answers no call but its own.
use Rattle.std.proofs.Common.{◌≡◌, refl, false, Option, Some, None}
use Rattle.jx_base.specs.declared.act.Act.{Act}
use Rattle.jx_base.specs.declared.act.Act.TheVariants as act
use Rattle.jx_base.specs.declared.ids.CallId.{CallId}
use Rattle.jx_model.specs.Permits.{is_choice, is_zero_act}

-- the act is none of Domain Zero's, and no choice
abbrev pub IsCodeAct : Act → Type 0
IsCodeAct (act.Create t) = ⊥
IsCodeAct act.Quiet = ⊥
IsCodeAct act.Halt = ⊥
IsCodeAct (act.Take c) = ⊥
IsCodeAct (act.Resume c) = ⊥
IsCodeAct (act.Go t) = ⊥
IsCodeAct _ = Unit {0}

-- besides it ends no thread's code
abbrev pub IsInstructionAct : Act → Type 0
IsInstructionAct (act.Return c p) = ⊥
IsInstructionAct (act.Throw c p) = ⊥
IsInstructionAct (act.EndThread k) = ⊥
IsInstructionAct a = IsCodeAct a

-- it is an act of code, and one for a thread that serves that call, or none: the call is the one that it answers, and none where it ends the thread
abbrev pub IsActOfCall : Option CallId → Act → Type 0
IsActOfCall o (act.Return c p) = o ≡ Some c
IsActOfCall o (act.Throw c p) = o ≡ Some c
IsActOfCall o (act.EndThread k) = o ≡ None
IsActOfCall o a = IsCodeAct a

-- it is none of Domain Zero's
pub not_zeros : (a : Act) → IsCodeAct a → is_zero_act a ≡ false
unfolding is_zero_act
not_zeros (act.Create t) h = absurd h
not_zeros act.Quiet h = absurd h
not_zeros act.Halt h = absurd h
not_zeros _ h = refl

-- it is no choice
pub no_choice : (a : Act) → IsCodeAct a → is_choice a ≡ false
unfolding is_choice
no_choice (act.Take c) h = absurd h
no_choice (act.Resume c) h = absurd h
no_choice (act.Go t) h = absurd h
no_choice _ h = refl

-- what an instruction performs is an act for a thread whatever it serves
pub instructions_act : (o : Option CallId) (a : Act) → IsInstructionAct a → IsActOfCall o a
instructions_act o (act.Return c p) h = absurd h
instructions_act o (act.Throw c p) h = absurd h
instructions_act o (act.EndThread k) h = absurd h
instructions_act o a h = h

-- what a thread performs is an act of code
pub calls_act : (o : Option CallId) (a : Act) → IsActOfCall o a → IsCodeAct a
calls_act o (act.Return c p) h = tt
calls_act o (act.Throw c p) h = tt
calls_act o (act.EndThread k) h = tt
calls_act o a h = h
