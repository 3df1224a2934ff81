-- What the functions of the reader give, by the grammar of code.
use Rattle.std.specs.Prelude.{◌≤◌, ℤ, length, IfOk, Vec, List, ℕ, Result}
use Rattle.std.specs.Borrow.{Bor}
use Rattle.std.specs.declared.alloc.Global.{Global}
use Rattle.class_grammar.specs.Parts.{Part, with_front}
use Rattle.jx_base.specs.Answers.{Gives}
use Rattle.jx_base.specs.declared.fault.CodeFault.{CodeFault}
use Rattle.jx_base.specs.declared.error.Error.{Error}

-- the front of the bytes, a vector of numbers, is read as that part
abbrev pub ReadsNumbers : Part (List ℤ) CodeFault → List ℕ → Result (Vec ℤ Global × Bor (List ℕ)) (Error CodeFault) → Type 0
ReadsNumbers part bytes answer = Gives (λ (x : Vec ℤ Global × Bor (List ℕ)). (x.0.items, x.1.now)) answer (part.reads bytes)

-- and so it is read behind these numbers
abbrev pub AddsNumbers : List ℤ → Part (List ℤ) CodeFault → List ℕ → Result (Vec ℤ Global × Bor (List ℕ)) (Error CodeFault) → Type 0
AddsNumbers before part bytes answer = Gives (λ (x : Vec ℤ Global × Bor (List ℕ)). (x.0.items, x.1.now)) answer (with_front before (part.reads bytes))

-- the bytes behind the front are fewer, or no more
abbrev pub IsNoLonger : {X : Type 0} → List ℕ → Result (X × Bor (List ℕ)) (Error CodeFault) → Type 0
IsNoLonger bytes answer = IfOk answer (λ x. length x.1.now ≤ length bytes)
