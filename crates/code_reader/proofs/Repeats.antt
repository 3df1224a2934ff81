-- A part with a fault ends all reading.
use Rattle.std.proofs.Common.{◌≡◌, ℕ, ◌-◌, ◌<◌, List, Result}
use Rattle.class_grammar.specs.Parts.{Part, repeated, with_front}
use Rattle.jx_base.specs.declared.fault.CodeFault.{CodeFault}
use Rattle.class_grammar.proofs.Repeats.{ends}
use Rattle.jx_base.specs.declared.error.Error.{Error}
use Rattle.jx_base.specs.declared.error.Error.TheVariants as error
use Rattle.jx_base.specs.Answers.{Fails}

pub fails : {A : Type 0} (p : Part (List A) CodeFault) (e : Error CodeFault) (front : List A) (n i : ℕ) (text : List ℕ) (total : Result (List A × List ℕ) CodeFault)
    → i < n → Fails e (p.reads text) → with_front front ((repeated (n - i) p).reads text) ≡ total → Fails e total
fails p error.OutOfMemory front n i text total lt h so_far = tt
fails p (error.Bad f) front n i text total lt h so_far = ends p f front n i text total lt h so_far
