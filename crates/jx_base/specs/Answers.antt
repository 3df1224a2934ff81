-- What a reader answers, against what reading gives by the grammar.
use Rattle.std.specs.Prelude.{◌≡◌, Result, Ok, Err}
use Rattle.jx_base.specs.declared.error.Error.{Error}
use Rattle.jx_base.specs.declared.error.Error.TheVariants as error

-- reading fails with this fault, or memory ran out
abbrev pub Fails : {Y F : Type 0} → Error F → Result Y F → Type 0
Fails error.OutOfMemory reading = Unit {0}
Fails (error.Bad f) reading = reading ≡ Err f

-- what a reader answered, seen by view, is what reading gives, unless memory ran out
abbrev pub Gives : {X Y F : Type 0} → (X → Y) → Result X (Error F) → Result Y F → Type 0
Gives view (Ok x) reading = reading ≡ Ok (view x)
Gives view (Err e) reading = Fails e reading
