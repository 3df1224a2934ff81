-- What stands at the front of a method's descriptor.
use Rattle.std.specs.Prelude.{ℕ, ◌<◌, false, List, [], ◌∷◌, length}
use Rattle.program_types.specs.declared.signatures.Front.{Front}
use Rattle.program_types.specs.declared.signatures.Front.TheVariants as front
use Rattle.program_model.specs.Types.{Signature, signature_from, with_parameters}

-- the signature from there on
abbrev pub signature_at : Front → Signature
signature_at (front.Parameter kind rest) = with_parameters (kind.now ∷ []) (signature_from [] false rest.now)
signature_at (front.Result kind) = record { parameters = []; result = kind.now }

-- what is left behind a parameter is shorter than the units before
abbrev pub IsShorter : Front → List ℕ → Type 0
IsShorter (front.Parameter kind rest) units = length rest.now < length units
IsShorter (front.Result kind) units = Unit {0}
