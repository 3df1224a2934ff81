-- Class files that are read from bytes.
use Rattle.std.proofs.Common.{ℕ, suc, List, [], ◌∷◌, ◌<◌, get_or}
use Rattle.class_grammar.specs.ReadFiles.{AreBytes}

-- numbers below 256 at each place
pub bytes_fit : (bytes : List ℕ) → ((i : ℕ) → get_or bytes i 0 < 256) → AreBytes bytes
bytes_fit [] h = tt
bytes_fit (b ∷ bs) h = (h 0, bytes_fit bs (λ i. h (suc i)))
