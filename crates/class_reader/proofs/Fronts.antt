-- Reading parts one after the other, where a reader may also run out of memory.
use Rattle.std.proofs.Common.{◌≡◌, ℕ, ◌-◌, ◌<◌, List, [], Result, Ok, Err, refl}
use Rattle.jx_base.specs.declared.fault.ClassFault.{ClassFault}
use Rattle.class_grammar.specs.Parts.{Part, repeated, with_front}
use Rattle.class_grammar.proofs.Repeats.{goes_on, ends, is_done}
use Rattle.jx_base.specs.declared.error.Error.{Error}
use Rattle.jx_base.specs.declared.error.Error.TheVariants as error
use Rattle.jx_base.specs.Answers.{Fails}

-- part i fails: so do they all
pub all_fail : {A : Type 0} (p : Part (List A) ClassFault) (e : Error ClassFault) (front : List A) (n i : ℕ) (text : List ℕ) (total : Result (List A × List ℕ) ClassFault)
    → i < n → Fails e (p.reads text) → with_front front ((repeated (n - i) p).reads text) ≡ total → Fails e total
all_fail p error.OutOfMemory front n i text total lt h so_far = tt
all_fail p (error.Bad f) front n i text total lt h so_far = ends p f front n i text total lt h so_far

-- nothing was read before
pub begins : {A F : Type 0} (read : Result (List A × List ℕ) F) → with_front [] read ≡ read
begins (Ok x) = refl
begins (Err f) = refl

pub ruleset fronts = (goes_on, all_fail, is_done, begins)
