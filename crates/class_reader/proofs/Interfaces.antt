-- An interface is the index of a class.
use Rattle.std.proofs.Common.{◌≡◌, ℕ, List, [], ◌∷◌, Result, Ok, ap}
use Rattle.jx_base.specs.declared.class_file.Constant.{Constant}
use Rattle.jx_base.specs.declared.fault.ClassFault.{ClassFault}
use Rattle.class_grammar.specs.ClassGrammar.{interface_part}
use Rattle.class_grammar.specs.Members.{class_index}
use Rattle.class_grammar.specs.Parts.{onward}
use Rattle.jx_base.specs.declared.error.Error.{Error}
use Rattle.jx_base.specs.declared.error.Error.TheVariants as error
use Rattle.jx_base.specs.Answers.{Fails}

abbrev one_index : Result (ℕ × List ℕ) ClassFault → Result (List ℕ × List ℕ) ClassFault
one_index read = onward read (λ i rest. Ok (i ∷ [], rest))

pub interface_read : (size : ℕ) (constants : List Constant) (text : List ℕ) (i : ℕ) (rest : List ℕ) → (class_index size constants).reads text ≡ Ok (i, rest)
    → (interface_part size constants).reads text ≡ Ok (i ∷ [], rest)
unfolding interface_part
interface_read size constants text i rest e = ap one_index e

pub interface_fails : (e : Error ClassFault) (size : ℕ) (constants : List Constant) (text : List ℕ) → Fails e ((class_index size constants).reads text) → Fails e ((interface_part size constants).reads text)
unfolding interface_part
interface_fails error.OutOfMemory size constants text h = tt
interface_fails (error.Bad f) size constants text h = ap one_index h
