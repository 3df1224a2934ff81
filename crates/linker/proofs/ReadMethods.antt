-- The methods of files that were read.
use Rattle.std.proofs.Common.{All}
use Rattle.std.proofs.lemmas.List.Elements.{All-from_recursion}
use Rattle.std.specs.Prelude.{List, IfSome}
use Rattle.class_grammar.proofs.CodeLengths.{has_short_codes}
use Rattle.class_grammar.specs.ClassGrammar.{IsShortCode}
use Rattle.class_grammar.specs.ReadFiles.{IsReadCode, IsReadFile}
use Rattle.jx_base.specs.declared.class_file.ClassFile.{ClassFile}
use Rattle.jx_base.specs.declared.class_file.Member.{Member}
use Rattle.linker.specs.Bodies.{IsReadMethod}

-- the code of each method is short and read
abbrev pub AreReadMethods : List Member → Type 0
AreReadMethods methods = All IsReadMethod methods

-- so it is in a file that was read
pub are_read : (f : ClassFile) → IsReadFile f → AreReadMethods f.methods
are_read f h = λ i x le.
    record {
      short = All-from_recursion (λ m. IsShortCode m.code) f.methods (has_short_codes h.bytes f h.file) i x le;
      read = All-from_recursion (λ m. IfSome m.code IsReadCode) f.methods h.codes i x le;
    }
