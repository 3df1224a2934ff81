-- The bytes of the first class, read by the grammars.
use Rattle.std.proofs.Common.{arith, rules}
use Rattle.std.specs.Prelude.{◌≡◌, pos, false, ℕ, List, [], ◌∷◌, ◌++◌, length, Some, Ok, Err, refl, codes}
use Rattle.jx_base.specs.declared.class_file.ClassFile.{ClassFile}
use Rattle.jx_base.specs.declared.fault.ClassKind.TheVariants as kind
use Rattle.class_grammar.specs.Parts.{repeated, bytes_of, number}
use Rattle.class_grammar.specs.Flags.{opened_flags}
use Rattle.class_grammar.specs.ModifiedUtf8.{opened_utf8}
use Rattle.class_grammar.specs.Descriptors.{opened_descriptors}
use Rattle.class_grammar.specs.Constants.{opened_constants, class_fault}
use Rattle.class_grammar.specs.Members.{opened_members}
use Rattle.class_grammar.specs.ClassGrammar.{opened_class_grammar, class_file_part}
use Rattle.class_grammar.specs.CodeGrammar.{opened_code_grammar}
use Rattle.code_reader.specs.CodeReading.{is_marked, leads_astray, is_good_range, code_reading}
use Rattle.class_grammar.specs.Parts.{opened_parts}
use Rattle.class_grammar.specs.Opcodes.{opened_opcodes}
use Rattle.class_grammar.specs.ReadFiles.{IsReadFile}
use Rattle.class_reader.proofs.ClassLaws.{lawful_class_file}
use Rattle.code_reader.proofs.ReadingLaws.{code_found}
use Rattle.test_models.proofs.Hello.{hello_code, hello_file}
use Rattle.jx_base.specs.declared.class_file.Instr.{Instr}

abbrev text : List ℕ → List ℕ
text units = 1 ∷ 0 ∷ length units ∷ units

abbrev constant_bytes : List ℕ
constant_bytes =
    text (codes "Hello") ++ (7 ∷ 0 ∷ 1 ∷ (text (codes "java/lang/Object") ++ (7 ∷ 0 ∷ 3 ∷ (text (codes "main") ++ (text (codes "([Ljava/lang/String;)V")
    ++ (text (codes "Code") ++ (text (codes "hi") ++ (8 ∷ 0 ∷ 8 ∷ (text (codes "jx/Zero") ++ (7 ∷ 0 ∷ 10 ∷ (text (codes "print") ++ (text (codes "(Ljava/lang/String;)V")
    ++ (12 ∷ 0 ∷ 12 ∷ 0 ∷ 13 ∷ 10 ∷ 0 ∷ 11 ∷ 0 ∷ 14 ∷ [])))))))))))))

abbrev pub hello_bytes : List ℕ
hello_bytes =
    0xCA ∷ 0xFE ∷ 0xBA ∷ 0xBE ∷ 0 ∷ 0 ∷ 0 ∷ 52 ∷ 0 ∷ 16 ∷ (constant_bytes ++ (0 ∷ 0x21 ∷ 0 ∷ 2 ∷ 0 ∷ 4 ∷ 0 ∷ 0 ∷ 0 ∷ 0 ∷ 0 ∷ 1
    ∷ 0 ∷ 9 ∷ 0 ∷ 5 ∷ 0 ∷ 6 ∷ 0 ∷ 1 ∷ 0 ∷ 7 ∷ 0 ∷ 0 ∷ 0 ∷ 18 ∷ 0 ∷ 1 ∷ 0 ∷ 1 ∷ 0 ∷ 0 ∷ 0 ∷ 6 ∷ 0x12 ∷ 9 ∷ 0xB8 ∷ 0 ∷ 15 ∷ 0xB1 ∷ 0 ∷ 0 ∷ 0 ∷ 0 ∷ 0 ∷ 0 ∷ []))

pub hello_read : (class_file_part 191).reads hello_bytes ≡ Ok (hello_file, [])
unfolding repeated bytes_of number opened_flags opened_utf8 opened_descriptors opened_constants opened_members opened_class_grammar
hello_read = refl

pub hello_trailing : (class_file_part 192).reads (hello_bytes ++ (0 ∷ [])) ≡ Err (class_fault 191 kind.Trailing)
unfolding repeated bytes_of number opened_flags opened_utf8 opened_descriptors opened_constants opened_members opened_class_grammar
hello_trailing = refl

-- the instructions of its main method
abbrev hello_instrs : List Instr
hello_instrs =
    record { pc = 0; opcode = 0x12; wide = false; operands = pos 9 ∷ [] }
    ∷ record { pc = 2; opcode = 0xB8; wide = false; operands = pos 15 ∷ [] }
    ∷ record { pc = 5; opcode = 0xB1; wide = false; operands = [] } ∷ []

code_read : code_reading hello_code.code hello_code.table ≡ Ok hello_instrs
unfolding opened_parts opened_code_grammar is_marked leads_astray is_good_range code_reading opened_opcodes repeated bytes_of number
code_read = refl

-- it is read, with its code
pub hello_is_read : IsReadFile hello_file
hello_is_read =
    record {
      bytes = hello_bytes;
      are_bytes = search rules;
      file = (lawful_class_file 191).found hello_bytes hello_file [] hello_read;
      codes = ((hello_instrs, code_found hello_code.code hello_code.table hello_instrs code_read), tt);
    }
