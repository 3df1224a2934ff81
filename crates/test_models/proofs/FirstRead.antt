-- The first class is read, with its code.
use Rattle.std.specs.Prelude.{◌≡◌, refl, pos, false, List, [], ◌∷◌, Ok}
use Rattle.jx_base.specs.declared.class_file.Instr.{Instr}
use Rattle.class_grammar.specs.Parts.{opened_parts}
use Rattle.class_grammar.specs.Flags.{opened_flags}
use Rattle.class_grammar.specs.Opcodes.{opened_opcodes}
use Rattle.class_grammar.specs.ModifiedUtf8.{opened_utf8}
use Rattle.class_grammar.specs.Descriptors.{opened_descriptors}
use Rattle.class_grammar.specs.Constants.{opened_constants}
use Rattle.class_grammar.specs.Members.{opened_members}
use Rattle.class_grammar.specs.ClassGrammar.{IsClassFile, HasShortCodes, class_file_part, opened_class_grammar}
use Rattle.class_grammar.specs.CodeGrammar.{opened_code_grammar}
use Rattle.class_reader.proofs.ClassLaws.{lawful_class_file}
use Rattle.code_reader.specs.CodeReading.{code_reading}
use Rattle.code_reader.proofs.ReadingLaws.{code_found}
use Rattle.class_grammar.specs.ReadFiles.{IsReadCode}
use Rattle.std.specs.List.{AllByRecursion}
use Rattle.std.specs.Prelude.{IfSome}
use Rattle.std.proofs.Common.{arith}
use Rattle.test_files.specs.HelloClass.{hello_bytes}
use Rattle.test_models.specs.FirstClass.{first_class, first_constants, first_main, first_code}

first_reads : (class_file_part 191).reads hello_bytes ≡ Ok (first_class, [])
unfolding hello_bytes first_class first_constants first_main first_code opened_parts opened_flags opened_utf8 opened_descriptors opened_constants opened_members opened_class_grammar
first_reads = refl

pub first_file : IsClassFile hello_bytes first_class
unfolding hello_bytes
first_file = (lawful_class_file 191).found hello_bytes first_class [] first_reads

abbrev first_instrs : List Instr
first_instrs =
    record { pc = 0; opcode = 0x12; wide = false; operands = pos 9 ∷ [] }
    ∷ record { pc = 2; opcode = 0xB8; wide = false; operands = pos 15 ∷ [] }
    ∷ record { pc = 5; opcode = 0xB1; wide = false; operands = [] } ∷ []

first_code_reads : code_reading first_code.code first_code.table ≡ Ok first_instrs
unfolding first_code code_reading opened_parts opened_opcodes opened_code_grammar
first_code_reads = refl

pub first_code_is_read : IsReadCode first_code
first_code_is_read = (first_instrs, code_found first_code.code first_code.table first_instrs first_code_reads)

pub first_codes_are_read : AllByRecursion (λ m. IfSome m.code IsReadCode) first_class.methods
unfolding first_class first_main
first_codes_are_read = (first_code_is_read, tt)

pub first_codes_are_short : HasShortCodes first_class.methods
unfolding first_class first_main first_code
first_codes_are_short = (omega arith, tt)
