-- The table of opcodes and that of built-in classes, against lists of their own.
use Rattle.std.specs.Prelude.{◌≡◌, refl, ℕ, List, [], ◌∷◌, length, map, filter, ◌==◌, codes}
use Rattle.std.specs.List.{range_with_len}
use Rattle.jx_base.specs.declared.row.Form.{Form}
use Rattle.jx_base.specs.declared.row.Form.TheVariants as form
use Rattle.jx_base.specs.declared.program.Class.{Class}
use Rattle.jx_base.specs.declared.program.Field.{Field}
use Rattle.program_model.specs.BuiltIn.{built_in_table}
use Rattle.class_grammar.specs.Opcodes.{opcode_at, form_at}
use Rattle.opened_models.specs.Opened.{opened_model}

-- ---- opcodes

-- the place of a form in its enum
abbrev pub number_of : Form → ℕ
number_of form.Plain = 0
number_of form.SignedByte = 1
number_of form.SignedShort = 2
number_of form.Byte = 3
number_of form.Index = 4
number_of form.Interface = 5
number_of form.ArrayType = 6
number_of form.Dimensions = 7
number_of form.Increment = 8
number_of form.WideIncrement = 9
number_of form.Branch = 10
number_of form.FarBranch = 11
number_of form.TableSwitch = 12
number_of form.LookupSwitch = 13
number_of form.Wide = 14
number_of form.LeftOut = 15
number_of form.Unassigned = 16

-- the opcodes with operands of a form
abbrev pub opcodes_with : Form → List ℕ
opcodes_with f = filter (λ n. number_of (form_at n) == number_of f) (range_with_len 0 256)

opcodes_of_signed_byte : opcodes_with form.SignedByte ≡
    0x10 ∷ []
unfolding opened_model
opcodes_of_signed_byte = refl

opcodes_of_signed_short : opcodes_with form.SignedShort ≡
    0x11 ∷ []
unfolding opened_model
opcodes_of_signed_short = refl

opcodes_of_byte : opcodes_with form.Byte ≡
    0x12 ∷ 0x15 ∷ 0x16 ∷ 0x19 ∷ 0x36 ∷ 0x37 ∷ 0x3a ∷ []
unfolding opened_model
opcodes_of_byte = refl

opcodes_of_index : opcodes_with form.Index ≡
    0x13 ∷ 0x14 ∷ 0xb2 ∷ 0xb3 ∷ 0xb4 ∷ 0xb5 ∷ 0xb6 ∷ 0xb7 ∷ 0xb8 ∷ 0xbb ∷ 0xbd ∷ 0xc0 ∷ 0xc1 ∷ []
unfolding opened_model
opcodes_of_index = refl

opcodes_of_interface : opcodes_with form.Interface ≡
    0xb9 ∷ []
unfolding opened_model
opcodes_of_interface = refl

opcodes_of_array_type : opcodes_with form.ArrayType ≡
    0xbc ∷ []
unfolding opened_model
opcodes_of_array_type = refl

opcodes_of_dimensions : opcodes_with form.Dimensions ≡
    0xc5 ∷ []
unfolding opened_model
opcodes_of_dimensions = refl

opcodes_of_increment : opcodes_with form.Increment ≡
    0x84 ∷ []
unfolding opened_model
opcodes_of_increment = refl

opcodes_of_wide_increment : opcodes_with form.WideIncrement ≡
    []
unfolding opened_model
opcodes_of_wide_increment = refl

opcodes_of_branch : opcodes_with form.Branch ≡
    0x99 ∷ 0x9a ∷ 0x9b ∷ 0x9c ∷ 0x9d ∷ 0x9e ∷ 0x9f ∷ 0xa0 ∷ 0xa1 ∷ 0xa2 ∷ 0xa3 ∷ 0xa4 ∷ 0xa5 ∷ 0xa6 ∷ 0xa7 ∷ 0xc6 ∷ 0xc7 ∷ []
unfolding opened_model
opcodes_of_branch = refl

opcodes_of_far_branch : opcodes_with form.FarBranch ≡
    0xc8 ∷ []
unfolding opened_model
opcodes_of_far_branch = refl

opcodes_of_table_switch : opcodes_with form.TableSwitch ≡
    0xaa ∷ []
unfolding opened_model
opcodes_of_table_switch = refl

opcodes_of_lookup_switch : opcodes_with form.LookupSwitch ≡
    0xab ∷ []
unfolding opened_model
opcodes_of_lookup_switch = refl

opcodes_of_wide : opcodes_with form.Wide ≡
    0xc4 ∷ []
unfolding opened_model
opcodes_of_wide = refl

opcodes_of_left_out : opcodes_with form.LeftOut ≡
    0x0b ∷ 0x0c ∷ 0x0d ∷ 0x0e ∷ 0x0f ∷ 0x17 ∷ 0x18 ∷ 0x22 ∷ 0x23 ∷ 0x24 ∷ 0x25 ∷ 0x26 ∷ 0x27 ∷ 0x28 ∷ 0x29 ∷ 0x30 ∷ 0x31 ∷
    0x38 ∷ 0x39 ∷ 0x43 ∷ 0x44 ∷ 0x45 ∷ 0x46 ∷ 0x47 ∷ 0x48 ∷ 0x49 ∷ 0x4a ∷ 0x51 ∷ 0x52 ∷ 0x62 ∷ 0x63 ∷ 0x66 ∷ 0x67 ∷ 0x6a ∷
    0x6b ∷ 0x6e ∷ 0x6f ∷ 0x72 ∷ 0x73 ∷ 0x76 ∷ 0x77 ∷ 0x86 ∷ 0x87 ∷ 0x89 ∷ 0x8a ∷ 0x8b ∷ 0x8c ∷ 0x8d ∷ 0x8e ∷ 0x8f ∷ 0x90 ∷
    0x95 ∷ 0x96 ∷ 0x97 ∷ 0x98 ∷ 0xa8 ∷ 0xa9 ∷ 0xae ∷ 0xaf ∷ 0xba ∷ 0xc2 ∷ 0xc3 ∷ 0xc9 ∷ []
unfolding opened_model
opcodes_of_left_out = refl

opcodes_of_unassigned : opcodes_with form.Unassigned ≡
    0xca ∷ 0xcb ∷ 0xcc ∷ 0xcd ∷ 0xce ∷ 0xcf ∷ 0xd0 ∷ 0xd1 ∷ 0xd2 ∷ 0xd3 ∷ 0xd4 ∷ 0xd5 ∷ 0xd6 ∷ 0xd7 ∷ 0xd8 ∷ 0xd9 ∷ 0xda ∷
    0xdb ∷ 0xdc ∷ 0xdd ∷ 0xde ∷ 0xdf ∷ 0xe0 ∷ 0xe1 ∷ 0xe2 ∷ 0xe3 ∷ 0xe4 ∷ 0xe5 ∷ 0xe6 ∷ 0xe7 ∷ 0xe8 ∷ 0xe9 ∷ 0xea ∷ 0xeb ∷
    0xec ∷ 0xed ∷ 0xee ∷ 0xef ∷ 0xf0 ∷ 0xf1 ∷ 0xf2 ∷ 0xf3 ∷ 0xf4 ∷ 0xf5 ∷ 0xf6 ∷ 0xf7 ∷ 0xf8 ∷ 0xf9 ∷ 0xfa ∷ 0xfb ∷ 0xfc ∷
    0xfd ∷ 0xfe ∷ 0xff ∷ []
unfolding opened_model
opcodes_of_unassigned = refl

mnemonics : map (λ n. (opcode_at n).mnemonic) (
    0x00 ∷ 0x01 ∷ 0x02 ∷ 0x08 ∷ 0x0a ∷ 0x14 ∷ 0x16 ∷ 0x1d ∷ 0x1e ∷ 0x2d ∷ 0x2e ∷ 0x32 ∷ 0x35 ∷ 0x37 ∷ 0x3e ∷ 0x3f ∷ 0x4e ∷
    0x4f ∷ 0x53 ∷ 0x56 ∷ 0x57 ∷ 0x5b ∷ 0x5d ∷ 0x5f ∷ 0x61 ∷ 0x64 ∷ 0x69 ∷ 0x6c ∷ 0x71 ∷ 0x75 ∷ 0x78 ∷ 0x7b ∷ 0x7c ∷ 0x7f ∷
    0x80 ∷ 0x83 ∷ 0x84 ∷ 0x85 ∷ 0x88 ∷ 0x91 ∷ 0x92 ∷ 0x93 ∷ 0x94 ∷ 0x99 ∷ 0x9e ∷ 0x9f ∷ 0xa4 ∷ 0xa5 ∷ 0xa7 ∷ 0xac ∷ 0xad ∷
    0xb0 ∷ 0xb1 ∷ 0xb2 ∷ 0xb5 ∷ 0xb8 ∷ 0xbb ∷ 0xbe ∷ 0xbf ∷ 0xc1 ∷ 0xc7 ∷ 0xc8 ∷ []) ≡
    codes "nop" ∷ codes "aconst_null" ∷ codes "iconst_m1" ∷ codes "iconst_5" ∷ codes "lconst_1" ∷ codes "ldc2_w" ∷
    codes "lload" ∷ codes "iload_3" ∷ codes "lload_0" ∷ codes "aload_3" ∷ codes "iaload" ∷ codes "aaload" ∷
    codes "saload" ∷ codes "lstore" ∷ codes "istore_3" ∷ codes "lstore_0" ∷ codes "astore_3" ∷ codes "iastore" ∷
    codes "aastore" ∷ codes "sastore" ∷ codes "pop" ∷ codes "dup_x2" ∷ codes "dup2_x1" ∷ codes "swap" ∷ codes "ladd" ∷
    codes "isub" ∷ codes "lmul" ∷ codes "idiv" ∷ codes "lrem" ∷ codes "lneg" ∷ codes "ishl" ∷ codes "lshr" ∷
    codes "iushr" ∷ codes "land" ∷ codes "ior" ∷ codes "lxor" ∷ codes "iinc" ∷ codes "i2l" ∷ codes "l2i" ∷ codes "i2b" ∷
    codes "i2c" ∷ codes "i2s" ∷ codes "lcmp" ∷ codes "ifeq" ∷ codes "ifle" ∷ codes "if_icmpeq" ∷ codes "if_icmple" ∷
    codes "if_acmpeq" ∷ codes "goto" ∷ codes "ireturn" ∷ codes "lreturn" ∷ codes "areturn" ∷ codes "return" ∷
    codes "getstatic" ∷ codes "putfield" ∷ codes "invokestatic" ∷ codes "new" ∷ codes "arraylength" ∷ codes "athrow" ∷
    codes "instanceof" ∷ codes "ifnonnull" ∷ codes "goto_w" ∷ []
unfolding opened_model
mnemonics = refl

-- ---- built-in classes

-- the flags of each class
flags_of_built_in_classes : map (λ k. k.flags) built_in_table ≡
    0x0021 ∷ 0x0021 ∷ 0x0021 ∷ 0x0021 ∷ 0x0021 ∷ 0x0021 ∷ 0x0021 ∷ 0x0021 ∷ 0x0021 ∷ 0x0021 ∷ 0x0021 ∷ 0x0021 ∷ 0x0021 ∷
    0x0021 ∷ 0x0021 ∷ 0x0021 ∷ 0x0021 ∷ 0x0021 ∷ 0x0601 ∷ 0x0021 ∷ 0x0021 ∷ 0x0021 ∷ 0x0021 ∷ 0x0021 ∷ 0x0021 ∷ 0x0021 ∷
    0x0021 ∷ []
unfolding opened_model
flags_of_built_in_classes = refl

-- the owner and the name of each field
abbrev pub owned : Field → ℕ × List ℕ
owned f = (f.owner.0, f.name)

fields_of_built_in_classes : map (λ k. map owned k.fields) built_in_table ≡
    [] ∷ [] ∷ ((2, codes "text") ∷ []) ∷ ((3, codes "message") ∷ []) ∷ ((3, codes "message") ∷ []) ∷
    ((3, codes "message") ∷ []) ∷ ((3, codes "message") ∷ []) ∷ ((3, codes "message") ∷ []) ∷
    ((3, codes "message") ∷ []) ∷ ((3, codes "message") ∷ []) ∷ ((3, codes "message") ∷ []) ∷
    ((3, codes "message") ∷ []) ∷ ((3, codes "message") ∷ []) ∷ ((3, codes "message") ∷ []) ∷
    ((3, codes "message") ∷ []) ∷ ((3, codes "message") ∷ []) ∷ ((3, codes "message") ∷ []) ∷
    ((3, codes "message") ∷ []) ∷ [] ∷ [] ∷ [] ∷ ((3, codes "message") ∷ []) ∷ ((3, codes "message") ∷ []) ∷
    ((3, codes "message") ∷ []) ∷ ((3, codes "message") ∷ []) ∷ ((3, codes "message") ∷ []) ∷
    ((3, codes "message") ∷ []) ∷ []
unfolding opened_model
fields_of_built_in_classes = refl

method_counts : map (λ k. length k.methods) built_in_table ≡ 2 ∷ 5 ∷ 7 ∷ 3 ∷ 2 ∷ 2 ∷ 2 ∷ 2 ∷ 2 ∷ 2 ∷ 2 ∷ 2 ∷ 2 ∷ 2 ∷ 2 ∷ 2 ∷ 2 ∷ 2 ∷ 0 ∷ 9 ∷ 13 ∷ 2 ∷ 2 ∷ 2 ∷ 2 ∷ 2 ∷ 2 ∷ []
unfolding opened_model
method_counts = refl

-- the flags of a class's methods
abbrev pub method_flags : Class → List ℕ
method_flags k = map (λ m. m.flags) k.methods

methods_of_zero_are_static : map method_flags (filter (λ k. length k.methods == 9) built_in_table) ≡ (0x0009 ∷ 0x0009 ∷ 0x0009 ∷ 0x0009 ∷ 0x0009 ∷ 0x0009 ∷ 0x0009 ∷ 0x0009 ∷ 0x0009 ∷ []) ∷ []
unfolding opened_model
methods_of_zero_are_static = refl

methods_of_memory_are_not : map method_flags (filter (λ k. length k.methods == 13) built_in_table) ≡ (0x0001 ∷ 0x0001 ∷ 0x0001 ∷ 0x0001 ∷ 0x0001 ∷ 0x0001 ∷ 0x0001 ∷ 0x0001 ∷ 0x0001 ∷ 0x0001 ∷ 0x0001 ∷ 0x0001 ∷ 0x0001 ∷ []) ∷ []
unfolding opened_model
methods_of_memory_are_not = refl
