-- The table of opcodes: of each one its mnemonic, how its operands lie behind it, and what it does.
use Rattle.std.specs.Prelude.{ℕ, pos, negsuc, Bool, true, false, List, [], ◌∷◌, ◌++◌, ◌==◌, if◌then◌else◌, slice_index_or, codes}
use Rattle.std.specs.List.{list_any}
use Rattle.jx_base.specs.declared.value.Value.TheVariants as value
use Rattle.jx_base.specs.declared.row.Row.{Row}
use Rattle.jx_base.specs.declared.row.Row.TheVariants as row
use Rattle.jx_base.specs.declared.row.Form.{Form}
use Rattle.jx_base.specs.declared.row.Form.TheVariants as form
use Rattle.jx_base.specs.declared.row.Kind.TheVariants as kind
use Rattle.jx_base.specs.declared.row.Local.TheVariants as local
use Rattle.jx_base.specs.declared.row.Slots.TheVariants as slots
use Rattle.jx_base.specs.declared.row.Operator.TheVariants as operator
use Rattle.jx_base.specs.declared.row.Division.TheVariants as division
use Rattle.jx_base.specs.declared.row.Shift.TheVariants as shift
use Rattle.jx_base.specs.declared.row.Conversion.TheVariants as conversion
use Rattle.jx_base.specs.declared.row.Comparison.TheVariants as comparison
use Rattle.jx_base.specs.declared.row.Element.TheVariants as element
use Rattle.jx_base.specs.declared.row.Invocation.TheVariants as invocation

-- what the table says of an opcode
pub record Opcode : Type 0 where
  pub mnemonic : List ℕ
  pub form : Form
  pub row : Row

-- an opcode with operands of that form
unfoldable pub opcode : List ℕ → Form → Row → Opcode
opcode mnemonic form row = record { mnemonic = mnemonic; form = form; row = row }

-- an opcode without operands
unfoldable pub plain_opcode : List ℕ → Row → Opcode
plain_opcode mnemonic row = opcode mnemonic form.Plain row

-- an opcode that no class file may use
unfoldable pub left_out : Opcode
left_out = opcode [] form.LeftOut row.Missing

-- an opcode that is no instruction
unfoldable pub unassigned : Opcode
unassigned = opcode [] form.Unassigned row.Missing

-- 00 to 14
unfoldable pub constants : List Opcode
constants =
    plain_opcode (codes "nop") row.Nop ∷
    plain_opcode (codes "aconst_null") (row.Push value.Null) ∷
    plain_opcode (codes "iconst_m1") (row.Push (value.Int (negsuc 0))) ∷
    plain_opcode (codes "iconst_0") (row.Push (value.Int (pos 0))) ∷
    plain_opcode (codes "iconst_1") (row.Push (value.Int (pos 1))) ∷
    plain_opcode (codes "iconst_2") (row.Push (value.Int (pos 2))) ∷
    plain_opcode (codes "iconst_3") (row.Push (value.Int (pos 3))) ∷
    plain_opcode (codes "iconst_4") (row.Push (value.Int (pos 4))) ∷
    plain_opcode (codes "iconst_5") (row.Push (value.Int (pos 5))) ∷
    plain_opcode (codes "lconst_0") (row.Push (value.Long (pos 0))) ∷
    plain_opcode (codes "lconst_1") (row.Push (value.Long (pos 1))) ∷
    left_out ∷ left_out ∷ left_out ∷ left_out ∷ left_out ∷
    opcode (codes "bipush") form.SignedByte row.PushOperand ∷
    opcode (codes "sipush") form.SignedShort row.PushOperand ∷
    opcode (codes "ldc") form.Byte row.PushConstant ∷
    opcode (codes "ldc_w") form.Index row.PushConstant ∷
    opcode (codes "ldc2_w") form.Index row.PushLong ∷ []

-- 15 to 35
unfoldable pub loads : List Opcode
loads =
    opcode (codes "iload") form.Byte (row.Load kind.Int local.Named) ∷
    opcode (codes "lload") form.Byte (row.Load kind.Long local.Named) ∷
    left_out ∷ left_out ∷
    opcode (codes "aload") form.Byte (row.Load kind.Reference local.Named) ∷
    plain_opcode (codes "iload_0") (row.Load kind.Int (local.Fixed 0)) ∷
    plain_opcode (codes "iload_1") (row.Load kind.Int (local.Fixed 1)) ∷
    plain_opcode (codes "iload_2") (row.Load kind.Int (local.Fixed 2)) ∷
    plain_opcode (codes "iload_3") (row.Load kind.Int (local.Fixed 3)) ∷
    plain_opcode (codes "lload_0") (row.Load kind.Long (local.Fixed 0)) ∷
    plain_opcode (codes "lload_1") (row.Load kind.Long (local.Fixed 1)) ∷
    plain_opcode (codes "lload_2") (row.Load kind.Long (local.Fixed 2)) ∷
    plain_opcode (codes "lload_3") (row.Load kind.Long (local.Fixed 3)) ∷
    left_out ∷ left_out ∷ left_out ∷ left_out ∷ left_out ∷ left_out ∷ left_out ∷ left_out ∷
    plain_opcode (codes "aload_0") (row.Load kind.Reference (local.Fixed 0)) ∷
    plain_opcode (codes "aload_1") (row.Load kind.Reference (local.Fixed 1)) ∷
    plain_opcode (codes "aload_2") (row.Load kind.Reference (local.Fixed 2)) ∷
    plain_opcode (codes "aload_3") (row.Load kind.Reference (local.Fixed 3)) ∷
    plain_opcode (codes "iaload") (row.LoadElement element.Int) ∷
    plain_opcode (codes "laload") (row.LoadElement element.Long) ∷
    left_out ∷ left_out ∷
    plain_opcode (codes "aaload") (row.LoadElement element.Reference) ∷
    plain_opcode (codes "baload") (row.LoadElement element.Byte) ∷
    plain_opcode (codes "caload") (row.LoadElement element.Char) ∷
    plain_opcode (codes "saload") (row.LoadElement element.Short) ∷ []

-- 36 to 56
unfoldable pub stores : List Opcode
stores =
    opcode (codes "istore") form.Byte (row.Store kind.Int local.Named) ∷
    opcode (codes "lstore") form.Byte (row.Store kind.Long local.Named) ∷
    left_out ∷ left_out ∷
    opcode (codes "astore") form.Byte (row.Store kind.Reference local.Named) ∷
    plain_opcode (codes "istore_0") (row.Store kind.Int (local.Fixed 0)) ∷
    plain_opcode (codes "istore_1") (row.Store kind.Int (local.Fixed 1)) ∷
    plain_opcode (codes "istore_2") (row.Store kind.Int (local.Fixed 2)) ∷
    plain_opcode (codes "istore_3") (row.Store kind.Int (local.Fixed 3)) ∷
    plain_opcode (codes "lstore_0") (row.Store kind.Long (local.Fixed 0)) ∷
    plain_opcode (codes "lstore_1") (row.Store kind.Long (local.Fixed 1)) ∷
    plain_opcode (codes "lstore_2") (row.Store kind.Long (local.Fixed 2)) ∷
    plain_opcode (codes "lstore_3") (row.Store kind.Long (local.Fixed 3)) ∷
    left_out ∷ left_out ∷ left_out ∷ left_out ∷ left_out ∷ left_out ∷ left_out ∷ left_out ∷
    plain_opcode (codes "astore_0") (row.Store kind.Reference (local.Fixed 0)) ∷
    plain_opcode (codes "astore_1") (row.Store kind.Reference (local.Fixed 1)) ∷
    plain_opcode (codes "astore_2") (row.Store kind.Reference (local.Fixed 2)) ∷
    plain_opcode (codes "astore_3") (row.Store kind.Reference (local.Fixed 3)) ∷
    plain_opcode (codes "iastore") (row.StoreElement element.Int) ∷
    plain_opcode (codes "lastore") (row.StoreElement element.Long) ∷
    left_out ∷ left_out ∷
    plain_opcode (codes "aastore") (row.StoreElement element.Reference) ∷
    plain_opcode (codes "bastore") (row.StoreElement element.Byte) ∷
    plain_opcode (codes "castore") (row.StoreElement element.Char) ∷
    plain_opcode (codes "sastore") (row.StoreElement element.Short) ∷ []

-- 57 to 5F
unfoldable pub stack_forms : List Opcode
stack_forms =
    plain_opcode (codes "pop") (row.Discard slots.One) ∷
    plain_opcode (codes "pop2") (row.Discard slots.Two) ∷
    plain_opcode (codes "dup") (row.Copy slots.One slots.Zero) ∷
    plain_opcode (codes "dup_x1") (row.Copy slots.One slots.One) ∷
    plain_opcode (codes "dup_x2") (row.Copy slots.One slots.Two) ∷
    plain_opcode (codes "dup2") (row.Copy slots.Two slots.Zero) ∷
    plain_opcode (codes "dup2_x1") (row.Copy slots.Two slots.One) ∷
    plain_opcode (codes "dup2_x2") (row.Copy slots.Two slots.Two) ∷
    plain_opcode (codes "swap") row.Swap ∷ []

-- 60 to 84
unfoldable pub arithmetic : List Opcode
arithmetic =
    plain_opcode (codes "iadd") (row.IntOperate operator.Add) ∷
    plain_opcode (codes "ladd") (row.LongOperate operator.Add) ∷
    left_out ∷ left_out ∷
    plain_opcode (codes "isub") (row.IntOperate operator.Subtract) ∷
    plain_opcode (codes "lsub") (row.LongOperate operator.Subtract) ∷
    left_out ∷ left_out ∷
    plain_opcode (codes "imul") (row.IntOperate operator.Multiply) ∷
    plain_opcode (codes "lmul") (row.LongOperate operator.Multiply) ∷
    left_out ∷ left_out ∷
    plain_opcode (codes "idiv") (row.IntDivide division.Quotient) ∷
    plain_opcode (codes "ldiv") (row.LongDivide division.Quotient) ∷
    left_out ∷ left_out ∷
    plain_opcode (codes "irem") (row.IntDivide division.Remainder) ∷
    plain_opcode (codes "lrem") (row.LongDivide division.Remainder) ∷
    left_out ∷ left_out ∷
    plain_opcode (codes "ineg") row.IntNegate ∷
    plain_opcode (codes "lneg") row.LongNegate ∷
    left_out ∷ left_out ∷
    plain_opcode (codes "ishl") (row.IntShift shift.Left) ∷
    plain_opcode (codes "lshl") (row.LongShift shift.Left) ∷
    plain_opcode (codes "ishr") (row.IntShift shift.Right) ∷
    plain_opcode (codes "lshr") (row.LongShift shift.Right) ∷
    plain_opcode (codes "iushr") (row.IntShift shift.UnsignedRight) ∷
    plain_opcode (codes "lushr") (row.LongShift shift.UnsignedRight) ∷
    plain_opcode (codes "iand") (row.IntOperate operator.And) ∷
    plain_opcode (codes "land") (row.LongOperate operator.And) ∷
    plain_opcode (codes "ior") (row.IntOperate operator.Or) ∷
    plain_opcode (codes "lor") (row.LongOperate operator.Or) ∷
    plain_opcode (codes "ixor") (row.IntOperate operator.Xor) ∷
    plain_opcode (codes "lxor") (row.LongOperate operator.Xor) ∷
    opcode (codes "iinc") form.Increment row.Increment ∷ []

-- 85 to 93
unfoldable pub conversions : List Opcode
conversions =
    plain_opcode (codes "i2l") (row.Convert conversion.IntToLong) ∷
    left_out ∷ left_out ∷
    plain_opcode (codes "l2i") (row.Convert conversion.LongToInt) ∷
    left_out ∷ left_out ∷ left_out ∷ left_out ∷ left_out ∷ left_out ∷ left_out ∷ left_out ∷
    plain_opcode (codes "i2b") (row.Convert conversion.IntToByte) ∷
    plain_opcode (codes "i2c") (row.Convert conversion.IntToChar) ∷
    plain_opcode (codes "i2s") (row.Convert conversion.IntToShort) ∷ []

-- 94 to A6
unfoldable pub comparisons : List Opcode
comparisons =
    plain_opcode (codes "lcmp") row.CompareLongs ∷
    left_out ∷ left_out ∷ left_out ∷ left_out ∷
    opcode (codes "ifeq") form.Branch (row.IfZero comparison.Equal) ∷
    opcode (codes "ifne") form.Branch (row.IfZero comparison.NotEqual) ∷
    opcode (codes "iflt") form.Branch (row.IfZero comparison.Less) ∷
    opcode (codes "ifge") form.Branch (row.IfZero comparison.AtLeast) ∷
    opcode (codes "ifgt") form.Branch (row.IfZero comparison.Greater) ∷
    opcode (codes "ifle") form.Branch (row.IfZero comparison.AtMost) ∷
    opcode (codes "if_icmpeq") form.Branch (row.IfInts comparison.Equal) ∷
    opcode (codes "if_icmpne") form.Branch (row.IfInts comparison.NotEqual) ∷
    opcode (codes "if_icmplt") form.Branch (row.IfInts comparison.Less) ∷
    opcode (codes "if_icmpge") form.Branch (row.IfInts comparison.AtLeast) ∷
    opcode (codes "if_icmpgt") form.Branch (row.IfInts comparison.Greater) ∷
    opcode (codes "if_icmple") form.Branch (row.IfInts comparison.AtMost) ∷
    opcode (codes "if_acmpeq") form.Branch (row.IfSame true) ∷
    opcode (codes "if_acmpne") form.Branch (row.IfSame false) ∷ []

-- A7 to B1
unfoldable pub control : List Opcode
control =
    opcode (codes "goto") form.Branch row.Goto ∷
    left_out ∷ left_out ∷
    opcode (codes "tableswitch") form.TableSwitch row.TableSwitch ∷
    opcode (codes "lookupswitch") form.LookupSwitch row.LookupSwitch ∷
    plain_opcode (codes "ireturn") (row.Return kind.Int) ∷
    plain_opcode (codes "lreturn") (row.Return kind.Long) ∷
    left_out ∷ left_out ∷
    plain_opcode (codes "areturn") (row.Return kind.Reference) ∷
    plain_opcode (codes "return") row.ReturnVoid ∷ []

-- B2 to C3
unfoldable pub references : List Opcode
references =
    opcode (codes "getstatic") form.Index row.GetStatic ∷
    opcode (codes "putstatic") form.Index row.PutStatic ∷
    opcode (codes "getfield") form.Index row.GetField ∷
    opcode (codes "putfield") form.Index row.PutField ∷
    opcode (codes "invokevirtual") form.Index (row.Invoke invocation.Virtual) ∷
    opcode (codes "invokespecial") form.Index (row.Invoke invocation.Special) ∷
    opcode (codes "invokestatic") form.Index (row.Invoke invocation.Static) ∷
    opcode (codes "invokeinterface") form.Interface (row.Invoke invocation.Interface) ∷
    left_out ∷
    opcode (codes "new") form.Index row.New ∷
    opcode (codes "newarray") form.ArrayType row.NewArray ∷
    opcode (codes "anewarray") form.Index row.NewReferenceArray ∷
    plain_opcode (codes "arraylength") row.ArrayLength ∷
    plain_opcode (codes "athrow") row.Throw ∷
    opcode (codes "checkcast") form.Index row.CheckCast ∷
    opcode (codes "instanceof") form.Index row.InstanceOf ∷
    left_out ∷ left_out ∷ []

-- C4 to C9
unfoldable pub extended : List Opcode
extended =
    opcode (codes "wide") form.Wide row.Missing ∷
    opcode (codes "multianewarray") form.Dimensions row.NewMultiArray ∷
    opcode (codes "ifnull") form.Branch (row.IfNull true) ∷
    opcode (codes "ifnonnull") form.Branch (row.IfNull false) ∷
    opcode (codes "goto_w") form.FarBranch row.Goto ∷
    left_out ∷ []

-- the opcodes from 00 on
unfoldable pub opcodes : List Opcode
opcodes =
    constants ++ loads ++ stores ++ stack_forms ++ arithmetic ++ conversions ++ comparisons
    ++ control ++ references ++ extended

-- what the table says of the opcode of that number
unfoldable pub opcode_at : ℕ → Opcode
opcode_at n = slice_index_or opcodes n unassigned

-- what the opcode does
unfoldable pub row_at : ℕ → Row
row_at n = (opcode_at n).row

-- how the opcode's operands lie behind it
unfoldable pub form_at : ℕ → Form
form_at n = (opcode_at n).form

-- how the operands lie behind wide and the row that it widens
unfoldable pub wide_form_of : Row → Form
wide_form_of (row.Load kind local.Named) = form.Index
wide_form_of (row.Store kind local.Named) = form.Index
wide_form_of row.Increment = form.WideIncrement
wide_form_of _ = form.Unassigned

-- the opcodes that are left out also behind wide: loads and stores of floats and doubles, and ret
unfoldable pub is_left_out_wide : ℕ → Bool
is_left_out_wide n = list_any (λ k. k == n) (0x17 ∷ 0x18 ∷ 0x38 ∷ 0x39 ∷ 0xa9 ∷ [])

-- how the operands lie behind wide and that opcode
unfoldable pub wide_form_at : ℕ → Form
wide_form_at n = if is_left_out_wide n then form.LeftOut else wide_form_of (row_at n)

-- what a computed case opens
unfoldable pub opened_opcodes : Unit {0}
unfolding opcode plain_opcode left_out unassigned constants loads stores stack_forms arithmetic
    conversions comparisons control references extended opcodes opcode_at row_at form_at
    wide_form_of is_left_out_wide wide_form_at
opened_opcodes = tt
