-- Lines whose numbers and texts are in range.
use Rattle.std.proofs.Common.{ℕ, ◌^◌, ◌<◌, List, [], ◌∷◌, ◌++◌, Some, None, Option, arith}
use Rattle.std.specs.Prelude.{flat_map}
use Rattle.std.specs.List.{AllByRecursion}
use Rattle.asm_lines.specs.declared.line.Line.{Line}
use Rattle.asm_lines.specs.declared.line.Line.TheVariants as line
use Rattle.asm_lines.specs.declared.line.Member.{Member}
use Rattle.asm_lines.specs.declared.line.Operand.{Operand}
use Rattle.asm_lines.specs.declared.line.Operand.TheVariants as operand
use Rattle.asm_bodies.specs.Needs.{operand_contents, member_contents, method_contents, caught_contents, line_contents, code_name}
use Rattle.asm_laws.specs.Tables.{AreUnits, IsRangedContent, AreRangedContents}

pub record IsRangedMember (m : Member) : Type 0 where
  pub flags : m.flags < 2 ^ 16
  pub name : AreUnits m.name
  pub descriptor : AreUnits m.descriptor

abbrev pub IsRangedOperand : Operand → Type 0
IsRangedOperand (operand.ByteIndex c) = IsRangedContent c
IsRangedOperand (operand.Index c) = IsRangedContent c
IsRangedOperand _ = Unit {0}

abbrev pub AreRangedOperands : List Operand → Type 0
AreRangedOperands operands = AllByRecursion IsRangedOperand operands

abbrev pub IsRangedClass : Option (List ℕ) → Type 0
IsRangedClass None = Unit {0}
IsRangedClass (Some class) = AreUnits class

-- the flags and the constants of a line are in range
abbrev pub IsRangedLine : Line → Type 0
IsRangedLine (line.Class flags name super) = (flags < 2 ^ 16) × AreUnits name × AreUnits super
IsRangedLine (line.Implements name) = AreUnits name
IsRangedLine (line.Field m) = IsRangedMember m
IsRangedLine (line.Abstract m) = IsRangedMember m
IsRangedLine (line.Method m max_stack max_locals) = IsRangedMember m
IsRangedLine (line.Instruction i) = AreRangedOperands i.operands
IsRangedLine (line.Catch c) = IsRangedClass c.class
IsRangedLine _ = Unit {0}

-- ---- the constants that a line needs

pub all_append : {X : Type 0} (P : X → Type 0) (xs ys : List X) → AllByRecursion P xs → AllByRecursion P ys → AllByRecursion P (xs ++ ys)
all_append P [] ys h k = k
all_append P (x ∷ xs) ys h k = (h.0, all_append P xs ys h.1 k)

operand_ranged : (o : Operand) → IsRangedOperand o → AreRangedContents (operand_contents o)
unfolding operand_contents
operand_ranged (operand.ByteIndex c) h = (h, tt)
operand_ranged (operand.Index c) h = (h, tt)
operand_ranged _ h = tt

operands_ranged : (operands : List Operand) → AreRangedOperands operands → AreRangedContents (flat_map operand_contents operands)
operands_ranged [] h = tt
operands_ranged (o ∷ operands) h =
    all_append IsRangedContent (operand_contents o) (flat_map operand_contents operands) (operand_ranged o h.0) (operands_ranged operands h.1)

caught_ranged : (class : Option (List ℕ)) → IsRangedClass class → AreRangedContents (caught_contents class)
unfolding caught_contents
caught_ranged None h = tt
caught_ranged (Some class) h = (h, tt)

code_units : AreUnits code_name
code_units = (omega arith, (omega arith, (omega arith, (omega arith, tt))))

pub contents_ranged : (l : Line) → IsRangedLine l → AreRangedContents (line_contents l)
unfolding line_contents member_contents method_contents
contents_ranged (line.Class flags name super) h = (h.1, (h.2, tt))
contents_ranged (line.Implements name) h = (h, tt)
contents_ranged (line.Field m) h = (h.name, (h.descriptor, tt))
contents_ranged (line.Abstract m) h = (h.name, (h.descriptor, tt))
contents_ranged (line.Method m max_stack max_locals) h = (h.name, (h.descriptor, (code_units, tt)))
contents_ranged (line.Instruction i) h = operands_ranged i.operands h
contents_ranged (line.Catch c) h = caught_ranged c.class h
contents_ranged _ h = tt

pub all_contents_ranged : (lines : List Line) → AllByRecursion IsRangedLine lines → AllByRecursion (λ l. AreRangedContents (line_contents l)) lines
all_contents_ranged [] h = tt
all_contents_ranged (l ∷ lines) h = (contents_ranged l h.0, all_contents_ranged lines h.1)
