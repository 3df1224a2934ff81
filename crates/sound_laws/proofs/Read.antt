-- The code of a linked system is that of its files.
use Rattle.std.proofs.Common.{◌≡◌, List, Option, Some, None, sym, ap, ◌∙◌, subst}
use Rattle.std.specs.Prelude.{IfSome}
use Rattle.std.specs.List.{AllByRecursion}
use Rattle.jx_base.specs.declared.class_file.ClassFile.{ClassFile}
use Rattle.jx_base.specs.declared.class_file.Code.{Code}
use Rattle.jx_base.specs.declared.class_file.Member.{Member}
use Rattle.jx_base.specs.declared.program.Method.{Method}
use Rattle.jx_base.specs.declared.program.Plan.{Plan}
use Rattle.jx_base.specs.declared.program.System.{System}
use Rattle.link_model.specs.Linking.{Source, linked_method}
use Rattle.program_model.specs.Lookup.{method_at}
use Rattle.machine_model.specs.State.{code_of}
use Rattle.link_model.specs.LinkFaults.{IsLinked}
use Rattle.link_laws.proofs.Lists.{at_among, of_each}
use Rattle.link_laws.proofs.Origins.{method_source}
use Rattle.link_laws.proofs.Sources.{IsSource, OfBuiltIn, OfFile, is_source}
use Rattle.link_laws.proofs.Uses.{and_then_some}
use Rattle.sound_laws.proofs.ByteCodes.{HasByteCodes, HaveByteCodes}
use Rattle.class_grammar.specs.ReadFiles.{AreBytes}

-- a method's code is of bytes, where the files' code is
pub byte_codes : (plan : Plan) (files : List ClassFile) (s : System) → IsLinked plan files s → HaveByteCodes files → HasByteCodes s
unfolding code_of linked_method
byte_codes plan files s from h m c e =
    let x = and_then_some (method_at s m) (λ (x : Method). x.code) c e in
    let y = method_source plan files s from m x.0 x.1 in
    by y.0 (is_source files y.0 y.1) (ap (λ (z : Method). z.code) (sym y.2) ∙ x.2)
  where
    clash : (o : Option Code) → o ≡ None → o ≡ Some c → ⊥
    clash o a b = cc

    by : (y : Source) → IsSource files y → y.code ≡ Some c → AreBytes c.code
    by y (OfBuiltIn k r n d) q = absurd (clash y.code d q)
    by y (OfFile p f n r d a b w) q =
        let read = of_each (λ (m : Member). IfSome m.code (λ c. AreBytes c.code)) f.methods n
        (of_each (λ (f : ClassFile). AllByRecursion (λ (m : Member). IfSome m.code (λ c. AreBytes c.code)) f.methods) files f h (at_among files p f d)) a in
        subst (λ o. IfSome o (λ c. AreBytes c.code)) (sym w ∙ q) read
