-- A class is read in one way, or bad in one way.
use Rattle.std.specs.Prelude.{◌≡◌, ℕ, ◌+◌, List, [], ◌∷◌, ◌++◌, length, Option, Some, IfSome}
use Rattle.std.proofs.Common.{sym, ◌∙◌, ap, subst, inl, inr}
use Rattle.jx_base.specs.declared.class_file.ClassFile.{ClassFile}
use Rattle.jx_base.specs.declared.class_file.Code.{Code}
use Rattle.jx_base.specs.declared.class_file.Member.{Member}
use Rattle.jx_base.specs.declared.fault.ClassFault.{ClassFault}
use Rattle.jx_base.specs.declared.fault.ClassKind.{ClassKind}
use Rattle.jx_base.specs.declared.fault.CodeFault.{CodeFault}
use Rattle.jx_base.specs.declared.fault.CodeKind.{CodeKind}
use Rattle.class_grammar.specs.ClassGrammar.{IsClassFile, IsClassFault, class_file_part}
use Rattle.class_grammar.specs.CodeGrammar.{IsCodeFault, code_fault}
use Rattle.class_grammar.specs.Constants.{class_fault}
use Rattle.class_grammar.specs.ReadFiles.{IsReadCode}
use Rattle.class_grammar.proofs.PartLaws.{one_meaning, one_fault, not_both}
use Rattle.class_reader.proofs.ClassLaws.{lawful_class_file}
use Rattle.code_reader.proofs.ReadingLaws.{code_only, fault_only}
use Rattle.jx_top.specs.ReadClasses.{HaveReadCode, IsReadClass, IsBadCode, HasFirstBadCode, IsBadClass}
use Rattle.jx_top.specs.declared.defect.Defect.{Defect}
use Rattle.jx_top.specs.declared.defect.DefectKind.TheVariants as defect
use Rattle.jx_top.proofs.Firsts.{holds_between, one_first}

-- ---- files

pub one_file : (bytes : List ℕ) (f g : ClassFile) → IsClassFile bytes f → IsClassFile bytes g → f ≡ g
one_file bytes f g p q = one_meaning (class_file_part (length bytes)) (lawful_class_file (length bytes)) bytes f g [] [] p q

file_or_fault : (bytes : List ℕ) (f : ClassFile) (at : ℕ) (kind : ClassKind) → IsClassFile bytes f → IsClassFault bytes at kind → ⊥
file_or_fault bytes f at kind p q = not_both (class_file_part (length bytes)) (lawful_class_file (length bytes)) bytes f [] (class_fault at kind) p q

one_class_fault : (bytes : List ℕ) (a b : ℕ) (k l : ClassKind) → IsClassFault bytes a k → IsClassFault bytes b l → class_fault a k ≡ class_fault b l
one_class_fault bytes a b k l p q = one_fault (class_file_part (length bytes)) (lawful_class_file (length bytes)) bytes (class_fault a k) (class_fault b l) p q

-- ---- code

code_or_fault : (code : Code) (d : Defect) → IsReadCode code → IsBadCode code d → ⊥
code_or_fault code d p q =
    let read = code_only code.code code.table p.0 p.1 in
    let fails = fault_only code.code code.table (code_fault q.pc q.kind) q.fault in
    absurd (cc)

one_code_fault : (code : Code) (pc qc : ℕ) (k l : CodeKind) → IsCodeFault code.code code.table pc k → IsCodeFault code.code code.table qc l → code_fault pc k ≡ code_fault qc l
one_code_fault code pc qc k l p q =
    let a = fault_only code.code code.table (code_fault pc k) p in
    let b = fault_only code.code code.table (code_fault qc l) q in
    cc

one_bad_code : (code : Code) (d e : Defect) → IsBadCode code d → IsBadCode code e → d ≡ e
one_bad_code code d e p q =
    let same = one_code_fault code p.pc q.pc p.kind q.kind p.fault q.fault in
    p.defect_is ∙ ap (λ (f : CodeFault). record { at = code.at + f.pc; kind = defect.Code f.kind }) same ∙ sym q.defect_is

-- ---- methods

abbrev HasReadCode : Member → Type 0
HasReadCode m = IfSome m.code IsReadCode

-- a method whose code is bad is none of those whose code is read
not_read : (method : Member) (c : Code) (d : Defect) → method.code ≡ Some c → IsBadCode c d → HasReadCode method → ⊥
not_read method c d is bad read = code_or_fault c d (subst (λ (o : Option Code). IfSome o IsReadCode) is read) bad

methods_or_bad : (methods : List Member) (d : Defect) → HaveReadCode methods → HasFirstBadCode methods d → ⊥
methods_or_bad methods d h bad =
    let parts : HaveReadCode (bad.before ++ bad.method ∷ bad.after) = subst HaveReadCode bad.parts h in
    not_read bad.method bad.code d bad.is_code bad.bad (holds_between HasReadCode bad.before bad.method bad.after parts)

one_bad_method : (methods : List Member) (d e : Defect) → HasFirstBadCode methods d → HasFirstBadCode methods e → d ≡ e
one_bad_method methods d e p q =
    let same = one_first HasReadCode p.before q.before p.method q.method p.after q.after (sym p.parts ∙ q.parts) p.read q.read
    (not_read p.method p.code d p.is_code p.bad) (not_read q.method q.code e q.is_code q.bad) in
    let codes : Some p.code ≡ Some q.code = sym p.is_code ∙ ap (λ (m : Member). m.code) same ∙ q.is_code in
    let code : p.code ≡ q.code = cc in
    one_bad_code q.code d e (subst (λ (c : Code). IsBadCode c d) code p.bad) q.bad

-- ---- classes

-- no bytes are a class that is read and a bad one
pub read_or_bad : (bytes : List ℕ) (file : ClassFile) (d : Defect) → IsReadClass bytes file → IsBadClass bytes d → ⊥
read_or_bad bytes file d p (inl q) = file_or_fault bytes file q.at q.kind p.class q.fault
read_or_bad bytes file d p (inr q) =
    let same = one_file bytes file q.file p.class q.class in
    methods_or_bad q.file.methods d (subst (λ (f : ClassFile). HaveReadCode f.methods) same p.codes) q.code

-- a bad class has one first defect
pub one_defect : (bytes : List ℕ) (d e : Defect) → IsBadClass bytes d → IsBadClass bytes e → d ≡ e
one_defect bytes d e (inl p) (inl q) =
    p.defect_is ∙ ap (λ (f : ClassFault). record { at = f.at; kind = defect.File f.kind }) (one_class_fault bytes p.at q.at p.kind q.kind p.fault q.fault) ∙ sym q.defect_is
one_defect bytes d e (inl p) (inr q) = absurd (file_or_fault bytes q.file p.at p.kind q.class p.fault)
one_defect bytes d e (inr p) (inl q) = absurd (file_or_fault bytes p.file q.at q.kind p.class q.fault)
one_defect bytes d e (inr p) (inr q) =
    let same = one_file bytes p.file q.file p.class q.class in
    one_bad_method q.file.methods d e (subst (λ (f : ClassFile). HasFirstBadCode f.methods d) same p.code) q.code
