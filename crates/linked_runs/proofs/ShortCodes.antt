-- The code of a linked system is short.
use Rattle.std.proofs.Common.{List, sym, subst}
use Rattle.std.specs.List.{AllByRecursion}
use Rattle.std.proofs.lemmas.List.Elements.{All-from_recursion}
use Rattle.class_grammar.specs.ClassGrammar.{IsShortCode}
use Rattle.class_grammar.specs.ReadFiles.{IsReadFile}
use Rattle.class_grammar.proofs.CodeLengths.{has_short_codes}
use Rattle.jx_base.specs.declared.class_file.ClassFile.{ClassFile}
use Rattle.jx_base.specs.declared.class_file.Member.{Member}
use Rattle.jx_base.specs.declared.program.Method.{Method}
use Rattle.jx_base.specs.declared.program.Plan.{Plan}
use Rattle.jx_base.specs.declared.program.System.{System}
use Rattle.program_model.specs.Lookup.{method_at}
use Rattle.link_model.specs.LinkFaults.{IsLinked}
use Rattle.link_model.specs.Linking.{Source, linked_method}
use Rattle.link_laws.proofs.Lists.{Among, among_at, at_among, of_all, of_each}
use Rattle.link_laws.proofs.Origins.{method_source}
use Rattle.link_laws.proofs.Sources.{IsSource, OfBuiltIn, OfFile, is_source}
use Rattle.interp_core.specs.Cores.{HasShortCodes}

-- a method of a built-in class has no code, and one of a file that was read has short code
source_short : (files : List ClassFile) → AllByRecursion IsReadFile files → (y : Source) → IsSource files y → IsShortCode y.code
source_short files are_read y (OfBuiltIn k e d none) = subst IsShortCode (sym none) tt
source_short files are_read y (OfFile p f m c e there d same) =
    let read = of_each IsReadFile files f are_read (at_among files p f e) in
    subst IsShortCode (sym same) (of_each (λ (m : Member). IsShortCode m.code) f.methods m (has_short_codes read.bytes f read.file) there)

-- so the code of each method of a linked system is short
pub linked_short : (plan : Plan) (files : List ClassFile) (s : System) → IsLinked plan files s → HasShortCodes s
unfolding method_at linked_method
linked_short plan files s from = All-from_recursion (λ (m : Method). IsShortCode m.code) s.program.methods (of_all (λ (m : Method). IsShortCode m.code) s.program.methods each)
  where
    each : (x : Method) → Among s.program.methods x → IsShortCode x.code
    each x there =
        let place = among_at s.program.methods x there in
        let y = method_source plan files s from place.0 x place.1 in
        subst (λ (z : Method). IsShortCode z.code) (sym y.2) (source_short files from.has_files.read y.0 (is_source files y.0 y.1))
