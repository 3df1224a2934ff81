-- What is made of an outline.
use Rattle.std.proofs.Common.{◌≡◌, ◌∙◌, sym, subst}
use Rattle.std.specs.Prelude.{List, Result, Ok, Err, IfOk}
use Rattle.jx_base.specs.declared.class_file.ClassFile.{ClassFile}
use Rattle.jx_base.specs.declared.program.Plan.{Plan}
use Rattle.jx_base.specs.declared.program.System.{System}
use Rattle.link_model.specs.Linking.{outline}
use Rattle.linker_uses.proofs.Outlines.{outline_has_built_ins}
use Rattle.linker_uses.specs.BuiltInFirst.{HasBuiltIns}

-- its first classes are the built-in ones
pub with_built_ins : {E : Type 0} (plan : Plan) (files : List ClassFile) (s : System) (r : Result System E) → s ≡ outline plan files → IfOk r (λ whole. whole ≡ s) → IfOk r HasBuiltIns
with_built_ins plan files s (Ok whole) e h = subst HasBuiltIns (sym (h ∙ e)) (outline_has_built_ins plan files)
with_built_ins plan files s (Err x) e h = tt
