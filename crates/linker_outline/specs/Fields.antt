-- The fields of classes.
use Rattle.std.specs.Prelude.{ℕ, Bool, not, List, [], Some, None, if◌then◌else◌}
use Rattle.class_grammar.specs.Flags.{is_static}
use Rattle.jx_base.specs.declared.class_file.ClassFile.{ClassFile}
use Rattle.jx_base.specs.declared.class_file.Member.{Member}
use Rattle.jx_base.specs.declared.program.Field.{Field}
use Rattle.jx_base.specs.declared.program.Plan.{Plan}
use Rattle.link_model.specs.ClassFiles.{super_name}
use Rattle.link_model.specs.Linking.{class_number, layout_within}

-- whether a field is one of the statics, or one of the others
abbrev pub is_of_kind : Bool → Member → Bool
is_of_kind statics m = if statics then is_static m.flags else not (is_static m.flags)

-- the layout of a file's super, as far as so many steps lead
abbrev pub inherited_fields : Plan → List ClassFile → ℕ → ClassFile → List Field
inherited_fields plan files k f = elim (class_number plan (super_name f)) [ None ↦ [] | Some p ↦ layout_within plan files k p ]
