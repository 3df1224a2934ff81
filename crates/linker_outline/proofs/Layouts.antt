-- Layouts by one step less.
use Rattle.std.proofs.Common.{◌≡◌, ◌∙◌, refl, sym, ap, ℕ, suc, ◌-◌, ◌<◌, ◌≤◌, true, false, List, [], ◌++◌, length, Option, Some, None, slice_get, arith}
use Rattle.std.proofs.lemmas.Bool.{le-ltb, lt-ltb}
use Rattle.jx_base.specs.declared.class_file.ClassFile.{ClassFile}
use Rattle.jx_base.specs.declared.program.Class.{Class}
use Rattle.jx_base.specs.declared.program.Field.{Field}
use Rattle.jx_base.specs.declared.program.Plan.{Plan}
use Rattle.program_model.specs.BuiltIn.{built_in_count, built_in_table, opened_built_in}
use Rattle.program_model.specs.Lookup.{is_built_in}
use Rattle.link_model.specs.Linking.{layout_within, own_fields}
use Rattle.linker_outline.specs.Fields.{inherited_fields}

-- there are as many built-in classes as are counted
pub built_in_length : length built_in_table ≡ built_in_count
unfolding opened_built_in
built_in_length = refl

-- they are 27
pub few_built_in : length built_in_table ≡ 27
unfolding opened_built_in
few_built_in = refl

-- whether a class number is that of a built-in class
in_table : (c : ℕ) → c < length built_in_table → is_built_in c ≡ true
unfolding is_built_in
in_table c le = lt-ltb c built_in_count (omega (arith, le, built_in_length))

-- or one behind those
behind_table : (c : ℕ) → length built_in_table ≤ c → is_built_in c ≡ false
unfolding is_built_in
behind_table c le = le-ltb c built_in_count (omega (arith, le, built_in_length))

module _ (plan : Plan) (files : List ClassFile) (k c : ℕ) where
  -- the layout of a class of the plan, or of none
  abbrev layout_of_file : Option ClassFile → List Field
  layout_of_file None = []
  layout_of_file (Some f) = inherited_fields plan files k f ++ own_fields false c f

  -- the layout of a built-in class, or of none
  abbrev fields_of : Option Class → List Field
  fields_of None = []
  fields_of (Some x) = x.fields

  -- the layout by cases
  by_case : layout_within plan files (suc k) c ≡ elim (is_built_in c) [ true ↦ fields_of (slice_get built_in_table c) | false ↦ layout_of_file (slice_get files (c - built_in_count)) ]
  unfolding layout_within
  by_case = refl

  -- of a built-in class
  pub built_in_layout : (x : Class) → c < length built_in_table → slice_get built_in_table c ≡ Some x → layout_within plan files (suc k) c ≡ x.fields
  built_in_layout x le e = by_case ∙ ap (λ b. elim b [ true ↦ fields_of (slice_get built_in_table c) | false ↦ layout_of_file (slice_get files (c - built_in_count)) ]) (in_table c le) ∙ ap fields_of e

  -- of another class
  other_layout : length built_in_table ≤ c → layout_within plan files (suc k) c ≡ layout_of_file (slice_get files (c - length built_in_table))
  other_layout le =
      by_case ∙ ap (λ b. elim b [ true ↦ fields_of (slice_get built_in_table c) | false ↦ layout_of_file (slice_get files (c - built_in_count)) ]) (behind_table c le)
      ∙ ap (λ n. layout_of_file (slice_get files (c - n))) (sym built_in_length)

  -- of a class of the plan
  pub file_layout : (f : ClassFile) → length built_in_table ≤ c → slice_get files (c - length built_in_table) ≡ Some f → layout_within plan files (suc k) c ≡ inherited_fields plan files k f ++ own_fields false c f
  file_layout f le e = other_layout le ∙ ap layout_of_file e

  -- of no class
  pub no_layout : length built_in_table ≤ c → slice_get files (c - length built_in_table) ≡ None → layout_within plan files (suc k) c ≡ []
  no_layout le e = other_layout le ∙ ap layout_of_file e
