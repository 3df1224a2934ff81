-- The array classes of a linked system.
use Rattle.std.proofs.Common.{◌≡◌, ℕ, suc, ◌+◌, ◌≤◌, inl, inr, Bool, true, false, List, [], ◌∷◌, map, codes, Option, Some, None, slice_get, refl, sym, ap, ◌∙◌, subst, arith}
use Rattle.std.specs.Prelude.{◌==◌, is_none, IfSome, IsSome, Contains, flat_map, nat_lt}
use Rattle.std.specs.List.{filter_map, list_all}
use Rattle.std.specs.Str.{bytes_eq}
use Rattle.class_grammar.specs.Opcodes.{row_at}
use Rattle.jx_base.specs.declared.class_file.ClassFile.{ClassFile}
use Rattle.jx_base.specs.declared.class_file.Code.{Code}
use Rattle.jx_base.specs.declared.class_file.Constant.{Constant}
use Rattle.jx_base.specs.declared.class_file.Constant.TheVariants as constant
use Rattle.jx_base.specs.declared.class_file.Instr.{Instr}
use Rattle.jx_base.specs.declared.class_file.Member.{Member}
use Rattle.jx_base.specs.declared.ids.ClassId.{ClassId}
use Rattle.jx_base.specs.declared.program.Class.{Class}
use Rattle.jx_base.specs.declared.program.Method.{Method}
use Rattle.jx_base.specs.declared.program.Plan.{Plan}
use Rattle.jx_base.specs.declared.program.Resolved.TheVariants as resolved
use Rattle.jx_base.specs.declared.program.System.{System}
use Rattle.jx_base.specs.declared.row.Row.TheVariants as row
use Rattle.program_model.specs.BuiltIn.{built_in_table, built_in_count, array_class, class_below, built_in_class, opened_built_in}
use Rattle.link_model.specs.declared.uses.Use.{Use}
use Rattle.link_model.specs.declared.uses.Use.TheVariants.{AsClass}
use Rattle.link_model.specs.declared.uses.Used.{Used}
use Rattle.link_model.specs.ClassFiles.{this_name, use_by, used_by, catch_uses, uses_of_code, arrays_of_name, class_at_index, class_mentioned, class_of_constant, constant_in, text_in, arrays_of_code, arrays_of_instr}
use Rattle.program_model.specs.Instructions.{index_operand, instructions_of}
use Rattle.link_model.specs.LinkFaults.{IsLinked, has_tag_for, dimensions_of}
use Rattle.link_model.specs.Linking.{Source, outline, array_names, named_arrays, array_class_named, class_of_file, linked_method, meaning_of}
use Rattle.program_model.specs.Lookup.{class_at, class_named, constant_at, method_at, type_of_name, type_of_class}
use Rattle.program_model.specs.Types.{element_type}
use Rattle.jx_base.proofs.BasicLaws.{both, eq_of}
use Rattle.link_laws.specs.Arrays.{IsTypeIn, IsElementOf, HasArraysOf, ArraysHold}
use Rattle.link_laws.proofs.Classes.{name_of, all_names, array_begins, is_own, is_plain, built_in_own, own_plain, others_plain, plan_others}
use Rattle.link_laws.proofs.Elements.{array_elements_in, named_there}
use Rattle.link_laws.proofs.Fitting.{contained, array_itself, file_usable, file_uses, file_arrays, code_arrays, instr_arrays, use_told}
use Rattle.link_laws.proofs.Hierarchy.{if_there}
use Rattle.link_laws.proofs.Lists.{Among, among_front, among_behind, among_flat, among_given, among_map, at_among, each_among, position_at, same_text, same_there, text_kept}
use Rattle.link_laws.proofs.Origins.{IsOutlined, IsBuiltIn, IsOfFile, IsOfArray, is_outlined, class_linked, class_outlined, meant_of, meant_alike, method_source}
use Rattle.link_laws.proofs.Sources.{selectors_of, IsSource, OfBuiltIn, OfFile, is_source}
use Rattle.link_laws.proofs.Templates.{file_names, file_listed}
use Rattle.link_laws.proofs.Uses.{mapped_some}
use Rattle.link_laws.proofs.Whole.{is_there, methods_hold}
use Rattle.link_laws.proofs.Dimensions.{method_said}
use Rattle.std.specs.Option.{option_map}

-- ---- small facts

-- no built-in class is one of arrays
built_in_elements : list_all (λ (k : Class). is_none k.component) built_in_table ≡ true
unfolding opened_built_in
built_in_elements = refl

-- nothing stands where the test passes
none_is : {A : Type 0} (o : Option A) → is_none o ≡ true → o ≡ None
none_is None h = refl
none_is (Some x) h = absurd cc

-- what an array class is
array_component : (name type : List ℕ) → name ≡ 91 ∷ type → (array_class_named name).component ≡ Some type
unfolding array_class_named array_class
array_component [] type e = absurd cc
array_component (u ∷ units) type e = cc

-- its name
array_name : (name type : List ℕ) → name ≡ 91 ∷ type → (array_class_named name).name ≡ 91 ∷ type
unfolding array_class_named array_class class_below built_in_class
array_name [] type e = absurd cc
array_name (u ∷ units) type e = let q : units ≡ type = cc in ap (λ xs. 91 ∷ xs) q

-- an array's name has dimensions
array_dimensions : (type : List ℕ) → (dimensions_of (91 ∷ type) == 0) ≡ false
unfolding dimensions_of
array_dimensions type = by (suc (dimensions_of type) == 0) refl
  where
    by : (b : Bool) → (suc (dimensions_of type) == 0) ≡ b → b ≡ false
    by true e = absurd (omega (arith, eq_of (suc (dimensions_of type)) 0 e))
    by false e = refl

-- a plain name has none
plain_dimensions : (name : List ℕ) → is_plain name ≡ true → dimensions_of name ≡ 0
unfolding is_plain
plain_dimensions name h = eq_of (dimensions_of name) 0 (both (list_all (λ u. nat_lt u 65536) name) (dimensions_of name == 0) h).1

module _ (plan : Plan) (files : List ClassFile) (s : System) (from : IsLinked plan files s) where
  -- that the system is linked
  abbrev linked : IsLinked plan files s
  linked = from

  -- ---- elements

  module _ (c : ℕ) (k : Class) (e : class_at s c ≡ Some k) where
    -- the elements of an array class are of a type of the system
    elements_are : IfSome k.component (IsElementOf s k)
    unfolding class_at outline class_of_file
    elements_are = let r = class_outlined plan files s linked c k e in if_there (IsElementOf s k) k.component (λ type q. by r.0 r.2 (is_outlined plan files c r.0 r.1) type q)
      where
        clash : {A : Type 0} {o p : Option A} {x : A} → o ≡ p → p ≡ None → o ≡ Some x → ⊥
        clash a b d = cc

        by : (h : Class) → k ≡ meant_of (outline plan files) files c h → IsOutlined plan files c h → (type : List ℕ) → k.component ≡ Some type → IsElementOf s k type
        by h w (IsBuiltIn small i) type q =
            absurd (clash (ap (λ (x : Class). x.component) w ∙ (meant_alike (outline plan files) files c h).component)
            (none_is h.component (each_among (λ (k : Class). is_none k.component) built_in_table h built_in_elements (at_among built_in_table c h i))) q)
        by h w (IsOfFile p f i g m) type q = absurd (clash (ap (λ (x : Class). x.component) w ∙ (meant_alike (outline plan files) files c h).component) (ap (λ (x : Class). x.component) m) q)
        by h w (IsOfArray j name i g m) type q =
            let there = at_among (array_names plan files) j name g in
            let r = array_begins plan files name there in
            let alike = meant_alike (outline plan files) files c h in
            let component = ap (λ (x : Class). x.component) w ∙ alike.component ∙ ap (λ (x : Class). x.component) m ∙ array_component name r.0 r.1 in
            let same : r.0 ≡ type = same_there r.0 type (sym component ∙ q) in
            record {
              name = ap (λ (x : Class). x.name) w ∙ alike.name ∙ ap (λ (x : Class). x.name) m ∙ array_name name r.0 r.1 ∙ ap (λ xs. 91 ∷ xs) same;
              known = subst (IsTypeIn s) same (array_elements_in plan files s from r.0 (subst (Among (array_names plan files)) r.1 there));
            }

    -- a class with dimensions is one of arrays
    arrays_are : 1 ≤ dimensions_of k.name → IsSome k.component
    unfolding class_at outline class_of_file
    arrays_are d = let r = class_outlined plan files s linked c k e in by r.0 r.2 (is_outlined plan files c r.0 r.1)
      where
        by : (h : Class) → k ≡ meant_of (outline plan files) files c h → IsOutlined plan files c h → IsSome k.component
        by h w (IsBuiltIn small i) =
            let name = ap (λ (x : Class). x.name) w ∙ (meant_alike (outline plan files) files c h).name in
            let plain = plain_dimensions h.name (own_plain h.name (each_among is_own (map name_of built_in_table) h.name built_in_own (among_map name_of built_in_table h (at_among built_in_table c h i)))) in
            absurd (omega (arith, d, ap dimensions_of name, plain))
        by h w (IsOfFile p f i g m) =
            let name = ap (λ (x : Class). x.name) w ∙ (meant_alike (outline plan files) files c h).name ∙ ap (λ (x : Class). x.name) m in
            let there = subst (λ xs. Among xs (this_name f)) (file_names plan files s linked) (among_map this_name files f (at_among files p f g)) in
            let plain = plain_dimensions (this_name f) (others_plain (this_name f) (plan_others plan files s linked (this_name f) there)) in
            absurd (omega (arith, d, ap dimensions_of name, plain))
        by h w (IsOfArray j name i g m) =
            let r = array_begins plan files name (at_among (array_names plan files) j name g) in
            is_there k.component r.0 (ap (λ (x : Class). x.component) w ∙ (meant_alike (outline plan files) files c h).component ∙ ap (λ (x : Class). x.component) m ∙ array_component name r.0 r.1)

  -- ---- instructions

  -- where an instruction of a method stands
  record IsWritten (x : Method) (i : Instr) : Type 0 where
    pub place : ℕ
    pub file : ClassFile
    pub member : Member
    pub code : Code
    pub there : slice_get files place ≡ Some file
    pub listed : Among file.methods member
    pub coded : member.code ≡ Some code
    pub written : Among (instructions_of code.code) i
    pub class : x.class.0 ≡ built_in_count + place

  -- each instruction of a method stands in the code of a file
  written_at : (m : ℕ) (x : Method) (i : Instr) → method_at s m ≡ Some x → Among x.instrs i → IsWritten x i
  unfolding linked_method
  written_at m x i e h =
      let y = method_source plan files s linked m x e in
      subst (λ (z : Method). IsWritten z i) (sym y.2) (by y.0 (is_source files y.0 y.1) y.0.code refl (subst (λ (z : Method). Among z.instrs i) y.2 h))
    where
      by : (y : Source) → IsSource files y → (o : Option Code) → y.code ≡ o → Among (elim y.code as (λ _. List Instr) [ None ↦ [] | Some c ↦ instructions_of c.code ]) i → IsWritten (linked_method (selectors_of files) y) i
      by y source None g k = absurd (subst (λ (o : Option Code). Among (elim o as (λ _. List Instr) [ None ↦ [] | Some c ↦ instructions_of c.code ]) i) g k)
      by y (OfBuiltIn k r n d) (Some c) g w = absurd (none d g)
        where
          none : y.code ≡ None → y.code ≡ Some c → ⊥
          none a b = cc
      by y (OfFile p f n r d a b z) (Some c) g w = record {
        place = p;
        file = f;
        member = n;
        code = c;
        there = d;
        listed = a;
        coded = sym z ∙ g;
        written = subst (λ (o : Option Code). Among (elim o as (λ _. List Instr) [ None ↦ [] | Some c ↦ instructions_of c.code ]) i) g w;
        class = r;
      }

  -- the array class that an instruction mentions is there
  mentioned_there : (x : Method) (i : Instr) (w : IsWritten x i) (name : List ℕ) → class_mentioned w.file (row_at i.opcode) i ≡ 91 ∷ name → HasArraysOf s name
  unfolding arrays_of_code arrays_of_instr
  mentioned_there x i w name e =
      let l = file_listed plan files s linked w.place w.file w.there in
      let mine : Among (arrays_of_name (class_mentioned w.file (row_at i.opcode) i)) (91 ∷ name) =
      subst (λ n. Among (arrays_of_name n) (91 ∷ name)) (sym e) (array_itself (91 ∷ name) (array_dimensions name)) in
      named_there plan files s linked (91 ∷ name) (file_arrays plan files l.0 w.place l.1 w.file (91 ∷ name) l.2 (code_arrays w.file w.member w.code (91 ∷ name) w.listed w.coded
      (among_front (flat_map (arrays_of_instr w.file) (instructions_of w.code.code)) _ (91 ∷ name) (among_flat (arrays_of_instr w.file) (instructions_of w.code.code) i (91 ∷ name) w.written mine))))

  -- what a Class constant means
  class_meant : (f : ClassFile) (k : Constant) (c : ClassId) → has_tag_for AsClass k ≡ true → meaning_of (outline plan files) f k ≡ Some (resolved.Class c)
      → (name : List ℕ) × (class_of_constant f k ≡ Some name) × (class_named (outline plan files) name ≡ Some c.0)
  unfolding has_tag_for meaning_of class_of_constant
  class_meant f (constant.Class n) c h e =
      let r = mapped_some (λ (c : ℕ). resolved.Class (record { 0 = c })) (class_named (outline plan files) (text_in f n)) (resolved.Class c) e in
      (text_in f n, refl, r.1 ∙ ap Some (same r.0 c r.2))
    where
      same : (n : ℕ) (c : ClassId) → resolved.Class (record { 0 = n }) ≡ resolved.Class c → n ≡ c.0
      same n c q = let w : record { 0 = n } ≡ c = cc in ap (λ (x : ClassId). x.0) w
  class_meant f k c h e = absurd cc

  -- the class of that name
  class_so_named : (name : List ℕ) (c : ℕ) (k : Class) → class_named (outline plan files) name ≡ Some c → class_at s c ≡ Some k → k.name ≡ name
  unfolding class_named class_at
  class_so_named name c k h e =
      let r = position_at (λ (k : Class). bytes_eq k.name name) (outline plan files).program.classes c h in
      ap (λ (x : Class). x.name) (same_there k _ (sym e ∙ class_linked plan files s linked c r.0 r.1)) ∙ (meant_alike (outline plan files) files c r.0).name ∙ same_text r.0.name name r.2

  -- an instruction that makes arrays of a class
  references_there : (m : ℕ) (x : Method) (i : Instr) (c : ClassId) (k : Class) → method_at s m ≡ Some x → Contains x.instrs i → row_at i.opcode ≡ row.NewReferenceArray
      → constant_at s x.class.0 (index_operand i 0) ≡ Some (resolved.Class c) → class_at s c.0 ≡ Some k → HasArraysOf s (type_of_class k)
  unfolding class_mentioned type_of_class use_by used_by uses_of_code class_at_index
  references_there m x i c k e h q means there =
      let w = written_at m x i e (contained x.instrs i h) in
      let u : Used = record { use_of = AsClass; index = index_operand i 0 } in
      let used : used_by i ≡ Some u = ap (λ r. option_map (λ (v : Use). record { use_of = v; index = index_operand i 0 }) (use_by r i)) q in
      let among = among_front (filter_map used_by (instructions_of w.code.code)) (catch_uses w.code) u (among_given used_by (instructions_of w.code.code) i u w.written used) in
      let told = use_told plan files s from w.place w.file w.member w.code u w.there w.listed w.coded among (instr_arrays plan files s from w.file w.code i u w.written used) in
      let l = file_listed plan files s linked w.place w.file w.there in
      let usable = file_usable plan files s from l.0 w.place l.1 w.file u l.2 (file_uses w.file w.member w.code u w.listed w.coded among) in
      let meant : told.0 ≡ resolved.Class c = same_there told.0 (resolved.Class c) (sym told.2 ∙ ap (λ n. constant_at s n (index_operand i 0)) (sym w.class) ∙ means) in
      let class = class_meant w.file (constant_in w.file (index_operand i 0)) c usable.tag (told.1 ∙ ap Some meant) in
      let name = class_so_named class.0 c.0 k class.2 there in
      mentioned_there x i w (type_of_name k.name) (ap (λ r. class_mentioned w.file r i) q ∙ ap (λ (o : Option (List ℕ)). 91 ∷ type_of_name (elim o as (λ _. List ℕ) [ None ↦ [] | Some n ↦ n ])) class.1 ∙ ap (λ n. 91 ∷ type_of_name n) (sym name))

  -- the arrays of the system
  pub arrays_hold : ArraysHold s
  unfolding class_mentioned array_names all_names
  arrays_hold = record {
    elements = λ c k e. elements_are c k e;
    arrays = λ c k e d. arrays_are c k e d;
    numbers = λ m x i e h q. mentioned_there x i (written_at m x i e (contained x.instrs i h)) (element_type (index_operand i 0)) (ap (λ r. class_mentioned (written_at m x i e (contained x.instrs i h)).file r i) q);
    references = references_there;
    dimensions = λ m x i e h q. method_said s x i ((methods_hold plan files s from).whole m x e) h q;
    texts = named_there plan files s linked (codes "[Ljava/lang/String;") (first (codes "[Ljava/lang/String;") (inl refl));
    memories = named_there plan files s linked (codes "[Ljx/Memory;") (first (codes "[Ljx/Memory;") (inr (inl refl)));
  }
    where
      first : (name : List ℕ) → Among (codes "[Ljava/lang/String;" ∷ codes "[Ljx/Memory;" ∷ named_arrays plan files) name → Among (all_names plan files) name
      first name h = among_behind (map name_of built_in_table) _ name (among_behind plan.classes _ name (text_kept (codes "[Ljava/lang/String;" ∷ codes "[Ljx/Memory;" ∷ named_arrays plan files) name h))
