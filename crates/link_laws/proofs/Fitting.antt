-- The constants that the code of a linked system uses mean what fits.
use Rattle.std.proofs.Common.{◌≡◌, ◌≢◌, ℕ, suc, ◌+◌, inl, inr, Bool, true, false, not, List, [], ◌∷◌, ◌++◌, map, Option, Some, None, slice_get, refl, sym, ap, ◌∙◌, subst, arith}
use Rattle.std.specs.Prelude.{if◌then◌else◌, Contains, filter, flat_map, ◌==◌, cond, codes}
use Rattle.std.specs.List.{filter_map}
use Rattle.std.proofs.lemmas.Option.{slice_get-get_or}
use Rattle.class_grammar.specs.Opcodes.{row_at}
use Rattle.jx_base.specs.declared.class_file.ClassFile.{ClassFile}
use Rattle.jx_base.specs.declared.class_file.Code.{Code}
use Rattle.jx_base.specs.declared.class_file.Constant.{Constant}
use Rattle.jx_base.specs.declared.class_file.Constant.TheVariants as constant
use Rattle.jx_base.specs.declared.class_file.Instr.{Instr}
use Rattle.jx_base.specs.declared.class_file.Member.{Member}
use Rattle.jx_base.specs.declared.class_file.Range.{Range}
use Rattle.jx_base.specs.declared.program.Method.{Method}
use Rattle.jx_base.specs.declared.program.Plan.{Plan}
use Rattle.jx_base.specs.declared.program.Resolved.{Resolved}
use Rattle.jx_base.specs.declared.program.System.{System}
use Rattle.jx_base.specs.declared.program.Template.{Template}
use Rattle.jx_base.specs.declared.row.Row.{Row}
use Rattle.jx_base.specs.declared.row.Row.TheVariants as row
use Rattle.program_model.specs.BuiltIn.{built_in_table, built_in_count}
use Rattle.link_model.specs.declared.uses.Use.{Use}
use Rattle.link_model.specs.declared.uses.Use.TheVariants.{AsWord, AsLong, AsField, AsMethod, AsNew, AsClass, AsArray}
use Rattle.link_model.specs.declared.uses.Used.{Used}
use Rattle.link_model.specs.ClassFiles.{use_by, used_by, catch_uses, uses_of_code, uses_of_member, uses_of, arrays_of_name, class_at_index, class_mentioned, arrays_of_instr, arrays_of_code, arrays_of_member, arrays_of, constant_in}
use Rattle.program_model.specs.Instructions.{index_operand, instructions_of}
use Rattle.link_model.specs.LinkFaults.{dimensions_of, has_tag_for, use_fault, uses_fault}
use Rattle.link_model.specs.Linking.{Source, outline, meanings_of, linked_method, named_arrays, array_names, files_of, meaning_of}
use Rattle.program_model.specs.Lookup.{constant_at, method_at, type_of_name}
use Rattle.jx_base.specs.Basics.{contains_number}
use Rattle.jx_base.proofs.BasicLaws.{eq_of, same_number}
use Rattle.link_model.specs.LinkFaults.{IsLinked}
use Rattle.link_laws.specs.Meanings.{ConstantsFit, MeansFitting, FitsUse}
use Rattle.jx_base.specs.declared.program.Class.{Class}
use Rattle.jx_base.specs.declared.row.Invocation.TheVariants as invocation
use Rattle.link_laws.proofs.Classes.{all_names, name_of}
use Rattle.link_laws.proofs.Lists.{Among, among_front, among_behind, among_flat, among_given, among_map, at_among, none_given, among_any, text_kept, same_there}
use Rattle.link_laws.proofs.Names.{are_files}
use Rattle.link_laws.proofs.Origins.{file_linked, method_source, at_meaning}
use Rattle.link_laws.proofs.Sources.{IsSource, OfBuiltIn, OfFile, is_source}
use Rattle.link_laws.proofs.Templates.{IsListed, file_listed, listed_uses}
use Rattle.link_laws.proofs.Uses.{IsUsable, use_means, usable, of_some, mapped_some}
use Rattle.std.specs.Option.{option_and_then}

-- what a list contains stands in it
pub contained : {A : Type 0} (xs : List A) (x : A) → Contains xs x → Among xs x
contained xs x h = at_among xs h.0 x (slice_get-get_or xs h.0 x h.1 ∙ ap Some h.2)

-- ---- arrays

-- a class with dimensions is among its arrays
pub array_itself : (name : List ℕ) → (dimensions_of name == 0) ≡ false → Among (arrays_of_name name) name
unfolding arrays_of_name dimensions_of
array_itself [] h = absurd (no h)
  where
    no : true ≡ false → ⊥
    no e = cc
array_itself (u ∷ units) h = by (u == 91) h
  where
    by : (b : Bool) → ((elim b as (λ _. ℕ) [ true ↦ suc (dimensions_of units) | false ↦ 0 ]) == 0) ≡ false
        → Among (elim b as (λ _. List (List ℕ)) [ true ↦ arrays_of_name units ++ (u ∷ units) ∷ [] | false ↦ [] ]) (u ∷ units)
    by true e = among_behind (arrays_of_name units) _ (u ∷ units) (inl refl)
    by false e = absurd (no e)
      where
        no : true ≡ false → ⊥
        no e = cc

-- a class that an instruction uses is among the arrays that it mentions, where it is an array
used_mentioned : (f : ClassFile) (r : Row) (i : Instr) (v : Use) (name : List ℕ) → use_by r i ≡ Some v → class_at_index f (index_operand i 0) ≡ name → (dimensions_of name == 0) ≡ false →
    Among (arrays_of_name (class_mentioned f r i)) name
unfolding use_by class_mentioned type_of_name arrays_of_name dimensions_of
used_mentioned f row.NewArray i v name e q d = absurd cc
used_mentioned f row.NewReferenceArray i v name e q d = subst (λ n. Among (arrays_of_name (91 ∷ type_of_name n)) name) (sym q) (by name d)
  where
    no : true ≡ false → ⊥
    no e = cc

    by : (name : List ℕ) → (dimensions_of name == 0) ≡ false → Among (arrays_of_name (91 ∷ type_of_name name)) name
    by [] d = absurd (no d)
    by (u ∷ units) d = of (u == 91) refl
      where
        of : (b : Bool) → (u == 91) ≡ b → Among (arrays_of_name (if b then u ∷ units else (76 ∷ u ∷ units ++ 59 ∷ [])) ++ (91 ∷ (if b then u ∷ units else (76 ∷ u ∷ units ++ 59 ∷ []))) ∷ []) (u ∷ units)
        of true g = among_front (arrays_of_name (u ∷ units)) _ (u ∷ units) (array_itself (u ∷ units) d)
        of false g = absurd (no (sym (ap (λ (b : Bool). (elim b as (λ _. ℕ) [ true ↦ suc (dimensions_of units) | false ↦ 0 ]) == 0) g) ∙ d))
used_mentioned f r i v name e q d = by (use_by r i) e
  where
    by : (o : Option Use) → o ≡ Some v → Among (arrays_of_name (elim o as (λ _. List ℕ) [ None ↦ [] | Some u ↦ class_at_index f (index_operand i 0) ])) name
    by None w = absurd cc
    by (Some u) w = subst (λ n. Among (arrays_of_name n) name) (sym q) (array_itself name d)

-- the array classes of a method's code are its file's
pub code_arrays : (f : ClassFile) (m : Member) (c : Code) (name : List ℕ) → Among f.methods m → m.code ≡ Some c → Among (arrays_of_code f c) name → Among (arrays_of f) name
unfolding arrays_of arrays_of_member
code_arrays f m c name h e k = among_flat (arrays_of_member f) f.methods m name h (by m.code e)
  where
    by : (o : Option Code) → o ≡ Some c → Among (elim o as (λ _. List (List ℕ)) [ None ↦ [] | Some d ↦ arrays_of_code f d ]) name
    by None q = absurd cc
    by (Some d) q = subst (λ x. Among (arrays_of_code f x) name) (sym (same_there d c q)) k

-- the array classes of a listed file are classes
pub file_arrays : (plan : Plan) (files : List ClassFile) (t : Template) (p : ℕ) (n : List ℕ) (f : ClassFile) (name : List ℕ) → IsListed plan files t p n f → Among (arrays_of f) name → Among (all_names plan files) name
unfolding all_names array_names named_arrays files_of
file_arrays plan files t p n f name h k =
    let here : Among (filter_map (slice_get files) t.classes) f = among_given (slice_get files) t.classes p f h.listed h.file in
    let named : Among (named_arrays plan files) name =
    among_flat (λ t. flat_map arrays_of (files_of files t.classes)) plan.templates t name h.template (among_flat arrays_of (files_of files t.classes) f name here k) in
    among_behind (map name_of built_in_table) _ name (among_behind plan.classes _ name
    (text_kept (codes "[Ljava/lang/String;" ∷ codes "[Ljx/Memory;" ∷ named_arrays plan files) name (inr (inr named))))

-- ---- uses

-- a constant that is not there has no use
no_use : (v : Use) → has_tag_for v constant.Unusable ≡ true → ⊥
unfolding has_tag_for
no_use AsWord h = cc
no_use AsLong h = cc
no_use (AsField static) h = cc
no_use (AsMethod invocation.Virtual) h = cc
no_use (AsMethod invocation.Special) h = cc
no_use (AsMethod invocation.Static) h = cc
no_use (AsMethod invocation.Interface) h = cc
no_use AsNew h = cc
no_use AsClass h = cc
no_use (AsArray n) h = cc

-- a constant with a use is there
used_there : (f : ClassFile) (i : ℕ) (v : Use) → has_tag_for v (constant_in f i) ≡ true → slice_get f.constants i ≡ Some (constant_in f i)
unfolding constant_in
used_there f i v h = by (slice_get f.constants i) h
  where
    by : (o : Option Constant) → has_tag_for v (elim o as (λ _. Constant) [ None ↦ constant.Unusable | Some c ↦ c ]) ≡ true
        → o ≡ Some (elim o as (λ _. Constant) [ None ↦ constant.Unusable | Some c ↦ c ])
    by None q = absurd (no_use v q)
    by (Some c) q = refl

-- a use by a method's code is one of its file
pub file_uses : (f : ClassFile) (m : Member) (c : Code) (u : Used) → Among f.methods m → m.code ≡ Some c → Among (uses_of_code c) u → Among (uses_of f) u
unfolding uses_of uses_of_member
file_uses f m c u h e k = among_flat uses_of_member f.methods m u h (by m.code e)
  where
    by : (o : Option Code) → o ≡ Some c → Among (elim o as (λ _. List Used) [ None ↦ [] | Some d ↦ uses_of_code d ]) u
    by None q = absurd cc
    by (Some d) q = subst (λ x. Among (uses_of_code x) u) (sym (same_there d c q)) k

-- the index of a use is used
index_used : (f : ClassFile) (u : Used) → Among (uses_of f) u → contains_number (map (λ u. u.index) (uses_of f)) u.index ≡ true
unfolding contains_number
index_used f u h = among_any (λ x. x == u.index) (map (λ (u : Used). u.index) (uses_of f)) u.index (among_map (λ (u : Used). u.index) (uses_of f) u h) (same_number u.index)

-- the uses of a file are those of its methods
uses_are : (f : ClassFile) → uses_of f ≡ flat_map uses_of_member f.methods
unfolding uses_of
uses_are f = refl

module _ (plan : Plan) (files : List ClassFile) (s : System) (from : IsLinked plan files s) where
  -- a use of a listed file is usable
  pub file_usable : (t : Template) (p : ℕ) (n : List ℕ) (f : ClassFile) (u : Used) → IsListed plan files t p n f → Among (uses_of f) u → IsUsable (outline plan files) plan t f u.use_of (constant_in f u.index)
  unfolding uses_fault
  file_usable t p n f u l all =
      usable (outline plan files) plan t n f u (none_given (use_fault (outline plan files) plan t n f) (flat_map uses_of_member f.methods) u (listed_uses plan files s from t p n f l)
      (subst (λ (us : List Used). Among us u) (uses_are f) all))

  -- what a use by the code of a file's method means
  pub use_told : (p : ℕ) (f : ClassFile) (m : Member) (c : Code) (u : Used) → slice_get files p ≡ Some f → Among f.methods m → m.code ≡ Some c → Among (uses_of_code c) u
      → ((name : List ℕ) → class_at_index f u.index ≡ name → (dimensions_of name == 0) ≡ false → Among (arrays_of_code f c) name)
      → (r : Resolved) × (meaning_of (outline plan files) f (constant_in f u.index) ≡ Some r) × (constant_at s (built_in_count + p) u.index ≡ Some r) × FitsUse s u.use_of r
  unfolding constant_at class_at_index meanings_of
  use_told p f m c u e h g k arrays =
      let l = file_listed plan files s from p f e in
      let all : Among (uses_of f) u = file_uses f m c u h g k in
      let usable = file_usable l.0 p l.1 f u l.2 all in
      let means = use_means plan files s from (are_files files from.has_files.read) l.0 f u.use_of (constant_in f u.index) usable
      (λ name q d. file_arrays plan files l.0 p l.1 f name l.2 (code_arrays f m c name h g (arrays name (ap (λ (o : Option (List ℕ)). elim o as (λ _. List ℕ) [ None ↦ [] | Some n ↦ n ]) q) d))) in (
        means.0,
        means.1,
        (ap (λ o. option_and_then (λ (x : Class). slice_get x.constants u.index) o) (file_linked plan files s from p f e)
            ∙ at_meaning (outline plan files) f (map (λ u. u.index) (uses_of f)) 0 f.constants u.index (constant_in f u.index) means.0
            (used_there f u.index u.use_of usable.tag) (ap (contains_number (map (λ u. u.index) (uses_of f))) (omega arith) ∙ index_used f u all) means.1),
        means.2,
      )

  -- so it fits
  code_fits : (p : ℕ) (f : ClassFile) (m : Member) (c : Code) (u : Used) → slice_get files p ≡ Some f → Among f.methods m → m.code ≡ Some c → Among (uses_of_code c) u
      → ((name : List ℕ) → class_at_index f u.index ≡ name → (dimensions_of name == 0) ≡ false → Among (arrays_of_code f c) name)
      → MeansFitting s (built_in_count + p) u
  code_fits p f m c u e h g k arrays = let r = use_told p f m c u e h g k arrays in of_some (FitsUse s u.use_of) (constant_at s (built_in_count + p) u.index) r.0 r.2 r.3

  -- the array class that an instruction uses is one of its code's
  pub instr_arrays : (f : ClassFile) (c : Code) (i : Instr) (u : Used) → Among (instructions_of c.code) i → used_by i ≡ Some u
      → (name : List ℕ) → class_at_index f u.index ≡ name → (dimensions_of name == 0) ≡ false → Among (arrays_of_code f c) name
  unfolding arrays_of_code arrays_of_instr used_by
  instr_arrays f c i u h e name q d =
      let v = mapped_some (λ (v : Use). record { use_of = v; index = index_operand i 0 }) (use_by (row_at i.opcode) i) u e in
      among_front (flat_map (arrays_of_instr f) (instructions_of c.code)) _ name
      (among_flat (arrays_of_instr f) (instructions_of c.code) i name h
      (used_mentioned f (row_at i.opcode) i v.0 name v.1 (ap (λ (w : Used). class_at_index f w.index) v.2 ∙ q) d))

  -- and so is one that a catch type names
  catch_arrays : (f : ClassFile) (c : Code) (u : Used) → Among (catch_uses c) u
      → (name : List ℕ) → class_at_index f u.index ≡ name → (dimensions_of name == 0) ≡ false → Among (arrays_of_code f c) name
  unfolding arrays_of_code
  catch_arrays f c u h name q d =
      among_behind (flat_map (arrays_of_instr f) (instructions_of c.code)) _ name
      (among_flat (λ (u : Used). arrays_of_name (class_at_index f u.index)) (catch_uses c) u name h (subst (λ n. Among (arrays_of_name n) name) (sym q) (array_itself name d)))

  -- what an instruction of a method uses
  instruction_fits : (m : ℕ) (x : Method) (i : Instr) (u : Used) → method_at s m ≡ Some x → Among x.instrs i → used_by i ≡ Some u → MeansFitting s x.class.0 u
  unfolding linked_method uses_of_code
  instruction_fits m x i u e h q =
      let y = method_source plan files s from m x e in
      subst (λ (z : Method). MeansFitting s z.class.0 u) (sym y.2) (by y.0 (is_source files y.0 y.1) y.0.code refl (subst (λ (z : Method). Among z.instrs i) y.2 h))
    where
      by : (y : Source) → IsSource files y → (o : Option Code) → y.code ≡ o → Among (elim y.code as (λ _. List Instr) [ None ↦ [] | Some c ↦ instructions_of c.code ]) i → MeansFitting s y.class u
      by y source None g k = absurd (subst (λ (o : Option Code). Among (elim o as (λ _. List Instr) [ None ↦ [] | Some c ↦ instructions_of c.code ]) i) g k)
      by y (OfBuiltIn k r n d) (Some c) g w = absurd (none d g)
        where
          none : y.code ≡ None → y.code ≡ Some c → ⊥
          none a b = cc
      by y (OfFile p f n r d a b z) (Some c) g w =
          let here : Among (instructions_of c.code) i = subst (λ (o : Option Code). Among (elim o as (λ _. List Instr) [ None ↦ [] | Some c ↦ instructions_of c.code ]) i) g w in
          subst (λ k. MeansFitting s k u) (sym r) (code_fits p f n c u d a (sym z ∙ g) (among_front (filter_map used_by (instructions_of c.code)) _ u (among_given used_by (instructions_of c.code) i u here q)) (instr_arrays f c i u here q))

  -- a catch type is a use
  catch_used : (c : Code) (r : Range) → Among c.table r → r.catch_type ≢ 0 → Among (catch_uses c) (record { use_of = AsClass; index = r.catch_type })
  unfolding catch_uses
  catch_used c r h n = among_map (λ (r : Range). record { use_of = AsClass; index = r.catch_type }) (filter (λ r. not (r.catch_type == 0)) c.table) r (kept c.table h)
    where
      kept : (rs : List Range) → Among rs r → Among (filter (λ r. not (r.catch_type == 0)) rs) r
      kept [] k = absurd k
      kept (q ∷ rs) (inl k) = of (q.catch_type == 0) refl
        where
          of : (b : Bool) → (q.catch_type == 0) ≡ b → Among (cond (not b) (q ∷ filter (λ r. not (r.catch_type == 0)) rs) (filter (λ r. not (r.catch_type == 0)) rs)) r
          of true w = absurd (n (ap (λ (x : Range). x.catch_type) (sym k) ∙ eq_of q.catch_type 0 w))
          of false w = inl k
      kept (q ∷ rs) (inr k) = of (q.catch_type == 0) (kept rs k)
        where
          of : (b : Bool) → Among (filter (λ r. not (r.catch_type == 0)) rs) r → Among (cond (not b) (q ∷ filter (λ r. not (r.catch_type == 0)) rs) (filter (λ r. not (r.catch_type == 0)) rs)) r
          of true w = w
          of false w = inr w

  -- what a catch type of a method uses
  catch_fits : (m : ℕ) (x : Method) (c : Code) (u : Used) → method_at s m ≡ Some x → x.code ≡ Some c → Among (catch_uses c) u → MeansFitting s x.class.0 u
  unfolding linked_method uses_of_code
  catch_fits m x c u e h q =
      let y = method_source plan files s from m x e in
      subst (λ (z : Method). MeansFitting s z.class.0 u) (sym y.2) (by y.0 (is_source files y.0 y.1) (ap (λ (z : Method). z.code) (sym y.2) ∙ h))
    where
      by : (y : Source) → IsSource files y → y.code ≡ Some c → MeansFitting s y.class u
      by y (OfBuiltIn k r n d) g = absurd (none d g)
        where
          none : y.code ≡ None → y.code ≡ Some c → ⊥
          none a b = cc
      by y (OfFile p f n r d a b z) g =
          subst (λ k. MeansFitting s k u) (sym r) (code_fits p f n c u d a (sym z ∙ g) (among_behind (filter_map used_by (instructions_of c.code)) (catch_uses c) u q) (catch_arrays f c u q))

  -- the constants fit
  pub constants_fit : ConstantsFit s
  constants_fit = record {
    instructions = λ m x i u e h q. instruction_fits m x i u e (contained x.instrs i h) q;
    catches = λ m x c r e g h n. catch_fits m x c (record { use_of = AsClass; index = r.catch_type }) e g (catch_used c r (contained c.table r h) n);
  }
