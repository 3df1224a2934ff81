-- The methods of a linked system are whole.
use Rattle.std.proofs.Common.{◌≡◌, ℕ, ◌+◌, ◌-◌, ◌<◌, ◌≤◌, ◌⊎◌, inl, inr, Bool, true, false, not, List, [], ◌∷◌, ◌++◌, length, map, Option, Some, None, slice_get, refl, sym, ap, ◌∙◌, subst, arith}
use Rattle.std.specs.Prelude.{ℤ, pos, IfSome, IsSome, Contains, Ok}
use Rattle.std.specs.List.{list_all, position}
use Rattle.std.specs.Ordering.{int_eq}
use Rattle.std.proofs.lemmas.Bool.Decides.{Decides-int_eq}
use Rattle.class_grammar.specs.CodeGrammar.{IsCode, BeginsWith, targets_of, first_astray, is_astray, starts_at}
use Rattle.class_grammar.specs.Flags.{is_abstract}
use Rattle.jx_base.specs.declared.class_file.ClassFile.{ClassFile}
use Rattle.jx_base.specs.declared.class_file.Code.{Code}
use Rattle.jx_base.specs.declared.class_file.Instr.{Instr}
use Rattle.jx_base.specs.declared.class_file.Member.{Member}
use Rattle.jx_base.specs.declared.ids.ClassId.{ClassId}
use Rattle.jx_base.specs.declared.ids.MethodId.{MethodId}
use Rattle.jx_base.specs.declared.program.Declared.{Declared}
use Rattle.jx_base.specs.declared.program.Method.{Method}
use Rattle.jx_base.specs.declared.program.Plan.{Plan}
use Rattle.jx_base.specs.declared.program.System.{System}
use Rattle.program_model.specs.BuiltIn.{built_in_table, built_in_count}
use Rattle.program_model.specs.Instructions.{instructions_of, instructions_in, instruction_at, reading_of}
use Rattle.link_model.specs.LinkFaults.{IsLinked}
use Rattle.link_model.specs.Linking.{Source, outline, sources, declared_of, linked_method}
use Rattle.program_model.specs.Lookup.{class_at, class_count, method_at, selector_at, same_selector}
use Rattle.std.proofs.Common.{drop, append_assoc, length-append}
use Rattle.std.proofs.Math.Seq.{drop-append_seam}
use Rattle.class_grammar.specs.CodeGrammar.{instruction_part}
use Rattle.code_reader.proofs.Sound.{sound_instruction, starts_at_pc}
use Rattle.link_laws.proofs.Cuts.{cut_instruction}
use Rattle.code_reader.proofs.Places.{rises_from, in_order, within}
use Rattle.code_reader.proofs.ReadingLaws.{read_alone}
use Rattle.class_grammar.specs.ReadFiles.{IsReadFile, IsReadCode}
use Rattle.link_laws.specs.Methods.{StartsAt, ReadsAt, IsCodeOf, IsWhole, MethodsHold}
use Rattle.link_laws.proofs.Above.{find_none}
use Rattle.link_laws.proofs.Classes.{built_in_length}
use Rattle.link_laws.proofs.Files.{IsFile, IsMethod, IsFilled}
use Rattle.link_laws.proofs.Fitting.{contained}
use Rattle.link_laws.proofs.Hierarchy.{contains_among, built_in_there}
use Rattle.link_laws.proofs.Keys.{key_of, all_keys, members_once, selector_told}
use Rattle.link_laws.proofs.Lists.{Among, IsOnce, among_at, at_among, at_map, below_length, each_among, any_among, from_map_at, of_each, one_place, same_there}
use Rattle.link_laws.proofs.Names.{are_files}
use Rattle.link_laws.proofs.Names as names
use Rattle.link_laws.proofs.Origins.{file_linked, same_methods}
use Rattle.link_laws.proofs.Sources.{selectors_of, IsSource, OfBuiltIn, OfFile, is_source}
use Rattle.link_laws.proofs.Templates.{file_listed, listed_sound}
use Rattle.link_laws.proofs.Uses.{can_run}
use Rattle.std.specs.Option.{unwrap_or}

-- a value is there
pub is_there : {A : Type 0} (o : Option A) (x : A) → o ≡ Some x → IsSome o
is_there None x e = absurd cc
is_there (Some y) x e = refl

-- ---- code

-- filled code has instructions
code_some : (code : List ℕ) (instrs : List Instr) → 1 ≤ length code → BeginsWith (length code) code instrs [] → 1 ≤ length instrs
code_some code [] h b = omega (arith, ap length b, h)
code_some code (i ∷ instrs) h b = omega arith

-- an instruction branches to where one starts
code_targets : (instrs : List Instr) → first_astray instrs ≡ None → (i : Instr) (place : ℤ) → Contains instrs i → Contains (targets_of i) place → StartsAt instrs place
unfolding first_astray is_astray starts_at
code_targets instrs h i place a b =
    let all = holds (list_all (starts_at instrs) (targets_of i)) (find_none (is_astray instrs) instrs i h (contained instrs i a)) in
    let r = any_among (λ (j : Instr). int_eq (pos j.pc) place) instrs (each_among (starts_at instrs) (targets_of i) place all (contained (targets_of i) place b)) in
    (r.0, contains_among instrs r.0 r.1, (Decides-int_eq (pos r.0.pc) place).0 r.2)
  where
    holds : (b : Bool) → not b ≡ false → b ≡ true
    holds true e = refl
    holds false e = absurd cc

-- each instruction is read at its place, and what stands behind it starts one or is the end
begun_read : (code before bytes : List ℕ) (instrs : List Instr) → code ≡ before ++ bytes → BeginsWith (length code) bytes instrs [] → (i : Instr) → Among instrs i →
    (next : ℕ) × (instruction_at code i.pc ≡ Some (record { instr = i; next = next })) × ((next ≡ length code) ⊎ ((j : Instr) × Among instrs j × (j.pc ≡ next)))
unfolding instruction_at reading_of
begun_read code before bytes [] e h i a = absurd a
begun_read code before bytes (x ∷ instrs) e h i (inr a) =
    let cut = (cut_instruction (length code - length bytes)).front bytes x h.0 h.1 in
    let r = begun_read code (before ++ cut.0) h.0 instrs (e ∙ ap (λ xs. before ++ xs) cut.1 ∙ sym (append_assoc before cut.0 h.0)) h.2 i a in
    (r.0, r.1, elim r.2 [ inl q ↦ inl q | inr q ↦ inr (q.0, inr q.1, q.2) ])
begun_read code before bytes (x ∷ instrs) e h i (inl a) =
    subst (λ (y : Instr). (next : ℕ) × (instruction_at code y.pc ≡ Some (record { instr = y; next = next })) × ((next ≡ length code) ⊎ ((j : Instr) × Among (x ∷ instrs) j × (j.pc ≡ next)))) a (
      length code - length h.0,
      ap (reading_of (length code)) (ap (λ n. (instruction_part n).reads (drop n code)) place ∙ ap (instruction_part (length before)).reads (ap (drop (length before)) e ∙ drop-append_seam before bytes) ∙ read),
      behind instrs h.2,
    )
  where
    place : x.pc ≡ length before
    place = omega (arith, starts_at_pc (length code - length bytes) bytes x h.0 h.1, ap length e, length-append before bytes)

    read : (instruction_part (length before)).reads bytes ≡ Ok (x, h.0)
    read = subst (λ n. (instruction_part n).reads bytes ≡ Ok (x, h.0)) (omega (arith, ap length e, length-append before bytes)) ((sound_instruction (length code - length bytes)).lawful.only bytes x h.0 h.1)

    behind : (more : List Instr) → BeginsWith (length code) h.0 more [] → (length code - length h.0 ≡ length code) ⊎ ((j : Instr) × Among (x ∷ more) j × (j.pc ≡ length code - length h.0))
    behind [] q = inl (omega (arith, ap length q))
    behind (j ∷ more) q = inr (j, inr (inl refl), starts_at_pc (length code - length h.0) h.0 j q.0 q.1)

-- so it is of code whose instructions are listed
code_reads : (c : Code) (instrs : List Instr) → BeginsWith (length c.code) c.code instrs [] → (i : Instr) → Contains instrs i → ReadsAt c instrs i
code_reads c instrs h i a =
    let r = begun_read c.code [] c.code instrs refl h i (contained instrs i a) in
    (r.0, r.1, elim r.2 [ inl q ↦ inl q | inr q ↦ inr (q.0, contains_among instrs q.0 q.1, ap (λ (n : ℕ). pos n) q.2) ])

-- code that was read
code_whole : (c : Code) (instrs : List Instr) → 1 ≤ length c.code → IsCode c.code c.table instrs → IsCodeOf c instrs
code_whole c instrs filled h =
    let rise = rises_from 0 (length c.code) c.code instrs [] (omega arith) (omega arith) h.spelled in
    record {
      code = h;
      some = code_some c.code instrs filled h.spelled;
      order = λ k below. in_order 0 (length c.code) instrs rise k below;
      within = λ k d below. within 0 (length c.code) instrs rise k d below;
      reads = code_reads c instrs h.spelled;
      targets = code_targets instrs h.targets;
    }

-- the instructions of code that was read are those that reading gives
pub instrs_are : (c : Code) (instrs : List Instr) → IsCode c.code c.table instrs → instrs ≡ instructions_of c.code
unfolding instructions_of instructions_in
instrs_are c instrs h = sym (ap instructions_in (read_alone c.code c.table instrs h))

-- code of a file that was read is that of the instructions that the system has
pub read_whole : (c : Code) → 1 ≤ length c.code → IsReadCode c → IsCodeOf c (instructions_of c.code)
read_whole c filled r = code_whole c (instructions_of c.code) filled (subst (IsCode c.code c.table) (instrs_are c r.0 r.1) r.1)

module _ (plan : Plan) (files : List ClassFile) (s : System) (from : IsLinked plan files s) where
  -- that the system is linked
  abbrev linked : IsLinked plan files s
  linked = from

  -- the method at a place comes from the source there
  pub source_at : (m : ℕ) (x : Method) → method_at s m ≡ Some x → (y : Source) × (slice_get (sources files) m ≡ Some y) × (x ≡ linked_method (selectors_of files) y)
  unfolding method_at outline
  source_at m x e =
      let r = from_map_at (linked_method (selectors_of files)) (sources files) m x (ap (λ xs. slice_get xs m) (sym (same_methods plan files s linked)) ∙ e) in
      (r.0, r.1, sym r.2)

  -- and a source gives the method at its place
  pub method_there : (m : ℕ) (y : Source) → slice_get (sources files) m ≡ Some y → method_at s m ≡ Some (linked_method (selectors_of files) y)
  unfolding method_at outline
  method_there m y e = ap (λ xs. slice_get xs m) (same_methods plan files s linked) ∙ at_map (linked_method (selectors_of files)) (sources files) m y e

  -- the selector of a method is that of its source
  pub selector_of_source : (y : Source) → Among (sources files) y → selector_at s (linked_method (selectors_of files) y).selector.0 ≡ Some y.declared.selector
  unfolding selector_at linked_method
  selector_of_source y h = ap (λ xs. slice_get xs (unwrap_or (position (same_selector y.declared.selector) (selectors_of files)) 0)) (names.same_selectors plan files s from) ∙ selector_told files y h

  -- the class of a source is there
  source_class : (y : Source) → IsSource files y → y.class < class_count s
  unfolding class_count class_at
  source_class y (OfBuiltIn k e m c) =
      below_length s.program.classes y.class _ (built_in_there plan files s linked y.class k (omega (arith, below_length built_in_table y.class k e, built_in_length)) e)
  source_class y (OfFile p f m c e a d w) = subst (λ n. n < class_count s) (sym c) (below_length s.program.classes (built_in_count + p) _ (file_linked plan files s linked p f e))

  -- the method of a source is whole
  source_whole : (m : ℕ) (y : Source) → method_at s m ≡ Some (linked_method (selectors_of files) y) → Among (sources files) y → IsWhole s (linked_method (selectors_of files) y)
  unfolding linked_method declared_of
  source_whole m y e h = record {
    class = source_class y (is_source files y h);
    selector = is_there (selector_at s (linked_method (selectors_of files) y).selector.0) y.declared.selector (selector_of_source y h);
    runs = λ a. can_run plan files s linked (are_files files from.has_files.read) m (linked_method (selectors_of files) y) e a;
    abstract = λ a. abstract (is_source files y h) a;
    built_in = λ a. built_in (is_source files y h) a;
    instructions = instructions (is_source files y h) y.code refl;
    none = λ a. ap (λ (o : Option Code). elim o as (λ _. List Instr) [ None ↦ [] | Some c ↦ instructions_of c.code ]) a;
  }
    where
      method : (p : ℕ) (f : ClassFile) (m : Member) → slice_get files p ≡ Some f → Among f.methods m → IsMethod m
      method p f m e a = of_each IsMethod f.methods m (of_each IsFile files f (are_files files from.has_files.read) (at_among files p f e)).methods a

      abstract : IsSource files y → is_abstract y.declared.flags ≡ true → y.code ≡ None
      abstract (OfBuiltIn k e m c) a = c
      abstract (OfFile p f m c e b d w) a = w ∙ (method p f m e b).no_code (ap (λ (d : Declared). is_abstract d.flags) (sym d) ∙ a)

      built_in : IsSource files y → y.class < built_in_count → y.code ≡ None
      built_in (OfBuiltIn k e m c) a = c
      built_in (OfFile p f m c e b d w) a = absurd (omega (arith, c, a))

      code : (o : Option Code) → IfSome o IsReadCode → IsFilled o → IfSome o (λ c. IsCodeOf c (instructions_of c.code))
      code None a b = tt
      code (Some c) a b = read_whole c b a

      instructions : IsSource files y → (o : Option Code) → y.code ≡ o → IfSome o (λ c. IsCodeOf c (elim o as (λ _. List Instr) [ None ↦ [] | Some d ↦ instructions_of d.code ]))
      instructions q None e = tt
      instructions (OfBuiltIn k e m c) (Some d) w = absurd (clash c w)
        where
          clash : y.code ≡ None → y.code ≡ Some d → ⊥
          clash u v = cc
      instructions (OfFile p f m c e b d w) (Some g) q =
          let read = of_each (λ (m : Member). IfSome m.code IsReadCode) f.methods m (of_each IsReadFile files f from.has_files.read (at_among files p f e)).codes b in
          let same = sym w ∙ q in
          code (Some g) (subst (λ o. IfSome o IsReadCode) same read) (subst IsFilled same (method p f m e b).filled)

  -- the keys of the methods stand once
  pub keys_stand : IsOnce (map key_of (sources files))
  keys_stand = all_keys files (λ f a.
      let p = among_at files f a in
      let l = file_listed plan files s linked p.0 f p.1 in
      members_once f.methods (listed_sound plan files s linked l.0 p.0 l.1 f l.2).methods)

  -- sources with one class and one selector have one place
  pub one_source : (m n : ℕ) (y z : Source) → slice_get (sources files) m ≡ Some y → slice_get (sources files) n ≡ Some z → y.class ≡ z.class → y.declared.selector ≡ z.declared.selector → m ≡ n
  one_source m n y z e f a b =
      one_place (map key_of (sources files)) keys_stand m n (key_of y) (at_map key_of (sources files) m y e) (at_map key_of (sources files) n z f ∙ ap Some (pair (sym a) (sym b)))
    where
      pair : z.class ≡ y.class → z.declared.selector ≡ y.declared.selector → key_of z ≡ key_of y
      pair u v = (λ t. (u t, v t))

  -- the methods are whole, and each class has one of a selector at most
  pub methods_hold : MethodsHold s
  unfolding linked_method
  methods_hold = record { whole = whole; once = once }
    where
      whole : (m : ℕ) (x : Method) → method_at s m ≡ Some x → IsWhole s x
      whole m x e =
          let y = source_at m x e in
          subst (IsWhole s) (sym y.2) (source_whole m y.0 (e ∙ ap Some y.2) (at_among (sources files) m y.0 y.1))

      same : (y z : Source) → Among (sources files) y → Among (sources files) z
          → (linked_method (selectors_of files) y).selector ≡ (linked_method (selectors_of files) z).selector → y.declared.selector ≡ z.declared.selector
      same y z a b q = same_there y.declared.selector z.declared.selector (sym (selector_of_source y a) ∙ ap (λ (i : MethodId). selector_at s i.0) q ∙ selector_of_source z b)

      once : (m n : ℕ) (x y : Method) → method_at s m ≡ Some x → method_at s n ≡ Some y → x.class ≡ y.class → x.selector ≡ y.selector → m ≡ n
      once m n x y e f a b =
          let p = source_at m x e in
          let q = source_at n y f in
          one_source m n p.0 q.0 p.1 q.1 (classes p.0 q.0 (ap (λ (z : Method). z.class) (sym p.2) ∙ a ∙ ap (λ (z : Method). z.class) q.2))
          (same p.0 q.0 (at_among (sources files) m p.0 p.1) (at_among (sources files) n q.0 q.1) (ap (λ (z : Method). z.selector) (sym p.2) ∙ b ∙ ap (λ (z : Method). z.selector) q.2))
        where
          classes : (y z : Source) → (linked_method (selectors_of files) y).class ≡ (linked_method (selectors_of files) z).class → y.class ≡ z.class
          classes y z e = ap (λ (i : ClassId). i.0) e
