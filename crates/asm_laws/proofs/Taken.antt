-- A class file may have each field and each method that is read from what lines say.
use Rattle.std.proofs.Common.{◌≡◌, ◌∙◌, refl, sym, ap, subst, ℕ, suc, ◌-◌, ◌<◌, ◌^◌, List, [], ◌∷◌, ◌++◌, Bool, true, false, None, Option, Result, Ok, Err, length, append_assoc, arith}
use Rattle.std.specs.Prelude.{not, ◌&&◌, ◌||◌, is_none, is_some, flat_map}
use Rattle.std.specs.Int.{w16, w32, from_be_bytes}
use Rattle.std.specs.List.{list_all, AllByRecursion}
use Rattle.class_grammar.specs.Flags.{is_abstract}
use Rattle.class_grammar.specs.Parts.{Part, ◌>>=◌, here, repeated, number}
use Rattle.class_grammar.specs.Constants.{cut_off}
use Rattle.class_grammar.specs.Descriptors.{field_type_of, method_type_of}
use Rattle.class_grammar.specs.Members.{name_part, is_code_name, method_attributes, field_part, method_part}
use Rattle.jx_base.specs.declared.class_file.Code.{Code}
use Rattle.jx_base.specs.declared.class_file.Member.{Member}
use Rattle.jx_base.specs.declared.fault.ClassFault.{ClassFault}
use Rattle.class_grammar.proofs.PartLaws.{IsLawful, lawful-here, lawful-number}
use Rattle.class_texts.proofs.DescriptorLaws.{field_law, method_law}
use Rattle.asm_constants.specs.declared.content.Content.{Content}
use Rattle.asm_constants.specs.declared.content.Content.TheVariants as content
use Rattle.asm_constants.specs.Pools.{two_bytes, index_of, has_content, fits}
use Rattle.asm_lines.specs.declared.line.Line.{Line}
use Rattle.asm_lines.specs.declared.line.Line.TheVariants as line
use Rattle.asm_lines.specs.declared.line.Member.{Member as AsmMember}
use Rattle.asm_bodies.specs.Bodies.{body_of}
use Rattle.asm_bodies.specs.Lines.{count_of, is_field, is_abstract as is_abstract_line, is_method, is_member}
use Rattle.asm_bodies.specs.Needs.{line_contents, member_contents, method_contents, code_name}
use Rattle.asm_bytes.specs.Files.{four_bytes, member_bytes, code_bytes, code_attribute, field_bytes, method_bytes, methods_bytes}
use Rattle.asm_laws.specs.Laws.{is_taken, is_taken_type, is_taken_method}
use Rattle.asm_laws.specs.Tables.{table_of}
use Rattle.asm_laws.proofs.Lawful.{lawful_name, lawful_field, lawful_method}
use Rattle.asm_laws.proofs.Numbers.{number_spelled}
use Rattle.asm_laws.proofs.Members.{both, name_spelled, number_any, field_spelled}
use Rattle.asm_laws.proofs.Methods.{abstract_spelled, code_method_spelled}
use Rattle.asm_laws.proofs.Codes.{IsFound, attribute_length}
use Rattle.asm_laws.proofs.Ended.{sound_body}
use Rattle.asm_laws.proofs.Ranges.{IsRangedLine}
use Rattle.asm_laws.proofs.Soundness.{AreSound}

-- what is so of what was read, and of what stands behind it
Holds : {A F : Type 0} → (A → List ℕ → Type 0) → Result (A × List ℕ) F → Type 0
Holds P (Ok x) = P x.0 x.1
Holds P (Err f) = ⊥

-- what is so behind a lawful part is so behind the one thing that it spells
pub behind : {A F : Type 0} {P : A → List ℕ → Type 0} (p : Part A F) → IsLawful p → (text : List ℕ) (x : A) (middle : List ℕ) → p.spells text x middle
    → ((y : A) × (rest : List ℕ) × p.spells text y rest × P y rest) → P x middle
unfolding Holds
behind {A} {F} {P} p h text x middle s w = subst (Holds {F = F} P) (sym (h.only text w.0 w.1 w.2) ∙ h.only text x middle s) w.3

with_none : (b : Bool) → (b || false) ≡ true → b ≡ true
with_none true e = refl
with_none false e = absurd (cc)

module _ (size : ℕ) (pool : List Content) (small : fits pool ≡ true) where
  field_taken : (m : AsmMember) (rest : List ℕ) (x : List Member) (after : List ℕ) → list_all (has_content pool) (member_contents m) ≡ true
      → (field_part size (table_of pool)).spells ((member_bytes pool m ++ two_bytes 0) ++ rest) x after → is_taken_type (field_type_of m.descriptor) ≡ true
  unfolding field_part member_contents member_bytes is_taken_type
  field_taken m rest x after found w =
      let n = both (has_content pool (content.Utf8 m.name)) _ found in
      let d = both (has_content pool (content.Utf8 m.descriptor)) _ n.1 in
      let none : List ℕ = two_bytes 0 ++ rest in
      let described : List ℕ = two_bytes (index_of pool (content.Utf8 m.descriptor)) ++ none in
      let named : List ℕ = two_bytes (index_of pool (content.Utf8 m.name)) ++ described in
      let text : List ℕ = two_bytes m.flags ++ named in
      let a = behind {F = ClassFault} (here size) (lawful-here size) text (size - length text) text (refl, refl) w in
      let b = behind (number (cut_off size) w16) (lawful-number _ _) text (from_be_bytes w16 (two_bytes m.flags)) named (number_any (cut_off size) m.flags named) a in
      let c = behind (name_part size (cut_off size) (table_of pool)) (lawful_name _ _ _) named m.name described (name_spelled size pool small (cut_off size) m.name described n.0) b in
      let e = behind {F = ClassFault} (here size) (lawful-here size) described (size - length described) described (refl, refl) c in
      let f = behind (name_part size (cut_off size) (table_of pool)) (lawful_name _ _ _) described m.descriptor none (name_spelled size pool small (cut_off size) m.descriptor none d.0) e in
      ap is_taken_type ((field_law m.descriptor).meant_only f.0 f.2.0) ∙ f.3.2.0

  -- each field is taken, and what is read behind them all stands behind their bytes
  pub fields_taken : (interface : Bool) (lines : List Line) (rest : List ℕ) (xs : List Member) (after : List ℕ) → AllByRecursion (IsFound pool) lines
      → (repeated (count_of is_field lines) (field_part size (table_of pool))).spells (flat_map (field_bytes pool) lines ++ rest) xs after
      → AllByRecursion (λ l. is_field l ≡ true → is_taken interface l ≡ true) lines × (after ≡ rest)
  unfolding repeated count_of is_field field_bytes line_contents is_taken
  fields_taken interface [] rest xs after found w = (tt, w.1)
  fields_taken interface (line.Field m ∷ lines) rest xs after found w =
      let p : Part (List Member) ClassFault = field_part size (table_of pool) in
      let next : List ℕ = flat_map (field_bytes pool) lines ++ rest in
      let n : ℕ = count_of is_field lines in
      let text : List ℕ = (member_bytes pool m ++ two_bytes 0) ++ next in
      let whole = subst (λ (text : List ℕ). (repeated (suc n) p).spells text xs after) (append_assoc (member_bytes pool m ++ two_bytes 0) (flat_map (field_bytes pool) lines) rest) w in
      let t = field_taken m next whole.0 whole.2 found.0 whole.3 in
      let x = field_spelled size pool small m next found.0 t in
      let more = behind {P = λ y middle. (repeated n p).spells middle whole.1 after} p (lawful_field size (table_of pool)) text x.0 next x.1 (whole.0, whole.2, whole.3, whole.4) in
      let r = fields_taken interface lines rest whole.1 after found.1 more in
      (((λ is. t), r.0), r.1)
  fields_taken interface (_ ∷ lines) rest xs after found w =
      let r = fields_taken interface lines rest xs after found.1 w in (((λ is. absurd (cc)), r.0), r.1)

module _ (size : ℕ) (pool : List Content) (small : fits pool ≡ true) (interface : Bool) where
  abbrev method : Part (List Member) ClassFault
  method = method_part size (table_of pool) interface

  abbrev attributes_of : AsmMember → Part (Option Code) ClassFault
  attributes_of m = number (cut_off size) w16 >>= λ n. method_attributes size (table_of pool) (not (is_abstract m.flags)) n None

  -- what is so of a method that was read
  record IsRead (m : AsmMember) (text : List ℕ) : Type 0 where
    taken : is_taken_method interface m (method_type_of m.descriptor) ≡ true
    code : Option Code
    end : List ℕ
    attributes : (attributes_of m).spells text code end
    whole : (is_abstract m.flags || is_some code) ≡ true

  method_read : (m : AsmMember) (attributes rest : List ℕ) (x : List Member) (after : List ℕ) → m.flags < 2 ^ 16
      → has_content pool (content.Utf8 m.name) ≡ true → has_content pool (content.Utf8 m.descriptor) ≡ true
      → method.spells ((member_bytes pool m ++ attributes) ++ rest) x after → IsRead m (attributes ++ rest)
  unfolding method_part member_bytes is_taken_method
  method_read m attributes rest x after below n d w =
      let next : List ℕ = attributes ++ rest in
      let described : List ℕ = two_bytes (index_of pool (content.Utf8 m.descriptor)) ++ next in
      let named : List ℕ = two_bytes (index_of pool (content.Utf8 m.name)) ++ described in
      let text : List ℕ = two_bytes m.flags ++ named in
      let a = behind {F = ClassFault} (here size) (lawful-here size) text (size - length text) text (refl, refl) w in
      let b = behind (number (cut_off size) w16) (lawful-number _ _) text m.flags named (number_spelled (cut_off size) w16 m.flags named below) a in
      let c = behind (name_part size (cut_off size) (table_of pool)) (lawful_name _ _ _) named m.name described (name_spelled size pool small (cut_off size) m.name described n) b in
      let e = behind {F = ClassFault} (here size) (lawful-here size) described (size - length described) described (refl, refl) c in
      let f = behind (name_part size (cut_off size) (table_of pool)) (lawful_name _ _ _) described m.descriptor next (name_spelled size pool small (cut_off size) m.descriptor next d) e in
      let g = f.3.3 in
      record {
        taken = ap (is_taken_method interface m) ((method_law m.descriptor).meant_only f.0 f.2.0) ∙ f.3.2.0;
        code = g.3.0;
        end = g.3.1;
        attributes = subst (λ (t : List ℕ). (attributes_of m).spells t g.3.0 g.3.1) (f.3.2.1 ∙ f.2.1) (g.0, g.1, g.2, g.3.2);
        whole = g.3.3.2.0;
      }

  abstract_taken : (m : AsmMember) (rest : List ℕ) (x : List Member) (after : List ℕ) → m.flags < 2 ^ 16 → list_all (has_content pool) (member_contents m) ≡ true
      → method.spells ((member_bytes pool m ++ two_bytes 0) ++ rest) x after
      → (is_abstract m.flags && is_taken_method interface m (method_type_of m.descriptor)) ≡ true
  unfolding member_contents method_attributes
  abstract_taken m rest x after below found w =
      let n = both (has_content pool (content.Utf8 m.name)) _ found in
      let d = both (has_content pool (content.Utf8 m.descriptor)) _ n.1 in
      let r = method_read m (two_bytes 0) rest x after below n.0 d.0 w in
      let a = behind (number (cut_off size) w16) (lawful-number _ _) (two_bytes 0 ++ rest) 0 rest (number_spelled (cut_off size) w16 0 rest (omega arith)) r.attributes in
      let none : r.code ≡ None = a.0 in
      let flag : is_abstract m.flags ≡ true = with_none (is_abstract m.flags) (sym (ap (λ (o : Option Code). is_abstract m.flags || is_some o) none) ∙ r.whole) in
      rw flag r.taken

  code_method_taken : (m : AsmMember) (max_stack max_locals : ℕ) (body : List Line) (rest : List ℕ) (x : List Member) (after : List ℕ) → m.flags < 2 ^ 16
      → list_all (has_content pool) (method_contents m) ≡ true → length (code_attribute pool max_stack max_locals body) < 2 ^ 32
      → method.spells ((member_bytes pool m ++ code_bytes pool (code_attribute pool max_stack max_locals body)) ++ rest) x after
      → (not (is_abstract m.flags) && is_taken_method interface m (method_type_of m.descriptor)) ≡ true
  unfolding method_contents method_attributes code_bytes is_code_name
  code_method_taken m max_stack max_locals body rest x after below found short w =
      let attribute : List ℕ = code_attribute pool max_stack max_locals body in
      let n = both (has_content pool (content.Utf8 m.name)) _ found in
      let d = both (has_content pool (content.Utf8 m.descriptor)) _ n.1 in
      let c = both (has_content pool (content.Utf8 code_name)) _ d.1 in
      let r = method_read m (code_bytes pool attribute) rest x after below n.0 d.0 w in
      let text : List ℕ = attribute ++ rest in
      let sized : List ℕ = four_bytes (length attribute) ++ text in
      let front : List ℕ = two_bytes (index_of pool (content.Utf8 code_name)) ++ sized in
      let a = behind (number (cut_off size) w16) (lawful-number _ _) (two_bytes 1 ++ front) 1 front (number_spelled (cut_off size) w16 1 front (omega arith)) r.attributes in
      let b = behind {F = ClassFault} (here size) (lawful-here size) front (size - length front) front (refl, refl) a in
      let e = behind (name_part size (cut_off size) (table_of pool)) (lawful_name _ _ _) front code_name sized (name_spelled size pool small (cut_off size) code_name sized c.0) b in
      let f = behind (number (cut_off size) w32) (lawful-number _ _) sized (length attribute) text (number_spelled (cut_off size) w32 (length attribute) text short) e in
      let flag : not (is_abstract m.flags) ≡ true = (both (not (is_abstract m.flags)) (is_none {T = Code} None) f.3.2.0).0 in
      rw flag r.taken

  -- each method is taken
  pub methods_taken : (past lines : List Line) (rest : List ℕ) (xs : List Member) (after : List ℕ) → AllByRecursion (IsFound pool) lines → AllByRecursion IsRangedLine lines → AreSound past lines
      → (repeated (count_of is_member lines) method).spells (methods_bytes pool lines ++ rest) xs after
      → AllByRecursion (λ l. is_member l ≡ true → is_taken interface l ≡ true) lines
  unfolding repeated count_of is_member is_abstract_line is_method methods_bytes method_bytes line_contents is_taken
  methods_taken past [] rest xs after found in_range sound w = tt
  methods_taken past (line.Abstract m ∷ lines) rest xs after found in_range sound w =
      let next : List ℕ = methods_bytes pool lines ++ rest in
      let n : ℕ = count_of is_member lines in
      let bytes : List ℕ = member_bytes pool m ++ two_bytes 0 in
      let all = subst (λ (text : List ℕ). (repeated (suc n) method).spells text xs after) (append_assoc bytes (methods_bytes pool lines) rest) w in
      let t = abstract_taken m next all.0 all.2 in_range.0.flags found.0 all.3 in
      let x = abstract_spelled size pool small interface m next in_range.0.flags found.0 t in
      let more = behind {P = λ y middle. (repeated n method).spells middle all.1 after} method (lawful_method size (table_of pool) interface) (bytes ++ next) x.0 next x.1 (all.0, all.2, all.3, all.4) in
      ((λ is. t), methods_taken (line.Abstract m ∷ past) lines rest all.1 after found.1 in_range.1 sound.1 more)
  methods_taken past (line.Method m max_stack max_locals ∷ lines) rest xs after found in_range sound w =
      let l : Line = line.Method m max_stack max_locals in
      let next : List ℕ = methods_bytes pool lines ++ rest in
      let n : ℕ = count_of is_member lines in
      let body : List Line = body_of lines in
      let bytes : List ℕ = member_bytes pool m ++ code_bytes pool (code_attribute pool max_stack max_locals body) in
      let all = subst (λ (text : List ℕ). (repeated (suc n) method).spells text xs after) (append_assoc bytes (methods_bytes pool lines) rest) w in
      let sound_here = sound_body pool past m max_stack max_locals lines sound.1 found.1 in
      let k = attribute_length pool max_stack max_locals body in
      let t = code_method_taken m max_stack max_locals body next all.0 all.2 in_range.0.flags found.0 (omega (arith, k, sound_here.few, sound_here.short)) all.3 in
      let x = code_method_spelled size pool small interface m max_stack max_locals body next in_range.0.flags found.0 t sound_here in
      let more = behind {P = λ y middle. (repeated n method).spells middle all.1 after} method (lawful_method size (table_of pool) interface) (bytes ++ next) x.0 next x.1 (all.0, all.2, all.3, all.4) in
      ((λ is. t), methods_taken (l ∷ past) lines rest all.1 after found.1 in_range.1 sound.1 more)
  methods_taken past (l ∷ lines) rest xs after found in_range sound w =
      ((λ is. absurd (cc)), methods_taken (l ∷ past) lines rest xs after found.1 in_range.1 sound.1 w)
