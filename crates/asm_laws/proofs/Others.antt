-- What is assembled is no class file where a class file may not have what some line says.
use Rattle.std.proofs.Common.{◌≡◌, ◌∙◌, refl, sym, ap, subst, ℕ, suc, List, [], ◌∷◌, ◌++◌, ◌≤◌, Bool, true, false, Ok, length, reverse, arith}
use Rattle.std.specs.Prelude.{flat_map, sum_by}
use Rattle.std.specs.Int.{w16}
use Rattle.std.specs.List.{list_any, list_all, AllByRecursion}
use Rattle.std.proofs.lemmas.Bool.{and_from}
use Rattle.class_grammar.specs.Flags.{is_interface_flag}
use Rattle.class_grammar.specs.Parts.{Part, ◌>>=◌, repeated, number}
use Rattle.class_grammar.specs.ClassGrammar.{Version, Heading, version_part, pool_part, heading_part, fields_part, methods_part, class_file_part, IsClassFile}
use Rattle.class_grammar.specs.Constants.{cut_off}
use Rattle.class_grammar.specs.Members.{field_part, method_part}
use Rattle.jx_base.specs.declared.class_file.ClassFile.{ClassFile}
use Rattle.jx_base.specs.declared.class_file.Constant.{Constant}
use Rattle.jx_base.specs.declared.class_file.Member.{Member}
use Rattle.jx_base.specs.declared.fault.ClassFault.{ClassFault}
use Rattle.class_grammar.proofs.PartLaws.{lawful-number}
use Rattle.asm_constants.specs.declared.content.Content.{Content}
use Rattle.asm_constants.specs.Pools.{two_bytes, fits, places, pool_bytes}
use Rattle.asm_lines.specs.declared.line.Line.{Line}
use Rattle.asm_lines.specs.declared.line.Line.TheVariants as line
use Rattle.asm_bodies.specs.Lines.{count_of, is_implements, is_field, is_abstract, is_method, is_member}
use Rattle.asm_bodies.specs.Needs.{pool_of}
use Rattle.asm_bytes.specs.Files.{version_bytes, heading_bytes, interface_bytes, field_bytes, methods_bytes, file_with}
use Rattle.class_asm.specs.Assembly.{assembly}
use Rattle.asm_laws.specs.Laws.{is_taken, begins_interface, are_taken}
use Rattle.asm_laws.specs.Tables.{table_of, AreRangedContents, IsClosed}
use Rattle.asm_laws.proofs.Constants.{closed, pool_spelled}
use Rattle.asm_laws.proofs.Codes.{IsFound}
use Rattle.asm_laws.proofs.Lawful.{lawful_version, lawful_pool, lawful_heading}
use Rattle.asm_laws.proofs.Listed.{is_interface, heading_spelled}
use Rattle.asm_laws.proofs.Numbers.{number_spelled}
use Rattle.asm_laws.proofs.Orders.{HasClass, one_class}
use Rattle.asm_laws.proofs.Ranges.{IsRangedLine}
use Rattle.asm_laws.proofs.Soundness.{AreSound, few_interfaces, few_fields, few_members}
use Rattle.asm_laws.proofs.Taken.{behind, fields_taken, methods_taken}
use Rattle.asm_laws.proofs.Whole.{all_found, regrouped, version_spelled, none_said, are_assembled}

-- a line is taken where it says no field or method, and else where that is taken
line_taken : (interface : Bool) (l : Line) → (is_field l ≡ true → is_taken interface l ≡ true) → (is_member l ≡ true → is_taken interface l ≡ true) → is_taken interface l ≡ true
unfolding is_field is_member is_abstract is_method is_taken
line_taken interface (line.Field m) f g = f refl
line_taken interface (line.Abstract m) f g = g refl
line_taken interface (line.Method m max_stack max_locals) f g = g refl
line_taken interface _ f g = refl

lines_taken : (interface : Bool) (lines : List Line) → AllByRecursion (λ l. is_field l ≡ true → is_taken interface l ≡ true) lines
    → AllByRecursion (λ l. is_member l ≡ true → is_taken interface l ≡ true) lines → list_all (is_taken interface) lines ≡ true
lines_taken interface [] f g = refl
lines_taken interface (l ∷ lines) f g = and_from _ _ (line_taken interface l f.0 g.0) (lines_taken interface lines f.1 g.1)

-- the fields and the methods of a class file whose front is known
module _ (size : ℕ) (text constants heading fields : List ℕ) (v : Version) (k : List Constant) (h : Heading) (file : ClassFile) where
  behind_heading : (version_part size).spells text v constants → (pool_part size).spells constants k heading → (heading_part size k).spells heading h fields
      → (class_file_part size).spells text file []
      → (xs ms : List Member) × (after end : List ℕ) × (fields_part size k).spells fields xs after × (methods_part size k (is_interface_flag h.flags)).spells after ms end
  unfolding class_file_part
  behind_heading version pool head whole =
      let a = behind (version_part size) (lawful_version size) text v constants version whole in
      let b = behind (pool_part size) (lawful_pool size) constants k heading pool a in
      let c = behind (heading_part size k) (lawful_heading size k) heading h fields head b in
      (c.0, c.3.0, c.1, c.3.1, c.2, c.3.2)

-- what is counted, behind its number
counted : {A : Type 0} (size n : ℕ) (p : Part (List A) ClassFault) (text : List ℕ) (xs : List A) (after : List ℕ) → n ≤ 65535
    → (number (cut_off size) w16 >>= λ n. repeated n p).spells (two_bytes n ++ text) xs after → (repeated n p).spells text xs after
counted size n p text xs after few =
    behind {P = λ n text. (repeated n p).spells text xs after} (number (cut_off size) w16) (lawful-number _ _) (two_bytes n ++ text) n text (number_spelled (cut_off size) w16 n text (omega arith))

moved : (size : ℕ) (k : List Constant) (a b : Bool) (text other : List ℕ) (ms : List Member) (end : List ℕ) → a ≡ b → text ≡ other
    → (methods_part size k a).spells text ms end → (methods_part size k b).spells other ms end
moved size k a b text other ms end flag same w =
    subst (λ (b : Bool). (methods_part size k b).spells other ms end) flag (subst (λ (text : List ℕ). (methods_part size k a).spells text ms end) same w)

-- what the lines of a class file say is taken
file_taken : (size : ℕ) (pool : List Content) (lines : List Line) (c : HasClass lines) → fits pool ≡ true → IsClosed pool pool → AreRangedContents pool
    → AllByRecursion (IsFound pool) lines → AllByRecursion IsRangedLine lines → AreSound [] lines
    → (file : ClassFile) → (class_file_part size).spells (file_with pool lines) file [] → list_all (is_taken (list_any begins_interface lines)) lines ≡ true
unfolding fields_part methods_part
file_taken size pool lines c fit complete ranged_contents found in_range sound file w =
    let interface : Bool = list_any begins_interface lines in
    let listed_methods : List ℕ = methods_bytes pool lines ++ two_bytes 0 in
    let methods : List ℕ = two_bytes (count_of is_member lines) ++ listed_methods in
    let listed_fields : List ℕ = flat_map (field_bytes pool) lines ++ methods in
    let fields : List ℕ = two_bytes (count_of is_field lines) ++ listed_fields in
    let heading : List ℕ = flat_map (heading_bytes pool) lines ++ (two_bytes (count_of is_implements lines) ++ (flat_map (interface_bytes pool) lines ++ fields)) in
    let constants : List ℕ = two_bytes (suc (sum_by places pool)) ++ (pool_bytes pool ++ heading) in
    let h = heading_spelled size pool fit lines c fields found in_range (few_interfaces lines sound) in
    let same : is_interface_flag h.0.flags ≡ interface = ap is_interface_flag h.1 ∙ sym (is_interface lines c) in
    let whole = subst (λ (text : List ℕ). (class_file_part size).spells text file []) (regrouped pool lines) w in
    let r = behind_heading size (version_bytes ++ constants) constants heading fields (record { minor = 0; major = 52 }) (table_of pool) h.0 file
    (version_spelled size constants) (pool_spelled size pool heading fit complete ranged_contents) h.2 whole in
    let f = fields_taken size pool fit interface lines methods r.0 r.2 found
    (counted size (count_of is_field lines) (field_part size (table_of pool)) listed_fields r.0 r.2 (few_fields lines sound) r.4) in
    let there = moved size (table_of pool) (is_interface_flag h.0.flags) interface r.2 methods r.1 r.3 same f.1 r.5 in
    let m = methods_taken size pool fit interface [] lines (two_bytes 0) r.1 r.3 found in_range sound
    (counted size (count_of is_member lines) (method_part size (table_of pool) interface) listed_methods r.1 r.3 (few_members lines sound) there) in
    lines_taken interface lines f.0 m

-- lines in range that are assembled, where a class file may not have what some line says
pub no_other : (lines : List Line) (bytes : List ℕ) → AllByRecursion IsRangedLine lines → assembly lines ≡ Ok bytes → are_taken lines ≡ false
    → (file : ClassFile) → IsClassFile bytes file → ⊥
unfolding are_taken
no_other lines bytes in_range e not_taken file is =
    let a = are_assembled lines bytes in_range e in
    let taken = file_taken (length bytes) (pool_of (reverse lines)) lines (one_class [] lines none_said a.sound) a.fit (closed (reverse lines)) a.ranged_contents
    (all_found lines) in_range a.sound file (subst (λ (text : List ℕ). (class_file_part (length bytes)).spells text file []) (sym a.made) is) in
    absurd (cc)
