-- The class file that lines without a fault say.
use Rattle.std.proofs.Common.{◌≡◌, ◌∙◌, refl, sym, ap, subst, ℕ, suc, ◌-◌, List, [], ◌∷◌, ◌++◌, Bool, true, Some, None, Ok, Option, Result, length, reverse, append_assoc, append-nil, arith}
use Rattle.std.specs.Prelude.{flat_map, sum_by}
use Rattle.std.specs.Int.{w16, w32}
use Rattle.std.specs.List.{list_any, list_all, AllByRecursion}
use Rattle.std.proofs.lemmas.List.{reverse-append}
use Rattle.class_grammar.specs.Flags.{is_interface_flag}
use Rattle.class_grammar.specs.ClassGrammar.{version_part, methods_part, class_file_part, IsClassFile}
use Rattle.class_grammar.specs.Constants.{cut_off}
use Rattle.jx_base.specs.declared.class_file.ClassFile.{ClassFile}
use Rattle.asm_constants.specs.declared.content.Content.{Content}
use Rattle.asm_constants.specs.Pools.{two_bytes, fits, places, pool_bytes}
use Rattle.asm_lines.specs.declared.line.AsmKind.{AsmKind}
use Rattle.asm_lines.specs.declared.line.Line.{Line}
use Rattle.asm_bodies.specs.Bodies.{first_far}
use Rattle.asm_bodies.specs.Lines.{count_of, is_implements, is_field, is_member}
use Rattle.asm_bodies.specs.Needs.{pool_of, line_contents}
use Rattle.asm_bytes.specs.Files.{version_bytes, constants_bytes, heading_bytes, interface_bytes, field_bytes, methods_bytes, file_with, file_bytes}
use Rattle.asm_checks.specs.Faults.{first_fault, last_said}
use Rattle.class_asm.specs.Assembly.{assembly, assembly_with, bytes_or_far}
use Rattle.class_asm.specs.declared.fault.AsmFault.{AsmFault}
use Rattle.asm_laws.specs.Laws.{is_taken, begins_interface, are_taken}
use Rattle.asm_laws.specs.Tables.{table_of, AreRangedContents, IsClosed}
use Rattle.asm_laws.proofs.Constants.{closed, in_pool, ranged, pool_spelled}
use Rattle.asm_laws.proofs.Codes.{IsFound}
use Rattle.asm_laws.proofs.Listed.{AreSaid, is_interface, heading_spelled, fields_spelled, methods_spelled}
use Rattle.asm_laws.proofs.Members.{both, none_skipped}
use Rattle.asm_laws.proofs.Numbers.{number_spelled}
use Rattle.asm_laws.proofs.Orders.{HasClass, one_class}
use Rattle.asm_laws.proofs.Ranges.{IsRangedLine, all_append, all_contents_ranged}
use Rattle.asm_laws.proofs.Soundness.{AreSound, no_fault, all_fit, few_interfaces, few_fields, few_members}

-- ---- what each line is

each_split : {X : Type 0} (P : X → Type 0) (whole : List X) → ((before after : List X) (x : X) → whole ≡ before ++ x ∷ after → P x)
    → (front xs : List X) → whole ≡ front ++ xs → AllByRecursion P xs
each_split P whole h front [] e = tt
each_split P whole h front (x ∷ xs) e = (h front xs x e, each_split P whole h (front ++ x ∷ []) xs (e ∙ sym (append_assoc front (x ∷ []) xs)))

pub all_found : (lines : List Line) → AllByRecursion (IsFound (pool_of (reverse lines))) lines
all_found lines = each_split (IsFound (pool_of (reverse lines))) lines (in_pool lines) [] lines refl

all_reversed : {X : Type 0} (P : X → Type 0) (xs : List X) → AllByRecursion P xs → AllByRecursion P (reverse xs)
all_reversed P [] h = tt
all_reversed P (x ∷ xs) h = subst (AllByRecursion P) (sym (reverse-append (x ∷ []) xs)) (all_append P (reverse xs) (x ∷ []) (all_reversed P xs h.1) (h.0, tt))

all_said : (pool : List Content) (interface : Bool) (lines : List Line) → AllByRecursion (IsFound pool) lines → list_all (is_taken interface) lines ≡ true
    → AllByRecursion IsRangedLine lines → AreSaid pool interface lines
all_said pool interface [] f t r = tt
all_said pool interface (l ∷ lines) f t r =
    let k = both (is_taken interface l) (list_all (is_taken interface) lines) t in
    (record { found = f.0; taken = k.0; ranged = r.0 }, all_said pool interface lines f.1 k.1 r.1)

-- ---- the bytes

grouped : (v c p h i j f g m n z : List ℕ) → v ++ (c ++ p) ++ h ++ i ++ j ++ f ++ g ++ m ++ n ++ z ≡ v ++ (c ++ (p ++ (h ++ (i ++ (j ++ (f ++ (g ++ (m ++ (n ++ z)))))))))
grouped v c p h i j f g m n z = simp append_assoc

pub regrouped : (pool : List Content) (lines : List Line) → file_with pool lines
    ≡ version_bytes ++ (two_bytes (suc (sum_by places pool)) ++ (pool_bytes pool ++ (flat_map (heading_bytes pool) lines
    ++ (two_bytes (count_of is_implements lines) ++ (flat_map (interface_bytes pool) lines
    ++ (two_bytes (count_of is_field lines) ++ (flat_map (field_bytes pool) lines
    ++ (two_bytes (count_of is_member lines) ++ (methods_bytes pool lines ++ two_bytes 0)))))))))
unfolding file_with constants_bytes
regrouped pool lines =
    grouped version_bytes (two_bytes (suc (sum_by places pool))) (pool_bytes pool) (flat_map (heading_bytes pool) lines) (two_bytes (count_of is_implements lines))
    (flat_map (interface_bytes pool) lines) (two_bytes (count_of is_field lines)) (flat_map (field_bytes pool) lines) (two_bytes (count_of is_member lines)) (methods_bytes pool lines) (two_bytes 0)

pub version_spelled : (size : ℕ) (rest : List ℕ) → (version_part size).spells (version_bytes ++ rest) (record { minor = 0; major = 52 }) rest
unfolding version_part version_bytes
version_spelled size rest =
    let major : List ℕ = two_bytes 52 ++ rest in
    let minor : List ℕ = two_bytes 0 ++ major in (
      0xcafebabe,
      minor,
      number_spelled (cut_off size) w32 0xcafebabe minor (omega arith),
      (
        tt,
        minor,
        (refl, refl),
        (
          0,
          major,
          number_spelled (cut_off size) w16 0 major (omega arith),
          (
            52,
            rest,
            number_spelled (cut_off size) w16 52 rest (omega arith),
            (tt, rest, (refl, refl), (refl, refl)),
          ),
        ),
      ),
    )

-- the whole file
file_spelled : (size : ℕ) (pool : List Content) (lines : List Line) (c : HasClass lines) → fits pool ≡ true → IsClosed pool pool → AreRangedContents pool
    → AllByRecursion (IsFound pool) lines → AllByRecursion IsRangedLine lines → AreSaid pool (list_any begins_interface lines) lines → AreSound [] lines
    → (file : ClassFile) × (class_file_part size).spells (file_with pool lines) file []
unfolding class_file_part
file_spelled size pool lines c fit complete in_range found ranged_lines said sound =
    let interface : Bool = list_any begins_interface lines in
    let none : List ℕ = two_bytes 0 in
    let methods : List ℕ = two_bytes (count_of is_member lines) ++ (methods_bytes pool lines ++ none) in
    let fields : List ℕ = two_bytes (count_of is_field lines) ++ (flat_map (field_bytes pool) lines ++ methods) in
    let heading : List ℕ = flat_map (heading_bytes pool) lines ++ (two_bytes (count_of is_implements lines) ++ (flat_map (interface_bytes pool) lines ++ fields)) in
    let constants : List ℕ = two_bytes (suc (sum_by places pool)) ++ (pool_bytes pool ++ heading) in
    let h = heading_spelled size pool fit lines c fields found ranged_lines (few_interfaces lines sound) in
    let f = fields_spelled size pool fit interface lines methods said (few_fields lines sound) in
    let m = methods_spelled size pool fit interface lines none said sound (few_members lines sound) in
    let same : interface ≡ is_interface_flag h.0.flags = is_interface lines c ∙ sym (ap is_interface_flag h.1) in
    let file : ClassFile = record {
      minor = 0;
      major = 52;
      constants = table_of pool;
      flags = h.0.flags;
      this_class = h.0.this_class;
      super_class = h.0.super_class;
      interfaces = h.0.interfaces;
      fields = f.0;
      methods = m.0;
    } in (
      file,
      subst (λ (text : List ℕ). (class_file_part size).spells text file []) (sym (regrouped pool lines)) (
        record { minor = 0; major = 52 },
        constants,
        version_spelled size constants,
        (
          table_of pool,
          heading,
          pool_spelled size pool heading fit complete in_range,
          (
            h.0,
            fields,
            h.2,
            (
              f.0,
              methods,
              f.1,
              (
                m.0,
                none,
                subst (λ (b : Bool). (methods_part size (table_of pool) b).spells methods m.0 none) same m.1,
                (
                  [],
                  [],
                  none_skipped size (cut_off size) (table_of pool) [],
                  (
                    size - length {A = ℕ} [],
                    [],
                    (refl, refl),
                    (tt, [], (refl, refl), (refl, refl)),
                  ),
                ),
              ),
            ),
          ),
        ),
      ),
    )

-- ---- what is assembled

abbrev Said : Type 0
Said = Result (List ℕ) AsmFault

near : (o : Option ℕ) (made bytes : List ℕ) → bytes_or_far o made ≡ Ok bytes → made ≡ bytes
unfolding bytes_or_far
near None made bytes e = cc
near (Some n) made bytes e = absurd (cc)

assembled : (lines : List Line) (o : Option (ℕ × AsmKind)) (bytes : List ℕ) → assembly_with lines o ≡ Ok bytes → (o ≡ None) × (file_bytes lines ≡ bytes)
unfolding assembly_with
assembled lines None bytes e = (refl, near (first_far lines) (file_bytes lines) bytes e)
assembled lines (Some found) bytes e = absurd (cc)

pub none_said : last_said [] ≡ None
unfolding last_said
none_said = refl

pub no_constants : fits (pool_of []) ≡ true
unfolding fits pool_of
no_constants = refl

-- what is so of lines that are assembled
pub record AreAssembled (lines : List Line) (bytes : List ℕ) : Type 0 where
  pub sound : AreSound [] lines
  pub fit : fits (pool_of (reverse lines)) ≡ true
  pub ranged_contents : AreRangedContents (pool_of (reverse lines))
  pub made : file_with (pool_of (reverse lines)) lines ≡ bytes

pub are_assembled : (lines : List Line) (bytes : List ℕ) → AllByRecursion IsRangedLine lines → assembly lines ≡ Ok bytes → AreAssembled lines bytes
unfolding assembly file_bytes
are_assembled lines bytes in_range e =
    let k = assembled lines (first_fault [] lines) bytes e in
    let sound = no_fault [] lines k.0 in
    record {
      sound = sound;
      fit = ap (λ (ls : List Line). fits (pool_of ls)) (sym (append-nil (reverse lines))) ∙ all_fit [] lines no_constants sound;
      ranged_contents = ranged (reverse lines) (all_reversed (λ l. AreRangedContents (line_contents l)) lines (all_contents_ranged lines in_range));
      made = k.1;
    }

-- lines in range that are assembled, where a class file may have what each says
pub class_file : (lines : List Line) (bytes : List ℕ) → AllByRecursion IsRangedLine lines → assembly lines ≡ Ok bytes → are_taken lines ≡ true
    → (file : ClassFile) × IsClassFile bytes file
unfolding are_taken
class_file lines bytes in_range e taken =
    let a = are_assembled lines bytes in_range e in
    let pool : List Content = pool_of (reverse lines) in
    let said = all_said pool (list_any begins_interface lines) lines (all_found lines) taken in_range in
    let f = file_spelled (length bytes) pool lines (one_class [] lines none_said a.sound) a.fit (closed (reverse lines)) a.ranged_contents (all_found lines) in_range said a.sound in
    (f.0, subst (λ (text : List ℕ). (class_file_part (length bytes)).spells text f.0 []) a.made f.1)
