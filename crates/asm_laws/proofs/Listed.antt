-- The heading, the fields and the methods that lines say are spelled by their bytes.
use Rattle.std.proofs.Common.{◌≡◌, ◌∙◌, refl, sym, ap, subst, ℕ, suc, ◌≤◌, List, [], ◌∷◌, ◌++◌, Bool, true, false, length, append_assoc, append-nil, arith}
use Rattle.std.specs.Prelude.{◌||◌, flat_map, filter}
use Rattle.std.specs.Int.{w16}
use Rattle.std.specs.List.{list_any, AllByRecursion}
use Rattle.std.proofs.lemmas.List.Concat.{flat_map-append}
use Rattle.std.proofs.lemmas.List.Folds.{list_any-append}
use Rattle.class_grammar.specs.Flags.{is_interface_flag}
use Rattle.class_grammar.specs.Parts.{Part, repeated}
use Rattle.class_grammar.specs.ClassGrammar.{Heading, interface_part, heading_part, fields_part, methods_part}
use Rattle.class_grammar.specs.Constants.{cut_off}
use Rattle.class_grammar.specs.Members.{field_part, method_part}
use Rattle.jx_base.specs.declared.class_file.Member.{Member}
use Rattle.jx_base.specs.declared.fault.ClassFault.{ClassFault}
use Rattle.asm_constants.specs.declared.content.Content.{Content}
use Rattle.asm_constants.specs.declared.content.Content.TheVariants as content
use Rattle.asm_constants.specs.Pools.{two_bytes, index_of, has_content, fits}
use Rattle.asm_lines.specs.declared.line.Line.{Line}
use Rattle.asm_lines.specs.declared.line.Line.TheVariants as line
use Rattle.asm_bodies.specs.Bodies.{body_of}
use Rattle.asm_bodies.specs.Lines.{count_of, is_class, is_implements, is_field, is_abstract, is_method, is_member}
use Rattle.asm_bodies.specs.Needs.{line_contents}
use Rattle.asm_bytes.specs.Files.{heading_bytes, interface_bytes, field_bytes, method_bytes, methods_bytes}
use Rattle.asm_laws.specs.Laws.{is_taken, begins_interface}
use Rattle.asm_laws.specs.Tables.{table_of}
use Rattle.asm_laws.proofs.Numbers.{number_spelled}
use Rattle.asm_laws.proofs.Members.{both, class_spelled, field_spelled}
use Rattle.asm_laws.proofs.Methods.{abstract_spelled, code_method_spelled}
use Rattle.asm_laws.proofs.Codes.{IsFound}
use Rattle.asm_laws.proofs.Ended.{sound_body}
use Rattle.asm_laws.proofs.Orders.{HasClass}
use Rattle.asm_laws.proofs.Ranges.{IsRangedLine}
use Rattle.asm_laws.proofs.Repeated.{lines_spelled}
use Rattle.asm_laws.proofs.Soundness.{AreSound}
use Rattle.std.proofs.Math.Bool.{or-false}

-- a line that a class file may have, whose constants are in the pool
pub record IsSaid (pool : List Content) (interface : Bool) (l : Line) : Type 0 where
  pub found : IsFound pool l
  pub taken : is_taken interface l ≡ true
  pub ranged : IsRangedLine l

abbrev pub AreSaid : List Content → Bool → List Line → Type 0
AreSaid pool interface lines = AllByRecursion (IsSaid pool interface) lines

-- ---- the class

no_heading : (pool : List Content) (lines : List Line) → AllByRecursion (λ l. is_class l ≡ false) lines → flat_map (heading_bytes pool) lines ≡ []
unfolding is_class heading_bytes
no_heading pool [] h = refl
no_heading pool (line.Class flags name super ∷ lines) h = let k = h.0 in absurd (cc)
no_heading pool (_ ∷ lines) h = no_heading pool lines h.1

no_interface : (lines : List Line) → AllByRecursion (λ l. is_class l ≡ false) lines → list_any begins_interface lines ≡ false
unfolding is_class begins_interface
no_interface [] h = refl
no_interface (line.Class flags name super ∷ lines) h = let k = h.0 in absurd (cc)
no_interface (_ ∷ lines) h = no_interface lines h.1

abbrev class_of : {lines : List Line} → HasClass lines → Line
class_of c = line.Class c.flags c.name c.super

one_heading : (pool : List Content) (lines : List Line) (c : HasClass lines) → flat_map (heading_bytes pool) lines ≡ heading_bytes pool (class_of c)
one_heading pool lines c =
    ap (flat_map (heading_bytes pool)) c.joined
    ∙ (flat_map-append (heading_bytes pool) c.before (class_of c ∷ c.after)
    ∙ (ap (λ (front : List ℕ). front ++ (heading_bytes pool (class_of c) ++ flat_map (heading_bytes pool) c.after)) (no_heading pool c.before c.none_before)
    ∙ (ap (λ (behind : List ℕ). heading_bytes pool (class_of c) ++ behind) (no_heading pool c.after c.none_after)
    ∙ append-nil (heading_bytes pool (class_of c)))))

pub is_interface : (lines : List Line) (c : HasClass lines) → list_any begins_interface lines ≡ is_interface_flag c.flags
unfolding begins_interface
is_interface lines c =
    ap (list_any begins_interface) c.joined
    ∙ (list_any-append begins_interface c.before (class_of c ∷ c.after)
    ∙ (ap (λ (b : Bool). b || (is_interface_flag c.flags || list_any begins_interface c.after)) (no_interface c.before c.none_before)
    ∙ (ap (λ (b : Bool). is_interface_flag c.flags || b) (no_interface c.after c.none_after)
    ∙ or-false (is_interface_flag c.flags))))

at_split : {X : Type 0} (P : X → Type 0) (before after : List X) (x : X) → AllByRecursion P (before ++ x ∷ after) → P x
at_split P [] after x h = h.0
at_split P (b ∷ before) after x h = at_split P before after x h.1

no_implements : (pool : List Content) (l : Line) → is_implements l ≡ false → interface_bytes pool l ≡ []
unfolding is_implements interface_bytes
no_implements pool (line.Implements name) h = absurd (cc)
no_implements pool _ h = refl

no_field : (pool : List Content) (l : Line) → is_field l ≡ false → field_bytes pool l ≡ []
unfolding is_field field_bytes
no_field pool (line.Field m) h = absurd (cc)
no_field pool _ h = refl

module _ (size : ℕ) (pool : List Content) (small : fits pool ≡ true) where
  interface_spelled : (l : Line) → IsFound pool l → is_implements l ≡ true → (rest : List ℕ)
      → (x : List ℕ) × (interface_part size (table_of pool)).spells (interface_bytes pool l ++ rest) x rest
  unfolding is_implements interface_bytes interface_part line_contents
  interface_spelled (line.Implements name) found is rest =
      let i : ℕ = index_of pool (content.Class name) in
      (i ∷ [], (i, rest, class_spelled size pool small name rest (both (has_content pool (content.Class name)) _ found).0, (refl, refl)))
  interface_spelled _ found is rest = absurd (cc)

  pub heading_spelled : (lines : List Line) (c : HasClass lines) (rest : List ℕ) → AllByRecursion (IsFound pool) lines → AllByRecursion IsRangedLine lines → count_of is_implements lines ≤ 65535
      → (x : Heading) × (x.flags ≡ c.flags) × (heading_part size (table_of pool)).spells
      (flat_map (heading_bytes pool) lines ++ (two_bytes (count_of is_implements lines) ++ (flat_map (interface_bytes pool) lines ++ rest))) x rest
  unfolding heading_part heading_bytes line_contents
  heading_spelled lines c rest found in_range few =
      let class = at_split (IsFound pool) c.before c.after (class_of c) (subst (AllByRecursion (IsFound pool)) c.joined found) in
      let ranged = at_split IsRangedLine c.before c.after (class_of c) (subst (AllByRecursion IsRangedLine) c.joined in_range) in
      let n = both (has_content pool (content.Class c.name)) _ class in
      let s = both (has_content pool (content.Class c.super)) _ n.1 in
      let r = lines_spelled (interface_part size (table_of pool)) is_implements (interface_bytes pool) (IsFound pool) interface_spelled (no_implements pool) lines rest found in
      let listed : List ℕ = flat_map (interface_bytes pool) lines ++ rest in
      let counted : List ℕ = two_bytes (count_of is_implements lines) ++ listed in
      let super : List ℕ = two_bytes (index_of pool (content.Class c.super)) ++ counted in
      let named : List ℕ = two_bytes (index_of pool (content.Class c.name)) ++ super in
      let x : Heading = record { flags = c.flags; this_class = index_of pool (content.Class c.name); super_class = index_of pool (content.Class c.super); interfaces = r.0 } in (
        x,
        refl,
        subst (λ (front : List ℕ). (heading_part size (table_of pool)).spells (front ++ counted) x rest) (sym (one_heading pool lines c)) (
          c.flags,
          named,
          number_spelled (cut_off size) w16 c.flags named ranged.0,
          (
            index_of pool (content.Class c.name),
            super,
            class_spelled size pool small c.name super n.0,
            (
              index_of pool (content.Class c.super),
              counted,
              class_spelled size pool small c.super counted s.0,
              (
                count_of is_implements lines,
                listed,
                number_spelled (cut_off size) w16 (count_of is_implements lines) listed (omega arith),
                (r.0, rest, r.1, (refl, refl)),
              ),
            ),
          ),
        ),
      )

module _ (size : ℕ) (pool : List Content) (small : fits pool ≡ true) (interface : Bool) where
  a_field_spelled : (l : Line) → IsSaid pool interface l → is_field l ≡ true → (rest : List ℕ)
      → (x : List Member) × (field_part size (table_of pool)).spells (field_bytes pool l ++ rest) x rest
  unfolding is_field field_bytes line_contents is_taken
  a_field_spelled (line.Field m) said is rest = field_spelled size pool small m rest said.found said.taken
  a_field_spelled _ said is rest = absurd (cc)

  pub fields_spelled : (lines : List Line) (rest : List ℕ) → AreSaid pool interface lines → count_of is_field lines ≤ 65535
      → (xs : List Member) × (fields_part size (table_of pool)).spells (two_bytes (count_of is_field lines) ++ (flat_map (field_bytes pool) lines ++ rest)) xs rest
  unfolding fields_part
  fields_spelled lines rest said few =
      let r = lines_spelled (field_part size (table_of pool)) is_field (field_bytes pool) (IsSaid pool interface) a_field_spelled (no_field pool) lines rest said in
      let listed : List ℕ = flat_map (field_bytes pool) lines ++ rest in
      (r.0, (count_of is_field lines, listed, number_spelled (cut_off size) w16 (count_of is_field lines) listed (omega arith), r.1))

  all_found : (lines : List Line) → AreSaid pool interface lines → AllByRecursion (IsFound pool) lines
  all_found [] h = tt
  all_found (l ∷ lines) h = (h.0.found, all_found lines h.1)

  abbrev method : Part (List Member) ClassFault
  method = method_part size (table_of pool) interface

  listed_methods : (past lines : List Line) (rest : List ℕ) → AreSaid pool interface lines → AreSound past lines
      → (xs : List Member) × (repeated (count_of is_member lines) method).spells (methods_bytes pool lines ++ rest) xs rest
  unfolding repeated count_of is_member is_abstract is_method methods_bytes method_bytes line_contents is_taken
  listed_methods past [] rest said sound = ([], (refl, refl))
  listed_methods past (line.Abstract m ∷ lines) rest said sound =
      let r = listed_methods (line.Abstract m ∷ past) lines rest said.1 sound.1 in
      let behind : List ℕ = methods_bytes pool lines ++ rest in
      let x = abstract_spelled size pool small interface m behind said.0.ranged.flags said.0.found said.0.taken in (
        x.0 ++ r.0,
        subst (λ (text : List ℕ). (repeated (suc (length (filter is_member lines))) method).spells text (x.0 ++ r.0) rest)
            (sym (append_assoc (method_bytes pool (line.Abstract m) lines) (methods_bytes pool lines) rest)) (x.0, r.0, behind, x.1, r.1, refl),
      )
  listed_methods past (line.Method m max_stack max_locals ∷ lines) rest said sound =
      let l : Line = line.Method m max_stack max_locals in
      let r = listed_methods (l ∷ past) lines rest said.1 sound.1 in
      let behind : List ℕ = methods_bytes pool lines ++ rest in
      let body = sound_body pool past m max_stack max_locals lines sound.1 (all_found lines said.1) in
      let x = code_method_spelled size pool small interface m max_stack max_locals (body_of lines) behind said.0.ranged.flags said.0.found said.0.taken body in (
        x.0 ++ r.0,
        subst (λ (text : List ℕ). (repeated (suc (length (filter is_member lines))) method).spells text (x.0 ++ r.0) rest)
            (sym (append_assoc (method_bytes pool l lines) (methods_bytes pool lines) rest)) (x.0, r.0, behind, x.1, r.1, refl),
      )
  listed_methods past (l ∷ lines) rest said sound = listed_methods (l ∷ past) lines rest said.1 sound.1

  pub methods_spelled : (lines : List Line) (rest : List ℕ) → AreSaid pool interface lines → AreSound [] lines → count_of is_member lines ≤ 65535
      → (xs : List Member) × (methods_part size (table_of pool) interface).spells (two_bytes (count_of is_member lines) ++ (methods_bytes pool lines ++ rest)) xs rest
  unfolding methods_part
  methods_spelled lines rest said sound few =
      let r = listed_methods [] lines rest said sound in
      let listed : List ℕ = methods_bytes pool lines ++ rest in
      (r.0, (count_of is_member lines, listed, number_spelled (cut_off size) w16 (count_of is_member lines) listed (omega arith), r.1))
