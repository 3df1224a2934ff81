-- Methods are spelled by their bytes.
use Rattle.std.proofs.Common.{◌≡◌, refl, sym, subst, ℕ, ◌+◌, ◌*◌, ◌^◌, ◌<◌, ◌≤◌, ◌-◌, List, [], ◌∷◌, ◌++◌, Bool, true, false, Some, None, Option, length, length-append, arith}
use Rattle.std.specs.Prelude.{not, ◌&&◌, ◌||◌, is_some}
use Rattle.std.specs.Int.{w16, w32}
use Rattle.std.specs.List.{list_all, AllByRecursion}
use Rattle.class_grammar.specs.Flags.{is_abstract}
use Rattle.class_grammar.specs.Parts.{Part, ◌>>=◌, number}
use Rattle.class_grammar.specs.Constants.{class_fault, cut_off}
use Rattle.class_grammar.specs.Descriptors.{MethodType, method_type_of}
use Rattle.class_grammar.specs.Members.{code_body, is_code_name, is_supported_method, method_attributes, method_part}
use Rattle.jx_base.specs.declared.class_file.Code.{Code}
use Rattle.jx_base.specs.declared.class_file.Member.{Member}
use Rattle.jx_base.specs.declared.fault.ClassFault.{ClassFault}
use Rattle.jx_base.specs.declared.fault.ClassKind.TheVariants as kind
use Rattle.class_texts.proofs.DescriptorLaws.{method_law}
use Rattle.asm_constants.specs.declared.content.Content.{Content}
use Rattle.asm_constants.specs.declared.content.Content.TheVariants as content
use Rattle.asm_constants.specs.Pools.{two_bytes, index_of, has_content, fits}
use Rattle.asm_lines.specs.declared.line.Line.{Line}
use Rattle.asm_lines.specs.declared.line.Member.{Member as AsmMember}
use Rattle.asm_bodies.specs.Bodies.{marks_of}
use Rattle.asm_bodies.specs.Lines.{count_of, is_catch}
use Rattle.asm_bodies.specs.Needs.{member_contents, method_contents, code_name}
use Rattle.asm_bytes.specs.Files.{member_bytes, code_bytes, code_attribute, code_from, four_bytes}
use Rattle.asm_laws.specs.Tables.{table_of}
use Rattle.asm_laws.specs.Laws.{is_taken_method}
use Rattle.asm_laws.proofs.Numbers.{number_spelled}
use Rattle.asm_laws.proofs.Members.{both, name_spelled}
use Rattle.asm_laws.proofs.Codes.{IsFound, code_spelled, attribute_length}

taken_method : (interface : Bool) (m : AsmMember) (o : Option MethodType) → is_taken_method interface m o ≡ true
    → (t : MethodType) × (o ≡ Some t) × (is_supported_method interface m.flags m.name t ≡ true)
unfolding is_taken_method
taken_method interface m None h = absurd (cc)
taken_method interface m (Some t) h = (t, refl, h)

-- what a body has to be
pub record IsSoundBody (pool : List Content) (body : List Line) : Type 0 where
  pub found : AllByRecursion (IsFound pool) body
  pub few : count_of is_catch body ≤ 65535
  pub some : 1 ≤ length (code_from pool (marks_of body) 0 body)
  pub short : length (code_from pool (marks_of body) 0 body) ≤ 65535

module _ (size : ℕ) (pool : List Content) (small : fits pool ≡ true) where
  -- one attribute, which is Code
  attributes_spelled : (max_stack max_locals : ℕ) (body : List Line) (rest : List ℕ) → has_content pool (content.Utf8 code_name) ≡ true → IsSoundBody pool body
      → (x : Code) × (number (cut_off size) w16 >>= λ n. method_attributes size (table_of pool) true n None).spells
      (code_bytes pool (code_attribute pool max_stack max_locals body) ++ rest) (Some x) rest
  unfolding method_attributes code_bytes code_body is_code_name
  attributes_spelled max_stack max_locals body rest named sound =
      let attribute : List ℕ = code_attribute pool max_stack max_locals body in
      let text : List ℕ = attribute ++ rest in
      let n : ℕ = length attribute in
      let sized : List ℕ = four_bytes n ++ text in
      let front : List ℕ = two_bytes (index_of pool (content.Utf8 code_name)) ++ sized in
      let place : ℕ = size - length text in
      let c = code_spelled pool small (place + n) (class_fault (size - length front) kind.Code) max_stack max_locals body sound.found (omega (arith, sound.few)) sound.some sound.short in
      let k : n ≡ 12 + length (code_from pool (marks_of body) 0 body) + 8 * count_of is_catch body = attribute_length pool max_stack max_locals body in
      let below : n < 2 ^ 32 = omega (arith, k, sound.few, sound.short) in
      let enough : n ≤ length text = omega (arith, length-append attribute rest) in (
        c.0,
        (
          1,
          front,
          number_spelled (cut_off size) w16 1 front (omega arith),
          (
            size - length front,
            front,
            (refl, refl),
            (
              code_name,
              sized,
              name_spelled size pool small (cut_off size) code_name sized named,
              (
                n,
                text,
                number_spelled (cut_off size) w32 n text below,
                (
                  tt,
                  text,
                  (enough, refl),
                  (
                    tt,
                    text,
                    (refl, refl),
                    (
                      c.0,
                      rest,
                      (place, text, (refl, refl), (attribute, refl, refl, c.1)),
                      (refl, refl),
                    ),
                  ),
                ),
              ),
            ),
          ),
        ),
      )

not_true : (b : Bool) → not b ≡ true → b ≡ false
not_true true h = absurd (cc)
not_true false h = refl

module _ (size : ℕ) (pool : List Content) (small : fits pool ≡ true) (interface : Bool) where
  abbrev method : Part (List Member) ClassFault
  method = method_part size (table_of pool) interface

  -- what a class file has of a method
  abbrev has_method : AsmMember → Option Code → List Member
  has_method m code = record { flags = m.flags; name = m.name; descriptor = m.descriptor; code = code } ∷ []

  -- a method whose attributes are spelled
  with_attributes : (m : AsmMember) (attributes : List ℕ) (code : Option Code) (rest : List ℕ) → m.flags < 2 ^ 16
      → has_content pool (content.Utf8 m.name) ≡ true → has_content pool (content.Utf8 m.descriptor) ≡ true
      → is_taken_method interface m (method_type_of m.descriptor) ≡ true
      → (number (cut_off size) w16 >>= λ n. method_attributes size (table_of pool) (not (is_abstract m.flags)) n None).spells (attributes ++ rest) code rest
      → (is_abstract m.flags || is_some code) ≡ true
      → method.spells ((member_bytes pool m ++ attributes) ++ rest) (has_method m code) rest
  unfolding method_part member_bytes
  with_attributes m attributes code rest below n d taken h whole =
      let k = taken_method interface m (method_type_of m.descriptor) taken in
      let behind : List ℕ = attributes ++ rest in
      let described : List ℕ = two_bytes (index_of pool (content.Utf8 m.descriptor)) ++ behind in
      let named : List ℕ = two_bytes (index_of pool (content.Utf8 m.name)) ++ described in
      let text : List ℕ = two_bytes m.flags ++ named in (
        size - length text,
        text,
        (refl, refl),
        (
          m.flags,
          named,
          number_spelled (cut_off size) w16 m.flags named below,
          (
            m.name,
            described,
            name_spelled size pool small (cut_off size) m.name described n,
            (
              size - length described,
              described,
              (refl, refl),
              (
                m.descriptor,
                behind,
                name_spelled size pool small (cut_off size) m.descriptor behind d,
                (
                  k.0,
                  behind,
                  ((method_law m.descriptor).told k.0 k.1, refl),
                  (
                    tt,
                    behind,
                    (k.2, refl),
                    (
                      h.0,
                      h.1,
                      h.2,
                      (
                        code,
                        rest,
                        h.3,
                        (tt, rest, (whole, refl), (refl, refl)),
                      ),
                    ),
                  ),
                ),
              ),
            ),
          ),
        ),
      )

  pub abstract_spelled : (m : AsmMember) (rest : List ℕ) → m.flags < 2 ^ 16 → list_all (has_content pool) (member_contents m) ≡ true
      → (is_abstract m.flags && is_taken_method interface m (method_type_of m.descriptor)) ≡ true
      → (x : List Member) × method.spells ((member_bytes pool m ++ two_bytes 0) ++ rest) x rest
  unfolding member_contents method_attributes
  abstract_spelled m rest below found taken =
      let n = both (has_content pool (content.Utf8 m.name)) _ found in
      let d = both (has_content pool (content.Utf8 m.descriptor)) _ n.1 in
      let t = both (is_abstract m.flags) _ taken in
      let whole : (is_abstract m.flags || is_some {T = Code} None) ≡ true = rw t.0 refl in (
        has_method m None,
        with_attributes m (two_bytes 0) None rest below n.0 d.0 t.1
            (0, rest, number_spelled (cut_off size) w16 0 rest (omega arith), (refl, refl)) whole,
      )

  pub code_method_spelled : (m : AsmMember) (max_stack max_locals : ℕ) (body : List Line) (rest : List ℕ) → m.flags < 2 ^ 16
      → list_all (has_content pool) (method_contents m) ≡ true
      → (not (is_abstract m.flags) && is_taken_method interface m (method_type_of m.descriptor)) ≡ true → IsSoundBody pool body
      → (x : List Member) × method.spells ((member_bytes pool m ++ code_bytes pool (code_attribute pool max_stack max_locals body)) ++ rest) x rest
  unfolding method_contents
  code_method_spelled m max_stack max_locals body rest below found taken sound =
      let n = both (has_content pool (content.Utf8 m.name)) _ found in
      let d = both (has_content pool (content.Utf8 m.descriptor)) _ n.1 in
      let c = both (has_content pool (content.Utf8 code_name)) _ d.1 in
      let t = both (not (is_abstract m.flags)) _ taken in
      let a = attributes_spelled size pool small max_stack max_locals body rest c.0 sound in
      let attributes : List ℕ = code_bytes pool (code_attribute pool max_stack max_locals body) in
      let whole : (is_abstract m.flags || true) ≡ true = rw (not_true (is_abstract m.flags) t.0) refl in (
        has_method m (Some a.0),
        with_attributes m attributes (Some a.0) rest below n.0 d.0 t.1
            (subst (λ (b : Bool). (number (cut_off size) w16 >>= λ n. method_attributes size (table_of pool) b n None).spells (attributes ++ rest) (Some a.0) rest) (sym t.0) a.1) whole,
      )
