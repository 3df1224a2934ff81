-- Names, classes and fields are spelled by their bytes.
use Rattle.std.proofs.Common.{◌≡◌, refl, ℕ, ◌-◌, List, [], ◌∷◌, ◌++◌, Bool, true, false, Some, None, Option, length, arith}
use Rattle.std.specs.Prelude.{not, ◌&&◌}
use Rattle.std.specs.Int.{w16, from_be_bytes}
use Rattle.std.specs.List.{list_all}
use Rattle.class_grammar.specs.Parts.{repeated, number}
use Rattle.class_grammar.specs.Constants.{cut_off}
use Rattle.class_grammar.specs.Descriptors.{FieldType, field_type_of, is_floating}
use Rattle.class_grammar.specs.Members.{name_part, class_index, skipped_attributes, field_part}
use Rattle.jx_base.specs.declared.class_file.Constant.{Constant}
use Rattle.jx_base.specs.declared.class_file.Member.{Member}
use Rattle.jx_base.specs.declared.fault.ClassFault.{ClassFault}
use Rattle.class_texts.proofs.DescriptorLaws.{field_law}
use Rattle.asm_constants.specs.declared.content.Content.{Content}
use Rattle.asm_constants.specs.declared.content.Content.TheVariants as content
use Rattle.asm_constants.specs.Pools.{two_bytes, index_of, has_content, fits}
use Rattle.asm_lines.specs.declared.line.Member.{Member as AsmMember}
use Rattle.asm_bodies.specs.Needs.{member_contents}
use Rattle.asm_bytes.specs.Files.{member_bytes}
use Rattle.asm_laws.specs.Tables.{table_of}
use Rattle.asm_laws.specs.Laws.{is_taken_type}
use Rattle.asm_laws.proofs.Numbers.{number_spelled}
use Rattle.asm_laws.proofs.Constants.{index_small, text_found, class_found}

module _ (size : ℕ) (pool : List Content) (small : fits pool ≡ true) where
  -- a text of the pool
  pub name_spelled : (cut : ClassFault) (units rest : List ℕ) → has_content pool (content.Utf8 units) ≡ true
      → (name_part size cut (table_of pool)).spells (two_bytes (index_of pool (content.Utf8 units)) ++ rest) units rest
  unfolding name_part
  name_spelled cut units rest h =
      let text : List ℕ = two_bytes (index_of pool (content.Utf8 units)) ++ rest in (
        size - length text,
        text,
        (refl, refl),
        (
          index_of pool (content.Utf8 units),
          rest,
          number_spelled cut w16 (index_of pool (content.Utf8 units)) rest (index_small pool (content.Utf8 units) small),
          (text_found pool units h, refl),
        ),
      )

  -- a class of the pool
  pub class_spelled : (name rest : List ℕ) → has_content pool (content.Class name) ≡ true
      → (class_index size (table_of pool)).spells (two_bytes (index_of pool (content.Class name)) ++ rest) (index_of pool (content.Class name)) rest
  unfolding class_index
  class_spelled name rest h =
      let text : List ℕ = two_bytes (index_of pool (content.Class name)) ++ rest in (
        size - length text,
        text,
        (refl, refl),
        (
          index_of pool (content.Class name),
          rest,
          number_spelled (cut_off size) w16 (index_of pool (content.Class name)) rest (index_small pool (content.Class name) small),
          (tt, rest, (class_found pool name h, refl), (refl, refl)),
        ),
      )

-- two bytes of any number spell a number
pub number_any : {F : Type 0} (f : F) (n : ℕ) (rest : List ℕ) → (number f w16).spells (two_bytes n ++ rest) (from_be_bytes w16 (two_bytes n)) rest
unfolding number
number_any f n rest = (two_bytes n, refl, refl, refl)

-- no attributes
pub none_skipped : (size : ℕ) (cut : ClassFault) (constants : List Constant) (rest : List ℕ) → (skipped_attributes size cut constants).spells (two_bytes 0 ++ rest) [] rest
unfolding skipped_attributes repeated
none_skipped size cut constants rest = (0, rest, number_spelled cut w16 0 rest (omega arith), (refl, refl))

-- ---- fields

taken_type : (o : Option FieldType) → is_taken_type o ≡ true → (t : FieldType) × (o ≡ Some t) × (not (is_floating t) ≡ true)
unfolding is_taken_type
taken_type None h = absurd (cc)
taken_type (Some t) h = (t, refl, h)

pub both : (a b : Bool) → (a && b) ≡ true → (a ≡ true) × (b ≡ true)
both true b e = (refl, e)
both false b e = absurd (cc)

module _ (size : ℕ) (pool : List Content) (small : fits pool ≡ true) where
  -- a field that a class file may have
  pub field_spelled : (m : AsmMember) (rest : List ℕ) → list_all (has_content pool) (member_contents m) ≡ true → is_taken_type (field_type_of m.descriptor) ≡ true
      → (x : List Member) × (field_part size (table_of pool)).spells ((member_bytes pool m ++ two_bytes 0) ++ rest) x rest
  unfolding field_part member_contents member_bytes
  field_spelled m rest h taken =
      let k = taken_type (field_type_of m.descriptor) taken in
      let n = both (has_content pool (content.Utf8 m.name)) _ h in
      let d = both (has_content pool (content.Utf8 m.descriptor)) _ n.1 in
      let flags : ℕ = from_be_bytes w16 (two_bytes m.flags) in
      let none : List ℕ = two_bytes 0 ++ rest in
      let described : List ℕ = two_bytes (index_of pool (content.Utf8 m.descriptor)) ++ none in
      let named : List ℕ = two_bytes (index_of pool (content.Utf8 m.name)) ++ described in
      let text : List ℕ = two_bytes m.flags ++ named in (
        (record { flags = flags; name = m.name; descriptor = m.descriptor; code = None } ∷ []),
        (
          size - length text,
          text,
          (refl, refl),
          (
            flags,
            named,
            number_any (cut_off size) m.flags named,
            (
              m.name,
              described,
              name_spelled size pool small (cut_off size) m.name described n.0,
              (
                size - length described,
                described,
                (refl, refl),
                (
                  m.descriptor,
                  none,
                  name_spelled size pool small (cut_off size) m.descriptor none d.0,
                  (
                    k.0,
                    none,
                    ((field_law m.descriptor).told k.0 k.1, refl),
                    (
                      tt,
                      none,
                      (k.2, refl),
                      (
                        [],
                        rest,
                        none_skipped size (cut_off size) (table_of pool) rest,
                        (refl, refl),
                      ),
                    ),
                  ),
                ),
              ),
            ),
          ),
        ),
      )
